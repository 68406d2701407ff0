-- Document 01, Limits in force: the stored pair if the side's four limit attributes are served, else ABS_MIN and ABS_MAX.
use Rattle.std.specs.Prelude.{◌≡◌, Bool, cond}
use Rattle.units.specs.Units.{clamped, amount_removed, clamped_to, within}
use Rattle.units.specs.declared.Hundredths.{Hundredths}
use Rattle.units.specs.declared.Wide.{Wide}
use Rattle.units.specs.declared.Clamped.{Clamped}
use Rattle.model.specs.Served.{has_heat_limits, has_cool_limits}
use Rattle.records.specs.declared.Config.{Config}
use Rattle.records.specs.declared.Settings.{Settings}

unfoldable pub min_heat_setpoint : Config → Settings → Hundredths
min_heat_setpoint cfg s = cond (has_heat_limits cfg) s.minheat cfg.absminheat

unfoldable pub max_heat_setpoint : Config → Settings → Hundredths
max_heat_setpoint cfg s = cond (has_heat_limits cfg) s.maxheat cfg.absmaxheat

unfoldable pub min_cool_setpoint : Config → Settings → Hundredths
min_cool_setpoint cfg s = cond (has_cool_limits cfg) s.mincool cfg.absmincool

unfoldable pub max_cool_setpoint : Config → Settings → Hundredths
max_cool_setpoint cfg s = cond (has_cool_limits cfg) s.maxcool cfg.absmaxcool

-- within the limits in force
unfoldable pub in_heat_limits : Config → Settings → Hundredths → Bool
in_heat_limits cfg s v = within v (min_heat_setpoint cfg s) (max_heat_setpoint cfg s)

unfoldable pub in_cool_limits : Config → Settings → Hundredths → Bool
in_cool_limits cfg s v = within v (min_cool_setpoint cfg s) (max_cool_setpoint cfg s)

-- clamping takes a wider number and gives the nearest one within them
unfoldable pub clamp_heat_setpoint : Config → Settings → Wide → Hundredths
clamp_heat_setpoint cfg s v = clamped v (min_heat_setpoint cfg s) (max_heat_setpoint cfg s)

unfoldable pub clamp_cool_setpoint : Config → Settings → Wide → Hundredths
clamp_cool_setpoint cfg s v = clamped v (min_cool_setpoint cfg s) (max_cool_setpoint cfg s)

-- C-12: and the amount that it removes
unfoldable pub heat_removed : Config → Settings → Wide → Wide
heat_removed cfg s v = amount_removed v (min_heat_setpoint cfg s) (max_heat_setpoint cfg s)

unfoldable pub cool_removed : Config → Settings → Wide → Wide
cool_removed cfg s v = amount_removed v (min_cool_setpoint cfg s) (max_cool_setpoint cfg s)

abbrev pub clamping_heat : Config → Settings → Wide → Clamped
clamping_heat cfg s v = clamped_to (clamp_heat_setpoint cfg s v) (heat_removed cfg s v)

abbrev pub clamping_cool : Config → Settings → Wide → Clamped
clamping_cool cfg s v = clamped_to (clamp_cool_setpoint cfg s v) (cool_removed cfg s v)

-- equal limits in force
pub record EqualLimits (cfg : Config) (s t : Settings) : Type 0 where
  pub min_heat : min_heat_setpoint cfg s ≡ min_heat_setpoint cfg t
  pub max_heat : max_heat_setpoint cfg s ≡ max_heat_setpoint cfg t
  pub min_cool : min_cool_setpoint cfg s ≡ min_cool_setpoint cfg t
  pub max_cool : max_cool_setpoint cfg s ≡ max_cool_setpoint cfg t
