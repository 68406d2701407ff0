-- Document 01, row 28 UnsoundRecord: what every record has that an opening or a call leaves.
use Rattle.std.specs.Prelude.{Bool, true, not, ◌&&◌, ◌||◌, ℕ, leb, Option, None, Some}
use Rattle.units.specs.Units.{minus, above, within}
use Rattle.model.specs.Refusals.{Row, row}
use Rattle.model.specs.Served.{heats, cools, auto, has_heat_limits, has_cool_limits}
use Rattle.model.specs.Units.{dead_band}
use Rattle.model.specs.Limits.{in_heat_limits, in_cool_limits}
use Rattle.model.specs.Modes.{is_supported_system_mode}
use Rattle.model.specs.Validation.{accepted}
use Rattle.records.specs.declared.Config.{Config}
use Rattle.records.specs.declared.Settings.{Settings}
use Rattle.records.specs.declared.Controller.{Controller}

-- the last clock to which 60,000 ms can still be added in 64 bits
abbrev pub last_clock : ℕ
last_clock = 18446744073709491615

-- served limits: ABS_MIN ≤ min ≤ max ≤ ABS_MAX
unfoldable pub sound_heat_limits : Config → Settings → Bool
sound_heat_limits cfg s = not (has_heat_limits cfg) || (within s.minheat cfg.absminheat s.maxheat && within s.maxheat s.minheat cfg.absmaxheat)

unfoldable pub sound_cool_limits : Config → Settings → Bool
sound_cool_limits cfg s = not (has_cool_limits cfg) || (within s.mincool cfg.absmincool s.maxcool && within s.maxcool s.mincool cfg.absmaxcool)

-- AUTO keeps heating limits at most cooling limits − dead band
unfoldable pub sound_gap : Config → Settings → Bool
sound_gap cfg s =
    not (auto cfg && has_heat_limits cfg) ||
    (not (above s.minheat (minus s.mincool (dead_band cfg))) && not (above s.maxheat (minus s.maxcool (dead_band cfg))))

-- served setpoints within the limits in force
unfoldable pub sound_heating : Config → Settings → Bool
sound_heating cfg s = not (heats cfg) || in_heat_limits cfg s s.heating

unfoldable pub sound_cooling : Config → Settings → Bool
sound_cooling cfg s = not (cools cfg) || in_cool_limits cfg s s.cooling

unfoldable pub sound_settings : Config → Settings → Bool
sound_settings cfg s =
    (sound_heat_limits cfg s && (sound_cool_limits cfg s && sound_gap cfg s)) &&
    ((sound_heating cfg s && sound_cooling cfg s) && is_supported_system_mode cfg s.mode)

-- a last event not later than row 27 allows
abbrev pub sound_last : Option ℕ → Bool
sound_last None = true
sound_last (Some t) = leb t last_clock

unfoldable pub sound : Config → Controller → Bool
sound cfg r = accepted cfg && (sound_settings cfg r.attrs.settings && sound_last r.events.last)

abbrev pub unsound : Config → Controller → Row
unsound cfg r = row 28 (not (sound cfg r))
