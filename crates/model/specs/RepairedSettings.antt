-- Document 02, C-24: the settings after repair on an accepted configuration, one formula each. What is not served stays as given.
use Rattle.std.specs.Prelude.{◌≡◌, Bool, true, false, cond, ℕ, pos, ◌+ℤ◌, ◌-ℤ◌}
use Rattle.integers.specs.Clamp.{max_z, min_z}
use Rattle.units.specs.Units.{hundredths, widened, clamped}
use Rattle.units.specs.declared.Hundredths.{Hundredths}
use Rattle.records.specs.Records.{zero_hundredths}
use Rattle.model.specs.Served.{heats, cools, auto, has_heat_limits, has_cool_limits}
use Rattle.model.specs.Units.{dead_band}
use Rattle.model.specs.Limits.{clamp_heat_setpoint, clamp_cool_setpoint}
use Rattle.model.specs.Modes.{is_supported_system_mode}
use Rattle.model.specs.Validation.{validated, accepted}
use Rattle.model.specs.Repair.{push_heating, repair_mode, repair_limits, repair_setpoints, repaired}
use Rattle.records.specs.declared.Config.{Config}
use Rattle.records.specs.declared.Settings.{Settings}
use Rattle.records.specs.declared.Attrs.{Attrs}

-- with AUTO the lesser of a heating limit and cooling's − dead band
abbrev pub lesser_with_auto : Config → Hundredths → Hundredths → Hundredths
lesser_with_auto cfg heat cool = cond (auto cfg) (hundredths (min_z heat.0 (cool.0 -ℤ (dead_band cfg).0))) heat

-- with AUTO the greater of cooling and heating + dead band
abbrev pub greater_with_auto : Config → Hundredths → Hundredths → Hundredths
greater_with_auto cfg cool heat = cond (auto cfg) (hundredths (max_z cool.0 (heat.0 +ℤ (dead_band cfg).0))) cool

-- an unsupported mode becomes Off
abbrev pub supported_mode : Config → ℕ → ℕ
supported_mode cfg m = cond (is_supported_system_mode cfg m) m 0

-- the four limits, the rest as given
unfoldable pub repaired_limits : Config → Settings → Settings
repaired_limits cfg s =
    let minc = clamped (widened s.mincool) cfg.absmincool cfg.absmaxcool in
    let maxc = clamped (widened s.maxcool) minc cfg.absmaxcool in
    let minh = clamped (widened s.minheat) cfg.absminheat cfg.absmaxheat in
    let maxh = clamped (widened s.maxheat) minh cfg.absmaxheat in
    record {
      heating = s.heating;
      cooling = s.cooling;
      minheat = cond (has_heat_limits cfg) (lesser_with_auto cfg minh minc) s.minheat;
      maxheat = cond (has_heat_limits cfg) (lesser_with_auto cfg maxh maxc) s.maxheat;
      mincool = cond (has_cool_limits cfg) minc s.mincool;
      maxcool = cond (has_cool_limits cfg) maxc s.maxcool;
      mode = s.mode;
    }

-- all seven: the setpoints within the limits in force after repair
unfoldable pub repaired_settings : Config → Settings → Settings
repaired_settings cfg s =
    let l = repaired_limits cfg s in
    let heat = clamp_heat_setpoint cfg l (widened s.heating) in
    let cool = clamp_cool_setpoint cfg l (widened s.cooling) in
    record {
      heating = cond (heats cfg) heat s.heating;
      cooling = cond (cools cfg) (greater_with_auto cfg cool heat) s.cooling;
      minheat = l.minheat;
      maxheat = l.maxheat;
      mincool = l.mincool;
      maxcool = l.maxcool;
      mode = supported_mode cfg s.mode;
    }

-- document 01's final heating adjustment leaves settings and dirty mark as they are
abbrev pub AdjustmentChangesNothing : Type 0
AdjustmentChangesNothing =
    (cfg : Config) (a : Attrs) → accepted cfg ≡ true
    → push_heating cfg (repair_setpoints cfg (repair_limits cfg a)) ≡ repair_setpoints cfg (repair_limits cfg a)

-- so document 01's repair, with that adjustment, is the repair that is made
abbrev pub RepairUnchanged : Type 0
RepairUnchanged = (cfg : Config) (a : Attrs) → accepted cfg ≡ true → repair_mode cfg (push_heating cfg (repair_setpoints cfg (repair_limits cfg a))) ≡ repaired cfg a

-- the steps of repair give the formulas
abbrev pub SettingsByFormula : Type 0
SettingsByFormula = (cfg : Config) (a : Attrs) → accepted cfg ≡ true → (repaired cfg a).settings ≡ repaired_settings cfg a.settings

-- a second repair changes no setting, and whatever the dirty mark is then, it stays
abbrev pub SecondRepairChangesNothing : Type 0
SecondRepairChangesNothing =
    (cfg : Config) (a : Attrs) (dirty : Bool) → accepted cfg ≡ true
    → repaired cfg (record { settings = (repaired cfg a).settings; dirty = dirty }) ≡ record { settings = (repaired cfg a).settings; dirty = dirty }

-- a repair that ends at the settings that it began with changed none on the way, so it sets no dirty mark
abbrev pub NoStepUndone : Type 0
NoStepUndone = (cfg : Config) (a : Attrs) → accepted cfg ≡ true → (repaired cfg a).settings ≡ a.settings → repaired cfg a ≡ a

abbrev pub heating_at : ℕ → Settings
heating_at h = record { heating = hundredths (pos h); cooling = zero_hundredths; minheat = zero_hundredths; maxheat = zero_hundredths; mincool = zero_hundredths; maxcool = zero_hundredths; mode = 0 }

-- without the premise the final adjustment may act. The smallest input: HEAT, COOL and AUTO with the attributes that row 5 asks for and no limits, no dead band, and
-- ABS_MAX of heating one hundredth above cooling's, so that row 20 alone refuses it; heating at that maximum is moved by one hundredth
abbrev pub maxima_too_near : Config
maxima_too_near = record {
  revision = 11;
  features = 0x23;
  attributes = 0x1A060001;
  events = 0;
  commands = 1;
  absminheat = zero_hundredths;
  absmaxheat = hundredths (pos 1);
  absmincool = zero_hundredths;
  absmaxcool = zero_hundredths;
  deadband = record { 0 = pos 0 };
  sequence = 4;
  delta = zero_hundredths;
  defaults = heating_at 0;
}

abbrev pub AdjustmentActs : Type 0
AdjustmentActs =
    let b = repair_setpoints maxima_too_near (repair_limits maxima_too_near (record { settings = heating_at 1; dirty = false })) in
    (validated maxima_too_near ≡ 20) × (b ≡ record { settings = heating_at 1; dirty = false }) × (push_heating maxima_too_near b ≡ record { settings = heating_at 0; dirty = true })
