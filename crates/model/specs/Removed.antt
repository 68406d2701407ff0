-- Document 02, C-12: how much clamping removed of each side, asked less given. 0 where the side is not served or not named, on every other call and on every refusal.
use Rattle.std.specs.Prelude.{◌≡◌, true, false, cond, ℕ, eqb, ◌≤ℤ◌}
use Rattle.units.specs.Units.{in_hundredths, widened, plus, minus, greater, amount_removed}
use Rattle.units.specs.declared.Hundredths.{Hundredths}
use Rattle.units.specs.declared.Tenths.{Tenths}
use Rattle.units.specs.declared.Wide.{Wide}
use Rattle.records.specs.Records.{zero_wide, nothing_removed}
use Rattle.model.specs.Served.{heats, cools, auto}
use Rattle.model.specs.Units.{dead_band}
use Rattle.model.specs.Limits.{min_heat_setpoint, max_heat_setpoint, min_cool_setpoint, max_cool_setpoint, heat_removed, cool_removed}
use Rattle.model.specs.Validation.{accepted}
use Rattle.model.specs.Repair.{clamp_heating, clamp_cooling, repair_limits}
use Rattle.model.specs.Writes.{too_near_cooling, too_near_heating}
use Rattle.model.specs.Messages.{limits_taken}
use Rattle.model.specs.FactoryReset.{defaults_taken}
use Rattle.model.specs.Step.{step}
use Rattle.records.specs.declared.Config.{Config}
use Rattle.records.specs.declared.Settings.{Settings}
use Rattle.records.specs.declared.Attrs.{Attrs}
use Rattle.records.specs.declared.Controller.{Controller}
use Rattle.records.specs.declared.Readings.{Readings}
use Rattle.records.specs.declared.Removed.{Removed}
use Rattle.records.specs.declared.OutOfBandMessage.{OutOfBandMessage}
use Rattle.records.specs.declared.OutOfBandMessage.TheVariants.{LocalTemperature, RunningState, Update, OccupiedHeatingSetpoint, OccupiedCoolingSetpoint, SystemMode, SetpointLimits}
use Rattle.records.specs.declared.Call.{Call}
use Rattle.records.specs.declared.Call.TheVariants.{WriteOccupiedHeatingSetpoint, WriteOccupiedCoolingSetpoint, WriteMinHeatSetpointLimit, WriteMaxHeatSetpointLimit, WriteMinCoolSetpointLimit, WriteMaxCoolSetpointLimit, WriteSystemMode, SetControlSequenceOfOperation, RaiseLowerSetpoint, ArmClock, OutOfBand, SeedEvents, Sweep, Timer, Deadline, FactoryReset, Hour}

abbrev pub heating_alone : Wide → Removed
heating_alone w = record { heating = w; cooling = zero_wide }

abbrev pub cooling_alone : Wide → Removed
cooling_alone w = record { heating = zero_wide; cooling = w }

-- the clamp of a served setpoint that a value asks for
unfoldable pub heating_removed : Config → Settings → Hundredths → Wide
heating_removed cfg s v = cond (heats cfg) (heat_removed cfg s (widened v)) zero_wide

unfoldable pub cooling_removed : Config → Settings → Hundredths → Wide
cooling_removed cfg s v = cond (cools cfg) (cool_removed cfg s (widened v)) zero_wide

-- repair: its first clamp of each served setpoint, the limits being repaired
abbrev pub setpoints_removed : Config → Attrs → Removed
setpoints_removed cfg a = let b = clamp_heating cfg a in record { heating = heating_removed cfg a.settings a.settings.heating; cooling = cooling_removed cfg b.settings b.settings.cooling }

unfoldable pub repair_removed : Config → Attrs → Removed
repair_removed cfg a = setpoints_removed cfg (repair_limits cfg a)

-- opening: repair's
unfoldable pub opening_removed : Config → Settings → Removed
opening_removed cfg s = cond (accepted cfg) (repair_removed cfg (record { settings = s; dirty = false })) nothing_removed

-- messages: an out-of-band setpoint has its own side's, a limits message repair's
abbrev pub message_removed : Config → Attrs → OutOfBandMessage → Removed
message_removed cfg a LocalTemperature = nothing_removed
message_removed cfg a RunningState = nothing_removed
message_removed cfg a Update = nothing_removed
message_removed cfg a (OccupiedHeatingSetpoint v) = heating_alone (heating_removed cfg a.settings v)
message_removed cfg a (OccupiedCoolingSetpoint v) = cooling_alone (cooling_removed cfg a.settings v)
message_removed cfg a (SystemMode v) = nothing_removed
message_removed cfg a (SetpointLimits minh maxh minc maxc) = repair_removed cfg (limits_taken cfg a minh maxh minc maxc)

-- raise/lower: from the target asked to the target given. Heat 0, Cool 1 and Both 2, of which a side that is not there has none
unfoldable pub heating_raise_removed : Config → Settings → Tenths → Wide
heating_raise_removed cfg s amount = heat_removed cfg s (plus s.heating (in_hundredths amount))

unfoldable pub cooling_raise_removed : Config → Settings → Tenths → Wide
cooling_raise_removed cfg s amount = cool_removed cfg s (plus s.cooling (in_hundredths amount))

abbrev pub both_raise_removed : Config → Settings → Tenths → Removed
both_raise_removed cfg s amount = record { heating = cond (heats cfg) (heating_raise_removed cfg s amount) zero_wide; cooling = cond (cools cfg) (cooling_raise_removed cfg s amount) zero_wide }

unfoldable pub raise_removed : Config → Settings → ℕ → Tenths → Removed
raise_removed cfg s mode amount = cond (eqb mode 0) (heating_alone (heating_raise_removed cfg s amount)) (cond (eqb mode 1) (cooling_alone (cooling_raise_removed cfg s amount)) (both_raise_removed cfg s amount))

-- every call by cases, where it is done. A reset has repair's (C-11)
unfoldable pub removed_when_done : Config → Attrs → Call → Removed
removed_when_done cfg a (WriteOccupiedHeatingSetpoint v) = nothing_removed
removed_when_done cfg a (WriteOccupiedCoolingSetpoint v) = nothing_removed
removed_when_done cfg a (WriteMinHeatSetpointLimit v) = nothing_removed
removed_when_done cfg a (WriteMaxHeatSetpointLimit v) = nothing_removed
removed_when_done cfg a (WriteMinCoolSetpointLimit v) = nothing_removed
removed_when_done cfg a (WriteMaxCoolSetpointLimit v) = nothing_removed
removed_when_done cfg a (WriteSystemMode v) = nothing_removed
removed_when_done cfg a (SetControlSequenceOfOperation v) = nothing_removed
removed_when_done cfg a (RaiseLowerSetpoint mode amount) = raise_removed cfg a.settings mode amount
removed_when_done cfg a ArmClock = nothing_removed
removed_when_done cfg a (OutOfBand m) = message_removed cfg a m
removed_when_done cfg a SeedEvents = nothing_removed
removed_when_done cfg a Sweep = nothing_removed
removed_when_done cfg a Timer = nothing_removed
removed_when_done cfg a Deadline = nothing_removed
removed_when_done cfg a FactoryReset = repair_removed cfg (defaults_taken cfg a)
removed_when_done cfg a (Hour h) = nothing_removed

-- and where it is refused, nothing
unfoldable pub removed : Config → Controller → Readings → Call → Removed
removed cfg r d k = cond (eqb (step cfg r d k).number 0) (removed_when_done cfg r.attrs k) nothing_removed

abbrev pub RefusedRemovesNothing : Type 0
RefusedRemovesNothing = (cfg : Config) (r : Controller) (d : Readings) (k : Call) → ((step cfg r d k).number ≡ 0 → ⊥) → removed cfg r d k ≡ nothing_removed

-- The gap push cuts nothing: what it asks lies within the other side's limits in force. Over the writes, each by its plan: GapPushCutsNothing of Plans
abbrev pub CutsNothing : Wide → Hundredths → Hundredths → Type 0
CutsNothing v lo hi = (lo.0 ≤ℤ v.0) × (v.0 ≤ℤ hi.0) × (amount_removed v lo hi ≡ zero_wide)

abbrev pub CoolingPushCutsNothing : Config → Settings → Hundredths → Type 0
CoolingPushCutsNothing cfg s heating = too_near_cooling cfg s heating ≡ true → CutsNothing (plus heating (dead_band cfg)) (min_cool_setpoint cfg s) (max_cool_setpoint cfg s)

abbrev pub HeatingPushCutsNothing : Config → Settings → Hundredths → Type 0
HeatingPushCutsNothing cfg s cooling = too_near_heating cfg s cooling ≡ true → CutsNothing (minus cooling (dead_band cfg)) (min_heat_setpoint cfg s) (max_heat_setpoint cfg s)

-- and so does repair's cooling adjustment, on every accepted configuration and any settings
abbrev pub RepairPushCutsNothing : Type 0
RepairPushCutsNothing =
    (cfg : Config) (a : Attrs) → accepted cfg ≡ true → auto cfg ≡ true →
    let s = (clamp_cooling cfg (clamp_heating cfg (repair_limits cfg a))).settings in
    CutsNothing (greater (widened s.cooling) (plus s.heating (dead_band cfg))) (min_cool_setpoint cfg s) (max_cool_setpoint cfg s)
