-- Document 01, Causes and answers: rows 22 to 28, for each call what its causes are, under the names of `Refusal`. The calls' own
-- definitions test them where they stand; law `OwnCase` says that a call's number is that of this table.
use Rattle.std.specs.Prelude.{Bool, false, not, List, [], ◌∷◌, ℕ, ltb}
use Rattle.model.specs.Refusals.{Row, row}
use Rattle.model.specs.Served.{serves}
use Rattle.model.specs.Limits.{in_heat_limits, in_cool_limits}
use Rattle.model.specs.Modes.{is_supported_system_mode}
use Rattle.model.specs.Sound.{last_clock, sound}
use Rattle.model.specs.Writes.{min_heat_refused, max_heat_refused, min_cool_refused, max_cool_refused}
use Rattle.model.specs.RaiseLower.{names_absent_side}
use Rattle.model.specs.Week.{last_hour}
use Rattle.records.specs.declared.Config.{Config}
use Rattle.records.specs.declared.Settings.{Settings}
use Rattle.records.specs.declared.Controller.{Controller}
use Rattle.records.specs.declared.Readings.{Readings}
use Rattle.records.specs.declared.OutOfBandMessage.{OutOfBandMessage}
use Rattle.records.specs.declared.OutOfBandMessage.TheVariants.{LocalTemperature, RunningState, Update, OccupiedHeatingSetpoint, OccupiedCoolingSetpoint, SystemMode, SetpointLimits}
use Rattle.records.specs.declared.Call.{Call}
use Rattle.records.specs.declared.Call.TheVariants.{WriteOccupiedHeatingSetpoint, WriteOccupiedCoolingSetpoint, WriteMinHeatSetpointLimit, WriteMaxHeatSetpointLimit, WriteMinCoolSetpointLimit, WriteMaxCoolSetpointLimit, WriteSystemMode, SetControlSequenceOfOperation, RaiseLowerSetpoint, ArmClock, OutOfBand, SeedEvents, Sweep, Timer, Deadline, FactoryReset, Hour}

-- what can refuse a call beside row 28, each with its number
pub record Causes : Type 0 where
  -- 27 ClockTooLate: sweep or timer at more than 18446744073709491615 ms
  pub late : Bool
  -- 32 HourOutsideWeek: hour above 167
  pub outside_week : Bool
  -- 24 UnservedAttribute: write to an unserved attribute
  pub unserved : Bool
  -- 25 UnknownRaiseLowerMode: raise/lower mode above 2
  pub unknown : Bool
  -- 23 AbsentSide: raise/lower names an absent side
  pub absent : Bool
  -- 22 OutsideRule: write outside its rule
  pub outside : Bool
  -- 26 UnsupportedMode: out-of-band mode unsupported
  pub unsupported : Bool

abbrev pub none : Causes
none = record { late = false; outside_week = false; unserved = false; unknown = false; absent = false; outside = false; unsupported = false }

abbrev pub of_clock : Readings → Causes
of_clock d = record { late = ltb last_clock d.clock; outside_week = false; unserved = false; unknown = false; absent = false; outside = false; unsupported = false }

abbrev pub of_write : Bool → Bool → Causes
of_write unserved outside = record { late = false; outside_week = false; unserved = unserved; unknown = false; absent = false; outside = outside; unsupported = false }

abbrev pub of_raise : Bool → Bool → Causes
of_raise unknown absent = record { late = false; outside_week = false; unserved = false; unknown = unknown; absent = absent; outside = false; unsupported = false }

abbrev pub of_hour : Config → ℕ → Causes
of_hour cfg h = record { late = false; outside_week = ltb last_hour h; unserved = not (serves cfg 0x12); unknown = false; absent = false; outside = false; unsupported = false }

abbrev pub of_message : Config → OutOfBandMessage → Causes
of_message cfg LocalTemperature = none
of_message cfg RunningState = none
of_message cfg Update = none
of_message cfg (OccupiedHeatingSetpoint v) = none
of_message cfg (OccupiedCoolingSetpoint v) = none
of_message cfg (SystemMode v) = record { late = false; outside_week = false; unserved = false; unknown = false; absent = false; outside = false; unsupported = not (is_supported_system_mode cfg v) }
of_message cfg (SetpointLimits minh maxh minc maxc) = none

-- a setpoint write must lie within the limits in force, a limit keep its rule, a mode be supported; there is no 24 for a mode
abbrev pub of_call : Config → Settings → Readings → Call → Causes
of_call cfg s d (WriteOccupiedHeatingSetpoint v) = of_write (not (serves cfg 0x12)) (not (in_heat_limits cfg s v))
of_call cfg s d (WriteOccupiedCoolingSetpoint v) = of_write (not (serves cfg 0x11)) (not (in_cool_limits cfg s v))
of_call cfg s d (WriteMinHeatSetpointLimit v) = of_write (not (serves cfg 0x15)) (min_heat_refused cfg s v)
of_call cfg s d (WriteMaxHeatSetpointLimit v) = of_write (not (serves cfg 0x16)) (max_heat_refused cfg s v)
of_call cfg s d (WriteMinCoolSetpointLimit v) = of_write (not (serves cfg 0x17)) (min_cool_refused cfg s v)
of_call cfg s d (WriteMaxCoolSetpointLimit v) = of_write (not (serves cfg 0x18)) (max_cool_refused cfg s v)
of_call cfg s d (WriteSystemMode v) = of_write false (not (is_supported_system_mode cfg v))
of_call cfg s d (SetControlSequenceOfOperation v) = none
of_call cfg s d (RaiseLowerSetpoint mode amount) = of_raise (ltb 2 mode) (names_absent_side cfg mode)
of_call cfg s d ArmClock = none
of_call cfg s d (OutOfBand m) = of_message cfg m
of_call cfg s d SeedEvents = none
of_call cfg s d Sweep = of_clock d
of_call cfg s d Timer = of_clock d
of_call cfg s d Deadline = none
of_call cfg s d FactoryReset = none
of_call cfg s d (Hour h) = of_hour cfg h

-- order: 28 UnsoundRecord, 27, 32, 24, then 25, 23, 22 or 26
abbrev pub rows_in : Bool → Causes → List Row
rows_in unsound c = row 28 unsound ∷ row 27 c.late ∷ row 32 c.outside_week ∷ row 24 c.unserved ∷ row 25 c.unknown ∷ row 23 c.absent ∷ row 22 c.outside ∷ row 26 c.unsupported ∷ []

abbrev pub causes : Config → Controller → Readings → Call → List Row
causes cfg r d k = rows_in (not (sound cfg r)) (of_call cfg r.attrs.settings d k)
