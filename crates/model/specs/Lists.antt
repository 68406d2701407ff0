-- Lists of calls, and what of the band each call allows.
use Rattle.std.specs.Prelude.{Bool, true, false, cond, List, [], ◌∷◌, ℕ}
use Rattle.model.specs.Week.{acts, mill_week}
use Rattle.model.specs.Step.{step}
use Rattle.records.specs.declared.Config.{Config}
use Rattle.records.specs.declared.Controller.{Controller}
use Rattle.records.specs.declared.Readings.{Readings}
use Rattle.records.specs.declared.OutOfBandMessage.TheVariants.{LocalTemperature, RunningState, Update, OccupiedHeatingSetpoint, OccupiedCoolingSetpoint, SystemMode, SetpointLimits}
use Rattle.records.specs.declared.Call.{Call}
use Rattle.records.specs.declared.Call.TheVariants.{WriteOccupiedHeatingSetpoint, WriteOccupiedCoolingSetpoint, WriteMinHeatSetpointLimit, WriteMaxHeatSetpointLimit, WriteMinCoolSetpointLimit, WriteMaxCoolSetpointLimit, WriteSystemMode, SetControlSequenceOfOperation, RaiseLowerSetpoint, ArmClock, OutOfBand, SeedEvents, Sweep, Timer, Deadline, FactoryReset, Hour}

-- an entry of a list: any call, with the readings handed in
pub record Entry : Type 0 where
  pub call : Call
  pub readings : Readings

abbrev pub entry : Call → Readings → Entry
entry k d = record { call = k; readings = d }

abbrev pub after : Config → Controller → Entry → Controller
after cfg r e = (step cfg r e.readings e.call).rec

abbrev pub number : Config → Controller → Entry → ℕ
number cfg r e = (step cfg r e.readings e.call).number

-- a list of calls: each gets the record that the last one returned
unfoldable pub run : Config → Controller → List Entry → Controller
run cfg r [] = r
run cfg r (e ∷ l) = run cfg (after cfg r e) l

unfoldable pub numbers : Config → Controller → List Entry → List ℕ
numbers cfg r [] = []
numbers cfg r (e ∷ l) = number cfg r e ∷ numbers cfg (after cfg r e) l

-- Whether a short gap is allowed after an accepted call, b being whether one was before: from an out-of-band setpoint to the next setpoint write, raise/lower, limits message, reset
-- or hour that acts
abbrev pub short_gap_after : Bool → Call → Bool
short_gap_after b (WriteOccupiedHeatingSetpoint v) = false
short_gap_after b (WriteOccupiedCoolingSetpoint v) = false
short_gap_after b (WriteMinHeatSetpointLimit v) = b
short_gap_after b (WriteMaxHeatSetpointLimit v) = b
short_gap_after b (WriteMinCoolSetpointLimit v) = b
short_gap_after b (WriteMaxCoolSetpointLimit v) = b
short_gap_after b (WriteSystemMode v) = b
short_gap_after b (SetControlSequenceOfOperation v) = b
short_gap_after b (RaiseLowerSetpoint mode amount) = false
short_gap_after b ArmClock = b
short_gap_after b (OutOfBand LocalTemperature) = b
short_gap_after b (OutOfBand RunningState) = b
short_gap_after b (OutOfBand Update) = b
short_gap_after b (OutOfBand (OccupiedHeatingSetpoint v)) = true
short_gap_after b (OutOfBand (OccupiedCoolingSetpoint v)) = true
short_gap_after b (OutOfBand (SystemMode v)) = b
short_gap_after b (OutOfBand (SetpointLimits w x y z)) = false
short_gap_after b SeedEvents = b
short_gap_after b Sweep = b
short_gap_after b Timer = b
short_gap_after b Deadline = b
short_gap_after b FactoryReset = false
short_gap_after b (Hour h) = cond (acts mill_week h) false b
