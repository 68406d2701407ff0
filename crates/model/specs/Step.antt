-- Opening, and every call by cases.
use Rattle.std.specs.Prelude.{false, cond, [], ◌∷◌}
use Rattle.records.specs.Records.{blank}
use Rattle.model.specs.Answers.{Outcome, quiet}
use Rattle.model.specs.Refusals.{unless}
use Rattle.model.specs.Validation.{validated, accepted}
use Rattle.model.specs.Repair.{repaired_record}
use Rattle.model.specs.Sound.{unsound}
use Rattle.model.specs.Writes.{write_occupied_heating_setpoint, write_occupied_cooling_setpoint, write_min_heat_setpoint_limit, write_max_heat_setpoint_limit, write_min_cool_setpoint_limit, write_max_cool_setpoint_limit, write_system_mode, set_control_sequence_of_operation, arm_clock}
use Rattle.model.specs.RaiseLower.{raise_lower_setpoint}
use Rattle.model.specs.Messages.{out_of_band_message}
use Rattle.model.specs.FactoryReset.{factory_reset}
use Rattle.model.specs.Week.{mill_week, hour}
use Rattle.model.specs.Sweep.{seed_events, sweep, timer, deadline}
use Rattle.records.specs.declared.Config.{Config}
use Rattle.records.specs.declared.Settings.{Settings}
use Rattle.records.specs.declared.Controller.{Controller}
use Rattle.records.specs.declared.Readings.{Readings}
use Rattle.records.specs.declared.Call.{Call}
use Rattle.records.specs.declared.Call.TheVariants.{WriteOccupiedHeatingSetpoint, WriteOccupiedCoolingSetpoint, WriteMinHeatSetpointLimit, WriteMaxHeatSetpointLimit, WriteMinCoolSetpointLimit, WriteMaxCoolSetpointLimit, WriteSystemMode, SetControlSequenceOfOperation, RaiseLowerSetpoint, ArmClock, OutOfBand, SeedEvents, Sweep, Timer, Deadline, FactoryReset, Hour}

-- opening is validation, then repair of the given settings in a record otherwise blank; refused, it returns N and blank
unfoldable pub opened : Config → Settings → Outcome
opened cfg s = cond (accepted cfg) (repaired_record cfg blank (record { settings = s; dirty = false })) (quiet (validated cfg) blank)

-- every call that takes a record, on one that passes row 28
unfoldable pub step_sound : Config → Controller → Readings → Call → Outcome
step_sound cfg r d (WriteOccupiedHeatingSetpoint v) = write_occupied_heating_setpoint cfg r d v
step_sound cfg r d (WriteOccupiedCoolingSetpoint v) = write_occupied_cooling_setpoint cfg r d v
step_sound cfg r d (WriteMinHeatSetpointLimit v) = write_min_heat_setpoint_limit cfg r d v
step_sound cfg r d (WriteMaxHeatSetpointLimit v) = write_max_heat_setpoint_limit cfg r d v
step_sound cfg r d (WriteMinCoolSetpointLimit v) = write_min_cool_setpoint_limit cfg r d v
step_sound cfg r d (WriteMaxCoolSetpointLimit v) = write_max_cool_setpoint_limit cfg r d v
step_sound cfg r d (WriteSystemMode v) = write_system_mode cfg r d v
step_sound cfg r d (SetControlSequenceOfOperation v) = set_control_sequence_of_operation cfg r v
step_sound cfg r d (RaiseLowerSetpoint mode amount) = raise_lower_setpoint cfg r d mode amount
step_sound cfg r d ArmClock = arm_clock cfg r d
step_sound cfg r d (OutOfBand m) = out_of_band_message cfg r m
step_sound cfg r d SeedEvents = seed_events cfg r d
step_sound cfg r d Sweep = sweep cfg r d
step_sound cfg r d Timer = timer cfg r d
step_sound cfg r d Deadline = deadline cfg r d
step_sound cfg r d FactoryReset = factory_reset cfg r
step_sound cfg r d (Hour h) = hour mill_week cfg r d h

-- a call: row 28 is asked before any other
unfoldable pub step : Config → Controller → Readings → Call → Outcome
step cfg r d k = unless (unsound cfg r ∷ []) r (step_sound cfg r d k)
