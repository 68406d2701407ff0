-- Of the calls that share the last arm of `serve` the control sequence and an hour that does not act are no write.
use Rattle.std.specs.Prelude.{Option, None}
use mathlib.Core.Path.{◌≡◌, refl, sym, subst}
use mathlib.Core.List.{List, [], ◌∷◌}
use Prim.Native.Nat.{ℕ}
use types.Run.{OneOf, miss}
use Rattle.model.specs.Answers.{quiet}
use Rattle.records.specs.Records.{nothing_removed}
use Rattle.model.specs.Plans.{planned, DoneAsPlanned}
use Rattle.model.specs.Removed.{removed_when_done}
use Rattle.model.specs.Step.{step_sound}
use Rattle.model.specs.Writes.{set_control_sequence_of_operation}
use Rattle.model.specs.Week.{mill_week, hour}
use Rattle.model.proofs.Plans.{no_write, hour_carried}
use Rattle.records.specs.declared.Config.{Config}
use Rattle.records.specs.declared.Plan.{Plan}
use Rattle.records.specs.declared.Controller.{Controller}
use Rattle.records.specs.declared.Readings.{Readings}
use Rattle.records.specs.declared.Call.{Call}
use Rattle.records.specs.declared.Call.TheVariants.{WriteOccupiedHeatingSetpoint, WriteOccupiedCoolingSetpoint, WriteMinHeatSetpointLimit, WriteMaxHeatSetpointLimit, WriteMinCoolSetpointLimit, WriteMaxCoolSetpointLimit, WriteSystemMode, SetControlSequenceOfOperation, RaiseLowerSetpoint, ArmClock, OutOfBand, SeedEvents, Sweep, Timer, Deadline, FactoryReset, Hour}
use denote.Enum.Declared.{tag_of}
use Rattle.records.specs.contracts.Call as declared

-- the variants before ArmClock, and the last
abbrev no_arm : List ℕ
no_arm = 0 ∷ 1 ∷ 2 ∷ 3 ∷ 4 ∷ 5 ∷ 6 ∷ 7 ∷ 8 ∷ 16 ∷ []

pub changes_nothing : (cfg : Config) (r : Controller) (d : Readings) (k : Call) → OneOf no_arm (tag_of declared.the_type k) → planned cfg r.attrs.settings k ≡ None → (step_sound cfg r d k ≡ quiet 0 r) × (removed_when_done cfg r.attrs k ≡ nothing_removed)
unfolding step_sound removed_when_done planned set_control_sequence_of_operation
changes_nothing cfg r d (WriteOccupiedHeatingSetpoint v) h e = absurd (no_write (sym e))
changes_nothing cfg r d (WriteOccupiedCoolingSetpoint v) h e = absurd (no_write (sym e))
changes_nothing cfg r d (WriteMinHeatSetpointLimit v) h e = absurd (no_write (sym e))
changes_nothing cfg r d (WriteMaxHeatSetpointLimit v) h e = absurd (no_write (sym e))
changes_nothing cfg r d (WriteMinCoolSetpointLimit v) h e = absurd (no_write (sym e))
changes_nothing cfg r d (WriteMaxCoolSetpointLimit v) h e = absurd (no_write (sym e))
changes_nothing cfg r d (WriteSystemMode v) h e = absurd (no_write (sym e))
changes_nothing cfg r d (SetControlSequenceOfOperation v) h e = (refl, refl)
changes_nothing cfg r d (RaiseLowerSetpoint mode amount) h e = absurd (no_write (sym e))
changes_nothing cfg r d ArmClock h e = absurd (miss no_arm 9 tt h)
changes_nothing cfg r d (OutOfBand m) h e = absurd (miss no_arm 10 tt h)
changes_nothing cfg r d SeedEvents h e = absurd (miss no_arm 11 tt h)
changes_nothing cfg r d Sweep h e = absurd (miss no_arm 12 tt h)
changes_nothing cfg r d Timer h e = absurd (miss no_arm 13 tt h)
changes_nothing cfg r d Deadline h e = absurd (miss no_arm 14 tt h)
changes_nothing cfg r d FactoryReset h e = absurd (miss no_arm 15 tt h)
changes_nothing cfg r d (Hour m) h e = (subst (λ (x : Option Plan). DoneAsPlanned cfg d r x (hour mill_week cfg r d m)) e (hour_carried mill_week cfg r d m), refl)
