-- Opening and every call are done or refused, and a refusal changes nothing but, at 23 and 25, the armed clock.
use mathlib.Core.Path.{◌≡◌, refl}
use mathlib.Core.Logic.{◌⊎◌, inl, inr}
use mathlib.Core.Bool.{Bool, true, false, cond}
use mathlib.Core.List.{List, [], ◌∷◌}
use lib.Dec.{ltb, eqb}
use Rattle.records.specs.Records.{blank, with_pending}
use Rattle.model.specs.Served.{listed}
use Rattle.model.specs.Answers.{Outcome, quiet}
use borrow.Author.Tests.{eqb-false}
use Rattle.model.specs.Refusals.{Row, row, unless, numbered}
use Rattle.model.specs.Attribution.{armed_clock}
use Rattle.model.specs.Writes.{applied, write_occupied_heating_setpoint, write_occupied_cooling_setpoint, write_min_heat_setpoint_limit, write_max_heat_setpoint_limit, write_min_cool_setpoint_limit, write_max_cool_setpoint_limit, write_system_mode, set_control_sequence_of_operation, arm_clock}
use Rattle.model.specs.RaiseLower.{names_absent_side, raise_sides, raise_lower_setpoint}
use Rattle.model.specs.Messages.{out_of_band_message, heating_message, cooling_message, mode_message, limits_message}
use Rattle.model.specs.Sweep.{notice_table, table_notices, sweep_events, swept, notify, sweep, timer, seed_events, deadline}
use Rattle.model.specs.Validation.{validated, accepted}
use Rattle.model.specs.FactoryReset.{factory_reset}
use Rattle.model.specs.Week.{mill_week, acts, hour}
use Rattle.model.specs.Step.{opened, step, step_sound}
use Rattle.model.specs.Laws.{Refused, DoneOrRefused, OpenedOrRefused, UnsoundRefused}
use Rattle.model.specs.Sound.{sound}
use Rattle.records.specs.declared.Config.{Config}
use Rattle.records.specs.declared.Controller.{Controller}
use Rattle.records.specs.declared.Readings.{Readings}
use Rattle.records.specs.declared.OutOfBandMessage.{OutOfBandMessage}
use Rattle.records.specs.declared.OutOfBandMessage.TheVariants.{LocalTemperature, RunningState, Update, OccupiedHeatingSetpoint, OccupiedCoolingSetpoint, SystemMode, SetpointLimits}
use Rattle.records.specs.declared.Call.{Call}
use Rattle.records.specs.declared.Call.TheVariants.{WriteOccupiedHeatingSetpoint, WriteOccupiedCoolingSetpoint, WriteMinHeatSetpointLimit, WriteMaxHeatSetpointLimit, WriteMinCoolSetpointLimit, WriteMaxCoolSetpointLimit, WriteSystemMode, SetControlSequenceOfOperation, RaiseLowerSetpoint, ArmClock, OutOfBand, SeedEvents, Sweep, Timer, Deadline, FactoryReset, Hour}
use Rattle.model.proofs.Logic.{by_cond, by_refusal}

module _ (cfg : Config) (r : Controller) (d : Readings) where
  abbrev Either : Outcome → Type 0
  Either o = (o.number ≡ 0) ⊎ Refused cfg r d o

  guarded : (l : List Row) (o : Outcome) → numbered l ≡ true → Either o → Either (unless l r o)
  guarded l o m h = by_refusal Either l r o m (λ n z. inr (eqb-false n 0 z, inl refl)) (λ e. h)

  -- 25 and 23 keep the newly armed clock
  raise_guarded : (t u : Bool) (o : Outcome) → Either o → Either (unless (row 25 t ∷ row 23 u ∷ []) (armed_clock cfg d r) o)
  unfolding unless
  raise_guarded true u o h = inr (eqb-false 25 0 refl, inr (inr refl, refl))
  raise_guarded false true o h = inr (eqb-false 23 0 refl, inr (inl refl, refl))
  raise_guarded false false o h = h

  message : (m : OutOfBandMessage) → Either (out_of_band_message cfg r m)
  unfolding heating_message cooling_message mode_message limits_message
  message LocalTemperature = inl refl
  message RunningState = inl refl
  message Update = inl refl
  message (OccupiedHeatingSetpoint v) = inl refl
  message (OccupiedCoolingSetpoint v) = inl refl
  message (SystemMode v) = guarded _ _ refl (inl refl)
  message (SetpointLimits a b c e) = inl refl

  pub swept_done : (swept cfg d r).number ≡ 0
  unfolding swept sweep_events
  swept_done = go (eqb r.pending 0) (listed r.pending 9)
    where
      go : (t u : Bool) → (cond t (quiet 0 r) (cond u (sweep_events cfg d (table_notices cfg r.pending notice_table) (with_pending r 0)) (notify 0 (with_pending r 0) (table_notices cfg r.pending notice_table)))).number ≡ 0
      go true u = refl
      go false true = refl
      go false false = refl

-- on a record that passes row 28
sound_done : (cfg : Config) (r : Controller) (d : Readings) (k : Call) → Either cfg r d (step_sound cfg r d k)
unfolding step_sound write_occupied_heating_setpoint write_occupied_cooling_setpoint write_min_heat_setpoint_limit write_max_heat_setpoint_limit write_min_cool_setpoint_limit write_max_cool_setpoint_limit write_system_mode set_control_sequence_of_operation raise_lower_setpoint arm_clock seed_events sweep timer deadline applied factory_reset hour
sound_done cfg r d (WriteOccupiedHeatingSetpoint v) = guarded cfg r d _ _ refl (inl refl)
sound_done cfg r d (WriteOccupiedCoolingSetpoint v) = guarded cfg r d _ _ refl (inl refl)
sound_done cfg r d (WriteMinHeatSetpointLimit v) = guarded cfg r d _ _ refl (inl refl)
sound_done cfg r d (WriteMaxHeatSetpointLimit v) = guarded cfg r d _ _ refl (inl refl)
sound_done cfg r d (WriteMinCoolSetpointLimit v) = guarded cfg r d _ _ refl (inl refl)
sound_done cfg r d (WriteMaxCoolSetpointLimit v) = guarded cfg r d _ _ refl (inl refl)
sound_done cfg r d (WriteSystemMode v) = guarded cfg r d _ _ refl (inl refl)
sound_done cfg r d (SetControlSequenceOfOperation v) = inl refl
sound_done cfg r d (RaiseLowerSetpoint mode amount) =
    raise_guarded cfg r d (ltb 2 mode) (names_absent_side cfg mode) (applied cfg d (raise_sides cfg d mode amount (armed_clock cfg d r))) (inl refl)
sound_done cfg r d ArmClock = inl refl
sound_done cfg r d (OutOfBand m) = message cfg r d m
sound_done cfg r d SeedEvents = inl refl
sound_done cfg r d Sweep = guarded cfg r d _ _ refl (inl (swept_done cfg r d))
sound_done cfg r d Timer = guarded cfg r d _ _ refl (inl refl)
sound_done cfg r d Deadline = inl refl
sound_done cfg r d FactoryReset = inl refl
sound_done cfg r d (Hour h) = guarded cfg r d _ _ refl (by_cond (Either cfg r d) (acts mill_week h) _ _ (λ e. inl refl) (λ e. inl refl))

pub done_or_refused : DoneOrRefused
unfolding step
done_or_refused cfg r d k = guarded cfg r d _ _ refl (sound_done cfg r d k)

-- on a record that passes row 28 a call is what its own definition says
pub sound_step : (cfg : Config) (r : Controller) (d : Readings) (k : Call) → sound cfg r ≡ true → step cfg r d k ≡ step_sound cfg r d k
unfolding step unless
sound_step cfg r d k e = simp e

-- 28 first
pub unsound_refused : UnsoundRefused
unfolding step unless
unsound_refused cfg r d k e = simp e

-- a refused opening returns its row's number and blank
pub opened_or_refused : OpenedOrRefused
unfolding opened accepted
opened_or_refused cfg s =
    by_cond (λ (o : Outcome). ((accepted cfg ≡ true) × (o.number ≡ 0)) ⊎ ((accepted cfg ≡ false) × (validated cfg ≡ 0 → ⊥) × (o ≡ quiet (validated cfg) blank))) (accepted cfg) _ _
    (λ e. inl (e, refl)) (λ e. inr (e, eqb-false (validated cfg) 0 e, refl))
