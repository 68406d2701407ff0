-- Each refusal in its own case only: a call's number is that of the table of causes, and an opening's that of rows 1 to 21.
use mathlib.Core.Path.{◌≡◌, refl, sym}
use mathlib.Core.Logic.{inl, inr}
use mathlib.Core.Bool.{Bool, true, false, cond}
use mathlib.Core.List.{List, [], ◌∷◌}
use Prim.Native.Nat.{ℕ}
use borrow.Author.Tests.{eqb-true}
use Rattle.model.specs.Answers.{Outcome, quiet}
use Rattle.model.specs.Refusals.{Row, first_failing, then_rows, unless, FirstCause, Clear, numbered}
use Rattle.model.specs.Validation.{validation_rows, feature_rows, attribute_rows, limit_rows, event_rows, number_rows, validated, accepted}
use Rattle.model.specs.Writes.{applied, write_occupied_heating_setpoint, write_occupied_cooling_setpoint, write_min_heat_setpoint_limit, write_max_heat_setpoint_limit, write_min_cool_setpoint_limit, write_max_cool_setpoint_limit, write_system_mode, set_control_sequence_of_operation, arm_clock}
use Rattle.model.specs.RaiseLower.{raise_lower_setpoint}
use Rattle.model.specs.Messages.{out_of_band_message, heating_message, cooling_message, mode_message, limits_message}
use Rattle.model.specs.Sweep.{sweep, timer, seed_events, deadline}
use Rattle.model.specs.Causes.{of_message, of_call, rows_in, causes}
use Rattle.model.specs.FactoryReset.{factory_reset}
use Rattle.model.specs.Week.{mill_week, acts, hour}
use Rattle.model.specs.Step.{opened, step, step_sound}
use Rattle.model.specs.Laws.{ByRows, OwnCase, OpeningOwnCase}
use Rattle.records.specs.declared.Config.{Config}
use Rattle.records.specs.declared.Settings.{Settings}
use Rattle.records.specs.declared.Controller.{Controller}
use Rattle.records.specs.declared.Readings.{Readings}
use Rattle.records.specs.declared.OutOfBandMessage.{OutOfBandMessage}
use Rattle.records.specs.declared.OutOfBandMessage.TheVariants.{LocalTemperature, RunningState, Update, OccupiedHeatingSetpoint, OccupiedCoolingSetpoint, SystemMode, SetpointLimits}
use Rattle.records.specs.declared.Call.{Call}
use Rattle.records.specs.declared.Call.TheVariants.{WriteOccupiedHeatingSetpoint, WriteOccupiedCoolingSetpoint, WriteMinHeatSetpointLimit, WriteMaxHeatSetpointLimit, WriteMinCoolSetpointLimit, WriteMaxCoolSetpointLimit, WriteSystemMode, SetControlSequenceOfOperation, RaiseLowerSetpoint, ArmClock, OutOfBand, SeedEvents, Sweep, Timer, Deadline, FactoryReset, Hour}
use Rattle.model.proofs.Logic.{by_cond, clear}
use Rattle.model.proofs.Refused.{swept_done}

-- the first failing row is the first whose cause holds
first_cause : (ws : List Row) (n : ℕ) → (n ≡ 0 → ⊥) → first_failing ws ≡ n → FirstCause n ws
unfolding first_failing
first_cause [] n z e = z (sym e)
first_cause (w ∷ ws) n z e = go w.cause refl e (first_cause ws n z)
  where
    go : (t : Bool) → w.cause ≡ t → cond t w.number (first_failing ws) ≡ n → (first_failing ws ≡ n → FirstCause n ws) → FirstCause n (w ∷ ws)
    go true f e g = inl (f, e)
    go false f e g = inr (f, g e)

from_cause : (ws : List Row) (n : ℕ) → FirstCause n ws → first_failing ws ≡ n
unfolding first_failing
from_cause [] n f = absurd f
from_cause (w ∷ ws) n (inl f) = rw f.0 f.1
from_cause (w ∷ ws) n (inr f) = rw f.0 (from_cause ws n f.1)

none_failing : (ws : List Row) → Clear ws → first_failing ws ≡ 0
unfolding first_failing
none_failing [] c = refl
none_failing (w ∷ ws) c = rw c.0 (none_failing ws c.1)

by_rows : (ws : List Row) → numbered ws ≡ true → ByRows (first_failing ws) ws
by_rows ws m = (λ n z. (first_cause ws n z, from_cause ws n), clear ws m, none_failing ws)

-- the number of a guarded outcome
unless_number : (ws : List Row) (r : Controller) (o : Outcome) (n : ℕ) → o.number ≡ n → (unless ws r o).number ≡ then_rows ws n
unfolding unless then_rows
unless_number [] r o n e = e
unless_number (w ∷ ws) r o n e = go w.cause (unless_number ws r o n e)
  where
    go : (t : Bool) → (unless ws r o).number ≡ then_rows ws n → (cond t (quiet w.number r) (unless ws r o)).number ≡ cond t w.number (then_rows ws n)
    go true f = refl
    go false f = f

module _ (cfg : Config) (r : Controller) (d : Readings) where
  message_number : (m : OutOfBandMessage) → (out_of_band_message cfg r m).number ≡ first_failing (rows_in false (of_message cfg m))
  unfolding first_failing then_rows heating_message cooling_message mode_message limits_message
  message_number LocalTemperature = refl
  message_number RunningState = refl
  message_number Update = refl
  message_number (OccupiedHeatingSetpoint v) = refl
  message_number (OccupiedCoolingSetpoint v) = refl
  message_number (SystemMode v) = unless_number _ r _ 0 refl
  message_number (SetpointLimits a b c e) = refl

  sound_number : (k : Call) → (step_sound cfg r d k).number ≡ first_failing (rows_in false (of_call cfg r.attrs.settings d k))
  unfolding first_failing then_rows step_sound write_occupied_heating_setpoint write_occupied_cooling_setpoint write_min_heat_setpoint_limit write_max_heat_setpoint_limit write_min_cool_setpoint_limit write_max_cool_setpoint_limit write_system_mode set_control_sequence_of_operation raise_lower_setpoint arm_clock seed_events sweep timer deadline applied factory_reset hour
  sound_number (WriteOccupiedHeatingSetpoint v) = unless_number _ r _ 0 refl
  sound_number (WriteOccupiedCoolingSetpoint v) = unless_number _ r _ 0 refl
  sound_number (WriteMinHeatSetpointLimit v) = unless_number _ r _ 0 refl
  sound_number (WriteMaxHeatSetpointLimit v) = unless_number _ r _ 0 refl
  sound_number (WriteMinCoolSetpointLimit v) = unless_number _ r _ 0 refl
  sound_number (WriteMaxCoolSetpointLimit v) = unless_number _ r _ 0 refl
  sound_number (WriteSystemMode v) = unless_number _ r _ 0 refl
  sound_number (SetControlSequenceOfOperation v) = refl
  sound_number (RaiseLowerSetpoint mode amount) = unless_number _ _ _ 0 refl
  sound_number ArmClock = refl
  sound_number (OutOfBand m) = message_number m
  sound_number SeedEvents = refl
  sound_number Sweep = unless_number _ r _ 0 (swept_done cfg r d)
  sound_number Timer = unless_number _ r _ 0 refl
  sound_number Deadline = refl
  sound_number FactoryReset = refl
  sound_number (Hour h) = unless_number _ r _ 0 (by_cond (λ (o : Outcome). o.number ≡ 0) (acts mill_week h) _ _ (λ e. refl) (λ e. refl))

  step_number : (k : Call) → (step cfg r d k).number ≡ first_failing (causes cfg r d k)
  unfolding first_failing then_rows step
  step_number k = unless_number _ r _ _ (sound_number k)

by_number : (n : ℕ) (ws : List Row) → numbered ws ≡ true → n ≡ first_failing ws → ByRows n ws
by_number n ws m e = rw e (by_rows ws m)

pub own_case : OwnCase
own_case cfg r d k = by_number _ (causes cfg r d k) refl (step_number cfg r d k)

opened_number : (cfg : Config) (s : Settings) → (opened cfg s).number ≡ validated cfg
unfolding opened accepted
opened_number cfg s = by_cond (λ (o : Outcome). o.number ≡ validated cfg) (accepted cfg) _ _ (λ e. sym (eqb-true (validated cfg) 0 e)) (λ e. refl)

pub opening_own_case : OpeningOwnCase
unfolding validated feature_rows attribute_rows limit_rows event_rows number_rows
opening_own_case cfg s = by_number _ (validation_rows cfg) refl (opened_number cfg s)
