-- The mode is a function of the mode before, the configuration and the call.
use mathlib.Core.Path.{◌≡◌, refl, sym, ◌∙◌, ap, subst}
use mathlib.Core.Bool.{Bool, true, false, not, cond}
use mathlib.Core.List.{List, [], ◌∷◌}
use Prim.Native.Nat.{ℕ}
use lib.Dec.{eqb}
use Rattle.units.specs.declared.Tenths.{Tenths}
use Rattle.records.specs.Records.{with_attrs, set_min_heat, set_max_heat, set_min_cool, set_max_cool}
use Rattle.model.specs.Answers.{Outcome, Stage, quiet, unchanged}
use Rattle.model.specs.Refusals.{Row, row, unless}
use Rattle.model.specs.Limits.{in_heat_limits, in_cool_limits}
use Rattle.model.specs.Modes.{is_supported_system_mode}
use Rattle.model.specs.Attribution.{armed_clock, claim_setpoints}
use Rattle.model.specs.Repair.{repaired}
use Rattle.model.specs.RepairedSettings.{supported_mode, repaired_settings}
use Rattle.model.specs.Sound.{sound}
use Rattle.model.specs.Orders.{ask_sweep}
use Rattle.model.specs.Writes.{applied, store_heating_setpoint, store_cooling_setpoint, pull_heating, pull_cooling, write_occupied_heating_setpoint, write_occupied_cooling_setpoint, write_min_heat_setpoint_limit, write_max_heat_setpoint_limit, write_min_cool_setpoint_limit, write_max_cool_setpoint_limit, write_system_mode, set_control_sequence_of_operation, arm_clock}
use Rattle.model.specs.RaiseBoth.{raise_both}
use Rattle.model.specs.RaiseLower.{raise_heating, raise_cooling, raise_sides, raise_lower_setpoint}
use Rattle.model.specs.Messages.{out_of_band_message, heating_message, cooling_message, mode_message, limits_message, limits_taken}
use Rattle.model.specs.Sweep.{sweep, timer, started, seed_events, deadline}
use Rattle.model.specs.FactoryReset.{defaults_taken, factory_reset}
use Rattle.model.specs.Week.{mill_week, acts, store_entry, hour}
use Rattle.model.specs.Step.{step, step_sound}
use Rattle.records.specs.declared.Config.{Config}
use Rattle.records.specs.declared.Settings.{Settings}
use Rattle.records.specs.declared.Attrs.{Attrs}
use Rattle.records.specs.declared.Controller.{Controller}
use Rattle.records.specs.declared.Readings.{Readings}
use Rattle.records.specs.declared.OutOfBandMessage.{OutOfBandMessage}
use Rattle.records.specs.declared.OutOfBandMessage.TheVariants.{LocalTemperature, RunningState, Update, OccupiedHeatingSetpoint, OccupiedCoolingSetpoint, SystemMode, SetpointLimits}
use Rattle.records.specs.declared.Call.{Call}
use Rattle.records.specs.declared.Call.TheVariants.{WriteOccupiedHeatingSetpoint, WriteOccupiedCoolingSetpoint, WriteMinHeatSetpointLimit, WriteMaxHeatSetpointLimit, WriteMinCoolSetpointLimit, WriteMaxCoolSetpointLimit, WriteSystemMode, SetControlSequenceOfOperation, RaiseLowerSetpoint, ArmClock, OutOfBand, SeedEvents, Sweep, Timer, Deadline, FactoryReset, Hour}
use Rattle.model.proofs.Logic.{by_cond, by_unless}
use Rattle.model.proofs.Valid.{Valid}
use Rattle.model.proofs.Repair.{by_formula}
use Rattle.model.proofs.Good.{Good}
use Rattle.model.proofs.Refused.{sound_step}
use Rattle.model.proofs.Gaps.{events_attrs, swept_attrs}

-- the mode after a call, from the mode before it
abbrev pub mode_after : Config → ℕ → Call → ℕ
mode_after cfg m (WriteOccupiedHeatingSetpoint v) = m
mode_after cfg m (WriteOccupiedCoolingSetpoint v) = m
mode_after cfg m (WriteMinHeatSetpointLimit v) = m
mode_after cfg m (WriteMaxHeatSetpointLimit v) = m
mode_after cfg m (WriteMinCoolSetpointLimit v) = m
mode_after cfg m (WriteMaxCoolSetpointLimit v) = m
mode_after cfg m (WriteSystemMode v) = cond (is_supported_system_mode cfg v) v m
mode_after cfg m (SetControlSequenceOfOperation v) = m
mode_after cfg m (RaiseLowerSetpoint mode amount) = m
mode_after cfg m ArmClock = m
mode_after cfg m (OutOfBand LocalTemperature) = m
mode_after cfg m (OutOfBand RunningState) = m
mode_after cfg m (OutOfBand Update) = m
mode_after cfg m (OutOfBand (OccupiedHeatingSetpoint v)) = m
mode_after cfg m (OutOfBand (OccupiedCoolingSetpoint v)) = m
mode_after cfg m (OutOfBand (SystemMode v)) = cond (is_supported_system_mode cfg v) v m
mode_after cfg m (OutOfBand (SetpointLimits w x y z)) = m
mode_after cfg m SeedEvents = m
mode_after cfg m Sweep = m
mode_after cfg m Timer = m
mode_after cfg m Deadline = m
mode_after cfg m FactoryReset = supported_mode cfg cfg.defaults.mode
mode_after cfg m (Hour h) = m

-- a supported mode stays through a repair
mode_repaired : (cfg : Config) (v : Valid cfg) (a : Attrs) → is_supported_system_mode cfg a.settings.mode ≡ true → (repaired cfg a).settings.mode ≡ a.settings.mode
unfolding repaired_settings
mode_repaired cfg v a m = ap (λ (s : Settings). s.mode) (by_formula cfg v a) ∙ simp m

-- stores of setpoints and limits leave the mode
module _ (cfg : Config) (d : Readings) where
  abbrev SameMode : Controller → Stage → Type 0
  SameMode r x = x.rec.attrs.settings.mode ≡ r.attrs.settings.mode

  pull_heat_mode : (r : Controller) → SameMode r (pull_heating cfg d r)
  unfolding pull_heating store_heating_setpoint claim_setpoints
  pull_heat_mode r = let s = r.attrs.settings in by_cond (SameMode r) (in_heat_limits cfg s s.heating) (unchanged r) _ (λ e. refl) (λ e. refl)

  pull_cool_mode : (r : Controller) → SameMode r (pull_cooling cfg d r)
  unfolding pull_cooling store_cooling_setpoint claim_setpoints
  pull_cool_mode r = let s = r.attrs.settings in by_cond (SameMode r) (in_cool_limits cfg s s.cooling) (unchanged r) _ (λ e. refl) (λ e. refl)

  raise_heat_mode : (a : Tenths) (r : Controller) → SameMode r (raise_heating cfg d a r)
  unfolding raise_heating store_heating_setpoint claim_setpoints
  raise_heat_mode a r = refl

  raise_cool_mode : (a : Tenths) (r : Controller) → SameMode r (raise_cooling cfg d a r)
  unfolding raise_cooling store_cooling_setpoint claim_setpoints
  raise_cool_mode a r = refl

  raise_both_mode : (a : Tenths) (r : Controller) → SameMode r (raise_both cfg d a r)
  unfolding raise_both claim_setpoints
  raise_both_mode a r = refl

  raise_mode : (mode : ℕ) (a : Tenths) (r : Controller) → SameMode r (raise_sides cfg d mode a r)
  unfolding raise_sides
  raise_mode mode a r =
      by_cond (SameMode r) (eqb mode 0) _ _ (λ e. raise_heat_mode a r) (λ e. by_cond (SameMode r) (eqb mode 1) _ _ (λ f. raise_cool_mode a r) (λ f. raise_both_mode a r))

module _ (cfg : Config) (v : Valid cfg) (d : Readings) (r : Controller) (g : Good cfg r) (s : sound cfg r ≡ true) where
  abbrev mode : ℕ
  mode = r.attrs.settings.mode

  abbrev Moded : ℕ → Outcome → Type 0
  Moded m o = o.rec.attrs.settings.mode ≡ m

  guarded : (ws : List Row) (o : Outcome) → Moded mode o → Moded mode (unless ws r o)
  guarded ws o e = by_unless (Moded mode) ws r o (λ n. refl) (λ c. e)

  -- a mode write, in band or out of band: the new mode where it is supported, else the old
  chosen_mode : (m : ℕ) (o : Outcome) → Moded m o → Moded (cond (is_supported_system_mode cfg m) m mode) (unless (row 22 (not (is_supported_system_mode cfg m)) ∷ []) r o)
  unfolding unless
  chosen_mode m o e = go (is_supported_system_mode cfg m)
    where
      go : (t : Bool) → Moded (cond t m mode) (cond (not t) (quiet 22 r) o)
      go true = e
      go false = refl

  chosen_message : (m : ℕ) (o : Outcome) → Moded m o → Moded (cond (is_supported_system_mode cfg m) m mode) (unless (row 26 (not (is_supported_system_mode cfg m)) ∷ []) r o)
  unfolding unless
  chosen_message m o e = go (is_supported_system_mode cfg m)
    where
      go : (t : Bool) → Moded (cond t m mode) (cond (not t) (quiet 26 r) o)
      go true = e
      go false = refl

  message_mode : (m : OutOfBandMessage) → Moded (mode_after cfg mode (OutOfBand m)) (out_of_band_message cfg r m)
  unfolding heating_message cooling_message mode_message limits_message limits_taken ask_sweep
  message_mode LocalTemperature = refl
  message_mode RunningState = refl
  message_mode Update = refl
  message_mode (OccupiedHeatingSetpoint x) = refl
  message_mode (OccupiedCoolingSetpoint x) = refl
  message_mode (SystemMode m) = chosen_message m _ refl
  message_mode (SetpointLimits x y z w) = mode_repaired cfg v (limits_taken cfg r.attrs x y z w) g.mode

  sound_mode : (k : Call) → Moded (mode_after cfg mode k) (step_sound cfg r d k)
  unfolding step_sound write_occupied_heating_setpoint write_occupied_cooling_setpoint write_min_heat_setpoint_limit write_max_heat_setpoint_limit write_min_cool_setpoint_limit write_max_cool_setpoint_limit write_system_mode set_control_sequence_of_operation raise_lower_setpoint arm_clock seed_events sweep timer deadline applied ask_sweep store_heating_setpoint store_cooling_setpoint started claim_setpoints armed_clock factory_reset repaired_settings hour store_entry
  sound_mode (WriteOccupiedHeatingSetpoint x) = guarded _ _ refl
  sound_mode (WriteOccupiedCoolingSetpoint x) = guarded _ _ refl
  sound_mode (WriteMinHeatSetpointLimit x) = guarded _ _ (pull_heat_mode cfg d (with_attrs r (set_min_heat r.attrs x)))
  sound_mode (WriteMaxHeatSetpointLimit x) = guarded _ _ (pull_heat_mode cfg d (with_attrs r (set_max_heat r.attrs x)))
  sound_mode (WriteMinCoolSetpointLimit x) = guarded _ _ (pull_cool_mode cfg d (with_attrs r (set_min_cool r.attrs x)))
  sound_mode (WriteMaxCoolSetpointLimit x) = guarded _ _ (pull_cool_mode cfg d (with_attrs r (set_max_cool r.attrs x)))
  sound_mode (WriteSystemMode m) = chosen_mode m _ refl
  sound_mode (SetControlSequenceOfOperation m) = refl
  sound_mode (RaiseLowerSetpoint side amount) =
      by_unless (Moded mode) _ (armed_clock cfg d r) _ (λ n. refl) (λ c. raise_mode cfg d side amount (armed_clock cfg d r))
  sound_mode ArmClock = refl
  sound_mode (OutOfBand m) = message_mode m
  sound_mode SeedEvents = refl
  sound_mode Sweep = guarded _ _ (ap (λ (a : Attrs). a.settings.mode) (swept_attrs cfg d r))
  sound_mode Timer = guarded _ _ (ap (λ (a : Attrs). a.settings.mode) (events_attrs cfg d r))
  sound_mode Deadline = refl
  sound_mode FactoryReset = ap (λ (s : Settings). s.mode) (by_formula cfg v (defaults_taken cfg r.attrs))
  sound_mode (Hour h) = guarded _ _ (by_cond (Moded mode) (acts mill_week h) _ _ (λ e. refl) (λ e. refl))

  pub step_mode : (k : Call) → Moded (mode_after cfg mode k) (step cfg r d k)
  step_mode k = subst (Moded (mode_after cfg mode k)) (sym (sound_step cfg r d k s)) (sound_mode k)
