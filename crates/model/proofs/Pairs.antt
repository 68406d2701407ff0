-- One call on two controllers with equal limits in force.
use mathlib.Core.Path.{◌≡◌, refl, sym, ◌∙◌, subst}
use mathlib.Core.Bool.{true, false, not}
use mathlib.Core.List.{List, [], ◌∷◌}
use Prim.Native.Nat.{ℕ}
use borrow.Author.Tests.{not-false}
use Rattle.units.specs.Units.{widened}
use Rattle.units.specs.declared.Hundredths.{Hundredths}
use Rattle.units.specs.declared.Tenths.{Tenths}
use Rattle.records.specs.Records.{with_attrs, set_min_heat, set_max_heat, set_min_cool, set_max_cool}
use Rattle.model.specs.Answers.{Outcome, quiet, and_then}
use Rattle.model.specs.Refusals.{Row, row, unless, Clear}
use Rattle.model.specs.Served.{heats, cools, serves}
use Rattle.model.specs.Limits.{EqualLimits, in_heat_limits, in_cool_limits, clamp_heat_setpoint}
use Rattle.model.specs.Attribution.{external, schedule, armed_clock, claim_setpoints}
use Rattle.model.specs.Validation.{accepted}
use Rattle.model.specs.Repair.{repaired}
use Rattle.model.specs.Sound.{sound, unsound}
use Rattle.model.specs.Orders.{ask_sweep}
use Rattle.model.specs.Writes.{min_heat_rows, max_heat_rows, min_cool_rows, max_cool_rows, unserved, applied, pull_heating, pull_cooling, limit_stored, write_occupied_heating_setpoint, write_occupied_cooling_setpoint, write_min_heat_setpoint_limit, write_max_heat_setpoint_limit, write_min_cool_setpoint_limit, write_max_cool_setpoint_limit, write_system_mode, set_control_sequence_of_operation, arm_clock}
use Rattle.model.specs.RaiseLower.{names_absent_side, raise_sides, raise_lower_setpoint}
use Rattle.model.specs.Messages.{out_of_band_message, heating_message, cooling_message, mode_message, limits_message, limits_taken}
use Rattle.model.specs.Sweep.{sweep, timer, started, seed_events, deadline}
use Rattle.model.specs.FactoryReset.{defaults_taken, factory_reset}
use Rattle.model.specs.Week.{Week, mill_week, acts, store_entry, hour}
use Rattle.model.specs.Step.{step, step_sound}
use Rattle.records.specs.declared.Config.{Config}
use Rattle.records.specs.declared.Attrs.{Attrs}
use Rattle.records.specs.declared.Controller.{Controller}
use Rattle.records.specs.declared.Readings.{Readings}
use Rattle.records.specs.declared.OutOfBandMessage.{OutOfBandMessage}
use Rattle.records.specs.declared.OutOfBandMessage.TheVariants.{LocalTemperature, RunningState, Update, OccupiedHeatingSetpoint, OccupiedCoolingSetpoint, SystemMode, SetpointLimits}
use Rattle.records.specs.declared.Call.{Call}
use Rattle.records.specs.declared.Call.TheVariants.{WriteOccupiedHeatingSetpoint, WriteOccupiedCoolingSetpoint, WriteMinHeatSetpointLimit, WriteMaxHeatSetpointLimit, WriteMinCoolSetpointLimit, WriteMaxCoolSetpointLimit, WriteSystemMode, SetControlSequenceOfOperation, RaiseLowerSetpoint, ArmClock, OutOfBand, SeedEvents, Sweep, Timer, Deadline, FactoryReset, Hour}
use Rattle.model.proofs.Logic.{or_left, or_right, both_cond}
use Rattle.model.proofs.Valid.{Valid, valid}
use Rattle.model.proofs.Good.{Good, is_good}
use Rattle.model.proofs.Kept.{heat_served, cool_served}
use Rattle.model.proofs.Agree.{SameLimits, SamePoints, both_unless, chained, limits_in_force, same_in_heat, same_in_cool, same_clamp_heat, same_clamp_cool, heating_limits, cooling_limits, pull_heat_limits, pull_cool_limits, raise_limits, repaired_limits_lem, repaired_points, heating_points, cooling_points, pull_heat_points, pull_cool_points, raise_points}
use Rattle.model.proofs.Refused.{swept_done}
use Rattle.model.proofs.Gaps.{settings_armed, events_attrs, swept_attrs}

-- after a limits message limits are equal, whatever they were before; and setpoints where they were
module _ (cfg : Config) (v : Valid cfg) (a b : Attrs) (x y z w : Hundredths) where
  taken_alike : SameLimits (limits_taken cfg a x y z w).settings (limits_taken cfg b x y z w).settings
  unfolding limits_taken
  taken_alike = record { minheat = refl; maxheat = refl; mincool = refl; maxcool = refl }

  pub taken_limits : SameLimits (repaired cfg (limits_taken cfg a x y z w)).settings (repaired cfg (limits_taken cfg b x y z w)).settings
  taken_limits = repaired_limits_lem cfg v _ _ taken_alike

  pub taken_points : SamePoints cfg a.settings b.settings → SamePoints cfg (repaired cfg (limits_taken cfg a x y z w)).settings (repaired cfg (limits_taken cfg b x y z w)).settings
  unfolding limits_taken
  taken_points p = repaired_points cfg v _ _ taken_alike (record { heating = p.heating; cooling = p.cooling })

-- after a reset limits and setpoints are equal, whatever they were before
module _ (cfg : Config) (v : Valid cfg) (a b : Attrs) where
  defaults_alike : SameLimits (defaults_taken cfg a).settings (defaults_taken cfg b).settings
  defaults_alike = record { minheat = refl; maxheat = refl; mincool = refl; maxcool = refl }

  pub reset_limits : SameLimits (repaired cfg (defaults_taken cfg a)).settings (repaired cfg (defaults_taken cfg b)).settings
  reset_limits = repaired_limits_lem cfg v _ _ defaults_alike

  pub reset_points : SamePoints cfg (repaired cfg (defaults_taken cfg a)).settings (repaired cfg (defaults_taken cfg b)).settings
  reset_points = repaired_points cfg v _ _ defaults_alike (record { heating = λ e. refl; cooling = λ e. refl })

-- one call on two controllers with equal limits: equal numbers, equal limits again, and equal setpoints where they were equal
pub record Stepped (cfg : Config) (q r : Controller) (o p : Outcome) : Type 0 where
  pub number : o.number ≡ p.number
  pub limits : SameLimits o.rec.attrs.settings p.rec.attrs.settings
  pub points : SamePoints cfg q.attrs.settings r.attrs.settings → SamePoints cfg o.rec.attrs.settings p.rec.attrs.settings

module _ (cfg : Config) (ok : accepted cfg ≡ true) (d : Readings) (q r : Controller) (gq : Good cfg q) (gr : Good cfg r) (l : SameLimits q.attrs.settings r.attrs.settings) where
  pub v : Valid cfg
  v = valid cfg ok

  pub sq : sound cfg q ≡ true
  sq = is_good cfg q ok gq

  pub sr : sound cfg r ≡ true
  sr = is_good cfg r ok gr

  abbrev Both : Outcome → Outcome → Type 0
  Both o p = Stepped cfg q r o p

  pub refused : (n : ℕ) → Both (quiet n q) (quiet n r)
  refused n = record { number = refl; limits = l; points = λ p. p }

  pub guarded : (ws vs : List Row) (o p : Outcome) → ws ≡ vs → (Clear ws → Both o p) → Both (unless ws q o) (unless vs r p)
  guarded ws vs o p e f = both_unless Both ws vs q r o p e refused f

  pub heat_rows : (x : Hundredths) → ◌≡◌ {A = List Row} (unserved cfg 0x12 ∷ row 22 (not (in_heat_limits cfg q.attrs.settings x)) ∷ []) (unserved cfg 0x12 ∷ row 22 (not (in_heat_limits cfg r.attrs.settings x)) ∷ [])
  heat_rows x = simp (same_in_heat cfg q.attrs.settings r.attrs.settings l x x refl)

  pub cool_rows : (x : Hundredths) → ◌≡◌ {A = List Row} (unserved cfg 0x11 ∷ row 22 (not (in_cool_limits cfg q.attrs.settings x)) ∷ []) (unserved cfg 0x11 ∷ row 22 (not (in_cool_limits cfg r.attrs.settings x)) ∷ [])
  cool_rows x = simp (same_in_cool cfg q.attrs.settings r.attrs.settings l x x refl)

  pub in_force : EqualLimits cfg q.attrs.settings r.attrs.settings
  in_force = limits_in_force cfg q.attrs.settings r.attrs.settings l

  pub min_heat_rows_lem : (x : Hundredths) → min_heat_rows cfg q.attrs.settings x ≡ min_heat_rows cfg r.attrs.settings x
  min_heat_rows_lem x = simp (l.maxheat, in_force.min_cool)

  pub max_heat_rows_lem : (x : Hundredths) → max_heat_rows cfg q.attrs.settings x ≡ max_heat_rows cfg r.attrs.settings x
  max_heat_rows_lem x = simp (l.minheat, in_force.max_cool)

  pub min_cool_rows_lem : (x : Hundredths) → min_cool_rows cfg q.attrs.settings x ≡ min_cool_rows cfg r.attrs.settings x
  min_cool_rows_lem x = simp (l.maxcool, in_force.min_heat)

  pub max_cool_rows_lem : (x : Hundredths) → max_cool_rows cfg q.attrs.settings x ≡ max_cool_rows cfg r.attrs.settings x
  max_cool_rows_lem x = simp (l.mincool, in_force.max_heat)

  -- a stored limit and its pull, on both
  pub heat_limit_both : (a b : Attrs) (code : ℕ) → SameLimits a.settings b.settings → (SamePoints cfg q.attrs.settings r.attrs.settings → SamePoints cfg a.settings b.settings) → heats cfg ≡ true
      → Both (applied cfg d (and_then (limit_stored cfg q a code) (pull_heating cfg d))) (applied cfg d (and_then (limit_stored cfg r b code) (pull_heating cfg d)))
  unfolding applied ask_sweep
  heat_limit_both a b code m f h =
      let x = with_attrs q a in
      let y = with_attrs r b in
      let z = chained (pull_heat_limits cfg d x) (pull_heat_limits cfg d y) m in
      record {
        number = refl;
        limits = record { minheat = z.minheat; maxheat = z.maxheat; mincool = z.mincool; maxcool = z.maxcool };
        points = λ p. let w = pull_heat_points cfg d x y m (f p) h in record { heating = w.heating; cooling = w.cooling };
      }

  pub cool_limit_both : (a b : Attrs) (code : ℕ) → SameLimits a.settings b.settings → (SamePoints cfg q.attrs.settings r.attrs.settings → SamePoints cfg a.settings b.settings) → cools cfg ≡ true
      → Both (applied cfg d (and_then (limit_stored cfg q a code) (pull_cooling cfg d))) (applied cfg d (and_then (limit_stored cfg r b code) (pull_cooling cfg d)))
  unfolding applied ask_sweep
  cool_limit_both a b code m f c =
      let x = with_attrs q a in
      let y = with_attrs r b in
      let z = chained (pull_cool_limits cfg d x) (pull_cool_limits cfg d y) m in
      record {
        number = refl;
        limits = record { minheat = z.minheat; maxheat = z.maxheat; mincool = z.mincool; maxcool = z.maxcool };
        points = λ p. let w = pull_cool_points cfg d x y m (f p) c in record { heating = w.heating; cooling = w.cooling };
      }

  -- settings as they were on both
  pub kept_both : (o p : Outcome) → o.number ≡ p.number → o.rec.attrs ≡ q.attrs → p.rec.attrs ≡ r.attrs → Both o p
  kept_both o p n e f =
      record {
        number = n;
        limits = subst (λ (a : Attrs). SameLimits a.settings p.rec.attrs.settings) (sym e) (subst (λ (b : Attrs). SameLimits q.attrs.settings b.settings) (sym f) l);
        points = λ k. subst (λ (a : Attrs). SamePoints cfg a.settings p.rec.attrs.settings) (sym e) (subst (λ (b : Attrs). SamePoints cfg q.attrs.settings b.settings) (sym f) k);
      }

  pub message_both : (m : OutOfBandMessage) → Both (out_of_band_message cfg q m) (out_of_band_message cfg r m)
  unfolding heating_message cooling_message mode_message limits_message ask_sweep
  message_both LocalTemperature = record { number = refl; limits = l; points = λ p. p }
  message_both RunningState = record { number = refl; limits = l; points = λ p. p }
  message_both Update = record { number = refl; limits = l; points = λ p. p }
  message_both (OccupiedHeatingSetpoint x) =
      record {
        number = refl;
        limits = record { minheat = l.minheat; maxheat = l.maxheat; mincool = l.mincool; maxcool = l.maxcool };
        points = λ p. record { heating = λ h. same_clamp_heat cfg q.attrs.settings r.attrs.settings l x x refl; cooling = p.cooling };
      }
  message_both (OccupiedCoolingSetpoint x) =
      record {
        number = refl;
        limits = record { minheat = l.minheat; maxheat = l.maxheat; mincool = l.mincool; maxcool = l.maxcool };
        points = λ p. record { heating = p.heating; cooling = λ c. same_clamp_cool cfg q.attrs.settings r.attrs.settings l x x refl };
      }
  message_both (SystemMode m) =
      guarded _ _ _ _ refl
      (λ c. record {
        number = refl;
        limits = record { minheat = l.minheat; maxheat = l.maxheat; mincool = l.mincool; maxcool = l.maxcool };
        points = λ p. record { heating = p.heating; cooling = p.cooling };
      })
  message_both (SetpointLimits x y z w) =
      record { number = refl; limits = taken_limits cfg v q.attrs r.attrs x y z w; points = taken_points cfg v q.attrs r.attrs x y z w }

  pub sound_row : ◌≡◌ {A = List Row} (unsound cfg q ∷ []) (unsound cfg r ∷ [])
  sound_row = simp (sq, sr)

  pub raised_both : (mode : ℕ) (a : Tenths) → names_absent_side cfg mode ≡ false → Both (applied cfg d (raise_sides cfg d mode a (armed_clock cfg d q))) (applied cfg d (raise_sides cfg d mode a (armed_clock cfg d r)))
  unfolding applied ask_sweep armed_clock
  raised_both mode a z =
      let x = armed_clock cfg d q in
      let y = armed_clock cfg d r in
      record { number = refl; limits = chained (raise_limits cfg d mode a x) (raise_limits cfg d mode a y) l; points = λ p. raise_points cfg d x y l p v mode a z }

  -- an hour of any week
  hour_both : (w : Week) (h : ℕ) → Both (hour w cfg q d h) (hour w cfg r d h)
  unfolding hour store_entry applied ask_sweep
  hour_both w h =
      let x = clamp_heat_setpoint cfg q.attrs.settings (widened (w h)) in
      let y = clamp_heat_setpoint cfg r.attrs.settings (widened (w h)) in
      guarded _ _ _ _ refl
      (λ c. both_cond Both (acts w h) _ _ _ _
      (λ t. record { number = refl; limits = chained (heating_limits cfg d schedule x q) (heating_limits cfg d schedule y r) l; points = λ p. heating_points cfg d q r l schedule x y (same_clamp_heat cfg q.attrs.settings r.attrs.settings l (w h) (w h) refl) p.cooling })
      (λ t. record { number = refl; limits = l; points = λ p. p }))

  sound_both : (k : Call) → Both (step_sound cfg q d k) (step_sound cfg r d k)
  unfolding step_sound write_occupied_heating_setpoint write_occupied_cooling_setpoint write_min_heat_setpoint_limit write_max_heat_setpoint_limit write_min_cool_setpoint_limit write_max_cool_setpoint_limit write_system_mode set_control_sequence_of_operation raise_lower_setpoint arm_clock seed_events sweep timer deadline applied ask_sweep started claim_setpoints factory_reset
  sound_both (WriteOccupiedHeatingSetpoint x) =
      guarded _ _ _ _ (heat_rows x)
      (λ c. record { number = refl; limits = chained (heating_limits cfg d external x q) (heating_limits cfg d external x r) l; points = λ p. heating_points cfg d q r l external x x refl p.cooling })
  sound_both (WriteOccupiedCoolingSetpoint x) =
      guarded _ _ _ _ (cool_rows x)
      (λ c. record { number = refl; limits = chained (cooling_limits cfg d external x q) (cooling_limits cfg d external x r) l; points = λ p. cooling_points cfg d q r l x x refl p.heating })
  sound_both (WriteMinHeatSetpointLimit x) =
      guarded _ _ _ _ (min_heat_rows_lem x)
      (λ c. heat_limit_both (set_min_heat q.attrs x) (set_min_heat r.attrs x) 0x15 (record { minheat = refl; maxheat = l.maxheat; mincool = l.mincool; maxcool = l.maxcool }) (λ p. record { heating = p.heating; cooling = p.cooling })
      (v.limits_heat (heat_served cfg v (or_left (serves cfg 0x15) (serves cfg 0x16) (not-false (serves cfg 0x15) c.0)))))
  sound_both (WriteMaxHeatSetpointLimit x) =
      guarded _ _ _ _ (max_heat_rows_lem x)
      (λ c. heat_limit_both (set_max_heat q.attrs x) (set_max_heat r.attrs x) 0x16 (record { minheat = l.minheat; maxheat = refl; mincool = l.mincool; maxcool = l.maxcool }) (λ p. record { heating = p.heating; cooling = p.cooling })
      (v.limits_heat (heat_served cfg v (or_right (serves cfg 0x15) (serves cfg 0x16) (not-false (serves cfg 0x16) c.0)))))
  sound_both (WriteMinCoolSetpointLimit x) =
      guarded _ _ _ _ (min_cool_rows_lem x)
      (λ c. cool_limit_both (set_min_cool q.attrs x) (set_min_cool r.attrs x) 0x17 (record { minheat = l.minheat; maxheat = l.maxheat; mincool = refl; maxcool = l.maxcool }) (λ p. record { heating = p.heating; cooling = p.cooling })
      (v.limits_cool (cool_served cfg v (or_left (serves cfg 0x17) (serves cfg 0x18) (not-false (serves cfg 0x17) c.0)))))
  sound_both (WriteMaxCoolSetpointLimit x) =
      guarded _ _ _ _ (max_cool_rows_lem x)
      (λ c. cool_limit_both (set_max_cool q.attrs x) (set_max_cool r.attrs x) 0x18 (record { minheat = l.minheat; maxheat = l.maxheat; mincool = l.mincool; maxcool = refl }) (λ p. record { heating = p.heating; cooling = p.cooling })
      (v.limits_cool (cool_served cfg v (or_right (serves cfg 0x17) (serves cfg 0x18) (not-false (serves cfg 0x18) c.0)))))
  sound_both (WriteSystemMode m) =
      guarded _ _ _ _ refl
      (λ c. record {
        number = refl;
        limits = record { minheat = l.minheat; maxheat = l.maxheat; mincool = l.mincool; maxcool = l.maxcool };
        points = λ p. record { heating = p.heating; cooling = p.cooling };
      })
  sound_both (SetControlSequenceOfOperation m) = refused 0
  sound_both (RaiseLowerSetpoint mode amount) =
      both_unless Both _ _ (armed_clock cfg d q) (armed_clock cfg d r) _ _ refl (λ n. kept_both _ _ refl (settings_armed cfg v d q) (settings_armed cfg v d r))
      (λ e. raised_both mode amount e.1.0)
  sound_both ArmClock = kept_both _ _ refl (settings_armed cfg v d q) (settings_armed cfg v d r)
  sound_both (OutOfBand m) = message_both m
  sound_both SeedEvents = kept_both _ _ refl refl refl
  sound_both Sweep = guarded _ _ _ _ refl (λ c. kept_both _ _ (swept_done cfg q d ∙ sym (swept_done cfg r d)) (swept_attrs cfg d q) (swept_attrs cfg d r))
  sound_both Timer = guarded _ _ _ _ refl (λ c. kept_both _ _ refl (events_attrs cfg d q) (events_attrs cfg d r))
  sound_both Deadline = record { number = refl; limits = l; points = λ p. p }
  sound_both FactoryReset = record { number = refl; limits = reset_limits cfg v q.attrs r.attrs; points = λ p. reset_points cfg v q.attrs r.attrs }
  sound_both (Hour h) = hour_both mill_week h

  pub step_both : (k : Call) → Both (step cfg q d k) (step cfg r d k)
  unfolding step
  step_both k = guarded _ _ _ _ sound_row (λ c. sound_both k)
