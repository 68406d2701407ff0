-- One call: the gap is kept, or a short one is allowed.
use Rattle.records.specs.declared.Snapshot.{Snapshot}
use Rattle.records.specs.declared.Setpoints.{Setpoints}
use Rattle.std.specs.Prelude.{Option, None, Some}
use mathlib.Core.Path.{◌≡◌, refl, sym, ◌∙◌, subst}
use mathlib.Core.Bool.{Bool, true, false, ◌||◌, cond}
use mathlib.Core.List.{List}
use Prim.Native.Nat.{ℕ}
use lib.Dec.{eqb}
use lib.IntN.{◌+ℤ◌, ◌-ℤ◌}
use lib.Signed.{◌≤ℤ◌, ≤ℤ_refl}
use borrow.Author.Tests.{not-false}
use Rattle.integers.proofs.Linear.{linear, sum_parts, diff_parts}
use Rattle.integers.specs.Clamp.{clamp_z}
use Rattle.integers.proofs.Clamp.{clamp_above, clamp_below}
use Rattle.units.specs.Units.{plus, minus, widened, clamped}
use Rattle.units.specs.declared.Hundredths.{Hundredths}
use Rattle.units.specs.declared.Tenths.{Tenths}
use Rattle.records.specs.Records.{changed_to, with_attrs, set_min_heat, set_max_heat, set_min_cool, set_max_cool, with_pending}
use Rattle.model.specs.Answers.{Outcome, Stage, quiet, and_then, unchanged}
use Rattle.model.specs.Refusals.{Row, unless, Clear, numbered}
use Rattle.model.specs.Served.{auto, listed}
use Rattle.model.specs.Units.{dead_band, GapKept}
use Rattle.model.specs.Limits.{min_heat_setpoint, max_heat_setpoint, min_cool_setpoint, max_cool_setpoint, in_heat_limits, in_cool_limits, clamp_heat_setpoint, clamp_cool_setpoint}
use Rattle.model.specs.Attribution.{external, schedule, armed_clock, claim_setpoints, served_setpoints}
use Rattle.model.specs.Validation.{accepted}
use Rattle.model.specs.Orders.{ask_sweep}
use Rattle.model.specs.Writes.{applied, too_near_cooling, too_near_heating, cooling_with_gap, heating_with_gap, store_heating_setpoint, store_cooling_setpoint, pull_heating, pull_cooling, limit_stored, write_occupied_heating_setpoint, write_occupied_cooling_setpoint, write_min_heat_setpoint_limit, write_max_heat_setpoint_limit, write_min_cool_setpoint_limit, write_max_cool_setpoint_limit, write_system_mode, set_control_sequence_of_operation, arm_clock}
use Rattle.model.specs.RaiseBoth.{targets_stored, raise_both}
use Rattle.model.specs.RaiseLower.{raise_heating, raise_cooling, raise_sides, raise_lower_setpoint}
use Rattle.model.specs.Messages.{out_of_band_message, heating_message, cooling_message, mode_message, limits_message, limits_taken}
use Rattle.model.specs.Sweep.{Taken, snapshot_of, same_snapshot, local_recorded, attributed_to, attribute_local_setpoint_change, started, taken_from, take_events, sweep_events, swept, sweep, timer, seed_events, deadline}
use Rattle.model.specs.FactoryReset.{defaults_taken, factory_reset}
use Rattle.model.specs.Week.{Week, mill_week, acts, store_entry, hour}
use Rattle.model.specs.Step.{opened, step, step_sound}
use Rattle.records.specs.declared.Config.{Config}
use Rattle.records.specs.declared.Settings.{Settings}
use Rattle.records.specs.declared.Attrs.{Attrs}
use Rattle.records.specs.declared.Controller.{Controller}
use Rattle.records.specs.declared.Readings.{Readings}
use Rattle.records.specs.declared.OutOfBandMessage.{OutOfBandMessage}
use Rattle.records.specs.declared.OutOfBandMessage.TheVariants.{LocalTemperature, RunningState, Update, OccupiedHeatingSetpoint, OccupiedCoolingSetpoint, SystemMode, SetpointLimits}
use Rattle.records.specs.declared.Call.{Call}
use Rattle.records.specs.declared.Call.TheVariants.{WriteOccupiedHeatingSetpoint, WriteOccupiedCoolingSetpoint, WriteMinHeatSetpointLimit, WriteMaxHeatSetpointLimit, WriteMinCoolSetpointLimit, WriteMaxCoolSetpointLimit, WriteSystemMode, SetControlSequenceOfOperation, RaiseLowerSetpoint, ArmClock, OutOfBand, SeedEvents, Sweep, Timer, Deadline, FactoryReset, Hour}
use Rattle.model.specs.Lists.{short_gap_after}
use Rattle.model.proofs.Logic.{clash, not_both, by_cond, by_refusal}
use Rattle.model.proofs.Valid.{Valid, valid}
use Rattle.model.proofs.Chain.{InForce, LimitTests, inside, apart, in_force, heat_clamped_lem, cool_clamped_lem}
use Rattle.model.proofs.Repair.{repair_settled}
use Rattle.model.proofs.Good.{Good, cooling_inside, raised_heat, raised_cool, targets_placed, armed_good}
use Rattle.model.proofs.Kept.{min_heat_tests, max_heat_tests, min_cool_tests, max_cool_tests, far}

module _ (cfg : Config) (s : Settings) (k : InForce cfg s) where
  -- a heating value within its limits, and cooling with the gap kept
  heating_gap : (h : Hundredths) → in_heat_limits cfg s h ≡ true → auto cfg ≡ true → (h.0 +ℤ (dead_band cfg).0) ≤ℤ (cooling_with_gap cfg s h).0
  unfolding cooling_with_gap too_near_cooling clamp_cool_setpoint in_heat_limits clamped plus
  heating_gap h e a =
      let d = dead_band cfg in
      let i = inside h (min_heat_setpoint cfg s) (max_heat_setpoint cfg s) e in
      let u = k.high a in
      by_cond (λ (x : Hundredths). (h.0 +ℤ d.0) ≤ℤ x.0) (too_near_cooling cfg s h) _ s.cooling
      (λ t. clamp_above (h.0 +ℤ d.0) (h.0 +ℤ d.0) (min_cool_setpoint cfg s).0 (max_cool_setpoint cfg s).0 (≤ℤ_refl (h.0 +ℤ d.0)) (omega (linear, sum_parts h.0 d.0, sum_parts (max_heat_setpoint cfg s).0 d.0)))
      (λ t. apart h s.cooling d (not_both (auto cfg) _ t a))

  cooling_gap : (c : Hundredths) → in_cool_limits cfg s c ≡ true → auto cfg ≡ true → ((heating_with_gap cfg s c).0 +ℤ (dead_band cfg).0) ≤ℤ c.0
  unfolding heating_with_gap too_near_heating clamp_heat_setpoint in_cool_limits clamped minus
  cooling_gap c e a =
      let d = dead_band cfg in
      let i = inside c (min_cool_setpoint cfg s) (max_cool_setpoint cfg s) e in
      let u = k.low a in
      by_cond (λ (x : Hundredths). (x.0 +ℤ d.0) ≤ℤ c.0) (too_near_heating cfg s c) _ s.heating
      (λ t. let y = clamp_z (c.0 -ℤ d.0) (min_heat_setpoint cfg s).0 (max_heat_setpoint cfg s).0 in
      let b = clamp_below (c.0 -ℤ d.0) (c.0 -ℤ d.0) (min_heat_setpoint cfg s).0 (max_heat_setpoint cfg s).0 (≤ℤ_refl (c.0 -ℤ d.0)) (omega (linear, diff_parts c.0 d.0, sum_parts (min_heat_setpoint cfg s).0 d.0)) in
      omega (linear, sum_parts y d.0, diff_parts c.0 d.0))
      (λ t. far c s.heating d (not_both (auto cfg) _ t a))

-- over calls: what each leaves
module _ (cfg : Config) (v : Valid cfg) (d : Readings) where
  abbrev Gapped : Stage → Type 0
  Gapped q = GapKept cfg q.rec.attrs.settings

  heating_stored_gap : (source : ℕ) (h : Hundredths) (r : Controller) → LimitTests cfg r.attrs.settings → in_heat_limits cfg r.attrs.settings h ≡ true → Gapped (store_heating_setpoint cfg d source h r)
  unfolding store_heating_setpoint claim_setpoints
  heating_stored_gap source h r t e = heating_gap cfg r.attrs.settings (in_force cfg r.attrs.settings v t) h e

  cooling_stored_gap : (source : ℕ) (c : Hundredths) (r : Controller) → LimitTests cfg r.attrs.settings → in_cool_limits cfg r.attrs.settings c ≡ true → Gapped (store_cooling_setpoint cfg d source c r)
  unfolding store_cooling_setpoint claim_setpoints
  cooling_stored_gap source c r t e = cooling_gap cfg r.attrs.settings (in_force cfg r.attrs.settings v t) c e

  heating_pulled_gap : (r : Controller) → LimitTests cfg r.attrs.settings → GapKept cfg r.attrs.settings → Gapped (pull_heating cfg d r)
  unfolding pull_heating
  heating_pulled_gap r t g =
      let s = r.attrs.settings in
      let w = widened s.heating in
      by_cond Gapped (in_heat_limits cfg s s.heating) (unchanged r) _ (λ e. g)
      (λ e. heating_stored_gap external (clamp_heat_setpoint cfg s w) r t (heat_clamped_lem cfg s w (in_force cfg s v t)))

  cooling_pulled_gap : (r : Controller) → LimitTests cfg r.attrs.settings → GapKept cfg r.attrs.settings → Gapped (pull_cooling cfg d r)
  unfolding pull_cooling
  cooling_pulled_gap r t g =
      let s = r.attrs.settings in
      let w = widened s.cooling in
      by_cond Gapped (in_cool_limits cfg s s.cooling) (unchanged r) _ (λ e. g)
      (λ e. cooling_stored_gap external (clamp_cool_setpoint cfg s w) r t (cool_clamped_lem cfg s w (in_force cfg s v t)))

  heat_raised_gap : (a : Tenths) (r : Controller) → LimitTests cfg r.attrs.settings → Gapped (raise_heating cfg d a r)
  unfolding raise_heating
  heat_raised_gap a r t = heating_stored_gap external _ r t (raised_heat cfg v d r.attrs.settings a (in_force cfg r.attrs.settings v t))

  cool_raised_gap : (a : Tenths) (r : Controller) → LimitTests cfg r.attrs.settings → Gapped (raise_cooling cfg d a r)
  unfolding raise_cooling
  cool_raised_gap a r t = cooling_stored_gap external _ r t (raised_cool cfg v d r.attrs.settings a (in_force cfg r.attrs.settings v t))

  both_raised_gap : (a : Tenths) (r : Controller) → LimitTests cfg r.attrs.settings → Gapped (raise_both cfg d a r)
  unfolding raise_both claim_setpoints
  both_raised_gap a r l u =
      let t = (targets_stored cfg a r.attrs).settings in
      let p = targets_placed cfg v d a r l in
      cooling_gap cfg t (in_force cfg t v p.limits) t.cooling (cooling_inside cfg t p.cooling (v.auto_cools u)) u

  sides_raised_gap : (mode : ℕ) (a : Tenths) (r : Controller) → LimitTests cfg r.attrs.settings → Gapped (raise_sides cfg d mode a r)
  unfolding raise_sides
  sides_raised_gap mode a r l =
      by_cond Gapped (eqb mode 0) _ _ (λ e. heat_raised_gap a r l) (λ e. by_cond Gapped (eqb mode 1) _ _ (λ f. cool_raised_gap a r l) (λ f. both_raised_gap a r l))

  applied_gap : (q : Stage) → Gapped q → GapKept cfg (applied cfg d q).rec.attrs.settings
  unfolding applied ask_sweep
  applied_gap q g = g

  pub settings_armed : (r : Controller) → (armed_clock cfg d r).attrs ≡ r.attrs
  unfolding armed_clock
  settings_armed r = refl

-- the settings that calls without a store of settings leave
module _ (cfg : Config) (d : Readings) where
  local_attrs : (r : Controller) (a b : Option Setpoints) → (attributed_to cfg d r a b).rec.attrs ≡ r.attrs
  local_attrs r None None = refl
  local_attrs r (Some new) None = refl
  local_attrs r None (Some new) = refl
  local_attrs r (Some old) (Some new) =
      by_cond (λ (q : Stage). q.rec.attrs ≡ r.attrs) (changed_to old.heating new.heating || changed_to old.cooling new.cooling) (local_recorded cfg d r old new) (unchanged r) (λ e. refl) (λ e. refl)

  taken_attrs : (r : Controller) (s : Option Snapshot) → (taken_from cfg d r s).rec.attrs ≡ r.attrs
  unfolding started claim_setpoints
  taken_attrs r None = refl
  taken_attrs r (Some old) = by_cond (λ (t : Taken). t.rec.attrs ≡ r.attrs) (same_snapshot old (snapshot_of cfg d r)) _ _ (λ e. refl) (λ e. refl)

  pub events_attrs : (r : Controller) → (take_events cfg d r).rec.attrs ≡ r.attrs
  unfolding take_events
  events_attrs r = taken_attrs r r.events.shadow

  pub swept_attrs : (r : Controller) → (swept cfg d r).rec.attrs ≡ r.attrs
  unfolding swept sweep_events attribute_local_setpoint_change armed_clock
  swept_attrs r =
      let q = armed_clock cfg d (with_pending r 0) in
      by_cond (λ (o : Outcome). o.rec.attrs ≡ r.attrs) (eqb r.pending 0) (quiet 0 r) _ (λ f. refl)
      (λ f. by_cond (λ (o : Outcome). o.rec.attrs ≡ r.attrs) (listed r.pending 9) _ _
      (λ h. events_attrs _ ∙ local_attrs q q.change.attributed (served_setpoints cfg q.attrs.settings)) (λ h. refl))

either_way : (t b : Bool) → cond t b b ≡ false → b ≡ false
either_way true b e = e
either_way false b e = e

-- one call: the gap is kept, or a short one allowed
module _ (cfg : Config) (v : Valid cfg) (d : Readings) (r : Controller) (g : Good cfg r) (b : Bool) (old : b ≡ false → GapKept cfg r.attrs.settings) where
  abbrev GapOrAllowed : Call → Outcome → Type 0
  GapOrAllowed k o = cond (eqb o.number 0) (short_gap_after b k) b ≡ false → GapKept cfg o.rec.attrs.settings

  -- a refusal keeps the settings, and whether a short gap is allowed
  guarded : (k : Call) (q : Controller) (ws : List Row) (o : Outcome) → q.attrs ≡ r.attrs → numbered ws ≡ true → (Clear ws → GapOrAllowed k o) → GapOrAllowed k (unless ws q o)
  guarded k q ws o e m f =
      by_refusal (GapOrAllowed k) ws q o m (λ n z l. subst (λ (a : Attrs). GapKept cfg a.settings) (sym e) (old (simp z at l))) f

  message_gap : (m : OutOfBandMessage) → GapOrAllowed (OutOfBand m) (out_of_band_message cfg r m)
  unfolding heating_message cooling_message mode_message limits_message ask_sweep
  message_gap LocalTemperature l = old l
  message_gap RunningState l = old l
  message_gap Update l = old l
  message_gap (OccupiedHeatingSetpoint w) l = clash true refl l
  message_gap (OccupiedCoolingSetpoint w) l = clash true refl l
  message_gap (SystemMode m) l = guarded (OutOfBand (SystemMode m)) r _ _ refl refl (λ c l. old l) l
  message_gap (SetpointLimits x y z u) l = (repair_settled cfg v (limits_taken cfg r.attrs x y z u)).gap

  -- a stored limit, and what it pulls
  heat_limit_gap : (a : Attrs) → LimitTests cfg a.settings → GapKept cfg a.settings → (code : ℕ) → GapKept cfg (applied cfg d (and_then (limit_stored cfg r a code) (pull_heating cfg d))).rec.attrs.settings
  heat_limit_gap a t k code = applied_gap cfg v d _ (heating_pulled_gap cfg v d (with_attrs r a) t k)

  cool_limit_gap : (a : Attrs) → LimitTests cfg a.settings → GapKept cfg a.settings → (code : ℕ) → GapKept cfg (applied cfg d (and_then (limit_stored cfg r a code) (pull_cooling cfg d))).rec.attrs.settings
  cool_limit_gap a t k code = applied_gap cfg v d _ (cooling_pulled_gap cfg v d (with_attrs r a) t k)

  -- an hour of any week that nothing refuses: it ends a short gap where it acts
  hour_gap : (w : Week) (h : ℕ) →
      let o = cond (acts w h) (applied cfg d (store_entry cfg d (w h) r)) (quiet 0 r) in
      cond (eqb o.number 0) (cond (acts w h) false b) b ≡ false → GapKept cfg o.rec.attrs.settings
  unfolding store_entry applied ask_sweep
  hour_gap w h = by_acting (acts w h)
    where
      by_acting : (t : Bool) →
          let o = cond t (applied cfg d (store_entry cfg d (w h) r)) (quiet 0 r) in
          cond (eqb o.number 0) (cond t false b) b ≡ false → GapKept cfg o.rec.attrs.settings
      by_acting true l =
          let s = r.attrs.settings in
          heating_stored_gap cfg v d schedule _ r g.placed.limits (heat_clamped_lem cfg s (widened (w h)) (in_force cfg s v g.placed.limits))
      by_acting false l = old l

  sound_gap_lem : (k : Call) → GapOrAllowed k (step_sound cfg r d k)
  unfolding step_sound write_occupied_heating_setpoint write_occupied_cooling_setpoint write_min_heat_setpoint_limit write_max_heat_setpoint_limit write_min_cool_setpoint_limit write_max_cool_setpoint_limit write_system_mode set_control_sequence_of_operation raise_lower_setpoint arm_clock seed_events sweep timer deadline applied ask_sweep started claim_setpoints factory_reset hour
  sound_gap_lem (WriteOccupiedHeatingSetpoint x) =
      guarded (WriteOccupiedHeatingSetpoint x) r _ _ refl refl (λ c l. heating_stored_gap cfg v d external x r g.placed.limits (not-false (in_heat_limits cfg r.attrs.settings x) c.1.0))
  sound_gap_lem (WriteOccupiedCoolingSetpoint x) =
      guarded (WriteOccupiedCoolingSetpoint x) r _ _ refl refl (λ c l. cooling_stored_gap cfg v d external x r g.placed.limits (not-false (in_cool_limits cfg r.attrs.settings x) c.1.0))
  sound_gap_lem (WriteMinHeatSetpointLimit x) = guarded (WriteMinHeatSetpointLimit x) r _ _ refl refl (λ c l. heat_limit_gap (set_min_heat r.attrs x) (min_heat_tests cfg v r g x c) (old l) 0x15)
  sound_gap_lem (WriteMaxHeatSetpointLimit x) = guarded (WriteMaxHeatSetpointLimit x) r _ _ refl refl (λ c l. heat_limit_gap (set_max_heat r.attrs x) (max_heat_tests cfg v r g x c) (old l) 0x16)
  sound_gap_lem (WriteMinCoolSetpointLimit x) = guarded (WriteMinCoolSetpointLimit x) r _ _ refl refl (λ c l. cool_limit_gap (set_min_cool r.attrs x) (min_cool_tests cfg v r g x c) (old l) 0x17)
  sound_gap_lem (WriteMaxCoolSetpointLimit x) = guarded (WriteMaxCoolSetpointLimit x) r _ _ refl refl (λ c l. cool_limit_gap (set_max_cool r.attrs x) (max_cool_tests cfg v r g x c) (old l) 0x18)
  sound_gap_lem (WriteSystemMode m) = guarded (WriteSystemMode m) r _ _ refl refl (λ c l. old l)
  sound_gap_lem (SetControlSequenceOfOperation m) = old
  sound_gap_lem (RaiseLowerSetpoint mode amount) =
      let q = armed_clock cfg d r in
      guarded (RaiseLowerSetpoint mode amount) q _ _ (settings_armed cfg v d r) refl (λ e l. sides_raised_gap cfg v d mode amount q (armed_good cfg v d r g).placed.limits)
  sound_gap_lem ArmClock = λ l. subst (λ (a : Attrs). GapKept cfg a.settings) (sym (settings_armed cfg v d r)) (old l)
  sound_gap_lem (OutOfBand m) = message_gap m
  sound_gap_lem SeedEvents = old
  sound_gap_lem Sweep = guarded Sweep r _ _ refl refl (λ c l. subst (λ (a : Attrs). GapKept cfg a.settings) (sym (swept_attrs cfg d r)) (old (either_way (eqb (swept cfg d r).number 0) b l)))
  sound_gap_lem Timer = guarded Timer r _ _ refl refl (λ c l. subst (λ (a : Attrs). GapKept cfg a.settings) (sym (events_attrs cfg d r)) (old l))
  sound_gap_lem Deadline = old
  sound_gap_lem FactoryReset = λ l. (repair_settled cfg v (defaults_taken cfg r.attrs)).gap
  sound_gap_lem (Hour h) = guarded (Hour h) r _ _ refl refl (λ c. hour_gap mill_week h)

  pub step_gap : (k : Call) → GapOrAllowed k (step cfg r d k)
  unfolding step
  step_gap k = guarded k r _ _ refl refl (λ c. sound_gap_lem k)

pub opened_gap : (cfg : Config) (s : Settings) → accepted cfg ≡ true → GapKept cfg (opened cfg s).rec.attrs.settings
unfolding opened ask_sweep
opened_gap cfg s a = rw a (repair_settled cfg (valid cfg a) (record { settings = s; dirty = false })).gap
