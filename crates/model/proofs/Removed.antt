-- C-12: what a call removes stands in its plan, and the gap push cuts nothing.
use Rattle.std.specs.Prelude.{Option, None, Some}
use mathlib.Core.Path.{◌≡◌, refl, sym, ◌∙◌, ap, subst}
use mathlib.Core.Bool.{Bool, true, false, cond}
use mathlib.Core.List.{List, [], ◌∷◌}
use Prim.Native.Nat.{ℕ}
use native.Mathlib.Omega.{arith}
use lib.Dec.{eqb, ltb}
use lib.IntN.{ℤ, pos, ◌+ℤ◌, ◌-ℤ◌}
use lib.Signed.{◌≤ℤ◌}
use borrow.Author.Tests.{ltb-true, ne_eqb, not-false}
use Rattle.integers.proofs.Linear.{linear, sum_parts, diff_parts}
use Rattle.integers.proofs.Clamp.{max_parts, clamp_within}
use Rattle.units.specs.Units.{plus, minus, above, below, widened, greater, clamped, asked_less_given, amount_removed}
use Rattle.units.specs.declared.Hundredths.{Hundredths}
use Rattle.units.specs.declared.Tenths.{Tenths}
use Rattle.units.specs.declared.Wide.{Wide}
use Rattle.records.specs.Records.{nothing_removed}
use Rattle.model.specs.Answers.{Outcome, quiet}
use Rattle.model.specs.Refusals.{Row, Clear, numbered}
use Rattle.model.specs.Served.{heats, cools, auto}
use Rattle.model.specs.Units.{dead_band}
use Rattle.model.specs.Limits.{min_heat_setpoint, max_heat_setpoint, min_cool_setpoint, max_cool_setpoint, in_heat_limits, in_cool_limits, clamp_heat_setpoint, clamp_cool_setpoint}
use Rattle.model.specs.Attribution.{armed_clock}
use Rattle.model.specs.Sound.{sound}
use Rattle.model.specs.Repair.{repair_limits}
use Rattle.model.specs.Writes.{too_near_cooling, too_near_heating, heating_rows, cooling_rows, min_heat_rows, max_heat_rows, min_cool_rows, max_cool_rows, mode_rows}
use Rattle.model.specs.RaiseBoth.{heating_target, cooling_target}
use Rattle.model.specs.RaiseLower.{raise_rows}
use Rattle.model.specs.Messages.{heating_message, cooling_message, limits_message}
use Rattle.model.specs.FactoryReset.{factory_reset}
use Rattle.model.specs.Week.{Week, acts, hour_rows, mill_week}
use Rattle.model.specs.Step.{step, step_sound}
use Rattle.model.specs.Plant.{no_readings}
use Rattle.model.specs.Removed.{raise_removed, removed_when_done, removed, RefusedRemovesNothing, CutsNothing, RepairPushCutsNothing}
use Rattle.model.specs.Plans.{refusal, plan_unless, heating_pulled, cooling_pulled, plan_heating_setpoint, plan_cooling_setpoint, plan_min_heat_limit, plan_max_heat_limit, plan_min_cool_limit, plan_max_cool_limit, plan_system_mode, plan_sides, plan_raise_lower, entry_to, planned_unless, plan_hour, planned, with_stored, moved, performed, carried_out, plan_removed, pushed_from, PushCutsNothing, PlannedRemoved, UnplannedRemoved, GapPushCutsNothing}
use Rattle.records.specs.declared.Config.{Config}
use Rattle.records.specs.declared.Settings.{Settings}
use Rattle.records.specs.declared.Attrs.{Attrs}
use Rattle.records.specs.declared.Controller.{Controller}
use Rattle.records.specs.declared.Readings.{Readings}
use Rattle.records.specs.declared.Removed.{Removed}
use Rattle.records.specs.declared.Plan.{Plan}
use Rattle.records.specs.declared.Stored.{Stored}
use Rattle.records.specs.declared.Stored.TheVariants.{MinHeat, MaxHeat, MinCool, MaxCool}
use Rattle.records.specs.declared.Sides.TheVariants.{Heating, Cooling}
use Rattle.records.specs.declared.OutOfBandMessage.TheVariants.{LocalTemperature, RunningState, Update, OccupiedHeatingSetpoint, OccupiedCoolingSetpoint, SystemMode, SetpointLimits}
use Rattle.records.specs.declared.Call.{Call}
use Rattle.records.specs.declared.Call.TheVariants.{WriteOccupiedHeatingSetpoint, WriteOccupiedCoolingSetpoint, WriteMinHeatSetpointLimit, WriteMaxHeatSetpointLimit, WriteMinCoolSetpointLimit, WriteMaxCoolSetpointLimit, WriteSystemMode, SetControlSequenceOfOperation, RaiseLowerSetpoint, ArmClock, OutOfBand, SeedEvents, Sweep, Timer, Deadline, FactoryReset, Hour}
use Rattle.model.proofs.Logic.{both, clash, by_cond, both_cond}
use Rattle.model.proofs.Valid.{Valid, valid}
use Rattle.model.proofs.Chain.{InForce, LimitTests, Placed, in_force, heating_between, cooling_between, heat_clamped_lem, cool_clamped_lem}
use Rattle.model.proofs.Repair.{limits_by_formula, limits_tested, clamp_steps}
use Rattle.model.proofs.Refused.{sound_step, unsound_refused}
use Rattle.model.proofs.Plans.{write_of, no_write, planned_carried}
use Rattle.model.proofs.Good.{Good, good, sound_accepted, points_placed, heating_inside, cooling_inside, raised_heat, raised_cool, heat_target, cool_target}
use Rattle.model.proofs.Kept.{min_heat_tests, max_heat_tests, min_cool_tests, max_cool_tests}

-- a fact about the plan, where there is one
abbrev OfWrite {ℓ} : (Plan → Type ℓ) → Option Plan → Type ℓ
OfWrite P None = Unit
OfWrite P (Some p) = P p

-- every write that an hour of any week can plan
by_hour {ℓ} : (P : Plan → Type ℓ) (w : Week) (cfg : Config) (s : Settings) (h : ℕ) → ((n : ℕ) → P (refusal s n)) → P (entry_to cfg s (w h)) → (p : Plan) → plan_hour w cfg s h ≡ Some p → P p
unfolding plan_hour planned_unless
by_hour P w cfg s h f g p e = subst (OfWrite P) e (refused_too (hour_rows cfg h) _ (by_cond (OfWrite P) (acts w h) _ _ (λ t. g) (λ t. tt)))
  where
    refused_too : (ws : List Row) (x : Option Plan) → OfWrite P x → OfWrite P (planned_unless ws s x)
    refused_too [] x t = t
    refused_too (w ∷ ws) x t = by_cond (OfWrite P) w.cause _ _ (λ e. f w.number) (λ e. refused_too ws x t)

either : (b : Bool) → cond b nothing_removed nothing_removed ≡ nothing_removed
either true = refl
either false = refl

pub refused_removes_nothing : RefusedRemovesNothing
unfolding removed
refused_removes_nothing cfg r d k n = simp (ne_eqb (step cfg r d k).number 0 n)

-- 28 among them
pub unsound_removed : (cfg : Config) (r : Controller) (d : Readings) (k : Call) → sound cfg r ≡ false → removed cfg r d k ≡ nothing_removed
unfolding removed
unsound_removed cfg r d k u = simp (unsound_refused cfg r d k u)

-- refused rows
by_rows {ℓ} : (P : Plan → Type ℓ) (ws : List Row) (s : Settings) (p : Plan) → ((n : ℕ) → P (refusal s n)) → (Clear ws → P p) → P (plan_unless ws s p)
unfolding plan_unless
by_rows P [] s p f g = g tt
by_rows P (w ∷ ws) s p f g = by_cond P w.cause _ _ (λ e. f w.number) (λ e. by_rows P ws s p f (λ c. g (e, c)))

-- a plan that nothing refused
done_plan : (ws : List Row) (s : Settings) (p : Plan) → numbered ws ≡ true → eqb (plan_unless ws s p).number 0 ≡ true → plan_unless ws s p ≡ p
unfolding plan_unless
done_plan [] s p m e = refl
done_plan (w ∷ ws) s p m e =
    let b = both (ltb 0 w.number) (numbered ws) m in
    go w.cause (ne_eqb w.number 0 (λ z. omega (arith, ltb-true 0 w.number b.0))) (done_plan ws s p b.1) e
  where
    go : (t : Bool) → eqb w.number 0 ≡ false → (eqb (plan_unless ws s p).number 0 ≡ true → plan_unless ws s p ≡ p) → eqb (cond t (refusal s w.number) (plan_unless ws s p)).number 0 ≡ true → cond t (refusal s w.number) (plan_unless ws s p) ≡ p
    go true n f h = clash (eqb w.number 0) h n
    go false n f h = f h

-- a plan is done where its number is 0
plan_number : (cfg : Config) (d : Readings) (r : Controller) (p : Plan) → eqb (carried_out cfg d r p).number 0 ≡ eqb p.number 0
unfolding carried_out performed moved
plan_number cfg d r p = by_test (eqb p.number 0) refl
  where
    by_test : (t : Bool) → eqb p.number 0 ≡ t → eqb (cond t (performed cfg d (cond p.arms (armed_clock cfg d r) r) p) (quiet p.number (cond p.arms (armed_clock cfg d r) r))).number 0 ≡ t
    by_test true e = refl
    by_test false e = e

abbrev RemovesNothing : Plan → Type 0
RemovesNothing p = p.removed ≡ nothing_removed

sides_removed : (cfg : Config) (s : Settings) (mode : ℕ) (amount : Tenths) → (plan_sides cfg s mode amount).removed ≡ raise_removed cfg s mode amount
unfolding plan_sides raise_removed
sides_removed cfg s mode amount = both_cond (λ (p : Plan) (x : Removed). p.removed ≡ x) (eqb mode 0) _ _ _ _ (λ e. refl) (λ e. both_cond (λ (p : Plan) (x : Removed). p.removed ≡ x) (eqb mode 1) _ _ _ _ (λ f. refl) (λ f. refl))

heat_pull_removed : (cfg : Config) (t : Settings) (x : Stored) → RemovesNothing (heating_pulled cfg t x)
unfolding heating_pulled
heat_pull_removed cfg t x = by_cond RemovesNothing (in_heat_limits cfg t t.heating) _ _ (λ e. refl) (λ e. refl)

cool_pull_removed : (cfg : Config) (t : Settings) (x : Stored) → RemovesNothing (cooling_pulled cfg t x)
unfolding cooling_pulled
cool_pull_removed cfg t x = by_cond RemovesNothing (in_cool_limits cfg t t.cooling) _ _ (λ e. refl) (λ e. refl)

done_removed : (cfg : Config) (a : Attrs) (k : Call) (p : Plan) → planned cfg a.settings k ≡ Some p → eqb p.number 0 ≡ true → p.removed ≡ removed_when_done cfg a k
unfolding planned removed_when_done plan_heating_setpoint plan_cooling_setpoint plan_min_heat_limit plan_max_heat_limit plan_min_cool_limit plan_max_cool_limit plan_system_mode plan_raise_lower
done_removed cfg a (WriteOccupiedHeatingSetpoint v) p e n = ap (λ (q : Plan). q.removed) (sym (write_of e)) ∙ by_rows RemovesNothing (heating_rows cfg a.settings v) _ _ (λ m. refl) (λ c. refl)
done_removed cfg a (WriteOccupiedCoolingSetpoint v) p e n = ap (λ (q : Plan). q.removed) (sym (write_of e)) ∙ by_rows RemovesNothing (cooling_rows cfg a.settings v) _ _ (λ m. refl) (λ c. refl)
done_removed cfg a (WriteMinHeatSetpointLimit v) p e n = ap (λ (q : Plan). q.removed) (sym (write_of e)) ∙ by_rows RemovesNothing (min_heat_rows cfg a.settings v) _ _ (λ m. refl) (λ c. heat_pull_removed cfg _ _)
done_removed cfg a (WriteMaxHeatSetpointLimit v) p e n = ap (λ (q : Plan). q.removed) (sym (write_of e)) ∙ by_rows RemovesNothing (max_heat_rows cfg a.settings v) _ _ (λ m. refl) (λ c. heat_pull_removed cfg _ _)
done_removed cfg a (WriteMinCoolSetpointLimit v) p e n = ap (λ (q : Plan). q.removed) (sym (write_of e)) ∙ by_rows RemovesNothing (min_cool_rows cfg a.settings v) _ _ (λ m. refl) (λ c. cool_pull_removed cfg _ _)
done_removed cfg a (WriteMaxCoolSetpointLimit v) p e n = ap (λ (q : Plan). q.removed) (sym (write_of e)) ∙ by_rows RemovesNothing (max_cool_rows cfg a.settings v) _ _ (λ m. refl) (λ c. cool_pull_removed cfg _ _)
done_removed cfg a (WriteSystemMode v) p e n = ap (λ (q : Plan). q.removed) (sym (write_of e)) ∙ by_rows RemovesNothing (mode_rows cfg v) _ _ (λ m. refl) (λ c. refl)
done_removed cfg a (SetControlSequenceOfOperation v) p e n = absurd (no_write e)
done_removed cfg a (RaiseLowerSetpoint mode amount) p e n =
    let s = a.settings in
    let f = write_of e in
    ap (λ (q : Plan). q.removed) (sym f)
    ∙ ap (λ (q : Plan). q.removed) (done_plan (raise_rows cfg mode) s (plan_sides cfg s mode amount) refl (subst (λ (q : Plan). eqb q.number 0 ≡ true) (sym f) n))
    ∙ sides_removed cfg s mode amount
done_removed cfg a ArmClock p e n = absurd (no_write e)
done_removed cfg a (OutOfBand m) p e n = absurd (no_write e)
done_removed cfg a SeedEvents p e n = absurd (no_write e)
done_removed cfg a Sweep p e n = absurd (no_write e)
done_removed cfg a Timer p e n = absurd (no_write e)
done_removed cfg a Deadline p e n = absurd (no_write e)
done_removed cfg a FactoryReset p e n = absurd (no_write e)
done_removed cfg a (Hour h) p e n = by_hour RemovesNothing mill_week cfg a.settings h (λ m. refl) refl p e

pub planned_removed : PlannedRemoved
unfolding removed plan_removed
planned_removed cfg r d k p h e =
    ap (λ (b : Bool). cond b (removed_when_done cfg r.attrs k) nothing_removed) (ap (λ (o : Outcome). eqb o.number 0) (sound_step cfg r d k h ∙ planned_carried cfg r d k p e) ∙ plan_number cfg d r p)
    ∙ both_cond (λ (x y : Removed). x ≡ y) (eqb p.number 0) _ _ _ _ (λ n. sym (done_removed cfg r.attrs k p e n)) (λ n. refl)

pub unplanned_removed : UnplannedRemoved
unfolding removed removed_when_done planned step_sound heating_message cooling_message limits_message factory_reset
unplanned_removed cfg r d (WriteOccupiedHeatingSetpoint v) h e = absurd (no_write (sym e))
unplanned_removed cfg r d (WriteOccupiedCoolingSetpoint v) h e = absurd (no_write (sym e))
unplanned_removed cfg r d (WriteMinHeatSetpointLimit v) h e = absurd (no_write (sym e))
unplanned_removed cfg r d (WriteMaxHeatSetpointLimit v) h e = absurd (no_write (sym e))
unplanned_removed cfg r d (WriteMinCoolSetpointLimit v) h e = absurd (no_write (sym e))
unplanned_removed cfg r d (WriteMaxCoolSetpointLimit v) h e = absurd (no_write (sym e))
unplanned_removed cfg r d (WriteSystemMode v) h e = absurd (no_write (sym e))
unplanned_removed cfg r d (SetControlSequenceOfOperation v) h e = either (eqb (step cfg r d (SetControlSequenceOfOperation v)).number 0)
unplanned_removed cfg r d (RaiseLowerSetpoint mode amount) h e = absurd (no_write (sym e))
unplanned_removed cfg r d ArmClock h e = either (eqb (step cfg r d ArmClock).number 0)
unplanned_removed cfg r d (OutOfBand LocalTemperature) h e = either (eqb (step cfg r d (OutOfBand LocalTemperature)).number 0)
unplanned_removed cfg r d (OutOfBand RunningState) h e = either (eqb (step cfg r d (OutOfBand RunningState)).number 0)
unplanned_removed cfg r d (OutOfBand Update) h e = either (eqb (step cfg r d (OutOfBand Update)).number 0)
unplanned_removed cfg r d (OutOfBand (OccupiedHeatingSetpoint v)) h e = simp (sound_step cfg r d (OutOfBand (OccupiedHeatingSetpoint v)) h)
unplanned_removed cfg r d (OutOfBand (OccupiedCoolingSetpoint v)) h e = simp (sound_step cfg r d (OutOfBand (OccupiedCoolingSetpoint v)) h)
unplanned_removed cfg r d (OutOfBand (SystemMode v)) h e = either (eqb (step cfg r d (OutOfBand (SystemMode v))).number 0)
unplanned_removed cfg r d (OutOfBand (SetpointLimits w x y z)) h e = simp (sound_step cfg r d (OutOfBand (SetpointLimits w x y z)) h)
unplanned_removed cfg r d SeedEvents h e = either (eqb (step cfg r d SeedEvents).number 0)
unplanned_removed cfg r d Sweep h e = either (eqb (step cfg r d Sweep).number 0)
unplanned_removed cfg r d Timer h e = either (eqb (step cfg r d Timer).number 0)
unplanned_removed cfg r d Deadline h e = either (eqb (step cfg r d Deadline).number 0)
unplanned_removed cfg r d FactoryReset h e = simp (sound_step cfg r d FactoryReset h)
unplanned_removed cfg r d (Hour n) h e = either (eqb (step cfg r d (Hour n)).number 0)

abbrev wide : ℤ → Wide
wide z = record { 0 = z }

nothing_left : (z : ℤ) → (z -ℤ z) ≡ pos 0
nothing_left z = omega (linear, diff_parts z z)

cuts_nothing : (v : Wide) (lo hi : Hundredths) → lo.0 ≤ℤ v.0 → v.0 ≤ℤ hi.0 → CutsNothing v lo hi
unfolding amount_removed asked_less_given clamped
cuts_nothing v lo hi l h = (l, h, ap (λ (z : ℤ). wide (v.0 -ℤ z)) (clamp_within v.0 lo.0 hi.0 l h) ∙ ap wide (nothing_left v.0))

-- with both setpoints within their limits in force, which lie the dead band apart
module _ (cfg : Config) (v : Valid cfg) (t : Settings) (p : Placed cfg t) where
  chain : InForce cfg t
  chain = in_force cfg t v p.limits

  cooling_push : PushCutsNothing cfg t Heating
  unfolding too_near_cooling above plus minus
  cooling_push e =
      let b = both (auto cfg) _ e in
      let d = (dead_band cfg).0 in
      let h = (heating_between cfg t p (v.auto_heats b.0)).1 in
      let c = (cooling_between cfg t p (v.auto_cools b.0)).0 in
      let n = b.1 in
      let u = chain.high b.0 in
      cuts_nothing (plus t.heating (dead_band cfg)) _ _ (omega (linear, sum_parts t.heating.0 d, diff_parts t.cooling.0 d)) (omega (linear, sum_parts t.heating.0 d, sum_parts (max_heat_setpoint cfg t).0 d))

  heating_push : PushCutsNothing cfg t Cooling
  unfolding too_near_heating below plus minus
  heating_push e =
      let b = both (auto cfg) _ e in
      let d = (dead_band cfg).0 in
      let h = (heating_between cfg t p (v.auto_heats b.0)).1 in
      let c = (cooling_between cfg t p (v.auto_cools b.0)).0 in
      let n = b.1 in
      let u = chain.low b.0 in
      cuts_nothing (minus t.cooling (dead_band cfg)) _ _ (omega (linear, diff_parts t.cooling.0 d, sum_parts (min_heat_setpoint cfg t).0 d)) (omega (linear, diff_parts t.cooling.0 d, sum_parts t.heating.0 d))

  repair_push_within : auto cfg ≡ true → CutsNothing (greater (widened t.cooling) (plus t.heating (dead_band cfg))) (min_cool_setpoint cfg t) (max_cool_setpoint cfg t)
  unfolding greater widened plus
  repair_push_within a =
      let d = (dead_band cfg).0 in
      let h = (heating_between cfg t p (v.auto_heats a)).1 in
      let c = cooling_between cfg t p (v.auto_cools a) in
      let l = c.0 in
      let m = c.1 in
      let u = chain.high a in
      cuts_nothing (greater (widened t.cooling) (plus t.heating (dead_band cfg))) _ _ (omega (linear, max_parts t.cooling.0 (t.heating.0 +ℤ d))) (omega (linear, max_parts t.cooling.0 (t.heating.0 +ℤ d), sum_parts t.heating.0 d, sum_parts (max_heat_setpoint cfg t).0 d))

pub repair_push_cuts_nothing : RepairPushCutsNothing
repair_push_cuts_nothing cfg a ok u =
    let v = valid cfg ok in
    let b = repair_limits cfg a in
    let s = b.settings in
    let t = subst (LimitTests cfg) (sym (limits_by_formula cfg v a)) (limits_tested cfg v a.settings) in
    let k = in_force cfg s v t in
    repair_push_within cfg v _
    (subst (Placed cfg) (sym (clamp_steps cfg v b))
    (points_placed cfg v s t _ _ (λ h. rw h (heat_clamped_lem cfg s (widened s.heating) k)) (λ c. rw c (cool_clamped_lem cfg s (widened s.cooling) k))))
    u

-- over the writes: the targets of a plan are placed
module _ (cfg : Config) (v : Valid cfg) (r : Controller) (g : Good cfg r) where
  abbrev s : Settings
  s = r.attrs.settings

  abbrev Pushes : Plan → Type 0
  Pushes p = PushCutsNothing cfg (pushed_from s p) p.sides

  heat_pull_pushes : (x : Stored) → LimitTests cfg (with_stored s x) → (cools cfg ≡ true → in_cool_limits cfg (with_stored s x) (with_stored s x).cooling ≡ true) → Pushes (heating_pulled cfg (with_stored s x) x)
  unfolding heating_pulled
  heat_pull_pushes x l c =
      let t = with_stored s x in
      let w = widened t.heating in
      by_cond Pushes (in_heat_limits cfg t t.heating) _ _ (λ e. tt)
      (λ e. cooling_push cfg v _ (points_placed cfg v t l (clamp_heat_setpoint cfg t w) t.cooling (λ z. heat_clamped_lem cfg t w (in_force cfg t v l)) c))

  cool_pull_pushes : (x : Stored) → LimitTests cfg (with_stored s x) → (heats cfg ≡ true → in_heat_limits cfg (with_stored s x) (with_stored s x).heating ≡ true) → Pushes (cooling_pulled cfg (with_stored s x) x)
  unfolding cooling_pulled
  cool_pull_pushes x l h =
      let t = with_stored s x in
      let w = widened t.cooling in
      by_cond Pushes (in_cool_limits cfg t t.cooling) _ _ (λ e. tt)
      (λ e. heating_push cfg v _ (points_placed cfg v t l t.heating (clamp_cool_setpoint cfg t w) h (λ z. cool_clamped_lem cfg t w (in_force cfg t v l))))

  sides_pushes : (mode : ℕ) (amount : Tenths) → Pushes (plan_sides cfg s mode amount)
  unfolding plan_sides
  sides_pushes mode amount =
      let l = g.placed.limits in
      let k = in_force cfg s v l in
      by_cond Pushes (eqb mode 0) _ _
      (λ e. cooling_push cfg v _ (points_placed cfg v s l _ s.cooling (λ z. raised_heat cfg v no_readings s amount k) (cooling_inside cfg s g.placed.cooling)))
      (λ e. by_cond Pushes (eqb mode 1) _ _
      (λ f. heating_push cfg v _ (points_placed cfg v s l s.heating _ (heating_inside cfg s g.placed.heating) (λ z. raised_cool cfg v no_readings s amount k)))
      (λ f. heating_push cfg v _ (points_placed cfg v s l (heating_target cfg s amount) (cooling_target cfg s amount) (heat_target cfg v no_readings s amount k) (cool_target cfg v no_readings s amount k))))

  plan_pushes : (k : Call) (p : Plan) → planned cfg s k ≡ Some p → Pushes p
  unfolding planned plan_heating_setpoint plan_cooling_setpoint plan_min_heat_limit plan_max_heat_limit plan_min_cool_limit plan_max_cool_limit plan_system_mode plan_raise_lower in_heat_limits in_cool_limits min_heat_setpoint max_heat_setpoint min_cool_setpoint max_cool_setpoint
  plan_pushes (WriteOccupiedHeatingSetpoint x) p e =
      subst Pushes (write_of e) (by_rows Pushes (heating_rows cfg s x) s _ (λ n. tt)
      (λ c. cooling_push cfg v _ (points_placed cfg v s g.placed.limits x s.cooling (λ z. not-false (in_heat_limits cfg s x) c.1.0) (cooling_inside cfg s g.placed.cooling))))
  plan_pushes (WriteOccupiedCoolingSetpoint x) p e =
      subst Pushes (write_of e) (by_rows Pushes (cooling_rows cfg s x) s _ (λ n. tt)
      (λ c. heating_push cfg v _ (points_placed cfg v s g.placed.limits s.heating x (heating_inside cfg s g.placed.heating) (λ z. not-false (in_cool_limits cfg s x) c.1.0))))
  plan_pushes (WriteMinHeatSetpointLimit x) p e =
      subst Pushes (write_of e) (by_rows Pushes (min_heat_rows cfg s x) s _ (λ n. tt) (λ c. heat_pull_pushes (MinHeat x) (min_heat_tests cfg v r g x c) (cooling_inside cfg s g.placed.cooling)))
  plan_pushes (WriteMaxHeatSetpointLimit x) p e =
      subst Pushes (write_of e) (by_rows Pushes (max_heat_rows cfg s x) s _ (λ n. tt) (λ c. heat_pull_pushes (MaxHeat x) (max_heat_tests cfg v r g x c) (cooling_inside cfg s g.placed.cooling)))
  plan_pushes (WriteMinCoolSetpointLimit x) p e =
      subst Pushes (write_of e) (by_rows Pushes (min_cool_rows cfg s x) s _ (λ n. tt) (λ c. cool_pull_pushes (MinCool x) (min_cool_tests cfg v r g x c) (heating_inside cfg s g.placed.heating)))
  plan_pushes (WriteMaxCoolSetpointLimit x) p e =
      subst Pushes (write_of e) (by_rows Pushes (max_cool_rows cfg s x) s _ (λ n. tt) (λ c. cool_pull_pushes (MaxCool x) (max_cool_tests cfg v r g x c) (heating_inside cfg s g.placed.heating)))
  plan_pushes (WriteSystemMode m) p e = subst Pushes (write_of e) (by_rows Pushes (mode_rows cfg m) s _ (λ n. tt) (λ c. tt))
  plan_pushes (SetControlSequenceOfOperation m) p e = absurd (no_write e)
  plan_pushes (RaiseLowerSetpoint mode amount) p e = subst Pushes (write_of e) (by_rows Pushes (raise_rows cfg mode) s _ (λ n. tt) (λ c. sides_pushes mode amount))
  plan_pushes ArmClock p e = absurd (no_write e)
  plan_pushes (OutOfBand m) p e = absurd (no_write e)
  plan_pushes SeedEvents p e = absurd (no_write e)
  plan_pushes Sweep p e = absurd (no_write e)
  plan_pushes Timer p e = absurd (no_write e)
  plan_pushes Deadline p e = absurd (no_write e)
  plan_pushes FactoryReset p e = absurd (no_write e)
  plan_pushes (Hour h) p e =
      let l = g.placed.limits in
      by_hour Pushes mill_week cfg s h (λ n. tt)
      (cooling_push cfg v _ (points_placed cfg v s l _ s.cooling (λ z. heat_clamped_lem cfg s (widened (mill_week h)) (in_force cfg s v l)) (cooling_inside cfg s g.placed.cooling))) p e

pub gap_push_cuts_nothing : GapPushCutsNothing
gap_push_cuts_nothing cfg r k p h e = plan_pushes cfg (valid cfg (sound_accepted cfg r h)) r (good cfg r h) k p e
