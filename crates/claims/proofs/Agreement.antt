-- The whole-list theorem's first half: from a limits message, adjacent writes and a mode write on two controllers agree for ever.
use mathlib.Core.Path.{◌≡◌, refl, sym, ◌∙◌, ap, ap₂, subst}
use mathlib.Core.Bool.{true, not, cond}
use mathlib.Core.List.{List, [], ◌∷◌, ◌++◌, append_assoc}
use Prim.Native.Nat.{ℕ}
use borrow.Author.Tests.{not-false}
use Rattle.units.specs.declared.Hundredths.{Hundredths}
use Rattle.model.specs.Answers.{Outcome}
use Rattle.model.specs.Refusals.{Row, row}
use Rattle.model.specs.Served.{heats, cools}
use Rattle.model.specs.Limits.{in_heat_limits, in_cool_limits}
use Rattle.model.specs.Modes.{is_supported_system_mode}
use Rattle.model.specs.Attribution.{external, claim_setpoints}
use Rattle.model.specs.Validation.{accepted}
use Rattle.model.specs.Repair.{repaired}
use Rattle.model.specs.Sound.{unsound}
use Rattle.model.specs.Orders.{ask_sweep}
use Rattle.model.specs.Writes.{unserved, applied, store_heating_setpoint, store_cooling_setpoint, write_occupied_heating_setpoint, write_occupied_cooling_setpoint, write_system_mode}
use Rattle.model.specs.Messages.{limits_message, limits_taken}
use Rattle.model.specs.Step.{opened, step, step_sound}
use Rattle.records.specs.declared.Config.{Config}
use Rattle.records.specs.declared.Settings.{Settings}
use Rattle.records.specs.declared.Attrs.{Attrs}
use Rattle.records.specs.declared.Controller.{Controller}
use Rattle.records.specs.declared.Readings.{Readings}
use Rattle.records.specs.declared.OutOfBandMessage.TheVariants.{SetpointLimits}
use Rattle.records.specs.declared.Call.{Call}
use Rattle.records.specs.declared.Call.TheVariants.{WriteOccupiedHeatingSetpoint, WriteOccupiedCoolingSetpoint, WriteSystemMode, OutOfBand}
use Rattle.model.specs.Lists.{Entry, entry, after, number, run, numbers}
use Rattle.claims.specs.Claims.{AllAccepted, EqualSetpoints, limits_entry, Adjacent, heating_cooling, cooling_heating, heating_only, cooling_only, LimitsThenWrites, ModeWritten, Agreement, LimitsAgree, ModesAgree, SetpointsAgree}
use Rattle.model.proofs.Logic.{accepted_clear, clear_outcome, clash}
use Rattle.model.proofs.Valid.{Valid, valid}
use Rattle.model.proofs.Good.{Good, is_good}
use Rattle.model.proofs.Refused.{sound_step}
use Rattle.model.proofs.Kept.{step_good, opened_good}
use Rattle.model.proofs.Agree.{SameLimits, SamePoints, limits_in_force, heating_points, cooling_points}
use Rattle.model.proofs.Mode.{mode_after, step_mode}
use Rattle.claims.proofs.Band.{run_good}
use Rattle.model.proofs.Pairs.{taken_limits, step_both, v}

-- whole lists
run_append : (cfg : Config) (l m : List Entry) (r : Controller) → run cfg r (l ++ m) ≡ run cfg (run cfg r l) m
unfolding run
run_append cfg [] m r = refl
run_append cfg (e ∷ l) m r = run_append cfg l m (after cfg r e)

module _ (cfg : Config) (ok : accepted cfg ≡ true) where
  w : Valid cfg
  w = valid cfg ok

  abbrev LimitsEqual : Controller → Controller → Type 0
  LimitsEqual q r = SameLimits q.attrs.settings r.attrs.settings

  abbrev PointsEqual : Controller → Controller → Type 0
  PointsEqual q r = SamePoints cfg q.attrs.settings r.attrs.settings

  pub step_kept : (e : Entry) (r : Controller) → Good cfg r → Good cfg (after cfg r e)
  step_kept e r g = step_good cfg w e.readings r g e.call

  pub run_limits : (l : List Entry) (q r : Controller) → Good cfg q → Good cfg r → LimitsEqual q r → LimitsEqual (run cfg q l) (run cfg r l)
  unfolding run
  run_limits [] q r gq gr k = k
  run_limits (e ∷ l) q r gq gr k = run_limits l (after cfg q e) (after cfg r e) (step_kept e q gq) (step_kept e r gr) (step_both cfg ok e.readings q r gq gr k e.call).limits

  pub run_numbers : (l : List Entry) (q r : Controller) → Good cfg q → Good cfg r → LimitsEqual q r → numbers cfg q l ≡ numbers cfg r l
  unfolding numbers
  run_numbers [] q r gq gr k = refl
  run_numbers (e ∷ l) q r gq gr k =
      let s = step_both cfg ok e.readings q r gq gr k e.call in
      ap₂ ◌∷◌ s.number (run_numbers l (after cfg q e) (after cfg r e) (step_kept e q gq) (step_kept e r gr) s.limits)

  pub run_points : (l : List Entry) (q r : Controller) → Good cfg q → Good cfg r → LimitsEqual q r → PointsEqual q r → PointsEqual (run cfg q l) (run cfg r l)
  unfolding run
  run_points [] q r gq gr k p = p
  run_points (e ∷ l) q r gq gr k p =
      let s = step_both cfg ok e.readings q r gq gr k e.call in
      run_points l (after cfg q e) (after cfg r e) (step_kept e q gq) (step_kept e r gr) s.limits (s.points p)

  pub run_mode : (l : List Entry) (q r : Controller) → Good cfg q → Good cfg r → q.attrs.settings.mode ≡ r.attrs.settings.mode → (run cfg q l).attrs.settings.mode ≡ (run cfg r l).attrs.settings.mode
  unfolding run
  run_mode [] q r gq gr e = e
  run_mode (x ∷ l) q r gq gr e =
      run_mode l (after cfg q x) (after cfg r x) (step_kept x q gq) (step_kept x r gr)
      (step_mode cfg w x.readings q gq (is_good cfg q ok gq) x.call ∙ ap (λ (m : ℕ). mode_after cfg m x.call) e ∙ sym (step_mode cfg w x.readings r gr (is_good cfg r ok gr) x.call))

  -- what starts each of the three
  limits_attrs : (x y z u : Hundredths) (d : Readings) (q : Controller) → Good cfg q → (after cfg q (limits_entry x y z u d)).attrs ≡ repaired cfg (limits_taken cfg q.attrs x y z u)
  unfolding step_sound limits_message ask_sweep
  limits_attrs x y z u d q g = ap (λ (o : Outcome). o.rec.attrs) (sound_step cfg q d (OutOfBand (SetpointLimits x y z u)) (is_good cfg q ok g))

  limits_made : (x y z u : Hundredths) (d : Readings) (q r : Controller) → Good cfg q → Good cfg r → LimitsEqual (after cfg q (limits_entry x y z u d)) (after cfg r (limits_entry x y z u d))
  limits_made x y z u d q r gq gr =
      subst (λ (a : Attrs). SameLimits a.settings (after cfg r (limits_entry x y z u d)).attrs.settings) (sym (limits_attrs x y z u d q gq))
      (subst (λ (b : Attrs). SameLimits (repaired cfg (limits_taken cfg q.attrs x y z u)).settings b.settings) (sym (limits_attrs x y z u d r gr)) (taken_limits cfg w q.attrs r.attrs x y z u))

  -- an accepted call came on a record that passes row 28
  accepted_sound : (q : Controller) (d : Readings) (k : Call) → (step cfg q d k).number ≡ 0 → (step cfg q d k ≡ step_sound cfg q d k) × ((step_sound cfg q d k).number ≡ 0)
  unfolding step
  accepted_sound q d k e =
      let p = clear_outcome (unsound cfg q ∷ []) q (step_sound cfg q d k) (accepted_clear (unsound cfg q ∷ []) q _ refl e) in
      (p, ap (λ (o : Outcome). o.number) (sym p) ∙ e)

  mode_supported : (m : ℕ) (d : Readings) (q : Controller) → number cfg q (entry (WriteSystemMode m) d) ≡ 0 → is_supported_system_mode cfg m ≡ true
  unfolding step_sound write_system_mode
  mode_supported m d q e = not-false (is_supported_system_mode cfg m) (accepted_clear (row 22 (not (is_supported_system_mode cfg m)) ∷ []) q _ refl (accepted_sound q d (WriteSystemMode m) e).1).0

  mode_made : (m : ℕ) (d : Readings) (q r : Controller) → Good cfg q → Good cfg r → number cfg q (entry (WriteSystemMode m) d) ≡ 0 → (after cfg q (entry (WriteSystemMode m) d)).attrs.settings.mode ≡ (after cfg r (entry (WriteSystemMode m) d)).attrs.settings.mode
  mode_made m d q r gq gr e =
      let s = mode_supported m d q e in
      let one : (n : ℕ) → cond (is_supported_system_mode cfg m) m n ≡ m = λ n. simp s in
      step_mode cfg w d q gq (is_good cfg q ok gq) (WriteSystemMode m) ∙ one _ ∙ sym (one _) ∙ sym (step_mode cfg w d r gr (is_good cfg r ok gr) (WriteSystemMode m))

  -- the settings that an accepted setpoint write leaves
  heat_written : (h : Hundredths) (d : Readings) (q : Controller) → number cfg q (entry (WriteOccupiedHeatingSetpoint h) d) ≡ 0 → (after cfg q (entry (WriteOccupiedHeatingSetpoint h) d)).attrs ≡ (store_heating_setpoint cfg d external h q).rec.attrs
  unfolding step_sound write_occupied_heating_setpoint applied ask_sweep
  heat_written h d q e =
      let ws : List Row = unserved cfg 0x12 ∷ row 22 (not (in_heat_limits cfg q.attrs.settings h)) ∷ [] in
      let o = applied cfg d (store_heating_setpoint cfg d external h q) in
      let a = accepted_sound q d (WriteOccupiedHeatingSetpoint h) e in
      ap (λ (x : Outcome). x.rec.attrs) (a.0 ∙ clear_outcome ws q o (accepted_clear ws q o refl a.1))

  cool_written : (c : Hundredths) (d : Readings) (q : Controller) → number cfg q (entry (WriteOccupiedCoolingSetpoint c) d) ≡ 0 → (after cfg q (entry (WriteOccupiedCoolingSetpoint c) d)).attrs ≡ (store_cooling_setpoint cfg d external c q).rec.attrs
  unfolding step_sound write_occupied_cooling_setpoint applied ask_sweep
  cool_written c d q e =
      let ws : List Row = unserved cfg 0x11 ∷ row 22 (not (in_cool_limits cfg q.attrs.settings c)) ∷ [] in
      let o = applied cfg d (store_cooling_setpoint cfg d external c q) in
      let a = accepted_sound q d (WriteOccupiedCoolingSetpoint c) e in
      ap (λ (x : Outcome). x.rec.attrs) (a.0 ∙ clear_outcome ws q o (accepted_clear ws q o refl a.1))

  points_of : (a b c e : Attrs) → a ≡ c → b ≡ e → SamePoints cfg c.settings e.settings → SamePoints cfg a.settings b.settings
  points_of a b c e f g p =
      subst (λ (x : Attrs). SamePoints cfg x.settings b.settings) (sym f) (subst (λ (y : Attrs). SamePoints cfg c.settings y.settings) (sym g) p)

  -- one accepted write on both: its own side is equal, and the other where it was
  module _ (q r : Controller) (gq : Good cfg q) (gr : Good cfg r) (l : LimitsEqual q r) where
    heat_both : (h : Hundredths) (d : Readings) → number cfg q (entry (WriteOccupiedHeatingSetpoint h) d) ≡ 0 → (cools cfg ≡ true → q.attrs.settings.cooling ≡ r.attrs.settings.cooling)
        → PointsEqual (after cfg q (entry (WriteOccupiedHeatingSetpoint h) d)) (after cfg r (entry (WriteOccupiedHeatingSetpoint h) d))
    heat_both h d e f =
        let s = step_both cfg ok d q r gq gr l (WriteOccupiedHeatingSetpoint h) in
        points_of _ _ _ _ (heat_written h d q e) (heat_written h d r (sym s.number ∙ e)) (heating_points cfg d q r l external h h refl f)

    cool_both : (c : Hundredths) (d : Readings) → number cfg q (entry (WriteOccupiedCoolingSetpoint c) d) ≡ 0 → (heats cfg ≡ true → q.attrs.settings.heating ≡ r.attrs.settings.heating)
        → PointsEqual (after cfg q (entry (WriteOccupiedCoolingSetpoint c) d)) (after cfg r (entry (WriteOccupiedCoolingSetpoint c) d))
    cool_both c d e f =
        let s = step_both cfg ok d q r gq gr l (WriteOccupiedCoolingSetpoint c) in
        points_of _ _ _ _ (cool_written c d q e) (cool_written c d r (sym s.number ∙ e)) (cooling_points cfg d q r l c c refl f)

    -- after the first of two, its own side alone
    heat_side : (h : Hundredths) (d : Readings) → number cfg q (entry (WriteOccupiedHeatingSetpoint h) d) ≡ 0
        → (after cfg q (entry (WriteOccupiedHeatingSetpoint h) d)).attrs.settings.heating ≡ (after cfg r (entry (WriteOccupiedHeatingSetpoint h) d)).attrs.settings.heating
    unfolding store_heating_setpoint claim_setpoints
    heat_side h d e =
        let s = step_both cfg ok d q r gq gr l (WriteOccupiedHeatingSetpoint h) in
        ap (λ (a : Attrs). a.settings.heating) (heat_written h d q e) ∙ sym (ap (λ (a : Attrs). a.settings.heating) (heat_written h d r (sym s.number ∙ e)))

    cool_side : (c : Hundredths) (d : Readings) → number cfg q (entry (WriteOccupiedCoolingSetpoint c) d) ≡ 0
        → (after cfg q (entry (WriteOccupiedCoolingSetpoint c) d)).attrs.settings.cooling ≡ (after cfg r (entry (WriteOccupiedCoolingSetpoint c) d)).attrs.settings.cooling
    unfolding store_cooling_setpoint claim_setpoints
    cool_side c d e =
        let s = step_both cfg ok d q r gq gr l (WriteOccupiedCoolingSetpoint c) in
        ap (λ (a : Attrs). a.settings.cooling) (cool_written c d q e) ∙ sym (ap (λ (a : Attrs). a.settings.cooling) (cool_written c d r (sym s.number ∙ e)))

  points_made : (ws : List Entry) (q r : Controller) → Adjacent cfg ws → Good cfg q → Good cfg r → LimitsEqual q r → AllAccepted cfg q ws → PointsEqual (run cfg q ws) (run cfg r ws)
  unfolding run
  points_made ws q r (heating_cooling h c d e) gq gr l a =
      let f = entry (WriteOccupiedHeatingSetpoint h) d in
      let s = step_both cfg ok d q r gq gr l (WriteOccupiedHeatingSetpoint h) in
      cool_both (after cfg q f) (after cfg r f) (step_kept f q gq) (step_kept f r gr) s.limits c e a.1.0 (λ x. heat_side q r gq gr l h d a.0)
  points_made ws q r (cooling_heating c h d e) gq gr l a =
      let f = entry (WriteOccupiedCoolingSetpoint c) d in
      let s = step_both cfg ok d q r gq gr l (WriteOccupiedCoolingSetpoint c) in
      heat_both (after cfg q f) (after cfg r f) (step_kept f q gq) (step_kept f r gr) s.limits h e a.1.0 (λ x. cool_side q r gq gr l c d a.0)
  points_made ws q r (heating_only h d n) gq gr l a = heat_both q r gq gr l h d a.0 (λ x. clash (cools cfg) x (sym w.cooling_served ∙ n))
  points_made ws q r (cooling_only c d n) gq gr l a = cool_both q r gq gr l c d a.0 (λ x. clash (heats cfg) x (sym w.heating_served ∙ n))

-- after the limits message and whatever follows
module _ (cfg : Config) (ok : accepted cfg ≡ true) (q r : Controller) (gq : Good cfg q) (gr : Good cfg r) where
  good_after : (l : List Entry) → Good cfg (run cfg q l) × Good cfg (run cfg r l)
  good_after l = (run_good cfg (valid cfg ok) l q gq, run_good cfg (valid cfg ok) l r gr)

  limits_from : (l m : List Entry) (x y z u : Hundredths) (d : Readings) → SameLimits (run cfg q (l ++ (limits_entry x y z u d ∷ m))).attrs.settings (run cfg r (l ++ (limits_entry x y z u d ∷ m))).attrs.settings
  unfolding run
  limits_from l m x y z u d =
      let e = limits_entry x y z u d in
      let g = good_after l in
      let k = limits_made cfg ok x y z u d (run cfg q l) (run cfg r l) g.0 g.1 in
      rw (run_append cfg l (e ∷ m) q, run_append cfg l (e ∷ m) r)
      (run_limits cfg ok m (after cfg (run cfg q l) e) (after cfg (run cfg r l) e) (step_kept cfg ok e (run cfg q l) g.0) (step_kept cfg ok e (run cfg r l) g.1) k)

  mode_from : (l : List Entry) → ModeWritten cfg q l → (run cfg q l).attrs.settings.mode ≡ (run cfg r l).attrs.settings.mode
  unfolding run
  mode_from l m =
      let e = entry (WriteSystemMode m.mode) m.readings in
      let g = good_after m.before in
      let a = run cfg q m.before in
      let b = run cfg r m.before in
      rw (m.whole, run_append cfg m.before (e ∷ m.later) q, run_append cfg m.before (e ∷ m.later) r)
      (run_mode cfg ok m.later (after cfg a e) (after cfg b e) (step_kept cfg ok e a g.0) (step_kept cfg ok e b g.1) (mode_made cfg ok m.mode m.readings a b g.0 g.1 m.taken))

  -- the records when the adjacent writes come, and after them
  points_from : (l : List Entry) → LimitsThenWrites cfg q l → SamePoints cfg (run cfg q l).attrs.settings (run cfg r l).attrs.settings
  points_from l p =
      let e = limits_entry p.minheat p.maxheat p.mincool p.maxcool p.readings in
      let front = p.before ++ (e ∷ p.between) in
      let g = good_after front in
      let a = run cfg q front in
      let b = run cfg r front in
      let k = limits_from p.before p.between p.minheat p.maxheat p.mincool p.maxcool p.readings in
      let m = points_made cfg ok p.writes a b p.adjacent g.0 g.1 k p.taken in
      let v = valid cfg ok in
      let h : l ≡ front ++ (p.writes ++ p.later) = p.whole ∙ sym (append_assoc p.before (e ∷ p.between) (p.writes ++ p.later)) in
      rw (h, run_append cfg front (p.writes ++ p.later) q, run_append cfg front (p.writes ++ p.later) r, run_append cfg p.writes p.later a, run_append cfg p.writes p.later b)
      (run_points cfg ok p.later (run cfg a p.writes) (run cfg b p.writes) (run_good cfg v p.writes a g.0) (run_good cfg v p.writes b g.1) (run_limits cfg ok p.writes a b g.0 g.1 k) m)

pub served_points : (cfg : Config) (v : Valid cfg) (s t : Settings) → SamePoints cfg s t → EqualSetpoints cfg s t
served_points cfg v s t p = record { heating = λ e. p.heating (sym v.heating_served ∙ e); cooling = λ e. p.cooling (sym v.cooling_served ∙ e) }

pub limits_agree : LimitsAgree
unfolding run
limits_agree cfg s t l m a b c e d ok =
    let q = (opened cfg s).rec in
    let r = (opened cfg t).rec in
    let gq = opened_good cfg s ok in
    let gr = opened_good cfg t ok in
    let x = l ++ (limits_entry a b c e d ∷ []) in
    let g = good_after cfg ok q r gq gr x in (
      limits_in_force cfg _ _ (limits_from cfg ok q r gq gr l m a b c e d),
      run_numbers cfg ok m (run cfg q x) (run cfg r x) g.0 g.1 (limits_from cfg ok q r gq gr l [] a b c e d),
    )

pub modes_agree : ModesAgree
modes_agree cfg s t l ok m = mode_from cfg ok (opened cfg s).rec (opened cfg t).rec (opened_good cfg s ok) (opened_good cfg t ok) l m

pub setpoints_agree : SetpointsAgree
setpoints_agree cfg s t l ok p = served_points cfg (valid cfg ok) _ _ (points_from cfg ok (opened cfg s).rec (opened cfg t).rec (opened_good cfg s ok) (opened_good cfg t ok) l p)

-- a list that meets the premises still meets them when it goes on
longer_writes : (cfg : Config) (r : Controller) (l m : List Entry) → LimitsThenWrites cfg r l → LimitsThenWrites cfg r (l ++ m)
longer_writes cfg r l m p =
    let e = limits_entry p.minheat p.maxheat p.mincool p.maxcool p.readings in
    record {
      before = p.before;
      minheat = p.minheat;
      maxheat = p.maxheat;
      mincool = p.mincool;
      maxcool = p.maxcool;
      readings = p.readings;
      between = p.between;
      writes = p.writes;
      later = p.later ++ m;
      whole = ap (λ (x : List Entry). x ++ m) p.whole ∙ simp append_assoc;
      adjacent = p.adjacent;
      taken = p.taken;
    }

longer_mode : (cfg : Config) (r : Controller) (l m : List Entry) → ModeWritten cfg r l → ModeWritten cfg r (l ++ m)
longer_mode cfg r l m p =
    record { before = p.before; mode = p.mode; readings = p.readings; later = p.later ++ m; whole = ap (λ (x : List Entry). x ++ m) p.whole ∙ simp append_assoc; taken = p.taken }

-- the stored limits are equal once the list has its limits message
limits_then : (cfg : Config) (ok : accepted cfg ≡ true) (q r : Controller) (gq : Good cfg q) (gr : Good cfg r) (l : List Entry) → LimitsThenWrites cfg q l → SameLimits (run cfg q l).attrs.settings (run cfg r l).attrs.settings
limits_then cfg ok q r gq gr l p = rw p.whole (limits_from cfg ok q r gq gr p.before (p.between ++ (p.writes ++ p.later)) p.minheat p.maxheat p.mincool p.maxcool p.readings)

pub agreement : Agreement
agreement cfg s t l m ok p n =
    let q = (opened cfg s).rec in
    let r = (opened cfg t).rec in
    let gq = opened_good cfg s ok in
    let gr = opened_good cfg t ok in
    let g = good_after cfg ok q r gq gr l in
    let p' = longer_writes cfg q l m p in (
      record {
        limits = limits_in_force cfg _ _ (limits_then cfg ok q r gq gr (l ++ m) p');
        setpoints = setpoints_agree cfg s t (l ++ m) ok p';
        mode = modes_agree cfg s t (l ++ m) ok (longer_mode cfg q l m n);
      },
      run_numbers cfg ok m (run cfg q l) (run cfg r l) g.0 g.1 (limits_then cfg ok q r gq gr l p),
    )
