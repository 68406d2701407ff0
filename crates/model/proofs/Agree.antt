-- Two controllers that get the same calls: equal limits, modes and setpoints travel along the list, each by itself.
use mathlib.Core.Path.{◌≡◌, refl, sym, ◌∙◌, ap, subst}
use mathlib.Core.Bool.{Bool, true, false, not, ◌&&◌, cond}
use mathlib.Core.List.{List, [], ◌∷◌}
use Prim.Native.Nat.{ℕ}
use lib.Dec.{eqb}
use borrow.Author.Tests.{not-false}
use Rattle.units.specs.Units.{widened, raised}
use Rattle.units.specs.declared.Hundredths.{Hundredths}
use Rattle.units.specs.declared.Tenths.{Tenths}
use Rattle.model.specs.Answers.{Outcome, Stage, quiet, unchanged}
use Rattle.model.specs.Refusals.{Row, unless, Clear}
use Rattle.model.specs.Served.{heats, cools, auto, has_heat_limits, has_cool_limits}
use Rattle.model.specs.Limits.{EqualLimits, min_heat_setpoint, max_heat_setpoint, min_cool_setpoint, max_cool_setpoint, in_heat_limits, in_cool_limits, clamp_heat_setpoint, clamp_cool_setpoint}
use Rattle.model.specs.Attribution.{external, claim_setpoints}
use Rattle.model.specs.Repair.{repaired}
use Rattle.model.specs.RepairedSettings.{repaired_limits, repaired_settings}
use Rattle.model.specs.Writes.{too_near_cooling, too_near_heating, cooling_with_gap, heating_with_gap, store_heating_setpoint, store_cooling_setpoint, pull_heating, pull_cooling}
use Rattle.model.specs.RaiseBoth.{heating_target, cooling_target, targets_stored, raise_both}
use Rattle.model.specs.RaiseLower.{names_absent_side, raise_heating, raise_cooling, raise_sides}
use Rattle.records.specs.declared.Config.{Config}
use Rattle.records.specs.declared.Settings.{Settings}
use Rattle.records.specs.declared.Attrs.{Attrs}
use Rattle.records.specs.declared.Controller.{Controller}
use Rattle.records.specs.declared.Readings.{Readings}
use Rattle.model.proofs.Logic.{by_cond, both_cond, cases, neither, not_both}
use Rattle.model.proofs.Valid.{Valid}
use Rattle.model.proofs.Repair.{by_formula}

-- equal stored limits
pub record SameLimits (s t : Settings) : Type 0 where
  pub minheat : s.minheat ≡ t.minheat
  pub maxheat : s.maxheat ≡ t.maxheat
  pub mincool : s.mincool ≡ t.mincool
  pub maxcool : s.maxcool ≡ t.maxcool

-- equal setpoints of the sides that the features have
pub record SamePoints (cfg : Config) (s t : Settings) : Type 0 where
  pub heating : heats cfg ≡ true → s.heating ≡ t.heating
  pub cooling : cools cfg ≡ true → s.cooling ≡ t.cooling

-- two guarded outcomes with the same rows
both_guarded : (R : Outcome → Outcome → Type 0) (ws : List Row) (q r : Controller) (o p : Outcome) → ((n : ℕ) → R (quiet n q) (quiet n r)) → (Clear ws → R o p) → R (unless ws q o) (unless ws r p)
unfolding unless
both_guarded R [] q r o p f g = g tt
both_guarded R (w ∷ ws) q r o p f g =
    both_cond R w.cause (quiet w.number q) (unless ws q o) (quiet w.number r) (unless ws r p) (λ e. f w.number) (λ e. both_guarded R ws q r o p f (λ c. g (e, c)))

pub both_unless : (R : Outcome → Outcome → Type 0) (ws vs : List Row) (q r : Controller) (o p : Outcome) → ws ≡ vs → ((n : ℕ) → R (quiet n q) (quiet n r)) → (Clear ws → R o p) → R (unless ws q o) (unless vs r p)
both_unless R ws vs q r o p e f g = subst (λ (x : List Row). R (unless ws q o) (unless x r p)) e (both_guarded R ws q r o p f g)

module _ (cfg : Config) (s t : Settings) (k : SameLimits s t) where
  pub limits_in_force : EqualLimits cfg s t
  unfolding min_heat_setpoint max_heat_setpoint min_cool_setpoint max_cool_setpoint
  limits_in_force =
      record {
        min_heat = ap (λ (x : Hundredths). cond (has_heat_limits cfg) x cfg.absminheat) k.minheat;
        max_heat = ap (λ (x : Hundredths). cond (has_heat_limits cfg) x cfg.absmaxheat) k.maxheat;
        min_cool = ap (λ (x : Hundredths). cond (has_cool_limits cfg) x cfg.absmincool) k.mincool;
        max_cool = ap (λ (x : Hundredths). cond (has_cool_limits cfg) x cfg.absmaxcool) k.maxcool;
      }

  pub same_in_heat : (x y : Hundredths) → x ≡ y → in_heat_limits cfg s x ≡ in_heat_limits cfg t y
  unfolding in_heat_limits
  same_in_heat x y e = let l = limits_in_force in simp (e, l.min_heat, l.max_heat)

  pub same_in_cool : (x y : Hundredths) → x ≡ y → in_cool_limits cfg s x ≡ in_cool_limits cfg t y
  unfolding in_cool_limits
  same_in_cool x y e = let l = limits_in_force in simp (e, l.min_cool, l.max_cool)

  pub same_clamp_heat : (x y : Hundredths) → x ≡ y → clamp_heat_setpoint cfg s (widened x) ≡ clamp_heat_setpoint cfg t (widened y)
  unfolding clamp_heat_setpoint
  same_clamp_heat x y e = let l = limits_in_force in simp (e, l.min_heat, l.max_heat)

  pub same_clamp_cool : (x y : Hundredths) → x ≡ y → clamp_cool_setpoint cfg s (widened x) ≡ clamp_cool_setpoint cfg t (widened y)
  unfolding clamp_cool_setpoint
  same_clamp_cool x y e = let l = limits_in_force in simp (e, l.min_cool, l.max_cool)

  -- the other setpoint, with the gap kept to a stored one
  same_cooling_with_gap : (x y : Hundredths) → x ≡ y → s.cooling ≡ t.cooling → cooling_with_gap cfg s x ≡ cooling_with_gap cfg t y
  unfolding cooling_with_gap too_near_cooling clamp_cool_setpoint
  same_cooling_with_gap x y e c = let l = limits_in_force in simp (e, c, l.min_cool, l.max_cool)

  same_heating_with_gap : (x y : Hundredths) → x ≡ y → s.heating ≡ t.heating → heating_with_gap cfg s x ≡ heating_with_gap cfg t y
  unfolding heating_with_gap too_near_heating clamp_heat_setpoint
  same_heating_with_gap x y e h = let l = limits_in_force in simp (e, h, l.min_heat, l.max_heat)

  same_raised_heat : (a : Tenths) → s.heating ≡ t.heating → raised s.heating a (min_heat_setpoint cfg s) (max_heat_setpoint cfg s) ≡ raised t.heating a (min_heat_setpoint cfg t) (max_heat_setpoint cfg t)
  same_raised_heat a h = let l = limits_in_force in simp (h, l.min_heat, l.max_heat)

  same_raised_cool : (a : Tenths) → s.cooling ≡ t.cooling → raised s.cooling a (min_cool_setpoint cfg s) (max_cool_setpoint cfg s) ≡ raised t.cooling a (min_cool_setpoint cfg t) (max_cool_setpoint cfg t)
  same_raised_cool a c = let l = limits_in_force in simp (c, l.min_cool, l.max_cool)

pub self : (s : Settings) → SameLimits s s
self s = record { minheat = refl; maxheat = refl; mincool = refl; maxcool = refl }

pub chained : {s t u w : Settings} → SameLimits s t → SameLimits u w → SameLimits t w → SameLimits s u
chained a b c =
    record { minheat = a.minheat ∙ c.minheat ∙ sym b.minheat; maxheat = a.maxheat ∙ c.maxheat ∙ sym b.maxheat; mincool = a.mincool ∙ c.mincool ∙ sym b.mincool; maxcool = a.maxcool ∙ c.maxcool ∙ sym b.maxcool }

-- the limits that a call leaves which stores none
module _ (cfg : Config) (d : Readings) where
  abbrev pub KeepsLimits : Controller → Stage → Type 0
  KeepsLimits r q = SameLimits q.rec.attrs.settings r.attrs.settings

  pub heating_limits : (source : ℕ) (h : Hundredths) (r : Controller) → KeepsLimits r (store_heating_setpoint cfg d source h r)
  unfolding store_heating_setpoint claim_setpoints
  heating_limits source h r = record { minheat = refl; maxheat = refl; mincool = refl; maxcool = refl }

  pub cooling_limits : (source : ℕ) (c : Hundredths) (r : Controller) → KeepsLimits r (store_cooling_setpoint cfg d source c r)
  unfolding store_cooling_setpoint claim_setpoints
  cooling_limits source c r = record { minheat = refl; maxheat = refl; mincool = refl; maxcool = refl }

  pub pull_heat_limits : (r : Controller) → KeepsLimits r (pull_heating cfg d r)
  unfolding pull_heating
  pull_heat_limits r =
      let s = r.attrs.settings in
      by_cond (KeepsLimits r) (in_heat_limits cfg s s.heating) (unchanged r) _ (λ e. self s) (λ e. heating_limits external (clamp_heat_setpoint cfg s (widened s.heating)) r)

  pub pull_cool_limits : (r : Controller) → KeepsLimits r (pull_cooling cfg d r)
  unfolding pull_cooling
  pull_cool_limits r =
      let s = r.attrs.settings in
      by_cond (KeepsLimits r) (in_cool_limits cfg s s.cooling) (unchanged r) _ (λ e. self s) (λ e. cooling_limits external (clamp_cool_setpoint cfg s (widened s.cooling)) r)

  raise_heat_limits : (a : Tenths) (r : Controller) → KeepsLimits r (raise_heating cfg d a r)
  unfolding raise_heating
  raise_heat_limits a r = heating_limits external _ r

  raise_cool_limits : (a : Tenths) (r : Controller) → KeepsLimits r (raise_cooling cfg d a r)
  unfolding raise_cooling
  raise_cool_limits a r = cooling_limits external _ r

  raise_both_limits : (a : Tenths) (r : Controller) → KeepsLimits r (raise_both cfg d a r)
  unfolding raise_both claim_setpoints
  raise_both_limits a r = record { minheat = refl; maxheat = refl; mincool = refl; maxcool = refl }

  pub raise_limits : (mode : ℕ) (a : Tenths) (r : Controller) → KeepsLimits r (raise_sides cfg d mode a r)
  unfolding raise_sides
  raise_limits mode a r =
      by_cond (KeepsLimits r) (eqb mode 0) _ _ (λ e. raise_heat_limits a r) (λ e. by_cond (KeepsLimits r) (eqb mode 1) _ _ (λ f. raise_cool_limits a r) (λ f. raise_both_limits a r))

-- repair: limits from limits, setpoints from limits and setpoints
module _ (cfg : Config) (s t : Settings) (l : SameLimits s t) where
  formula_limits : SameLimits (repaired_limits cfg s) (repaired_limits cfg t)
  unfolding repaired_limits
  formula_limits =
      record { minheat = simp (l.minheat, l.mincool); maxheat = simp (l.minheat, l.maxheat, l.mincool, l.maxcool); mincool = simp l.mincool; maxcool = simp (l.mincool, l.maxcool) }

  formula_points : Valid cfg → SamePoints cfg s t → SamePoints cfg (repaired_settings cfg s) (repaired_settings cfg t)
  unfolding repaired_settings
  formula_points v p =
      let x = repaired_limits cfg s in
      let y = repaired_limits cfg t in
      let k = formula_limits in
      record {
        heating = λ h. simp (h, same_clamp_heat cfg x y k s.heating t.heating (p.heating h));
        cooling = λ c. let e = same_clamp_cool cfg x y k s.cooling t.cooling (p.cooling c) in
            cases (auto cfg) (λ a. simp (c, a, e, same_clamp_heat cfg x y k s.heating t.heating (p.heating (v.auto_heats a)))) (λ a. simp (c, a, e));
      }

module _ (cfg : Config) (v : Valid cfg) (a b : Attrs) (l : SameLimits a.settings b.settings) where
  at_formulas : (R : Settings → Settings → Type 0) → R (repaired_settings cfg a.settings) (repaired_settings cfg b.settings) → R (repaired cfg a).settings (repaired cfg b).settings
  at_formulas R k =
      subst (λ (x : Settings). R x (repaired cfg b).settings) (sym (by_formula cfg v a)) (subst (R (repaired_settings cfg a.settings)) (sym (by_formula cfg v b)) k)

  pub repaired_limits_lem : SameLimits (repaired cfg a).settings (repaired cfg b).settings
  unfolding repaired_settings
  repaired_limits_lem =
      let k = formula_limits cfg a.settings b.settings l in
      at_formulas SameLimits (record { minheat = k.minheat; maxheat = k.maxheat; mincool = k.mincool; maxcool = k.maxcool })

  pub repaired_points : SamePoints cfg a.settings b.settings → SamePoints cfg (repaired cfg a).settings (repaired cfg b).settings
  repaired_points p = at_formulas (SamePoints cfg) (formula_points cfg a.settings b.settings l v p)

both_test : {X : Type 0} (R : X → X → Type 0) (b c : Bool) (x y u w : X) → b ≡ c → (b ≡ true → R x u) → (b ≡ false → R y w) → R (cond b x y) (cond c u w)
both_test R b c x y u w e f g = subst (λ (z : Bool). R (cond b x y) (cond z u w)) e (both_cond R b x y u w f g)

-- without AUTO the gap moves nothing
without_auto : (cfg : Config) (s : Settings) (c : Hundredths) → auto cfg ≡ false → heating_with_gap cfg s c ≡ s.heating
unfolding heating_with_gap too_near_heating
without_auto cfg s c e = simp e

-- setpoints after stores of equal values
module _ (cfg : Config) (d : Readings) where
  abbrev pub PointsAlike : Stage → Stage → Type 0
  PointsAlike x y = SamePoints cfg x.rec.attrs.settings y.rec.attrs.settings

  -- a store fixes its own side, and the other from the other's old value
  module _ (q r : Controller) (l : SameLimits q.attrs.settings r.attrs.settings) where
    pub heating_points : (source : ℕ) (x y : Hundredths) → x ≡ y → (cools cfg ≡ true → q.attrs.settings.cooling ≡ r.attrs.settings.cooling) → PointsAlike (store_heating_setpoint cfg d source x q) (store_heating_setpoint cfg d source y r)
    unfolding store_heating_setpoint claim_setpoints
    heating_points source x y e f = record { heating = λ h. e; cooling = λ c. same_cooling_with_gap cfg q.attrs.settings r.attrs.settings l x y e (f c) }

    pub cooling_points : (x y : Hundredths) → x ≡ y → (heats cfg ≡ true → q.attrs.settings.heating ≡ r.attrs.settings.heating) → PointsAlike (store_cooling_setpoint cfg d external x q) (store_cooling_setpoint cfg d external y r)
    unfolding store_cooling_setpoint claim_setpoints
    cooling_points x y e f = record { heating = λ h. same_heating_with_gap cfg q.attrs.settings r.attrs.settings l x y e (f h); cooling = λ c. e }

  module _ (q r : Controller) (l : SameLimits q.attrs.settings r.attrs.settings) (p : SamePoints cfg q.attrs.settings r.attrs.settings) where
    stored_heat : (x y : Hundredths) → x ≡ y → PointsAlike (store_heating_setpoint cfg d external x q) (store_heating_setpoint cfg d external y r)
    stored_heat x y e = heating_points q r l external x y e p.cooling

    stored_cool : (x y : Hundredths) → x ≡ y → PointsAlike (store_cooling_setpoint cfg d external x q) (store_cooling_setpoint cfg d external y r)
    stored_cool x y e = cooling_points q r l x y e p.heating

    pub pull_heat_points : heats cfg ≡ true → PointsAlike (pull_heating cfg d q) (pull_heating cfg d r)
    unfolding pull_heating
    pull_heat_points h =
        let s = q.attrs.settings in
        let t = r.attrs.settings in
        let e = p.heating h in
        both_test PointsAlike (in_heat_limits cfg s s.heating) (in_heat_limits cfg t t.heating) (unchanged q) _ (unchanged r) _ (same_in_heat cfg s t l s.heating t.heating e)
        (λ z. p) (λ z. stored_heat _ _ (same_clamp_heat cfg s t l s.heating t.heating e))

    pub pull_cool_points : cools cfg ≡ true → PointsAlike (pull_cooling cfg d q) (pull_cooling cfg d r)
    unfolding pull_cooling
    pull_cool_points c =
        let s = q.attrs.settings in
        let t = r.attrs.settings in
        let e = p.cooling c in
        both_test PointsAlike (in_cool_limits cfg s s.cooling) (in_cool_limits cfg t t.cooling) (unchanged q) _ (unchanged r) _ (same_in_cool cfg s t l s.cooling t.cooling e)
        (λ z. p) (λ z. stored_cool _ _ (same_clamp_cool cfg s t l s.cooling t.cooling e))

    raise_heat_points : (a : Tenths) → heats cfg ≡ true → PointsAlike (raise_heating cfg d a q) (raise_heating cfg d a r)
    unfolding raise_heating
    raise_heat_points a h = stored_heat _ _ (same_raised_heat cfg q.attrs.settings r.attrs.settings l a (p.heating h))

    raise_cool_points : (a : Tenths) → cools cfg ≡ true → PointsAlike (raise_cooling cfg d a q) (raise_cooling cfg d a r)
    unfolding raise_cooling
    raise_cool_points a c = stored_cool _ _ (same_raised_cool cfg q.attrs.settings r.attrs.settings l a (p.cooling c))

    -- AUTO has both sides, so the gap looks at nothing that differs
    raise_both_points : Valid cfg → (a : Tenths) → PointsAlike (raise_both cfg d a q) (raise_both cfg d a r)
    unfolding raise_both claim_setpoints heating_target cooling_target
    raise_both_points v a =
        let s = q.attrs.settings in
        let t = r.attrs.settings in
        let x = (targets_stored cfg a q.attrs).settings in
        let y = (targets_stored cfg a r.attrs).settings in
        let h : heats cfg ≡ true → x.heating ≡ y.heating = λ e. simp (e, same_raised_heat cfg s t l a (p.heating e)) in
        let c : cools cfg ≡ true → x.cooling ≡ y.cooling = λ e. simp (e, same_raised_cool cfg s t l a (p.cooling e)) in
        let m : SameLimits x y = record { minheat = l.minheat; maxheat = l.maxheat; mincool = l.mincool; maxcool = l.maxcool } in
        record {
          heating = λ e. cases (auto cfg) (λ u. same_heating_with_gap cfg x y m x.cooling y.cooling (c (v.auto_cools u)) (h e)) (λ u. without_auto cfg x x.cooling u ∙ h e ∙ sym (without_auto cfg y y.cooling u));
          cooling = c;
        }

    pub raise_points : Valid cfg → (mode : ℕ) (a : Tenths) → names_absent_side cfg mode ≡ false → PointsAlike (raise_sides cfg d mode a q) (raise_sides cfg d mode a r)
    unfolding raise_sides names_absent_side
    raise_points v mode a z =
        let n = neither (eqb mode 0 && not (heats cfg)) (eqb mode 1 && not (cools cfg)) z in
        both_cond PointsAlike (eqb mode 0) (raise_heating cfg d a q) _ (raise_heating cfg d a r) _ (λ e. raise_heat_points a (not-false (heats cfg) (not_both (eqb mode 0) (not (heats cfg)) n.0 e)))
        (λ e. both_cond PointsAlike (eqb mode 1) (raise_cooling cfg d a q) _ (raise_cooling cfg d a r) _ (λ f. raise_cool_points a (not-false (cools cfg) (not_both (eqb mode 1) (not (cools cfg)) n.1 f)))
        (λ f. raise_both_points v a))
