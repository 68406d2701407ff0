-- The limits in force of a record that passes row 28: in order, and with AUTO the dead band apart.
use mathlib.Core.Path.{◌≡◌, refl}
use mathlib.Core.Bool.{Bool, true, false, not, ◌&&◌, cond}
use Prim.Native.Nat.{ℕ}
use native.Mathlib.Omega.{arith}
use lib.IntN.{ℤ, pos, ◌+ℤ◌}
use lib.Signed.{◌≤ℤ◌, lt_z}
use Rattle.integers.proofs.Linear.{linear, sum_parts, diff_parts}
use Rattle.integers.proofs.Clamp.{clamp_low, clamp_high}
use Rattle.units.specs.Units.{less, minus, above, within, clamped}
use Rattle.units.specs.declared.Hundredths.{Hundredths}
use Rattle.units.specs.declared.Wide.{Wide}
use Rattle.model.specs.Served.{heats, cools, auto, has_heat_limits, has_cool_limits}
use Rattle.model.specs.Units.{dead_band}
use Rattle.model.specs.Limits.{min_heat_setpoint, max_heat_setpoint, min_cool_setpoint, max_cool_setpoint, in_heat_limits, in_cool_limits, clamp_heat_setpoint, clamp_cool_setpoint}
use Rattle.model.specs.Sound.{sound_heat_limits, sound_cool_limits, sound_gap, sound_heating, sound_cooling}
use Rattle.records.specs.declared.Config.{Config}
use Rattle.records.specs.declared.Settings.{Settings}
use Rattle.model.proofs.Logic.{both, and_true, implied, implies}
use Rattle.model.proofs.Valid.{Valid}
use borrow.Author.Tests.{not-true}

-- over the numbers it speaks of, so that a record with other setpoints has the same one
pub record Chain (auto : Bool) (d hl hh cl ch : ℤ) : Type 0 where
  pub band : pos 0 ≤ℤ d
  pub heat : hl ≤ℤ hh
  pub cool : cl ≤ℤ ch
  pub low : auto ≡ true → (hl +ℤ d) ≤ℤ cl
  pub high : auto ≡ true → (hh +ℤ d) ≤ℤ ch

abbrev pub InForce : Config → Settings → Type 0
InForce cfg s = Chain (auto cfg) (dead_band cfg).0 (min_heat_setpoint cfg s).0 (max_heat_setpoint cfg s).0 (min_cool_setpoint cfg s).0 (max_cool_setpoint cfg s).0

-- one side's served limits: ABS_MIN ≤ min ≤ max ≤ ABS_MAX
pub record Ordered (lo mi ma hi : ℤ) : Type 0 where
  pub low : lo ≤ℤ mi
  pub mid : mi ≤ℤ ma
  pub high : ma ≤ℤ hi

pub inside : (v lo hi : Hundredths) → within v lo hi ≡ true → (lo.0 ≤ℤ v.0) × (v.0 ≤ℤ hi.0)
unfolding within less
inside v lo hi e =
    let b = both (not (lt_z v.0 lo.0)) (not (lt_z hi.0 v.0)) e in
    let l = not-true (lt_z v.0 lo.0) b.0 in
    let h = not-true (lt_z hi.0 v.0) b.1 in
    (omega linear, omega linear)

pub is_inside : (v lo hi : Hundredths) → lo.0 ≤ℤ v.0 → v.0 ≤ℤ hi.0 → within v lo hi ≡ true
unfolding within less
is_inside v lo hi a b =
    let l : lt_z v.0 lo.0 ≡ false = omega linear in
    let h : lt_z hi.0 v.0 ≡ false = omega linear in
    simp (l, h)

pub apart : (h c d : Hundredths) → above h (minus c d) ≡ false → (h.0 +ℤ d.0) ≤ℤ c.0
unfolding above minus
apart h c d e = omega (linear, sum_parts h.0 d.0, diff_parts c.0 d.0)

pub is_apart : (h c d : Hundredths) → (h.0 +ℤ d.0) ≤ℤ c.0 → above h (minus c d) ≡ false
unfolding above minus
is_apart h c d e = omega (linear, sum_parts h.0 d.0, diff_parts c.0 d.0)

module _ (cfg : Config) (s : Settings) where
  pub heat_ordered : sound_heat_limits cfg s ≡ true → has_heat_limits cfg ≡ true → Ordered cfg.absminheat.0 s.minheat.0 s.maxheat.0 cfg.absmaxheat.0
  unfolding sound_heat_limits
  heat_ordered e h =
      let b = both _ (within s.maxheat s.minheat cfg.absmaxheat) (implied (has_heat_limits cfg) _ e h) in
      let i = inside s.minheat cfg.absminheat s.maxheat b.0 in
      let j = inside s.maxheat s.minheat cfg.absmaxheat b.1 in
      record { low = i.0; mid = i.1; high = j.1 }

  pub is_heat_ordered : (has_heat_limits cfg ≡ true → Ordered cfg.absminheat.0 s.minheat.0 s.maxheat.0 cfg.absmaxheat.0) → sound_heat_limits cfg s ≡ true
  unfolding sound_heat_limits
  is_heat_ordered f =
      implies (has_heat_limits cfg) _
      (λ h. let o = f h in and_true _ _ (is_inside s.minheat cfg.absminheat s.maxheat o.low o.mid) (is_inside s.maxheat s.minheat cfg.absmaxheat o.mid o.high))

  pub cool_ordered : sound_cool_limits cfg s ≡ true → has_cool_limits cfg ≡ true → Ordered cfg.absmincool.0 s.mincool.0 s.maxcool.0 cfg.absmaxcool.0
  unfolding sound_cool_limits
  cool_ordered e h =
      let b = both _ (within s.maxcool s.mincool cfg.absmaxcool) (implied (has_cool_limits cfg) _ e h) in
      let i = inside s.mincool cfg.absmincool s.maxcool b.0 in
      let j = inside s.maxcool s.mincool cfg.absmaxcool b.1 in
      record { low = i.0; mid = i.1; high = j.1 }

  pub is_cool_ordered : (has_cool_limits cfg ≡ true → Ordered cfg.absmincool.0 s.mincool.0 s.maxcool.0 cfg.absmaxcool.0) → sound_cool_limits cfg s ≡ true
  unfolding sound_cool_limits
  is_cool_ordered f =
      implies (has_cool_limits cfg) _
      (λ h. let o = f h in and_true _ _ (is_inside s.mincool cfg.absmincool s.maxcool o.low o.mid) (is_inside s.maxcool s.mincool cfg.absmaxcool o.mid o.high))

  -- both pairs, the dead band apart
  abbrev pub Gaps : Type 0
  Gaps = ((s.minheat.0 +ℤ (dead_band cfg).0) ≤ℤ s.mincool.0) × ((s.maxheat.0 +ℤ (dead_band cfg).0) ≤ℤ s.maxcool.0)

  pub gaps : sound_gap cfg s ≡ true → auto cfg ≡ true → has_heat_limits cfg ≡ true → Gaps
  unfolding sound_gap
  gaps e a h =
      let b = both (not (above s.minheat (minus s.mincool (dead_band cfg)))) (not (above s.maxheat (minus s.maxcool (dead_band cfg)))) (implied (auto cfg && has_heat_limits cfg) _ e (and_true (auto cfg) (has_heat_limits cfg) a h)) in
      (apart s.minheat s.mincool (dead_band cfg) (not-true _ b.0), apart s.maxheat s.maxcool (dead_band cfg) (not-true _ b.1))

  pub is_gaps : (auto cfg ≡ true → has_heat_limits cfg ≡ true → Gaps) → sound_gap cfg s ≡ true
  unfolding sound_gap
  is_gaps f =
      implies (auto cfg && has_heat_limits cfg) _
      (λ t. let b = both (auto cfg) (has_heat_limits cfg) t in
      let g = f b.0 b.1 in
      simp (is_apart s.minheat s.mincool (dead_band cfg) g.0, is_apart s.maxheat s.maxcool (dead_band cfg) g.1))

-- the limits in force, by what is served
chosen : (auto b c : Bool) (d : ℤ) (mh xh ah bh mc xc ac bc : Hundredths) → pos 0 ≤ℤ d → (auto ≡ true → b ≡ c)
    → ah.0 ≤ℤ bh.0 → ac.0 ≤ℤ bc.0 → (auto ≡ true → (ah.0 +ℤ d) ≤ℤ ac.0) → (auto ≡ true → (bh.0 +ℤ d) ≤ℤ bc.0)
    → (b ≡ true → Ordered ah.0 mh.0 xh.0 bh.0) → (c ≡ true → Ordered ac.0 mc.0 xc.0 bc.0)
    → (auto ≡ true → b ≡ true → ((mh.0 +ℤ d) ≤ℤ mc.0) × ((xh.0 +ℤ d) ≤ℤ xc.0))
    → Chain auto d (cond b mh ah).0 (cond b xh bh).0 (cond c mc ac).0 (cond c xc bc).0
chosen auto true true d mh xh ah bh mc xc ac bc z e ha ca lo hi oh oc g =
    record { band = z; heat = (oh refl).mid; cool = (oc refl).mid; low = λ a. (g a refl).0; high = λ a. (g a refl).1 }
chosen auto false false d mh xh ah bh mc xc ac bc z e ha ca lo hi oh oc g = record { band = z; heat = ha; cool = ca; low = lo; high = hi }
chosen auto true false d mh xh ah bh mc xc ac bc z e ha ca lo hi oh oc g =
    record { band = z; heat = (oh refl).mid; cool = ca; low = λ a. absurd (clash (e a)); high = λ a. absurd (clash (e a)) }
  where
    clash : true ≡ false → ⊥
    clash p = let q : ◌≡◌ {A = ℕ} 0 1 = cc in omega arith
chosen auto false true d mh xh ah bh mc xc ac bc z e ha ca lo hi oh oc g =
    record { band = z; heat = ha; cool = (oc refl).mid; low = λ a. absurd (clash (e a)); high = λ a. absurd (clash (e a)) }
  where
    clash : false ≡ true → ⊥
    clash p = let q : ◌≡◌ {A = ℕ} 0 1 = cc in omega arith

-- the tests of row 28 that speak of limits alone
pub record LimitTests (cfg : Config) (s : Settings) : Type 0 where
  pub heat : sound_heat_limits cfg s ≡ true
  pub cool : sound_cool_limits cfg s ≡ true
  pub gap : sound_gap cfg s ≡ true

-- and with those of the setpoints
pub record Placed (cfg : Config) (s : Settings) : Type 0 where
  pub limits : LimitTests cfg s
  pub heating : sound_heating cfg s ≡ true
  pub cooling : sound_cooling cfg s ≡ true

-- a served setpoint lies within its limits in force
pub heating_between : (cfg : Config) (s : Settings) → Placed cfg s → heats cfg ≡ true → ((min_heat_setpoint cfg s).0 ≤ℤ s.heating.0) × (s.heating.0 ≤ℤ (max_heat_setpoint cfg s).0)
unfolding sound_heating in_heat_limits
heating_between cfg s p h = inside s.heating (min_heat_setpoint cfg s) (max_heat_setpoint cfg s) (implied (heats cfg) _ p.heating h)

pub cooling_between : (cfg : Config) (s : Settings) → Placed cfg s → cools cfg ≡ true → ((min_cool_setpoint cfg s).0 ≤ℤ s.cooling.0) × (s.cooling.0 ≤ℤ (max_cool_setpoint cfg s).0)
unfolding sound_cooling in_cool_limits
cooling_between cfg s p c = inside s.cooling (min_cool_setpoint cfg s) (max_cool_setpoint cfg s) (implied (cools cfg) _ p.cooling c)

pub in_force : (cfg : Config) (s : Settings) → Valid cfg → LimitTests cfg s → InForce cfg s
unfolding min_heat_setpoint max_heat_setpoint min_cool_setpoint max_cool_setpoint
in_force cfg s v t =
    chosen (auto cfg) (has_heat_limits cfg) (has_cool_limits cfg) (dead_band cfg).0 s.minheat s.maxheat cfg.absminheat cfg.absmaxheat s.mincool s.maxcool cfg.absmincool cfg.absmaxcool
    v.band v.auto_limits v.heat_abs v.cool_abs v.low v.high (heat_ordered cfg s t.heat) (cool_ordered cfg s t.cool) (gaps cfg s t.gap)

pub clamp_inside : (v : Wide) (lo hi : Hundredths) → lo.0 ≤ℤ hi.0 → within (clamped v lo hi) lo hi ≡ true
unfolding clamped
clamp_inside v lo hi h = is_inside (clamped v lo hi) lo hi (clamp_low v.0 lo.0 hi.0 h) (clamp_high v.0 lo.0 hi.0 h)

-- a clamped setpoint is within the limits in force
pub heat_clamped_lem : (cfg : Config) (s : Settings) (v : Wide) → InForce cfg s → in_heat_limits cfg s (clamp_heat_setpoint cfg s v) ≡ true
unfolding in_heat_limits clamp_heat_setpoint
heat_clamped_lem cfg s v k = clamp_inside v (min_heat_setpoint cfg s) (max_heat_setpoint cfg s) k.heat

pub cool_clamped_lem : (cfg : Config) (s : Settings) (v : Wide) → InForce cfg s → in_cool_limits cfg s (clamp_cool_setpoint cfg s v) ≡ true
unfolding in_cool_limits clamp_cool_setpoint
cool_clamped_lem cfg s v k = clamp_inside v (min_cool_setpoint cfg s) (max_cool_setpoint cfg s) k.cool
