-- What is rounded to is the nearest whole number of hundredths, over all whole numbers of either sign.
use mathlib.Core.Path.{◌≡◌, refl, sym, ap, ap₂, ◌∙◌, subst}
use mathlib.Core.Logic.{◌⊎◌, inl, inr, ⊎_elim}
use mathlib.Core.Bool.{Bool, true, false}
use Prim.Native.Nat.{ℕ, zero, suc, ◌+◌, ◌*◌, ◌%◌, ◌≤◌, ◌<◌}
use native.Mathlib.Nat.{add-mul, mul-le-mul_right}
use native.Mathlib.Omega.{arith}
use lib.IntN.{ℤ, pos, negsuc, neg_ℤ, nat_abs, ◌-ℤ◌, ◌*ℤ◌}
use lib.Dec.{ltb}
use borrow.Author.Tests.{ltb-true, ltb-false}
use Rattle.integers.proofs.Clamp.{by_test}
use Rattle.integers.specs.Linear.{pos_part, neg_part}
use Rattle.integers.proofs.Linear.{linear, diff_parts, scale_parts}
use Rattle.probes.specs.Probes.{Fraction, signed, half_to_even, nearest_hundredths, distance, NearestFound, NearestOnlyOne}
use Rattle.probes.proofs.Rounding.{gap, Close, is_close}

abs_parts : (z : ℤ) → nat_abs z ≡ pos_part z + neg_part z
abs_parts (pos a) = omega arith
abs_parts (negsuc a) = omega arith

-- the size of a number that is a less b
size_of : (u : ℤ) (a b : ℕ) → pos_part u + b ≡ a + neg_part u → nat_abs u ≡ gap a b
size_of (pos n) a b e = omega arith
size_of (negsuc n) a b e = omega arith

-- the distance over the parts of the numerator and of the number of hundredths
side : Fraction → ℤ → ℕ
side f z = pos_part f.numerator * 100 + neg_part z * f.denominator

other : Fraction → ℤ → ℕ
other f z = neg_part f.numerator * 100 + pos_part z * f.denominator

by_parts : (f : Fraction) (z : ℤ) → distance f z ≡ gap (side f z) (other f z)
unfolding side other
by_parts f z =
    size_of (f.numerator *ℤ pos 100 -ℤ z *ℤ pos f.denominator) (side f z) (other f z)
    (omega (arith, diff_parts (f.numerator *ℤ pos 100) (z *ℤ pos f.denominator), scale_parts f.numerator 100, scale_parts z f.denominator))

-- two whole numbers are a denominator apart, or more; and two even ones twice that
apart : (f : Fraction) (k : ℕ) (w z : ℤ) → pos_part w + neg_part z + k ≤ pos_part z + neg_part w → k * f.denominator ≤ distance f w + distance f z
unfolding side other
apart f k w z h =
    let d = f.denominator in
    let m = mul-le-mul_right d h in
    let a = add-mul (pos_part w + neg_part z) k d in
    let b = add-mul (pos_part w) (neg_part z) d in
    let c = add-mul (pos_part z) (neg_part w) d in
    let p = by_parts f w in
    let q = by_parts f z in
    omega arith

-- one number is less, or the other, or they are the same
compared : {X : Type 0} (w z : ℤ) → (pos_part w + neg_part z < pos_part z + neg_part w → X) → (pos_part z + neg_part w < pos_part w + neg_part z → X) → (w ≡ z → X) → X
compared {X} w z f g h =
    let a = pos_part w + neg_part z in
    let b = pos_part z + neg_part w in
    by_test (λ (n : ℕ). X) (ltb a b) 0 0 (λ e. f (ltb-true a b e))
    (λ e.
    by_test (λ (n : ℕ). X) (ltb b a) 0 0 (λ u. g (ltb-true b a u))
    (λ u. let l = ltb-false a b e in let k = ltb-false b a u in h (omega linear)))

pub sign_abs : (s : Bool) (n : ℕ) → nat_abs (signed s n) ≡ n
sign_abs true zero = refl
sign_abs true (suc n) = refl
sign_abs false n = refl

below_zero : (n : ℕ) → (pos_part (neg_ℤ (pos n)) ≡ 0) × (neg_part (neg_ℤ (pos n)) ≡ n)
below_zero zero = (refl, refl)
below_zero (suc n) = (refl, refl)

-- the number found is at most a half away, and even at a half
abbrev Found : Fraction → Type 0
Found f = (2 * distance f (nearest_hundredths f) ≤ f.denominator) × (2 * distance f (nearest_hundredths f) ≡ f.denominator → nat_abs (nearest_hundredths f) % 2 ≡ 0)

from_size : (n d h : ℕ) (z : ℤ) (x : ℕ) → Close n d h → nat_abs z ≡ h → x ≡ gap n (h * d) → (2 * x ≤ d) × (2 * x ≡ d → nat_abs z % 2 ≡ 0)
from_size n d h z x c e g = let k = c.0 in (omega arith, λ t. ap (λ (y : ℕ). y % 2) e ∙ c.1 (omega arith))

found : (n : ℤ) (d : ℕ) → 0 < d → Found (record { numerator = n; denominator = d })
unfolding nearest_hundredths side other
found (pos a) d h =
    let x = half_to_even (100 * a) d in
    from_size (100 * a) d x (pos x) _ (is_close (100 * a) d h) refl (by_parts (record { numerator = pos a; denominator = d }) (pos x) ∙ omega arith)
found (negsuc a) d h =
    let x = half_to_even (100 * suc a) d in
    let l = below_zero x in
    from_size (100 * suc a) d x (neg_ℤ (pos x)) _ (is_close (100 * suc a) d h) (sign_abs true x)
    (by_parts (record { numerator = negsuc a; denominator = d }) (neg_ℤ (pos x)) ∙ ap₂ (λ (p q : ℕ). gap (0 * 100 + q * d) (suc a * 100 + p * d)) l.0 l.1 ∙ omega arith)

-- an even number is two or more from another even one
even_apart : (w z : ℤ) → nat_abs w % 2 ≡ 0 → nat_abs z % 2 ≡ 0 → pos_part w + neg_part z < pos_part z + neg_part w → pos_part w + neg_part z + 2 ≤ pos_part z + neg_part w
even_apart w z e u l = omega (arith, abs_parts w, abs_parts z)

pub nearest_found : NearestFound
nearest_found f h w =
    let z = nearest_hundredths f in
    let c = found f.numerator f.denominator h in
    let l = c.0 in
    let as-near : f.denominator ≤ distance f w + distance f z → (distance f z ≤ distance f w) × (distance f w ≡ distance f z → (w ≡ z) ⊎ (nat_abs z % 2 ≡ 0)) =
    λ g. (omega arith, λ e. inr (c.1 (omega arith))) in
    compared w z
    (λ k. let g = apart f 1 w z (omega arith) in as-near (omega arith))
    (λ k. let g = apart f 1 z w (omega arith) in as-near (omega arith))
    (λ e. subst (λ (y : ℤ). (distance f z ≤ distance f y) × (distance f y ≡ distance f z → (y ≡ z) ⊎ (nat_abs z % 2 ≡ 0))) (sym e) (omega arith, λ u. inl refl))

pub nearest_only_one : NearestOnlyOne
nearest_only_one f w h n =
    let z = nearest_hundredths f in
    let l = (found f.numerator f.denominator h).0 in
    let a = (n z).0 in
    let b = (nearest_found f h w).0 in
    let same : distance f w ≡ distance f z = omega arith in
    let even : (w ≡ z → ⊥) → (nat_abs w % 2 ≡ 0) × (nat_abs z % 2 ≡ 0) =
    λ no. (⊎_elim (λ e. absurd (no (sym e))) (λ e. e) ((n z).1 (sym same)), ⊎_elim (λ e. absurd (no e)) (λ e. e) ((nearest_found f h w).1 same)) in
    compared w z
    (λ k. let e = even (λ p. omega linear) in let g = apart f 2 w z (even_apart w z e.0 e.1 k) in absurd (omega arith))
    (λ k. let e = even (λ p. omega linear) in let g = apart f 2 z w (even_apart z w e.1 e.0 k) in absurd (omega arith))
    (λ e. e)
