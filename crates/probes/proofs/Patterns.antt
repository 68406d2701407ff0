-- What a bit pattern gives, by its exponent; and that a pattern is read as its float is.
use Rattle.std.specs.Prelude.{None, Some}
use mathlib.Core.Path.{◌≡◌, refl, sym, ap, ap₂, ◌∙◌, subst}
use mathlib.Core.Bool.{Bool, true, false, not, cond, ◌&&◌}
use Prim.Native.Nat.{ℕ, zero, suc, ◌+◌, ◌-◌, ◌*◌, ◌/◌, ◌%◌, ◌^◌, ◌≤◌, ◌<◌}
use native.Mathlib.Nat.{mul_assoc, one-mul, mul-le-mul, pow-le-pow_right, pow-succ', mod-eq_of_lt, mod-lt}
use native.Mathlib.Omega.{arith}
use lib.Dec.{T, eqb}
use lib.Pow.{pow_pos, pow-add}
use lib.IntN.{ℤ, pos, negsuc, neg_ℤ, nat_abs}
use lib.Signed.{le_z, ◌≤ℤ◌}
use lib.Ieee.{Float, nan, inf, fin, binary32, prec, low, hid, to_bits, of_fields, is_nan, nan_bits}
use lib.Ieee as ieee
use lib.Ieee.Bits.{to_bits-of_bits, nan_bits_is}
use lib.Ieee.Exact.{HasValue, odd_sign}
use borrow.Author.Tests.{ne_eqb, eqb-true}
use Rattle.integers.proofs.Clamp.{by_test}
use Rattle.integers.proofs.Linear.{linear, false_le_z}
use Rattle.units.specs.Units.{hundredths}
use Rattle.probes.specs.Probes.{sign_of, exponent_of, fraction_of, Value, not_finite, exactly, signed, significand, exact_value, half_to_even, nearest_hundredths, in_range, of_value, of_pattern, of_degrees, StandsFor, ExactByStandard, EveryPattern, SubnormalsGiveZero}
use Rattle.probes.proofs.Rounding.{biased, scaled, rounds_to_0, not_below}
use Rattle.probes.proofs.Nearest.{sign_abs}

-- rounding keeps the sign
round_signed : (s : Bool) (m d : ℕ) → 0 < d → nearest_hundredths (record { numerator = signed s m; denominator = d }) ≡ signed s (half_to_even (100 * m) d)
unfolding nearest_hundredths
round_signed false m d h = refl
round_signed true zero d h = let e = rounds_to_0 (100 * 0) d h in ap pos e ∙ sym (ap (λ (n : ℕ). neg_ℤ (pos n)) e)
round_signed true (suc m) d h = refl

-- the hundredths of a finite float, without its sign
abbrev pub size_of : ℕ → ℕ → ℕ
size_of e t = half_to_even (100 * (significand e t * 2 ^ (e - 1))) (2 ^ 149)

pub by_size : (b : ℕ) → (exponent_of b ≡ 255 → ⊥) → of_pattern b ≡ in_range (signed (sign_of b) (size_of (exponent_of b) (fraction_of b)))
unfolding of_pattern exact_value
by_size b h =
    let m = significand (exponent_of b) (fraction_of b) * 2 ^ (exponent_of b - 1) in
    ap (λ (t : Bool). of_value (cond t not_finite (exactly (record { numerator = signed (sign_of b) m; denominator = 2 ^ 149 })))) (ne_eqb (exponent_of b) 255 h)
    ∙ ap in_range (round_signed (sign_of b) m (2 ^ 149) (pow_pos 149))

-- ---- by the exponent
-- the range, on a size with its sign
pub inside : (z : ℤ) → negsuc 27314 ≤ℤ z → z ≤ℤ pos 32767 → in_range z ≡ Some (hundredths z)
unfolding in_range
inside z l h =
    let a : le_z (negsuc 27314) z ≡ true = omega linear in
    let b : le_z z (pos 32767) ≡ true = omega linear in
    ap₂ (λ (t u : Bool). cond (t && u) (Some (hundredths z)) None) a b

pub outside_below : (n : ℕ) → 27315 < n → in_range (signed true n) ≡ None
unfolding in_range
outside_below zero h = absurd (omega arith)
outside_below (suc n) h = ap (λ (t : Bool). cond (t && le_z (negsuc n) (pos 32767)) (Some (hundredths (negsuc n))) None) (false_le_z (negsuc 27314) (negsuc n) (omega arith))

pub outside_above : (n : ℕ) → 32767 < n → in_range (signed false n) ≡ None
unfolding in_range
outside_above n h = ap (λ (t : Bool). cond t (Some (hundredths (pos n))) None) (false_le_z (pos n) (pos 32767) (omega arith))

outside : (s : Bool) (n : ℕ) → 32767 < n → in_range (signed s n) ≡ None
outside true n h = outside_below n (omega arith)
outside false n h = outside_above n h

leading : (e t : ℕ) → 0 < e → significand e t ≡ 8388608 + t
leading zero t h = absurd (omega arith)
leading (suc e) t h = ap (λ (b : Bool). cond b t (8388608 + t)) (ne_eqb (suc e) 0 (λ k. omega arith))

far_above : (u m : ℕ) → 8388608 * u ≤ m → 32768 * u ≤ 100 * m
far_above u m h = omega arith

large : (e t : ℕ) → 149 < e → 32767 < size_of e t
large e t h =
    let l : 8388608 ≤ significand e t = subst (λ (n : ℕ). 8388608 ≤ n) (sym (leading e t (omega arith))) (omega arith) in
    let p : 2 ^ 149 ≤ 2 ^ (e - 1) = pow-le-pow_right (omega arith) {i = 149} {j = e - 1} (omega arith) in
    let m = mul-le-mul {n₁ = 8388608} {m₁ = 2 ^ 149} {n₂ = significand e t} {m₂ = 2 ^ (e - 1)} l p in
    not_below (100 * (significand e t * 2 ^ (e - 1))) (2 ^ 149) 32768 (pow_pos 149) (far_above (2 ^ 149) (significand e t * 2 ^ (e - 1)) m)

pub too_large : (b : ℕ) → 149 < exponent_of b → of_pattern b ≡ None
unfolding of_pattern exact_value
too_large b h =
    by_test (λ (v : Value). of_value v ≡ None) (eqb (exponent_of b) 255) not_finite _ (λ e. refl)
    (λ e.
    ap in_range (round_signed (sign_of b) (significand (exponent_of b) (fraction_of b) * 2 ^ (exponent_of b - 1)) (2 ^ 149) (pow_pos 149))
    ∙ outside (sign_of b) (size_of (exponent_of b) (fraction_of b)) (large (exponent_of b) (fraction_of b) h))

far_below : (u m : ℕ) → 0 < u → m ≤ 16777215 * u → 2 * (100 * m) < 4294967296 * u
far_below u m p h = omega arith

pub too_small : (e t : ℕ) → e < 119 → t < 8388608 → size_of e t ≡ 0
too_small e t h l =
    let s : significand e t ≤ 16777215 = by_test (λ (n : ℕ). n ≤ 16777215) (eqb e 0) t (8388608 + t) (λ u. omega arith) (λ u. omega arith) in
    let p : 2 ^ (e - 1) ≤ 2 ^ 117 = pow-le-pow_right (omega arith) {i = e - 1} {j = 117} (omega arith) in
    let m = mul-le-mul {n₁ = significand e t} {m₁ = 2 ^ (e - 1)} {n₂ = 16777215} {m₂ = 2 ^ 117} s p in
    rounds_to_0 (100 * (significand e t * 2 ^ (e - 1))) (2 ^ 149) (far_below (2 ^ 117) (significand e t * 2 ^ (e - 1)) (pow_pos 117) m)

pub shifted : (e t : ℕ) → 119 ≤ e → e ≤ 149 → half_to_even (100 * (8388608 + t)) (2 ^ (150 - e)) ≡ size_of e t
shifted e t l h =
    let c = 2 ^ (e - 1) in
    let k : (150 - e) + (e - 1) ≡ 149 = omega arith in
    sym (scaled (100 * (8388608 + t)) (2 ^ (150 - e)) c (pow_pos (150 - e)) (pow_pos (e - 1)))
    ∙ ap₂ half_to_even
    (mul_assoc 100 (8388608 + t) c ∙ ap (λ (n : ℕ). 100 * (n * c)) (sym (leading e t (omega arith))))
    (sym (pow-add 2 (150 - e) (e - 1)) ∙ ap (λ (n : ℕ). 2 ^ n) k)

-- the steps of the code, on 32 bits
doubled : (k : ℕ) → 0 < k → 2 ^ k ≡ 2 * 2 ^ (k - 1)
doubled k h = let e : suc (k - 1) ≡ k = omega arith in ap (λ (n : ℕ). 2 ^ n) (sym e) ∙ pow-succ' 2 (k - 1)

pub half_under : (k : ℕ) → k < 32 → 2 ^ (k - 1) ≤ 1073741824
half_under k h = pow-le-pow_right (omega arith) {i = k - 1} {j = 30} (omega arith)

pub half_fits : (k : ℕ) → k < 32 → 1 * 2 ^ (k - 1) % 4294967296 ≡ 2 ^ (k - 1)
half_fits k h = ap (λ (x : ℕ). x % 4294967296) (one-mul (2 ^ (k - 1))) ∙ mod-eq_of_lt (omega (arith, half_under k h))

pub rounded : (n k : ℕ) → 0 < k → (n + (2 ^ (k - 1) - 1) + n / 2 ^ k % 2) / 2 ^ k ≡ half_to_even n (2 ^ k)
rounded n k h =
    let half = 2 ^ (k - 1) in
    ap (λ (d : ℕ). (n + (half - 1) + n / d % 2) / d) (doubled k h) ∙ biased n half (pow_pos (k - 1)) ∙ ap (half_to_even n) (sym (doubled k h))

-- ---- the laws
abbrev fields_of : Bool → ℕ → ℕ → ℕ → Value
fields_of s e k t = cond (eqb e 255) not_finite (exactly (record { numerator = signed s (significand e t * 2 ^ k); denominator = 2 ^ 149 }))

standing : (s : Bool) (n : ℕ) {m : ℕ} (x : Float) → m ≡ n → HasValue x s n (2 ^ 149) → HasValue x s (nat_abs (signed s m)) (2 ^ 149)
standing s n x e v = subst (λ (k : ℕ). HasValue x s k (2 ^ 149)) (sym (sign_abs s _ ∙ e)) v

no_number : (s r b : Bool) → StandsFor not_finite s (cond b (inf r) nan)
no_number s r true = tt
no_number s r false = tt

-- the field 0 and any other
by_field : (s : Bool) (e k t : ℕ) → k ≡ e - 1 → StandsFor (fields_of s e k t) s (of_fields binary32 s e t)
unfolding of_fields
by_field s zero k t h = standing s (t * 2 ^ 0) (ieee.odd 24 s t 0 149) (ap (λ (n : ℕ). t * 2 ^ n) h) (odd_sign (prec binary32) s t 0 (low binary32))
by_field s (suc x) k t h = go (eqb (suc x) 255) refl
  where
    go : (b : Bool) → eqb (suc x) 255 ≡ b → StandsFor (cond b not_finite (exactly (record { numerator = signed s (significand (suc x) t * 2 ^ k); denominator = 2 ^ 149 }))) s (cond b (cond (eqb t 0) (inf s) nan) (ieee.odd 24 s (hid binary32 + t) x 149))
    go true e = no_number s s (eqb t 0)
    go false e = standing s ((hid binary32 + t) * 2 ^ x) (ieee.odd 24 s (hid binary32 + t) x 149) (ap₂ (λ (m n : ℕ). m * 2 ^ n) (leading (suc x) t (omega arith)) (h ∙ omega arith)) (odd_sign (prec binary32) s (hid binary32 + t) x (low binary32))

pub exact_by_standard : ExactByStandard
unfolding exact_value ieee.of_bits
exact_by_standard b = by_field (sign_of b) (exponent_of b) (exponent_of b - 1) (fraction_of b) refl

pub subnormals_give_zero : SubnormalsGiveZero
unfolding in_range
subnormals_give_zero b h =
    by_size b (λ e. omega arith)
    ∙ ap (λ (n : ℕ). in_range (signed (sign_of b) n)) (too_small (exponent_of b) (fraction_of b) (omega arith) (mod-lt b (omega arith)))
    ∙ no_sign (sign_of b)
  where
    no_sign : (s : Bool) → in_range (signed s 0) ≡ Some (hundredths (pos 0))
    no_sign true = refl
    no_sign false = refl

-- a NaN's pattern gives null, as the NaN does; any other is the bits of its float
pub of_nan : (x : Float) → is_nan x ≡ true → of_degrees x ≡ None
unfolding is_nan
of_nan nan e = refl
of_nan (inf s) e = absurd (subst T (sym e) tt)
of_nan (fin s m k) e = absurd (subst T (sym e) tt)

pub not_nan : (x : Float) → is_nan x ≡ false → of_degrees x ≡ of_pattern (to_bits binary32 x)
unfolding is_nan
not_nan nan e = absurd (subst T e tt)
not_nan (inf s) e = refl
not_nan (fin s m k) e = refl

first_holds : (a b : Bool) → a && b ≡ true → a ≡ true
first_holds true b e = refl
first_holds false b e = e

nan_exponent : (b : ℕ) → nan_bits binary32 b ≡ true → exponent_of b ≡ 255
unfolding nan_bits
nan_exponent b e = eqb-true (exponent_of b) 255 (first_holds (eqb (exponent_of b) 255) (not (eqb (fraction_of b) 0)) e)

pub every_pattern : EveryPattern
every_pattern b h = go (is_nan x) refl
  where
    x : Float
    x = ieee.of_bits binary32 b

    go : (t : Bool) → is_nan x ≡ t → of_degrees x ≡ of_pattern b
    go true e = of_nan x e ∙ sym (too_large b (subst (λ (n : ℕ). 149 < n) (sym (nan_exponent b (nan_bits_is binary32 b ∙ e))) (omega arith)))
    go false e = not_nan x e ∙ ap of_pattern (to_bits-of_bits binary32 b h (subst (λ (t : Bool). T (not t)) (sym e) tt))
