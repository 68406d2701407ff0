-- Signed numbers of a width. A number that code handles shows as `to_z w (of_z w z)`, which is z where z fits w:
-- `search ranges` closes what code over one or two signed fields asks.
use Rattle.std.specs.Prelude.{◌≡◌, refl, Bool, true, false, ℤ, pos, ◌+ℤ◌, ◌-ℤ◌, ◌*ℤ◌, eqb}
use Rattle.std.proofs.Common.{◌∙◌, ap, sym, eqb-true, SFits, to_z, of_z, to_z-of_z, rules}
use Rattle.std.proofs.lemmas.Bool.{eqb-false}
use Rattle.std.specs.Int.{Width, w8, w16, w32}
use Rattle.std.proofs.Math.Facts.{sfits_widen}
use Rattle.integers.specs.Linear.{eq_z}
use Rattle.integers.proofs.Linear.{true_eq_z, false_eq_z, ≡ℤ_given, ≡ℤ_asked, linear, sum_parts, diff_parts, scale_parts, range_parts}
use Rattle.integers.specs.Widths.{Bounded}

pub byte_in_16 : {z : ℤ} → SFits w8 z → SFits w16 z
byte_in_16 = sfits_widen tt

pub byte_in_32 : {z : ℤ} → SFits w8 z → SFits w32 z
byte_in_32 = sfits_widen tt

pub half_in_32 : {z : ℤ} → SFits w16 z → SFits w32 z
half_in_32 = sfits_widen tt

-- what never wraps: ten times 8 bits in 16, a sum and a difference of 16 bits in 32
pub tens_in_16 : {a : ℤ} → SFits w8 a → SFits w16 (a *ℤ pos 10)
tens_in_16 {a} f = omega (linear, scale_parts a 10, range_parts a)

pub sum_in_32 : {a b : ℤ} → SFits w16 a → SFits w16 b → SFits w32 (a +ℤ b)
sum_in_32 {a} {b} f g = omega (linear, sum_parts a b, range_parts a, range_parts b)

pub diff_in_32 : {a b : ℤ} → SFits w16 a → SFits w16 b → SFits w32 (a -ℤ b)
diff_in_32 {a} {b} f g = omega (linear, diff_parts a b, range_parts a, range_parts b)

pub half_bounded : {a : ℤ} → SFits w16 a → Bounded a
half_bounded {a} f = (omega (linear, range_parts a), omega (linear, range_parts a))

pub sum_bounded : {a b : ℤ} → SFits w16 a → SFits w16 b → Bounded (a +ℤ b)
sum_bounded {a} {b} f g = (omega (linear, sum_parts a b, range_parts a, range_parts b), omega (linear, sum_parts a b, range_parts a, range_parts b))

pub diff_bounded : {a b : ℤ} → SFits w16 a → SFits w16 b → Bounded (a -ℤ b)
diff_bounded {a} {b} f g = (omega (linear, diff_parts a b, range_parts a, range_parts b), omega (linear, diff_parts a b, range_parts a, range_parts b))

-- and what is left of one after 16 bits
pub rest_in_32 : {a b : ℤ} → Bounded a → SFits w16 b → SFits w32 (a -ℤ b)
rest_in_32 {a} {b} f g = let l = f.0 in let h = f.1 in omega (linear, diff_parts a b, range_parts b)

-- `==` compares the bits
same_bits : {w : Width} {a b : ℤ} → SFits w a → SFits w b → of_z w a ≡ of_z w b → a ≡ b
same_bits {w} f g e = sym (to_z-of_z f) ∙ ap (to_z w) e ∙ to_z-of_z g

eq_cases : (w : Width) (a b : ℤ) (t : Bool) → eqb (of_z w a) (of_z w b) ≡ t → SFits w a → SFits w b → t ≡ eq_z a b
eq_cases w a b true e f g = sym (true_eq_z a b (≡ℤ_given a b (same_bits f g (eqb-true (of_z w a) (of_z w b) e))))
eq_cases w a b false e f g = sym (false_eq_z a b (λ h. eqb-false (of_z w a) (of_z w b) e (ap (of_z w) (≡ℤ_asked a b h))))

pub eq_bits : {w : Width} {a b : ℤ} → SFits w a → SFits w b → eqb (of_z w a) (of_z w b) ≡ eq_z a b
eq_bits {w} {a} {b} f g = eq_cases w a b (eqb (of_z w a) (of_z w b)) refl f g

pub ruleset ranges = (rules, eq_bits, byte_in_16, byte_in_32, half_in_32, tens_in_16, sum_in_32, diff_in_32)
