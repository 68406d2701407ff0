-- Linear facts over ℤ by `omega`, which knows ℕ only. A number is its positive part less its negative part.
-- The rules of `linear` turn each order, equation and test of ℤ, given or asked, into one over the parts.
-- A sum, a difference, a multiple or a range has an entry of its own, as `omega (linear, sum_parts x y)`.
use Rattle.std.specs.Prelude.{◌≡◌, refl, ◌≢◌, Bool, true, false, not, cond, ℕ, zero, suc, ◌+◌, ◌-◌, ◌*◌, ◌^◌, ◌≤◌, ◌<◌, max, ℤ, pos, negsuc, neg_ℤ, ◌+ℤ◌, ◌-ℤ◌, ◌*ℤ◌, ◌≤ℤ◌, ◌<ℤ◌, T, ltb}
use Rattle.std.proofs.Common.{sym, ap, subst, arith, eqb→eq, ltb→lt, nltb→le, leb→le, le→leb, lt→ltb}
use Rattle.std.proofs.Math.IntN.{sub_ℕ}
use Rattle.std.specs.Int.Signed.{mag, le_z, lt_z}
use Rattle.std.proofs.Math.Dec.{eqb_refl}
use Rattle.std.specs.Int.{Width}
use mir.Val.{SFits, hbits}
use Rattle.integers.specs.Linear.{pos_part, neg_part, eq_z}

-- x ≤ y and x < y over the parts
abbrev Le : ℤ → ℤ → Type 0
Le x y = pos_part x + neg_part y ≤ pos_part y + neg_part x

abbrev Lt : ℤ → ℤ → Type 0
Lt x y = pos_part x + neg_part y < pos_part y + neg_part x

abbrev Eq : ℤ → ℤ → Type 0
Eq x y = pos_part x + neg_part y ≡ pos_part y + neg_part x

-- tests and orders, both ways
le_parts : (x y : ℤ) → T (le_z x y) → Le x y
le_parts (pos a) (pos b) t = omega (arith, leb→le)
le_parts (pos a) (negsuc b) t = absurd t
le_parts (negsuc a) (pos b) t = omega arith
le_parts (negsuc a) (negsuc b) t = omega (arith, leb→le)

parts_le : (x y : ℤ) → Le x y → T (le_z x y)
parts_le (pos a) (pos b) h = omega (arith, le→leb)
parts_le (pos a) (negsuc b) h = omega arith
parts_le (negsuc a) (pos b) h = tt
parts_le (negsuc a) (negsuc b) h = omega (arith, le→leb)

lt_parts : (x y : ℤ) → T (lt_z x y) → Lt x y
lt_parts (pos a) (pos b) t = omega (arith, ltb→lt)
lt_parts (pos a) (negsuc b) t = absurd t
lt_parts (negsuc a) (pos b) t = omega arith
lt_parts (negsuc a) (negsuc b) t = omega (arith, ltb→lt)

parts_lt : (x y : ℤ) → Lt x y → T (lt_z x y)
parts_lt (pos a) (pos b) h = omega (arith, lt→ltb)
parts_lt (pos a) (negsuc b) h = omega arith
parts_lt (negsuc a) (pos b) h = tt
parts_lt (negsuc a) (negsuc b) h = omega (arith, lt→ltb)

pub ≤ℤ_given : (x y : ℤ) → x ≤ℤ y → Le x y
≤ℤ_given x y h = le_parts x y h.le

pub ≤ℤ_asked : (x y : ℤ) → Le x y → x ≤ℤ y
≤ℤ_asked x y h = record { le = parts_le x y h }

pub <ℤ_given : (x y : ℤ) → x <ℤ y → Lt x y
<ℤ_given x y h = lt_parts x y h.lt

pub <ℤ_asked : (x y : ℤ) → Lt x y → x <ℤ y
<ℤ_asked x y h = record { lt = parts_lt x y h }

pub ≡ℤ_given : (x y : ℤ) → x ≡ y → Eq x y
≡ℤ_given x y e = subst (λ (z : ℤ). Eq x z) e refl

pub ≡ℤ_asked : (x y : ℤ) → Eq x y → x ≡ y
≡ℤ_asked (pos a) (pos b) h = ap pos (omega arith)
≡ℤ_asked (pos a) (negsuc b) h = absurd (omega arith)
≡ℤ_asked (negsuc a) (pos b) h = absurd (omega arith)
≡ℤ_asked (negsuc a) (negsuc b) h = ap negsuc (omega arith)

-- a test that is true, and one that is false
holds : (b : Bool) → b ≡ true → T b
holds b e = subst T (sym e) tt

fails : (b : Bool) → b ≡ false → T b → ⊥
fails b e t = subst T e t

is_true : (b : Bool) → T b → b ≡ true
is_true true t = refl
is_true false t = absurd t

is_false : (b : Bool) → (T b → ⊥) → b ≡ false
is_false true f = absurd (f tt)
is_false false f = refl

-- either order of two naturals
by_order : {X : Type 0} (a b : ℕ) → (a < b → X) → (b ≤ a → X) → X
by_order {X} a b f g = go (ltb a b) refl
  where
    go : (t : Bool) → ltb a b ≡ t → X
    go true e = f (ltb→lt a b (subst T (sym e) tt))
    go false e = g (nltb→le a b (subst (λ (u : Bool). T (not u)) (sym e) tt))

pub lt_z_true : (x y : ℤ) → lt_z x y ≡ true → Lt x y
lt_z_true x y e = lt_parts x y (holds (lt_z x y) e)

pub lt_z_false : (x y : ℤ) → lt_z x y ≡ false → Le y x
lt_z_false x y e =
    by_order (pos_part x + neg_part y) (pos_part y + neg_part x) (λ h. absurd (fails (lt_z x y) e (parts_lt x y h))) (λ h. h)

pub le_z_true : (x y : ℤ) → le_z x y ≡ true → Le x y
le_z_true x y e = le_parts x y (holds (le_z x y) e)

pub le_z_false : (x y : ℤ) → le_z x y ≡ false → Lt y x
le_z_false x y e =
    by_order (pos_part y + neg_part x) (pos_part x + neg_part y) (λ h. h) (λ h. absurd (fails (le_z x y) e (parts_le x y h)))

pub true_lt_z : (x y : ℤ) → Lt x y → lt_z x y ≡ true
true_lt_z x y h = is_true (lt_z x y) (parts_lt x y h)

pub false_lt_z : (x y : ℤ) → Le y x → lt_z x y ≡ false
false_lt_z x y h = is_false (lt_z x y) (λ t. let k = lt_parts x y t in omega arith)

pub true_le_z : (x y : ℤ) → Le x y → le_z x y ≡ true
true_le_z x y h = is_true (le_z x y) (parts_le x y h)

pub false_le_z : (x y : ℤ) → Lt y x → le_z x y ≡ false
false_le_z x y h = is_false (le_z x y) (λ t. let k = le_parts x y t in omega arith)

eq_test : (x y : ℤ) → T (eq_z x y) → x ≡ y
eq_test (pos a) (pos b) t = ap pos (eqb→eq a b t)
eq_test (pos a) (negsuc b) t = absurd t
eq_test (negsuc a) (pos b) t = absurd t
eq_test (negsuc a) (negsuc b) t = ap negsuc (eqb→eq a b t)

eq_self : (x : ℤ) → T (eq_z x x)
eq_self (pos a) = eqb_refl a
eq_self (negsuc a) = eqb_refl a

pub eq_z_true : (x y : ℤ) → eq_z x y ≡ true → Eq x y
eq_z_true x y e = ≡ℤ_given x y (eq_test x y (holds (eq_z x y) e))

pub eq_z_false : (x y : ℤ) → eq_z x y ≡ false → pos_part x + neg_part y ≢ pos_part y + neg_part x
eq_z_false x y e h = fails (eq_z x y) e (subst (λ (z : ℤ). T (eq_z x z)) (≡ℤ_asked x y h) (eq_self x))

pub true_eq_z : (x y : ℤ) → Eq x y → eq_z x y ≡ true
true_eq_z x y h = is_true (eq_z x y) (subst (λ (z : ℤ). T (eq_z x z)) (≡ℤ_asked x y h) (eq_self x))

pub false_eq_z : (x y : ℤ) → pos_part x + neg_part y ≢ pos_part y + neg_part x → eq_z x y ≡ false
false_eq_z x y h = is_false (eq_z x y) (λ t. h (≡ℤ_given x y (eq_test x y t)))

-- sums, differences and multiples
sub_parts : (a b : ℕ) → pos_part (sub_ℕ a b) + b ≡ a + neg_part (sub_ℕ a b)
sub_parts a b = go (ltb a b) refl
  where
    go : (t : Bool) → ltb a b ≡ t → pos_part (cond t (negsuc (b - suc a)) (pos (a - b))) + b ≡ a + neg_part (cond t (negsuc (b - suc a)) (pos (a - b)))
    go true e = let h : a < b = ltb→lt a b (subst T (sym e) tt) in omega arith
    go false e = let h : b ≤ a = nltb→le a b (subst (λ (u : Bool). T (not u)) (sym e) tt) in omega arith

pub sum_parts : (x y : ℤ) → pos_part (x +ℤ y) + neg_part x + neg_part y ≡ pos_part x + pos_part y + neg_part (x +ℤ y)
sum_parts (pos a) (pos b) = omega arith
sum_parts (pos a) (negsuc b) = omega (arith, sub_parts a (suc b))
sum_parts (negsuc a) (pos b) = omega (arith, sub_parts b (suc a))
sum_parts (negsuc a) (negsuc b) = omega arith

neg_parts : (x : ℤ) → pos_part (neg_ℤ x) + pos_part x ≡ neg_part x + neg_part (neg_ℤ x)
neg_parts (pos zero) = refl
neg_parts (pos (suc a)) = omega arith
neg_parts (negsuc a) = omega arith

pub diff_parts : (x y : ℤ) → pos_part (x -ℤ y) + neg_part x + pos_part y ≡ pos_part x + neg_part y + neg_part (x -ℤ y)
diff_parts x y = omega (arith, sum_parts x (neg_ℤ y), neg_parts y)

pub scale_parts : (x : ℤ) (k : ℕ) → pos_part (x *ℤ pos k) + neg_part x * k ≡ pos_part x * k + neg_part (x *ℤ pos k)
scale_parts (pos a) k = omega arith
scale_parts (negsuc a) k = omega (arith, neg_parts (pos (suc a * k)))

-- ranges: `omega` reads the bound on the magnitude in an `SFits`; this carries it to the parts
pub range_parts : (z : ℤ) → (pos_part z ≤ mag z) × (neg_part z ≤ suc (mag z))
range_parts (pos a) = omega arith
range_parts (negsuc a) = omega arith

pub fits_asked : (w : Width) (z : ℤ) → max (suc (pos_part z) - neg_part z) (neg_part z - pos_part z) ≤ 2 ^ hbits w → SFits w z
fits_asked w (pos a) h = record { sfits = omega arith }
fits_asked w (negsuc a) h = record { sfits = omega arith }

pub ruleset linear = (≤ℤ_given, ≤ℤ_asked, <ℤ_given, <ℤ_asked, ≡ℤ_given, ≡ℤ_asked, lt_z_true, lt_z_false, le_z_true, le_z_false, true_lt_z, false_lt_z, true_le_z, false_le_z, eq_z_true, eq_z_false, true_eq_z, false_eq_z, fits_asked, arith)
