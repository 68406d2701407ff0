-- The greater and the lesser of two numbers, and the nearest number within limits, with the laws by which others use them.
use Rattle.std.specs.Prelude.{◌≡◌, refl, Bool, true, false, cond, ◌+◌, max, min, ℤ, ◌≤ℤ◌}
use Rattle.std.specs.Int.Signed.{lt_z}
use Rattle.integers.specs.Linear.{pos_part, neg_part}
use Rattle.integers.proofs.Linear.{linear}
use Rattle.integers.specs.Widths.{Bounded}
use Rattle.integers.specs.Clamp.{max_z, min_z, clamp_z}

-- a fact about what a test picks, from its two cases
pub by_test {ℓ} : {X : Type 0} (P : X → Type ℓ) (b : Bool) (x y : X) → (b ≡ true → P x) → (b ≡ false → P y) → P (cond b x y)
by_test P true x y f g = f refl
by_test P false x y f g = g refl

pub max_bounded : {a b : ℤ} → Bounded a → Bounded b → Bounded (max_z a b)
unfolding max_z
max_bounded {a} {b} f g = by_test Bounded (lt_z a b) b a (λ e. g) (λ e. f)

pub max_parts : (a b : ℤ) → pos_part (max_z a b) + neg_part a + neg_part b ≡ max (pos_part a + neg_part b) (pos_part b + neg_part a) + neg_part (max_z a b)
unfolding max_z
max_parts a b =
    by_test (λ (z : ℤ). pos_part z + neg_part a + neg_part b ≡ max (pos_part a + neg_part b) (pos_part b + neg_part a) + neg_part z) (lt_z a b) b a
    (λ e. omega linear) (λ e. omega linear)

pub min_parts : (a b : ℤ) → pos_part (min_z a b) + neg_part a + neg_part b ≡ min (pos_part a + neg_part b) (pos_part b + neg_part a) + neg_part (min_z a b)
unfolding min_z
min_parts a b =
    by_test (λ (z : ℤ). pos_part z + neg_part a + neg_part b ≡ min (pos_part a + neg_part b) (pos_part b + neg_part a) + neg_part z) (lt_z b a) b a
    (λ e. omega linear) (λ e. omega linear)

-- between limits in order, each law of a clamp is one of its three cases
module _ (P : ℤ → Type 0) (v lo hi : ℤ) where
  pub by_clamp : (lt_z v lo ≡ true → P lo) → (lt_z v lo ≡ false → lt_z hi v ≡ true → P hi) → (lt_z v lo ≡ false → lt_z hi v ≡ false → P v) → P (clamp_z v lo hi)
  unfolding clamp_z
  by_clamp f g h = by_test P (lt_z v lo) lo (cond (lt_z hi v) hi v) f (λ e. by_test P (lt_z hi v) hi v (g e) (h e))

pub clamp_low : (v lo hi : ℤ) → lo ≤ℤ hi → lo ≤ℤ clamp_z v lo hi
clamp_low v lo hi h = by_clamp (λ (z : ℤ). lo ≤ℤ z) v lo hi (λ e. omega linear) (λ e f. h) (λ e f. omega linear)

pub clamp_high : (v lo hi : ℤ) → lo ≤ℤ hi → clamp_z v lo hi ≤ℤ hi
clamp_high v lo hi h = by_clamp (λ (z : ℤ). z ≤ℤ hi) v lo hi (λ e. h) (λ e f. omega linear) (λ e f. omega linear)

-- a number within the limits is left alone
pub clamp_within : (v lo hi : ℤ) → lo ≤ℤ v → v ≤ℤ hi → clamp_z v lo hi ≡ v
clamp_within v lo hi a b = by_clamp (λ (z : ℤ). z ≡ v) v lo hi (λ e. omega linear) (λ e f. omega linear) (λ e f. refl)

-- what is at most v and hi is at most the clamp, and what is at least v and lo is at least the clamp
pub clamp_above : (x v lo hi : ℤ) → x ≤ℤ v → x ≤ℤ hi → x ≤ℤ clamp_z v lo hi
clamp_above x v lo hi a b =
    by_clamp (λ (z : ℤ). x ≤ℤ z) v lo hi (λ e. omega linear) (λ e f. b) (λ e f. a)

pub clamp_below : (x v lo hi : ℤ) → v ≤ℤ x → lo ≤ℤ x → clamp_z v lo hi ≤ℤ x
clamp_below x v lo hi a b =
    by_clamp (λ (z : ℤ). z ≤ℤ x) v lo hi (λ e. b) (λ e f. omega linear) (λ e f. a)

-- a number not below the limits gives the lesser of itself and the upper one; a number not below that gives it
pub clamp_lesser : (v lo hi : ℤ) → lo ≤ℤ v → lo ≤ℤ hi → clamp_z v lo hi ≡ min_z hi v
clamp_lesser v lo hi a b =
    let m = min_parts hi v in
    by_clamp (λ (z : ℤ). z ≡ min_z hi v) v lo hi (λ e. omega linear) (λ e f. omega linear) (λ e f. omega linear)

pub clamp_upper : (v lo hi : ℤ) → lo ≤ℤ hi → hi ≤ℤ v → clamp_z v lo hi ≡ hi
clamp_upper v lo hi a b = by_clamp (λ (z : ℤ). z ≡ hi) v lo hi (λ e. omega linear) (λ e f. refl) (λ e f. omega linear)
