-- Rounding to the nearest whole number, a half to the even one.
use mathlib.Core.Path.{◌≡◌, refl, sym, ap, ◌∙◌}
use mathlib.Core.Bool.{Bool, true, false, cond}
use Prim.Native.Nat.{ℕ, zero, suc, ◌+◌, ◌-◌, ◌*◌, ◌/◌, ◌%◌, ◌≤◌, ◌<◌}
use native.Mathlib.Nat.{mod-lt, div-add-mod', add-mul, mul_assoc, add-zero, one-mul, mul-div-mul_right, mul-div_cancel, mul-lt-mul_of_pos_right, mul-le-mul_right, mod-eq_of_lt, div-eq_of_lt, le-div_iff_mul-le}
use native.Mathlib.Omega.{arith}
use lib.Dec.{ltb}
use lib.Arith.{digits_div, digits_mod, mod-mul}
use borrow.Author.Tests.{ltb-true, ltb-false, lt-ltb, le-ltb}
use Rattle.integers.proofs.Clamp.{by_test}
use Rattle.probes.specs.Probes.{half_to_even}

-- the three cases of rounding n / d
module _ {ℓ} (n d : ℕ) (P : ℕ → Type ℓ) where
  pub by_half : (2 * (n % d) < d → P (n / d)) → (d < 2 * (n % d) → P (n / d + 1)) → (2 * (n % d) ≡ d → P (n / d + n / d % 2)) → P (half_to_even n d)
  unfolding half_to_even
  by_half f g h =
      by_test P (ltb (2 * (n % d)) d) (n / d) (cond (ltb d (2 * (n % d))) (n / d + 1) (n / d + n / d % 2))
      (λ e. f (ltb-true (2 * (n % d)) d e))
      (λ e.
      by_test P (ltb d (2 * (n % d))) (n / d + 1) (n / d + n / d % 2)
      (λ u. g (ltb-true d (2 * (n % d)) u))
      (λ u. let a = ltb-false (2 * (n % d)) d e in let b = ltb-false d (2 * (n % d)) u in h (omega arith)))

-- how far two numbers are apart
abbrev pub gap : ℕ → ℕ → ℕ
gap a b = (a - b) + (b - a)

-- h is at most a half from n / d, and even at a half
abbrev pub Close : ℕ → ℕ → ℕ → Type 0
Close n d h = (2 * gap n (h * d) ≤ d) × (2 * gap n (h * d) ≡ d → h % 2 ≡ 0)

-- from the multiple of d below n
below_half : (n d h m r : ℕ) → h * d ≡ m → m + r ≡ n → 2 * r < d → Close n d h
below_half n d h m r e s l = (omega arith, λ k. absurd (omega arith))

above_half : (n d h m r : ℕ) → h * d ≡ m + d → m + r ≡ n → r < d → d < 2 * r → Close n d h
above_half n d h m r e s l k = (omega arith, λ t. absurd (omega arith))

at_half : (n d q r : ℕ) (b : ℕ) → q * d + r ≡ n → 2 * r ≡ d → q % 2 ≡ b → Close n d (q + b)
at_half n d q r zero s e p = let z = add-mul q 0 d in (omega arith, λ k. omega arith)
at_half n d q r (suc zero) s e p = let z = add-mul q 1 d in (omega arith, λ k. omega arith)
at_half n d q r (suc (suc b)) s e p = absurd (omega arith)

pub is_close : (n d : ℕ) → 0 < d → Close n d (half_to_even n d)
is_close n d h =
    let s = div-add-mod' n d in
    by_half n d (Close n d)
    (λ k. below_half n d (n / d) (n / d * d) (n % d) refl s k)
    (λ k. above_half n d (n / d + 1) (n / d * d) (n % d) (add-mul (n / d) 1 d ∙ ap (λ (x : ℕ). n / d * d + x) (one-mul d)) s (mod-lt n h) k)
    (λ k. at_half n d (n / d) (n % d) (n / d % 2) s k refl)

-- rounding by adding just under a half, and a half where the quotient is odd
quotient : (a q d : ℕ) → q * d ≤ a → a < q * d + d → a / d ≡ q
quotient a q d l h =
    let e : q * d + (a - q * d) ≡ a = omega arith in
    let r : a - q * d < d = omega arith in
    ap (λ (x : ℕ). x / d) (sym e) ∙ digits_div q r

quotient_up : (a q d : ℕ) → q * d + d ≤ a → a < q * d + d + d → a / d ≡ q + 1
quotient_up a q d l h = let e : (q + 1) * d ≡ q * d + d = add-mul q 1 d ∙ ap (λ (x : ℕ). q * d + x) (one-mul d) in quotient a (q + 1) d (omega arith) (omega arith)

tie : (n half q r b : ℕ) → 0 < half → q * (2 * half) + r ≡ n → 2 * r ≡ 2 * half → q % 2 ≡ b → (n + (half - 1) + b) / (2 * half) ≡ q + b
tie n half q r zero h s e p = quotient _ q (2 * half) (omega arith) (omega arith) ∙ sym (add-zero q)
tie n half q r (suc zero) h s e p = quotient_up _ q (2 * half) (omega arith) (omega arith)
tie n half q r (suc (suc b)) h s e p = absurd (omega arith)

pub biased : (n half : ℕ) → 0 < half → (n + (half - 1) + n / (2 * half) % 2) / (2 * half) ≡ half_to_even n (2 * half)
biased n half h =
    let d = 2 * half in
    let s = div-add-mod' n d in
    let l : n % d < d = mod-lt n (omega arith) in
    by_half n d (λ (x : ℕ). (n + (half - 1) + n / d % 2) / d ≡ x)
    (λ k. quotient _ (n / d) d (omega arith) (omega arith))
    (λ k. quotient_up _ (n / d) d (omega arith) (omega arith))
    (λ k. tie n half (n / d) (n % d) (n / d % 2) h s k refl)

-- rounding depends on the fraction's value alone
rest : (n d c : ℕ) → 0 < d → 0 < c → n * c % (d * c) ≡ n % d * c
rest n d c hd hc = mod-mul (n * c) hd hc ∙ simp (mul-div_cancel n hc, ap (λ (k : ℕ). k % c) (sym (add-zero (n * c))) ∙ digits_mod n hc) (add-zero _)

same_test : (a b c : ℕ) (t : Bool) → 0 < c → ltb a b ≡ t → ltb (a * c) (b * c) ≡ t
same_test a b c true h e = lt-ltb _ _ (mul-lt-mul_of_pos_right (ltb-true a b e) h)
same_test a b c false h e = le-ltb _ _ (mul-le-mul_right c (ltb-false a b e))

pub scaled : (n d c : ℕ) → 0 < d → 0 < c → half_to_even (n * c) (d * c) ≡ half_to_even n d
unfolding half_to_even
scaled n d c hd hc =
    simp (rest n d c hd hc, mul-div-mul_right n d hc, ← mul_assoc, same_test (2 * (n % d)) d c _ hc refl, same_test d (2 * (n % d)) c _ hc refl)

-- what is below a half, and what is not below a whole number
pub rounds_to_0 : (n d : ℕ) → 2 * n < d → half_to_even n d ≡ 0
unfolding half_to_even
rounds_to_0 n d h = let l : n < d = omega arith in simp (mod-eq_of_lt l, div-eq_of_lt l, lt-ltb (2 * n) d h)

pub not_below : (n d k : ℕ) → 0 < d → k * d ≤ n → k ≤ half_to_even n d
not_below n d k h l =
    let q : k ≤ n / d = (le-div_iff_mul-le h).1 l in
    by_half n d (λ (x : ℕ). k ≤ x) (λ u. q) (λ u. omega arith) (λ u. omega arith)
