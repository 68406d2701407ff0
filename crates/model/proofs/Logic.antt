-- Small facts of tests, lists and refusals, by which the laws are put together.
use mathlib.Core.Path.{◌≡◌, refl, sym, ap}
use mathlib.Core.Bool.{Bool, true, false, not, ◌&&◌, ◌||◌, cond}
use mathlib.Core.List.{List, [], ◌∷◌, ◌++◌}
use Prim.Native.Nat.{ℕ, ◌≤◌}
use native.Mathlib.Omega.{arith}
use lib.Dec.{eqb, ltb}
use borrow.Author.Tests.{ltb-true, ne_eqb}
use lib.ListN.{length}
use Rattle.model.specs.Answers.{Outcome, only_if, quiet}
use Rattle.model.specs.Refusals.{Row, first_failing, then_rows, unless, Clear, numbered}
use Rattle.records.specs.declared.Controller.{Controller}

pub both : (a b : Bool) → a && b ≡ true → (a ≡ true) × (b ≡ true)
both true b e = (refl, e)
both false b e = (e, cc)

pub and_true : (a b : Bool) → a ≡ true → b ≡ true → a && b ≡ true
and_true a b e f = simp (e, f)

-- of `not a || b`: a implies b
pub implied : (a b : Bool) → not a || b ≡ true → a ≡ true → b ≡ true
implied true b e f = e
implied false b e f = cc

pub implies : (a b : Bool) → (a ≡ true → b ≡ true) → not a || b ≡ true
implies true b f = f refl
implies false b f = refl

pub neither : (a b : Bool) → a || b ≡ false → (a ≡ false) × (b ≡ false)
neither true b e = (e, cc)
neither false b e = (refl, e)

pub not_true : (a : Bool) → not a ≡ true → a ≡ false
not_true true e = sym e
not_true false e = refl

pub not_false : (a : Bool) → not a ≡ false → a ≡ true
not_false true e = refl
not_false false e = sym e

pub or_right : (a b : Bool) → b ≡ true → a || b ≡ true
or_right true b e = refl
or_right false b e = e

pub or_left : (a b : Bool) → a ≡ true → a || b ≡ true
or_left a b e = simp e

pub and_right : (a b : Bool) → b ≡ false → a && b ≡ false
and_right true b e = e
and_right false b e = refl

pub and_left : (a b : Bool) → a ≡ false → a && b ≡ false
and_left a b e = simp e

-- of `a && b` false: a rules b out
pub not_both : (a b : Bool) → a && b ≡ false → a ≡ true → b ≡ false
not_both true b e f = e
not_both false b e f = cc

-- a test that is both
pub clash : {X : Type 0} (b : Bool) → b ≡ true → b ≡ false → X
clash true e f = let z : ◌≡◌ {A = ℕ} 0 1 = cc in absurd (omega arith)
clash false e f = let z : ◌≡◌ {A = ℕ} 0 1 = cc in absurd (omega arith)

-- a fact about a pick, from its two cases
pub by_cond {ℓ} : {X : Type 0} (P : X → Type ℓ) (b : Bool) (x y : X) → (b ≡ true → P x) → (b ≡ false → P y) → P (cond b x y)
by_cond P true x y f g = f refl
by_cond P false x y f g = g refl

pub cases : {X : Type 0} (b : Bool) → (b ≡ true → X) → (b ≡ false → X) → X
cases true f g = f refl
cases false f g = g refl

-- a fact about a guarded outcome: of each refusal, and of the outcome where nothing refuses
pub by_unless {ℓ} : (P : Outcome → Type ℓ) (ws : List Row) (r : Controller) (o : Outcome) → ((n : ℕ) → P (quiet n r)) → (Clear ws → P o) → P (unless ws r o)
unfolding unless
by_unless P [] r o f g = g tt
by_unless P (w ∷ ws) r o f g =
    by_cond P w.cause (quiet w.number r) (unless ws r o) (λ e. f w.number) (λ e. by_unless P ws r o f (λ c. g (e, c)))

-- two picks by the same test
pub both_cond {ℓ} : {X Y : Type 0} (R : X → Y → Type ℓ) (b : Bool) (x y : X) (u w : Y) → (b ≡ true → R x u) → (b ≡ false → R y w) → R (cond b x y) (cond b u w)
both_cond R true x y u w f g = f refl
both_cond R false x y u w f g = g refl

-- the same, knowing that a refusal's number is not 0
pub by_refusal {ℓ} : (P : Outcome → Type ℓ) (ws : List Row) (r : Controller) (o : Outcome) → numbered ws ≡ true → ((n : ℕ) → eqb n 0 ≡ false → P (quiet n r)) → (Clear ws → P o) → P (unless ws r o)
unfolding unless
by_refusal P [] r o m f g = g tt
by_refusal P (w ∷ ws) r o m f g =
    let b = both (ltb 0 w.number) (numbered ws) m in
    by_cond P w.cause (quiet w.number r) (unless ws r o) (λ e. f w.number (ne_eqb w.number 0 (λ z. omega (arith, ltb-true 0 w.number b.0)))) (λ e. by_refusal P ws r o b.1 f (λ c. g (e, c)))

-- a first failure 0 says that no cause is there
passed : (t : Bool) (n m : ℕ) → ltb 0 n ≡ true → cond t n m ≡ 0 → (t ≡ false) × (m ≡ 0)
passed true n m e f = absurd (omega (arith, ltb-true 0 n e))
passed false n m e f = (refl, f)

pub clear : (ws : List Row) → numbered ws ≡ true → first_failing ws ≡ 0 → Clear ws
unfolding first_failing
clear [] e f = tt
clear (w ∷ ws) e f =
    let b = both (ltb 0 w.number) (numbered ws) e in
    let p = passed w.cause w.number (first_failing ws) b.0 f in
    (p.0, clear ws b.1 p.1)

-- an accepted call met no cause, and gives its outcome
pub accepted_clear : (ws : List Row) (r : Controller) (o : Outcome) → numbered ws ≡ true → (unless ws r o).number ≡ 0 → Clear ws
unfolding unless
accepted_clear [] r o m e = tt
accepted_clear (w ∷ ws) r o m e =
    let b = both (ltb 0 w.number) (numbered ws) m in
    let k = first_clear w.cause w.number (quiet w.number r) (unless ws r o) b.0 refl e in
    (k.0, accepted_clear ws r o b.1 k.1)
  where
    first_clear : (t : Bool) (n : ℕ) (x y : Outcome) → ltb 0 n ≡ true → x.number ≡ n → (cond t x y).number ≡ 0 → (t ≡ false) × (y.number ≡ 0)
    first_clear true n x y m e f = absurd (omega (arith, ltb-true 0 n m))
    first_clear false n x y m e f = (refl, f)

pub clear_outcome : (ws : List Row) (r : Controller) (o : Outcome) → Clear ws → unless ws r o ≡ o
unfolding unless
clear_outcome [] r o c = refl
clear_outcome (w ∷ ws) r o c = rw c.0 (clear_outcome ws r o c.1)

-- the rows of two lists
pub clear_append : (ws vs : List Row) → Clear (ws ++ vs) → Clear ws × Clear vs
clear_append [] vs c = (tt, c)
clear_append (w ∷ ws) vs c = let k = clear_append ws vs c.1 in ((c.0, k.0), k.1)

-- rows in turn
pub then_append : (ws vs : List Row) (rest : ℕ) → then_rows (ws ++ vs) rest ≡ then_rows ws (then_rows vs rest)
unfolding then_rows
then_append [] vs rest = refl
then_append (w ∷ ws) vs rest = ap (λ (n : ℕ). cond w.cause w.number n) (then_append ws vs rest)

pub first_then : (ws : List Row) → first_failing ws ≡ then_rows ws 0
unfolding first_failing then_rows
first_then [] = refl
first_then (w ∷ ws) = ap (λ (n : ℕ). cond w.cause w.number n) (first_then ws)

pub length_only_if : {A : Type 0} (t : Bool) (l : List A) → length (only_if t l) ≤ length l
unfolding only_if
length_only_if true l = omega arith
length_only_if false l = omega arith
