-- Document 01, Causes and answers: numbered causes in order, the first that holds wins.
use Rattle.std.specs.Prelude.{◌≡◌, ◌⊎◌, Bool, true, false, not, ◌&&◌, cond, List, [], ◌∷◌, ℕ, ltb}
use Rattle.model.specs.Answers.{Outcome, quiet}
use Rattle.records.specs.declared.Controller.{Controller}

-- a row of the table: its number, and whether its cause is there
pub record Row : Type 0 where
  pub number : ℕ
  pub cause : Bool

abbrev pub row : ℕ → Bool → Row
row n t = record { number = n; cause = t }

-- the first failure's number; 0 is done
unfoldable pub first_failing : List Row → ℕ
first_failing [] = 0
first_failing (w ∷ ws) = cond w.cause w.number (first_failing ws)

-- the first failure's number, or else the rest's
unfoldable pub then_rows : List Row → ℕ → ℕ
then_rows [] rest = rest
then_rows (w ∷ ws) rest = cond w.cause w.number (then_rows ws rest)

-- refused with the first failure's number and the record as given, else the outcome
unfoldable pub unless : List Row → Controller → Outcome → Outcome
unless [] r o = o
unless (w ∷ ws) r o = cond w.cause (quiet w.number r) (unless ws r o)

-- whether no row fails
unfoldable pub none_fails : List Row → Bool
none_fails [] = true
none_fails (w ∷ ws) = not w.cause && none_fails ws

-- no cause is there
abbrev pub Clear : List Row → Type 0
Clear [] = Unit {0}
Clear (w ∷ ws) = (w.cause ≡ false) × Clear ws

-- a row of this number has its cause, and no row before it has
abbrev pub FirstCause : ℕ → List Row → Type 0
FirstCause n [] = ⊥
FirstCause n (w ∷ ws) = ((w.cause ≡ true) × (w.number ≡ n)) ⊎ ((w.cause ≡ false) × FirstCause n ws)

-- no number is 0
abbrev pub numbered : List Row → Bool
numbered [] = true
numbered (w ∷ ws) = ltb 0 w.number && numbered ws
