-- C-15: the rule is computed once over the whole table and carried to every hour, and so are the hours that act.
use mathlib.Core.Path.{◌≡◌, refl, ap, ap₂, sym, ◌∙◌}
use mathlib.Core.Bool.{Bool, false, ◌&&◌, ◌||◌}
use mathlib.Core.List.{List, [], ◌∷◌}
use Prim.Native.Nat.{ℕ, zero, suc, ◌+◌, ◌<◌}
use native.Mathlib.Omega.{arith}
use lib.Dec.{eqb}
use native.Mathlib.Nat.{add-zero, zero-add, add-suc, suc-add, le_of_suc-le-suc, not-suc-le-zero}
use lib.ListN.{length, get_or}
use Rattle.records.specs.Records.{zero_hundredths}
use Rattle.units.specs.Units.{equal}
use Rattle.model.specs.Week.{hours_of_week, acts, hour_rows, hour, mill_week, week_table, listed_from, is_workday, hour_of_day, TableTested, EntryByRule, TableByRule, ActsAtSixAndEighteen, IdleHourChangesNothing}
use Rattle.model.proofs.Logic.{accepted_clear, clear_outcome}

pub idle_hour_changes_nothing : IdleHourChangesNothing
unfolding hour
idle_hour_changes_nothing w cfg r d h e n =
    clear_outcome (hour_rows cfg h) r _ (accepted_clear (hour_rows cfg h) r _ refl n) ∙ simp e

-- a table that lists a rule's values has the rule's value at each place, and the other way round
module _ {A : Type 0} (f : ℕ → A) where
  from : (n i k : ℕ) (z : A) → k < n → get_or (listed_from f i n) k z ≡ f (i + k)
  from zero i k z h = absurd (not-suc-le-zero h)
  from (suc n) i zero z h = ap f (sym (add-zero i))
  from (suc n) i (suc k) z h = from n (suc i) k z (le_of_suc-le-suc h) ∙ ap f (suc-add i k ∙ sym (add-suc i k))

  pub listed_at : (xs : List A) (n : ℕ) → xs ≡ listed_from f 0 n → (k : ℕ) (z : A) → k < n → get_or xs k z ≡ f k
  listed_at xs n e k z h = ap (λ (l : List A). get_or l k z) e ∙ from n 0 k z h ∙ ap f (zero-add k)

  all_from : (xs : List A) (n i : ℕ) (z : A) → length xs ≡ n → ((k : ℕ) → k < n → get_or xs k z ≡ f (i + k)) → xs ≡ listed_from f i n
  all_from [] zero i z l h = refl
  all_from [] (suc n) i z l h = absurd (omega arith)
  all_from (x ∷ xs) zero i z l h = absurd (omega arith)
  all_from (x ∷ xs) (suc n) i z l h =
      ap₂ ◌∷◌ (h 0 (omega arith) ∙ ap f (add-zero i)) (all_from xs n (suc i) z (omega arith) (λ k m. h (suc k) (omega arith) ∙ ap f (add-suc i k ∙ sym (suc-add i k))))

  pub listed_all : (xs : List A) (n : ℕ) (z : A) → length xs ≡ n → ((k : ℕ) → k < n → get_or xs k z ≡ f k) → xs ≡ listed_from f 0 n
  listed_all xs n z l h = all_from xs n 0 z l (λ k m. h k m ∙ ap f (sym (zero-add k)))

pub table_tested : TableTested
unfolding week_table mill_week
table_tested = refl

pub entry_by_rule : EntryByRule
entry_by_rule h = listed_at mill_week week_table hours_of_week table_tested h zero_hundredths

pub table_by_rule : TableByRule
table_by_rule xs l h = listed_all mill_week xs hours_of_week zero_hundredths l h ∙ sym table_tested

-- the same of the hours that act, the two tests being listed over the week
abbrev at_six_or_eighteen : ℕ → Bool
at_six_or_eighteen h = is_workday h && (eqb (hour_of_day h) 6 || eqb (hour_of_day h) 18)

acting_tested : listed_from (acts mill_week) 0 hours_of_week ≡ listed_from at_six_or_eighteen 0 hours_of_week
unfolding acts mill_week equal
acting_tested = refl

pub acts_at_six_and_eighteen : ActsAtSixAndEighteen
acts_at_six_and_eighteen h l =
    sym (listed_at (acts mill_week) (listed_from (acts mill_week) 0 hours_of_week) hours_of_week refl h false l)
    ∙ listed_at at_six_or_eighteen (listed_from (acts mill_week) 0 hours_of_week) hours_of_week acting_tested h false l
