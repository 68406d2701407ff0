-- A configuration is accepted exactly where no row of 1 to 21 fails; group by group.
use mathlib.Core.Path.{◌≡◌, refl, sym, ◌∙◌}
use mathlib.Core.Bool.{Bool, true, false, not, ◌&&◌, and-true, and_assoc, cond}
use mathlib.Core.List.{List, [], ◌∷◌, ◌++◌}
use native.Mathlib.Omega.{arith}
use lib.Dec.{eqb, ltb}
use borrow.Author.Tests.{ltb-true, ne_eqb}
use Rattle.model.specs.Refusals.{Row, first_failing, none_fails, numbered}
use Rattle.model.specs.Validation.{feature_rows, attribute_rows, limit_rows, event_rows, number_rows, validation_rows, validated, accepted}
use Rattle.model.specs.Laws.{AcceptedByRows}
use Rattle.records.specs.declared.Config.{Config}
use Rattle.model.proofs.Logic.{both}

-- the first failure is 0 exactly where none fails
none_first : (ws : List Row) → numbered ws ≡ true → eqb (first_failing ws) 0 ≡ none_fails ws
unfolding first_failing none_fails
none_first [] m = refl
none_first (w ∷ ws) m = let b = both (ltb 0 w.number) (numbered ws) m in go w.cause b.0 (none_first ws b.1)
  where
    go : (t : Bool) → ltb 0 w.number ≡ true → eqb (first_failing ws) 0 ≡ none_fails ws → eqb (cond t w.number (first_failing ws)) 0 ≡ not t && none_fails ws
    go true m e = ne_eqb w.number 0 (λ z. omega (arith, ltb-true 0 w.number m))
    go false m e = e

pub accepted_by_rows : AcceptedByRows
unfolding accepted validated feature_rows attribute_rows limit_rows event_rows number_rows
accepted_by_rows cfg = none_first (validation_rows cfg) refl

pub none_append : (ws vs : List Row) → none_fails (ws ++ vs) ≡ none_fails ws && none_fails vs
unfolding none_fails
none_append [] vs = refl
none_append (w ∷ ws) vs = rw (none_append ws vs) (sym (and_assoc (not w.cause) (none_fails ws) (none_fails vs)))

pub accepted_groups : (cfg : Config) → accepted cfg ≡ none_fails (feature_rows cfg) && (none_fails (attribute_rows cfg) && (none_fails (limit_rows cfg) && (none_fails (event_rows cfg) && none_fails (number_rows cfg))))
accepted_groups cfg = accepted_by_rows cfg ∙ simp none_append

-- row by row
pub none_cons : (w v : Row) (ws : List Row) → none_fails (w ∷ v ∷ ws) ≡ not w.cause && none_fails (v ∷ ws)
unfolding none_fails
none_cons w v ws = refl

pub none_last : (w : Row) → none_fails (w ∷ []) ≡ not w.cause
unfolding none_fails
none_last w = and-true (not w.cause)
