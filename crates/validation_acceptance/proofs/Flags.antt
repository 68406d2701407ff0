-- Rows of flags, as tests.
use mathlib.Core.Path.{◌≡◌, refl}
use mathlib.Core.Bool.{Bool, true, false, not, ◌&&◌, ◌||◌, beq, and_assoc}
use mathlib.Core.List.{[], ◌∷◌}
use Rattle.model.specs.Refusals.{row, none_fails}
use Rattle.units.specs.Units.{less}
use Rattle.records.specs.Records.{zero_hundredths}
use Rattle.model.specs.Served.{heats, cools, auto, local_temperature_not_exposed, emits}
use Rattle.model.specs.Validation.{attribute_row, attribute_rows, event_row, event_rows}
use Rattle.records.specs.declared.Config.{Config}
use Rattle.model.proofs.Accepted.{none_append, none_cons, none_last}

-- rows 5 and 6, attribute by attribute
pub attribute_groups : (cfg : Config) → none_fails (attribute_rows cfg) ≡ none_fails (attribute_row cfg 0x00 true) && (none_fails (attribute_row cfg 0x1B true) && (none_fails (attribute_row cfg 0x1C true) && (none_fails (attribute_row cfg 0x12 (heats cfg)) && (none_fails (attribute_row cfg 0x11 (cools cfg)) && none_fails (attribute_row cfg 0x19 (auto cfg))))))
unfolding attribute_rows
attribute_groups cfg = simp none_append

-- rows 11 to 15, event by event
pub event_groups : (cfg : Config) → none_fails (event_rows cfg) ≡ not (emits cfg 2 || (emits cfg 6 || emits cfg 7)) && (none_fails (event_row cfg 0 true) && (none_fails (event_row cfg 1 (not (local_temperature_not_exposed cfg))) && (none_fails (event_row cfg 3 true) && (none_fails (event_row cfg 4 true) && (none_fails (event_row cfg 5 (auto cfg)) && not (less cfg.delta zero_hundredths))))))
unfolding event_rows
event_groups cfg = simp (none_cons, none_last, and_assoc)

-- rows 5 and 6: served exactly where wanted
pub exactly_served : (served wanted : Bool) → none_fails (row 5 (wanted && not served) ∷ row 6 (not wanted && served) ∷ []) ≡ beq served wanted
unfolding none_fails
exactly_served true true = refl
exactly_served true false = refl
exactly_served false true = refl
exactly_served false false = refl

-- rows 7 and 8, side by side
pub sides : (p q u v rest : Bool) → not (p || q) && (not (u || v) && rest) ≡ (not p && not u) && ((not q && not v) && rest)
sides true q u v rest = refl
sides false true true v rest = refl
sides false true false v rest = refl
sides false false true v rest = refl
sides false false false v rest = refl

-- rows 7 and 8 of a side: none of its limits, or all with its feature
pub all_or_none :
    (a b c d side : Bool)
    → not (((a || b) || (c || d)) && not ((a && b) && (c && d))) && not (((a && b) && (c && d)) && not side)
    ≡ beq ((a || b) || (c || d)) (((a && b) && (c && d)) && side)
all_or_none true true true true true = refl
all_or_none true true true true false = refl
all_or_none true true true false side = refl
all_or_none true true false d side = refl
all_or_none true false c d side = refl
all_or_none false true c d side = refl
all_or_none false false true d side = refl
all_or_none false false false true side = refl
all_or_none false false false false side = refl

-- rows 12 to 14: emitted exactly where supported and applicable
pub exactly_emitted :
    (emits supported applies : Bool)
    → none_fails (row 12 (emits && not supported) ∷ row 13 (emits && not applies) ∷ row 14 (supported && (applies && not emits)) ∷ [])
    ≡ beq emits (supported && applies)
unfolding none_fails
exactly_emitted true true true = refl
exactly_emitted true true false = refl
exactly_emitted true false applies = refl
exactly_emitted false true true = refl
exactly_emitted false true false = refl
exactly_emitted false false applies = refl
