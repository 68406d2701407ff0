-- Lists and the arrays that hold them: pushing onto a packed list packs the longer list, and nothing of a list that has room is lost.
use Rattle.std.specs.Prelude.{Option, None, Some}
use mathlib.Core.Path.{◌≡◌, refl, sym, ◌∙◌, ap}
use mathlib.Core.List.{List, [], ◌∷◌, ◌++◌, append_assoc, append-nil, map}
use Prim.Native.Nat.{ℕ, ◌+◌, ◌≤◌, ◌<◌}
use native.Mathlib.Numerals.{add-one}
use native.Mathlib.Omega.{arith}
use borrow.Author.Tests.{lt-ltb}
use lib.ListN.{length, take, set, length-set, length-replicate}
use lib.Seq.{take-suc-set}
use Rattle.records.specs.FixedLists.{pushed}
use Rattle.records.specs.Records.{no_notices, no_events}
use Rattle.model.specs.Answers.{fold_left, push, push_all, packed, emit, emit_all, packed_events}
use Rattle.records.specs.declared.Event.{Event}
use Rattle.records.specs.Records.{Notices, Events}

fold_append : {A B : Type 0} (f : A → B → A) (a : A) (l m : List B) → fold_left f a (l ++ m) ≡ fold_left f (fold_left f a l) m
fold_append f a [] m = refl
fold_append f a (b ∷ bs) m = fold_append f (f a b) bs m

pub push_all_append : (n : Notices) (l m : List ℕ) → push_all (push_all n l) m ≡ push_all n (l ++ m)
unfolding push_all
push_all_append n l m = sym (fold_append push n l m)

pub push_none : (n : Notices) → push_all n [] ≡ n
unfolding push_all
push_none n = refl

pub emit_all_append : (es : Events) (l m : List Event) → emit_all (emit_all es l) m ≡ emit_all es (l ++ m)
unfolding emit_all
emit_all_append es l m = sym (fold_append emit es l m)

pub emit_none : (es : Events) → emit_all es [] ≡ es
unfolding emit_all
emit_none es = refl

pub emit_one : (es : Events) (e : Event) → emit es e ≡ emit_all es (e ∷ [])
unfolding emit_all
emit_one es e = refl

-- an array of a fixed size with a length, of items that wrap what is pushed
module _ {S A B : Type 0} (items : S → List A) (len : S → ℕ) (wrap : B → A) (room : ℕ) (add : S → B → S)
    (fills : (s : S) (b : B) → len s < room → (items (add s b) ≡ set (items s) (len s) (wrap b)) × (len (add s b) ≡ len s + 1)) where
  filled : (s : S) (l : List B) → length (items s) ≡ room → len s + length l ≤ room → take (len (fold_left add s l)) (items (fold_left add s l)) ≡ take (len s) (items s) ++ map wrap l
  filled s [] e h = sym (append-nil (take (len s) (items s)))
  filled s (b ∷ bs) e h =
      let p : len s < length (items s) = omega arith in
      let q : len s < room = omega arith in
      let f = fills s b q in
      let i : length (items (add s b)) ≡ room = ap length f.0 ∙ length-set (items s) (len s) (wrap b) ∙ e in
      let g : take (len (add s b)) (items (add s b)) ≡ take (len s) (items s) ++ (wrap b ∷ []) = rw (f.0, f.1, add-one) (take-suc-set (items s) (len s) (wrap b) p) in
      filled (add s b) bs i (omega (arith, f.1)) ∙ ap (λ (x : List A). x ++ map wrap bs) g ∙ append_assoc (take (len s) (items s)) (wrap b ∷ []) (map wrap bs)

map_self : (l : List ℕ) → map (λ (c : ℕ). c) l ≡ l
map_self [] = refl
map_self (c ∷ cs) = ap (λ (l : List ℕ). c ∷ l) (map_self cs)

-- the first len codes of a packed list are the list, where it has at most 13
pub packed_codes : (l : List ℕ) → length l ≤ 13 → take (packed l).len (packed l).items ≡ l
unfolding packed push_all push pushed
packed_codes l h =
    filled (λ (n : Notices). n.items) (λ (n : Notices). n.len) (λ (c : ℕ). c) 13 push fills no_notices l (length-replicate {A = ℕ} 13 0) (omega arith) ∙ map_self l
  where
    fills : (n : Notices) (c : ℕ) → n.len < 13 → ((push n c).items ≡ set n.items n.len c) × ((push n c).len ≡ n.len + 1)
    fills n c h = (simp (lt-ltb _ _ h), simp (lt-ltb _ _ h))

-- and of packed events likewise, where there are at most 6
pub packed_items : (l : List Event) → length l ≤ 6 → take (packed_events l).len (packed_events l).items ≡ map Some l
unfolding packed_events emit_all emit pushed
packed_items l h =
    filled (λ (es : Events). es.items) (λ (es : Events). es.len) (λ (e : Event). Some e) 6 emit fills no_events l (length-replicate {A = Option Event} 6 None) (omega arith)
  where
    fills : (es : Events) (e : Event) → es.len < 6 → ((emit es e).items ≡ set es.items es.len (Some e)) × ((emit es e).len ≡ es.len + 1)
    fills es e h = (simp (lt-ltb _ _ h), simp (lt-ltb _ _ h))
