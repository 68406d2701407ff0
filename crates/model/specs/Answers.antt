-- What a call gives, with notices and events as lists; and the answer, which holds them as an array and a length.
use Rattle.std.specs.Prelude.{Bool, true, false, List, [], ◌∷◌, ◌++◌, ℕ, Option, None, Some}
use Rattle.records.specs.FixedLists.{pushed}
use Rattle.records.specs.Records.{Notices, Events, no_notices, no_events, nothing_removed}
use Rattle.records.specs.declared.PlantOrder.{PlantOrder}
use Rattle.records.specs.declared.Controller.{Controller}
use Rattle.records.specs.declared.Event.{Event}
use Rattle.records.specs.declared.Removed.{Removed}
use Rattle.records.specs.declared.Answer.{Answer}

-- number, record, order, notices, events; and the deadline, which only its query gives
pub record Outcome : Type 0 where
  pub number : ℕ
  pub rec : Controller
  pub order : Option PlantOrder
  pub notices : List ℕ
  pub events : List Event
  pub deadline : Option ℕ

-- a record under way, with the notices so far
pub record Stage : Type 0 where
  pub rec : Controller
  pub notices : List ℕ

-- the list where the test holds, else none
unfoldable pub only_if : {A : Type 0} → Bool → List A → List A
only_if true l = l
only_if false l = []

-- a full array is left alone
unfoldable pub push : Notices → ℕ → Notices
push n code = pushed 13 n code

unfoldable pub emit : Events → Event → Events
emit es e = pushed 6 es (Some e)

-- packing: the left fold of pushing, from the empty array
abbrev pub fold_left : {A B : Type 0} → (A → B → A) → A → List B → A
fold_left f a [] = a
fold_left f a (b ∷ bs) = fold_left f (f a b) bs

unfoldable pub push_all : Notices → List ℕ → Notices
push_all n l = fold_left push n l

unfoldable pub emit_all : Events → List Event → Events
emit_all es l = fold_left emit es l

unfoldable pub packed : List ℕ → Notices
packed l = push_all no_notices l

unfoldable pub packed_events : List Event → Events
packed_events l = emit_all no_events l

-- the answer of an outcome, with the amounts that clamping removed of each side (C-12)
abbrev pub answer_with : Outcome → Removed → Answer
answer_with o x = record { number = o.number; rec = o.rec; order = o.order; notices = packed o.notices; events = packed_events o.events; deadline = o.deadline; removed = x }

-- and where nothing is removed
abbrev pub answer : Outcome → Answer
answer o = answer_with o nothing_removed

-- a record and nothing else
abbrev pub quiet : ℕ → Controller → Outcome
quiet n r = record { number = n; rec = r; order = None; notices = []; events = []; deadline = None }

-- one stage after another
abbrev pub and_then : Stage → (Controller → Stage) → Stage
and_then s f = record { rec = (f s.rec).rec; notices = s.notices ++ (f s.rec).notices }

abbrev pub unchanged : Controller → Stage
unchanged r = record { rec = r; notices = [] }
