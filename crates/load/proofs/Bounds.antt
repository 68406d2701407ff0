-- How far the totals grow: no answer has more than 13 notices and 6 events.
use Rattle.std.specs.Prelude.{Option, None, Some}
use Prim.Native.Nat.{ℕ, zero, suc, ◌*◌, ◌≤◌}
use native.Mathlib.Omega.{arith}
use mathlib.Core.Bool.{Bool, true, false, not, ◌&&◌}
use mathlib.Core.List.{List, [], ◌∷◌}
use lib.Dec.{ltb, eqb}
use borrow.Author.Tests.{ltb-true}
use Rattle.records.specs.FixedLists.{pushed}
use Rattle.records.specs.Records.{no_notices, no_events}
use Rattle.records.specs.declared.fixed_list.FixedList.{FixedList}
use Rattle.model.specs.Answers.{fold_left, push, push_all, packed, emit, emit_all, packed_events}
use Rattle.model.specs.Plant.{plant, no_readings}
use Rattle.model.specs.Step.{step}
use Rattle.records.specs.declared.Event.{Event}
use Rattle.records.specs.declared.PlantOrder.{PlantOrder}
use Rattle.model.proofs.Logic.{by_cond}
use Rattle.load.specs.Totals.{one_if, orders_of, chosen_of, turned, is_sweep, load_of, TotalsBounded}
use Rattle.load.specs.declared.totals.Load.{Load}

pushed_most : {T : Type 0} (most : ℕ) (l : FixedList T most) (x : T) → l.len ≤ most → (pushed most l x).len ≤ most
unfolding pushed
pushed_most {T} most l x h = by_cond (λ (m : FixedList T most). m.len ≤ most) (ltb l.len most) _ l (λ e. omega (arith, ltb-true l.len most e)) (λ e. h)

all_most :
    {T A : Type 0} (most : ℕ) (add : FixedList T most → A → FixedList T most) → ((l : FixedList T most) (x : A) → l.len ≤ most → (add l x).len ≤ most)
    → (l : FixedList T most) (xs : List A) → l.len ≤ most → (fold_left add l xs).len ≤ most
all_most most add f l [] h = h
all_most most add f l (x ∷ xs) h = all_most most add f (add l x) xs (f l x h)

pub notices_most : (l : List ℕ) → (packed l).len ≤ 13
unfolding packed push_all push
notices_most l = all_most 13 push (pushed_most 13) no_notices l (omega arith)

pub events_most : (l : List Event) → (packed_events l).len ≤ 6
unfolding packed_events emit_all emit
events_most l = all_most 6 emit (λ es e. pushed_most 6 es (Some e)) no_events l (omega arith)

one_most : (t : Bool) → one_if t ≤ 1
one_most true = omega arith
one_most false = omega arith

orders_most : (o : Option PlantOrder) → orders_of o ≤ 1
orders_most None = omega arith
orders_most (Some o) = omega arith

record AtMost (t : ℕ) (l : Load) : Type 0 where
  accepted : l.accepted ≤ t
  notices : l.notices ≤ 13 * t
  orders : l.orders ≤ t
  events : l.events ≤ 6 * t

at_most : (s t : ℕ) → AtMost t (load_of s t)
unfolding load_of turned
at_most s zero = record { accepted = omega arith; notices = omega arith; orders = omega arith; events = omega arith }
at_most s (suc t) =
    let h = at_most s t in
    let l = load_of s t in
    let o = step plant l.rec no_readings (chosen_of (is_sweep t) l.seed).call in
    record {
      accepted = omega (arith, one_most (eqb o.number 0 && not (is_sweep t)));
      notices = omega (arith, notices_most o.notices);
      orders = omega (arith, orders_most o.order);
      events = omega (arith, events_most o.events);
    }

pub totals_bounded : (s t : ℕ) → t ≤ 2000000000000000 → TotalsBounded (load_of s t)
totals_bounded s t h =
    let m = at_most s t in
    record { accepted = omega arith; notices = omega arith; orders = omega arith; events = omega arith }
