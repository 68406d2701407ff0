-- A performed plan's answer from its parts, in the order in which the code works them out.
use mathlib.Core.Path.{◌≡◌}
use mathlib.Core.Bool.{Bool, ◌||◌}
use Rattle.std.specs.Prelude.{Option, None}
use Rattle.records.specs.Records.{Notices, Events, updated, with_setpoints, no_events}
use Rattle.model.specs.Answers.{answer_with, packed, packed_events, emit_all}
use Rattle.model.specs.Orders.{order_of, ask_sweep}
use Rattle.model.specs.Plans.{with_stored, gap_kept, any_moved, moves_recorded, claimed_by, moved, performed}
use Rattle.records.specs.declared.Answer.{Answer}
use Rattle.records.specs.declared.Attrs.{Attrs}
use Rattle.records.specs.declared.Config.{Config}
use Rattle.records.specs.declared.Controller.{Controller}
use Rattle.records.specs.declared.Plan.{Plan}
use Rattle.records.specs.declared.PlantOrder.{PlantOrder}
use Rattle.records.specs.declared.Readings.{Readings}
use Rattle.records.specs.declared.SetpointChangeState.{SetpointChangeState}
use Rattle.records.specs.declared.Settings.{Settings}
use Rattle.writes_notices.specs.Carried.{notices_of}

pub performed_answer : (cfg : Config) (d : Readings) (r : Controller) (p : Plan)
    {w u : Settings} {a : Attrs} {m : Bool} {k : SetpointChangeState} {q : Controller} {o : Option PlantOrder} {n : Notices} {e : Events}
    → let t = with_setpoints a.settings p.heating p.cooling in
    w ≡ with_stored r.attrs.settings p.stored → a ≡ updated r.attrs w → u ≡ gap_kept cfg t p.sides → m ≡ any_moved a.settings t u
    → k ≡ claimed_by p.sides cfg u (moves_recorded d p.source a.settings t r.change)
    → q ≡ ask_sweep cfg (record { attrs = record { settings = u; dirty = a.dirty || m }; pending = r.pending; events = r.events; change = k })
    → o ≡ order_of u → n ≡ packed (notices_of cfg d p.stored a.settings t u) → e ≡ no_events
    → ◌≡◌ {A = Answer} (record { number = 0; rec = q; order = o; notices = n; events = e; deadline = None; removed = p.removed }) (answer_with (performed cfg d r p) p.removed)
unfolding performed moved packed_events emit_all
performed_answer cfg d r p hw ha hu hm hk hq ho hn he = simp (he, hn, ho, hq, hk, hm, hu, ha, hw)
