-- What a message asks for, and what comes of it.
use Rattle.std.specs.Prelude.{◌≡◌, [], None}
use Rattle.std.specs.Int.Bits.{bit_or}
use Rattle.records.specs.Records.{with_attrs, with_pending}
use Rattle.model.specs.Answers.{Outcome}
use Rattle.records.specs.declared.Attrs.{Attrs}
use Rattle.records.specs.declared.Controller.{Controller}
use Rattle.records.specs.declared.Removed.{Removed}
use Rattle.messages_taken.specs.declared.Taken.{Taken}

-- its settings in the record, its bits beside those that are pending
abbrev pub outcome : Controller → Taken → Outcome
outcome r t = record { number = t.number; rec = with_pending (with_attrs r t.attrs) (bit_or r.pending t.bits); order = t.order; notices = []; events = []; deadline = None }

-- t, taken from the settings a, gives what the message gives in every record with those settings, and removes x
abbrev pub Takes : Attrs → (Controller → Outcome) → Removed → Taken → Type 0
Takes a message x t = ((r : Controller) → outcome (with_attrs r a) t ≡ message (with_attrs r a)) × (t.removed ≡ x)
