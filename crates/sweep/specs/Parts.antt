-- An answer under way, as the code holds it.
use Rattle.records.specs.Records.{nothing_removed}
use Rattle.model.specs.Answers.{Outcome, push_all, packed_events}
use Rattle.records.specs.Records.{Notices}
use Rattle.records.specs.declared.Answer.{Answer}

-- the answer of an outcome whose notices come after others
abbrev pub swept_with : Notices → Outcome → Answer
swept_with n o = record { number = o.number; rec = o.rec; order = o.order; notices = push_all n o.notices; events = packed_events o.events; deadline = o.deadline; removed = nothing_removed }
