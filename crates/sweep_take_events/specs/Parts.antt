-- What taking events leaves, as the code holds it.
use Rattle.model.specs.Answers.{packed_events}
use Rattle.model.specs.Sweep.{Taken as ModelTaken}
use Rattle.sweep_take_events.specs.declared.Taken.{Taken}

abbrev pub packed_taken : ModelTaken → Taken
packed_taken t = record { rec = t.rec; events = packed_events t.events }
