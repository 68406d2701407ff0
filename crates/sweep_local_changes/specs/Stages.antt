-- A stage of the definitions, as the code holds it: its notices pushed onto those before it.
use Rattle.model.specs.Answers.{Stage as ModelStage, push_all}
use Rattle.records.specs.Records.{Notices}
use Rattle.sweep_local_changes.specs.declared.Stage.{Stage}

abbrev pub staged : Notices → ModelStage → Stage
staged n s = record { rec = s.rec; notices = push_all n s.notices }
