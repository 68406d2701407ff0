-- What has been pushed, with the notices of the rows that are left, is the whole table's.
use Rattle.std.proofs.Common.{◌≡◌, drop}
use Rattle.model.specs.Answers.{packed, push_all}
use Rattle.model.specs.Sweep.{notice_table, table_notices}
use Rattle.sweep_notices.proofs.notify_pending.Given as goal

abbrev pub invariant-loop-stored : goal.invariant-loop-stored
invariant-loop-stored l = push_all l.n (table_notices l.cfg l.pending (drop l.stored-index notice_table)) ≡ packed (table_notices l.cfg l.pending notice_table)
