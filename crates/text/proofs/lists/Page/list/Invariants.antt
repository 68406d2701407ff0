use Rattle.std.proofs.Common.{◌*◌}
use Rattle.text.specs.Pages.{Within}
use Rattle.text.proofs.lists.Page.list.Given as goal

abbrev pub invariant-loop-item : goal.invariant-loop-item
invariant-loop-item g l = Within l.initial.self l.self (l.item-index * g.row.EACH)
