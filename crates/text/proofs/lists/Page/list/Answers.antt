use Rattle.std.proofs.Common.{arith}
use Rattle.text.specs.Pages.{Within}
use Rattle.std.proofs.Math.Nat.{add-mul}
use Rattle.text.proofs.lists.Page.list.Goals as goal

pub loop-item-preserved : goal.loop-item-preserved
loop-item-preserved g c =
    let item : Within c.loop-item.self c.write.new.arg2 g.row.EACH = c.requires.within _ _ _ _ c.write.ensures in
    omega (arith, add-mul c.loop-item.item-index 1 g.row.EACH)
