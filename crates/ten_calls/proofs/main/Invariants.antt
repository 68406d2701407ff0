-- The answer is that of the first i calls after the opening.
use Rattle.std.proofs.Common.{◌≡◌}
use Rattle.ten_calls.specs.Lines.{answer_after}
use Rattle.ten_calls.proofs.main.Given as goal

abbrev pub invariant-loop-i : goal.invariant-loop-i
invariant-loop-i l = l.a ≡ answer_after l.i
