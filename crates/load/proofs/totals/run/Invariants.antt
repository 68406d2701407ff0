-- The load is that of the turns made, and the place is theirs.
use Rattle.std.proofs.Common.{◌≡◌, ◌%◌}
use Rattle.load.specs.Totals.{load_of}
use Rattle.load.proofs.totals.run.Given as goal

abbrev pub invariant-loop : goal.invariant-loop
invariant-loop l = (l.place ≡ l.counter % 17) × (l.l ≡ load_of l.seed l.counter)
