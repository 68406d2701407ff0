-- The derived comparisons are those of the definitions.
use Rattle.std.proofs.Common.{rules}
use Rattle.units.specs.Units.{equal, less}
use Rattle.units.specs.Comparisons.{Same, Less}

pub same : Same
unfolding equal
same a b = search rules

pub is_less : Less
unfolding less
is_less a b = search rules
