-- The examples of C-18, computed.
use mathlib.Core.Path.{refl}
use lib.Ieee as ieee
use Rattle.model.specs.Everything.{everything}
use Rattle.probes.specs.Probes.{exact_value, half_to_even, nearest_hundredths, in_range, of_pattern}
use Rattle.probes.specs.Examples.{WorkedCases, Edges, ProbesReported, NotReported}

pub worked_cases : WorkedCases
unfolding ieee.of_bits ieee.to_bits exact_value half_to_even nearest_hundredths in_range of_pattern
worked_cases = refl

pub edges : Edges
unfolding ieee.of_bits ieee.to_bits exact_value half_to_even nearest_hundredths in_range of_pattern
edges = refl

pub probes_reported : ProbesReported
unfolding everything ieee.of_bits ieee.to_bits exact_value half_to_even nearest_hundredths in_range of_pattern
probes_reported = (refl, refl, refl)

pub not_reported : NotReported
unfolding everything ieee.of_bits ieee.to_bits exact_value half_to_even nearest_hundredths in_range of_pattern
not_reported = (refl, refl, refl)
