-- Setting no bits changes nothing: the lemma is the logic's, which a function names by a ruleset.
use Rattle.std.specs.Int.Bits.{or_zero_r}

pub ruleset no_bits = (or_zero_r)
