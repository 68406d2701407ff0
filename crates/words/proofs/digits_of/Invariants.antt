use Rattle.std.proofs.Common.{◌≡◌, drop, Some}
use Rattle.words.specs.Words.{digits_after, digits_of}
use Rattle.words.proofs.digits_of.Given as goal

abbrev pub invariant-loop-byte : goal.invariant-loop-byte
invariant-loop-byte l = digits_after (drop l.byte-index l.word) (Some l.size) ≡ digits_of l.word
