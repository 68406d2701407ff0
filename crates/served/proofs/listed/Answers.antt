use Rattle.std.proofs.Common.{arith, ◌<◌, ◌^◌}
use native.Mathlib.Nat.{div-eq_of_lt}
use lib.Pow.{pow_mono}
use Rattle.model.specs.Served.{listed}
use Rattle.served.proofs.listed.Goals as goal

-- all 64 bits are below the code's
pub returns : goal.returns
unfolding listed
returns c = let h : c.args.set < 2 ^ c.args.code = omega (arith, c.ranges.set.fits, pow_mono c.if-code-lt64.false) in simp (div-eq_of_lt h)
