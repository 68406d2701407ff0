-- Room for one more item of a list.
use Rattle.std.proofs.Common.{ℕ, ◌+◌, ◌*◌, ◌<◌, ◌≤◌, arith}
use Rattle.std.proofs.Math.Nat.{mul-le-mul_right}

pub one_more : (i n most each : ℕ) → i < n → n ≤ most → i * each + each ≤ most * each
one_more i n most each below within =
    let h : i + 1 ≤ most = omega arith in
    omega (arith, mul-le-mul_right {m = i + 1} {n = most} each h)
