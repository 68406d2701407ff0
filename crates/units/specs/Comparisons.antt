-- What `==` and `<` of the code say of two numbers.
use Rattle.std.specs.Prelude.{◌≡◌}
use Rattle.std.specs.Ordering.{partial_lt}
use Rattle.units.specs.Units.{equal, less}
use Rattle.units.specs.declared.Hundredths.{Hundredths}
use Rattle.units.specs.contracts.HundredthsPartialEq.TheImpl.{ghosts as equality}
use Rattle.units.specs.contracts.HundredthsPartialOrd.TheImpl.{ghosts as order}

abbrev pub Same : Type 0
Same = (a b : Hundredths) → equality.eq a b ≡ equal a b

abbrev pub Less : Type 0
Less = (a b : Hundredths) → partial_lt order.partial_cmp a b ≡ less a b
