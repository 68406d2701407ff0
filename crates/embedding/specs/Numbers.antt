-- The numbers that a value has at the boundary to C and Rust.
use Rattle.std.specs.Prelude.{Option, None, Some}
use Rattle.units.specs.declared.Hundredths.{Hundredths}
use Rattle.records.specs.Records.{zero_hundredths}
use Rattle.embedding.specs.declared.NullableTemperature.{NullableTemperature}

abbrev pub in_numbers : Option Hundredths → NullableTemperature
in_numbers None = record { hundredths = zero_hundredths; given = 0 }
in_numbers (Some v) = record { hundredths = v; given = 1 }
