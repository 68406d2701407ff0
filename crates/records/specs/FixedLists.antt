-- A list in fixed memory: an array and a length.
use Rattle.std.specs.Prelude.{cond, ℕ, ◌+◌, ltb, set, replicate}
use Rattle.records.specs.declared.fixed_list.FixedList.{FixedList}

abbrev pub empty : {T : Type 0} (most : ℕ) → T → FixedList T most
empty most blank = record { items = replicate most blank; len = 0 }

-- a full array is left alone
unfoldable pub pushed : {T : Type 0} (most : ℕ) → FixedList T most → T → FixedList T most
pushed most l x = cond (ltb l.len most) (record { items = set l.items l.len x; len = l.len + 1 }) l
