-- The numbers of a line, by their places. Assumes nothing.
use Rattle.std.specs.Prelude.{ℕ, cond, ltb, ℤ, pos, get_or, Option, None, Some}
use Rattle.words.specs.Words.{signed_of}
use Rattle.words.specs.declared.Number.{Number}
use Rattle.lines.specs.declared.fields.Fields.{Fields}

-- none is 0
abbrev pub size : Option Number → ℕ
size None = 0
size (Some n) = n.size

abbrev pub signed : Option Number → ℤ
signed None = pos 0
signed (Some n) = signed_of n

-- the number at one of the 22 places, and none past them
unfoldable pub number_at : Fields → ℕ → Option Number
number_at f i = cond (ltb i 22) (get_or f.slots i None) None

abbrev pub size_at : Fields → ℕ → ℕ
size_at f i = size (number_at f i)

-- with its sign, and no unit
abbrev pub signed_at : Fields → ℕ → ℤ
signed_at f i = signed (number_at f i)
