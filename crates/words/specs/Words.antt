-- What the words of a line say. Assumes nothing.
use Rattle.std.specs.Prelude.{ℕ, ◌+◌, ◌-◌, ◌*◌, ◌^◌, Bool, true, false, ◌&&◌, cond, List, [], ◌∷◌, ℤ, pos, ◌-ℤ◌, eqb, leb, ltb, length, get_or, drop, Option, None, Some, Result, Ok, Err}
use Rattle.words.specs.declared.BadWord.{BadWord}
use Rattle.words.specs.declared.Field.{Field}
use Rattle.words.specs.declared.Field.TheVariants.{At, Nothing, Number as NumberField}
use Rattle.words.specs.declared.Number.{Number}

abbrev pub bad_word : BadWord
bad_word = record {}

-- n with one more digit, where the byte is one and 64 bits hold the number
unfoldable pub appended_of : ℕ → ℕ → Option ℕ
appended_of n b = cond (leb 48 b && (leb b 57 && ltb (n * 10 + (b - 48)) (2 ^ 64))) (Some (n * 10 + (b - 48))) None

abbrev pub append : Option ℕ → ℕ → Option ℕ
append None b = None
append (Some n) b = appended_of n b

-- more digits after what is read
unfoldable pub digits_after : List ℕ → Option ℕ → Option ℕ
digits_after [] d = d
digits_after (b ∷ bs) d = digits_after bs (append d b)

abbrev pub digits_of : List ℕ → Option ℕ
digits_of bs = digits_after bs (Some 0)

-- the number of a sign and of what the digits spell
abbrev pub number_of : Bool → Option ℕ → Result Field BadWord
number_of negative None = Err bad_word
number_of negative (Some n) = Ok (NumberField (record { negative = negative; size = n }))

-- the one byte of a word
unfoldable pub is_only : List ℕ → ℕ → Bool
is_only w b = eqb (length w) 1 && eqb (get_or w 0 0) b

-- `-` is none, `@` the mark of the readings; else decimal digits, with `-` before them or not
unfoldable pub field_of : List ℕ → Result Field BadWord
field_of w =
    cond (eqb (length w) 0) (Err bad_word)
    (cond (is_only w 45) (Ok Nothing)
    (cond (is_only w 64) (Ok At)
    (cond (eqb (get_or w 0 0) 45) (number_of true (digits_of (drop 1 w))) (number_of false (digits_of w)))))

abbrev pub is_given : Field → Bool
is_given Nothing = false
is_given At = true
is_given (NumberField n) = true

-- how far the number is from zero
abbrev pub size_of : Field → ℕ
size_of (NumberField n) = n.size
size_of Nothing = 0
size_of At = 0

-- a number with its sign
abbrev pub signed_of : Number → ℤ
signed_of n = cond n.negative (pos 0 -ℤ pos n.size) (pos n.size)

abbrev pub value_of : Field → ℤ
value_of (NumberField n) = signed_of n
value_of Nothing = pos 0
value_of At = pos 0
