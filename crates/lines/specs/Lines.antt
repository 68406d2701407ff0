-- What is settled of a line before its words are read. Assumes nothing.
use Rattle.std.specs.Prelude.{ℕ, ◌<◌, ◌≡◌, List, length, get_or, Result, Ok, Err}
use Rattle.lines.specs.declared.Line.{Line}
use Rattle.lines.specs.declared.Line.TheVariants.{Nothing}
use Rattle.lines.specs.declared.Unreadable.{Unreadable}

abbrev pub unreadable : Unreadable
unreadable = record {}

-- an empty line and a comment, which begins with `#`, say nothing; any other line of more than 250 bytes is unreadable
pub record LineRead (line : List ℕ) (r : Result Line Unreadable) : Type 0 where
  pub empty : length line ≡ 0 → r ≡ Ok Nothing
  pub comment : get_or line 0 0 ≡ 35 → r ≡ Ok Nothing
  pub long : (get_or line 0 0 ≡ 35 → ⊥) → 250 < length line → r ≡ Err unreadable
