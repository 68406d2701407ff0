-- The modes of raise/lower, by the numbers of the paper.
use Rattle.std.specs.Prelude.{◌≡◌, ℕ, ◌<◌, Result, MatchResult}
use Rattle.records.specs.declared.refusal.Refusal.{Refusal}
use Rattle.records.specs.declared.refusal.Refusal.TheVariants.{UnknownRaiseLowerMode}
use Rattle.records.specs.declared.raise_lower_mode.RaiseLowerMode.{RaiseLowerMode}
use Rattle.records.specs.declared.raise_lower_mode.RaiseLowerMode.TheVariants.{Heat, Cool, Both}

-- Heat 0, Cool 1, Both 2
abbrev pub code_of : RaiseLowerMode → ℕ
code_of Heat = 0
code_of Cool = 1
code_of Both = 2

-- the mode with this number, or the refusal of a number above them
abbrev pub Decodes : ℕ → Result RaiseLowerMode Refusal → Type 0
Decodes n r = MatchResult r (λ mode. code_of mode ≡ n) (λ e. (e ≡ UnknownRaiseLowerMode) × (2 < n))
