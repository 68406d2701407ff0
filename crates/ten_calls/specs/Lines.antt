-- The lines that the program prints, and the table that each must be in.
use mathlib.Core.List.{Memᴰ, foldl}
use Rattle.std.specs.Prelude.{ℕ, zero, suc, pos, take, get_or}
use Rattle.integers.specs.Linear.{pos_part}
use Rattle.model.specs.Answers.{Outcome, answer_with}
use Rattle.model.specs.Removed.{opening_removed, removed}
use Rattle.model.specs.Plant.{plant, plant_settings, no_readings, ten_calls, ten_lines}
use Rattle.model.specs.Step.{opened, step}
use Rattle.records.specs.declared.Answer.{Answer}
use Rattle.records.specs.declared.Removed.{Removed}
use Rattle.records.specs.declared.Call.{Call}
use Rattle.records.specs.declared.Call.TheVariants.{Sweep}

-- call, answer, heating and cooling are a line of document 01's table
abbrev pub InTable : ℕ → ℕ → ℕ → ℕ → Type 0
InTable n a h c = Memᴰ (record { call = n; answer = a; heating = pos h; cooling = pos c }) ten_lines

-- what is printed of an answer is one
abbrev pub AnswerInTable : ℕ → Answer → Type 0
AnswerInTable n a = let s = a.rec.attrs.settings in InTable n a.number (pos_part s.heating.0) (pos_part s.cooling.0)

abbrev pub called : Outcome → Call → Outcome
called o k = step plant o.rec no_readings k

-- what the opening and the first i calls after it end in
unfoldable pub outcome_after : ℕ → Outcome
outcome_after i = foldl called (opened plant (plant_settings 2000 2250)) (take i ten_calls)

-- the amounts that the last of them removed, and its answer
abbrev pub removed_after : ℕ → Removed
removed_after zero = opening_removed plant (plant_settings 2000 2250)
removed_after (suc i) = removed plant (outcome_after i).rec no_readings (get_or ten_calls i Sweep)

abbrev pub answer_after : ℕ → Answer
answer_after i = answer_with (outcome_after i) (removed_after i)
