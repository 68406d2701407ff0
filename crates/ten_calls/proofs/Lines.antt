-- Every line is in the table: the lines of the definitions are its lines, by `acceptance`, and no setpoint there is below 0.
use mathlib.Core.Path.{◌≡◌, refl, sym, ap, subst}
use mathlib.Core.Bool.{true}
use mathlib.Core.List.{List, [], ◌∷◌, Memᴰ, map, foldl, foldl-append}
use Prim.Native.Nat.{ℕ, zero, suc, ◌+◌, ◌≤◌, ◌<◌}
use native.Mathlib.Omega.{arith}
use native.Mathlib.Numerals.{add-one}
use lib.IntN.{pos}
use lib.ListN.{length, take, get_or}
use lib.Seq.{take-suc}
use Rattle.integers.specs.Linear.{pos_part}
use Rattle.model.specs.Answers.{Outcome, answer_with}
use Rattle.model.specs.Removed.{opening_removed, removed}
use Rattle.model.specs.Everything.{everything}
use Rattle.model.specs.Sound.{sound}
use Rattle.model.specs.Plant.{plant, plant_settings, no_readings, ten_calls, Line, line, lines_from}
use Rattle.model.specs.Step.{opened}
use Rattle.model.proofs.Acceptance.{acceptance}
use Rattle.model.proofs.Kept.{opened_sound, step_sound_lem}
use Rattle.records.specs.declared.Answer.{Answer}
use Rattle.records.specs.declared.Call.{Call}
use Rattle.records.specs.declared.Call.TheVariants.{Sweep}
use Rattle.ten_calls.specs.Lines.{AnswerInTable, called, outcome_after, removed_after, answer_after}

-- the opening's answer is that of no call after it
pub opens : (a : Answer) → a ≡ answer_with (opened plant (plant_settings 2000 2250)) (opening_removed plant (plant_settings 2000 2250)) → a ≡ answer_after 0
unfolding outcome_after
opens a e = e

pub one_more : (i : ℕ) → i < 9 → outcome_after (i + 1) ≡ called (outcome_after i) (get_or ten_calls i Sweep)
unfolding outcome_after
one_more i h = rw (add-one, take-suc ten_calls i Sweep) (foldl-append called _ (take i ten_calls) _)

pub removed_more : (i : ℕ) → removed_after (i + 1) ≡ removed plant (outcome_after i).rec no_readings (get_or ten_calls i Sweep)
removed_more i = ap removed_after (add-one i)

-- opening and every call leave a sound record
called_sound : (o : Outcome) (ks : List Call) → sound plant o.rec ≡ true → sound plant (foldl called o ks).rec ≡ true
called_sound o [] h = h
called_sound o (k ∷ ks) h = called_sound (called o k) ks (step_sound_lem plant o.rec no_readings k h)

pub sound_after : (i : ℕ) → sound plant (outcome_after i).rec ≡ true
unfolding outcome_after everything
sound_after i = called_sound _ (take i ten_calls) (opened_sound plant (plant_settings 2000 2250) refl)

-- line m is that of the outcome after i calls, where the lines begin at n
lines_have : (m n i : ℕ) (o : Outcome) (ks : List Call) → m ≡ n + i → i ≤ length ks → Memᴰ (line m (foldl called o (take i ks))) (lines_from plant n o ks)
lines_have m n zero o [] e h = let f : m ≡ n = omega arith in Memᴰ.head (ap (λ (x : ℕ). line x o) f)
lines_have m n zero o (k ∷ ks) e h = let f : m ≡ n = omega arith in Memᴰ.head (ap (λ (x : ℕ). line x o) f)
lines_have m n (suc i) o [] e h = absurd (omega arith)
lines_have m n (suc i) o (k ∷ ks) e h = Memᴰ.tail (lines_have m (n + 1) i (called o k) ks (omega arith) (omega arith))

-- a line as it is printed
abbrev whole : Line → Line
whole l = record { call = l.call; answer = l.answer; heating = pos (pos_part l.heating); cooling = pos (pos_part l.cooling) }

whole_in : {l : Line} {ls : List Line} → Memᴰ l ls → Memᴰ (whole l) (map whole ls)
whole_in (Memᴰ.head e) = Memᴰ.head (ap whole e)
whole_in (Memᴰ.tail m) = Memᴰ.tail (whole_in m)

pub in_table : (n i : ℕ) (a : Answer) → n ≡ 1 + i → i ≤ 9 → a ≡ answer_after i → AnswerInTable n a
unfolding outcome_after
in_table n i a e h f =
    let m = lines_have n 1 i (opened plant (plant_settings 2000 2250)) ten_calls e h in
    let t = whole_in (subst (λ (ls : List Line). Memᴰ (line n (outcome_after i)) ls) acceptance.0 m) in
    subst (λ (x : Answer). AnswerInTable n x) (sym f) t

-- the opening's line is the first
pub first_in_table : (a : Answer) → a ≡ answer_with (opened plant (plant_settings 2000 2250)) (opening_removed plant (plant_settings 2000 2250)) → AnswerInTable 1 a
first_in_table a e = in_table 1 0 a (omega arith) (omega arith) (opens a e)
