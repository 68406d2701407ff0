-- Document 02, C-15: the mill's week.
use Rattle.std.specs.Prelude.{◌≡◌, Bool, false, ◌&&◌, ◌||◌, cond, List, [], ◌∷◌, ◌++◌, ℕ, suc, zero, ◌-◌, ◌/◌, ◌%◌, ◌<◌, eqb, ltb, leb, pos, length, get_or, replicate}
use Rattle.units.specs.Units.{hundredths, widened}
use Rattle.units.specs.declared.Hundredths.{Hundredths}
use Rattle.records.specs.Records.{zero_hundredths, changed_to}
use Rattle.model.specs.Answers.{Outcome, Stage, quiet}
use Rattle.model.specs.Refusals.{Row, row, unless}
use Rattle.model.specs.Limits.{clamp_heat_setpoint}
use Rattle.model.specs.Attribution.{schedule}
use Rattle.model.specs.Writes.{unserved, applied, store_heating_setpoint}
use Rattle.records.specs.declared.Config.{Config}
use Rattle.records.specs.declared.Controller.{Controller}
use Rattle.records.specs.declared.Readings.{Readings}

-- a week: the entry of each hour from Monday 00:00
abbrev pub Week : Type 0
Week = ℕ → Hundredths

abbrev pub hours_of_week : ℕ
hours_of_week = 168

abbrev pub last_hour : ℕ
last_hour = 167

-- hour 167 precedes hour 0
abbrev pub hour_before : ℕ → ℕ
hour_before h = cond (eqb h 0) last_hour (h - 1)

-- an hour acts just where the entry differs from the hour before
unfoldable pub acts : Week → ℕ → Bool
acts w h = changed_to (w (hour_before h)) (w h)

-- 32 HourOutsideWeek, then 24 without heating
abbrev pub hour_rows : Config → ℕ → List Row
hour_rows cfg h = row 32 (ltb last_hour h) ∷ unserved cfg 0x12 ∷ []

-- the entry, clamped to the limits in force, is stored as a heating write's value is, by the schedule
unfoldable pub store_entry : Config → Readings → Hundredths → Controller → Stage
store_entry cfg d v r = store_heating_setpoint cfg d schedule (clamp_heat_setpoint cfg r.attrs.settings (widened v)) r

-- with a plant order; an hour that does not act changes nothing
unfoldable pub hour : Week → Config → Controller → Readings → ℕ → Outcome
hour w cfg r d h = unless (hour_rows cfg h) r (cond (acts w h) (applied cfg d (store_entry cfg d (w h) r)) (quiet 0 r))

-- so of any week: an hour that is done and does not act leaves all as it was
abbrev pub IdleHourChangesNothing : Type 0
IdleHourChangesNothing =
    (w : Week) (cfg : Config) (r : Controller) (d : Readings) (h : ℕ) → acts w h ≡ false → (hour w cfg r d h).number ≡ 0 → hour w cfg r d h ≡ quiet 0 r

-- The mill's week: days 0 to 4, hours 6 to 17, stand at 2000, all else at 1700
abbrev pub comfort : Hundredths
comfort = hundredths (pos 2000)

abbrev pub setback : Hundredths
setback = hundredths (pos 1700)

abbrev pub day_of : ℕ → ℕ
day_of h = h / 24

abbrev pub hour_of_day : ℕ → ℕ
hour_of_day h = h % 24

abbrev pub is_workday : ℕ → Bool
is_workday h = leb (day_of h) 4

abbrev pub is_working_hour : ℕ → Bool
is_working_hour h = is_workday h && (leb 6 (hour_of_day h) && leb (hour_of_day h) 17)

unfoldable pub mill_week : Week
mill_week h = cond (is_working_hour h) comfort setback

-- the same as a table, one fixed entry for each hour
abbrev pub workday : List Hundredths
workday = replicate 6 setback ++ (replicate 12 comfort ++ replicate 6 setback)

abbrev pub rest_day : List Hundredths
rest_day = replicate 24 setback

unfoldable pub week_table : List Hundredths
week_table = workday ++ (workday ++ (workday ++ (workday ++ (workday ++ (rest_day ++ rest_day)))))

-- the values of a rule at i, i + 1, .., so many of them
abbrev pub listed_from : {A : Type 0} → (ℕ → A) → ℕ → ℕ → List A
listed_from f i zero = []
listed_from f i (suc n) = f i ∷ listed_from f (suc i) n

-- the rule, computed once over the whole table
abbrev pub TableTested : Type 0
TableTested = week_table ≡ listed_from mill_week 0 hours_of_week

-- so each entry of the table is the rule's
abbrev pub EntryByRule : Type 0
EntryByRule = (h : ℕ) → h < hours_of_week → get_or week_table h zero_hundredths ≡ mill_week h

-- and 168 entries that keep the rule at each hour are the table
abbrev pub TableByRule : Type 0
TableByRule = (xs : List Hundredths) → length xs ≡ hours_of_week → ((h : ℕ) → h < hours_of_week → get_or xs h zero_hundredths ≡ mill_week h) → xs ≡ week_table

-- it acts at hours 6 and 18 of days 0 to 4, and at no other
abbrev pub ActsAtSixAndEighteen : Type 0
ActsAtSixAndEighteen = (h : ℕ) → h < hours_of_week → acts mill_week h ≡ is_workday h && (eqb (hour_of_day h) 6 || eqb (hour_of_day h) 18)
