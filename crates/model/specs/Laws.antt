-- The laws that code and theorem lean on, as statements. Their proofs stand in proofs/.
use Rattle.units.specs.declared.Hundredths.{Hundredths}
use Rattle.std.specs.Prelude.{◌≡◌, ◌⊎◌, true, false, List, map, ℕ, ◌≤◌, length, take, Option, Some}
use Rattle.records.specs.Records.{blank}
use Rattle.model.specs.Answers.{Outcome, answer, quiet}
use Rattle.model.specs.Refusals.{Row, none_fails, FirstCause, Clear}
use Rattle.model.specs.Served.{local_temperature_not_exposed}
use Rattle.model.specs.Temperature.{with_temperature}
use Rattle.model.specs.Attribution.{armed_clock}
use Rattle.model.specs.Validation.{validation_rows, validated, accepted}
use Rattle.model.specs.Sound.{sound}
use Rattle.model.specs.Causes.{causes}
use Rattle.model.specs.Step.{opened, step}
use Rattle.records.specs.declared.Config.{Config}
use Rattle.records.specs.declared.Settings.{Settings}
use Rattle.records.specs.declared.Controller.{Controller}
use Rattle.records.specs.declared.Readings.{Readings}
use Rattle.records.specs.declared.Call.{Call}

-- no call gives more than 13 notices or 6 events
abbrev pub Bounded : Type 0
Bounded =
    (cfg : Config) (r : Controller) (d : Readings) (k : Call) → (length (step cfg r d k).notices ≤ 13) × (length (step cfg r d k).events ≤ 6)

-- an answer holds its outcome's notices and events whole: the first len codes are the list, and likewise the events
abbrev pub PackedWhole : Outcome → Type 0
PackedWhole o =
    (take (answer o).notices.len (answer o).notices.items ≡ o.notices)
    × (take (answer o).events.len (answer o).events.items ≡ map Some o.events)

-- packing loses nothing of any call
abbrev pub NothingLost : Type 0
NothingLost = (cfg : Config) (r : Controller) (d : Readings) (k : Call) → PackedWhole (step cfg r d k)

-- refused: a number that is not 0, the record as it was, save the newly armed clock at 23 and 25, and no order, notice or event
abbrev pub Refused : Config → Controller → Readings → Outcome → Type 0
Refused cfg r d o =
    (o.number ≡ 0 → ⊥)
    × ((o ≡ quiet o.number r) ⊎ (((o.number ≡ 23) ⊎ (o.number ≡ 25)) × (o ≡ quiet o.number (armed_clock cfg d r))))

-- every call is done or refused
abbrev pub DoneOrRefused : Type 0
DoneOrRefused = (cfg : Config) (r : Controller) (d : Readings) (k : Call) → ((step cfg r d k).number ≡ 0) ⊎ Refused cfg r d (step cfg r d k)

-- an opening is done, or refused: its row's number, which is not 0, the blank record and nothing else
abbrev pub OpenedOrRefused : Type 0
OpenedOrRefused =
    (cfg : Config) (s : Settings)
    → ((accepted cfg ≡ true) × ((opened cfg s).number ≡ 0))
    ⊎ ((accepted cfg ≡ false) × (validated cfg ≡ 0 → ⊥) × (opened cfg s ≡ quiet (validated cfg) blank))

-- a number that is not 0 comes exactly where its row's cause holds and no row before it does; 0 exactly where no cause holds
abbrev pub ByRows : ℕ → List Row → Type 0
ByRows number ws =
    ((n : ℕ) → (n ≡ 0 → ⊥) → (number ≡ n → FirstCause n ws) × (FirstCause n ws → number ≡ n))
    × (number ≡ 0 → Clear ws) × (Clear ws → number ≡ 0)

-- each refusal in its own case only: of every call, and of the opening
abbrev pub OwnCase : Type 0
OwnCase = (cfg : Config) (r : Controller) (d : Readings) (k : Call) → ByRows (step cfg r d k).number (causes cfg r d k)

abbrev pub OpeningOwnCase : Type 0
OpeningOwnCase = (cfg : Config) (s : Settings) → ByRows (opened cfg s).number (validation_rows cfg)

-- a configuration is accepted exactly where no row of 1 to 21 fails
abbrev pub AcceptedByRows : Type 0
AcceptedByRows = (cfg : Config) → accepted cfg ≡ none_fails (validation_rows cfg)

-- opening and every call leave a record that passes row 28
abbrev pub OpenedSound : Type 0
OpenedSound = (cfg : Config) (s : Settings) → accepted cfg ≡ true → sound cfg (opened cfg s).rec ≡ true

abbrev pub StepSound : Type 0
StepSound = (cfg : Config) (r : Controller) (d : Readings) (k : Call) → sound cfg r ≡ true → sound cfg (step cfg r d k).rec ≡ true

-- 28 comes before every other number, and changes nothing
abbrev pub UnsoundRefused : Type 0
UnsoundRefused = (cfg : Config) (r : Controller) (d : Readings) (k : Call) → sound cfg r ≡ false → step cfg r d k ≡ quiet 28 r

-- with LTNE, under which the reported temperature is null, no answer depends on the reading
abbrev pub TemperatureNotExposed : Type 0
TemperatureNotExposed =
    (cfg : Config) (r : Controller) (d : Readings) (t u : Option Hundredths) (k : Call)
    → local_temperature_not_exposed cfg ≡ true → step cfg r (with_temperature d t) k ≡ step cfg r (with_temperature d u) k
