-- Document 01, Sweep and timer; and the fixed notice table of its Messages.
use Rattle.records.specs.declared.Setpoints.{Setpoints}
use Rattle.std.specs.Prelude.{Bool, true, false, not, ◌&&◌, ◌||◌, cond, List, [], ◌∷◌, ◌++◌, ℕ, ◌+◌, eqb, ltb, Option, None, Some}
use Rattle.units.specs.Units.{equal}
use Rattle.units.specs.declared.Hundredths.{Hundredths}
use Rattle.records.specs.Records.{current_snapshot, first_snapshot, with_pending, with_events, with_change, changed_to}
use Rattle.model.specs.Answers.{Outcome, Stage, only_if, quiet, unchanged}
use Rattle.model.specs.Refusals.{Row, row, unless}
use Rattle.model.specs.Served.{heats, cools, listed, emits, noticed}
use Rattle.model.specs.Modes.{running_state, running_mode}
use Rattle.model.specs.Temperature.{significant, event_due, reported_temperature}
use Rattle.model.specs.Attribution.{manual, recorded, armed_clock, with_attributed, served_setpoints, claim_setpoints}
use Rattle.model.specs.LocalChange.{local_change}
use Rattle.model.specs.Sound.{last_clock}
use Rattle.model.specs.Writes.{source_notices}
use Rattle.records.specs.declared.Config.{Config}
use Rattle.records.specs.declared.Snapshot.{Snapshot}
use Rattle.records.specs.declared.EventState.{EventState}
use Rattle.records.specs.declared.Event.{Event}
use Rattle.records.specs.declared.Event.TheVariants.{SystemModeChange, LocalTemperatureChange, SetpointChange, RunningStateChange, RunningModeChange}
use Rattle.records.specs.declared.NoticeRow.{NoticeRow}
use Rattle.records.specs.declared.Controller.{Controller}
use Rattle.records.specs.declared.Readings.{Readings}

-- the fixed notice table: bit (`PendingBit`) and attribute code (`AttributeId`), ten rows
abbrev pub notice_row : ℕ → ℕ → NoticeRow
notice_row b c = record { bit = b; code = c }

abbrev pub notice_table : List NoticeRow
notice_table =
    notice_row 0 0x00 ∷ notice_row 2 0x11 ∷ notice_row 1 0x12 ∷ notice_row 4 0x15 ∷ notice_row 5 0x16 ∷
    notice_row 6 0x17 ∷ notice_row 7 0x18 ∷ notice_row 3 0x1C ∷ notice_row 8 0x1E ∷ notice_row 8 0x29 ∷ []

-- notices leave in the order of the table; unserved attributes are skipped
unfoldable pub row_notices : Config → ℕ → NoticeRow → List ℕ
row_notices cfg pending w = only_if (listed pending w.bit) (noticed cfg w.code)

unfoldable pub table_notices : Config → ℕ → List NoticeRow → List ℕ
table_notices cfg pending [] = []
table_notices cfg pending (w ∷ ws) = row_notices cfg pending w ++ table_notices cfg pending ws

-- what the events report, now
unfoldable pub snapshot_of : Config → Readings → Controller → Snapshot
snapshot_of cfg d r =
    current_snapshot (reported_temperature cfg d.temperature) r.attrs.settings (running_state cfg d.relaysbefore) (running_mode (running_state cfg d.relaysbefore))

-- starting takes the snapshot and claims the setpoints
unfoldable pub started : Config → Readings → Controller → Controller
started cfg d r = claim_setpoints cfg (first_snapshot r (snapshot_of cfg d r))

-- a local change is Manual, its amount C-20's; then the pair is claimed, with the three notices
abbrev pub local_recorded : Config → Readings → Controller → Setpoints → Setpoints → Stage
local_recorded cfg d r old new = record {
  rec = with_change r (with_attributed (recorded r.change manual (local_change cfg old new) d.hook) (Some new));
  notices = source_notices cfg;
}

abbrev pub attributed_to : Config → Readings → Controller → Option Setpoints → Option Setpoints → Stage
attributed_to cfg d r old None = unchanged r
attributed_to cfg d r None (Some new) = unchanged (with_change r (with_attributed r.change (Some new)))
attributed_to cfg d r (Some old) (Some new) = cond (changed_to old.heating new.heating || changed_to old.cooling new.cooling) (local_recorded cfg d r old new) (unchanged r)

-- with no attributed pair yet it only claims
unfoldable pub attribute_local_setpoint_change : Config → Readings → Controller → Stage
attribute_local_setpoint_change cfg d r = attributed_to cfg d r r.change.attributed (served_setpoints cfg r.attrs.settings)

abbrev pub same_temperature : Option Hundredths → Option Hundredths → Bool
same_temperature None None = true
same_temperature None (Some b) = false
same_temperature (Some a) None = false
same_temperature (Some a) (Some b) = equal a b

-- all equal: no events
unfoldable pub same_snapshot : Snapshot → Snapshot → Bool
same_snapshot a b =
    (same_temperature a.temperature b.temperature && (equal a.heating b.heating && equal a.cooling b.cooling)) &&
    (eqb a.mode b.mode && (eqb a.relays b.relays && eqb a.runningmode b.runningmode))

-- only served events leave, setpoint ones only for a side the features have
unfoldable pub mode_emitted : Config → Snapshot → Snapshot → Bool
mode_emitted cfg old new = emits cfg 0 && not (eqb old.mode new.mode)

unfoldable pub temperature_emitted : Config → Snapshot → Snapshot → Option ℕ → ℕ → Bool
temperature_emitted cfg old new last now = emits cfg 1 && event_due old.temperature new.temperature cfg.delta last now

unfoldable pub cooling_emitted : Config → Snapshot → Snapshot → Bool
cooling_emitted cfg old new = emits cfg 3 && (cools cfg && changed_to old.cooling new.cooling)

unfoldable pub heating_emitted : Config → Snapshot → Snapshot → Bool
heating_emitted cfg old new = emits cfg 3 && (heats cfg && changed_to old.heating new.heating)

unfoldable pub relays_emitted : Config → Snapshot → Snapshot → Bool
relays_emitted cfg old new = emits cfg 4 && not (eqb old.relays new.relays)

unfoldable pub running_mode_emitted : Config → Snapshot → Snapshot → Bool
running_mode_emitted cfg old new = emits cfg 5 && not (eqb old.runningmode new.runningmode)

-- order: mode, temperature, cooling setpoint, heating setpoint, relays, running mode
unfoldable pub events_of : Config → Snapshot → Snapshot → Option ℕ → ℕ → List Event
events_of cfg old new last now =
    only_if (mode_emitted cfg old new) (SystemModeChange old.mode new.mode ∷ []) ++
    (only_if (temperature_emitted cfg old new last now) (LocalTemperatureChange new.temperature ∷ []) ++
    (only_if (cooling_emitted cfg old new) (SetpointChange 3 old.cooling new.cooling ∷ []) ++
    (only_if (heating_emitted cfg old new) (SetpointChange 4 old.heating new.heating ∷ []) ++
    (only_if (relays_emitted cfg old new) (RunningStateChange old.relays new.relays ∷ []) ++
    only_if (running_mode_emitted cfg old new) (RunningModeChange old.runningmode new.runningmode ∷ [])))))

-- only what was emitted moves in the snapshot, except that both setpoints move whenever SetpointChange is served
unfoldable pub committed : Config → Snapshot → Snapshot → Option ℕ → ℕ → EventState
committed cfg old new last now = record {
  shadow = Some (record {
    temperature = cond (temperature_emitted cfg old new last now) new.temperature old.temperature;
    heating = cond (emits cfg 3) new.heating old.heating;
    cooling = cond (emits cfg 3) new.cooling old.cooling;
    mode = cond (mode_emitted cfg old new) new.mode old.mode;
    relays = cond (relays_emitted cfg old new) new.relays old.relays;
    runningmode = cond (running_mode_emitted cfg old new) new.runningmode old.runningmode;
  });
  last = cond (temperature_emitted cfg old new last now) (Some now) last;
}

-- what taking events leaves
pub record Taken : Type 0 where
  pub rec : Controller
  pub events : List Event

-- no snapshot yet: it starts, no events
abbrev pub taken_from : Config → Readings → Controller → Option Snapshot → Taken
taken_from cfg d r None = record { rec = started cfg d r; events = [] }
taken_from cfg d r (Some old) =
    cond (same_snapshot old (snapshot_of cfg d r)) (record { rec = r; events = [] })
    (record {
      rec = with_events r (committed cfg old (snapshot_of cfg d r) r.events.last d.clock);
      events = events_of cfg old (snapshot_of cfg d r) r.events.last d.clock;
    })

unfoldable pub take_events : Config → Readings → Controller → Taken
take_events cfg d r = taken_from cfg d r r.events.shadow

-- 27 ClockTooLate: a clock to which 60,000 ms cannot be added
abbrev pub late : Readings → Row
late d = row 27 (ltb last_clock d.clock)

-- the timer: events only
unfoldable pub timer : Config → Controller → Readings → Outcome
timer cfg r d =
    unless (late d ∷ []) r
    (record { number = 0; rec = (take_events cfg d r).rec; order = None; notices = []; events = (take_events cfg d r).events; deadline = None })

-- with bit 9 a sweep arms, attributes a local change and takes events
unfoldable pub sweep_events : Config → Readings → List ℕ → Controller → Outcome
sweep_events cfg d notices r =
    let s = attribute_local_setpoint_change cfg d (armed_clock cfg d r) in
    record { number = 0; rec = (take_events cfg d s.rec).rec; order = None; notices = notices ++ s.notices; events = (take_events cfg d s.rec).events; deadline = None }

abbrev pub notify : ℕ → Controller → List ℕ → Outcome
notify n r notices = record { number = n; rec = r; order = None; notices = notices; events = []; deadline = None }

-- a sweep with nothing pending changes nothing; else it empties pending and gives its notices
unfoldable pub swept : Config → Readings → Controller → Outcome
swept cfg d r =
    let notices = table_notices cfg r.pending notice_table in
    cond (eqb r.pending 0) (quiet 0 r)
    (cond (listed r.pending 9) (sweep_events cfg d notices (with_pending r 0)) (notify 0 (with_pending r 0) notices))

unfoldable pub sweep : Config → Controller → Readings → Outcome
sweep cfg r d = unless (late d ∷ []) r (swept cfg d r)

-- start, as a call
unfoldable pub seed_events : Config → Controller → Readings → Outcome
seed_events cfg r d = quiet 0 (started cfg d r)

-- last + 60,000 ms while a significant change waits; none without a snapshot, a last event or the served event
abbrev pub deadline_after : Bool → Option ℕ → Option ℕ
deadline_after true (Some last) = Some (last + 60000)
deadline_after true None = None
deadline_after false last = None

abbrev pub waiting : Config → Readings → Option Snapshot → Bool
waiting cfg d None = false
waiting cfg d (Some old) = emits cfg 1 && significant old.temperature (reported_temperature cfg d.temperature) cfg.delta

unfoldable pub deferred_deadline : Config → Readings → Controller → Option ℕ
deferred_deadline cfg d r = deadline_after (waiting cfg d r.events.shadow) r.events.last

unfoldable pub deadline : Config → Controller → Readings → Outcome
deadline cfg r d = record { number = 0; rec = r; order = None; notices = []; events = []; deadline = deferred_deadline cfg d r }
