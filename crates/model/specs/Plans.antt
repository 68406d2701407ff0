-- Document 01, Writes, as plans: what each write asks for, and how a plan is carried out. The definitions in the paper's words are those of Writes,
-- RaiseLower and RaiseBoth; that a plan carried out is its write is a law for each, stated last.
use Rattle.std.specs.Prelude.{◌≡◌, Bool, true, false, ◌||◌, cond, List, [], ◌∷◌, ◌++◌, ℕ, eqb, Option, None, Some}
use Rattle.units.specs.Units.{widened, raised}
use Rattle.units.specs.declared.Hundredths.{Hundredths}
use Rattle.units.specs.declared.Tenths.{Tenths}
use Rattle.records.specs.Records.{with_attrs, changed_to, with_heating, with_cooling, with_min_heat, with_max_heat, with_min_cool, with_max_cool, with_mode, with_setpoints, updated, nothing_removed}
use Rattle.model.specs.Answers.{Outcome, only_if, quiet}
use Rattle.model.specs.Refusals.{Row}
use Rattle.model.specs.Served.{noticed}
use Rattle.model.specs.Limits.{min_heat_setpoint, max_heat_setpoint, min_cool_setpoint, max_cool_setpoint, in_heat_limits, in_cool_limits, clamp_heat_setpoint, clamp_cool_setpoint}
use Rattle.model.specs.Attribution.{external, schedule, with_attributed, armed_clock, served_setpoints}
use Rattle.model.specs.Orders.{order_of, ask_sweep}
use Rattle.model.specs.Writes.{relay_notices, source_notices, cooling_with_gap, heating_with_gap, recorded_if, heating_rows, cooling_rows, min_heat_rows, max_heat_rows, min_cool_rows, max_cool_rows, mode_rows, write_occupied_heating_setpoint, write_occupied_cooling_setpoint, write_min_heat_setpoint_limit, write_max_heat_setpoint_limit, write_min_cool_setpoint_limit, write_max_cool_setpoint_limit, write_system_mode}
use Rattle.model.specs.RaiseBoth.{heating_target, cooling_target}
use Rattle.model.specs.RaiseLower.{raise_rows, raise_lower_setpoint}
use Rattle.model.specs.Week.{Week, acts, hour_rows, hour, mill_week}
use Rattle.model.specs.Removed.{heating_alone, cooling_alone, heating_raise_removed, cooling_raise_removed, both_raise_removed, removed_when_done, removed, CoolingPushCutsNothing, HeatingPushCutsNothing}
use Rattle.model.specs.Sound.{sound}
use Rattle.model.specs.Step.{step_sound}
use Rattle.records.specs.declared.Config.{Config}
use Rattle.records.specs.declared.Settings.{Settings}
use Rattle.records.specs.declared.Attrs.{Attrs}
use Rattle.records.specs.declared.SetpointChangeState.{SetpointChangeState}
use Rattle.records.specs.declared.Controller.{Controller}
use Rattle.records.specs.declared.Readings.{Readings}
use Rattle.records.specs.declared.Call.{Call}
use Rattle.records.specs.declared.Call.TheVariants.{WriteOccupiedHeatingSetpoint, WriteOccupiedCoolingSetpoint, WriteMinHeatSetpointLimit, WriteMaxHeatSetpointLimit, WriteMinCoolSetpointLimit, WriteMaxCoolSetpointLimit, WriteSystemMode, SetControlSequenceOfOperation, RaiseLowerSetpoint, ArmClock, OutOfBand, SeedEvents, Sweep, Timer, Deadline, FactoryReset, Hour}
use Rattle.records.specs.declared.Stored.{Stored}
use Rattle.records.specs.declared.Stored.TheVariants.{Nothing, MinHeat, MaxHeat, MinCool, MaxCool, Mode}
use Rattle.records.specs.declared.Sides.{Sides}
use Rattle.records.specs.declared.Sides.TheVariants.{Neither, Heating, Cooling, Both}
use Rattle.records.specs.declared.Removed.{Removed}
use Rattle.records.specs.declared.Plan.{Plan}

-- refused: nothing is stored
abbrev pub refusal : Settings → ℕ → Plan
refusal s n = record { stored = Nothing; heating = s.heating; cooling = s.cooling; sides = Neither; number = n; source = external; arms = false; removed = nothing_removed }

-- a limit or the mode, and no setpoint
abbrev pub setting_alone : Settings → Stored → Plan
setting_alone s x = record { stored = x; heating = s.heating; cooling = s.cooling; sides = Neither; number = 0; source = external; arms = false; removed = nothing_removed }

-- heating, cooling or both to a target
abbrev pub heating_to : Settings → Stored → Hundredths → Plan
heating_to s x v = record { stored = x; heating = v; cooling = s.cooling; sides = Heating; number = 0; source = external; arms = false; removed = nothing_removed }

abbrev pub cooling_to : Settings → Stored → Hundredths → Plan
cooling_to s x v = record { stored = x; heating = s.heating; cooling = v; sides = Cooling; number = 0; source = external; arms = false; removed = nothing_removed }

abbrev pub both_to : Hundredths → Hundredths → Plan
both_to h c = record { stored = Nothing; heating = h; cooling = c; sides = Both; number = 0; source = external; arms = false; removed = nothing_removed }

-- refused with the first failure's number, else the plan
unfoldable pub plan_unless : List Row → Settings → Plan → Plan
plan_unless [] s p = p
plan_unless (w ∷ ws) s p = cond w.cause (refusal s w.number) (plan_unless ws s p)

-- a setpoint outside the limits in force goes to the nearest one; t has the limit in it
unfoldable pub heating_pulled : Config → Settings → Stored → Plan
heating_pulled cfg t x = cond (in_heat_limits cfg t t.heating) (setting_alone t x) (heating_to t x (clamp_heat_setpoint cfg t (widened t.heating)))

unfoldable pub cooling_pulled : Config → Settings → Stored → Plan
cooling_pulled cfg t x = cond (in_cool_limits cfg t t.cooling) (setting_alone t x) (cooling_to t x (clamp_cool_setpoint cfg t (widened t.cooling)))

-- the writes
unfoldable pub plan_heating_setpoint : Config → Settings → Hundredths → Plan
plan_heating_setpoint cfg s v = plan_unless (heating_rows cfg s v) s (heating_to s Nothing v)

unfoldable pub plan_cooling_setpoint : Config → Settings → Hundredths → Plan
plan_cooling_setpoint cfg s v = plan_unless (cooling_rows cfg s v) s (cooling_to s Nothing v)

unfoldable pub plan_min_heat_limit : Config → Settings → Hundredths → Plan
plan_min_heat_limit cfg s v = plan_unless (min_heat_rows cfg s v) s (heating_pulled cfg (with_min_heat s v) (MinHeat v))

unfoldable pub plan_max_heat_limit : Config → Settings → Hundredths → Plan
plan_max_heat_limit cfg s v = plan_unless (max_heat_rows cfg s v) s (heating_pulled cfg (with_max_heat s v) (MaxHeat v))

unfoldable pub plan_min_cool_limit : Config → Settings → Hundredths → Plan
plan_min_cool_limit cfg s v = plan_unless (min_cool_rows cfg s v) s (cooling_pulled cfg (with_min_cool s v) (MinCool v))

unfoldable pub plan_max_cool_limit : Config → Settings → Hundredths → Plan
plan_max_cool_limit cfg s v = plan_unless (max_cool_rows cfg s v) s (cooling_pulled cfg (with_max_cool s v) (MaxCool v))

unfoldable pub plan_system_mode : Config → Settings → ℕ → Plan
plan_system_mode cfg s v = plan_unless (mode_rows cfg v) s (setting_alone s (Mode v))

-- beside the targets, what clamping took off those asked (C-12)
abbrev pub removing : Plan → Removed → Plan
removing p x = record { stored = p.stored; heating = p.heating; cooling = p.cooling; sides = p.sides; number = p.number; source = p.source; arms = p.arms; removed = x }

-- Heat 0, Cool 1, Both 2
unfoldable pub plan_sides : Config → Settings → ℕ → Tenths → Plan
plan_sides cfg s mode amount =
    cond (eqb mode 0) (removing (heating_to s Nothing (raised s.heating amount (min_heat_setpoint cfg s) (max_heat_setpoint cfg s))) (heating_alone (heating_raise_removed cfg s amount)))
    (cond (eqb mode 1) (removing (cooling_to s Nothing (raised s.cooling amount (min_cool_setpoint cfg s) (max_cool_setpoint cfg s))) (cooling_alone (cooling_raise_removed cfg s amount)))
    (removing (both_to (heating_target cfg s amount) (cooling_target cfg s amount)) (both_raise_removed cfg s amount)))

abbrev pub arming : Plan → Plan
arming p = record { stored = p.stored; heating = p.heating; cooling = p.cooling; sides = p.sides; number = p.number; source = p.source; arms = true; removed = p.removed }

-- raise/lower arms first, refused or not
unfoldable pub plan_raise_lower : Config → Settings → ℕ → Tenths → Plan
plan_raise_lower cfg s mode amount = arming (plan_unless (raise_rows cfg mode) s (plan_sides cfg s mode amount))

-- by another source
abbrev pub from_source : ℕ → Plan → Plan
from_source n p = record { stored = p.stored; heating = p.heating; cooling = p.cooling; sides = p.sides; number = p.number; source = n; arms = p.arms; removed = p.removed }

-- the entry of an hour, clamped (C-15)
abbrev pub entry_to : Config → Settings → Hundredths → Plan
entry_to cfg s v = from_source schedule (heating_to s Nothing (clamp_heat_setpoint cfg s (widened v)))

-- an hour that nothing refuses and that does not act is no write
unfoldable pub planned_unless : List Row → Settings → Option Plan → Option Plan
planned_unless [] s x = x
planned_unless (w ∷ ws) s x = cond w.cause (Some (refusal s w.number)) (planned_unless ws s x)

unfoldable pub plan_hour : Week → Config → Settings → ℕ → Option Plan
plan_hour w cfg s h = planned_unless (hour_rows cfg h) s (cond (acts w h) (Some (entry_to cfg s (w h))) None)

unfoldable pub planned : Config → Settings → Call → Option Plan
planned cfg s (WriteOccupiedHeatingSetpoint v) = Some (plan_heating_setpoint cfg s v)
planned cfg s (WriteOccupiedCoolingSetpoint v) = Some (plan_cooling_setpoint cfg s v)
planned cfg s (WriteMinHeatSetpointLimit v) = Some (plan_min_heat_limit cfg s v)
planned cfg s (WriteMaxHeatSetpointLimit v) = Some (plan_max_heat_limit cfg s v)
planned cfg s (WriteMinCoolSetpointLimit v) = Some (plan_min_cool_limit cfg s v)
planned cfg s (WriteMaxCoolSetpointLimit v) = Some (plan_max_cool_limit cfg s v)
planned cfg s (WriteSystemMode v) = Some (plan_system_mode cfg s v)
planned cfg s (SetControlSequenceOfOperation v) = None
planned cfg s (RaiseLowerSetpoint mode amount) = Some (plan_raise_lower cfg s mode amount)
planned cfg s ArmClock = None
planned cfg s (OutOfBand m) = None
planned cfg s SeedEvents = None
planned cfg s Sweep = None
planned cfg s Timer = None
planned cfg s Deadline = None
planned cfg s FactoryReset = None
planned cfg s (Hour h) = plan_hour mill_week cfg s h

-- the settings with the limit or the mode in them
abbrev pub with_stored : Settings → Stored → Settings
with_stored s Nothing = s
with_stored s (MinHeat v) = with_min_heat s v
with_stored s (MaxHeat v) = with_max_heat s v
with_stored s (MinCool v) = with_min_cool s v
with_stored s (MaxCool v) = with_max_cool s v
with_stored s (Mode v) = with_mode s v

abbrev pub setting_stored : Attrs → Stored → Attrs
setting_stored a x = updated a (with_stored a.settings x)

-- the gap, on settings that have the targets: the other side gives way to a single one, heating to both
abbrev pub gap_kept : Config → Settings → Sides → Settings
gap_kept cfg t Neither = t
gap_kept cfg t Heating = with_cooling t (cooling_with_gap cfg t t.heating)
gap_kept cfg t Cooling = with_heating t (heating_with_gap cfg t t.cooling)
gap_kept cfg t Both = with_heating t (heating_with_gap cfg t t.cooling)

-- the setpoints of s go to those of t, and by the gap to those of u; each store by itself sets the dirty mark
unfoldable pub any_moved : Settings → Settings → Settings → Bool
any_moved s t u =
    (changed_to s.heating t.heating || changed_to s.cooling t.cooling) || (changed_to t.heating u.heating || changed_to t.cooling u.cooling)

-- a target that differs is recorded, heating first; what the gap moves is not
unfoldable pub moves_recorded : Readings → ℕ → Settings → Settings → SetpointChangeState → SetpointChangeState
moves_recorded d source s t c =
    recorded_if (changed_to s.cooling t.cooling) d source s.cooling t.cooling (recorded_if (changed_to s.heating t.heating) d source s.heating t.heating c)

-- a stored setpoint claims the pair, an equal one too
abbrev pub claimed_by : Sides → Config → Settings → SetpointChangeState → SetpointChangeState
claimed_by Neither cfg u c = c
claimed_by Heating cfg u c = with_attributed c (served_setpoints cfg u)
claimed_by Cooling cfg u c = with_attributed c (served_setpoints cfg u)
claimed_by Both cfg u c = with_attributed c (served_setpoints cfg u)

-- a limit is always noticed
abbrev pub limit_notices : Config → Stored → List ℕ
limit_notices cfg Nothing = []
limit_notices cfg (MinHeat v) = noticed cfg 0x15
limit_notices cfg (MaxHeat v) = noticed cfg 0x16
limit_notices cfg (MinCool v) = noticed cfg 0x17
limit_notices cfg (MaxCool v) = noticed cfg 0x18
limit_notices cfg (Mode v) = []

-- and so is a mode, last
abbrev pub mode_notices : Config → Stored → List ℕ
mode_notices cfg Nothing = []
mode_notices cfg (MinHeat v) = []
mode_notices cfg (MaxHeat v) = []
mode_notices cfg (MinCool v) = []
mode_notices cfg (MaxCool v) = []
mode_notices cfg (Mode v) = noticed cfg 0x1C

-- targets that differ, heating first; then what the gap moved
unfoldable pub move_notices : Config → Settings → Settings → Settings → List ℕ
move_notices cfg s t u =
    ((only_if (changed_to s.heating t.heating) (noticed cfg 0x12 ++ source_notices cfg) ++ only_if (changed_to s.cooling t.cooling) (noticed cfg 0x11 ++ source_notices cfg)) ++
    only_if (changed_to t.heating u.heating) (noticed cfg 0x12)) ++ only_if (changed_to t.cooling u.cooling) (noticed cfg 0x11)

-- the setpoints go to their targets, and the gap is kept; the record has the limit or the mode in it, and l is its notices
unfoldable pub moved : Config → Readings → List ℕ → Controller → Plan → Outcome
moved cfg d l r p =
    let s = r.attrs.settings in
    let t = with_setpoints s p.heating p.cooling in
    let u = gap_kept cfg t p.sides in
    record {
      number = 0;
      rec = ask_sweep cfg (record {
        attrs = record { settings = u; dirty = r.attrs.dirty || any_moved s t u };
        pending = r.pending;
        events = r.events;
        change = claimed_by p.sides cfg u (moves_recorded d p.source s t r.change);
      });
      order = order_of u;
      notices = (l ++ move_notices cfg s t u) ++ relay_notices cfg d;
      events = [];
      deadline = None;
    }

-- an accepted plan: the limit or the mode is stored, then the setpoints
unfoldable pub performed : Config → Readings → Controller → Plan → Outcome
performed cfg d r p =
    let o = moved cfg d (limit_notices cfg p.stored) (with_attrs r (setting_stored r.attrs p.stored)) p in
    record { number = o.number; rec = o.rec; order = o.order; notices = o.notices ++ mode_notices cfg p.stored; events = o.events; deadline = o.deadline }

-- a plan carried out: armed where it asks for it, then refused or performed
unfoldable pub carried_out : Config → Readings → Controller → Plan → Outcome
carried_out cfg d r p =
    let q = cond p.arms (armed_clock cfg d r) r in
    cond (eqb p.number 0) (performed cfg d q p) (quiet p.number q)

-- the amounts of its answer: none where it is refused
unfoldable pub plan_removed : Plan → Removed
plan_removed p = cond (eqb p.number 0) p.removed nothing_removed

-- Each write is its plan carried out, on every record.
abbrev pub HeatingSetpointCarried : Type 0
HeatingSetpointCarried = (cfg : Config) (r : Controller) (d : Readings) (v : Hundredths) → write_occupied_heating_setpoint cfg r d v ≡ carried_out cfg d r (plan_heating_setpoint cfg r.attrs.settings v)

abbrev pub CoolingSetpointCarried : Type 0
CoolingSetpointCarried = (cfg : Config) (r : Controller) (d : Readings) (v : Hundredths) → write_occupied_cooling_setpoint cfg r d v ≡ carried_out cfg d r (plan_cooling_setpoint cfg r.attrs.settings v)

abbrev pub MinHeatLimitCarried : Type 0
MinHeatLimitCarried = (cfg : Config) (r : Controller) (d : Readings) (v : Hundredths) → write_min_heat_setpoint_limit cfg r d v ≡ carried_out cfg d r (plan_min_heat_limit cfg r.attrs.settings v)

abbrev pub MaxHeatLimitCarried : Type 0
MaxHeatLimitCarried = (cfg : Config) (r : Controller) (d : Readings) (v : Hundredths) → write_max_heat_setpoint_limit cfg r d v ≡ carried_out cfg d r (plan_max_heat_limit cfg r.attrs.settings v)

abbrev pub MinCoolLimitCarried : Type 0
MinCoolLimitCarried = (cfg : Config) (r : Controller) (d : Readings) (v : Hundredths) → write_min_cool_setpoint_limit cfg r d v ≡ carried_out cfg d r (plan_min_cool_limit cfg r.attrs.settings v)

abbrev pub MaxCoolLimitCarried : Type 0
MaxCoolLimitCarried = (cfg : Config) (r : Controller) (d : Readings) (v : Hundredths) → write_max_cool_setpoint_limit cfg r d v ≡ carried_out cfg d r (plan_max_cool_limit cfg r.attrs.settings v)

abbrev pub SystemModeCarried : Type 0
SystemModeCarried = (cfg : Config) (r : Controller) (d : Readings) (v : ℕ) → write_system_mode cfg r d v ≡ carried_out cfg d r (plan_system_mode cfg r.attrs.settings v)

abbrev pub RaiseLowerCarried : Type 0
RaiseLowerCarried =
    (cfg : Config) (r : Controller) (d : Readings) (mode : ℕ) (amount : Tenths) → raise_lower_setpoint cfg r d mode amount ≡ carried_out cfg d r (plan_raise_lower cfg r.attrs.settings mode amount)

-- An hour of any week is its plan carried out, or changes nothing
abbrev pub DoneAsPlanned : Config → Readings → Controller → Option Plan → Outcome → Type 0
DoneAsPlanned cfg d r None o = o ≡ quiet 0 r
DoneAsPlanned cfg d r (Some p) o = o ≡ carried_out cfg d r p

abbrev pub HourCarried : Type 0
HourCarried = (w : Week) (cfg : Config) (r : Controller) (d : Readings) (h : ℕ) → DoneAsPlanned cfg d r (plan_hour w cfg r.attrs.settings h) (hour w cfg r d h)

-- So a call that is planned is its plan carried out.
abbrev pub PlannedCarried : Type 0
PlannedCarried = (cfg : Config) (r : Controller) (d : Readings) (k : Call) (p : Plan) → planned cfg r.attrs.settings k ≡ Some p → step_sound cfg r d k ≡ carried_out cfg d r p

-- And what the call removes stands in its plan. A call that is not planned is done, or removes nothing.
abbrev pub PlannedRemoved : Type 0
PlannedRemoved =
    (cfg : Config) (r : Controller) (d : Readings) (k : Call) (p : Plan) → sound cfg r ≡ true → planned cfg r.attrs.settings k ≡ Some p → removed cfg r d k ≡ plan_removed p

abbrev pub UnplannedRemoved : Type 0
UnplannedRemoved =
    (cfg : Config) (r : Controller) (d : Readings) (k : Call) → sound cfg r ≡ true → planned cfg r.attrs.settings k ≡ None → removed cfg r d k ≡ removed_when_done cfg r.attrs k

-- C-12: the gap push cuts nothing, whichever write makes one, since what it asks lies within the other side's limits in force. t has the limit and the targets
-- in it: the other side gives way to a single one, heating to both
abbrev pub pushed_from : Settings → Plan → Settings
pushed_from s p = with_setpoints (with_stored s p.stored) p.heating p.cooling

abbrev pub PushCutsNothing : Config → Settings → Sides → Type 0
PushCutsNothing cfg t Neither = Unit {0}
PushCutsNothing cfg t Heating = CoolingPushCutsNothing cfg t t.heating
PushCutsNothing cfg t Cooling = HeatingPushCutsNothing cfg t t.cooling
PushCutsNothing cfg t Both = HeatingPushCutsNothing cfg t t.cooling

abbrev pub GapPushCutsNothing : Type 0
GapPushCutsNothing =
    (cfg : Config) (r : Controller) (k : Call) (p : Plan) → sound cfg r ≡ true → planned cfg r.attrs.settings k ≡ Some p → PushCutsNothing cfg (pushed_from r.attrs.settings p) p.sides
