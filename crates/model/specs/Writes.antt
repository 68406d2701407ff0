-- Document 01, Writes: setpoints, limits, mode; and the plant order in which each ends. Raise/lower is RaiseLower's.
use Rattle.std.specs.Prelude.{Bool, not, ◌&&◌, ◌||◌, cond, List, [], ◌∷◌, ◌++◌, ℕ, eqb, None}
use Rattle.units.specs.Units.{plus, minus, above, below, within, widened, saturated_difference}
use Rattle.units.specs.declared.Hundredths.{Hundredths}
use Rattle.records.specs.Records.{with_attrs, with_change, changed_to, set_heating, set_cooling, set_min_heat, set_max_heat, set_min_cool, set_max_cool, set_mode}
use Rattle.model.specs.Answers.{Outcome, Stage, only_if, quiet, and_then, unchanged}
use Rattle.model.specs.Refusals.{Row, row, unless}
use Rattle.model.specs.Served.{auto, serves, noticed}
use Rattle.model.specs.Units.{dead_band}
use Rattle.model.specs.Limits.{min_heat_setpoint, max_heat_setpoint, min_cool_setpoint, max_cool_setpoint, in_heat_limits, in_cool_limits, clamp_heat_setpoint, clamp_cool_setpoint}
use Rattle.model.specs.Modes.{is_supported_system_mode, running_state}
use Rattle.model.specs.Attribution.{external, recorded, armed_clock, claim_setpoints}
use Rattle.model.specs.Orders.{order_of, ask_sweep}
use Rattle.records.specs.declared.Config.{Config}
use Rattle.records.specs.declared.Settings.{Settings}
use Rattle.records.specs.declared.Attrs.{Attrs}
use Rattle.records.specs.declared.SetpointChangeState.{SetpointChangeState}
use Rattle.records.specs.declared.Controller.{Controller}
use Rattle.records.specs.declared.Readings.{Readings}

-- ThermostatRunningState and ThermostatRunningMode if the counted relays differ between the readings before and after
unfoldable pub relay_notices : Config → Readings → List ℕ
relay_notices cfg d = only_if (not (eqb (running_state cfg d.relaysbefore) (running_state cfg d.relaysafter))) (noticed cfg 0x29 ++ noticed cfg 0x1E)

-- done, with a plant order
unfoldable pub applied : Config → Readings → Stage → Outcome
applied cfg d s = record {
  number = 0;
  rec = ask_sweep cfg s.rec;
  order = order_of s.rec.attrs.settings;
  notices = s.notices ++ relay_notices cfg d;
  events = [];
  deadline = None;
}

-- the three notices of a recorded change: its source, amount and timestamp
unfoldable pub source_notices : Config → List ℕ
source_notices cfg = noticed cfg 0x30 ++ (noticed cfg 0x31 ++ noticed cfg 0x32)

-- with AUTO, a heating value that exceeds cooling − dead band
unfoldable pub too_near_cooling : Config → Settings → Hundredths → Bool
too_near_cooling cfg s v = auto cfg && above v (minus s.cooling (dead_band cfg))

unfoldable pub too_near_heating : Config → Settings → Hundredths → Bool
too_near_heating cfg s v = auto cfg && below v (plus s.heating (dead_band cfg))

-- then cooling becomes clamped heating + dead band
unfoldable pub cooling_with_gap : Config → Settings → Hundredths → Hundredths
cooling_with_gap cfg s v = cond (too_near_cooling cfg s v) (clamp_cool_setpoint cfg s (plus v (dead_band cfg))) s.cooling

-- cooling mirrors this
unfoldable pub heating_with_gap : Config → Settings → Hundredths → Hundredths
heating_with_gap cfg s v = cond (too_near_heating cfg s v) (clamp_heat_setpoint cfg s (minus v (dead_band cfg))) s.heating

-- a change that differs is recorded, with the saturated difference
unfoldable pub recorded_if : Bool → Readings → ℕ → Hundredths → Hundredths → SetpointChangeState → SetpointChangeState
recorded_if moved d source old new c = cond moved (recorded c source (saturated_difference new old) d.hook) c

-- the heating value is stored, noticed and recorded if it differs; the gap is kept; the pair is claimed
unfoldable pub store_heating_setpoint : Config → Readings → ℕ → Hundredths → Controller → Stage
store_heating_setpoint cfg d source v r =
    let s = r.attrs.settings in
    let moved = changed_to s.heating v in
    let other = cooling_with_gap cfg s v in
    record {
      rec = claim_setpoints cfg (with_change (with_attrs r (set_cooling (set_heating r.attrs v) other)) (recorded_if moved d source s.heating v r.change));
      notices = only_if moved (noticed cfg 0x12 ++ source_notices cfg) ++ only_if (changed_to s.cooling other) (noticed cfg 0x11);
    }

unfoldable pub store_cooling_setpoint : Config → Readings → ℕ → Hundredths → Controller → Stage
store_cooling_setpoint cfg d source v r =
    let s = r.attrs.settings in
    let moved = changed_to s.cooling v in
    let other = heating_with_gap cfg s v in
    record {
      rec = claim_setpoints cfg (with_change (with_attrs r (set_heating (set_cooling r.attrs v) other)) (recorded_if moved d source s.cooling v r.change));
      notices = only_if moved (noticed cfg 0x11 ++ source_notices cfg) ++ only_if (changed_to s.heating other) (noticed cfg 0x12);
    }

-- 24 UnservedAttribute
abbrev pub unserved : Config → ℕ → Row
unserved cfg code = row 24 (not (serves cfg code))

-- a setpoint write must lie within the limits in force
abbrev pub heating_rows : Config → Settings → Hundredths → List Row
heating_rows cfg s v = unserved cfg 0x12 ∷ row 22 (not (in_heat_limits cfg s v)) ∷ []

abbrev pub cooling_rows : Config → Settings → Hundredths → List Row
cooling_rows cfg s v = unserved cfg 0x11 ∷ row 22 (not (in_cool_limits cfg s v)) ∷ []

unfoldable pub write_occupied_heating_setpoint : Config → Controller → Readings → Hundredths → Outcome
write_occupied_heating_setpoint cfg r d v = unless (heating_rows cfg r.attrs.settings v) r (applied cfg d (store_heating_setpoint cfg d external v r))

unfoldable pub write_occupied_cooling_setpoint : Config → Controller → Readings → Hundredths → Outcome
write_occupied_cooling_setpoint cfg r d v = unless (cooling_rows cfg r.attrs.settings v) r (applied cfg d (store_cooling_setpoint cfg d external v r))

-- a limit pulls its setpoint in: a setpoint outside the limits in force is stored at the nearest one
unfoldable pub pull_heating : Config → Readings → Controller → Stage
pull_heating cfg d r =
    let s = r.attrs.settings in
    cond (in_heat_limits cfg s s.heating) (unchanged r)
    (store_heating_setpoint cfg d external (clamp_heat_setpoint cfg s (widened s.heating)) r)

unfoldable pub pull_cooling : Config → Readings → Controller → Stage
pull_cooling cfg d r =
    let s = r.attrs.settings in
    cond (in_cool_limits cfg s s.cooling) (unchanged r)
    (store_cooling_setpoint cfg d external (clamp_cool_setpoint cfg s (widened s.cooling)) r)

-- a limit write: refused where its attribute is unserved or its value is outside its rule; else the limit is stored and noticed, then pulls
abbrev pub limit_write_rows : Config → ℕ → Bool → List Row
limit_write_rows cfg code refused = unserved cfg code ∷ row 22 refused ∷ []

abbrev pub limit_stored : Config → Controller → Attrs → ℕ → Stage
limit_stored cfg r a code = record { rec = with_attrs r a; notices = noticed cfg code }

abbrev pub limit_write : Config → Controller → Readings → List Row → Stage → (Controller → Stage) → Outcome
limit_write cfg r d rows stored pull = unless rows r (applied cfg d (and_then stored pull))

-- AUTO keeps heating limits at most the cooling limit of the same kind − dead band
abbrev pub heat_limit_refused : Config → Hundredths → Hundredths → Hundredths → Hundredths → Bool
heat_limit_refused cfg v lo hi other = not (within v lo hi) || (auto cfg && above v (minus other (dead_band cfg)))

abbrev pub cool_limit_refused : Config → Hundredths → Hundredths → Hundredths → Hundredths → Bool
cool_limit_refused cfg v lo hi other = not (within v lo hi) || (auto cfg && below v (plus other (dead_band cfg)))

-- a minimum may not exceed its maximum or leave ABS
abbrev pub min_heat_refused : Config → Settings → Hundredths → Bool
min_heat_refused cfg s v = heat_limit_refused cfg v cfg.absminheat s.maxheat (min_cool_setpoint cfg s)

abbrev pub min_heat_rows : Config → Settings → Hundredths → List Row
min_heat_rows cfg s v = limit_write_rows cfg 0x15 (min_heat_refused cfg s v)

unfoldable pub write_min_heat_setpoint_limit : Config → Controller → Readings → Hundredths → Outcome
write_min_heat_setpoint_limit cfg r d v = limit_write cfg r d (min_heat_rows cfg r.attrs.settings v) (limit_stored cfg r (set_min_heat r.attrs v) 0x15) (pull_heating cfg d)

-- nor a maximum the reverse
abbrev pub max_heat_refused : Config → Settings → Hundredths → Bool
max_heat_refused cfg s v = heat_limit_refused cfg v s.minheat cfg.absmaxheat (max_cool_setpoint cfg s)

abbrev pub max_heat_rows : Config → Settings → Hundredths → List Row
max_heat_rows cfg s v = limit_write_rows cfg 0x16 (max_heat_refused cfg s v)

unfoldable pub write_max_heat_setpoint_limit : Config → Controller → Readings → Hundredths → Outcome
write_max_heat_setpoint_limit cfg r d v = limit_write cfg r d (max_heat_rows cfg r.attrs.settings v) (limit_stored cfg r (set_max_heat r.attrs v) 0x16) (pull_heating cfg d)

abbrev pub min_cool_refused : Config → Settings → Hundredths → Bool
min_cool_refused cfg s v = cool_limit_refused cfg v cfg.absmincool s.maxcool (min_heat_setpoint cfg s)

abbrev pub min_cool_rows : Config → Settings → Hundredths → List Row
min_cool_rows cfg s v = limit_write_rows cfg 0x17 (min_cool_refused cfg s v)

unfoldable pub write_min_cool_setpoint_limit : Config → Controller → Readings → Hundredths → Outcome
write_min_cool_setpoint_limit cfg r d v = limit_write cfg r d (min_cool_rows cfg r.attrs.settings v) (limit_stored cfg r (set_min_cool r.attrs v) 0x17) (pull_cooling cfg d)

abbrev pub max_cool_refused : Config → Settings → Hundredths → Bool
max_cool_refused cfg s v = cool_limit_refused cfg v s.mincool cfg.absmaxcool (max_heat_setpoint cfg s)

abbrev pub max_cool_rows : Config → Settings → Hundredths → List Row
max_cool_rows cfg s v = limit_write_rows cfg 0x18 (max_cool_refused cfg s v)

unfoldable pub write_max_cool_setpoint_limit : Config → Controller → Readings → Hundredths → Outcome
write_max_cool_setpoint_limit cfg r d v = limit_write cfg r d (max_cool_rows cfg r.attrs.settings v) (limit_stored cfg r (set_max_cool r.attrs v) 0x18) (pull_cooling cfg d)

-- SystemMode last, always
abbrev pub then_noticed : Config → ℕ → Outcome → Outcome
then_noticed cfg code o = record { number = o.number; rec = o.rec; order = o.order; notices = o.notices ++ noticed cfg code; events = o.events; deadline = o.deadline }

-- a mode write must be supported
abbrev pub mode_rows : Config → ℕ → List Row
mode_rows cfg v = row 22 (not (is_supported_system_mode cfg v)) ∷ []

unfoldable pub write_system_mode : Config → Controller → Readings → ℕ → Outcome
write_system_mode cfg r d v =
    unless (mode_rows cfg v) r
    (then_noticed cfg 0x1C (applied cfg d (unchanged (with_attrs r (set_mode r.attrs v)))))

-- accepts and changes nothing
unfoldable pub set_control_sequence_of_operation : Config → Controller → ℕ → Outcome
set_control_sequence_of_operation cfg r v = quiet 0 r

-- arming, as a call
unfoldable pub arm_clock : Config → Controller → Readings → Outcome
arm_clock cfg r d = quiet 0 (armed_clock cfg d r)
