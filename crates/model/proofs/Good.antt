-- What row 28 asks of a record, and that each store and message keeps it.
use Rattle.records.specs.declared.Snapshot.{Snapshot}
use Rattle.records.specs.declared.Setpoints.{Setpoints}
use Rattle.std.specs.Prelude.{Option, None, Some}
use mathlib.Core.Path.{◌≡◌}
use mathlib.Core.Bool.{true, false, ◌&&◌, ◌||◌}
use Prim.Native.Nat.{ℕ}
use lib.Dec.{eqb, ltb}
use borrow.Author.Tests.{not-false, ltb-false, le-leb}
use Rattle.units.specs.Units.{plus, widened, raised, in_hundredths}
use Rattle.units.specs.declared.Hundredths.{Hundredths}
use Rattle.units.specs.declared.Tenths.{Tenths}
use Rattle.records.specs.Records.{changed_to, with_attrs, set_mode, with_pending}
use Rattle.model.specs.Answers.{Outcome, Stage, quiet, unchanged}
use Rattle.model.specs.Served.{heats, cools, listed}
use Rattle.model.specs.Limits.{min_heat_setpoint, max_heat_setpoint, min_cool_setpoint, max_cool_setpoint, in_heat_limits, in_cool_limits, clamp_heat_setpoint, clamp_cool_setpoint}
use Rattle.model.specs.Modes.{is_supported_system_mode}
use Rattle.model.specs.Attribution.{external, armed_clock, claim_setpoints, served_setpoints}
use Rattle.model.specs.Validation.{accepted}
use Rattle.model.specs.Sound.{last_clock, sound_heat_limits, sound_cool_limits, sound_gap, sound_heating, sound_cooling, sound_settings, sound_last, sound}
use Rattle.model.specs.Orders.{ask_sweep}
use Rattle.model.specs.Writes.{applied, too_near_cooling, too_near_heating, cooling_with_gap, heating_with_gap, store_heating_setpoint, store_cooling_setpoint, pull_heating, pull_cooling}
use Rattle.model.specs.RaiseBoth.{heating_target, cooling_target, targets_stored, heating_after_gap, raise_both}
use Rattle.model.specs.RaiseLower.{raise_heating, raise_cooling, raise_sides}
use Rattle.model.specs.Messages.{out_of_band_message, heating_message, cooling_message, mode_message, limits_message, limits_taken}
use Rattle.model.specs.Sweep.{Taken, snapshot_of, started, attributed_to, local_recorded, attribute_local_setpoint_change, same_snapshot, committed, temperature_emitted, taken_from, take_events, sweep_events, swept}
use Rattle.records.specs.declared.Config.{Config}
use Rattle.records.specs.declared.Settings.{Settings}
use Rattle.records.specs.declared.Controller.{Controller}
use Rattle.records.specs.declared.Readings.{Readings}
use Rattle.records.specs.declared.OutOfBandMessage.{OutOfBandMessage}
use Rattle.records.specs.declared.OutOfBandMessage.TheVariants.{LocalTemperature, RunningState, Update, OccupiedHeatingSetpoint, OccupiedCoolingSetpoint, SystemMode, SetpointLimits}
use Rattle.model.proofs.Logic.{both, implied, implies, by_cond, by_unless}
use Rattle.model.proofs.Valid.{Valid}
use Rattle.model.proofs.Chain.{LimitTests, Placed, InForce, in_force, clamp_inside, heat_clamped_lem, cool_clamped_lem}
use Rattle.model.proofs.Repair.{repair_settled, repair_mode_lem}

-- what row 28 asks beyond the configuration
pub record Good (cfg : Config) (r : Controller) : Type 0 where
  pub placed : Placed cfg r.attrs.settings
  pub mode : is_supported_system_mode cfg r.attrs.settings.mode ≡ true
  pub last : sound_last r.events.last ≡ true

pub good : (cfg : Config) (r : Controller) → sound cfg r ≡ true → Good cfg r
unfolding sound sound_settings
good cfg r e =
    let s = r.attrs.settings in
    let a = both (accepted cfg) _ e in
    let b = both (sound_settings cfg s) (sound_last r.events.last) a.1 in
    let c = both (sound_heat_limits cfg s && (sound_cool_limits cfg s && sound_gap cfg s)) ((sound_heating cfg s && sound_cooling cfg s) && is_supported_system_mode cfg s.mode) b.0 in
    let l = both (sound_heat_limits cfg s) (sound_cool_limits cfg s && sound_gap cfg s) c.0 in
    let m = both (sound_cool_limits cfg s) (sound_gap cfg s) l.1 in
    let p = both (sound_heating cfg s && sound_cooling cfg s) (is_supported_system_mode cfg s.mode) c.1 in
    let q = both (sound_heating cfg s) (sound_cooling cfg s) p.0 in
    record { placed = record { limits = record { heat = l.0; cool = m.0; gap = m.1 }; heating = q.0; cooling = q.1 }; mode = p.1; last = b.1 }

pub is_good : (cfg : Config) (r : Controller) → accepted cfg ≡ true → Good cfg r → sound cfg r ≡ true
unfolding sound sound_settings
is_good cfg r a g = let p = g.placed in simp (a, p.limits.heat, p.limits.cool, p.limits.gap, p.heating, p.cooling, g.mode, g.last)

pub sound_accepted : (cfg : Config) (r : Controller) → sound cfg r ≡ true → accepted cfg ≡ true
unfolding sound
sound_accepted cfg r e = (both (accepted cfg) _ e).0

pub sound_last_lem : (cfg : Config) (r : Controller) → sound cfg r ≡ true → sound_last r.events.last ≡ true
sound_last_lem cfg r e = (good cfg r e).last

-- a setpoint within its limits is stored, the gap kept: the tests of both hold again
module _ (cfg : Config) (v : Valid cfg) (s : Settings) (t : LimitTests cfg s) where
  pub chain : InForce cfg s
  chain = in_force cfg s v t

  abbrev pub points : Hundredths → Hundredths → Settings
  points h c = record { heating = h; cooling = c; minheat = s.minheat; maxheat = s.maxheat; mincool = s.mincool; maxcool = s.maxcool; mode = s.mode }

  pub points_placed : (h c : Hundredths) → (heats cfg ≡ true → in_heat_limits cfg s h ≡ true) → (cools cfg ≡ true → in_cool_limits cfg s c ≡ true) → Placed cfg (points h c)
  unfolding sound_heat_limits sound_cool_limits sound_gap sound_heating sound_cooling in_heat_limits in_cool_limits min_heat_setpoint max_heat_setpoint min_cool_setpoint max_cool_setpoint
  points_placed h c f g =
      record { limits = record { heat = t.heat; cool = t.cool; gap = t.gap }; heating = implies (heats cfg) _ f; cooling = implies (cools cfg) _ g }

  pub cooling_gap_inside : (h : Hundredths) → (cools cfg ≡ true → in_cool_limits cfg s s.cooling ≡ true) → cools cfg ≡ true → in_cool_limits cfg s (cooling_with_gap cfg s h) ≡ true
  unfolding cooling_with_gap
  cooling_gap_inside h old c =
      by_cond (λ (x : Hundredths). in_cool_limits cfg s x ≡ true) (too_near_cooling cfg s h) _ s.cooling
      (λ e. cool_clamped_lem cfg s _ chain) (λ e. old c)

  pub heating_gap_inside : (c : Hundredths) → (heats cfg ≡ true → in_heat_limits cfg s s.heating ≡ true) → heats cfg ≡ true → in_heat_limits cfg s (heating_with_gap cfg s c) ≡ true
  unfolding heating_with_gap
  heating_gap_inside c old h =
      by_cond (λ (x : Hundredths). in_heat_limits cfg s x ≡ true) (too_near_heating cfg s c) _ s.heating
      (λ e. heat_clamped_lem cfg s _ chain) (λ e. old h)

pub heating_inside : (cfg : Config) (s : Settings) → sound_heating cfg s ≡ true → heats cfg ≡ true → in_heat_limits cfg s s.heating ≡ true
unfolding sound_heating
heating_inside cfg s e h = implied (heats cfg) _ e h

pub cooling_inside : (cfg : Config) (s : Settings) → sound_cooling cfg s ≡ true → cools cfg ≡ true → in_cool_limits cfg s s.cooling ≡ true
unfolding sound_cooling
cooling_inside cfg s e c = implied (cools cfg) _ e c

-- the tests of row 28 that a store of setpoints leaves alone
pub record Rest (cfg : Config) (r : Controller) : Type 0 where
  pub limits : LimitTests cfg r.attrs.settings
  pub mode : is_supported_system_mode cfg r.attrs.settings.mode ≡ true
  pub last : sound_last r.events.last ≡ true

pub rest : (cfg : Config) (r : Controller) → Good cfg r → Rest cfg r
rest cfg r g = record { limits = g.placed.limits; mode = g.mode; last = g.last }

module _ (cfg : Config) (v : Valid cfg) (d : Readings) where
  pub heating_stored : (source : ℕ) (h : Hundredths) (r : Controller) → Rest cfg r → sound_cooling cfg r.attrs.settings ≡ true → in_heat_limits cfg r.attrs.settings h ≡ true → Good cfg (store_heating_setpoint cfg d source h r).rec
  unfolding store_heating_setpoint claim_setpoints
  heating_stored source h r k c e =
      let s = r.attrs.settings in
      let t = k.limits in
      record { placed = points_placed cfg v s t h (cooling_with_gap cfg s h) (λ z. e) (cooling_gap_inside cfg v s t h (cooling_inside cfg s c)); mode = k.mode; last = k.last }

  pub cooling_stored : (source : ℕ) (c : Hundredths) (r : Controller) → Rest cfg r → sound_heating cfg r.attrs.settings ≡ true → in_cool_limits cfg r.attrs.settings c ≡ true → Good cfg (store_cooling_setpoint cfg d source c r).rec
  unfolding store_cooling_setpoint claim_setpoints
  cooling_stored source c r k h e =
      let s = r.attrs.settings in
      let t = k.limits in
      record { placed = points_placed cfg v s t (heating_with_gap cfg s c) c (heating_gap_inside cfg v s t c (heating_inside cfg s h)) (λ z. e); mode = k.mode; last = k.last }

  abbrev GoodStage : Stage → Type 0
  GoodStage q = Good cfg q.rec

  -- a pull leaves the setpoint within its limits
  pub heating_pulled_lem : (r : Controller) → Rest cfg r → sound_cooling cfg r.attrs.settings ≡ true → GoodStage (pull_heating cfg d r)
  unfolding pull_heating sound_heating
  heating_pulled_lem r k c =
      let s = r.attrs.settings in
      let w = widened s.heating in
      by_cond GoodStage (in_heat_limits cfg s s.heating) (unchanged r) _
      (λ e. record { placed = record { limits = k.limits; heating = implies (heats cfg) _ (λ z. e); cooling = c }; mode = k.mode; last = k.last })
      (λ e. heating_stored external (clamp_heat_setpoint cfg s w) r k c (heat_clamped_lem cfg s w (in_force cfg s v k.limits)))

  pub cooling_pulled_lem : (r : Controller) → Rest cfg r → sound_heating cfg r.attrs.settings ≡ true → GoodStage (pull_cooling cfg d r)
  unfolding pull_cooling sound_cooling
  cooling_pulled_lem r k h =
      let s = r.attrs.settings in
      let w = widened s.cooling in
      by_cond GoodStage (in_cool_limits cfg s s.cooling) (unchanged r) _
      (λ e. record { placed = record { limits = k.limits; heating = h; cooling = implies (cools cfg) _ (λ z. e) }; mode = k.mode; last = k.last })
      (λ e. cooling_stored external (clamp_cool_setpoint cfg s w) r k h (cool_clamped_lem cfg s w (in_force cfg s v k.limits)))

  -- a raised setpoint is clamped
  pub raised_heat : (s : Settings) (a : Tenths) → InForce cfg s → in_heat_limits cfg s (raised s.heating a (min_heat_setpoint cfg s) (max_heat_setpoint cfg s)) ≡ true
  unfolding in_heat_limits raised
  raised_heat s a k = clamp_inside (plus s.heating (in_hundredths a)) (min_heat_setpoint cfg s) (max_heat_setpoint cfg s) k.heat

  pub raised_cool : (s : Settings) (a : Tenths) → InForce cfg s → in_cool_limits cfg s (raised s.cooling a (min_cool_setpoint cfg s) (max_cool_setpoint cfg s)) ≡ true
  unfolding in_cool_limits raised
  raised_cool s a k = clamp_inside (plus s.cooling (in_hundredths a)) (min_cool_setpoint cfg s) (max_cool_setpoint cfg s) k.cool

  pub heat_raised : (a : Tenths) (r : Controller) → Good cfg r → GoodStage (raise_heating cfg d a r)
  unfolding raise_heating
  heat_raised a r g = heating_stored external _ r (rest cfg r g) g.placed.cooling (raised_heat r.attrs.settings a (in_force cfg r.attrs.settings v g.placed.limits))

  pub cool_raised : (a : Tenths) (r : Controller) → Good cfg r → GoodStage (raise_cooling cfg d a r)
  unfolding raise_cooling
  cool_raised a r g = cooling_stored external _ r (rest cfg r g) g.placed.heating (raised_cool r.attrs.settings a (in_force cfg r.attrs.settings v g.placed.limits))

  -- a target of Both is clamped
  pub heat_target : (s : Settings) (a : Tenths) → InForce cfg s → heats cfg ≡ true → in_heat_limits cfg s (heating_target cfg s a) ≡ true
  unfolding heating_target
  heat_target s a k h = rw h (raised_heat s a k)

  pub cool_target : (s : Settings) (a : Tenths) → InForce cfg s → cools cfg ≡ true → in_cool_limits cfg s (cooling_target cfg s a) ≡ true
  unfolding cooling_target
  cool_target s a k c = rw c (raised_cool s a k)

  -- the settings with both targets
  pub targets_placed : (a : Tenths) (r : Controller) → LimitTests cfg r.attrs.settings → Placed cfg (targets_stored cfg a r.attrs).settings
  targets_placed a r l =
      let s = r.attrs.settings in
      let k = in_force cfg s v l in
      points_placed cfg v s l (heating_target cfg s a) (cooling_target cfg s a) (heat_target s a k) (cool_target s a k)

  pub both_raised_lem : (a : Tenths) (r : Controller) → Good cfg r → GoodStage (raise_both cfg d a r)
  unfolding raise_both claim_setpoints sound_cooling
  both_raised_lem a r g =
      let p = targets_placed a r g.placed.limits in
      let t = (targets_stored cfg a r.attrs).settings in
      record {
        placed = points_placed cfg v t p.limits (heating_after_gap cfg a r.attrs) t.cooling (heating_gap_inside cfg v t p.limits t.cooling (heating_inside cfg t p.heating)) (cooling_inside cfg t p.cooling);
        mode = g.mode;
        last = g.last;
      }

  pub sides_raised : (mode : ℕ) (a : Tenths) (r : Controller) → Good cfg r → GoodStage (raise_sides cfg d mode a r)
  unfolding raise_sides
  sides_raised mode a r g =
      by_cond GoodStage (eqb mode 0) _ _ (λ e. heat_raised a r g) (λ e. by_cond GoodStage (eqb mode 1) _ _ (λ f. cool_raised a r g) (λ f. both_raised_lem a r g))

  -- what touches neither settings nor the last event
  pub armed_good : (r : Controller) → Good cfg r → Good cfg (armed_clock cfg d r)
  unfolding armed_clock
  armed_good r g = record { placed = g.placed; mode = g.mode; last = g.last }

  pub started_good : (r : Controller) → Good cfg r → Good cfg (started cfg d r)
  unfolding started claim_setpoints
  started_good r g = record { placed = g.placed; mode = g.mode; last = g.last }

  pub applied_good : (q : Stage) → GoodStage q → Good cfg (applied cfg d q).rec
  unfolding applied ask_sweep
  applied_good q g = record { placed = g.placed; mode = g.mode; last = g.last }

  pub local_good : (r : Controller) (a b : Option Setpoints) → Good cfg r → GoodStage (attributed_to cfg d r a b)
  local_good r None None g = g
  local_good r (Some new) None g = g
  local_good r None (Some new) g = record { placed = g.placed; mode = g.mode; last = g.last }
  local_good r (Some old) (Some new) g =
      by_cond GoodStage (changed_to old.heating new.heating || changed_to old.cooling new.cooling) (local_recorded cfg d r old new) (unchanged r) (λ e. record { placed = g.placed; mode = g.mode; last = g.last }) (λ e. g)

  -- a clock that row 27 lets pass is a last event that row 28 lets pass
  pub clock_sound : ltb last_clock d.clock ≡ false → sound_last (Some d.clock) ≡ true
  clock_sound e = le-leb d.clock last_clock (ltb-false last_clock d.clock e)

  pub taken_good : (r : Controller) (s : Option Snapshot) → ltb last_clock d.clock ≡ false → Good cfg r → Good cfg (taken_from cfg d r s).rec
  unfolding committed
  taken_good r None e g = started_good r g
  taken_good r (Some old) e g =
      by_cond (λ (t : Taken). Good cfg t.rec) (same_snapshot old (snapshot_of cfg d r)) _ _ (λ f. g)
      (λ f. record {
        placed = g.placed;
        mode = g.mode;
        last = by_cond (λ (m : Option ℕ). sound_last m ≡ true) (temperature_emitted cfg old (snapshot_of cfg d r) r.events.last d.clock) (Some d.clock) r.events.last (λ t. clock_sound e) (λ t. g.last);
      })

  pub events_good : (r : Controller) → ltb last_clock d.clock ≡ false → Good cfg r → Good cfg (take_events cfg d r).rec
  unfolding take_events
  events_good r e g = taken_good r r.events.shadow e g

  pub swept_good : (r : Controller) → ltb last_clock d.clock ≡ false → Good cfg r → Good cfg (swept cfg d r).rec
  unfolding swept sweep_events attribute_local_setpoint_change
  swept_good r e g =
      let q = armed_clock cfg d (with_pending r 0) in
      let k : Good cfg (with_pending r 0) = record { placed = g.placed; mode = g.mode; last = g.last } in
      by_cond (λ (o : Outcome). Good cfg o.rec) (eqb r.pending 0) (quiet 0 r) _ (λ f. g)
      (λ f. by_cond (λ (o : Outcome). Good cfg o.rec) (listed r.pending 9) _ _
      (λ h. events_good _ e (local_good q q.change.attributed (served_setpoints cfg q.attrs.settings) (armed_good (with_pending r 0) k))) (λ h. k))

  -- out of band: a clamped setpoint, a supported mode
  pub heating_message_lem : (w : Hundredths) (r : Controller) → Good cfg r → Good cfg (heating_message cfg r w).rec
  unfolding heating_message
  heating_message_lem w r g =
      let s = r.attrs.settings in
      let t = g.placed.limits in
      record { placed = points_placed cfg v s t (clamp_heat_setpoint cfg s (widened w)) s.cooling (λ z. heat_clamped_lem cfg s (widened w) (in_force cfg s v t)) (cooling_inside cfg s g.placed.cooling); mode = g.mode; last = g.last }

  pub cooling_message_lem : (w : Hundredths) (r : Controller) → Good cfg r → Good cfg (cooling_message cfg r w).rec
  unfolding cooling_message
  cooling_message_lem w r g =
      let s = r.attrs.settings in
      let t = g.placed.limits in
      record { placed = points_placed cfg v s t s.heating (clamp_cool_setpoint cfg s (widened w)) (heating_inside cfg s g.placed.heating) (λ z. cool_clamped_lem cfg s (widened w) (in_force cfg s v t)); mode = g.mode; last = g.last }

  pub mode_stored : (m : ℕ) (r : Controller) → is_supported_system_mode cfg m ≡ true → Good cfg r → Good cfg (with_attrs r (set_mode r.attrs m))
  unfolding sound_heat_limits sound_cool_limits sound_gap sound_heating sound_cooling in_heat_limits in_cool_limits min_heat_setpoint max_heat_setpoint min_cool_setpoint max_cool_setpoint
  mode_stored m r e g =
      let p = g.placed in
      record { placed = record { limits = record { heat = p.limits.heat; cool = p.limits.cool; gap = p.limits.gap }; heating = p.heating; cooling = p.cooling }; mode = e; last = g.last }

  pub message_good : (r : Controller) (m : OutOfBandMessage) → Good cfg r → Good cfg (out_of_band_message cfg r m).rec
  unfolding mode_message limits_message ask_sweep
  message_good r LocalTemperature g = record { placed = g.placed; mode = g.mode; last = g.last }
  message_good r RunningState g = record { placed = g.placed; mode = g.mode; last = g.last }
  message_good r Update g = record { placed = g.placed; mode = g.mode; last = g.last }
  message_good r (OccupiedHeatingSetpoint w) g = heating_message_lem w r g
  message_good r (OccupiedCoolingSetpoint w) g = cooling_message_lem w r g
  message_good r (SystemMode m) g =
      by_unless (λ (o : Outcome). Good cfg o.rec) _ r _ (λ n. g)
      (λ c. let k = mode_stored m r (not-false (is_supported_system_mode cfg m) c.0) g in record { placed = k.placed; mode = k.mode; last = k.last })
  message_good r (SetpointLimits a b c e) g =
      let t = limits_taken cfg r.attrs a b c e in record { placed = (repair_settled cfg v t).placed; mode = repair_mode_lem cfg v t; last = g.last }
