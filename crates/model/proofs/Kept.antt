-- Opening and every call leave a record that passes row 28.
use mathlib.Core.Path.{◌≡◌, refl, sym, ◌∙◌}
use mathlib.Core.Bool.{Bool, true, false, not, ◌&&◌, ◌||◌}
use mathlib.Core.List.{List}
use Prim.Native.Nat.{ℕ}
use lib.IntN.{◌+ℤ◌}
use lib.Signed.{◌≤ℤ◌}
use borrow.Author.Tests.{not-false}
use Rattle.integers.proofs.Linear.{linear}
use Rattle.units.specs.Units.{plus, minus, above, below, within, widened}
use Rattle.units.specs.declared.Hundredths.{Hundredths}
use Rattle.records.specs.Records.{with_attrs, set_min_heat, set_max_heat, set_min_cool, set_max_cool, set_mode}
use Rattle.model.specs.Answers.{Outcome, and_then, unchanged}
use Rattle.model.specs.Refusals.{Row, unless, Clear}
use Rattle.model.specs.Served.{auto, serves, has_heat_limits, has_cool_limits, some_heat_limit, some_cool_limit}
use Rattle.model.specs.Units.{dead_band}
use Rattle.model.specs.Limits.{min_heat_setpoint, max_heat_setpoint, min_cool_setpoint, max_cool_setpoint, in_heat_limits, in_cool_limits}
use Rattle.model.specs.Modes.{is_supported_system_mode}
use Rattle.model.specs.Attribution.{external, schedule, armed_clock}
use Rattle.model.specs.Validation.{accepted}
use Rattle.model.specs.Sound.{sound_heat_limits, sound_cool_limits, sound_heating, sound_cooling}
use Rattle.model.specs.Orders.{ask_sweep}
use Rattle.model.specs.Writes.{min_heat_rows, max_heat_rows, min_cool_rows, max_cool_rows, applied, pull_heating, pull_cooling, limit_stored, write_occupied_heating_setpoint, write_occupied_cooling_setpoint, write_min_heat_setpoint_limit, write_max_heat_setpoint_limit, write_min_cool_setpoint_limit, write_max_cool_setpoint_limit, write_system_mode, set_control_sequence_of_operation, arm_clock}
use Rattle.model.specs.RaiseLower.{raise_lower_setpoint}
use Rattle.model.specs.Sweep.{sweep, timer, seed_events, deadline}
use Rattle.model.specs.FactoryReset.{defaults_taken, factory_reset}
use Rattle.model.specs.Week.{Week, mill_week, acts, store_entry, hour}
use Rattle.model.specs.Step.{opened, step, step_sound}
use Rattle.model.specs.Laws.{OpenedSound, StepSound}
use Rattle.records.specs.declared.Config.{Config}
use Rattle.records.specs.declared.Settings.{Settings}
use Rattle.records.specs.declared.Attrs.{Attrs}
use Rattle.records.specs.declared.Controller.{Controller}
use Rattle.records.specs.declared.Readings.{Readings}
use Rattle.records.specs.declared.Call.{Call}
use Rattle.records.specs.declared.Call.TheVariants.{WriteOccupiedHeatingSetpoint, WriteOccupiedCoolingSetpoint, WriteMinHeatSetpointLimit, WriteMaxHeatSetpointLimit, WriteMinCoolSetpointLimit, WriteMaxCoolSetpointLimit, WriteSystemMode, SetControlSequenceOfOperation, RaiseLowerSetpoint, ArmClock, OutOfBand, SeedEvents, Sweep, Timer, Deadline, FactoryReset, Hour}
use Rattle.model.proofs.Logic.{neither, or_left, or_right, not_both, by_cond, by_unless}
use Rattle.model.proofs.Valid.{Valid, valid}
use Rattle.model.proofs.Chain.{LimitTests, in_force, heat_clamped_lem, inside, apart, heat_ordered, is_heat_ordered, cool_ordered, is_cool_ordered, gaps, is_gaps}
use Rattle.model.proofs.Repair.{repair_settled, repair_mode_lem}
use Rattle.model.proofs.Good.{Good, applied_good, armed_good, cooling_pulled_lem, cooling_stored, events_good, good, heating_pulled_lem, heating_stored, is_good, message_good, mode_stored, rest, sides_raised, sound_accepted, started_good, swept_good}

-- a limit attribute is served only with all four of its side
pub heat_served : (cfg : Config) → Valid cfg → (serves cfg 0x15 || serves cfg 0x16) ≡ true → has_heat_limits cfg ≡ true
unfolding some_heat_limit
heat_served cfg v e = v.heat_limits (or_right (serves cfg 0x03 || serves cfg 0x04) _ e)

pub cool_served : (cfg : Config) → Valid cfg → (serves cfg 0x17 || serves cfg 0x18) ≡ true → has_cool_limits cfg ≡ true
unfolding some_cool_limit
cool_served cfg v e = v.cool_limits (or_right (serves cfg 0x05 || serves cfg 0x06) _ e)

-- served limits are those in force
heat_in_force : (cfg : Config) (s : Settings) → has_heat_limits cfg ≡ true → (min_heat_setpoint cfg s ≡ s.minheat) × (max_heat_setpoint cfg s ≡ s.maxheat)
unfolding min_heat_setpoint max_heat_setpoint
heat_in_force cfg s h = (simp h, simp h)

cool_in_force : (cfg : Config) (s : Settings) → has_cool_limits cfg ≡ true → (min_cool_setpoint cfg s ≡ s.mincool) × (max_cool_setpoint cfg s ≡ s.maxcool)
unfolding min_cool_setpoint max_cool_setpoint
cool_in_force cfg s h = (simp h, simp h)

pub far : (c h d : Hundredths) → below c (plus h d) ≡ false → (h.0 +ℤ d.0) ≤ℤ c.0
unfolding below plus
far c h d e = omega linear

-- a limit that its rule lets pass: the tests of the limits hold with it
module _ (cfg : Config) (v : Valid cfg) (a : Attrs) (x : Hundredths) (t : LimitTests cfg a.settings) where
  abbrev s : Settings
  s = a.settings

  min_heat_limits : has_heat_limits cfg ≡ true → within x cfg.absminheat s.maxheat ≡ true → (auto cfg ≡ true → above x (minus (min_cool_setpoint cfg s) (dead_band cfg)) ≡ false) → LimitTests cfg (set_min_heat a x).settings
  unfolding sound_cool_limits
  min_heat_limits h e f =
      let i = inside x cfg.absminheat s.maxheat e in
      let o = heat_ordered cfg s t.heat h in
      record {
        heat = is_heat_ordered cfg (set_min_heat a x).settings (λ z. record { low = i.0; mid = i.1; high = o.high });
        cool = t.cool;
        gap = is_gaps cfg (set_min_heat a x).settings (λ u z. (rw (cool_in_force cfg s (sym (v.auto_limits u) ∙ h)).0 at (apart x (min_cool_setpoint cfg s) (dead_band cfg) (f u)), (gaps cfg s t.gap u h).1));
      }

  max_heat_limits : has_heat_limits cfg ≡ true → within x s.minheat cfg.absmaxheat ≡ true → (auto cfg ≡ true → above x (minus (max_cool_setpoint cfg s) (dead_band cfg)) ≡ false) → LimitTests cfg (set_max_heat a x).settings
  unfolding sound_cool_limits
  max_heat_limits h e f =
      let i = inside x s.minheat cfg.absmaxheat e in
      let o = heat_ordered cfg s t.heat h in
      record {
        heat = is_heat_ordered cfg (set_max_heat a x).settings (λ z. record { low = o.low; mid = i.0; high = i.1 });
        cool = t.cool;
        gap = is_gaps cfg (set_max_heat a x).settings (λ u z. ((gaps cfg s t.gap u h).0, rw (cool_in_force cfg s (sym (v.auto_limits u) ∙ h)).1 at (apart x (max_cool_setpoint cfg s) (dead_band cfg) (f u))));
      }

  min_cool_limits : has_cool_limits cfg ≡ true → within x cfg.absmincool s.maxcool ≡ true → (auto cfg ≡ true → below x (plus (min_heat_setpoint cfg s) (dead_band cfg)) ≡ false) → LimitTests cfg (set_min_cool a x).settings
  unfolding sound_heat_limits
  min_cool_limits h e f =
      let i = inside x cfg.absmincool s.maxcool e in
      let o = cool_ordered cfg s t.cool h in
      record {
        heat = t.heat;
        cool = is_cool_ordered cfg (set_min_cool a x).settings (λ z. record { low = i.0; mid = i.1; high = o.high });
        gap = is_gaps cfg (set_min_cool a x).settings (λ u z. (rw (heat_in_force cfg s z).0 at (far x (min_heat_setpoint cfg s) (dead_band cfg) (f u)), (gaps cfg s t.gap u z).1));
      }

  max_cool_limits : has_cool_limits cfg ≡ true → within x s.mincool cfg.absmaxcool ≡ true → (auto cfg ≡ true → below x (plus (max_heat_setpoint cfg s) (dead_band cfg)) ≡ false) → LimitTests cfg (set_max_cool a x).settings
  unfolding sound_heat_limits
  max_cool_limits h e f =
      let i = inside x s.mincool cfg.absmaxcool e in
      let o = cool_ordered cfg s t.cool h in
      record {
        heat = t.heat;
        cool = is_cool_ordered cfg (set_max_cool a x).settings (λ z. record { low = o.low; mid = i.0; high = i.1 });
        gap = is_gaps cfg (set_max_cool a x).settings (λ u z. ((gaps cfg s t.gap u z).0, rw (heat_in_force cfg s z).1 at (far x (max_heat_setpoint cfg s) (dead_band cfg) (f u))));
      }

-- the parts of a limit write's row 22
rule : (w : Bool) (cfg : Config) (g : Bool) → not w || (auto cfg && g) ≡ false → (w ≡ true) × (auto cfg ≡ true → g ≡ false)
rule w cfg g e = let n = neither (not w) (auto cfg && g) e in (not-false w n.0, not_both (auto cfg) g n.1)

-- a limit write that nothing refuses: the tests of the limits hold with its value
module _ (cfg : Config) (v : Valid cfg) (r : Controller) (g : Good cfg r) (x : Hundredths) where
  pub min_heat_tests : Clear (min_heat_rows cfg r.attrs.settings x) → LimitTests cfg (set_min_heat r.attrs x).settings
  min_heat_tests c =
      let w = rule _ cfg _ c.1.0 in
      min_heat_limits cfg v r.attrs x g.placed.limits (heat_served cfg v (or_left (serves cfg 0x15) (serves cfg 0x16) (not-false (serves cfg 0x15) c.0))) w.0 w.1

  pub max_heat_tests : Clear (max_heat_rows cfg r.attrs.settings x) → LimitTests cfg (set_max_heat r.attrs x).settings
  max_heat_tests c =
      let w = rule _ cfg _ c.1.0 in
      max_heat_limits cfg v r.attrs x g.placed.limits (heat_served cfg v (or_right (serves cfg 0x15) (serves cfg 0x16) (not-false (serves cfg 0x16) c.0))) w.0 w.1

  pub min_cool_tests : Clear (min_cool_rows cfg r.attrs.settings x) → LimitTests cfg (set_min_cool r.attrs x).settings
  min_cool_tests c =
      let w = rule _ cfg _ c.1.0 in
      min_cool_limits cfg v r.attrs x g.placed.limits (cool_served cfg v (or_left (serves cfg 0x17) (serves cfg 0x18) (not-false (serves cfg 0x17) c.0))) w.0 w.1

  pub max_cool_tests : Clear (max_cool_rows cfg r.attrs.settings x) → LimitTests cfg (set_max_cool r.attrs x).settings
  max_cool_tests c =
      let w = rule _ cfg _ c.1.0 in
      max_cool_limits cfg v r.attrs x g.placed.limits (cool_served cfg v (or_right (serves cfg 0x17) (serves cfg 0x18) (not-false (serves cfg 0x18) c.0))) w.0 w.1

module _ (cfg : Config) (v : Valid cfg) (d : Readings) (r : Controller) (g : Good cfg r) where
  abbrev GoodOutcome : Outcome → Type 0
  GoodOutcome o = Good cfg o.rec

  guarded : (ws : List Row) (o : Outcome) → (Clear ws → GoodOutcome o) → GoodOutcome (unless ws r o)
  guarded ws o f = by_unless GoodOutcome ws r o (λ n. g) f

  -- a stored limit, then its pull
  heat_limit : (a : Attrs) (code : ℕ) → LimitTests cfg a.settings → sound_cooling cfg a.settings ≡ true → is_supported_system_mode cfg a.settings.mode ≡ true → GoodOutcome (applied cfg d (and_then (limit_stored cfg r a code) (pull_heating cfg d)))
  heat_limit a code t c m = applied_good cfg v d _ (heating_pulled_lem cfg v d (with_attrs r a) (record { limits = t; mode = m; last = g.last }) c)

  cool_limit : (a : Attrs) (code : ℕ) → LimitTests cfg a.settings → sound_heating cfg a.settings ≡ true → is_supported_system_mode cfg a.settings.mode ≡ true → GoodOutcome (applied cfg d (and_then (limit_stored cfg r a code) (pull_cooling cfg d)))
  cool_limit a code t h m = applied_good cfg v d _ (cooling_pulled_lem cfg v d (with_attrs r a) (record { limits = t; mode = m; last = g.last }) h)

  -- an hour of any week
  hour_good : (w : Week) (h : ℕ) → GoodOutcome (hour w cfg r d h)
  unfolding hour store_entry ask_sweep
  hour_good w h =
      let s = r.attrs.settings in
      guarded _ _
      (λ c. by_cond GoodOutcome (acts w h) _ _
      (λ e. applied_good cfg v d _ (heating_stored cfg v d schedule _ r (rest cfg r g) g.placed.cooling (heat_clamped_lem cfg s (widened (w h)) (in_force cfg s v g.placed.limits)))) (λ e. record { placed = g.placed; mode = g.mode; last = g.last }))

  sound_good : (k : Call) → GoodOutcome (step_sound cfg r d k)
  unfolding step_sound write_occupied_heating_setpoint write_occupied_cooling_setpoint write_min_heat_setpoint_limit write_max_heat_setpoint_limit write_min_cool_setpoint_limit write_max_cool_setpoint_limit write_system_mode set_control_sequence_of_operation raise_lower_setpoint arm_clock seed_events sweep timer deadline sound_heating sound_cooling in_heat_limits in_cool_limits min_heat_setpoint max_heat_setpoint min_cool_setpoint max_cool_setpoint factory_reset ask_sweep
  sound_good (WriteOccupiedHeatingSetpoint x) =
      guarded _ _ (λ c. applied_good cfg v d _ (heating_stored cfg v d external x r (rest cfg r g) g.placed.cooling (not-false (in_heat_limits cfg r.attrs.settings x) c.1.0)))
  sound_good (WriteOccupiedCoolingSetpoint x) =
      guarded _ _ (λ c. applied_good cfg v d _ (cooling_stored cfg v d external x r (rest cfg r g) g.placed.heating (not-false (in_cool_limits cfg r.attrs.settings x) c.1.0)))
  sound_good (WriteMinHeatSetpointLimit x) = guarded _ _ (λ c. heat_limit (set_min_heat r.attrs x) 0x15 (min_heat_tests cfg v r g x c) g.placed.cooling g.mode)
  sound_good (WriteMaxHeatSetpointLimit x) = guarded _ _ (λ c. heat_limit (set_max_heat r.attrs x) 0x16 (max_heat_tests cfg v r g x c) g.placed.cooling g.mode)
  sound_good (WriteMinCoolSetpointLimit x) = guarded _ _ (λ c. cool_limit (set_min_cool r.attrs x) 0x17 (min_cool_tests cfg v r g x c) g.placed.heating g.mode)
  sound_good (WriteMaxCoolSetpointLimit x) = guarded _ _ (λ c. cool_limit (set_max_cool r.attrs x) 0x18 (max_cool_tests cfg v r g x c) g.placed.heating g.mode)
  sound_good (WriteSystemMode m) =
      guarded _ _ (λ c. applied_good cfg v d (unchanged (with_attrs r (set_mode r.attrs m))) (mode_stored cfg v d m r (not-false (is_supported_system_mode cfg m) c.0) g))
  sound_good (SetControlSequenceOfOperation m) = g
  sound_good (RaiseLowerSetpoint mode amount) =
      by_unless GoodOutcome _ (armed_clock cfg d r) _ (λ n. armed_good cfg v d r g) (λ c. applied_good cfg v d _ (sides_raised cfg v d mode amount _ (armed_good cfg v d r g)))
  sound_good ArmClock = armed_good cfg v d r g
  sound_good (OutOfBand m) = message_good cfg v d r m g
  sound_good SeedEvents = started_good cfg v d r g
  sound_good Sweep = guarded _ _ (λ c. swept_good cfg v d r c.0 g)
  sound_good Timer = guarded _ _ (λ c. events_good cfg v d r c.0 g)
  sound_good Deadline = g
  sound_good FactoryReset =
      let a = defaults_taken cfg r.attrs in
      record { placed = (repair_settled cfg v a).placed; mode = repair_mode_lem cfg v a; last = g.last }
  sound_good (Hour h) = hour_good mill_week h

  pub step_good : (k : Call) → GoodOutcome (step cfg r d k)
  unfolding step
  step_good k = guarded _ _ (λ c. sound_good k)

pub step_sound_lem : StepSound
step_sound_lem cfg r d k e =
    let a = sound_accepted cfg r e in
    is_good cfg (step cfg r d k).rec a (step_good cfg (valid cfg a) d r (good cfg r e) k)

pub opened_good : (cfg : Config) (s : Settings) → accepted cfg ≡ true → Good cfg (opened cfg s).rec
unfolding opened ask_sweep
opened_good cfg s a =
    let v = valid cfg a in
    let t : Attrs = record { settings = s; dirty = false } in
    rw a (record { placed = (repair_settled cfg v t).placed; mode = repair_mode_lem cfg v t; last = refl })

pub opened_sound : OpenedSound
opened_sound cfg s a = is_good cfg (opened cfg s).rec a (opened_good cfg s a)
