-- Each write is its plan carried out.
use Rattle.std.specs.Prelude.{Option, None, Some}
use mathlib.Core.Path.{◌≡◌, refl, sym, ◌∙◌, ap, subst}
use mathlib.Core.Bool.{Bool, true, false, ◌&&◌, ◌||◌, cond}
use mathlib.Core.List.{List, [], ◌∷◌, ◌++◌, append-nil}
use Prim.Native.Nat.{ℕ}
use lib.Dec.{eqb, ltb}
use lib.IntN.{ℤ}
use native.Mathlib.Omega.{arith}
use borrow.Author.Tests.{eq-eqb, ne_eqb, ltb-true}
use Rattle.integers.specs.Linear.{eq_z}
use Rattle.integers.proofs.Linear.{linear}
use Rattle.units.specs.Units.{equal}
use Rattle.units.specs.declared.Hundredths.{Hundredths}
use Rattle.units.specs.declared.Tenths.{Tenths}
use Rattle.records.specs.Records.{same_settings, with_attrs, with_heating, with_cooling, set_mode}
use Rattle.model.specs.Answers.{Outcome, Stage, only_if, quiet, and_then, unchanged}
use Rattle.model.specs.Refusals.{Row, unless, numbered}
use Rattle.model.specs.Limits.{min_heat_setpoint, max_heat_setpoint, min_cool_setpoint, max_cool_setpoint, in_heat_limits, in_cool_limits, clamp_heat_setpoint, clamp_cool_setpoint}
use Rattle.model.specs.Attribution.{external, schedule, armed_clock, claim_setpoints}
use Rattle.model.specs.Orders.{ask_sweep}
use Rattle.model.specs.Writes.{applied, then_noticed, too_near_cooling, too_near_heating, cooling_with_gap, heating_with_gap, recorded_if, store_heating_setpoint, store_cooling_setpoint, pull_heating, pull_cooling, write_occupied_heating_setpoint, write_occupied_cooling_setpoint, write_min_heat_setpoint_limit, write_max_heat_setpoint_limit, write_min_cool_setpoint_limit, write_max_cool_setpoint_limit, write_system_mode}
use Rattle.model.specs.RaiseBoth.{heating_target, cooling_target, raise_both}
use Rattle.model.specs.RaiseLower.{raise_heating, raise_cooling, raise_sides, raise_rows, raise_lower_setpoint}
use Rattle.model.specs.Week.{acts, hour_rows, store_entry, hour, mill_week}
use Rattle.model.specs.Step.{step_sound}
use Rattle.model.specs.Plans.{refusal, setting_alone, heating_to, cooling_to, both_to, plan_unless, heating_pulled, cooling_pulled, plan_heating_setpoint, plan_cooling_setpoint, plan_min_heat_limit, plan_max_heat_limit, plan_min_cool_limit, plan_max_cool_limit, plan_system_mode, plan_sides, removing, arming, plan_raise_lower, from_source, planned_unless, plan_hour, planned, setting_stored, any_moved, moves_recorded, limit_notices, mode_notices, move_notices, moved, performed, carried_out, HeatingSetpointCarried, CoolingSetpointCarried, MinHeatLimitCarried, MaxHeatLimitCarried, MinCoolLimitCarried, MaxCoolLimitCarried, SystemModeCarried, RaiseLowerCarried, DoneAsPlanned, HourCarried, PlannedCarried}
use Rattle.records.specs.declared.Config.{Config}
use Rattle.records.specs.declared.Settings.{Settings}
use Rattle.records.specs.declared.Attrs.{Attrs}
use Rattle.records.specs.declared.Controller.{Controller}
use Rattle.records.specs.declared.Readings.{Readings}
use Rattle.records.specs.declared.Removed.{Removed}
use Rattle.records.specs.declared.Plan.{Plan}
use Rattle.records.specs.declared.Stored.{Stored}
use Rattle.records.specs.declared.Stored.TheVariants.{Nothing, MinHeat, MaxHeat, MinCool, MaxCool, Mode}
use Rattle.records.specs.declared.Call.TheVariants.{WriteOccupiedHeatingSetpoint, WriteOccupiedCoolingSetpoint, WriteMinHeatSetpointLimit, WriteMaxHeatSetpointLimit, WriteMinCoolSetpointLimit, WriteMaxCoolSetpointLimit, WriteSystemMode, SetControlSequenceOfOperation, RaiseLowerSetpoint, ArmClock, OutOfBand, SeedEvents, Sweep, Timer, Deadline, FactoryReset, Hour}
use Rattle.model.proofs.Logic.{both, clash, by_cond, both_cond}
use Rattle.model.proofs.RepairedSettings.{or_false, stored_same}

self : (v : Hundredths) → equal v v ≡ true
unfolding equal
self v = let same : (z : ℤ) → eq_z z z ≡ true = λ z. omega linear in same v.0

and_true : (b : Bool) → b && true ≡ b
and_true true = refl
and_true false = refl

-- a store of one setpoint marks dirty where it differs
same_heating : (s : Settings) (v : Hundredths) → same_settings s (with_heating s v) ≡ equal s.heating v
unfolding same_settings
same_heating s v = simp (self s.cooling, self s.minheat, self s.maxheat, self s.mincool, self s.maxcool, eq-eqb s.mode s.mode refl, and_true)

same_cooling : (s : Settings) (v : Hundredths) → same_settings s (with_cooling s v) ≡ equal s.cooling v
unfolding same_settings
same_cooling s v = simp (self s.heating, self s.minheat, self s.maxheat, self s.mincool, self s.maxcool, eq-eqb s.mode s.mode refl, and_true)

or_assoc : (a b c : Bool) → (a || b) || c ≡ a || (b || c)
or_assoc true b c = refl
or_assoc false b c = refl

abbrev plan_or : Plan → Option Plan → Plan
plan_or p None = p
plan_or p (Some q) = q

pub write_of : {p q : Plan} → Some p ≡ Some q → p ≡ q
write_of {p = p} e = ap (plan_or p) e

abbrev is_write : Option Plan → Bool
is_write None = false
is_write (Some p) = true

pub no_write : {p : Plan} → None ≡ Some p → ⊥
no_write e = clash true refl (sym (ap is_write e))

-- refused rows
by_plan : (cfg : Config) (d : Readings) (r : Controller) (ws : List Row) (s : Settings) (p : Plan) (o : Outcome) → numbered ws ≡ true → carried_out cfg d r p ≡ o → carried_out cfg d r (plan_unless ws s p) ≡ unless ws r o
unfolding plan_unless unless carried_out
by_plan cfg d r [] s p o m e = e
by_plan cfg d r (w ∷ ws) s p o m e =
    let b = both (ltb 0 w.number) (numbered ws) m in
    go w.cause (ne_eqb w.number 0 (λ z. omega (arith, ltb-true 0 w.number b.0))) (by_plan cfg d r ws s p o b.1 e)
  where
    go : (t : Bool) → eqb w.number 0 ≡ false → carried_out cfg d r (plan_unless ws s p) ≡ unless ws r o → carried_out cfg d r (cond t (refusal s w.number) (plan_unless ws s p)) ≡ cond t (quiet w.number r) (unless ws r o)
    go true n f = simp n
    go false n f = f

-- the same where a call may be no write
by_planned : (cfg : Config) (d : Readings) (r : Controller) (ws : List Row) (s : Settings) (x : Option Plan) (o : Outcome) → numbered ws ≡ true → DoneAsPlanned cfg d r x o → DoneAsPlanned cfg d r (planned_unless ws s x) (unless ws r o)
unfolding planned_unless unless carried_out
by_planned cfg d r [] s x o m e = e
by_planned cfg d r (w ∷ ws) s x o m e =
    let b = both (ltb 0 w.number) (numbered ws) m in
    let n = ne_eqb w.number 0 (λ z. omega (arith, ltb-true 0 w.number b.0)) in
    both_cond (DoneAsPlanned cfg d r) w.cause _ _ _ _ (λ t. simp n) (λ t. by_planned cfg d r ws s x o b.1 e)

-- a plan that arms is carried out on the armed record
armed_plan : (cfg : Config) (d : Readings) (r : Controller) (p : Plan) → p.arms ≡ false → carried_out cfg d r (arming p) ≡ carried_out cfg d (armed_clock cfg d r) p
unfolding carried_out performed moved
armed_plan cfg d r p e = simp e

unarmed : (ws : List Row) (s : Settings) (p : Plan) → p.arms ≡ false → (plan_unless ws s p).arms ≡ false
unfolding plan_unless
unarmed [] s p e = e
unarmed (w ∷ ws) s p e = by_cond (λ (q : Plan). q.arms ≡ false) w.cause _ _ (λ t. refl) (λ t. unarmed ws s p e)

-- stored setpoints; l is what was noticed before
module _ (cfg : Config) (d : Readings) (l : List ℕ) (r : Controller) (x : Stored) where
  abbrev s : Settings
  s = r.attrs.settings

  abbrev after : Stage → Outcome
  after q = applied cfg d (record { rec = q.rec; notices = l ++ q.notices })

  neither_moved : moved cfg d l r (setting_alone s x) ≡ after (unchanged r)
  unfolding moved applied any_moved moves_recorded recorded_if move_notices only_if
  neither_moved = simp (self s.heating, self s.cooling, or_false)

  heating_moved : (source : ℕ) (v : Hundredths) → moved cfg d l r (from_source source (heating_to s x v)) ≡ after (store_heating_setpoint cfg d source v r)
  unfolding moved applied ask_sweep store_heating_setpoint claim_setpoints recorded_if any_moved moves_recorded move_notices only_if cooling_with_gap too_near_cooling clamp_cool_setpoint min_cool_setpoint max_cool_setpoint
  heating_moved source v = simp (self s.cooling, self v, same_heating s v, same_cooling (with_heating s v), append-nil, or_false, or_assoc)

  cooling_moved : (v : Hundredths) → moved cfg d l r (cooling_to s x v) ≡ after (store_cooling_setpoint cfg d external v r)
  unfolding moved applied ask_sweep store_cooling_setpoint claim_setpoints recorded_if any_moved moves_recorded move_notices only_if heating_with_gap too_near_heating clamp_heat_setpoint min_heat_setpoint max_heat_setpoint
  cooling_moved v = simp (self s.heating, self v, same_cooling s v, same_heating (with_cooling s v), append-nil, or_false, or_assoc)

  both_moved_lem : (amount : Tenths) → moved cfg d l r (both_to (heating_target cfg s amount) (cooling_target cfg s amount)) ≡ after (raise_both cfg d amount r)
  unfolding moved applied ask_sweep raise_both claim_setpoints recorded_if any_moved moves_recorded move_notices only_if
  both_moved_lem amount =
      let h = heating_target cfg s amount in
      let c = cooling_target cfg s amount in
      let t = with_cooling (with_heating s h) c in
      simp (self c, same_heating s h, same_cooling (with_heating s h) c, same_heating t (heating_with_gap cfg t c), append-nil, or_false, or_assoc)

-- no mode is noticed last
unmoded : (l : List ℕ) → l ≡ [] → (o : Outcome) → record { number = o.number; rec = o.rec; order = o.order; notices = o.notices ++ l; events = o.events; deadline = o.deadline } ≡ o
unmoded l e o =
    ap (λ (m : List ℕ). record { number = o.number; rec = o.rec; order = o.order; notices = m; events = o.events; deadline = o.deadline })
    (ap (λ (m : List ℕ). o.notices ++ m) e ∙ append-nil o.notices)

module _ (cfg : Config) (d : Readings) (r : Controller) where
  abbrev Carried : Plan → Stage → Type 0
  Carried p q = carried_out cfg d r p ≡ applied cfg d q

  nothing_stored : (p : Plan) → moved cfg d [] (with_attrs r (setting_stored r.attrs Nothing)) p ≡ moved cfg d [] r p
  nothing_stored p = ap (λ (a : Attrs). moved cfg d [] (with_attrs r a) p) (stored_same r.attrs)

  heating_carried : (source : ℕ) (v : Hundredths) → Carried (from_source source (heating_to r.attrs.settings Nothing v)) (store_heating_setpoint cfg d source v r)
  unfolding carried_out performed
  heating_carried source v = unmoded _ refl _ ∙ nothing_stored _ ∙ heating_moved cfg d [] r Nothing source v

  cooling_carried : (v : Hundredths) → Carried (cooling_to r.attrs.settings Nothing v) (store_cooling_setpoint cfg d external v r)
  unfolding carried_out performed
  cooling_carried v = unmoded _ refl _ ∙ nothing_stored _ ∙ cooling_moved cfg d [] r Nothing v

  both_carried : (amount : Tenths) → Carried (both_to (heating_target cfg r.attrs.settings amount) (cooling_target cfg r.attrs.settings amount)) (raise_both cfg d amount r)
  unfolding carried_out performed
  both_carried amount = unmoded _ refl _ ∙ nothing_stored _ ∙ both_moved_lem cfg d [] r Nothing amount

  -- the amounts move nothing
  removing_carried : (p : Plan) (x : Removed) → carried_out cfg d r (removing p x) ≡ carried_out cfg d r p
  unfolding carried_out performed moved
  removing_carried p x = refl

  sides_carried : (mode : ℕ) (amount : Tenths) → Carried (plan_sides cfg r.attrs.settings mode amount) (raise_sides cfg d mode amount r)
  unfolding plan_sides raise_sides raise_heating raise_cooling
  sides_carried mode amount =
      both_cond Carried (eqb mode 0) _ _ _ _ (λ e. removing_carried _ _ ∙ heating_carried external _) (λ e. both_cond Carried (eqb mode 1) _ _ _ _ (λ f. removing_carried _ _ ∙ cooling_carried _) (λ f. removing_carried _ _ ∙ both_carried amount))

  -- a limit is stored and noticed, then pulls
  module _ (x : Stored) (e : mode_notices cfg x ≡ []) where
    abbrev stored : Stage
    stored = record { rec = with_attrs r (setting_stored r.attrs x); notices = limit_notices cfg x }

    heat_limit_carried : Carried (heating_pulled cfg stored.rec.attrs.settings x) (and_then stored (pull_heating cfg d))
    unfolding heating_pulled pull_heating carried_out performed
    heat_limit_carried =
        both_cond (λ (p : Plan) (q : Stage). Carried p (record { rec = q.rec; notices = stored.notices ++ q.notices })) (in_heat_limits cfg stored.rec.attrs.settings stored.rec.attrs.settings.heating) _ _ _ _
        (λ t. unmoded _ e _ ∙ neither_moved cfg d stored.notices stored.rec x) (λ t. unmoded _ e _ ∙ heating_moved cfg d stored.notices stored.rec x external _)

    cool_limit_carried : Carried (cooling_pulled cfg stored.rec.attrs.settings x) (and_then stored (pull_cooling cfg d))
    unfolding cooling_pulled pull_cooling carried_out performed
    cool_limit_carried =
        both_cond (λ (p : Plan) (q : Stage). Carried p (record { rec = q.rec; notices = stored.notices ++ q.notices })) (in_cool_limits cfg stored.rec.attrs.settings stored.rec.attrs.settings.cooling) _ _ _ _
        (λ t. unmoded _ e _ ∙ neither_moved cfg d stored.notices stored.rec x) (λ t. unmoded _ e _ ∙ cooling_moved cfg d stored.notices stored.rec x _)

  mode_carried : (v : ℕ) → carried_out cfg d r (setting_alone r.attrs.settings (Mode v)) ≡ then_noticed cfg 0x1C (applied cfg d (unchanged (with_attrs r (set_mode r.attrs v))))
  unfolding carried_out performed
  mode_carried v = ap (then_noticed cfg 0x1C) (neither_moved cfg d [] (with_attrs r (set_mode r.attrs v)) (Mode v))

pub heating_setpoint_carried : HeatingSetpointCarried
unfolding write_occupied_heating_setpoint plan_heating_setpoint
heating_setpoint_carried cfg r d v = sym (by_plan cfg d r _ _ _ _ refl (heating_carried cfg d r external v))

pub cooling_setpoint_carried : CoolingSetpointCarried
unfolding write_occupied_cooling_setpoint plan_cooling_setpoint
cooling_setpoint_carried cfg r d v = sym (by_plan cfg d r _ _ _ _ refl (cooling_carried cfg d r v))

pub min_heat_limit_carried : MinHeatLimitCarried
unfolding write_min_heat_setpoint_limit plan_min_heat_limit
min_heat_limit_carried cfg r d v = sym (by_plan cfg d r _ _ _ _ refl (heat_limit_carried cfg d r (MinHeat v) refl))

pub max_heat_limit_carried : MaxHeatLimitCarried
unfolding write_max_heat_setpoint_limit plan_max_heat_limit
max_heat_limit_carried cfg r d v = sym (by_plan cfg d r _ _ _ _ refl (heat_limit_carried cfg d r (MaxHeat v) refl))

pub min_cool_limit_carried : MinCoolLimitCarried
unfolding write_min_cool_setpoint_limit plan_min_cool_limit
min_cool_limit_carried cfg r d v = sym (by_plan cfg d r _ _ _ _ refl (cool_limit_carried cfg d r (MinCool v) refl))

pub max_cool_limit_carried : MaxCoolLimitCarried
unfolding write_max_cool_setpoint_limit plan_max_cool_limit
max_cool_limit_carried cfg r d v = sym (by_plan cfg d r _ _ _ _ refl (cool_limit_carried cfg d r (MaxCool v) refl))

pub system_mode_carried : SystemModeCarried
unfolding write_system_mode plan_system_mode
system_mode_carried cfg r d v = sym (by_plan cfg d r _ _ _ _ refl (mode_carried cfg d r v))

sides_unarmed : (cfg : Config) (s : Settings) (mode : ℕ) (amount : Tenths) → (plan_sides cfg s mode amount).arms ≡ false
unfolding plan_sides
sides_unarmed cfg s mode amount = by_cond (λ (p : Plan). p.arms ≡ false) (eqb mode 0) _ _ (λ e. refl) (λ e. by_cond (λ (p : Plan). p.arms ≡ false) (eqb mode 1) _ _ (λ f. refl) (λ f. refl))

pub raise_lower_carried : RaiseLowerCarried
unfolding raise_lower_setpoint plan_raise_lower armed_clock
raise_lower_carried cfg r d mode amount =
    let s = r.attrs.settings in
    let ws = raise_rows cfg mode in
    let p = plan_sides cfg s mode amount in
    sym (armed_plan cfg d r (plan_unless ws s p) (unarmed ws s p (sides_unarmed cfg s mode amount)) ∙ by_plan cfg d (armed_clock cfg d r) ws s p _ refl (sides_carried cfg d (armed_clock cfg d r) mode amount))

pub hour_carried : HourCarried
unfolding hour plan_hour store_entry
hour_carried w cfg r d h =
    by_planned cfg d r (hour_rows cfg h) _ _ _ refl
    (both_cond (DoneAsPlanned cfg d r) (acts w h) _ _ _ _ (λ t. sym (heating_carried cfg d r schedule _)) (λ t. refl))

pub planned_carried : PlannedCarried
unfolding step_sound planned
planned_carried cfg r d (WriteOccupiedHeatingSetpoint v) p e = heating_setpoint_carried cfg r d v ∙ ap (carried_out cfg d r) (write_of e)
planned_carried cfg r d (WriteOccupiedCoolingSetpoint v) p e = cooling_setpoint_carried cfg r d v ∙ ap (carried_out cfg d r) (write_of e)
planned_carried cfg r d (WriteMinHeatSetpointLimit v) p e = min_heat_limit_carried cfg r d v ∙ ap (carried_out cfg d r) (write_of e)
planned_carried cfg r d (WriteMaxHeatSetpointLimit v) p e = max_heat_limit_carried cfg r d v ∙ ap (carried_out cfg d r) (write_of e)
planned_carried cfg r d (WriteMinCoolSetpointLimit v) p e = min_cool_limit_carried cfg r d v ∙ ap (carried_out cfg d r) (write_of e)
planned_carried cfg r d (WriteMaxCoolSetpointLimit v) p e = max_cool_limit_carried cfg r d v ∙ ap (carried_out cfg d r) (write_of e)
planned_carried cfg r d (WriteSystemMode v) p e = system_mode_carried cfg r d v ∙ ap (carried_out cfg d r) (write_of e)
planned_carried cfg r d (SetControlSequenceOfOperation v) p e = absurd (no_write e)
planned_carried cfg r d (RaiseLowerSetpoint mode amount) p e = raise_lower_carried cfg r d mode amount ∙ ap (carried_out cfg d r) (write_of e)
planned_carried cfg r d ArmClock p e = absurd (no_write e)
planned_carried cfg r d (OutOfBand m) p e = absurd (no_write e)
planned_carried cfg r d SeedEvents p e = absurd (no_write e)
planned_carried cfg r d Sweep p e = absurd (no_write e)
planned_carried cfg r d Timer p e = absurd (no_write e)
planned_carried cfg r d Deadline p e = absurd (no_write e)
planned_carried cfg r d FactoryReset p e = absurd (no_write e)
planned_carried cfg r d (Hour h) p e = subst (λ (x : Option Plan). DoneAsPlanned cfg d r x (hour mill_week cfg r d h)) e (hour_carried mill_week cfg r d h)
