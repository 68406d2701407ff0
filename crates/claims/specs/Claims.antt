-- Line 3 of document 01, over whole lists: agreement of two controllers, the band of each, and both as one claim, `LineThree`; and those of C-11 and C-14.
-- docs/THEOREM.md says the same in plain words.
use Rattle.std.specs.Prelude.{◌≡◌, Bool, true, false, cond, List, [], ◌∷◌, ◌++◌, ℕ, eqb, ◌≤ℤ◌}
use Rattle.units.specs.declared.Hundredths.{Hundredths}
use Rattle.units.specs.declared.Tenths.{Tenths}
use Rattle.model.specs.Served.{serves}
use Rattle.model.specs.Units.{GapKept}
use Rattle.model.specs.Limits.{min_heat_setpoint, max_heat_setpoint, min_cool_setpoint, max_cool_setpoint, EqualLimits}
use Rattle.model.specs.Validation.{accepted}
use Rattle.model.specs.RaiseBoth.{heating_target, cooling_target}
use Rattle.model.specs.Step.{opened}
use Rattle.model.specs.Lists.{Entry, entry, after, number, run, numbers, short_gap_after}
use Rattle.records.specs.declared.Config.{Config}
use Rattle.records.specs.declared.Settings.{Settings}
use Rattle.records.specs.declared.Controller.{Controller}
use Rattle.records.specs.declared.Readings.{Readings}
use Rattle.records.specs.declared.OutOfBandMessage.TheVariants.{SetpointLimits}
use Rattle.records.specs.declared.Call.TheVariants.{WriteOccupiedHeatingSetpoint, WriteOccupiedCoolingSetpoint, WriteSystemMode, RaiseLowerSetpoint, OutOfBand, FactoryReset}

-- every call of a list is accepted
abbrev pub AllAccepted : Config → Controller → List Entry → Type 0
AllAccepted cfg r [] = Unit {0}
AllAccepted cfg r (e ∷ l) = (number cfg r e ≡ 0) × AllAccepted cfg (after cfg r e) l

-- equal served setpoints
pub record EqualSetpoints (cfg : Config) (s t : Settings) : Type 0 where
  pub heating : serves cfg 0x12 ≡ true → s.heating ≡ t.heating
  pub cooling : serves cfg 0x11 ≡ true → s.cooling ≡ t.cooling

pub record Agree (cfg : Config) (q r : Controller) : Type 0 where
  pub limits : EqualLimits cfg q.attrs.settings r.attrs.settings
  pub setpoints : EqualSetpoints cfg q.attrs.settings r.attrs.settings
  pub mode : q.attrs.settings.mode ≡ r.attrs.settings.mode

-- the settings that a limits message carries, and one as an entry
abbrev pub limits_entry : Hundredths → Hundredths → Hundredths → Hundredths → Readings → Entry
limits_entry a b c e d = entry (OutOfBand (SetpointLimits a b c e)) d

-- writes of each served setpoint with no call between them: either order, or one write where one side is served
pub data Adjacent (cfg : Config) : List Entry → Type 0 where
  heating_cooling : (h c : Hundredths) (d e : Readings) → Adjacent cfg (entry (WriteOccupiedHeatingSetpoint h) d ∷ entry (WriteOccupiedCoolingSetpoint c) e ∷ [])
  cooling_heating : (c h : Hundredths) (d e : Readings) → Adjacent cfg (entry (WriteOccupiedCoolingSetpoint c) d ∷ entry (WriteOccupiedHeatingSetpoint h) e ∷ [])
  heating_only : (h : Hundredths) (d : Readings) → serves cfg 0x11 ≡ false → Adjacent cfg (entry (WriteOccupiedHeatingSetpoint h) d ∷ [])
  cooling_only : (c : Hundredths) (d : Readings) → serves cfg 0x12 ≡ false → Adjacent cfg (entry (WriteOccupiedCoolingSetpoint c) d ∷ [])

-- a list that has a limits message, and later the adjacent writes, accepted by the controller r
pub record LimitsThenWrites (cfg : Config) (r : Controller) (l : List Entry) : Type 0 where
  pub before : List Entry
  pub minheat : Hundredths
  pub maxheat : Hundredths
  pub mincool : Hundredths
  pub maxcool : Hundredths
  pub readings : Readings
  pub between : List Entry
  pub writes : List Entry
  pub later : List Entry
  pub whole : l ≡ before ++ (limits_entry minheat maxheat mincool maxcool readings ∷ (between ++ (writes ++ later)))
  pub adjacent : Adjacent cfg writes
  pub taken : AllAccepted cfg (run cfg r (before ++ (limits_entry minheat maxheat mincool maxcool readings ∷ between))) writes

-- a list that has a mode write, accepted by the controller r
pub record ModeWritten (cfg : Config) (r : Controller) (l : List Entry) : Type 0 where
  pub before : List Entry
  pub mode : ℕ
  pub readings : Readings
  pub later : List Entry
  pub whole : l ≡ before ++ (entry (WriteSystemMode mode) readings ∷ later)
  pub taken : number cfg (run cfg r before) (entry (WriteSystemMode mode) readings) ≡ 0

-- two controllers, opened on s and on t, agree after the list l and after its continuation m, whose calls give equal numbers
abbrev pub AgreeAfter : Config → Settings → Settings → List Entry → List Entry → Type 0
AgreeAfter cfg s t l m =
    Agree cfg (run cfg (opened cfg s).rec (l ++ m)) (run cfg (opened cfg t).rec (l ++ m))
    × (numbers cfg (run cfg (opened cfg s).rec l) m ≡ numbers cfg (run cfg (opened cfg t).rec l) m)

-- Agreement. Two controllers open on one accepted configuration, each on its own settings, and get the same list. Once it has these three,
-- accepted by one of them, both agree, and so they do after every longer list; every later call gives equal numbers
abbrev pub Agreement : Type 0
Agreement =
    (cfg : Config) (s t : Settings) (l m : List Entry) → accepted cfg ≡ true
    → LimitsThenWrites cfg (opened cfg s).rec l → ModeWritten cfg (opened cfg s).rec l → AgreeAfter cfg s t l m

-- The stronger facts that carry it. From the limits message on: equal limits, and equal numbers
abbrev pub LimitsAgree : Type 0
LimitsAgree =
    (cfg : Config) (s t : Settings) (l m : List Entry) (a b c e : Hundredths) (d : Readings) → accepted cfg ≡ true
    → EqualLimits cfg (run cfg (opened cfg s).rec (l ++ (limits_entry a b c e d ∷ m))).attrs.settings (run cfg (opened cfg t).rec (l ++ (limits_entry a b c e d ∷ m))).attrs.settings
    × (numbers cfg (run cfg (opened cfg s).rec (l ++ (limits_entry a b c e d ∷ []))) m ≡ numbers cfg (run cfg (opened cfg t).rec (l ++ (limits_entry a b c e d ∷ []))) m)

-- from an accepted mode write on: equal modes
abbrev pub ModesAgree : Type 0
ModesAgree =
    (cfg : Config) (s t : Settings) (l : List Entry) → accepted cfg ≡ true → ModeWritten cfg (opened cfg s).rec l
    → (run cfg (opened cfg s).rec l).attrs.settings.mode ≡ (run cfg (opened cfg t).rec l).attrs.settings.mode

-- from the adjacent writes on: equal served setpoints
abbrev pub SetpointsAgree : Type 0
SetpointsAgree =
    (cfg : Config) (s t : Settings) (l : List Entry) → accepted cfg ≡ true → LimitsThenWrites cfg (opened cfg s).rec l
    → EqualSetpoints cfg (run cfg (opened cfg s).rec l).attrs.settings (run cfg (opened cfg t).rec l).attrs.settings

-- Whether a short gap is allowed after a list: refused calls change nothing of it
unfoldable pub short_gap_allowed : Config → Controller → Bool → List Entry → Bool
short_gap_allowed cfg r b [] = b
short_gap_allowed cfg r b (e ∷ l) = short_gap_allowed cfg (after cfg r e) (cond (eqb (number cfg r e) 0) (short_gap_after b e.call) b) l

-- each served setpoint within its limits in force
pub record InBand (cfg : Config) (s : Settings) : Type 0 where
  pub heating : serves cfg 0x12 ≡ true → ((min_heat_setpoint cfg s).0 ≤ℤ s.heating.0) × (s.heating.0 ≤ℤ (max_heat_setpoint cfg s).0)
  pub cooling : serves cfg 0x11 ≡ true → ((min_cool_setpoint cfg s).0 ≤ℤ s.cooling.0) × (s.cooling.0 ≤ℤ (max_cool_setpoint cfg s).0)

-- after the list the setpoints lie in their band, and the gap is kept unless a short one is allowed
abbrev pub BandAfter : Config → Settings → List Entry → Type 0
BandAfter cfg s l =
    InBand cfg (run cfg (opened cfg s).rec l).attrs.settings
    × (short_gap_allowed cfg (opened cfg s).rec false l ≡ false → GapKept cfg (run cfg (opened cfg s).rec l).attrs.settings)

-- Band. After opening and after each call of any list
abbrev pub Band : Type 0
Band = (cfg : Config) (s : Settings) (l : List Entry) → accepted cfg ≡ true → BandAfter cfg s l

-- C-14. Where no short gap is allowed Both leaves each setpoint at its target: heating gives way only after an out-of-band setpoint
abbrev pub BothAtTargets : Type 0
BothAtTargets =
    (cfg : Config) (s : Settings) (l : List Entry) (amount : Tenths) (d : Readings) → accepted cfg ≡ true → short_gap_allowed cfg (opened cfg s).rec false l ≡ false →
    let r = run cfg (opened cfg s).rec l in
    let q = after cfg r (entry (RaiseLowerSetpoint 2 amount) d) in
    (q.attrs.settings.heating ≡ heating_target cfg r.attrs.settings amount) × (q.attrs.settings.cooling ≡ cooling_target cfg r.attrs.settings amount)

-- C-11. Two controllers on one accepted configuration, each with its own settings and its own list behind it, both get a reset: at once all settings and dirty marks
-- are equal, so that they agree, and so they do after every list that both get then, whose calls give equal numbers
abbrev pub ResetsAgree : Type 0
ResetsAgree =
    (cfg : Config) (s t : Settings) (k l m : List Entry) (d e : Readings) → accepted cfg ≡ true →
    let q = after cfg (run cfg (opened cfg s).rec k) (entry FactoryReset d) in
    let r = after cfg (run cfg (opened cfg t).rec l) (entry FactoryReset e) in
    (q.attrs ≡ r.attrs) × Agree cfg q r × Agree cfg (run cfg q m) (run cfg r m) × (numbers cfg q m ≡ numbers cfg r m)

-- Line 3. On one accepted configuration two controllers, each opened on its own settings, get the same list of calls: after all of it each has its
-- setpoints in their band, and once its front part has a limits message, adjacent setpoint writes and a mode write, accepted by one of them, both
-- agree from then on
abbrev pub LineThree : Type 0
LineThree =
    (cfg : Config) (s t : Settings) (l m : List Entry) → accepted cfg ≡ true
    → BandAfter cfg s (l ++ m) × BandAfter cfg t (l ++ m)
    × (LimitsThenWrites cfg (opened cfg s).rec l → ModeWritten cfg (opened cfg s).rec l → AgreeAfter cfg s t l m)
