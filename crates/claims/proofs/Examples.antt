-- The instances of line 3, and what its premises rule out, computed.
use mathlib.Core.Path.{◌≡◌, refl}
use mathlib.Core.List.{List, [], ◌∷◌, ◌++◌}
use Prim.Native.Nat.{ℕ}
use Rattle.model.specs.Step.{opened}
use Rattle.model.specs.Plant.{at, plant, plant_settings, no_readings}
use Rattle.model.specs.Lists.{Entry, number, run}
use Rattle.claims.specs.Claims.{limits_entry, AllAccepted, Adjacent, heating_cooling, heating_only, cooling_only, LimitsThenWrites, ModeWritten, AgreeAfter, short_gap_allowed}
use Rattle.model.specs.Examples.{without_readings}
use Rattle.claims.specs.Examples.{before, between, later, both_writes, with_writes, other_settings, heating_plant, refused_later, heating_later, cooling_plant, cooling_later, BothSides, HeatingOnly, CoolingOnly, CallBetweenDiffers, LimitWritesDiffer, ShortGapEndsAtReset, OneAfterReset, ShortGapEndsAtHour}
use Rattle.model.specs.Everything.{everything}
use Rattle.records.specs.declared.Config.{Config}
use Rattle.records.specs.declared.Controller.{Controller}
use Rattle.records.specs.declared.Call.TheVariants.{SeedEvents, WriteSystemMode, WriteOccupiedHeatingSetpoint, WriteOccupiedCoolingSetpoint}
use Rattle.claims.proofs.LineThree.{line_three}

-- the parts of a list that has its limits message and its writes
module _ (cfg : Config) (r : Controller) (writes after : List Entry) where
  writes_in : Adjacent cfg writes → AllAccepted cfg (run cfg r (before ++ (limits_entry (at 1000) (at 2500) (at 1800) (at 3000) no_readings ∷ between))) writes → LimitsThenWrites cfg r (with_writes writes after)
  writes_in adjacent taken = record {
    before = before;
    minheat = at 1000;
    maxheat = at 2500;
    mincool = at 1800;
    maxcool = at 3000;
    readings = no_readings;
    between = between;
    writes = writes;
    later = after;
    whole = refl;
    adjacent = adjacent;
    taken = taken;
  }

mode_in : (cfg : Config) (r : Controller) (front rest : List Entry) (m : ℕ) → number cfg (run cfg r front) (without_readings (WriteSystemMode m)) ≡ 0 → ModeWritten cfg r (front ++ (without_readings (WriteSystemMode m) ∷ rest))
mode_in cfg r front rest m e = record { before = front; mode = m; readings = no_readings; later = rest; whole = refl; taken = e }

pub both_sides : BothSides
unfolding everything
both_sides = record {
  valid = refl;
  writes = (writes_in plant (opened plant (plant_settings 2000 2250)).rec both_writes later both (refl, (refl, tt)), writes_in plant (opened plant other_settings).rec both_writes later both (refl, (refl, tt)));
  mode = (mode_in plant (opened plant (plant_settings 2000 2250)).rec (without_readings SeedEvents ∷ []) _ 3 refl, mode_in plant (opened plant other_settings).rec (without_readings SeedEvents ∷ []) _ 3 refl);
  number = (refl, refl);
  ends = (refl, refl);
}
  where
    both : Adjacent plant both_writes
    both = heating_cooling (at 2000) (at 2100) no_readings no_readings

-- so they agree, for ever
pub both_sides_agree : (m : List Entry) → AgreeAfter plant (plant_settings 2000 2250) other_settings (with_writes both_writes later) m
both_sides_agree m = let i = both_sides in (line_three plant (plant_settings 2000 2250) other_settings (with_writes both_writes later) m i.valid).2 i.writes.0 i.mode.0

abbrev heat_write : List Entry
heat_write = without_readings (WriteOccupiedHeatingSetpoint (at 2000)) ∷ []

pub heating_alone_lem : HeatingOnly
unfolding everything
heating_alone_lem = record {
  valid = refl;
  writes = (writes_in heating_plant (opened heating_plant (plant_settings 2000 2250)).rec heat_write heating_later one (refl, tt), writes_in heating_plant (opened heating_plant (plant_settings 900 2250)).rec heat_write heating_later one (refl, tt));
  mode = (mode_in heating_plant (opened heating_plant (plant_settings 2000 2250)).rec (with_writes heat_write refused_later) [] 4 refl, mode_in heating_plant (opened heating_plant (plant_settings 900 2250)).rec (with_writes heat_write refused_later) [] 4 refl);
  number = (refl, refl);
  ends = (refl, refl);
}
  where
    one : Adjacent heating_plant heat_write
    one = heating_only (at 2000) no_readings refl

abbrev cool_write : List Entry
cool_write = without_readings (WriteOccupiedCoolingSetpoint (at 2100)) ∷ []

pub cooling_alone_lem : CoolingOnly
unfolding everything
cooling_alone_lem = record {
  valid = refl;
  writes = (writes_in cooling_plant (opened cooling_plant (plant_settings 2000 2250)).rec cool_write cooling_later one (refl, tt), writes_in cooling_plant (opened cooling_plant (plant_settings 2000 3100)).rec cool_write cooling_later one (refl, tt));
  mode = (mode_in cooling_plant (opened cooling_plant (plant_settings 2000 2250)).rec (without_readings SeedEvents ∷ []) _ 3 refl, mode_in cooling_plant (opened cooling_plant (plant_settings 2000 3100)).rec (without_readings SeedEvents ∷ []) _ 3 refl);
  number = (refl, refl);
  ends = (refl, refl);
}
  where
    one : Adjacent cooling_plant cool_write
    one = cooling_only (at 2100) no_readings refl

pub call_between_differs : CallBetweenDiffers
unfolding everything
call_between_differs = (refl, refl)

pub limit_writes_differ : LimitWritesDiffer
unfolding everything
limit_writes_differ = (refl, refl)

pub short_gap_ends_at_reset : ShortGapEndsAtReset
unfolding everything short_gap_allowed
short_gap_ends_at_reset = (refl, refl, refl, refl)

pub one_after_reset : OneAfterReset
unfolding everything
one_after_reset = (refl, refl, refl)

pub short_gap_ends_at_hour : ShortGapEndsAtHour
unfolding everything short_gap_allowed
short_gap_ends_at_hour = (refl, refl, refl, refl)
