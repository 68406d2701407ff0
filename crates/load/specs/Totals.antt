-- The load: calls on one record, a sweep after every 16, and what their answers sum up to.
use Rattle.std.specs.Prelude.{Bool, not, ◌&&◌, cond, ℕ, zero, suc, ◌+◌, ◌/◌, ◌%◌, ◌≤◌, eqb, Option, None, Some}
use Rattle.model.specs.Answers.{answer}
use Rattle.model.specs.Plant.{plant, plant_settings, no_readings}
use Rattle.model.specs.Step.{opened, step}
use Rattle.records.specs.declared.Answer.{Answer}
use Rattle.records.specs.declared.PlantOrder.{PlantOrder}
use Rattle.records.specs.declared.Call.TheVariants.{Sweep}
use Rattle.load.specs.Draws.{drawn, draw_of}
use Rattle.load.specs.declared.draws.Drawn.{Drawn}
use Rattle.load.specs.declared.totals.Load.{Load}

abbrev pub one_if : Bool → ℕ
one_if t = cond t 1 0

abbrev pub orders_of : Option PlantOrder → ℕ
orders_of None = 0
orders_of (Some o) = 1

-- the totals with one more answer; a sweep is no call, so it is not counted as accepted
abbrev pub counted : Load → Bool → ℕ → Answer → Load
counted l sweep seed a = record {
  seed = seed;
  rec = a.rec;
  accepted = l.accepted + one_if (eqb a.number 0 && not sweep);
  notices = l.notices + a.notices.len;
  orders = l.orders + orders_of a.order;
  events = l.events + a.events.len;
}

abbrev pub chosen_of : Bool → ℕ → Drawn
chosen_of sweep s = cond sweep (drawn s Sweep) (draw_of s)

-- a turn is a drawn call, or a sweep
unfoldable pub turned : Load → Bool → Load
turned l sweep =
    let d = chosen_of sweep l.seed in
    counted l sweep d.seed (answer (step plant l.rec no_readings d.call))

abbrev pub started_of : ℕ → Load
started_of s = record { seed = s; rec = (opened plant (plant_settings 2000 2250)).rec; accepted = 0; notices = 0; orders = 0; events = 0 }

-- turns are counted from 0, in rounds of 17: 16 calls and a sweep
unfoldable pub is_sweep : ℕ → Bool
is_sweep t = eqb (t % 17) 16

unfoldable pub load_of : ℕ → ℕ → Load
load_of s zero = started_of s
load_of s (suc t) = turned (load_of s t) (is_sweep t)

-- so many calls, with their sweeps
abbrev pub turns_of : ℕ → ℕ
turns_of count = count + count / 16

-- totals to which an answer can be added
pub record TotalsBounded (l : Load) : Type 0 where
  pub accepted : l.accepted ≤ 9223372036854775807
  pub notices : l.notices ≤ 9223372036854775807
  pub orders : l.orders ≤ 9223372036854775807
  pub events : l.events ≤ 9223372036854775807
