-- With LTNE a probe is neither reported nor seen in an answer.
use Rattle.std.specs.Prelude.{None}
use mathlib.Core.Path.{ap}
use mathlib.Core.Bool.{Bool, cond}
use lib.Dec.{eqb}
use Rattle.records.specs.Records.{nothing_removed}
use Rattle.model.specs.Answers.{Outcome, answer_with}
use Rattle.model.specs.Temperature.{reported_temperature}
use Rattle.model.specs.Removed.{removed_when_done, removed}
use Rattle.model.proofs.NotExposed.{temperature_not_exposed}
use Rattle.probes.specs.Probes.{temperature_of, readings_of, ProbeNotExposed}

pub probe_not_exposed : ProbeNotExposed
unfolding reported_temperature removed
probe_not_exposed cfg e p q before after hook node clock = (
  ap (λ (t : Bool). cond t None (temperature_of p)) e,
  λ r k.
      ap (λ (o : Outcome). answer_with o (cond (eqb o.number 0) (removed_when_done cfg r.attrs k) nothing_removed))
      (temperature_not_exposed cfg r (readings_of p before after hook node clock) (temperature_of p) (temperature_of q) k e),
)
