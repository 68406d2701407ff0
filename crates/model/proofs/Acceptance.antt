-- The ten calls and the five marked cases of document 01, computed from the definitions.
use mathlib.Core.Path.{◌≡◌, refl}
use Rattle.model.specs.Step.{opened}
use Rattle.model.specs.Plant.{plant, plant_settings, ten_calls, lines_from, ten_lines, marked, marked_answers}
use Rattle.model.specs.Everything.{everything}

pub acceptance : (lines_from plant 1 (opened plant (plant_settings 2000 2250)) ten_calls ≡ ten_lines) × (marked ≡ marked_answers)
unfolding everything
acceptance = (refl, refl)
