-- `records::parallel::measure_parallel_separation_bounded_by_records` meets its contract: that of the call by columns, of the columns that the records were copied into, which decide as the whole list does. Assumes nothing.
use Rattle.std.proofs.Common.{length, map, ◌∙◌}
use Rattle.drawing.specs.declared.refusal.Refusal.TheVariants.{TooManyEntries}
use Rattle.drawing.specs.Refusals.{first_of}
use Rattle.drawing.specs.Held.{SegmentsHeld}
use Rattle.separation.specs.Conditions.{separation_conditions}
use Rattle.separation.specs.Answer.{separation_answer}
use Rattle.records.specs.Records.{of_parallel}
use Rattle.records.proofs.Deciding.{separation-many, separation-refused, decided}
use Rattle.records.proofs.parallel.measure_parallel_separation_bounded_by_records.Goals as goal

pub returns : goal.returns
returns c =
    let given = c.args in
    let scratch = given.scratch.now in
    decided (λ t. separation_answer t given.allowance (length scratch)) (λ t. first_of (separation_conditions t (length scratch))) SegmentsHeld scratch TooManyEntries (separation-many (length scratch)) (separation-refused given.allowance (length scratch)) (map of_parallel given.records.now) (c.segments.ensures ∙ c.copy_from.ensures) c.measure_parallel_separation_bounded.ensures
