-- `records::parallel::measure_parallel_density_profile_bounded_by_records` meets its contract: that of the call by columns, of the columns that the records were copied into, which decide as the whole list does. Assumes nothing.
use Rattle.std.proofs.Common.{arith, length, map}
use Rattle.std.proofs.Math.Seq.{take-length}
use Rattle.drawing.specs.declared.refusal.Refusal.TheVariants.{TooManyEntries}
use Rattle.drawing.specs.Refusals.{first_of}
use Rattle.drawing.specs.Held.{Binary64, SegmentsHeld}
use Rattle.congestion.specs.Conditions.{congestion_conditions}
use Rattle.congestion.specs.Answer.{density_answer}
use Rattle.records.specs.Records.{of_parallel}
use Rattle.records.proofs.Deciding.{congestion-many, density-refused, decided}
use Rattle.records.proofs.parallel.measure_parallel_density_profile_bounded_by_records.Goals as goal

-- `take-length` is for a part `..n` of the records that is all of them: without it, a program that copies such a part would be refused for taking one, and not for what it leaves out.
pub returns : goal.returns
returns c =
    let given = c.args in
    let scratch = given.scratch.now in
    decided (λ t. density_answer t given.cutoff given.allowance (length scratch)) (λ t. first_of (congestion_conditions t given.cutoff (length scratch))) (λ t. SegmentsHeld t × Binary64 given.cutoff) scratch TooManyEntries (congestion-many given.cutoff (length scratch)) (density-refused given.cutoff given.allowance (length scratch)) (map of_parallel given.records.now) (grind (arith, take-length)) c.measure_parallel_density_profile_bounded.ensures
