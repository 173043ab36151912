-- `exports::records_export::readability_separation_by_records` meets its contract: the call's own, with its answer in words. Assumes nothing.
use mathlib.Core.Path.{ap, ◌∙◌}
use Rattle.separation.specs.Answer.{result_of}
use Rattle.exports.specs.Words.{separation_words}
use Rattle.exports.proofs.Answers.{separation-told}
use Rattle.exports.proofs.records_export.readability_separation_by_records.Goals as goal

pub returns : goal.returns
returns c =
    let measured = c.measure_parallel_separation_bounded_by_records-answer in
    let told = separation-told measured.result in (
      c.write.ensures.value ∙ told.0 ∙ ap (λ a. (result_of a).0) measured.ensures.0,
      c.write.ensures.out_after ∙ told.1 ∙ ap (λ a. separation_words (result_of a).1) measured.ensures.0,
      measured.ensures.1,
    )
