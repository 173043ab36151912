-- `exports::join_export::readability_join` meets its contract: the call's own, with its answer in words. Assumes nothing.
use mathlib.Core.Path.{ap, ◌∙◌}
use Rattle.joining.specs.Answer.{result_of}
use Rattle.exports.specs.Words.{join_words}
use Rattle.exports.proofs.Answers.{join-told}
use Rattle.exports.proofs.join_export.readability_join.Goals as goal

pub returns : goal.returns
returns c =
    let joined = c.join-answer in
    let told = join-told joined.result in (
      c.write.ensures.value ∙ told.0 ∙ ap (λ a. (result_of a).0) joined.ensures.0,
      c.write.ensures.out_after ∙ told.1 ∙ ap (λ a. join_words (result_of a)) joined.ensures.0,
      joined.ensures.1,
    )
