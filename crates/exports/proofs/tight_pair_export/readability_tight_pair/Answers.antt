-- `exports::tight_pair_export::readability_tight_pair` meets its contract: the call's own, with its answer in words. Assumes nothing.
use mathlib.Core.Path.{◌∙◌}
use Rattle.exports.proofs.Answers.{pair-told}
use Rattle.exports.proofs.tight_pair_export.readability_tight_pair.Goals as goal

pub returns : goal.returns
returns c =
    let found = c.tight_pair-answer in
    let told = pair-told found.result in
    record { answer = found.result; answered = found.ensures; number_is = c.write.ensures.value ∙ told.0; words_are = c.write.ensures.out_after ∙ told.1 }
