-- The conversion of `drawing::refusal::Refusal` meets its contract: the enum's numbers are SCOPE's, case by case. Assumes nothing.
use Rattle.std.proofs.Common.{◌≡◌, refl, ◌+◌}
use Rattle.drawing.specs.declared.refusal.Refusal.{Refusal}
use Rattle.drawing.specs.declared.refusal.Refusal.TheVariants.{MalformedFile, ColumnsDiffer, TooManyEntries, ShortScratch, InvalidInput, OffGrid, WorkLimitExceeded, ShortOutput}
use Rattle.drawing.specs.contracts.refusal.Refusal as declared
use denote.Enum.Declared as Enum
use Rattle.drawing.specs.Refusals.{number_of}
use Rattle.drawing.proofs.refusal.U8FromRefusal.from.Goals as goal

numbered : (r : Refusal) → Enum.tag_of declared.the_type r + 1 ≡ number_of r
unfolding number_of
numbered MalformedFile = refl
numbered ColumnsDiffer = refl
numbered TooManyEntries = refl
numbered ShortScratch = refl
numbered InvalidInput = refl
numbered OffGrid = refl
numbered WorkLimitExceeded = refl
numbered ShortOutput = refl

pub returns : goal.returns
returns c = numbered c.args.refusal
