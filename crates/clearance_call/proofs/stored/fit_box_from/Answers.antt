use Rattle.clearance_call.proofs.StoredBoxes.{fit_word}
use Rattle.clearance_call.proofs.stored.fit_box_from.Goals as goal

pub float_from_bits-result : goal.float_from_bits-result
float_from_bits-result c = fit_word _ c.requires.fit_box.across.low

pub float_from_bits-result-2 : goal.float_from_bits-result-2
float_from_bits-result-2 c = fit_word _ c.requires.fit_box.down.low

pub float_from_bits-result-3 : goal.float_from_bits-result-3
float_from_bits-result-3 c = fit_word _ c.requires.fit_box.across.high

pub float_from_bits-result-4 : goal.float_from_bits-result-4
float_from_bits-result-4 c = fit_word _ c.requires.fit_box.down.high
