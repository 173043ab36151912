use Rattle.clearance_call.proofs.stored.box_from.Goals as goal

pub returns : goal.returns
returns c = λ i. record { left = c.float_of_bits.ensures i; top = c.float_of_bits-2.ensures i; right = c.float_of_bits-3.ensures i; bottom = c.float_of_bits-4.ensures i }
