-- `floats::grid::on_grid` meets its contract: the part about values is in `proofs/GridTest.antt`. Assumes nothing.
use Rattle.std.proofs.Common.{T, ℤ, sym, ap, ◌∙◌, subst, w64}
use lib.Ieee.{of_bits, neg, binary64, eq, of_int, in_float}
use mir.ValLaws.{to_z-of_z}
use Rattle.floats.proofs.GridTest.{off_low, off_high, in_i64, in_f64, whole_is, times64}
use Rattle.floats.proofs.grid.on_grid.Goals as goal

pub truncating_f64_to_i64-n-requires : goal.truncating_f64_to_i64-n-requires
unfolding of_bits neg
truncating_f64_to_i64-n-requires c = let p = in_i64 c.args.x (subst T (sym c.well_formed.0.1) tt) c.if-x.true c.if-x-2.true in record { lower_bound = p.0; upper_bound = p.1 }

pub int_to_float-result : goal.int_to_float-result
unfolding of_bits neg
int_to_float-result c = let n = c.truncating_f64_to_i64-n in
    subst (λ (z : ℤ). T (in_float binary64 z)) (sym (to_z-of_z w64 n.result (record { sfits = n.type_inv }) ∙ n.ensures)) (in_f64 c.args.x (subst T (sym c.well_formed.0.1) tt) c.if-x.true c.if-x-2.true)

pub returns-then-x-2 : goal.returns-then-x-2
unfolding of_bits neg
returns-then-x-2 c = let n = c.truncating_f64_to_i64-n in
    ap (λ (z : ℤ). eq (of_int binary64 z) (times64 c.args.x)) (to_z-of_z w64 n.result (record { sfits = n.type_inv }) ∙ n.ensures)
    ∙ whole_is c.args.x (subst T (sym c.well_formed.0.1) tt) c.if-x.true c.if-x-2.true

pub returns-else-x-2 : goal.returns-else-x-2
unfolding of_bits neg
returns-else-x-2 c = off_high c.args.x (subst T (sym c.well_formed.0.1) tt) c.if-x-2.false

pub returns-else-x : goal.returns-else-x
unfolding of_bits neg
returns-else-x c = off_low c.args.x (subst T (sym c.well_formed.0.1) tt) c.if-x.false
