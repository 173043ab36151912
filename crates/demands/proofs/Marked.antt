-- The marked cases, from the measures' computed examples. Assumes nothing.
use mathlib.Core.Path.{ap}
use lib.Ieee.{of_bits}
use Rattle.drawing.specs.Refusals.{number_of}
use Rattle.clearance.proofs.Examples as clearance
use Rattle.separation.specs.Answer as answered
use Rattle.separation.proofs.Examples as separation
use Rattle.congestion.specs.Answer.{result_of}
use Rattle.congestion.proofs.Examples as congestion
use Rattle.demands.specs.Marked.{Marked}

pub marked : Marked
unfolding result_of answered.result_of number_of of_bits
marked = record {
  a = ap answered.result_of (separation.marked).a;
  b-accepted = ap answered.result_of (separation.marked).b-accepted;
  b-refused = ap answered.result_of (separation.marked).b-refused;
  c-accepted = ap result_of (congestion.marked).D_at_4;
  c-refused = ap result_of (congestion.marked).D_at_3;
  d = ap answered.result_of (separation.marked).d;
  e = ap answered.result_of (separation.marked).e;
  f = ap answered.result_of (separation.marked).f;
  g = (clearance.marked).g;
  h = (clearance.marked).h;
  i = (clearance.marked).i;
  j = ap result_of (congestion.marked).gap_equals_cutoff;
  k_passes = ap result_of (congestion.marked).on_the_grid;
  k_off_the_grid = ap result_of (congestion.marked).off_the_grid;
  l = ap result_of (congestion.marked).minus_zero;
  sheet = (clearance.marked).d;
}
