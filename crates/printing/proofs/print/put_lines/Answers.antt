-- `printing::print::put_lines` meets its contract: three calls with the program's scratch, and the lines of their answers. Assumes nothing.
use mathlib.Core.Path.{◌≡◌, refl}
use lib.ListN.{length}
use native.Mathlib.Omega.{arith}
use Rattle.printing.proofs.Printing.{lines-put}
use Rattle.printing.proofs.print.put_lines.Goals as goal

pub returns : goal.returns
returns c =
    let cleared : 7744 ≡ length c.measure_edge_node_clearance_bounded-clearance.new.scratch = omega arith in
    let again : 7744 ≡ length c.measure_parallel_separation_bounded-separation.new.scratch = omega arith in
    lines-put _ _ _ _ _ _ _ _ _ _
    refl c.measure_edge_node_clearance_bounded-clearance.ensures.0
    cleared c.measure_parallel_separation_bounded-separation.ensures.0
    again c.measure_parallel_density_profile_bounded-congestion.ensures.0
    c.three_lines.ensures
