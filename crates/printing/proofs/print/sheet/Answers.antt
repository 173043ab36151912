-- `printing::print::sheet` meets its contract: a refused file's one line, or the three lines of the columns that the reader filled. Assumes nothing.
use mathlib.Core.Path.{sym, ap, ◌∙◌}
use mathlib.Core.List.{List, ◌++◌}
use Prim.Native.Nat.{ℕ, ◌≤◌}
use native.Mathlib.Omega.{arith}
use lib.ListN.{length, drop}
use Rattle.file.specs.Reading.{read}
use Rattle.text.specs.Inner.TextPut.{Put}
use Rattle.printing.specs.Sheet.{sheet}
use Rattle.text.proofs.TextPuts.{put_same, put-within, put_front}
use Rattle.printing.proofs.Printing.{refused-sheet, said, segments-lent, nodes-lent, exemptions-lent, lines-lent}
use Rattle.printing.proofs.print.sheet.Goals as goal
use Rattle.printing.proofs.print.sheet.Goals.{in-Err, in-Ok}

pub returns : goal.returns
unfolding sheet
returns c =
    let l = c.args.bytes.now in
    let e = c.read_drawing.ensures in
    let put : Put 256 c.new-buffer.result (sheet l) c.match-read_drawing.buffer = elim c.match-read_drawing.branch [
      | in-Err w ↦ rw w.buffer-is (put-within (omega arith) (put_same (refused-sheet (read l) _ (sym w.in-Err.is ∙ e.value.0)) w.file_refused.ensures))
      | in-Ok w ↦
          let q = said (read l) _ (sym w.in-Ok.is ∙ e.value.0) in
          let segments = w.segments.ensures ∙ segments-lent q _ _ _ _ _ _ _ _ _ _ e.net_after e.orientation_after e.fixed_after e.start_after e.end_after in
          let nodes = w.nodes.ensures ∙ nodes-lent q _ _ _ _ _ _ _ _ _ _ e.id_after e.x_after e.y_after e.width_after e.height_after in
          let exemptions = w.exemptions.ensures ∙ exemptions-lent q _ _ _ _ e.exempt_net_after e.exempt_node_after in
          rw w.buffer-is (put_same (lines-lent q segments nodes exemptions) w.put_lines.ensures)
    ] in
    let room : 256 ≤ length c.new-buffer.result.bytes.now = omega (arith, ap length c.new-buffer.ensures.contents, c.fits-text) in
    let front = put_front put c.new-buffer.ensures.position room (omega arith) in
    record {
      value = c.position.ensures ∙ front.1;
      text_after = front.0 ∙ ap (λ (s : List ℕ). sheet l ++ drop (length (sheet l)) s) c.new-buffer.ensures.contents;
    }
