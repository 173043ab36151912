-- `file::read::read_drawing` meets its contract: the parts of a file that is read are where its counts say, and each column takes one value of each entry. Assumes nothing.
use mathlib.Core.Path.{refl}
use mathlib.Core.List.{[]}
use Rattle.std.proofs.Common.{rules}
use Rattle.std.proofs.lemmas.Result.{err_from_is_err_and}
use Rattle.file.proofs.FixedParts.{number_at, float_at, segment_of, node_of, exemption_of}
use Rattle.file.proofs.ReadingLaid.{laid}
use Rattle.file.proofs.ColumnsRead.{reading_result, column-read, column-kept}
use Rattle.file.proofs.read.read_drawing.Goals as goal

pub returns-in_err-header : goal.returns-in_err-header
returns-in_err-header c =
    let l = c.args.bytes.now in
    let p = err_from_is_err_and c.from_residual.result c.from_residual.ensures.1 in
    let e = c.in_err-header.ensures.value in
    record {
      value = rw (p.1, p.2) (e, reading_result _ _ e);
      room = search rules;
      net_after = column-kept (λ d. d.segments) (λ s. s.net) l _ _ e;
      orientation_after = column-kept (λ d. d.segments) (λ s. s.orientation) l _ _ e;
      fixed_after = column-kept (λ d. d.segments) (λ s. s.fixed) l _ _ e;
      start_after = column-kept (λ d. d.segments) (λ s. s.start) l _ _ e;
      end_after = column-kept (λ d. d.segments) (λ s. s.end) l _ _ e;
      id_after = column-kept (λ d. d.nodes) (λ s. s.id) l _ _ e;
      x_after = column-kept (λ d. d.nodes) (λ s. s.x) l _ _ e;
      y_after = column-kept (λ d. d.nodes) (λ s. s.y) l _ _ e;
      width_after = column-kept (λ d. d.nodes) (λ s. s.width) l _ _ e;
      height_after = column-kept (λ d. d.nodes) (λ s. s.height) l _ _ e;
      exempt_net_after = column-kept (λ d. d.exemptions) (λ s. s.net) l _ _ e;
      exempt_node_after = column-kept (λ d. d.exemptions) (λ s. s.node) l _ _ e;
    }

pub returns : goal.returns
returns c =
    let l = c.args.bytes.now in
    let h = c.in_ok-header.header in
    let e = c.in_ok-header.ensures.value in
    let is = (laid l h e).is in
    record {
      value = (e, reading_result _ _ e);
      room = search rules;
      net_after = column-read (λ d. d.segments) (λ s. s.net) segment_of (number_at 4 0) 29 h.segments _ l _ [] _ _ is refl (λ r. refl) c.fill.ensures;
      orientation_after = column-read (λ d. d.segments) (λ s. s.orientation) segment_of (number_at 1 4) 29 h.segments _ l _ [] _ _ is refl (λ r. refl) c.fill-2.ensures;
      fixed_after = column-read (λ d. d.segments) (λ s. s.fixed) segment_of (float_at 5) 29 h.segments _ l _ [] _ _ is refl (λ r. refl) c.fill-3.ensures;
      start_after = column-read (λ d. d.segments) (λ s. s.start) segment_of (float_at 13) 29 h.segments _ l _ [] _ _ is refl (λ r. refl) c.fill-4.ensures;
      end_after = column-read (λ d. d.segments) (λ s. s.end) segment_of (float_at 21) 29 h.segments _ l _ [] _ _ is refl (λ r. refl) c.fill-5.ensures;
      id_after = column-read (λ d. d.nodes) (λ s. s.id) node_of (number_at 4 0) 36 h.nodes _ l _ [] _ _ is refl (λ r. refl) c.fill-6.ensures;
      x_after = column-read (λ d. d.nodes) (λ s. s.x) node_of (float_at 4) 36 h.nodes _ l _ [] _ _ is refl (λ r. refl) c.fill-7.ensures;
      y_after = column-read (λ d. d.nodes) (λ s. s.y) node_of (float_at 12) 36 h.nodes _ l _ [] _ _ is refl (λ r. refl) c.fill-8.ensures;
      width_after = column-read (λ d. d.nodes) (λ s. s.width) node_of (float_at 20) 36 h.nodes _ l _ [] _ _ is refl (λ r. refl) c.fill-9.ensures;
      height_after = column-read (λ d. d.nodes) (λ s. s.height) node_of (float_at 28) 36 h.nodes _ l _ [] _ _ is refl (λ r. refl) c.fill-10.ensures;
      exempt_net_after = column-read (λ d. d.exemptions) (λ s. s.net) exemption_of (number_at 4 0) 8 h.exemptions _ l _ [] _ _ is refl (λ r. refl) c.fill-11.ensures;
      exempt_node_after = column-read (λ d. d.exemptions) (λ s. s.node) exemption_of (number_at 4 4) 8 h.exemptions _ l _ [] _ _ is refl (λ r. refl) c.fill-12.ensures;
    }
