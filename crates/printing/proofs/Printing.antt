-- From a file's reading to its sheet: what the columns hold where the file is read, and which text follows from each answer of the reader. Assumes nothing.
use Rattle.std.specs.Prelude.{Result, Ok, Err}
use mathlib.Core.Path.{◌≡◌, refl, sym, ap, ◌∙◌}
use mathlib.Core.List.{List, ◌++◌, map}
use Prim.Native.Nat.{ℕ}
use lib.ListN.{length, take, drop, length-map}
use lib.Ieee.{Float}
use lib.Seq.{take-append_seam}
use Rattle.drawing.specs.declared.refusal.Refusal.{Refusal}
use Rattle.drawing.specs.declared.lists.Segment.{Segment}
use Rattle.drawing.specs.Entries.{Node, Exemption, SegmentColumns, NodeColumns, ExemptionColumns, segment_columns, node_columns, exemption_columns, columns_of, node_columns_of, exemption_columns_of}
use Rattle.file.specs.declared.reading.Header.{Header}
use Rattle.file.specs.Reading.{Read, got, refused, Drawing}
use Rattle.file.specs.Columns.{header_of, reading_of, column_after}
use Rattle.file.specs.Inner.Columns.{settings_of}
use Rattle.clearance.specs.Answer.{clearance_answer}
use Rattle.separation.specs.Answer.{separation_answer}
use Rattle.congestion.specs.Answer.{density_answer}
use Rattle.printing.specs.Sheet.{file_label, refusal, clearance_line, separation_line, congestion_line, scratch_words, lines_of_columns, lines_of_drawing, printed}
use Rattle.clearance.specs.declared.report.EdgeNodeClearance.{EdgeNodeClearance}
use Rattle.separation.specs.declared.report.ParallelSeparation.{ParallelSeparation}
use Rattle.congestion.specs.declared.report.CongestionReport.{CongestionReport}
use Rattle.text.specs.declared.put.TextBuffer.{TextBuffer}
use Rattle.text.specs.Inner.TextPut.{Put}
use Rattle.text.proofs.TextPuts.{put_same}

-- a refused file's text
pub refused-sheet : (r : Read Drawing) (why : Refusal) → Err why ≡ reading_of r → refusal file_label why ≡ printed r
unfolding reading_of printed
refused-sheet (got d rest) why e = cc
refused-sheet (refused w) why e = let q : why ≡ w = cc in ap (refusal file_label) q

-- the front of a filled column is f of its list
column-front : {A B : Type 0} (f : A → B) (l : List A) (old : List B) → take (length l) (map f l ++ drop (length l) old) ≡ map f l
column-front f l old = ap (λ (k : ℕ). take k (map f l ++ drop (length l) old)) (sym (length-map l f)) ∙ take-append_seam (map f l) (drop (length l) old)

-- what an answer that a file is read says about the file
pub record Said (r : Read Drawing) (h : Header) : Type 0 where
  pub drawing : Drawing
  pub rest : List ℕ
  pub is : r ≡ got drawing rest
  pub header : h ≡ header_of drawing

pub said : (r : Read Drawing) (h : Header) → Ok h ≡ reading_of r → Said r h
unfolding reading_of
said (got d rest) h e = record { drawing = d; rest = rest; is = refl; header = cc }
said (refused w) h e = cc

-- equal columns make equal lists
five : {A B C D E R : Type 0} (f : A → B → C → D → E → R) {a p : A} {b q : B} {c r : C} {d s : D} {e t : E} → a ≡ p → b ≡ q → c ≡ r → d ≡ s → e ≡ t → f a b c d e ≡ f p q r s t
five f {a} {p} {b} {q} {c} {r} {d} {s} {e} {t} x y z u v = ap (λ k. f k b c d e) x ∙ ap (λ k. f p k c d e) y ∙ ap (λ k. f p q k d e) z ∙ ap (λ k. f p q r k e) u ∙ ap (f p q r s) v

four : {A B C D R : Type 0} (f : A → B → C → D → R) {a p : A} {b q : B} {c r : C} {d s : D} → a ≡ p → b ≡ q → c ≡ r → d ≡ s → f a b c d ≡ f p q r s
four f {a} {p} {b} {q} {c} {r} {d} {s} x y z u = ap (λ k. f k b c d) x ∙ ap (λ k. f p k c d) y ∙ ap (λ k. f p q k d) z ∙ ap (f p q r) u

module _ {r : Read Drawing} {h : Header} (q : Said r h) where
  -- the lent part of a column that the reader filled: as many entries as the header says
  lent-column : {A B : Type 0} (list : Drawing → List A) (f : A → B) (n : ℕ) → n ≡ length (list q.drawing) → (column old : List B) → column ≡ column_after list f r old → take n column ≡ map f (list q.drawing)
  unfolding column_after
  lent-column list f n same column old e =
      ap (λ (k : ℕ). take k column) same
      ∙ ap (take (length (list q.drawing))) (e ∙ ap (λ (o : Read Drawing). column_after list f o old) q.is)
      ∙ column-front f (list q.drawing) old

  segment-count : h.segments ≡ length q.drawing.segments
  unfolding header_of
  segment-count = ap (λ (z : Header). z.segments) q.header

  node-count : h.nodes ≡ length q.drawing.nodes
  unfolding header_of
  node-count = ap (λ (z : Header). z.nodes) q.header

  exemption-count : h.exemptions ≡ length q.drawing.exemptions
  unfolding header_of
  exemption-count = ap (λ (z : Header). z.exemptions) q.header

  pub segments-lent : (n o : List ℕ) (f s e : List Float) (n' o' : List ℕ) (f' s' e' : List Float)
      → n ≡ column_after (λ d. d.segments) (λ x. x.net) r n' → o ≡ column_after (λ d. d.segments) (λ x. x.orientation) r o' → f ≡ column_after (λ d. d.segments) (λ x. x.fixed) r f' → s ≡ column_after (λ d. d.segments) (λ x. x.start) r s' → e ≡ column_after (λ d. d.segments) (λ x. x.end) r e'
      → segment_columns (take h.segments n) (take h.segments o) (take h.segments f) (take h.segments s) (take h.segments e) ≡ columns_of q.drawing.segments
  unfolding columns_of
  segments-lent n o f s e n' o' f' s' e' a b c d g =
      let l : Drawing → List Segment = λ z. z.segments in
      five segment_columns (lent-column l (λ x. x.net) _ segment-count n n' a) (lent-column l (λ x. x.orientation) _ segment-count o o' b) (lent-column l (λ x. x.fixed) _ segment-count f f' c) (lent-column l (λ x. x.start) _ segment-count s s' d) (lent-column l (λ x. x.end) _ segment-count e e' g)

  pub nodes-lent : (i : List ℕ) (x y w t : List Float) (i' : List ℕ) (x' y' w' t' : List Float)
      → i ≡ column_after (λ d. d.nodes) (λ z. z.id) r i' → x ≡ column_after (λ d. d.nodes) (λ z. z.x) r x' → y ≡ column_after (λ d. d.nodes) (λ z. z.y) r y' → w ≡ column_after (λ d. d.nodes) (λ z. z.width) r w' → t ≡ column_after (λ d. d.nodes) (λ z. z.height) r t'
      → node_columns (take h.nodes i) (take h.nodes x) (take h.nodes y) (take h.nodes w) (take h.nodes t) ≡ node_columns_of q.drawing.nodes
  unfolding node_columns_of
  nodes-lent i x y w t i' x' y' w' t' a b c d g =
      let l : Drawing → List Node = λ z. z.nodes in
      five node_columns (lent-column l (λ z. z.id) _ node-count i i' a) (lent-column l (λ z. z.x) _ node-count x x' b) (lent-column l (λ z. z.y) _ node-count y y' c) (lent-column l (λ z. z.width) _ node-count w w' d) (lent-column l (λ z. z.height) _ node-count t t' g)

  pub exemptions-lent : (n m n' m' : List ℕ)
      → n ≡ column_after (λ d. d.exemptions) (λ z. z.net) r n' → m ≡ column_after (λ d. d.exemptions) (λ z. z.node) r m'
      → exemption_columns (take h.exemptions n) (take h.exemptions m) ≡ exemption_columns_of q.drawing.exemptions
  unfolding exemption_columns_of
  exemptions-lent n m n' m' a b =
      let l : Drawing → List Exemption = λ z. z.exemptions in
      ap (λ z. exemption_columns z (take h.exemptions m)) (lent-column l (λ z. z.net) _ exemption-count n n' a)
      ∙ ap (exemption_columns (map (λ z. z.net) q.drawing.exemptions)) (lent-column l (λ z. z.node) _ exemption-count m m' b)

  -- the lines of the lent columns are the file's sheet
  pub lines-lent : {s : SegmentColumns} {n : NodeColumns} {e : ExemptionColumns} → s ≡ columns_of q.drawing.segments → n ≡ node_columns_of q.drawing.nodes → e ≡ exemption_columns_of q.drawing.exemptions → lines_of_columns s n e (settings_of h) ≡ printed r
  unfolding printed lines_of_drawing settings_of header_of
  lines-lent a b c = four lines_of_columns a b c (ap settings_of q.header) ∙ sym (ap printed q.is)

-- three texts, each replaced by an equal one
pub three : {a b c d e f : List ℕ} → a ≡ d → b ≡ e → c ≡ f → a ++ (b ++ c) ≡ d ++ (e ++ f)
three {a} {b} {c} {d} {e} {f} p q r = ap (λ l. l ++ (b ++ c)) p ∙ ap (λ l. d ++ (l ++ c)) q ∙ ap (λ l. d ++ (e ++ l)) r

-- the lines of three answers, each of a call with the program's scratch, are the lines of the columns
pub lines-put : (s : SegmentColumns) (n : NodeColumns) (e : ExemptionColumns) (h : Header) (x : Result EdgeNodeClearance Refusal) (y : Result ParallelSeparation Refusal) (z : Result CongestionReport Refusal) (i j k : ℕ) {before after : TextBuffer}
    → 7744 ≡ i → x ≡ clearance_answer s n e h.threshold h.clearance i
    → 7744 ≡ j → y ≡ separation_answer s h.separation j
    → 7744 ≡ k → z ≡ density_answer s h.cutoff h.congestion k
    → Put 256 before (clearance_line x ++ (separation_line y ++ congestion_line z)) after
    → Put 256 before (lines_of_columns s n e (settings_of h)) after
unfolding lines_of_columns settings_of scratch_words
lines-put s n e h x y z i j k li lx lj ly lk lz p =
    put_same
    (three
    (ap clearance_line (lx ∙ ap (clearance_answer s n e h.threshold h.clearance) (sym li)))
    (ap separation_line (ly ∙ ap (separation_answer s h.separation) (sym lj)))
    (ap congestion_line (lz ∙ ap (density_answer s h.cutoff h.congestion) (sym lk))))
    p
