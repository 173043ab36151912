-- Rows that are sorted in the words after the first 16 for each segment: how many there are, and what the whole slice is afterwards. Assumes nothing.
use mathlib.Core.Path.{◌≡◌, sym, ap, ◌∙◌, subst}
use mathlib.Core.List.{List}
use Prim.Native.Nat.{ℕ, ◌-◌, ◌*◌, ◌≤◌}
use native.Mathlib.Omega.{arith}
use borrow.Rule.Slice.PartMut.{mid_of, put_mid}
use lib.ListN.{length, take, drop, length-append, length-drop}
use lib.Seq.{drop_at, length-take-le}
use Rattle.laws.proofs.Parts.{tail_back, tail_lent}
use Rattle.drawing.specs.Entries.{SegmentColumns, segments}
use Rattle.drawing.specs.Inner.Lengths.{SegmentsAgree}
use Rattle.rows.specs.Rows.{oriented}
use Rattle.rows.specs.Inner.Placed.{row_count, rows_placed}
use Rattle.rows.specs.Inner.Tables.{Orderable, RowsOrdered}
use Rattle.rows.proofs.Oriented.{oriented-few}
use Rattle.rows.proofs.RowTables.{rows-placed}

-- e is the new content of these words
module _ (s e : List ℕ) (o n : ℕ) (c : SegmentColumns) (agree : SegmentsAgree c) (room : 21 * length c.net ≤ length s)
    (orders : (n ≡ row_count o c (length (mid_of (16 * length c.net) (length s - 16 * length c.net) s))) × (e ≡ rows_placed o c (mid_of (16 * length c.net) (length s - 16 * length c.net) s))) where
  abbrev from : ℕ
  from = 16 * length c.net

  lent : length (mid_of from (length s - from) s) ≡ length s - from
  lent = ap length (tail_lent from s) ∙ length-drop from s

  orderable : Orderable c (length (mid_of from (length s - from) s))
  orderable = record { agree = agree; room = omega (arith, lent) }

  placed : (n ≡ length (oriented o (segments c))) × RowsOrdered (oriented o (segments c)) (length c.net) e
  placed = rows-placed o c (mid_of from (length s - from) s) orderable e n orders

  pub rows-count : n ≡ length (oriented o (segments c))
  rows-count = placed.0

  pub rows_few : n ≤ length c.net
  rows_few = omega (arith, rows-count, oriented-few o c agree)

  module _ (kept : length e ≡ length (mid_of from (length s - from) s)) where
    front_length : length (take from s) ≡ from
    front_length = length-take-le from s (omega arith)

    pub rows_behind : RowsOrdered (oriented o (segments c)) (length c.net) (drop from (put_mid from (length s - from) s e))
    rows_behind = subst (RowsOrdered (oriented o (segments c)) (length c.net)) (sym (ap (drop from) (tail_back from s e (omega arith)) ∙ drop_at (take from s) e from front_length)) placed.1

    pub rows-kept : length (put_mid from (length s - from) s e) ≡ length s
    rows-kept =
        let g = ap length (tail_back from s e (omega arith)) ∙ length-append (take from s) e in
        omega (arith, front_length, lent)
