-- One orientation of the columns, from its rows to the sweep. Assumes nothing.
use Rattle.drawing.specs.declared.refusal.Refusal.{Refusal}
use Rattle.std.specs.Prelude.{None, Result, Ok}
use mathlib.Core.Path.{◌≡◌, sym, ap, ◌∙◌}
use mathlib.Core.List.{List}
use Prim.Native.Nat.{ℕ, ◌-◌, ◌*◌, ◌^◌, ◌≤◌, ◌<◌}
use native.Mathlib.Omega.{arith}
use borrow.Rule.Slice.PartMut.{mid_of, put_mid}
use lib.ListN.{length, drop}
use Rattle.laws.specs.Lists.{Mem}
use Rattle.laws.specs.Inner.Sort.{Sorted}
use Rattle.laws.specs.Inner.Allowance.{within}
use Rattle.drawing.specs.Entries.{SegmentColumns, segments}
use Rattle.rows.specs.Rows.{Row, rows_in_order, oriented}
use Rattle.rows.specs.Inner.Placed.{row_count, rows_placed}
use Rattle.rows.specs.Inner.Tables.{RowsOrdered}
use Rattle.rows.proofs.Oriented.{oriented-sorted}
use Rattle.rows.proofs.LentRows.{rows-count, rows_few, rows_behind, rows-kept}
use Rattle.separation.specs.Lines.{lines}
use Rattle.separation.specs.Walk.{sweep, along}
use Rattle.separation.proofs.Allowances.{along-few, along_more}
use Rattle.separation_call.specs.Inner.Prepared.{Prepared}
use Rattle.separation.specs.declared.found.Found.{Found}
use Rattle.separation.specs.Inner.States.{swept_of}
use Rattle.separation_call.specs.Inner.Sweeping.{Gapped, AtTables, AtRows, AtColumns}

-- e is what the words after the first 16 for each segment became when the rows were ordered there
module _ (s e : List ℕ) (o n : ℕ) (c : SegmentColumns) (a : AtColumns (length s) o c)
    (ordered : (n ≡ row_count o c (length (mid_of (16 * length c.net) (length s - 16 * length c.net) s))) × (e ≡ rows_placed o c (mid_of (16 * length c.net) (length s - 16 * length c.net) s))) where
  abbrev l : List Row
  l = oriented o (segments c)

  abbrev from : ℕ
  from = 16 * length c.net

  narrow : 21 * length c.net ≤ length s
  narrow = let r = a.room in omega arith

  count : n ≡ length l
  count = rows-count s e o n c a.agree narrow ordered

  -- fewer than two segments cost nothing
  pub few_swept : (allowance : ℕ) → n < 2 → Ok (record { minimum = None; minimum_positive = None; remaining = allowance }) ≡ swept_of (within allowance (along l))
  unfolding swept_of
  few_swept allowance h = sym (ap swept_of (along-few allowance l (omega (arith, count))))

  module _ (kept : length e ≡ length (mid_of from (length s - from) s)) where
    abbrev t : List ℕ
    t = put_mid from (length s - from) s e

    rows : RowsOrdered l (length c.net) (drop from t)
    rows = rows_behind s e o n c a.agree narrow ordered kept

    pub long : length t ≡ length s
    long = rows-kept s e o n c a.agree narrow ordered kept

    pub at_rows : AtRows t n from (length c.net)
    at_rows =
        let f = rows_few s e o n c a.agree narrow ordered in
        let r = a.room in
        let p = a.few in
        let k = count in
        record {
          l = l;
          size = sym count;
          few = omega arith;
          sorted = oriented-sorted o (segments c);
          nets = λ x m. (a.proper x m).0;
          ordered = rows;
          front = omega arith;
          apart = omega arith;
          room = omega (arith, long);
        }

    -- the tables that are made of them
    module _ (u : List ℕ) (same : length u ≡ length t) (many : ℕ) (made : (l : List Row) → length l ≡ n → Sorted rows_in_order l → ((x : Row) → Mem x l → x.net < 2 ^ 32) → RowsOrdered l (length c.net) (drop from t) → Prepared l u × (many ≡ length (lines l))) where
      tables : Prepared l u × (many ≡ length (lines l))
      tables = made l (sym count) (oriented-sorted o (segments c)) (λ x m. (a.proper x m).0) rows

      pub at_tables : 2 ≤ n → AtTables u n many
      at_tables h =
          let f = rows_few s e o n c a.agree narrow ordered in
          let r = a.room in
          let p = a.few in
          let k = count in
          record { l = l; size = sym count; some = omega arith; few = omega arith; count = tables.1; prepared = tables.0; sorted = oriented-sorted o (segments c); proper = a.proper; gaps = a.gaps; room = omega (arith, long) }

      pub more_swept : (allowance : ℕ) (r : Result Found Refusal) → 2 ≤ n
          → ((l : List Row) → length l ≡ n → many ≡ length (lines l) → Prepared l u → Sorted rows_in_order l → ((x : Row) → Mem x l → (x.net < 2 ^ 32) × (x.start < x.end)) → Gapped (lines l) → r ≡ swept_of (within allowance (sweep l)))
          → r ≡ swept_of (within allowance (along l))
      more_swept allowance r h f = f l (sym count) tables.1 tables.0 (oriented-sorted o (segments c)) a.proper a.gaps ∙ ap (λ z. swept_of (within allowance z)) (sym (along_more l (omega (arith, count))))
