-- The loop that copies the records of a list into columns: the first i records are in them. Assumes nothing.
use Rattle.std.proofs.Common.{◌≡◌, ℕ, ◌+◌, ◌≤◌, ◌<◌, List, map, length, get_or, set, take, min, refl, sym, ap, ◌∙◌, arith, Float}
use Rattle.std.proofs.lemmas.List.{take_more, take_more_set, map-append, length-set, length-take, take-map, take_min, take_all}
use Rattle.std.proofs.lemmas.Simd.{map-map}
use Rattle.std.proofs.Math.Nat.{min_comm}
use Rattle.drawing.specs.Entries.{Segment, segment_columns, columns_of}

-- the first i entries of a column are a field of the first i records
pub record Copied {R A : Type 0} (field : R → A) (records : List R) (column : List A) (i : ℕ) : Type 0 where
  pub room : length column ≡ 4097
  pub is : take i column ≡ map field (take i records)

module _ {R A : Type 0} (field : R → A) (records : List R) where
  pub copied_next : (column : List A) (i : ℕ) (x : R) (v : A) → Copied field records column i → i < length records → i < 4097 → x ≡ get_or records i x → v ≡ field x → Copied field records (set column i v) (i + 1)
  copied_next column i x v p h k e f =
      let room : i < length column = omega (arith, p.room) in
      record {
        room = length-set column i v ∙ p.room;
        is = rw (take_more_set column i v room, take_more records i x h, map-append, ← e, p.is, f) refl;
      }

  -- a column, once the first n records are in it
  copied_all : (column : List A) (i n : ℕ) → n ≡ min (length records) 4097 → Copied field (take n records) column i → i ≤ length (take n records) → length (take n records) ≤ i → take n column ≡ map field (take 4097 records)
  copied_all column i n e p small large =
      let front : take n records ≡ take 4097 records = ap (λ k. take k records) (e ∙ min_comm (length records) 4097) ∙ take_min 4097 records in
      let same : i ≡ n = omega (arith, length-take n records, e) in
      ap (λ k. take k column) (sym same) ∙ p.is ∙ ap (map field) (take_all i (take n records) large ∙ front)

-- the columns of the segments that records stand for, field by field
columns_of-records : {R : Type 0} (segment : R → Segment) (n : ℕ) (records : List R) → columns_of (take n (map segment records)) ≡ segment_columns (map (λ (r : R). (segment r).net) (take n records)) (map (λ (r : R). (segment r).orientation) (take n records)) (map (λ (r : R). (segment r).fixed) (take n records)) (map (λ (r : R). (segment r).start) (take n records)) (map (λ (r : R). (segment r).end) (take n records))
unfolding columns_of
columns_of-records segment n records = simp (take-map, map-map)

-- the five columns, once the first n records are in them
pub columns_copied : {R : Type 0} (segment : R → Segment) (records : List R) (net orientation : List ℕ) (fixed start end : List Float) (i n : ℕ) → n ≡ min (length records) 4097 → i ≤ length (take n records) → length (take n records) ≤ i
    → Copied (λ r. (segment r).net) (take n records) net i → Copied (λ r. (segment r).orientation) (take n records) orientation i → Copied (λ r. (segment r).fixed) (take n records) fixed i → Copied (λ r. (segment r).start) (take n records) start i → Copied (λ r. (segment r).end) (take n records) end i
    → segment_columns (take n net) (take n orientation) (take n fixed) (take n start) (take n end) ≡ columns_of (take 4097 (map segment records))
columns_copied segment records net orientation fixed start end i n e small large p q r s t =
    rw (columns_of-records segment 4097 records, copied_all (λ r. (segment r).net) records net i n e p small large, copied_all (λ r. (segment r).orientation) records orientation i n e q small large, copied_all (λ r. (segment r).fixed) records fixed i n e r small large, copied_all (λ r. (segment r).start) records start i n e s small large, copied_all (λ r. (segment r).end) records end i n e t small large) refl
