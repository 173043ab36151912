-- The total length, segment by segment. Assumes nothing.
use mathlib.Core.Path.{◌≡◌, refl, sym, ap, ◌∙◌}
use mathlib.Core.List.{List, ◌∷◌, map}
use Prim.Native.Nat.{ℕ, ◌+◌, ◌≤◌, ◌<◌}
use native.Mathlib.Numerals.{add-one}
use native.Mathlib.Omega.{arith}
use lib.Ieee.{Float, binary64, add, sub}
use lib.ListN.{length, get_or, drop, drop_of_length-le}
use lib.Seq.{drop-cons}
use Rattle.floats.specs.Values.{plus_zero, canonical_zero}
use Rattle.drawing.specs.Entries.{Segment, SegmentColumns, segments}
use Rattle.drawing.specs.Inner.Entries.{segment_at}
use Rattle.drawing.specs.Inner.Lengths.{SegmentsAgree}
use Rattle.drawing.proofs.EntryLaws.{length-segments, segments-at}
use Rattle.congestion.specs.Rounded.{running_sum, span, rounded_total}

-- the total so far, with the lengths of the remaining segments added
abbrev lengths_from : Float → List Segment → Float
lengths_from total l = running_sum total (map (λ (s : Segment). span s.start s.end) l)

pub record Summed (c : SegmentColumns) (total : Float) (i : ℕ) : Type 0 where
  pub agree : SegmentsAgree c
  pub rest : rounded_total (segments c) ≡ lengths_from total (drop i (segments c))

module _ (c : SegmentColumns) where
  pub summed_none : SegmentsAgree c → Summed c plus_zero 0
  unfolding rounded_total
  summed_none a = record { agree = a; rest = refl }

  pub summed_next : (total : Float) (i : ℕ) (from to : Float) → Summed c total i → i < length c.net → from ≡ canonical_zero (segment_at c i).start → to ≡ canonical_zero (segment_at c i).end → Summed c (add binary64 total (sub binary64 to from)) (i + 1)
  unfolding running_sum
  summed_next total i from to s h f t =
      let l = segments c in
      let z = segment_at c i in
      let e : lengths_from total (drop i l) ≡ lengths_from total (get_or l i z ∷ drop (i + 1) l) = rw (add-one i) (ap (lengths_from total) (drop-cons l i z (omega (arith, length-segments c s.agree)))) in
      record {
        agree = s.agree;
        rest = s.rest ∙ e ∙ (λ k. lengths_from total (segments-at c s.agree z i h k ∷ drop (i + 1) l)) ∙ (λ k. lengths_from (add binary64 total (sub binary64 (sym t k) (sym f k))) (drop (i + 1) l));
      }

  pub summed_all : (total : Float) (i : ℕ) → Summed c total i → length c.net ≤ i → total ≡ rounded_total (segments c)
  unfolding running_sum
  summed_all total i s h = sym (s.rest ∙ ap (lengths_from total) (drop_of_length-le (segments c) {i = i} (omega (arith, length-segments c s.agree))))
