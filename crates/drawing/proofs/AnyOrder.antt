-- The conditions that the calls share do not depend on the order of the lists. Assumes nothing.
use mathlib.Core.Path.{◌≡◌, sym, ap, ◌∙◌}
use mathlib.Core.Bool.{false, not}
use Prim.Native.Nat.{ℕ}
use borrow.Author.Tests.{eq-eqb}
use lib.Dec.{eqb}
use lib.ListN.{length}
use Rattle.laws.specs.Lists.{some_of}
use Rattle.laws.specs.Perm.{Perm}
use Rattle.laws.proofs.Perms.{perm-length, perm-map, perm-some}
use Rattle.drawing.specs.Entries.{SegmentColumns, NodeColumns, ExemptionColumns, as_lent, as_taken, segments, nodes, exemptions}
use Rattle.drawing.specs.Conditions.{differ, unfit_segment, unfit_node}
use Rattle.drawing.specs.Checks.{segments_differ, nodes_differ, exemptions_differ, segment_conditions, list_conditions, entry_conditions}
use Rattle.drawing.specs.Inner.Lengths.{SegmentsAgree, NodesAgree, ExemptionsAgree}
use Rattle.drawing.proofs.EntryLaws.{length-segments, length-nodes, length-exemptions}

-- ---- columns of equal length do not differ
alike : (n m : ℕ) → m ≡ n → not (eqb n m) ≡ false
alike n m e = ap not (eq-eqb n m (sym e))

pub same-segments : (c : SegmentColumns) → SegmentsAgree c → segments_differ c ≡ false
unfolding segments_differ differ some_of
same-segments c a = rw (alike _ _ a.orientation, alike _ _ a.fixed, alike _ _ a.start, alike _ _ a.end)

same_nodes : (c : NodeColumns) → NodesAgree c → nodes_differ c ≡ false
unfolding nodes_differ differ some_of
same_nodes c a = rw (alike _ _ a.x, alike _ _ a.y, alike _ _ a.width, alike _ _ a.height)

same-exemptions : (c : ExemptionColumns) → ExemptionsAgree c → exemptions_differ c ≡ false
unfolding exemptions_differ differ some_of
same-exemptions c a = rw (alike _ _ a.node)

-- ---- two orders of one list of segments
pub record SameSegments (s t : SegmentColumns) : Type 0 where
  pub one : SegmentsAgree s
  pub other : SegmentsAgree t
  pub perm : Perm (segments s) (segments t)

pub record SameNodes (m n : NodeColumns) : Type 0 where
  pub one : NodesAgree m
  pub other : NodesAgree n
  pub perm : Perm (nodes m) (nodes n)

pub record SameExemptions (e f : ExemptionColumns) : Type 0 where
  pub one : ExemptionsAgree e
  pub other : ExemptionsAgree f
  pub perm : Perm (exemptions e) (exemptions f)

-- two orders of the list as lent are two orders of the list as taken
pub lent_taken : (s t : SegmentColumns) → Perm (as_lent s) (as_lent t) → Perm (segments s) (segments t)
unfolding segments
lent_taken s t p = perm-map as_taken p

module _ (s t : SegmentColumns) (o : SameSegments s t) where
  pub segment-count : length s.net ≡ length t.net
  segment-count = sym (length-segments s o.one) ∙ perm-length o.perm ∙ length-segments t o.other

  differ_same : segments_differ s ≡ segments_differ t
  differ_same = same-segments s o.one ∙ sym (same-segments t o.other)

  pub segments-order : (words : ℕ) → segment_conditions s words ≡ segment_conditions t words
  unfolding segment_conditions
  segments-order words = rw (differ_same, segment-count, perm-some unfit_segment o.perm)

  module _ (m n : NodeColumns) (p : SameNodes m n) where
    pub node-count : length m.id ≡ length n.id
    node-count = sym (length-nodes m p.one) ∙ perm-length p.perm ∙ length-nodes n p.other

    pub entries-order : entry_conditions s m ≡ entry_conditions t n
    unfolding entry_conditions
    entries-order = rw (perm-some unfit_segment o.perm, perm-some unfit_node p.perm)

    module _ (e f : ExemptionColumns) (q : SameExemptions e f) where
      pub exemption-count : length e.net ≡ length f.net
      exemption-count = sym (length-exemptions e q.one) ∙ perm-length q.perm ∙ length-exemptions f q.other

      pub lists-order : list_conditions s m e ≡ list_conditions t n f
      unfolding list_conditions
      lists-order = rw (differ_same, same_nodes m p.one, same_nodes n p.other, same-exemptions e q.one, same-exemptions f q.other, segment-count, node-count, exemption-count)
