-- What was asked of the joined list holds of it. Assumes nothing.
use mathlib.Core.Path.{◌≡◌, refl, sym, ap, ◌∙◌, subst}
use mathlib.Core.Logic.{inl, inr}
use mathlib.Core.Bool.{true}
use mathlib.Core.List.{List, [], ◌∷◌, ◌++◌, map}
use Prim.Native.Nat.{ℕ, ◌≤◌, zero-le}
use native.Mathlib.Omega.{arith}
use lib.Ieee.{lt}
use lib.ListN.{length, length-map}
use borrow.Author.Tests.{le-leb}
use Rattle.laws.specs.Lists.{Mem, All, Pairwise, count}
use Rattle.laws.specs.Rows.{row_le}
use Rattle.laws.specs.Perm.{Perm}
use Rattle.laws.specs.Sort.{sort_by}
use Rattle.laws.specs.Inner.Sort.{Sorted}
use Rattle.laws.proofs.Tests.{clash, le_or_lt}
use Rattle.laws.proofs.ListLaws.{all_map, all_mem}
use Rattle.laws.proofs.Perms.{perm_sym, perm-all, perm-map, perm_mem, perm-length}
use Rattle.laws.proofs.RowLaws.{row_less, row_more, row_antisym, by_rows}
use Rattle.laws.proofs.Sorting.{sort_perm, sort_sorted, sort_same}
use Rattle.floats.specs.TotalOrder.{key_of}
use Rattle.drawing.specs.declared.lists.Segment.{Segment}
use Rattle.drawing.specs.Entries.{as_taken}
use Rattle.drawing.specs.Held.{Binary64, FitSegment}
use Rattle.joining.specs.Points.{NumberLine, NetLine, net_line_of, Covers, SamePoints, SameOnLine, is_on}
use Rattle.joining.specs.Joined.{canonical_zeros, line_row, piece_row, is_in_order, extended, pieces, joined}
use Rattle.joining.specs.JoinedLists.{NoMinusZero, JoinedLists}
use Rattle.joining.proofs.LineRows.{lead, on_one, same_lead}
use Rattle.joining.proofs.Canonical.{Canonical, Strict, finite_fixed, canonical_strict, canonical_is, canonical_fit, canonical_taken, strict_rises, row-of-line, piece_one, key_below}
use Rattle.joining.proofs.Spans.{Some, mem_some, some_mem, Over, over_start, covers-some, some-covers, to_canonical, from_canonical}
use Rattle.joining.proofs.Merging.{starts, Apart, Normal, join_all, extended_canonical, extended_strict, join_length, join_normal, join_into, join_out}
use Rattle.joining.proofs.OneList.{apart-starts, apart_keys, one_normal}
use Rattle.joining.proofs.Halves.{halves}
use Rattle.joining.proofs.Fewest.{is-on, on_line, fewest_spans}

-- ---- the entries made canonical_zeros and put in order
starts-of : (a b : Segment) → is_in_order a b ≡ true → starts a b ≡ true
unfolding piece_row
starts-of a b h = elim (lead (line_row a) (line_row b) (key_of a.start ∷ key_of a.end ∷ []) (key_of b.start ∷ key_of b.end ∷ []) refl h) [
  | inr u ↦ (u (key_of a.start ∷ []) (key_of b.start ∷ [])).0
  | inl e ↦ on_one (line_row a) (line_row b) (key_of a.start) (key_of b.start) e.0 ∙ le-leb (key_of a.start) (key_of b.start) (up e.1)
]
  where
    up : row_le (key_of a.start ∷ key_of a.end ∷ []) (key_of b.start ∷ key_of b.end ∷ []) ≡ true → key_of a.start ≤ key_of b.start
    up r = elim (le_or_lt (key_of a.start) (key_of b.start)) [ inl k ↦ k | inr k ↦ clash (row_le (key_of a.start ∷ key_of a.end ∷ []) (key_of b.start ∷ key_of b.end ∷ [])) r (row_more (key_of a.start) (key_of b.start) (key_of a.end ∷ []) (key_of b.end ∷ []) k) ]

pub sorted-starts : (l : List Segment) → Sorted is_in_order l → Sorted starts l
sorted-starts [] s = tt
sorted-starts (x ∷ l) s = (λ y m. starts-of x y (s.0 y m), sorted-starts l s.1)

abbrev pub ready : List Segment → List Segment
ready l = sort_by is_in_order (map canonical_zeros l)

pub canonical_all : (l : List Segment) → All FitSegment l → All Canonical (map canonical_zeros l)
canonical_all [] f = tt
canonical_all (x ∷ l) f = (canonical_is x f.0, canonical_all l f.1)

pub ready_canonical : (l : List Segment) → All FitSegment l → All Canonical (ready l)
ready_canonical l f = perm-all Canonical (perm_sym (sort_perm is_in_order (map canonical_zeros l))) (canonical_all l f)

pub ready-starts : (l : List Segment) → Sorted starts (ready l)
ready-starts l = sorted-starts (ready l) (sort_sorted is_in_order (by_rows piece_row) (map canonical_zeros l))

some-perm : {A : Type 0} (P : A → Type 0) {l r : List A} → Perm l r → Some P l → Some P r
some-perm P {l} {r} p s = let w = some_mem P l s in mem_some P w.0 r (perm_mem w.0 p w.1) w.2

-- ---- the pieces
pieces-all : (P : Segment → Type 0) → ((c x : Segment) → P c → P x → P (extended c x)) → (l : List Segment) → All P l → All P (pieces l)
unfolding pieces
pieces-all P g [] p = tt
pieces-all P g (x ∷ l) p = join_all P g x l p

-- what holds of the entries made canonical_zeros, and of a extended piece where it holds of the two, holds of the pieces
pub joined-all : (P : Segment → Type 0) → ((c x : Segment) → P c → P x → P (extended c x)) → (l : List Segment) → All P (map canonical_zeros l) → All P (joined l)
unfolding joined
joined-all P g l h = pieces-all P g (ready l) (perm-all P (perm_sym (sort_perm is_in_order (map canonical_zeros l))) h)

pieces_normal : (l : List Segment) → Sorted starts l → Normal (pieces l)
unfolding pieces
pieces_normal [] s = tt
pieces_normal (x ∷ l) s = join_normal x l s

pub joined_canonical : (l : List Segment) → All FitSegment l → All Canonical (joined l)
joined_canonical l f = joined-all Canonical extended_canonical l (canonical_all l f)

pub joined_normal : (l : List Segment) → Normal (joined l)
unfolding joined
joined_normal l = pieces_normal (ready l) (ready-starts l)

module _ (L : NumberLine) (t : NetLine) (p : L.Point) where
  pieces_into : (l : List Segment) → All Canonical l → Sorted starts l → Some (Over L t p) l → Some (Over L t p) (pieces l)
  unfolding pieces
  pieces_into [] a s o = elim o [ ]
  pieces_into (x ∷ l) a s o = join_into L t p x l a s o

  pieces_out : (l : List Segment) → All Canonical l → Some (Over L t p) (pieces l) → Some (Over L t p) l
  unfolding pieces
  pieces_out [] a o = elim o [ ]
  pieces_out (x ∷ l) a o = join_out L t p x l a o

  pub covers-joined : (l : List Segment) → All FitSegment l → Covers L l t p → Some (Over L t p) (joined l)
  unfolding joined
  covers-joined l f c = pieces_into (ready l) (ready_canonical l f) (ready-starts l) (some-perm (Over L t p) (perm_sym (sort_perm is_in_order (map canonical_zeros l))) (to_canonical L t p l f (covers-some L t p l c)))

  pub joined-covers : (l : List Segment) → All FitSegment l → Some (Over L t p) (joined l) → Covers L l t p
  unfolding joined
  joined-covers l f o = some-covers L t p l (from_canonical L t p l f (some-perm (Over L t p) (sort_perm is_in_order (map canonical_zeros l)) (pieces_out (ready l) (ready_canonical l f) o)))

-- ---- start stays below end
strict_all : (l : List Segment) → All FitSegment l → All Strict (map canonical_zeros l)
strict_all [] f = tt
strict_all (x ∷ l) f = (canonical_strict x f.0, strict_all l f.1)

pub joined_strict : (l : List Segment) → All FitSegment l → All Strict (joined l)
joined_strict l f = joined-all Strict extended_strict l (strict_all l f)

-- what holds of each canonical_zeros segment with start below end holds of the pieces
pub pieces_have : (P : Segment → Type 0) → ((s : Segment) → Canonical s → Strict s → P s) → (l : List Segment) → All FitSegment l → All P (joined l)
pieces_have P h l f = both (joined l) (joined_canonical l f) (joined_strict l f)
  where
    both : (l : List Segment) → All Canonical l → All Strict l → All P l
    both [] p q = tt
    both (s ∷ l) p q = (h s p.0 q.0, both l p.1 q.1)

pub joined-fit : (l : List Segment) → All FitSegment l → All FitSegment (joined l)
joined-fit = pieces_have FitSegment canonical_fit

-- ---- no more pieces than entries
pieces-length : (l : List Segment) → length (pieces l) ≤ length l
unfolding pieces
pieces-length [] = zero-le
pieces-length (x ∷ l) = join_length x l

-- ==== "cover the same points of the real line"
pub same_points : (L : NumberLine) (l : List Segment) → All FitSegment l → SamePoints L l (joined l)
same_points L l f t p = (λ c. some-covers L t p (joined l) (covers-joined L t p l f c), λ c. joined-covers L t p l f (covers-some L t p (joined l) c))

-- ==== "two lists covering the same points per net and line join to equal lists"
pub one_list : (L : NumberLine) (l m : List Segment) → All FitSegment l → All FitSegment m → SamePoints L l m → joined l ≡ joined m
one_list L l m f g s =
    one_normal L (joined l) (joined m) (joined_canonical l f) (joined_canonical m g) (joined_normal l) (joined_normal m)
    (λ t p o. covers-joined L t p m g ((s t p).0 (joined-covers L t p l f o)))
    (λ t p o. covers-joined L t p l f ((s t p).1 (joined-covers L t p m g o)))

-- ==== "the fewest pieces of each net, orientation and fixed coordinate": no pieces of a line with the same points are fewer, wherever they end
pub fewest : (L : NumberLine) (l : List Segment) → All FitSegment l → (t : NetLine) → Binary64 t.fixed → (m : List (L.Point × L.Point)) → SameOnLine L l t m → count (is_on t) (joined l) ≤ length m
fewest L l f t b m s = fewest_spans L t b (joined l) m (joined_canonical l f) (joined_normal l) kept met
  where
    kept : (q : Segment) → Mem q (joined l) → net_line_of q ≡ t → (p : L.Point) → L.up_to (L.at q.start) p → Some (λ y. L.up_to y.0 p × L.up_to p y.1) m → Some (Over L t p) (joined l)
    kept q i e p u o =
        let r = some_mem (λ (y : L.Point × L.Point). L.up_to y.0 p × L.up_to p y.1) m o in
        covers-joined L t p l f ((s p).1 (record { by = r.0; there = r.1; from = r.2.0; to = r.2.1 }))

    met : (q : Segment) → Mem q (joined l) → net_line_of q ≡ t → Some (λ y. L.up_to y.0 (L.at q.start) × L.up_to (L.at q.start) y.1) m
    met q i e =
        let x = L.at q.start in
        let k = all_mem Canonical (joined l) (joined_canonical l f) q i in
        let c = (s x).0 (joined-covers L t x l f (mem_some (Over L t x) q (joined l) i (subst (λ (z : NetLine). Over L z x q) e (over_start L q k)))) in
        mem_some (λ (y : L.Point × L.Point). L.up_to y.0 x × L.up_to x y.1) c.by m c.there (c.from, c.to)

-- ==== "Joining a joined list gives it back"
pub again : (l : List Segment) → All FitSegment l → joined (joined l) ≡ joined l
again l f = sym (one_list halves l (joined l) f (joined-fit l f) (same_points halves l f))

-- ==== "pieces that touch at an end becoming one"
parted : (l : List Segment) → All Canonical l → Normal l → Pairwise (λ a b. net_line_of a ≡ net_line_of b → lt a.end b.start ≡ true) l
parted [] p n = tt
parted (a ∷ l) p n = (λ b m e. let q = all_mem Canonical l p.1 b m in key_below a.end b.start p.0.end q.start (apart_keys a b (sym (row-of-line a b p.0 q e)) (n.0 b m)), parted l p.1 n.1)

pub apart : (l : List Segment) → All FitSegment l → Pairwise (λ a b. net_line_of a ≡ net_line_of b → lt a.end b.start ≡ true) (joined l)
apart l f = parted (joined l) (joined_canonical l f) (joined_normal l)

-- ==== "ordered by net, horizontal first, then fixed, start and end by totalOrder"
apart-order : (a b : Segment) → Canonical a → Apart a b → is_in_order a b ≡ true
unfolding piece_row
apart-order a b p n = elim (lead (line_row a) (line_row b) (key_of a.start ∷ []) (key_of b.start ∷ []) refl (apart-starts a b p n)) [
  | inr u ↦ (u (key_of a.start ∷ key_of a.end ∷ []) (key_of b.start ∷ key_of b.end ∷ [])).0
  | inl e ↦
      let k = apart_keys a b (sym e.0) n in
      let r = p.rises in
      ap (λ (r : List ℕ). row_le (r ++ (key_of a.start ∷ key_of a.end ∷ [])) (line_row b ++ (key_of b.start ∷ key_of b.end ∷ []))) e.0
      ∙ (same_lead (line_row b) (key_of a.start ∷ key_of a.end ∷ []) (key_of b.start ∷ key_of b.end ∷ []) ∙ row_less (key_of a.start) (key_of b.start) (key_of a.end ∷ []) (key_of b.end ∷ []) (omega arith))
]

normal_sorted : (l : List Segment) → All Canonical l → Normal l → Pairwise (λ a b. is_in_order a b ≡ true) l
normal_sorted [] p n = tt
normal_sorted (a ∷ l) p n = (λ b m. apart-order a b p.0 (n.0 b m), normal_sorted l p.1 n.1)

pub in_order : (l : List Segment) → All FitSegment l → Pairwise (λ a b. is_in_order a b ≡ true) (joined l)
in_order l f = normal_sorted (joined l) (joined_canonical l f) (joined_normal l)

-- ==== "with zeros made +0"
pub zeros : (l : List Segment) → All FitSegment l → All NoMinusZero (joined l)
zeros l f = all_map (λ s p. record { fixed = p.fixed.zero; start = p.start.zero; end = p.end.zero }) (joined l) (joined_canonical l f)

-- ==== "each written with start below end"
pub rises : (l : List Segment) → All FitSegment l → All (λ s. lt s.start s.end ≡ true) (joined l)
rises = pieces_have (λ s. lt s.start s.end ≡ true) strict_rises

-- ==== the joined list is taken as it is
pub joined_taken : (l : List Segment) → All FitSegment l → All (λ s. as_taken s ≡ s) (joined l)
joined_taken = pieces_have (λ s. as_taken s ≡ s) canonical_taken

-- ==== the order of the list decides nothing: no two canonical_zeros segments tie
pub piece_of-row : (a b : Segment) → Canonical a → Canonical b → piece_row a ≡ piece_row b → a ≡ b
unfolding piece_row
piece_of-row a b p q e = piece_one a b p q (cc e) (cc e) (cc e)

pub any_order : (l m : List Segment) → All FitSegment l → Perm l m → joined l ≡ joined m
unfolding joined
any_order l m f p = ap pieces (sort_same is_in_order (by_rows piece_row) Canonical (λ a b x y g k. piece_of-row a b x y (row_antisym (piece_row a) (piece_row b) g k)) (perm-map canonical_zeros p) (canonical_all l f))

-- ==== "how many pieces went away": there are no more pieces than entries
pub no_more : (l : List Segment) → length (joined l) ≤ length l
unfolding joined
no_more l =
    let a = pieces-length (ready l) in
    let b = perm-length (sort_perm is_in_order (map canonical_zeros l)) in
    let c = length-map l canonical_zeros in
    omega arith

-- ==== all of it
pub joined-lists : JoinedLists
joined-lists = record {
  same_points = same_points;
  fewest = fewest;
  counted = is-on;
  only-counted = λ t s b f h. on_line t s b (finite_fixed s f) h;
  apart = apart;
  rises = rises;
  in_order = in_order;
  zeros = zeros;
  again = again;
  joined-fit = joined-fit;
  joined_taken = joined_taken;
  one_list = one_list;
  any_order = any_order;
  no_more = no_more;
  some-line = halves;
}
