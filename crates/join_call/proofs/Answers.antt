-- What the call returns and what the lent columns hold then, from what its checks returned. Assumes nothing.
use Rattle.std.specs.Prelude.{Result, Ok, Err}
use mathlib.Core.Path.{◌≡◌, refl, sym, ap, ◌∙◌}
use mathlib.Core.Logic.{inl, inr}
use mathlib.Core.Bool.{Bool, true, false, not}
use mathlib.Core.List.{List, [], ◌∷◌, ◌++◌, map}
use Prim.Native.Nat.{ℕ, ◌+◌, ◌-◌, ◌*◌, ◌/◌, ◌%◌, ◌^◌, ◌≤◌, ◌<◌}
use native.Mathlib.Omega.{arith}
use lib.Dec.{ltb}
use lib.Ieee.{Float}
use lib.ListN.{length, drop, length-map, get_or}
use borrow.Author.Tests.{ltb-false, le-ltb}
use Rattle.laws.specs.Lists.{Mem, All, put}
use Rattle.laws.specs.Sort.{sort_by}
use Rattle.laws.proofs.ListLaws.{all_mem, none-all, all_none}
use Rattle.laws.proofs.Tests.{decide, cond_true, cond_false}
use Rattle.floats.specs.TotalOrder.{float_at}
use Rattle.floats.proofs.NumberKeys.{float_back}
use Rattle.drawing.specs.declared.refusal.Refusal.{Refusal}
use Rattle.drawing.specs.declared.refusal.Refusal.TheVariants.{ShortOutput}
use Rattle.drawing.specs.Refusals.{first_of, checked}
use Rattle.drawing.specs.declared.lists.Segment.{Segment}
use Rattle.drawing.specs.Entries.{SegmentColumns, segment_columns, segments}
use Rattle.drawing.specs.Conditions.{short_output}
use Rattle.drawing.specs.Checks.{segment_list_conditions}
use Rattle.drawing.specs.Held.{SegmentsHeld}
use Rattle.drawing.specs.Inner.Lengths.{SegmentsAgree}
use Rattle.drawing.specs.Outputs.{written_over}
use Rattle.drawing.proofs.EntryLaws.{length-segments}
use Rattle.drawing.proofs.ListOrders.{segments-all}
use Rattle.drawing.proofs.Fit.{fit-segments}
use Rattle.drawing.proofs.FirstRefusal.{first_yes, first_no, first-none, first_stop, first_go_on, segment_list_passes, not_passed}
use Rattle.joining.specs.declared.answer.Joined.{Joined}
use Rattle.joining.specs.Joined.{canonical_zeros, extended, is_in_order, joined}
use Rattle.joining.specs.Conditions.{output_lengths, join_conditions}
use Rattle.joining.specs.Answer.{joined_of, join_answer, written, output_after}
use Rattle.joining.proofs.Canonical.{Canonical}
use Rattle.joining.proofs.JoinedLists.{joined_canonical, joined-all, no_more}
use Rattle.joining.specs.declared.piece.Piece.{Piece}
use Rattle.joining.specs.Inner.Pieces.{piece_of, touches_piece, next_piece, join_pieces_from, joined_pieces}
use Rattle.join_call.specs.Inner.Table.{Lists}
use Rattle.join_call.specs.declared.output.Output.{Output}
use Rattle.join_call.specs.Inner.Output.{held, net_of, orientation_of, written_pieces, Room}
use Rattle.join_call.specs.Inner.Rest.{rest_answer, rest_output}
use Rattle.joining.proofs.PieceLaws.{words_join}

-- ---- the columns of pieces are the columns of the segments that they stand for
abbrev pub Small : Segment → Type 0
Small s = s.net < 4294967296

back : {A : Type 0} (f : Piece → A) (g : Segment → A) (l : List Segment) (old : List A) → ((s : Segment) → Mem s l → f (piece_of s) ≡ g s) → written_over f (map piece_of l) old ≡ written_over g l old
back {A} f g l old h = (λ i. each l h i ++ drop (length-map l piece_of i) old)
  where
    each : (l : List Segment) → ((s : Segment) → Mem s l → f (piece_of s) ≡ g s) → map f (map piece_of l) ≡ map g l
    each [] h = refl
    each (s ∷ l) h = (λ i. h s (inl refl) i ∷ each l (λ t m. h t (inr m)) i)

net_back : (s : Segment) → Small s → net_of (piece_of s) ≡ s.net
unfolding net_of piece_of
net_back s h = go s.net (1 - s.orientation) (omega arith) h
  where
    go : (n v : ℕ) → v ≤ 1 → n < 4294967296 → (2 * n + v) / 2 % 4294967296 ≡ n
    go n v a b = omega arith

orientation_back : (s : Segment) → s.orientation ≤ 1 → orientation_of (piece_of s) ≡ s.orientation
unfolding orientation_of piece_of
orientation_back s h = go s.net s.orientation h
  where
    go : (n o : ℕ) → o ≤ 1 → 1 - (2 * n + (1 - o)) % 2 ≡ o
    go n o a = omega arith

pub written_back : (l : List Segment) (old : SegmentColumns) → All Canonical l → All Small l → written_pieces (map piece_of l) old ≡ written l old
unfolding written_pieces written piece_of
written_back l old p q =
    let at : (s : Segment) → Mem s l → Canonical s = λ s m. all_mem Canonical l p s m in
    let a = back net_of (λ (s : Segment). s.net) l old.net (λ s m. net_back s (all_mem Small l q s m)) in
    let b = back orientation_of (λ (s : Segment). s.orientation) l old.orientation (λ s m. orientation_back s (at s m).orientation) in
    let c = back (λ (x : Piece). float_at x.fixed) (λ (s : Segment). s.fixed) l old.fixed (λ s m. float_back s.fixed (at s m).fixed.fin.0) in
    let d = back (λ (x : Piece). float_at x.start) (λ (s : Segment). s.start) l old.start (λ s m. float_back s.start (at s m).start.fin.0) in
    let e = back (λ (x : Piece). float_at x.end) (λ (s : Segment). s.end) l old.end (λ s m. float_back s.end (at s m).end.fin.0) in
    (λ i. record { net = a i; orientation = b i; fixed = c i; start = d i; end = e i })

canonical_small : (l : List Segment) → All Small l → All Small (map canonical_zeros l)
unfolding canonical_zeros
canonical_small [] h = tt
canonical_small (s ∷ l) h = (h.0, canonical_small l h.1)

extended-small : (c x : Segment) → Small c → Small x → Small (extended c x)
unfolding extended
extended-small c x a b = a

pub joined_small : (l : List Segment) → All Small l → All Small (joined l)
joined_small l h = joined-all Small extended-small l (canonical_small l h)

-- ---- the pieces that the table joins to
abbrev pub IsTable : SegmentColumns → List Piece → Type 0
IsTable c l = l ≡ map piece_of (sort_by is_in_order (map canonical_zeros (segments c)))

pub joined_words : (c : SegmentColumns) (l : List Piece) → IsTable c l → joined_pieces l ≡ map piece_of (joined (segments c))
unfolding joined
joined_words c l e = ap joined_pieces e ∙ words_join (sort_by is_in_order (map canonical_zeros (segments c)))

pub joined-count : (c : SegmentColumns) (l : List Piece) → IsTable c l → length (joined_pieces l) ≡ length (joined (segments c))
joined-count c l e = ap length (joined_words c l e) ∙ length-map (joined (segments c)) piece_of

pub fewer : (c : SegmentColumns) (l : List Piece) (count : ℕ) → SegmentsAgree c → IsTable c l → count ≡ length (joined_pieces l) → count ≤ length c.net
fewer c l count g t e = omega (arith, joined-count c l t, no_more (segments c), length-segments c g)

-- ---- no more pieces than segments
run_few : (c : Piece) (l : List Piece) → length (join_pieces_from c l) ≤ length l + 1
unfolding join_pieces_from
run_few c [] = omega arith
run_few c (x ∷ l) = few (not (touches_piece c x)) (join_pieces_from (next_piece c x) l) (run_few (next_piece c x) l)
  where
    few : (b : Bool) (r : List Piece) → length r ≤ length l + 1 → length (put b c r) ≤ length (x ∷ l) + 1
    few true r h = omega arith
    few false r h = omega arith

pub pieces-few : (l : List Piece) → length (joined_pieces l) ≤ length l
unfolding joined_pieces
pieces-few [] = omega arith
pieces-few (x ∷ l) = let h = run_few x l in omega arith

-- ---- what is short for the pieces is short for the segments
pub room-enough : (p : List Piece) (l : List ℕ) → short_output (length p) l ≡ false → short_output (length (joined_pieces p)) l ≡ false
unfolding short_output
room-enough p l e = all_none (λ (m : ℕ). ltb m (length (joined_pieces p))) l (each l (none-all (λ (m : ℕ). ltb m (length p)) l e))
  where
    each : (l : List ℕ) → All (λ k. ltb k (length p) ≡ false) l → All (λ k. ltb k (length (joined_pieces p)) ≡ false) l
    each [] h = tt
    each (k ∷ l) h = (le-ltb k (length (joined_pieces p)) (omega (arith, pieces-few p, ltb-false k (length p) h.0)), each l h.1)

-- ---- room where the shortest column is long enough
pub has_room : (n : ℕ) (c : SegmentColumns) → short_output n (output_lengths c) ≡ false → Room n c
unfolding short_output
has_room n c e =
    let a = none-all (λ (k : ℕ). ltb k n) (output_lengths c) e in
    record { net = ltb-false _ n a.0; orientation = ltb-false _ n a.1.0; fixed = ltb-false _ n a.1.1.0; start = ltb-false _ n a.1.1.1.0; end = ltb-false _ n a.1.1.1.1.0 }

-- ---- what is returned and written once the checks of the segments have passed
module _ (c out : SegmentColumns) where
  abbrev Ended : Result Joined Refusal → SegmentColumns → Type 0
  Ended r new = (r ≡ rest_answer c out) × (new ≡ rest_output c out)

  pub no_room : short_output (length (joined (segments c))) (output_lengths out) ≡ true → Ended (Err ShortOutput) out
  unfolding rest_answer rest_output
  no_room s = (sym (cond_true _ (Err ShortOutput) (joined_of (segments c)) s), sym (cond_true _ out (written (joined (segments c)) out) s))

  all-written : short_output (length (joined (segments c))) (output_lengths out) ≡ false → Ended (joined_of (segments c)) (written (joined (segments c)) out)
  unfolding rest_answer rest_output
  all-written s = (sym (cond_false _ (Err ShortOutput) (joined_of (segments c)) s), sym (cond_false _ out (written (joined (segments c)) out) s))

  pub finished : (new : SegmentColumns) (l : List Piece) (count m : ℕ) → Lists c m → IsTable c l → count ≡ length (joined_pieces l) → short_output (length (joined_pieces l)) (output_lengths out) ≡ false → new ≡ written_pieces (joined_pieces l) out → Ended (Ok (record { pieces = count; gone = length c.net - count })) new
  finished new l count m p t n s w =
      let j = n ∙ joined-count c l t in
      let r = all-written (ap (λ (z : ℕ). short_output z (output_lengths out)) (sym (joined-count c l t)) ∙ s) in
      let small = segments-all Small c p.agree p.nets in
      let back = ap (λ (z : List Piece). written_pieces z out) (joined_words c l t) ∙ written_back (joined (segments c)) out (joined_canonical (segments c) p.fit) (joined_small (segments c) small) in
      ((λ i. Ok (record { pieces = j i; gone = sym (length-segments c p.agree) i - j i })) ∙ r.0, w ∙ back ∙ r.1)

-- ---- the whole call: what its checks returned decides
module _ (c out : SegmentColumns) where
  by_check : (k : Result Unit Refusal) → first_of (join_conditions c out) ≡ k → (join_answer c out ≡ checked Err k (joined_of (segments c))) × (output_after c out ≡ checked (λ r. out) k (written (joined (segments c)) out))
  unfolding join_answer output_after
  by_check k e = (ap (λ (z : Result Unit Refusal). checked Err z (joined_of (segments c))) e, ap (λ (z : Result Unit Refusal). checked (λ r. out) z (written (joined (segments c)) out)) e)

  abbrev Called : Result Joined Refusal → SegmentColumns → Type 0
  Called r new = (r ≡ join_answer c out) × (new ≡ output_after c out) × (first_of (segment_list_conditions c) ≡ Ok tt → SegmentsHeld c)

  pub refused : (k : Result Unit Refusal) (r : Refusal) → k ≡ first_of (segment_list_conditions c) → k ≡ Err r → Called (Err r) out
  unfolding join_conditions
  refused k r e f = let b = by_check (Err r) (sym (first_stop (segment_list_conditions c) _ k r e f) ∙ f) in (sym b.0, sym b.1, not_passed (first_of (segment_list_conditions c)) k r e f)

  rest-is : first_of (segment_list_conditions c) ≡ Ok tt → (rest_answer c out ≡ join_answer c out) × (rest_output c out ≡ output_after c out)
  unfolding join_conditions rest_answer rest_output
  rest-is p = elim (decide (short_output (length (joined (segments c))) (output_lengths out))) [
    | inl t ↦ let b = by_check (Err ShortOutput) (first_go_on (segment_list_conditions c) _ (Ok tt) (sym p) refl ∙ first_yes _ _ _ t) in (cond_true _ (Err ShortOutput) (joined_of (segments c)) t ∙ sym b.0, cond_true _ out (written (joined (segments c)) out) t ∙ sym b.1)
    | inr f ↦ let b = by_check (Ok tt) (first_go_on (segment_list_conditions c) _ (Ok tt) (sym p) refl ∙ first_no _ _ _ f ∙ first-none) in (cond_false _ (Err ShortOutput) (joined_of (segments c)) f ∙ sym b.0, cond_false _ out (written (joined (segments c)) out) f ∙ sym b.1)
  ]

  pub passed : (r : Result Joined Refusal) (new : SegmentColumns) → first_of (segment_list_conditions c) ≡ Ok tt → SegmentsHeld c → (r ≡ rest_answer c out) × (new ≡ rest_output c out) → Called r new
  passed r new p h e = let q = rest-is p in (e.0 ∙ q.0, e.1 ∙ q.1, λ z. h)

-- ---- what the checks leave known
pub held_of : (c : SegmentColumns) → first_of (segment_list_conditions c) ≡ Ok tt → (SegmentsAgree c → SegmentsHeld c) → SegmentsHeld c
held_of c e h = h (segment_list_passes c e).agree

pub lists_of : (c : SegmentColumns) (m : ℕ) → first_of (segment_list_conditions c) ≡ Ok tt → (SegmentsAgree c → SegmentsHeld c) → ((i : ℕ) → get_or c.net i 0 < 2 ^ 32) → 5 * length c.net ≤ m → Lists c m
lists_of c m e h t r = let p = segment_list_passes c e in record { agree = p.agree; few = p.few-segments; fit = fit-segments (segments c) (held_of c e h) p.fit; nets = t; room = r }

pub passes-few : (c : SegmentColumns) → first_of (segment_list_conditions c) ≡ Ok tt → length c.net ≤ 4096
passes-few c e = (segment_list_passes c e).few-segments

-- ---- what the columns hold at the end, by the struct that referred to them
pub left_in : (c : SegmentColumns) (x : Output) (nets os : List ℕ) (fs ss es : List Float) → held x ≡ c → nets ≡ x.net.now → os ≡ x.orientation.now → fs ≡ x.fixed.now → ss ≡ x.start.now → es ≡ x.end.now → segment_columns nets os fs ss es ≡ c
left_in c x nets os fs ss es h p q r s t = (λ i. segment_columns (p i) (q i) (r i) (s i) (t i)) ∙ h
