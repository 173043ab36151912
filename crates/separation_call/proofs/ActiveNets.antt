-- How often each net is active on each line, in words: the summary of a line's words, and what a start and an end make of all of them. Assumes nothing.
use mathlib.Core.Path.{◌≡◌, refl, sym, ap, ◌∙◌, subst}
use mathlib.Core.Logic.{◌⊎◌, inl, inr}
use mathlib.Core.Bool.{Bool, true, false, not}
use mathlib.Core.List.{List, [], ◌∷◌}
use Prim.Native.Nat.{ℕ, ◌+◌, ◌-◌, ◌*◌, ◌%◌, ◌^◌, ◌≤◌, ◌<◌}
use native.Mathlib.Omega.{arith}
use borrow.Author.Tests.{eqb-true, eq-eqb, ne_eqb, eqb-false, not-true}
use lib.Dec.{eqb}
use lib.ListN.{length, get_or, set, drop, length-set}
use lib.Seq.{get_or-set_same, get_or-set_other, drop-set-lt}
use Rattle.laws.specs.Lists.{Mem, fold, bit, sum, chosen, put, keep}
use Rattle.laws.specs.Inner.Different.{Different}
use Rattle.laws.proofs.Tests.{decide, and_left, and_right, and_both, same_or_not}
use Rattle.laws.proofs.ListLaws.{mem_chosen, chosen_mem}
use Rattle.rows.specs.Rows.{Row}
use Rattle.separation.specs.declared.summary.NetSummary.{NetSummary}
use Rattle.separation.specs.declared.summary.NetSummary.TheVariants.{Nothing, One, Two}
use Rattle.separation.specs.Lines.{index}
use Rattle.separation.specs.Walk.{remove}
use Rattle.separation.proofs.Summaries.{other_than, summary_of}
use Rattle.separation.proofs.ActiveRows.{mem_count}
use Rattle.separation_call.specs.Inner.ActiveTree.{Decides}
use Rattle.separation_call.specs.Inner.ActiveNets.{on_line, net_count, NetsOn, Slots, Counted, Countable, Endable, line_summary, summary_of_line, Starts, Ends}
use Rattle.separation_call.proofs.NetCounts.{count-start, count-end, counts_decide}

-- ---- the summary of a line's words
module _ (many total : ℕ) where
  pub told_none : many ≡ 0 → Nothing ≡ line_summary many total
  unfolding line_summary
  told_none e = rw (eq-eqb many 0 e)

  pub told_one : many ≡ 1 → One (total % 4294967296) ≡ line_summary many total
  unfolding line_summary
  told_one e = rw (ne_eqb many 0 (λ z. omega arith), eq-eqb many 1 e)

  pub told_two : (many ≡ 0 → ⊥) → (many ≡ 1 → ⊥) → Two ≡ line_summary many total
  unfolding line_summary
  told_two f g = rw (ne_eqb many 0 f, ne_eqb many 1 g)

-- a list of different nets by its length and its sum
summary_told : (l : List ℕ) → Different l → ((m : ℕ) → Mem m l → m < 2 ^ 32) → summary_of l ≡ line_summary (length l) (sum (λ m. m) l)
unfolding summary_of fold chosen
summary_told [] d s = told_none 0 0 refl
summary_told (m ∷ []) d s = let h = s m (inl refl) in ap One (only m h) ∙ told_one 1 (m + 0) refl
  where
    only : (m : ℕ) → m < 2 ^ 32 → m ≡ (m + 0) % 4294967296
    only m h = omega arith
summary_told (m ∷ k ∷ l) d s = rw (ne_eqb k m (λ e. d.0 (inl (sym e)))) (told_two (length (m ∷ k ∷ l)) (sum (λ m. m) (m ∷ k ∷ l)) (λ e. omega arith) (λ e. omega arith))

nets_decide : (ls : List ℕ) (active : List Row) (b i many total : ℕ) → NetsOn ls active b i many total → Decides ls active (line_summary many total) i (i + 1)
nets_decide ls active b i many total o =
    let e : summary_of o.nets ≡ line_summary many total = summary_told o.nets o.different o.small ∙ (λ k. line_summary (o.length-is k) (o.sum_is k)) in
    subst (λ (s : NetSummary). Decides ls active s i (i + 1)) e (counts_decide ls active i o.nets o.there o.all)

-- ---- a list of different nets without one of them
module _ (net : ℕ) where
  without_in : (l : List ℕ) (m : ℕ) → Mem m (keep (other_than net) l) → Mem m l × (m ≡ net → ⊥)
  without_in l m k =
      let g = mem_chosen (other_than net) (λ (z : ℕ). z) m l k in
      (subst (λ (z : ℕ). Mem z l) (sym g.3) g.1, λ e. eqb-false m net (not-true (eqb m net) (ap (other_than net) g.3 ∙ g.2)) e)

  without_has : (l : List ℕ) (m : ℕ) → Mem m l → (m ≡ net → ⊥) → Mem m (keep (other_than net) l)
  without_has l m k f = chosen_mem (other_than net) (λ (z : ℕ). z) m l k (ap not (ne_eqb m net f))

  without_different : (l : List ℕ) → Different l → Different (keep (other_than net) l)
  unfolding chosen
  without_different [] d = d
  without_different (m ∷ l) d = go (other_than net m) (without_different l d.1)
    where
      go : (b : Bool) → Different (keep (other_than net) l) → Different (put b m (keep (other_than net) l))
      go true h = ((λ k. d.0 (without_in l m k).0), h)
      go false h = h

  -- where it is none of them, nothing is removed
  without_none : (l : List ℕ) → (Mem net l → ⊥) → keep (other_than net) l ≡ l
  unfolding chosen
  without_none [] f = refl
  without_none (m ∷ l) f = rw (ne_eqb m net (λ e. f (inl (sym e)))) (ap (λ (z : List ℕ). m ∷ z) (without_none l (λ k. f (inr k))))

  without_one : (l : List ℕ) → Different l → Mem net l → (length l ≡ length (keep (other_than net) l) + 1) × (sum (λ m. m) l ≡ sum (λ m. m) (keep (other_than net) l) + net)
  unfolding chosen fold
  without_one [] d m = elim m [ ]
  without_one (m ∷ l) d (inl e) =
      let f = without_none l (λ k. d.0 (subst (λ (z : ℕ). Mem z l) e k)) in
      rw (eq-eqb m net (sym e), f) (omega arith, omega (arith, e))
  without_one (m ∷ l) d (inr k) =
      let r = without_one l d.1 k in
      rw (ne_eqb m net (λ e. d.0 (subst (λ (z : ℕ). Mem z l) (sym e) k))) (omega (arith, r.0), omega (arith, r.1))

-- ---- nets below 2 ^ 32
sum-small : (l : List ℕ) → ((m : ℕ) → Mem m l → m < 2 ^ 32) → sum (λ m. m) l ≤ 4294967295 * length l
unfolding fold
sum-small [] h = omega arith
sum-small (m ∷ l) h = let a = h m (inl refl) in let r = sum-small l (λ z k. h z (inr k)) in omega arith

mem_length : (m : ℕ) (l : List ℕ) → Mem m l → 0 < length l
mem_length m [] h = elim h [ ]
mem_length m (k ∷ l) h = omega arith

mem_sum : (m : ℕ) (l : List ℕ) → Mem m l → m ≤ sum (λ z. z) l
unfolding fold
mem_sum m [] h = elim h [ ]
mem_sum m (k ∷ l) (inl e) = omega (arith, e)
mem_sum m (k ∷ l) (inr h) = let r = mem_sum m l h in omega arith

-- ---- the active rows change by one of this net on this line: all other counts stay
abbrev Elsewhere : List ℕ → List Row → List Row → ℕ → ℕ → Type 0
Elsewhere ls old new line net = (i m : ℕ) → (i ≡ line → m ≡ net → ⊥) → net_count ls new i m ≡ net_count ls old i m

module _ (ls : List ℕ) (x : Row) (line net : ℕ) (at-line : index ls x.line ≡ line) (of-net : x.net ≡ net) where
  on_bit : bit (on_line ls line net x) ≡ 1
  on_bit = ap bit (and_both _ _ (eq-eqb (index ls x.line) line at-line) (eq-eqb x.net net of-net))

  off_bit : (i m : ℕ) → (i ≡ line → m ≡ net → ⊥) → bit (on_line ls i m x) ≡ 0
  off_bit i m f = elim (decide (on_line ls i m x)) [
    | inr e ↦ ap bit e
    | inl t ↦
        let a = eqb (index ls x.line) i in
        let b = eqb x.net m in
        absurd (f (sym (eqb-true (index ls x.line) i (and_left a b t)) ∙ at-line) (sym (eqb-true x.net m (and_right a b t)) ∙ of-net))
  ]

module _ (ls : List ℕ) (old new : List Row) (b : ℕ) where
  -- the same nets have a count
  nets-same : (i many total : ℕ) → ((m : ℕ) → 0 < net_count ls old i m → 0 < net_count ls new i m) → ((m : ℕ) → 0 < net_count ls new i m → 0 < net_count ls old i m) → NetsOn ls old b i many total → NetsOn ls new (b + 1) i many total
  nets-same i many total f g o = record {
    nets = o.nets;
    different = o.different;
    there = λ m k. f m (o.there m k);
    all = λ m h. o.all m (g m h);
    small = o.small;
    length-is = o.length-is;
    sum_is = o.sum_is;
    few = omega (arith, o.few);
  }

  module _ (line net : ℕ) (elsewhere : Elsewhere ls old new line net) where
    -- on another line
    nets_off : (i many total : ℕ) → (i ≡ line → ⊥) → NetsOn ls old b i many total → NetsOn ls new (b + 1) i many total
    nets_off i many total f = nets-same i many total (λ m h. omega (arith, elsewhere i m (λ e g. f e))) (λ m h. omega (arith, elsewhere i m (λ e g. f e)))

    -- what holds of the net and of those whose count stays
    or_else : (P : ℕ → Type 0) (m : ℕ) → P net → (net_count ls new line m ≡ net_count ls old line m → P m) → P m
    or_else P m h f = elim (same_or_not m net) [
      | inl e ↦ subst P (sym e) h
      | inr g ↦ f (elsewhere line m (λ _ e. g e))
    ]

    nets-kept : (many total : ℕ) → 0 < net_count ls old line net → 0 < net_count ls new line net → NetsOn ls old b line many total → NetsOn ls new (b + 1) line many total
    nets-kept many total p q = nets-same line many total
        (λ m. or_else (λ z. 0 < net_count ls old line z → 0 < net_count ls new line z) m (λ _. q) (λ e h. omega arith))
        (λ m. or_else (λ z. 0 < net_count ls new line z → 0 < net_count ls old line z) m (λ _. p) (λ e h. omega arith))

    -- the net is new on its line
    nets_more : (many total : ℕ) → net_count ls old line net ≡ 0 → 0 < net_count ls new line net → net < 2 ^ 32 → NetsOn ls old b line many total → NetsOn ls new (b + 1) line (many + 1) (total + net)
    unfolding fold
    nets_more many total p q small o = record {
      nets = net ∷ o.nets;
      different = ((λ k. omega (arith, o.there net k)), o.different);
      there = λ m k. or_else (λ z. Mem z (net ∷ o.nets) → 0 < net_count ls new line z) m (λ _. q) (λ e. there m e) k;
      all = λ m h. or_else (λ z. Mem z (net ∷ o.nets)) m (inl refl) (λ e. inr (o.all m (omega arith)));
      small = λ m k. elim k [ inl e ↦ omega (arith, e) | inr h ↦ o.small m h ];
      length-is = omega (arith, o.length-is);
      sum_is = omega (arith, o.sum_is);
      few = omega (arith, o.few);
    }
      where
        there : (m : ℕ) → net_count ls new line m ≡ net_count ls old line m → Mem m (net ∷ o.nets) → 0 < net_count ls new line m
        there m e (inl h) = subst (λ (z : ℕ). 0 < net_count ls new line z) (sym h) q
        there m e (inr k) = omega (arith, o.there m k)

    -- the net is gone from its line
    nets_less : (many total : ℕ) → 0 < net_count ls old line net → net_count ls new line net ≡ 0 → NetsOn ls old b line many total → NetsOn ls new (b + 1) line (many - 1) (total - net)
    nets_less many total p q o =
        let l = keep (other_than net) o.nets in
        let w = without_one net o.nets o.different (o.all net p) in
        record {
          nets = l;
          different = without_different net o.nets o.different;
          there = λ m k. let g = without_in net o.nets m k in omega (arith, elsewhere line m (λ _ e. g.1 e), o.there m g.0);
          all = λ m h. let f : m ≡ net → ⊥ = λ e. gone m h e in without_has net o.nets m (o.all m (omega (arith, elsewhere line m (λ _ e. f e)))) f;
          small = λ m k. o.small m (without_in net o.nets m k).0;
          length-is = omega (arith, w.0, o.length-is);
          sum_is = omega (arith, w.1, o.sum_is);
          few = omega (arith, w.0, o.few);
        }
      where
        gone : (m : ℕ) → 0 < net_count ls new line m → m ≡ net → ⊥
        gone m h e = let g = subst (λ (z : ℕ). 0 < net_count ls new line z) e h in omega arith

-- ---- d is c with other words for a slot and for a line
record Rewritten (n slot line count many total : ℕ) (c d : List ℕ) : Type 0 where
  pub room : 3 * n ≤ length d
  pub slot_is : get_or d slot 0 ≡ count
  pub many_is : get_or d (n + line) 0 ≡ many
  pub total-is : get_or d (2 * n + line) 0 ≡ total
  pub rest : (i : ℕ) → (i ≡ slot → ⊥) → (i ≡ n + line → ⊥) → (i ≡ 2 * n + line → ⊥) → get_or d i 0 ≡ get_or c i 0

module _ (n slot line : ℕ) (c : List ℕ) (room : 3 * n ≤ length c) (s : slot < n) (l : line < n) (count : ℕ) where
  slot_put : Rewritten n slot line count (get_or c (n + line) 0) (get_or c (2 * n + line) 0) c (set c slot count)
  slot_put = record {
    room = simp length-set room;
    slot_is = get_or-set_same c slot count 0 (omega arith);
    many_is = get_or-set_other c slot (n + line) count 0 (λ e. omega arith);
    total-is = get_or-set_other c slot (2 * n + line) count 0 (λ e. omega arith);
    rest = λ i f g h. get_or-set_other c slot i count 0 f;
  }

  all-put : (many total : ℕ) → Rewritten n slot line count many total c (set (set (set c (n + line) many) (2 * n + line) total) slot count)
  all-put many total =
      let a = set c (n + line) many in
      let b = set a (2 * n + line) total in
      record {
        room = simp length-set room;
        slot_is = get_or-set_same b slot count 0 (simp length-set (omega arith));
        many_is = get_or-set_other b slot (n + line) count 0 (λ e. omega arith) ∙ get_or-set_other a (2 * n + line) (n + line) total 0 (λ e. omega arith) ∙ get_or-set_same c (n + line) many 0 (omega arith);
        total-is = get_or-set_other b slot (2 * n + line) count 0 (λ e. omega arith) ∙ get_or-set_same a (2 * n + line) total 0 (simp length-set (omega arith));
        rest = λ i f g h. get_or-set_other b slot i count 0 f ∙ get_or-set_other a (2 * n + line) i total 0 h ∙ get_or-set_other c (n + line) i many 0 g;
      }

-- ---- so the words count the new rows; segment j has the slot, the line and the net
module _ (n b : ℕ) (ls : List ℕ) (line_of net_of slot_of : ℕ → ℕ) (old : List Row) (c : List ℕ) (k : Counted n b ls line_of net_of slot_of old c) (j slot line net : ℕ) (inside : j < n) (of-slot : slot_of j ≡ slot) (of-line : line_of j ≡ line) (of-net : net_of j ≡ net) where
  count-is : get_or c slot 0 ≡ net_count ls old line net
  count-is = ap (λ (z : ℕ). get_or c z 0) (sym of-slot) ∙ k.counts j inside ∙ (λ t. net_count ls old (of-line t) (of-net t))

  counted_anew : (new : List Row) (d : List ℕ) (count many total : ℕ) → Slots n line_of net_of slot_of → line < n → Elsewhere ls old new line net → Rewritten n slot line count many total c d → net_count ls new line net ≡ count → count ≤ b + 1 → NetsOn ls new (b + 1) line many total → Counted n (b + 1) ls line_of net_of slot_of new d
  counted_anew new d count many total slots line-inside elsewhere w e small nets = record { room = w.room; counts = counts; lines = lines; few = few }
    where
      counts : (i : ℕ) → i < n → get_or d (slot_of i) 0 ≡ net_count ls new (line_of i) (net_of i)
      counts i h = elim (same_or_not (slot_of i) slot) [
        | inl g ↦
            let a = slots.apart i j h inside (g ∙ sym of-slot) in
            ap (λ (z : ℕ). get_or d z 0) g ∙ w.slot_is ∙ sym e ∙ (λ t. net_count ls new (sym (a.0 ∙ of-line) t) (sym (a.1 ∙ of-net) t))
        | inr f ↦
            let q = slots.inside i h in
            w.rest (slot_of i) f (λ z. omega arith) (λ z. omega arith) ∙ k.counts i h ∙ sym (elsewhere (line_of i) (net_of i) (λ u v. f (slots.alike i j h inside (u ∙ sym of-line) (v ∙ sym of-net) ∙ of-slot)))
      ]

      lines : (i : ℕ) → i < n → NetsOn ls new (b + 1) i (get_or d (n + i) 0) (get_or d (2 * n + i) 0)
      lines i h = elim (same_or_not i line) [
        | inl g ↦ subst (λ (z : ℕ). NetsOn ls new (b + 1) z (get_or d (n + z) 0) (get_or d (2 * n + z) 0)) (sym g) (rw (w.many_is, w.total-is) nets)
        | inr f ↦
            let q : slot < n = subst (λ (z : ℕ). z < n) of-slot (slots.inside j inside) in
            let u = w.rest (n + i) (λ z. omega arith) (λ z. f (omega arith)) (λ z. omega arith) in
            let v = w.rest (2 * n + i) (λ z. omega arith) (λ z. omega arith) (λ z. f (omega arith)) in
            nets_off ls old new b line net elsewhere i (get_or d (n + i) 0) (get_or d (2 * n + i) 0) f (rw (u, v) (k.lines i h))
      ]

      few : (i m : ℕ) → net_count ls new i m ≤ b + 1
      few i m = elim (same_or_not i line) [
        | inr f ↦ omega (arith, elsewhere i m (λ u v. f u), k.few i m)
        | inl u ↦ elim (same_or_not m net) [
          | inr f ↦ omega (arith, elsewhere i m (λ _ v. f v), k.few i m)
          | inl v ↦ let g : net_count ls new i m ≡ count = (λ t. net_count ls new (u t) (v t)) ∙ e in omega arith
        ]
      ]

-- ---- what the code makes of the words: e is c, with new words for the line where the slot's count is k
abbrev pub LineChanged : ℕ → ℕ → ℕ → ℕ → ℕ → ℕ → List ℕ → List ℕ → Type 0
LineChanged k n slot line many total c e = ((get_or c slot 0 ≡ k) × (e ≡ set (set c (n + line) many) (2 * n + line) total)) ⊎ ((get_or c slot 0 ≡ k → ⊥) × (e ≡ c))

module _ (k n slot line many total : ℕ) (c e : List ℕ) (t : LineChanged k n slot line many total c e) where
  pub changed-length : length e ≡ length c
  changed-length = elim t [ inl g ↦ rw g.1 (simp length-set) | inr g ↦ ap (λ (z : List ℕ). length z) g.1 ]

  -- then the slot gets its new count
  pub changed-lent : (count : ℕ) → 3 * n ≤ length c → 3 * n ≤ length (set e slot count)
  changed-lent count h = simp length-set (omega (arith, changed-length))

  pub changed-past : (count : ℕ) → slot < n → line < n → drop (3 * n) (set e slot count) ≡ drop (3 * n) c
  changed-past count s l = drop-set-lt (3 * n) e slot count (omega arith) ∙ elim t [
    | inl g ↦ rw g.1 (drop-set-lt (3 * n) (set c (n + line) many) (2 * n + line) total (omega arith) ∙ drop-set-lt (3 * n) c (n + line) many (omega arith))
    | inr g ↦ ap (drop (3 * n)) g.1
  ]

  -- the words count the new rows, and the summary read off them decides
  module _ (count : ℕ) (room : 3 * n ≤ length c) (slot_inside : slot < n) (line-inside : line < n) (r : NetSummary) (told : r ≡ summary_of_line (set e slot count) n line) where
    changed-counts : (b : ℕ) (ls : List ℕ) (line_of net_of slot_of : ℕ → ℕ) (old new : List Row) (j net : ℕ)
        → Counted n b ls line_of net_of slot_of old c → Slots n line_of net_of slot_of → j < n → slot_of j ≡ slot → line_of j ≡ line → net_of j ≡ net
        → Elsewhere ls old new line net → net_count ls new line net ≡ count → count ≤ b + 1
        → (get_or c slot 0 ≡ k → NetsOn ls new (b + 1) line many total)
        → ((get_or c slot 0 ≡ k → ⊥) → NetsOn ls new (b + 1) line (get_or c (n + line) 0) (get_or c (2 * n + line) 0))
        → Counted n (b + 1) ls line_of net_of slot_of new (set e slot count) × Decides ls new r line (line + 1)
    changed-counts b ls line_of net_of slot_of old new j net was slots inside of-slot of-line of-net elsewhere here small changed kept = (counted, decides)
      where
        d : List ℕ
        d = set e slot count

        anew : (q s : ℕ) → Rewritten n slot line count q s c d → NetsOn ls new (b + 1) line q s → Counted n (b + 1) ls line_of net_of slot_of new d
        anew q s w nets = counted_anew n b ls line_of net_of slot_of old c was j slot line net inside of-slot of-line of-net new d count q s slots line-inside elsewhere w here small nets

        counted : Counted n (b + 1) ls line_of net_of slot_of new d
        counted = elim t [
          | inl g ↦ anew many total (rw g.1 (all-put n slot line c room slot_inside line-inside count many total)) (changed g.0)
          | inr g ↦ anew (get_or c (n + line) 0) (get_or c (2 * n + line) 0) (rw g.1 (slot_put n slot line c room slot_inside line-inside count)) (kept g.0)
        ]

        decides : Decides ls new r line (line + 1)
        decides = subst (λ (s : NetSummary). Decides ls new s line (line + 1)) (sym told) (nets_decide ls new (b + 1) line _ _ (counted.lines line line-inside))

module _ (n slot line net : ℕ) (c e : List ℕ) (r : NetSummary) where
  pub starts : Countable n slot line net c → net < 2 ^ 32
      → LineChanged 0 n slot line (get_or c (n + line) 0 + 1) (get_or c (2 * n + line) 0 + net) c e
      → r ≡ summary_of_line (set e slot (get_or c slot 0 + 1)) n line
      → Starts n slot line net c (set e slot (get_or c slot 0 + 1)) r
  starts p small t told b ls line_of net_of slot_of active x j k slots inside of-slot of-line of-net x-line x-net =
      changed-counts 0 n slot line (get_or c (n + line) 0 + 1) (get_or c (2 * n + line) 0 + net) c e t (get_or c slot 0 + 1) p.room p.slot_inside p.line-inside r told
      b ls line_of net_of slot_of active (x ∷ active) j net k slots inside of-slot of-line of-net elsewhere here (omega (arith, is, k.few line net))
      (λ z. nets_more ls active (x ∷ active) b line net elsewhere (get_or c (n + line) 0) (get_or c (2 * n + line) 0) (sym is ∙ z) (omega (arith, here)) small (k.lines line p.line-inside))
      (λ f. nets-kept ls active (x ∷ active) b line net elsewhere (get_or c (n + line) 0) (get_or c (2 * n + line) 0) (omega (arith, is, above f)) (omega (arith, here)) (k.lines line p.line-inside))
    where
      is : get_or c slot 0 ≡ net_count ls active line net
      is = count-is n b ls line_of net_of slot_of active c k j slot line net inside of-slot of-line of-net

      here : net_count ls (x ∷ active) line net ≡ get_or c slot 0 + 1
      here = omega (arith, count-start ls active line net x, on_bit ls x line net x-line x-net, is)

      elsewhere : Elsewhere ls active (x ∷ active) line net
      elsewhere i m f = omega (arith, count-start ls active i m x, off_bit ls x line net x-line x-net i m f)

      above : (get_or c slot 0 ≡ 0 → ⊥) → 0 < get_or c slot 0
      above f = elim (same_or_not (get_or c slot 0) 0) [ inl z ↦ absurd (f z) | inr z ↦ omega arith ]

  pub ends : Endable n slot line net c
      → LineChanged 1 n slot line (get_or c (n + line) 0 - 1) (get_or c (2 * n + line) 0 - net) c e
      → r ≡ summary_of_line (set e slot (get_or c slot 0 - 1)) n line
      → Ends n slot line net c (set e slot (get_or c slot 0 - 1)) r
  ends p t told b ls line_of net_of slot_of active x j k slots inside of-slot of-line of-net x-line x-net there =
      changed-counts 1 n slot line (get_or c (n + line) 0 - 1) (get_or c (2 * n + line) 0 - net) c e t (get_or c slot 0 - 1) p.room p.slot_inside p.line-inside r told
      b ls line_of net_of slot_of active (remove x active) j net k slots inside of-slot of-line of-net elsewhere here (omega (arith, is, k.few line net))
      (λ z. nets_less ls active (remove x active) b line net elsewhere (get_or c (n + line) 0) (get_or c (2 * n + line) 0) (omega (arith, is)) (omega (arith, here)) (k.lines line p.line-inside))
      (λ f. nets-kept ls active (remove x active) b line net elsewhere (get_or c (n + line) 0) (get_or c (2 * n + line) 0) (omega (arith, is, p.count)) (omega (arith, here, above f)) (k.lines line p.line-inside))
    where
      is : get_or c slot 0 ≡ net_count ls active line net
      is = count-is n b ls line_of net_of slot_of active c k j slot line net inside of-slot of-line of-net

      here : net_count ls (remove x active) line net ≡ get_or c slot 0 - 1
      here = omega (arith, count-end ls active line net x there, on_bit ls x line net x-line x-net, is)

      elsewhere : Elsewhere ls active (remove x active) line net
      elsewhere i m f = omega (arith, count-end ls active i m x there, off_bit ls x line net x-line x-net i m f)

      above : (get_or c slot 0 ≡ 1 → ⊥) → 1 < get_or c slot 0
      above f = elim (same_or_not (get_or c slot 0) 1) [ inl z ↦ absurd (f z) | inr z ↦ omega (arith, p.count) ]

-- ---- what a sweep needs
module _ (n b : ℕ) (ls : List ℕ) (line_of net_of slot_of : ℕ → ℕ) (active : List Row) (c : List ℕ) where
  -- a start has room: at most b nets on a line, each below 2 ^ 32
  pub countable : Counted n b ls line_of net_of slot_of active c → Slots n line_of net_of slot_of → (j : ℕ) → j < n → b + 1 < 2 ^ 32 → net_of j < 2 ^ 32 → line_of j < n → Countable n (slot_of j) (line_of j) (net_of j) c
  countable k slots j h small m l =
      let o = k.lines (line_of j) l in
      let e = k.counts j h in
      let f = k.few (line_of j) (net_of j) in
      let g = o.few in
      let s = sum-small o.nets o.small in
      record {
        room = k.room;
        slot_inside = slots.inside j h;
        line-inside = l;
        count = omega arith;
        many = omega (arith, o.length-is);
        total = omega (arith, o.sum_is);
      }

  -- an active segment can end
  pub endable : Counted n b ls line_of net_of slot_of active c → Slots n line_of net_of slot_of → (j : ℕ) → j < n → line_of j < n → (x : Row) → Mem x active → index ls x.line ≡ line_of j → x.net ≡ net_of j → Endable n (slot_of j) (line_of j) (net_of j) c
  endable k slots j h l x there x-line x-net =
      let o = k.lines (line_of j) l in
      let p : 0 < net_count ls active (line_of j) (net_of j) = mem_count (on_line ls (line_of j) (net_of j)) x active there (and_both _ _ (eq-eqb (index ls x.line) (line_of j) x-line) (eq-eqb x.net (net_of j) x-net)) in
      let m = o.all (net_of j) p in
      record {
        room = k.room;
        slot_inside = slots.inside j h;
        line-inside = l;
        count = omega (arith, k.counts j h);
        many = omega (arith, mem_length (net_of j) o.nets m, o.length-is);
        total = omega (arith, mem_sum (net_of j) o.nets m, o.sum_is);
      }

  -- only the counting words matter
  pub counted_frame : (d : List ℕ) → Counted n b ls line_of net_of slot_of active c → Slots n line_of net_of slot_of → ((i : ℕ) → i < 3 * n → get_or d i 0 ≡ get_or c i 0) → 3 * n ≤ length d → Counted n b ls line_of net_of slot_of active d
  counted_frame d k slots f room = record {
    room = room;
    counts = λ j h. let q = slots.inside j h in f (slot_of j) (omega arith) ∙ k.counts j h;
    lines = λ i h. rw (f (n + i) (omega arith), f (2 * n + i) (omega arith)) (k.lines i h);
    few = k.few;
  }

-- before the first event
pub counted_none : (n : ℕ) (ls : List ℕ) (line_of net_of slot_of : ℕ → ℕ) (c : List ℕ) → 3 * n ≤ length c → ((i : ℕ) → i < 3 * n → get_or c i 0 ≡ 0) → ((j : ℕ) → j < n → slot_of j < n) → Counted n 0 ls line_of net_of slot_of [] c
unfolding fold
counted_none n ls line_of net_of slot_of c room zero inside = record {
  room = room;
  counts = λ j h. let q = inside j h in zero (slot_of j) (omega arith);
  lines = λ i h. record {
    nets = [];
    different = tt;
    there = λ m k. absurd k;
    all = λ m k. absurd (omega arith);
    small = λ m k. absurd k;
    length-is = sym (zero (n + i) (omega arith));
    sum_is = sym (zero (2 * n + i) (omega arith));
    few = omega arith;
  };
  few = λ i m. omega arith;
}
