-- The code's `set` over the stored tree: a leaf is written, and each node above it is merged anew. Assumes nothing.
use Rattle.drawing.specs.declared.refusal.Refusal.TheVariants.{WorkLimitExceeded}
use Rattle.std.specs.Prelude.{Ok, Err}
use mathlib.Core.Path.{◌≡◌, refl, sym, ap, ◌∙◌, subst}
use mathlib.Core.Logic.{inl, inr}
use mathlib.Core.Bool.{◌||◌}
use mathlib.Core.List.{List}
use Prim.Native.Nat.{ℕ, zero, suc, ◌+◌, ◌-◌, ◌*◌, ◌/◌, ◌^◌, ◌≤◌, ◌<◌}
use native.Mathlib.Nat.{pow-succ'}
use native.Mathlib.Omega.{arith}
use lib.ListN.{length, set, length-set}
use lib.Pow.{pow_pos, pow-lt}
use lib.Seq.{get_or-set_same, get_or-set_other}
use Rattle.laws.specs.Inner.Allowance.{within, spent, left}
use Rattle.laws.proofs.Tests.{le_or_lt}
use Rattle.rows.specs.Rows.{Row}
use Rattle.separation.specs.declared.summary.NetSummary.{NetSummary}
use Rattle.separation.specs.Searches.{set_run}
use Rattle.separation.specs.Inner.Summaries.{summary_has_other, summary_of_word}
use Rattle.separation.proofs.Allowances.{set-spent, set_last, set_more}
use Rattle.separation_call.specs.Inner.ActiveTree.{summary_at, charge_of, Leaves, Renewed}
use Rattle.separation_call.proofs.StoredSearches.{paid-before}
use Rattle.separation_call.proofs.Trees.{Merging, merging_begins, merging_goes_on, merging_ends}

-- ---- the cases of a charge
charge_spent : charge_of spent ≡ Err WorkLimitExceeded
unfolding charge_of
charge_spent = refl

charge_paid : (m : ℕ) → charge_of (left tt m) ≡ Ok m
unfolding charge_of
charge_paid m = refl

pub spent_not_paid : (m : ℕ) → (Err WorkLimitExceeded) ≡ Ok m → ⊥
spent_not_paid m e = let z : ◌≡◌ {A = ℕ} 0 1 = cc in omega arith

-- a power determines its exponent
same-height : (g h : ℕ) → 2 ^ g ≡ 2 ^ h → g ≡ h
same-height g h e = elim (le_or_lt g h) [
  | inr x ↦ absurd (omega (arith, pow-lt x))
  | inl x ↦ elim (le_or_lt h g) [ inl y ↦ omega arith | inr y ↦ absurd (omega (arith, pow-lt y)) ]
]

-- ---- the path up: h nodes from c up to the root, none where c is 0
pub record Way (h c : ℕ) : Type 0 where
  pub least : 2 ^ h ≤ 2 * c + 1
  pub most : c < 2 ^ h

way_on : (h c : ℕ) → (c ≡ 0 → ⊥) → Way h c → (g : ℕ) × (h ≡ suc g) × Way g (c / 2)
way_on zero c n w = absurd (omega (arith, w.most))
way_on (suc g) c n w = (g, refl, record { least = omega (arith, w.least, pow-succ' 2 g); most = omega (arith, w.most, pow-succ' 2 g) })

way_ends : (h c : ℕ) → c ≡ 0 → Way h c → h ≡ 0
way_ends zero c z w = refl
way_ends (suc g) c z w = absurd (omega (arith, w.least, pow-succ' 2 g, pow_pos g))

-- ---- the loop: c is the next node to be merged anew, `rest` the remaining visits
pub record Setting (leaves m : ℕ) (start : List ℕ) (first : ℕ) (t : List ℕ) (rest c : ℕ) : Type 0 where
  pub height : ℕ
  pub count : leaves ≡ 2 ^ height
  pub kept : length t ≡ length start
  pub room : 2 * leaves ≤ length t
  pub small : c < leaves
  pub above : ℕ
  pub way : Way above c
  pub charged : within m (set_run height) ≡ within (suc rest) (set_run above)
  pub merging : (ls : List ℕ) (new : List Row) → Merging ls new (summary_at start) height first → Merging ls new (summary_at t) height c

-- no visit is left at the leaf
pub set_stops : (m : ℕ) → m ≡ 0 → (H : ℕ) → (Err WorkLimitExceeded) ≡ charge_of (within m (set_run H))
set_stops m z H = rw (z, set-spent H) (sym charge_spent)

-- the leaf is paid and written
pub setting_begins : (leaves m : ℕ) (t : List ℕ) (i w : ℕ) → Leaves t leaves → i < leaves → (m ≡ 0 → ⊥) → Setting leaves m (set t (leaves + i) w) ((leaves + i) / 2) (set t (leaves + i) w) (m - 1) ((leaves + i) / 2)
setting_begins leaves m t i w l x p = record {
  height = l.height;
  count = l.count;
  kept = refl;
  room = omega (arith, l.room, length-set t (leaves + i) w);
  small = omega arith;
  above = l.height;
  way = record { least = omega (arith, l.count); most = omega (arith, l.count) };
  charged = ap (λ (z : ℕ). within z (set_run l.height)) (paid-before m p);
  merging = λ ls new g. g;
}

module _ {leaves m : ℕ} {start : List ℕ} {first : ℕ} {t : List ℕ} {rest c : ℕ} (s : Setting leaves m start first t rest c) where
  abbrev same : (H : ℕ) → leaves ≡ 2 ^ H → s.height ≡ H
  same H e = same-height s.height H (sym s.count ∙ e)

  -- no visit is left at a node above the leaf
  pub setting_stops : (c ≡ 0 → ⊥) → rest ≡ 0 → (H : ℕ) → leaves ≡ 2 ^ H → (Err WorkLimitExceeded) ≡ charge_of (within m (set_run H))
  setting_stops n z H e =
      let w = way_on s.above c n s.way in
      let spends : within m (set_run H) ≡ spent = rw (sym (same H e)) (s.charged ∙ rw (z, w.1) (set_more 0 w.0 ∙ set-spent w.0)) in
      rw spends (sym charge_spent)

  -- a node is paid and merged anew
  pub setting_goes_on : (c ≡ 0 → ⊥) → (rest ≡ 0 → ⊥) → (w : ℕ) → ((n : ℕ) → summary_has_other (summary_of_word w) n ≡ (summary_has_other (summary_at t (2 * c)) n || summary_has_other (summary_at t (2 * c + 1)) n)) → Setting leaves m start first (set t c w) (rest - 1) (c / 2)
  setting_goes_on n p w joined =
      let g = way_on s.above c n s.way in
      record {
        height = s.height;
        count = s.count;
        kept = length-set t c w ∙ s.kept;
        room = omega (arith, s.room, length-set t c w);
        small = omega (arith, s.small);
        above = g.0;
        way = g.2;
        charged = s.charged ∙ ap (λ (z : ℕ). within (suc rest) (set_run z)) g.1 ∙ set_more rest g.0 ∙ ap (λ (z : ℕ). within z (set_run g.0)) (paid-before rest p);
        merging = λ ls new x. merging_goes_on ls new s.height (summary_at t) (summary_at (set t c w)) c (omega arith) (omega (arith, s.small, s.count)) (λ j. ap (λ (z : ℕ). summary_has_other (summary_of_word z) j) (get_or-set_same t c w 0 inside) ∙ joined j) (λ k o. ap summary_of_word (get_or-set_other t c k w 0 o)) (s.merging ls new x);
      }
    where
      inside : c < length t
      inside = omega (arith, s.small, s.room)

  -- past the root
  pub setting_pays : c ≡ 0 → (H : ℕ) → leaves ≡ 2 ^ H → Ok rest ≡ charge_of (within m (set_run H))
  setting_pays z H e =
      let pays : within m (set_run H) ≡ left tt rest = rw (sym (same H e)) (s.charged ∙ rw (way_ends s.above c z s.way) (set_last rest)) in
      rw pays (sym (charge_paid rest))

-- at the end the tree is renewed
pub setting_renews : (leaves m : ℕ) (entry : List ℕ) (i w : ℕ) (summary : NetSummary) → summary_of_word w ≡ summary → Leaves entry leaves → i < leaves → (t : List ℕ) (rest c : ℕ) → Setting leaves m (set entry (leaves + i) w) ((leaves + i) / 2) t rest c → c ≡ 0 → (H : ℕ) → leaves ≡ 2 ^ H → Renewed entry t H i summary
setting_renews leaves m entry i w summary is l x t rest c s z H e ls old new off covers leaf = merging_ends ls new H (summary_at t) (subst (Merging ls new (summary_at t) H) z (at s.height (same-height s.height H (sym s.count ∙ e)) (s.merging ls new)))
  where
    begun : Merging ls new (summary_at (set entry (2 ^ H + i) w)) H ((2 ^ H + i) / 2)
    begun = merging_begins ls new H old (summary_at entry) (summary_at (set entry (2 ^ H + i) w)) i off covers
        (λ j. ap (λ (z : ℕ). summary_has_other (summary_of_word z) j) (get_or-set_same entry (2 ^ H + i) w 0 (omega (arith, l.room))) ∙ ap (λ (z : NetSummary). summary_has_other z j) is ∙ leaf j)
        (λ k o. ap summary_of_word (get_or-set_other entry (2 ^ H + i) k w 0 o))

    at : (h : ℕ) → h ≡ H → (Merging ls new (summary_at (set entry (leaves + i) w)) h ((leaves + i) / 2) → Merging ls new (summary_at t) h c) → Merging ls new (summary_at t) H c
    at h y f = (rw (y, e) at f) begun
