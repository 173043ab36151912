-- Summaries stored in a tree: where each node's summary decides for its leaves, the searches over them are those of the walk; and a leaf's `set`, node by node upwards, keeps it so. Assumes nothing.
use mathlib.Core.Path.{◌≡◌, refl, sym, ap, ◌∙◌, subst}
use mathlib.Core.Logic.{◌⊎◌, inl, inr}
use mathlib.Core.List.{List, [], ◌∷◌}
use mathlib.Core.Bool.{Bool, true, ◌&&◌, ◌||◌}
use Prim.Native.Nat.{ℕ, zero, suc, ◌+◌, ◌*◌, ◌/◌, ◌^◌, ◌≤◌, ◌<◌}
use native.Mathlib.Nat.{le_refl, pow-succ', mul_assoc, mul_comm, add-mul, one-mul, mul-le-mul_left, zero-mul}
use native.Mathlib.Omega.{arith}
use lib.Dec.{ltb}
use lib.Pow.{pow_pos}
use Rattle.laws.specs.Lists.{Mem, some_of}
use Rattle.laws.proofs.Tests.{le_or_lt, same_or_not}
use Rattle.rows.specs.Rows.{Row}
use Rattle.separation.specs.declared.summary.NetSummary.{NetSummary}
use Rattle.separation.specs.declared.summary.NetSummary.TheVariants.{Nothing}
use Rattle.separation.specs.Lines.{index}
use Rattle.separation.specs.Searches.{other_in, search_leaf, search_node, rightmost, leftmost}
use Rattle.separation.specs.Inner.Summaries.{summary_has_other}
use Rattle.separation.specs.Walk.{remove}
use Rattle.separation.proofs.Lines.{other→, →other, other_join, leaf-nets}
use Rattle.separation.proofs.Summaries.{summary_of, both, summary_decides}
use Rattle.separation.proofs.ActiveRows.{remove_mem, mem_remove}
use Rattle.separation_call.specs.Inner.ActiveTree.{NodeAt, Decides, Covers, Outside, SameOff}

pub node_root : (H : ℕ) → NodeAt H H 1 0
node_root H = record { number = omega (arith, one-mul (2 ^ H)); room = omega arith }

twice : (k w : ℕ) → 2 * k * w ≡ k * (2 * w)
twice k w = ap (λ (z : ℕ). z * w) (mul_comm 2 k) ∙ mul_assoc k 2 w

pub node-low : (H h k s : ℕ) → NodeAt H (suc h) k s → NodeAt H h (2 * k) s
node-low H h k s n =
    let e = pow-succ' 2 h in
    record { number = twice k (2 ^ h) ∙ ap (λ (z : ℕ). k * z) (sym e) ∙ n.number; room = omega (arith, n.room) }

pub node-high : (H h k s : ℕ) → NodeAt H (suc h) k s → NodeAt H h (2 * k + 1) (s + 2 ^ h)
node-high H h k s n =
    let e = pow-succ' 2 h in
    let l = (node-low H h k s n).number in
    record { number = add-mul (2 * k) 1 (2 ^ h) ∙ omega (arith, one-mul (2 ^ h)); room = omega (arith, n.room) }

-- ---- searches over tests that agree at each node
module _ (has other : ℕ → ℕ → ℕ → Bool) (H q : ℕ) (agree : (h k s : ℕ) → NodeAt H h k s → has k s (s + 2 ^ h) ≡ other k s (s + 2 ^ h)) where
  pub right-same : (h k s : ℕ) → NodeAt H h k s → rightmost has q h k s ≡ rightmost other q h k s
  unfolding rightmost
  right-same zero k s n = ap (λ (b : Bool). search_leaf (ltb s q && b) s) (agree zero k s n)
  right-same (suc h) k s n = λ i. search_node (ltb s q && agree (suc h) k s n i) (right-same h (2 * k + 1) (s + 2 ^ h) (node-high H h k s n) i) (right-same h (2 * k) s (node-low H h k s n) i)

  pub left-same : (h k s : ℕ) → NodeAt H h k s → leftmost has q h k s ≡ leftmost other q h k s
  unfolding leftmost
  left-same zero k s n = ap (λ (b : Bool). search_leaf (ltb q (s + 1) && b) s) (agree zero k s n)
  left-same (suc h) k s n = λ i. search_node (ltb q (s + 2 ^ suc h) && agree (suc h) k s n i) (left-same h (2 * k) s (node-low H h k s n) i) (left-same h (2 * k + 1) (s + 2 ^ h) (node-high H h k s n) i)

-- so the searches over the stored summaries are those of the walk
module _ (ls : List ℕ) (active : List Row) (t : ℕ → NetSummary) (H : ℕ) (covers : Covers ls active t H) (n q : ℕ) where
  pub stored-right : rightmost (λ k a b. summary_has_other (t k) n) q H 1 0 ≡ rightmost (λ k. other_in ls active n) q H 1 0
  stored-right = right-same (λ k a b. summary_has_other (t k) n) (λ k. other_in ls active n) H q (λ h k s x. covers h k s x n) H 1 0 (node_root H)

  pub stored-left : leftmost (λ k a b. summary_has_other (t k) n) q H 1 0 ≡ leftmost (λ k. other_in ls active n) q H 1 0
  stored-left = left-same (λ k a b. summary_has_other (t k) n) (λ k. other_in ls active n) H q (λ h k s x. covers h k s x n) H 1 0 (node_root H)

-- ---- two neighbouring ranges, and one line
module _ (ls : List ℕ) (active : List Row) where
  pub merged_decides : (s t u : NetSummary) (a b c : ℕ) → a ≤ b → b ≤ c → ((n : ℕ) → summary_has_other u n ≡ (summary_has_other s n || summary_has_other t n)) → Decides ls active s a b → Decides ls active t b c → Decides ls active u a c
  merged_decides s t u a b c h k m p q n = m n ∙ (λ i. p n i || q n i) ∙ other_join ls active n a b c h k

  -- a leaf: any list of the nets that are active on its line, in any order, one net once or more often
  pub leaf_decides : (i : ℕ) (l : List ℕ) → ((m : ℕ) → Mem m l → (r : Row) × Mem r active × (index ls r.line ≡ i) × (r.net ≡ m)) → ((r : Row) → Mem r active → index ls r.line ≡ i → Mem r.net l) → Decides ls active (summary_of l) i (i + 1)
  leaf_decides i l f g n = summary_decides l n ∙ leaf-nets ls active i l f g n

same_off : (ls : List ℕ) (old new : List Row) (i : ℕ) → ((r : Row) → Mem r old → (index ls r.line ≡ i) ⊎ Mem r new) → ((r : Row) → Mem r new → (index ls r.line ≡ i) ⊎ Mem r old) → SameOff ls old new i
same_off ls old new i f g n a b o = both (other_in ls old n a b) (other_in ls new n a b) (λ t. move old new f t) (λ t. move new old g t)
  where
    move : (p q : List Row) → ((r : Row) → Mem r p → (index ls r.line ≡ i) ⊎ Mem r q) → other_in ls p n a b ≡ true → other_in ls q n a b ≡ true
    move p q f t = let x = other→ ls p n a b t in elim (f x.0 x.1) [
      | inr m ↦ →other ls q n a b x.0 m x.2
      | inl e ↦ absurd (elim o [ inl k ↦ omega (arith, x.2.1) | inr k ↦ omega (arith, x.2.2) ])
    ]

pub start_off : (ls : List ℕ) (active : List Row) (x : Row) → SameOff ls active (x ∷ active) (index ls x.line)
start_off ls active x = same_off ls active (x ∷ active) (index ls x.line) (λ r m. inr (inr m)) (λ r m. elim m [ inl e ↦ inl (ap (λ (z : Row). index ls z.line) e) | inr n ↦ inr n ])

pub end_off : (ls : List ℕ) (active : List Row) (x : Row) → SameOff ls active (remove x active) (index ls x.line)
end_off ls active x = same_off ls active (remove x active) (index ls x.line) (λ r m. elim (mem_remove x r active m) [ inl e ↦ inl (ap (λ (z : Row). index ls z.line) e) | inr n ↦ inr n ]) (λ r m. inr (remove_mem x r active m))

-- ---- `set` goes from a leaf to the root: c, c / 2, .. are the nodes that are still to be merged anew
pub data Upwards : ℕ → ℕ → Type 0 where
  here : {c : ℕ} → Upwards c c
  up : {c k : ℕ} → Upwards (c / 2) k → Upwards c k

upwards_le : {c k : ℕ} → Upwards c k → k ≤ c
upwards_le {c} here = le_refl c
upwards_le {c} (up p) = omega (arith, upwards_le p)

upwards_more : {c k : ℕ} → Upwards c k → Upwards c (k / 2)
upwards_more here = up here
upwards_more (up p) = up (upwards_more p)

upwards_next : {c k : ℕ} → Upwards c k → (k ≡ c) ⊎ Upwards (c / 2) k
upwards_next here = inl refl
upwards_next (up p) = inr p

-- a node that holds leaf i is above it
holds_up : (H i h k s : ℕ) → NodeAt H h k s → s ≤ i → i < s + 2 ^ h → Upwards (2 ^ H + i) k
holds_up H i zero k s n a b = let e : k ≡ 2 ^ H + i = omega (arith, n.number) in subst (λ (z : ℕ). Upwards z k) e here
holds_up H i (suc h) k s n a b = elim (le_or_lt (s + 2 ^ h) i) [
  | inl g ↦ subst (Upwards (2 ^ H + i)) (odd k) (upwards_more (holds_up H i h (2 * k + 1) (s + 2 ^ h) (node-high H h k s n) g (omega (arith, pow-succ' 2 h))))
  | inr g ↦ subst (Upwards (2 ^ H + i)) (even k) (upwards_more (holds_up H i h (2 * k) s (node-low H h k s n) a g))
]
  where
    even : (k : ℕ) → 2 * k / 2 ≡ k
    even k = omega arith

    odd : (k : ℕ) → (2 * k + 1) / 2 ≡ k
    odd k = omega arith

-- a node above the leaves has a lesser number than every leaf
pub inner_small : (H h k s : ℕ) → NodeAt H (suc h) k s → k < 2 ^ H
inner_small H h k s n =
    let w = pow_pos h in
    let e = (node-low H h k s n).number in
    let r = (node-low H h k s n).room in
    let g : 2 * k * 1 ≤ 2 * k * 2 ^ h = mul-le-mul_left (2 * k) w in
    omega arith

leaf_large : (H k s : ℕ) → NodeAt H 0 k s → 2 ^ H ≤ k
leaf_large H k s n = omega (arith, n.number)

some_number : (H h k s : ℕ) → NodeAt H h k s → 0 < k
some_number H h zero s n = absurd (omega (arith, n.number, zero-mul (2 ^ h), pow_pos H))
some_number H h (suc k) s n = omega arith

-- the numbers of all nodes are below twice the number of the leaves
pub node-small : (H h k s : ℕ) → NodeAt H h k s → k < 2 * 2 ^ H
node-small H h k s n =
    let g : k * 1 ≤ k * 2 ^ h = mul-le-mul_left k (pow_pos h) in
    omega (arith, n.number, n.room, pow_pos h)

-- every node but c and those above it decides for the new rows
abbrev pub Merging : List ℕ → List Row → (ℕ → NetSummary) → ℕ → ℕ → Type 0
Merging ls new t H c = (h k s : ℕ) → NodeAt H h k s → (Upwards c k → ⊥) → Decides ls new (t k) s (s + 2 ^ h)

module _ (ls : List ℕ) (new : List Row) (H : ℕ) where
  -- the leaf is written
  pub merging_begins : (old : List Row) (t u : ℕ → NetSummary) (i : ℕ) → SameOff ls old new i → Covers ls old t H → Decides ls new (u (2 ^ H + i)) i (i + 1) → ((k : ℕ) → (k ≡ 2 ^ H + i → ⊥) → u k ≡ t k) → Merging ls new u H ((2 ^ H + i) / 2)
  merging_begins old t u i off covers search_leaf rest h k s n clear = go h n
    where
      leaf-is : (h : ℕ) → NodeAt H h k s → k ≡ 2 ^ H + i → (h ≡ 0) × (s ≡ i)
      leaf-is zero n e = (refl, omega (arith, n.number))
      leaf-is (suc h) n e = absurd (omega (arith, inner_small H h k s n))

      -- off the leaf nothing has changed
      outside : (h : ℕ) → NodeAt H h k s → Outside i s (s + 2 ^ h) → Decides ls new (u k) s (s + 2 ^ h)
      outside h n o m = ap (λ (z : NetSummary). summary_has_other z m) (rest k other) ∙ covers h k s n m ∙ off m s (s + 2 ^ h) o
        where
          other : k ≡ 2 ^ H + i → ⊥
          other e = let g = leaf-is h n e in elim o [ inl x ↦ omega (arith, g.1) | inr x ↦ omega (arith, g.1, pow_pos h) ]

      inside : (h : ℕ) → NodeAt H h k s → s ≤ i → i < s + 2 ^ h → Decides ls new (u k) s (s + 2 ^ h)
      inside h n a b = elim (upwards_next (holds_up H i h k s n a b)) [
        | inr p ↦ absurd (clear p)
        | inl e ↦ at_leaf h n e
      ]
        where
          at_leaf : (h : ℕ) → NodeAt H h k s → k ≡ 2 ^ H + i → Decides ls new (u k) s (s + 2 ^ h)
          at_leaf zero n e = let g = (leaf-is zero n e).1 in rw (e, g) search_leaf
          at_leaf (suc h) n e = absurd (omega (arith, inner_small H h k s n))

      go : (h : ℕ) → NodeAt H h k s → Decides ls new (u k) s (s + 2 ^ h)
      go h n = elim (le_or_lt s i) [
        | inr x ↦ outside h n (inl x)
        | inl x ↦ elim (le_or_lt (s + 2 ^ h) i) [ inl y ↦ outside h n (inr y) | inr y ↦ inside h n x y ]
      ]

  -- a node is merged anew from its children
  pub merging_goes_on : (t u : ℕ → NetSummary) (c : ℕ) → 0 < c → c < 2 ^ H → ((n : ℕ) → summary_has_other (u c) n ≡ (summary_has_other (t (2 * c)) n || summary_has_other (t (2 * c + 1)) n)) → ((k : ℕ) → (k ≡ c → ⊥) → u k ≡ t k) → Merging ls new t H c → Merging ls new u H (c / 2)
  merging_goes_on t u c some small merged rest m h k s n clear = elim (same_or_not k c) [
    | inr o ↦ λ j. ap (λ (z : NetSummary). summary_has_other z j) (rest k o) ∙ m h k s n (λ p. elim (upwards_next p) [ inl e ↦ o e | inr g ↦ clear g ]) j
    | inl e ↦ at h n e
  ]
    where
      at : (h : ℕ) → NodeAt H h k s → k ≡ c → Decides ls new (u k) s (s + 2 ^ h)
      at zero n e = absurd (omega (arith, leaf_large H k s n))
      at (suc h) n e =
          let low = m h (2 * k) s (node-low H h k s n) (λ p. omega (arith, upwards_le p)) in
          let high = m h (2 * k + 1) (s + 2 ^ h) (node-high H h k s n) (λ p. omega (arith, upwards_le p)) in
          let joined = subst (λ (z : ℕ). (n : ℕ) → summary_has_other (u z) n ≡ (summary_has_other (t (2 * z)) n || summary_has_other (t (2 * z + 1)) n)) (sym e) merged in
          let whole = merged_decides ls new (t (2 * k)) (t (2 * k + 1)) (u k) s (s + 2 ^ h) (s + 2 ^ h + 2 ^ h) (omega arith) (omega arith) joined low high in
          let w : s + 2 ^ h + 2 ^ h ≡ s + 2 ^ suc h = omega (arith, pow-succ' 2 h) in
          subst (Decides ls new (u k) s) w whole

  -- past the root every node decides
  pub merging_ends : (t : ℕ → NetSummary) → Merging ls new t H 0 → Covers ls new t H
  merging_ends t m h k s n = m h k s n (λ p. omega (arith, upwards_le p, some_number H h k s n))

-- before the first event no net is active
pub nothing_covers : (ls : List ℕ) (H : ℕ) (t : ℕ → NetSummary) → ((k : ℕ) → 0 < k → k < 2 * 2 ^ H → t k ≡ Nothing) → Covers ls [] t H
unfolding other_in summary_has_other some_of
nothing_covers ls H t e h k s n m = ap (λ (z : NetSummary). summary_has_other z m) (e k (some_number H h k s n) (node-small H h k s n))
