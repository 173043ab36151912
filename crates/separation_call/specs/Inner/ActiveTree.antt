-- What only inner contracts cite: the tree of active nets as words of the scratch, and what its summaries decide.
-- The tree over 2 to the power H leaves takes twice as many words; node k's summary is word k, word 0 stays unused.
use Rattle.drawing.specs.declared.refusal.Refusal.TheVariants.{WorkLimitExceeded}
use Rattle.drawing.specs.declared.refusal.Refusal.{Refusal}
use Rattle.std.specs.Prelude.{◌≡◌, ◌⊎◌, Bool, List, ℕ, ◌+◌, ◌*◌, ◌^◌, ◌≤◌, ◌<◌, length, get_or, Result, Ok, Err}
use Rattle.laws.specs.Inner.Allowance.{Outcome, spent, left}
use Rattle.rows.specs.Rows.{Row}
use Rattle.separation.specs.declared.summary.NetSummary.{NetSummary}
use Rattle.separation.specs.Searches.{other_in}
use Rattle.separation.specs.Inner.Summaries.{summary_has_other, summary_of_word}

-- node k's summary
abbrev pub summary_at : List ℕ → ℕ → NetSummary
summary_at t k = summary_of_word (get_or t k 0)

-- the answer of `has_other_at`, by the outcome of its run within an allowance
unfoldable pub other_net_of : Outcome Bool → Result (Bool × ℕ) Refusal
other_net_of spent = Err WorkLimitExceeded
other_net_of (left b m) = Ok (b, m)

-- the answer of a `set`, by the outcome of its run within an allowance
unfoldable pub charge_of : Outcome (Unit {0}) → Result ℕ Refusal
charge_of spent = Err WorkLimitExceeded
charge_of (left u m) = Ok m

-- ---- the nodes of a tree of H levels: node k over h levels, whose first leaf is s
pub record NodeAt (H h k s : ℕ) : Type 0 where
  pub number : k * 2 ^ h ≡ 2 ^ H + s
  pub room : s + 2 ^ h ≤ 2 ^ H

-- words that hold a tree over this number of leaves
pub record Leaves (t : List ℕ) (leaves : ℕ) : Type 0 where
  pub height : ℕ
  pub count : leaves ≡ 2 ^ height
  pub room : 2 * leaves ≤ length t

-- a node of such a tree: the leaves below it are those from `start` on, before `end`
pub record Below (t : List ℕ) (node start end : ℕ) : Type 0 where
  pub height : ℕ
  pub level : ℕ
  pub at : NodeAt height level node start
  pub to : end ≡ start + 2 ^ level
  pub room : 2 * 2 ^ height ≤ length t

-- ---- a summary decides for the leaves from a on, before b: for every net it says whether another one is active there
abbrev pub Decides : List ℕ → List Row → NetSummary → ℕ → ℕ → Type 0
Decides ls active s a b = (n : ℕ) → summary_has_other s n ≡ other_in ls active n a b

-- every node's summary decides for its leaves; t k is that of node k
abbrev pub Covers : List ℕ → List Row → (ℕ → NetSummary) → ℕ → Type 0
Covers ls active t H = (h k s : ℕ) → NodeAt H h k s → Decides ls active (t k) s (s + 2 ^ h)

-- a start or an end changes only the ranges that hold its line
abbrev pub Outside : ℕ → ℕ → ℕ → Type 0
Outside i a b = (i < a) ⊎ (b ≤ i)

-- off the line i the two lists of rows answer alike
abbrev pub SameOff : List ℕ → List Row → List Row → ℕ → Type 0
SameOff ls old new i = (n a b : ℕ) → Outside i a b → other_in ls old n a b ≡ other_in ls new n a b

-- a leaf's new summary is stored in the tree t, which becomes u: where t decided for the old rows and the summary decides for the new ones at leaf i, u decides for the new rows
abbrev pub Renewed : List ℕ → List ℕ → ℕ → ℕ → NetSummary → Type 0
Renewed t u H i summary = (ls : List ℕ) (old new : List Row) → SameOff ls old new i → Covers ls old (summary_at t) H → Decides ls new summary i (i + 1) → Covers ls new (summary_at u) H
