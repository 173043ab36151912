-- What only the contracts of the inner functions around marks cite: the leaves' ids in order, the groups of leaves that share an id, and a bit for each group that is exempt for a net.
use Rattle.std.specs.Prelude.{◌≡◌, ◌⊎◌, true, IfSome, Option, List, ℕ, ◌+◌, ◌*◌, ◌/◌, ◌≤◌, ◌<◌, length, get_or, drop}
use Rattle.bitset.specs.Inner.Members.{member}
use Rattle.drawing.specs.Entries.{Exemption}
use Rattle.clearance.specs.Figures.{exempt}
use Rattle.clearance_call.specs.Inner.Stored.{leaf_at}
use Rattle.exemptions.specs.Inner.Exempting.{word_at, Rising, LowerBound}

-- s holds 11 words for each of m leaves, then a tree of 9 words for each, and nothing more
pub record TreeAtEnd (s : List ℕ) (m : ℕ) : Type 0 where
  pub whole : length s ≡ 20 * m
  pub few : m ≤ 4096

-- the first m words ascend, every leaf's id is one of them, and the words from index m on are unchanged
pub record IdsSorted (before after : List ℕ) (m : ℕ) : Type 0 where
  pub rising : Rising after m
  pub behind : drop m after ≡ drop m before
  pub every : (j : ℕ) → j < m → (q : ℕ) × (q < m) × (get_or after q 0 ≡ (leaf_at (drop (11 * m) before) j).id)

-- the first m words of `ids` ascend, and the group of each of the m leaves of the tree w is the first index there that has its id
pub record Grouped (ids groups w : List ℕ) (m : ℕ) : Type 0 where
  pub rising : Rising ids m
  pub few : m ≤ 4096
  pub whole : length w ≡ 9 * m
  pub first : (j : ℕ) → j < m → LowerBound (word_at ids) 0 m (leaf_at w j).id (get_or groups j 0)
  pub there : (j : ℕ) → j < m → (get_or groups j 0 < m) × (word_at ids (get_or groups j 0) ≡ (leaf_at w j).id)

-- the leaves are grouped where there are exemptions, and the tree is unchanged
pub record LeavesGrouped (before after : List ℕ) (m exemptions : ℕ) : Type 0 where
  pub tree : drop (11 * m) after ≡ drop (11 * m) before
  pub leaves : 0 < exemptions → Grouped after (drop m after) (drop (11 * m) after) m

-- the group of an id was added to the marked ones, if there is one, and no other
pub record Added (ids : List ℕ) (m id : ℕ) (before after : List ℕ) : Type 0 where
  pub same : length after ≡ length before
  pub kept : (g : ℕ) → member before g ≡ true → member after g ≡ true
  pub every : (g : ℕ) → LowerBound (word_at ids) 0 m id g → g < m → word_at ids g ≡ id → g / 64 < length before → member after g ≡ true
  pub only : (g : ℕ) → member after g ≡ true → (member before g ≡ true) ⊎ (word_at ids g ≡ id)

-- the marks are those of a net: a leaf of the tree w has a marked group exactly where its id is exempt for the net
pub record MarksOf (marks groups w : List ℕ) (ex : List Exemption) (net : ℕ) : Type 0 where
  pub leaf : (j : ℕ) → 9 * (j + 1) ≤ length w → member marks (get_or groups j 0) ≡ exempt ex net (leaf_at w j).id

-- the same where there is a net
abbrev pub MarksIfAny : List ℕ → List ℕ → List ℕ → List Exemption → Option ℕ → Type 0
MarksIfAny marks groups w ex marked = IfSome marked (λ net. MarksOf marks groups w ex net)
