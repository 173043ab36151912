-- What the contracts of these functions cite: the exemptions as words in ascending order, and the indices of one net's.
use Rattle.std.specs.Prelude.{◌≡◌, List, map, ℕ, ◌+◌, ◌*◌, ◌/◌, ◌%◌, ◌≤◌, ◌<◌, length, get_or, take, drop}
use Rattle.laws.specs.Perm.{Perm}
use Rattle.drawing.specs.Entries.{Exemption, ExemptionColumns, exemptions}
use Rattle.exemptions.specs.declared.Range.{Range}

-- net and node in one word: the net is the upper half
abbrev pub word : ℕ → ℕ → ℕ
word net node = net * 4294967296 + node

abbrev pub unpacked : ℕ → Exemption
unpacked v = record { net = v / 4294967296; node = v % 4294967296 }

-- the word at an index, and its node
abbrev pub word_at : List ℕ → ℕ → ℕ
word_at words i = get_or words i 0

abbrev pub node_of : List ℕ → ℕ → ℕ
node_of words i = (unpacked (get_or words i 0)).node

-- the keys at the indices from a on and before b ascend
abbrev pub Ascending : (ℕ → ℕ) → ℕ → ℕ → Type 0
Ascending key a b = (i j : ℕ) → a ≤ i → i ≤ j → j < b → key i ≤ key j

-- the first k words ascend
pub record Rising (words : List ℕ) (k : ℕ) : Type 0 where
  pub room : k ≤ length words
  pub order : Ascending (word_at words) 0 k

-- words hold these exemptions: the first words, as many as there are exemptions, ascend and are the exemptions in some order
pub record Holds (words : List ℕ) (ex : List Exemption) : Type 0 where
  pub rising : Rising words (length ex)
  pub same : Perm (map unpacked (take (length ex) words)) ex

-- the exemptions of the columns are held, and the words after them are unchanged
pub record Gathered (c : ExemptionColumns) (before after : List ℕ) : Type 0 where
  pub holds : Holds after (exemptions c)
  pub count : length (exemptions c) ≡ length c.net
  pub rest : drop (length c.net) after ≡ drop (length c.net) before

-- r is the first index from a on and before b whose key is at least v, or b
pub record LowerBound (key : ℕ → ℕ) (a b v r : ℕ) : Type 0 where
  pub from : a ≤ r
  pub to : r ≤ b
  pub below : (i : ℕ) → a ≤ i → i < r → key i < v
  pub above : (i : ℕ) → r ≤ i → i < b → v ≤ key i

-- of the first k words, those of the range and no others are words of the net
pub record Own (words : List ℕ) (k net : ℕ) (r : Range) : Type 0 where
  pub ordered : r.from ≤ r.to
  pub inside : r.to ≤ k
  pub own : (i : ℕ) → r.from ≤ i → i < r.to → (unpacked (get_or words i 0)).net ≡ net
  pub others : (i : ℕ) → i < k → (unpacked (get_or words i 0)).net ≡ net → (r.from ≤ i) × (i < r.to)

-- the range is that of the net's exemptions in words that hold these exemptions
pub record Listed (words : List ℕ) (ex : List Exemption) (net : ℕ) (r : Range) : Type 0 where
  pub holds : Holds words ex
  pub places : Own words (length ex) net r
