-- SCOPE 5.11: the Rust's own summary of the nets that are active on some lines, function by function: the first two different ones that it meets. The port stores less (Inner/Summaries.antt). By `two-nets_decide` in proofs/TwoNets.antt the Rust's tree answers what the walk asks of it.
use Rattle.std.specs.Prelude.{Bool, false, not, ◌||◌, cond, List, [], ◌∷◌, ℕ, zero, suc, ◌+◌, ◌^◌, leb, eqb, Option, None, Some}
use Rattle.laws.specs.Lists.{chosen}
use Rattle.laws.specs.Sort.{sort_by}
use Rattle.rows.specs.Rows.{Row}
use Rattle.separation.specs.Lines.{index}

-- `NetSummary`: the first two different nets that it meets
pub record TwoNets : Type 0 where
  pub first : Option ℕ
  pub second : Option ℕ

-- `== Some(net)`
abbrev pub is_net : Option ℕ → ℕ → Bool
is_net None n = false
is_net (Some m) n = eqb m n

-- a net that is neither of the two becomes the first where there is none, else the second where there is none
abbrev pub placed : Option ℕ → Option ℕ → ℕ → TwoNets
placed None b n = record { first = Some n; second = b }
placed (Some a) None n = record { first = Some a; second = Some n }
placed (Some a) (Some b) n = record { first = Some a; second = Some b }

-- `insert`
unfoldable pub insert : TwoNets → ℕ → TwoNets
insert s n = cond (is_net s.first n || is_net s.second n) s (placed s.first s.second n)

-- the loop of `from_nets`. The Rust stops once the second net is there, which changes nothing: `insert` leaves two nets as they are.
unfoldable pub insert_all : TwoNets → List ℕ → TwoNets
insert_all s [] = s
insert_all s (n ∷ l) = insert_all (insert s n) l

-- `from_nets`, from `default`
unfoldable pub from_nets : List ℕ → TwoNets
from_nets l = insert_all (record { first = None; second = None }) l

-- `flatten`: a net that is present comes before those of l
abbrev pub listed : Option ℕ → List ℕ → List ℕ
listed None l = l
listed (Some n) l = n ∷ l

-- `merged`
unfoldable pub merged : TwoNets → TwoNets → TwoNets
merged l r = from_nets (listed l.first (listed l.second (listed r.first (listed r.second []))))

-- `is_some_and(|net| net != excluded)`
abbrev pub is_other : Option ℕ → ℕ → Bool
is_other None n = false
is_other (Some m) n = not (eqb m n)

-- `has_other`
unfoldable pub has_other : TwoNets → ℕ → Bool
has_other s n = is_other s.first n || is_other s.second n

-- what the `ActiveNetTree` holds at the node over h levels whose first leaf is s. A leaf holds what `set` last stored for its line: `from_nets` of the keys of the line's map, which are the nets active there, ascending. A net may be in this list several times where the map has it once; `insert` ignores the others. A node above the leaves holds what `set` merges from its two children. All nodes start as `default`, and two of these merge to `default`.
unfoldable pub summary_over : List ℕ → List Row → ℕ → ℕ → TwoNets
summary_over ls active zero s = from_nets (sort_by leb (chosen (λ r. eqb (index ls r.line) s) (λ r. r.net) active))
summary_over ls active (suc h) s = merged (summary_over ls active h s) (summary_over ls active h (s + 2 ^ h))
