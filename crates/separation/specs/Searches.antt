-- The tree of active nets: its searches and its `set`, each with the nodes that it touches. SCOPE 5.11: "Every node touched by a search or a `set` costs one visit".
-- A tree of h levels has 2 to the power h leaves; the first of them are the lines. Its root is node 1, and the children of node k are 2 k and 2 k + 1. A node over h levels whose first leaf is s covers the leaves from s on, before s + 2 ^ h.
use Rattle.std.specs.Prelude.{Bool, true, false, not, ◌&&◌, List, ℕ, zero, suc, ◌+◌, ◌*◌, ◌^◌, leb, ltb, eqb, Option, None, Some}
use Rattle.laws.specs.Lists.{some_of}
use Rattle.laws.specs.Charged.{Charged, free, visit, after}
use Rattle.rows.specs.Rows.{Row}
use Rattle.separation.specs.Lines.{index}

-- SCOPE 5.11: some active segment of another net than n is on a line whose index is at least a and below b: what the Rust's summaries decide (`two-nets_decide` in proofs/TwoNets.antt)
unfoldable pub other_in : List ℕ → List Row → ℕ → ℕ → ℕ → Bool
other_in ls active n a b = some_of (λ r. not (eqb r.net n) && (leb a (index ls r.line) && ltb (index ls r.line) b)) active

-- a leaf s that is touched: found where it is wanted
abbrev pub search_leaf : Bool → ℕ → Charged (Option ℕ)
search_leaf true s = visit (free (Some s))
search_leaf false s = visit (free None)

-- the second child is searched where the first one's search is empty
abbrev pub or_else : Option ℕ → Charged (Option ℕ) → Charged (Option ℕ)
or_else (Some i) two = free (Some i)
or_else None two = two

-- a node that is touched: its children are searched where a wanted leaf may be below it
abbrev pub search_node : Bool → Charged (Option ℕ) → Charged (Option ℕ) → Charged (Option ℕ)
search_node true one two = visit (after one (λ r. or_else r two))
search_node false one two = visit (free None)

-- SCOPE 5.10, 5.11: `search_rightmost` from node k, the last leaf below q for which `has` holds. `has` takes a node's number, which only the tree in the scratch needs, its first leaf and its end.
unfoldable pub rightmost : (ℕ → ℕ → ℕ → Bool) → ℕ → ℕ → ℕ → ℕ → Charged (Option ℕ)
rightmost has q zero k s = search_leaf (ltb s q && has k s (s + 1)) s
rightmost has q (suc h) k s =
    let high = rightmost has q h (2 * k + 1) (s + 2 ^ h) in
    let low = rightmost has q h (2 * k) s in
    search_node (ltb s q && has k s (s + 2 ^ suc h)) high low

-- SCOPE 5.10, 5.11: `search_leftmost` from node k, the first leaf from q on for which `has` holds
unfoldable pub leftmost : (ℕ → ℕ → ℕ → Bool) → ℕ → ℕ → ℕ → ℕ → Charged (Option ℕ)
leftmost has q zero k s = search_leaf (ltb q (s + 1) && has k s (s + 1)) s
leftmost has q (suc h) k s =
    let low = leftmost has q h (2 * k) s in
    let high = leftmost has q h (2 * k + 1) (s + 2 ^ h) in
    search_node (ltb q (s + 2 ^ suc h) && has k s (s + 2 ^ suc h)) low high

-- SCOPE 5.11: `set` touches a leaf and each node above it up to the root
unfoldable pub set_run : ℕ → Charged (Unit {0})
set_run zero = visit (free tt)
set_run (suc h) = visit (set_run h)
