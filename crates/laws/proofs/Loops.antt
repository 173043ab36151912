-- A loop whose steps are charged, within an allowance: at each index the remaining entries, from the loop's state and within the remaining visits, give what all entries give. One law for every loop over a list of steps. Assumes nothing.
use mathlib.Core.Path.{◌≡◌, sym, ap, ◌∙◌}
use mathlib.Core.List.{List, [], ◌∷◌, map}
use Prim.Native.Nat.{ℕ, suc, ◌+◌, ◌≤◌, ◌<◌}
use native.Mathlib.Omega.{arith}
use native.Mathlib.Numerals.{add-one}
use lib.ListN.{length, get_or, take, drop, length-map, drop_of_length-le, get_or-map}
use lib.Seq.{drop-cons, get_or-take, length-take-le}
use Rattle.laws.specs.Charged.{Charged, runs}
use Rattle.laws.specs.Inner.Allowance.{Outcome, spent, left, within, onward}
use Rattle.laws.proofs.Runs.{within_none, within_next, onward-spent, onward-left}

-- the entries `rest`, from the state s with m remaining visits, give `all`
pub record ComesTo {S X : Type 0} (step : S → X → Charged S) (all : Outcome S) (rest : List X) (s : S) (m : ℕ) : Type 0 where
  pub come : within m (runs step s rest) ≡ all

module _ {S X : Type 0} {step : S → X → Charged S} {all : Outcome S} {rest : List X} {s : S} {m : ℕ} (o : ComesTo step all rest s m) where
  -- ---- one entry x, and then the others
  module _ {x : X} {later : List X} (next : rest ≡ x ∷ later) where
    split : all ≡ onward (within m (step s x)) (λ t k. within k (runs step t later))
    split = sym o.come ∙ ap (λ (l : List X). within m (runs step s l)) next ∙ within_next step m s x later

    pub loop_next : {t : S} {k : ℕ} → within m (step s x) ≡ left t k → ComesTo step all later t k
    loop_next {t} {k} e = record { come = sym (split ∙ ap (λ (z : Outcome S). onward z (λ t k. within k (runs step t later))) e ∙ onward-left t k (λ t k. within k (runs step t later))) }

    pub loop_stops : within m (step s x) ≡ spent → all ≡ spent
    loop_stops e = split ∙ ap (λ (z : Outcome S). onward z (λ t k. within k (runs step t later))) e ∙ onward-spent (λ t k. within k (runs step t later))

  -- ---- no entry is left
  pub loop_ends : rest ≡ [] → all ≡ left s m
  loop_ends e = sym o.come ∙ ap (λ (l : List X). within m (runs step s l)) e ∙ within_none step m s

-- ---- the entries by index, where each of the first n words of a table encodes one of them
module _ {W X : Type 0} (d : W) (f : W → X) (n : ℕ) (words : List W) (inside : n ≤ length words) (l : List X) (entries : map f (take n words) ≡ l) where
  pub table_length : length l ≡ n
  table_length = ap length (sym entries) ∙ length-map (take n words) f ∙ length-take-le n words inside

  pub table_next : (q : ℕ) → q < n → drop q l ≡ f (get_or words q d) ∷ drop (q + 1) l
  table_next q h =
      let here : get_or l q (f d) ≡ f (get_or words q d) = ap (λ (z : List X). get_or z q (f d)) (sym entries) ∙ get_or-map f (take n words) q d ∙ ap f (get_or-take n words q d h) in
      rw (add-one q) (drop-cons l q (f d) (omega (arith, table_length)) ∙ ap (λ (x : X). x ∷ drop (suc q) l) here)

  pub table_none : (q : ℕ) → n ≤ q → drop q l ≡ []
  table_none q h = drop_of_length-le l {i = q} (omega (arith, table_length))
