-- The answer's number and values, and the columns of a file that is read: what a filled column is in the drawing's terms. Assumes nothing.
use Rattle.std.specs.Prelude.{Result, Ok, Err}
use mathlib.Core.Path.{◌≡◌, refl, sym, ap, ◌∙◌}
use mathlib.Core.List.{List, ◌++◌, map, map-map}
use Prim.Native.Nat.{ℕ}
use native.Mathlib.Omega.{arith}
use lib.ListN.{length, drop, length-map}
use Rattle.drawing.specs.declared.refusal.Refusal.{Refusal}
use Rattle.file.specs.declared.reading.Header.{Header}
use Rattle.file.specs.Reading.{Read, got, refused, Drawing, read}
use Rattle.file.specs.Inner.Places.{places}
use Rattle.file.specs.Columns.{header_of, reading_of, result_of, file_result, column_after}
use Rattle.file.proofs.FixedPlaces.{length-places}

-- an answer has the number and values of its file
pub reading_result : (x : Result Header Refusal) (r : Read Drawing) → x ≡ reading_of r → result_of x ≡ file_result r
unfolding reading_of result_of file_result
reading_result x (got d rest) e = ap result_of e
reading_result x (refused w) e = ap result_of e

-- a filled column is f of the entries, where f of an entry is the value of its field
pub column-read : {A B : Type 0} (list : Drawing → List A) (f : A → B) (value : List ℕ → A) (g : List ℕ → B) (w n : ℕ) (t l : List ℕ) (d : Drawing) (r : List ℕ) (old out : List B) → read l ≡ got d r → list d ≡ map value (places w n t) → ((u : List ℕ) → f (value u) ≡ g u) → out ≡ map g (places w n t) ++ drop n old → out ≡ column_after list f (read l) old
unfolding column_after
column-read list f value g w n t l d r old out e p q h =
    let ps = places w n t in
    let same : map f (list d) ≡ map g ps = ap (map f) p ∙ map-map f value ps ∙ (λ i. map (λ u. q u i) ps) in
    let count : length (list d) ≡ n = ap length p ∙ length-map ps value ∙ length-places w n t in
    h ∙ sym (ap (λ (y : Read Drawing). column_after list f y old) e ∙ (λ i. same i ++ drop (count i) old))

-- a refused file leaves a column as it was
pub column-kept : {A B : Type 0} (list : Drawing → List A) (f : A → B) (l : List ℕ) (q : Refusal) (old : List B) → Err q ≡ reading_of (read l) → old ≡ column_after list f (read l) old
unfolding column_after reading_of
column-kept list f l q old e = go (read l) refl
  where
    go : (y : Read Drawing) → read l ≡ y → old ≡ column_after list f (read l) old
    go (refused r) k = sym (ap (λ (y : Read Drawing). column_after list f y old) k)
    go (got d r) k = let d : Err q ≡ Ok (header_of d) = e ∙ ap reading_of k in let z : ◌≡◌ {A = ℕ} 0 1 = cc in absurd (omega arith)
