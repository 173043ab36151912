-- Of a file that is read: its parts are where their counts say, and nothing follows them. Assumes nothing.
use Rattle.std.specs.Prelude.{Ok, Err}
use mathlib.Core.Path.{◌≡◌, refl, sym, ap, subst, ◌∙◌}
use mathlib.Core.Logic.{inl, inr}
use mathlib.Core.Bool.{Bool}
use mathlib.Core.List.{List, [], ◌∷◌, map}
use Prim.Native.Nat.{ℕ, ◌+◌, ◌-◌, ◌*◌, ◌≤◌}
use native.Mathlib.Omega.{arith}
use lib.ListN.{length, drop, length-drop}
use Rattle.laws.proofs.Tests.{le_or_lt, decide}
use Rattle.drawing.specs.declared.refusal.Refusal.{Refusal}
use Rattle.drawing.specs.declared.refusal.Refusal.TheVariants.{MalformedFile}
use Rattle.file.specs.declared.reading.Header.{Header}
use Rattle.file.specs.Reading.{Read, got, refused, then, counted, Drawing, parts, ended, read}
use Rattle.file.specs.Inner.Places.{places}
use Rattle.file.specs.Columns.{reading_of}
use Rattle.file.proofs.Fixed.{Fixed, then-got, then-refused}
use Rattle.file.proofs.FixedParts.{fixed-version, fixed-segment, fixed-node, fixed-exemption, fixed-settings}
use Rattle.file.proofs.FixedLists.{PartAt, listed_of, part_of, count-got}
use Rattle.file.proofs.ReadingParts.{nodes_place, exemptions_place, settings_place, HasVersion, HasSegments, HasNodes, HasExemptions, drawing_of, header_at, header_is, whole_file}

-- a refusal is no reading
no_reading : {A B : Type 0} (x : Read A) (r : Refusal) (a : A) (l : List ℕ) → x ≡ refused r → x ≡ got a l → B
no_reading x r a l e g = let d : refused r ≡ got a l = sym e ∙ g in let z : ◌≡◌ {A = ℕ} 0 1 = cc in absurd (omega arith)

-- ---- where a part and what follows are read, the part is read
module _ {A B : Type 0} {w : ℕ} {bad : List ℕ → Bool} {value : List ℕ → A} {entry : List ℕ → Read A} (f : Fixed w bad value entry) where
  pub record First (l : List ℕ) (k : A → List ℕ → Read B) (b : B) (r : List ℕ) : Type 0 where
    pub whole : w ≤ length l
    pub reads : entry l ≡ got (value l) (drop w l)
    pub next : k (value l) (drop w l) ≡ got b r

  first_of : (l : List ℕ) (k : A → List ℕ → Read B) (b : B) (r : List ℕ) → then (entry l) k ≡ got b r → First l k b r
  first_of l k b r e = elim (le_or_lt w (length l)) [
    | inr h ↦ no_reading _ MalformedFile b r (then-refused (entry l) k MalformedFile (f.short l h)) e
    | inl h ↦ elim (decide (bad l)) [
      | inl t ↦ no_reading _ MalformedFile b r (then-refused (entry l) k MalformedFile (f.wrong l h t)) e
      | inr t ↦ let g = f.reads l h t in record { whole = h; reads = g; next = sym (then-got (entry l) k _ _ g) ∙ e }
    ]
  ]

  pub record Part (limit : ℕ) (l : List ℕ) (at : ℕ) (k : List A → List ℕ → Read B) (b : B) (r : List ℕ) : Type 0 where
    pub n : ℕ
    pub part : PartAt limit w value entry l at n
    pub next : k (map value (places w n (drop (at + 4) l))) (drop (at + 4 + w * n) l) ≡ got b r

  list_of : (limit : ℕ) (l : List ℕ) (at : ℕ) → at ≤ length l → (k : List A → List ℕ → Read B) (b : B) (r : List ℕ) → then (counted limit entry (drop at l)) k ≡ got b r → Part limit l at k b r
  list_of limit l at h k b r e = go (counted limit entry (drop at l)) refl
    where
      go : (x : Read (List A)) → counted limit entry (drop at l) ≡ x → Part limit l at k b r
      go (refused q) g = no_reading _ q b r (then-refused _ k q g) e
      go (got items rest) g =
          let n = length items in
          let p = part_of h (listed_of f limit (drop at l) n (count-got _ items rest n g refl)) in
          record { n = n; part = p; next = sym (then-got (counted limit entry (drop at l)) k _ _ p.reads) ∙ e }

-- ---- the whole file
pub record Laid (l : List ℕ) (s n e : ℕ) : Type 0 where
  pub segments : HasSegments l s
  pub nodes : HasNodes l s n
  pub exemptions : HasExemptions l s n e
  pub whole : length l ≡ settings_place s n e + 40
  pub is : read l ≡ got (drawing_of l s n e) []

ended_inverse : {A : Type 0} (a b : A) (l r : List ℕ) → ended a l ≡ got b r → length l ≡ 0
unfolding ended
ended_inverse a b [] r e = refl
ended_inverse a b (c ∷ l) r e = cc

pub record Counts (l : List ℕ) : Type 0 where
  pub s : ℕ
  pub n : ℕ
  pub e : ℕ
  pub laid : Laid l s n e

laid_parts : (l : List ℕ) (d : Drawing) (r : List ℕ) → parts l ≡ got d r → length r ≡ 0 → Counts l
unfolding parts
laid_parts l d r e z =
    let v = first_of fixed-version l _ d r e in
    let a = list_of fixed-segment 120 l 1 v.whole _ d r v.next in
    let b = list_of fixed-node 120 l (nodes_place a.n) a.part.room _ d r a.next in
    let c = list_of fixed-exemption 240 l (exemptions_place a.n b.n) b.part.room _ d r b.next in
    let at = settings_place a.n b.n c.n in
    let f = first_of fixed-settings (drop at l) _ d r c.next in
    let enough : 40 ≤ length l - at = simp length-drop at f.whole in
    let rest : drop 40 (drop at l) ≡ r = cc f.next in
    let none : length l - at - 40 ≡ 0 = simp length-drop at (ap length rest ∙ z) in
    let whole : length l ≡ at + 40 = omega arith in
    let version : HasVersion l = record { some = v.whole; reads = v.reads } in
    record {
      s = a.n;
      n = b.n;
      e = c.n;
      laid = record { segments = a.part; nodes = b.part; exemptions = c.part; whole = whole; is = whole_file l version a.n a.part b.n b.part c.n c.part whole };
    }

laid_read : (l : List ℕ) (d : Drawing) (r : List ℕ) → read l ≡ got d r → Counts l
unfolding read
laid_read l d r e = go (parts l) refl
  where
    go : (x : Read Drawing) → parts l ≡ x → Counts l
    go (refused q) g = no_reading _ q d r (then-refused (parts l) ended q g) e
    go (got a rest) g = laid_parts l a rest g (ended_inverse a d rest r (sym (then-got (parts l) ended a rest g) ∙ e))

-- the counts are those that the call returns
pub laid : (l : List ℕ) (h : Header) → Ok h ≡ reading_of (read l) → Laid l h.segments h.nodes h.exemptions
unfolding reading_of
laid l h e = go (read l) refl
  where
    go : (y : Read Drawing) → read l ≡ y → Laid l h.segments h.nodes h.exemptions
    go (refused q) k = let d : Ok h ≡ Err q = e ∙ ap reading_of k in let z : ◌≡◌ {A = ℕ} 0 1 = cc in absurd (omega arith)
    go (got d r) k =
        let c = laid_read l d r k in
        let same : Ok h ≡ Ok (header_at l c.s c.n c.e) = e ∙ ap reading_of c.laid.is ∙ ap Ok (header_is l c.s c.n c.e) in
        let q : header_at l c.s c.n c.e ≡ h = cc in
        subst (λ (t : Header). Laid l t.segments t.nodes t.exemptions) q c.laid
