-- The parts of the file in sequence: which one refuses it, and what is read where none does. Assumes nothing.
use Rattle.std.specs.Prelude.{Ok, Err}
use mathlib.Core.Path.{◌≡◌, refl, sym, ap, ◌∙◌}
use mathlib.Core.Logic.{inl, inr}
use mathlib.Core.Bool.{Bool, true, not}
use mathlib.Core.List.{List, [], ◌∷◌, map}
use Prim.Native.Nat.{ℕ, ◌+◌, ◌-◌, ◌*◌, ◌≤◌, ◌<◌}
use native.Mathlib.Omega.{arith}
use borrow.Author.Tests.{eq-eqb, ne_eqb}
use lib.Dec.{eqb}
use lib.ListN.{length, get_or, drop, length-drop, length-map}
use lib.Seq.{drop-drop}
use Rattle.laws.specs.Lists.{some_of}
use Rattle.laws.proofs.Tests.{le_or_lt}
use Rattle.drawing.specs.declared.refusal.Refusal.{Refusal}
use Rattle.drawing.specs.declared.refusal.Refusal.TheVariants.{MalformedFile}
use Rattle.file.specs.declared.reading.Header.{Header}
use Rattle.file.specs.Reading.{got, refused, number, version_byte, counted, segment, node, exemption, Drawing, parts, ended, read}
use Rattle.file.specs.Inner.Places.{places, count_of}
use Rattle.file.specs.Columns.{header_of, reading_of}
use Rattle.file.proofs.Fixed.{then-got, then-refused, fixed_number}
use Rattle.file.proofs.FixedParts.{number_at, float_at, segment_of, node_of, exemption_of, settings_of, bad_orientation, fixed-version, fixed-segment, fixed-node, fixed-exemption, fixed-settings}
use Rattle.file.proofs.FixedPlaces.{length-places}
use Rattle.file.proofs.FixedLists.{There, PartAt, listed_of, listed_as, part_of, refused-of, refused_as}
use Rattle.file.proofs.ColumnsFilled.{byte_is}

-- ---- the orientation bytes of the segments
pub counted_of : (l : List ℕ) (n : ℕ) → Ok n ≡ count_of (counted 120 (number 29) l) → There 120 29 l n
counted_of l n e = (listed_of (fixed_number 29) 120 l n e).there

pub entries_inside : (l : List ℕ) (n : ℕ) → 1 ≤ length l → There 120 29 (drop 1 l) n → 5 + 29 * n ≤ length l
entries_inside l n h t = let w : 4 + 29 * n ≤ length l - 1 = simp length-drop at t.whole in omega arith

pub orientation_as : (l : List ℕ) (n : ℕ) (b : Bool) → some_of bad_orientation (places 29 n (drop 5 l)) ≡ b → some_of bad_orientation (places 29 n (drop 4 (drop 1 l))) ≡ b
orientation_as l n b e = ap (λ (r : List ℕ). some_of bad_orientation (places 29 n r)) (drop-drop 4 1 l) ∙ e

-- ---- where the parts are
abbrev pub nodes_place : ℕ → ℕ
nodes_place s = 5 + 29 * s

abbrev pub exemptions_place : ℕ → ℕ → ℕ
exemptions_place s n = nodes_place s + 4 + 36 * n

abbrev pub settings_place : ℕ → ℕ → ℕ → ℕ
settings_place s n e = exemptions_place s n + 4 + 8 * e

abbrev pub HasSegments : List ℕ → ℕ → Type 0
HasSegments l s = PartAt 120 29 segment_of segment l 1 s

abbrev pub HasNodes : List ℕ → ℕ → ℕ → Type 0
HasNodes l s n = PartAt 120 36 node_of node l (nodes_place s) n

abbrev pub HasExemptions : List ℕ → ℕ → ℕ → ℕ → Type 0
HasExemptions l s n e = PartAt 240 8 exemption_of exemption l (exemptions_place s n) e

-- the drawing by the counts of its lists
abbrev pub drawing_of : List ℕ → ℕ → ℕ → ℕ → Drawing
drawing_of l s n e =
    record {
      segments = map segment_of (places 29 s (drop 5 l));
      nodes = map node_of (places 36 n (drop (nodes_place s + 4) l));
      exemptions = map exemption_of (places 8 e (drop (exemptions_place s n + 4) l));
      settings = settings_of (drop (settings_place s n e) l);
    }

abbrev pub header_at : List ℕ → ℕ → ℕ → ℕ → Header
header_at l s n e =
    let at = settings_place s n e in
    record { segments = s; nodes = n; exemptions = e; threshold = float_at at l; cutoff = float_at (at + 8) l; clearance = number_at 8 (at + 16) l; separation = number_at 8 (at + 24) l; congestion = number_at 8 (at + 32) l }

-- its lists are as long as the counts say
pub header_is : (l : List ℕ) (s n e : ℕ) → header_of (drawing_of l s n e) ≡ header_at l s n e
unfolding header_of
header_is l s n e =
    let at = settings_place s n e in
    λ i.
    record {
      segments = (length-map (places 29 s (drop 5 l)) segment_of ∙ length-places 29 s (drop 5 l)) i;
      nodes = (length-map (places 36 n (drop (nodes_place s + 4) l)) node_of ∙ length-places 36 n (drop (nodes_place s + 4) l)) i;
      exemptions = (length-map (places 8 e (drop (exemptions_place s n + 4) l)) exemption_of ∙ length-places 8 e (drop (exemptions_place s n + 4) l)) i;
      threshold = float_at at l;
      cutoff = float_at 0 (drop-drop 8 at l i);
      clearance = number_at 8 0 (drop-drop 16 at l i);
      separation = number_at 8 0 (drop-drop 24 at l i);
      congestion = number_at 8 0 (drop-drop 32 at l i);
    }

-- ---- what a part's refusal means for the file
refused_reading : (l : List ℕ) (r : Refusal) → parts l ≡ refused r → Err r ≡ reading_of (read l)
unfolding read reading_of
refused_reading l r e = sym (ap reading_of (then-refused (parts l) ended r e))

ended_more : {A : Type 0} (a : A) (r : List ℕ) → 0 < length r → ended a r ≡ refused MalformedFile
unfolding ended
ended_more a [] h = absurd (omega arith)
ended_more a (b ∷ r) h = refl

ended-there : {A : Type 0} (a : A) (r : List ℕ) → length r ≡ 0 → ended a r ≡ got a []
unfolding ended
ended-there a [] h = refl
ended-there a (b ∷ r) h = absurd (omega arith)

pub no_version : (l : List ℕ) → length l < 1 → Err MalformedFile ≡ reading_of (read l)
unfolding parts
no_version l h = refused_reading l MalformedFile (then-refused _ _ MalformedFile (fixed-version.short l (omega arith)))

pub other-version : (l : List ℕ) → 1 ≤ length l → (get_or l 0 0 ≡ 1 → ⊥) → Err MalformedFile ≡ reading_of (read l)
unfolding parts
other-version l h k =
    let some : 0 < length l = omega arith in
    let e : not (eqb (number_at 1 0 l) 1) ≡ true = ap not (ne_eqb (number_at 1 0 l) 1 (λ g. k (byte_is 0 l some ∙ g))) in
    refused_reading l MalformedFile (then-refused _ _ MalformedFile (fixed-version.wrong l some e))

pub record HasVersion (l : List ℕ) : Type 0 where
  pub some : 1 ≤ length l
  pub reads : version_byte l ≡ got (number_at 1 0 l) (drop 1 l)

pub has_version : (l : List ℕ) → 1 ≤ length l → get_or l 0 0 ≡ 1 → HasVersion l
has_version l h k =
    let some : 0 < length l = omega arith in
    record { some = some; reads = fixed-version.reads l some (ap not (eq-eqb (number_at 1 0 l) 1 (sym (byte_is 0 l some) ∙ k))) }

-- ---- what is known from the counts that were found
module _ (l : List ℕ) where
  pub segments-of : HasVersion l → (s : ℕ) → Ok s ≡ count_of (counted 120 segment (drop 1 l)) → HasSegments l s
  segments-of v s e = part_of v.some (listed_of fixed-segment 120 (drop 1 l) s e)

  pub nodes-of : (s : ℕ) → HasSegments l s → (n : ℕ) → Ok n ≡ count_of (counted 120 (number 36) (drop (nodes_place s) l)) → HasNodes l s n
  nodes-of s a n e = part_of a.room (listed_as fixed-node 120 (drop (nodes_place s) l) n e)

  pub exemptions-of : (s n : ℕ) → HasNodes l s n → (e : ℕ) → Ok e ≡ count_of (counted 240 (number 8) (drop (exemptions_place s n) l)) → HasExemptions l s n e
  exemptions-of s n b k e = part_of b.room (listed_as fixed-exemption 240 (drop (exemptions_place s n) l) k e)

module _ (l : List ℕ) (v : HasVersion l) where
  pub no_segments : (r : Refusal) → Err r ≡ count_of (counted 120 segment (drop 1 l)) → Err r ≡ reading_of (read l)
  unfolding parts
  no_segments r e = refused_reading l r (then-got _ _ _ _ v.reads ∙ then-refused _ _ r (refused-of (counted 120 segment (drop 1 l)) r e))

  module _ (s : ℕ) (a : HasSegments l s) where
    pub no_nodes : (r : Refusal) → Err r ≡ count_of (counted 120 (number 36) (drop (nodes_place s) l)) → Err r ≡ reading_of (read l)
    unfolding parts
    no_nodes r e = refused_reading l r (then-got _ _ _ _ v.reads ∙ then-got _ _ _ _ a.reads ∙ then-refused _ _ r (refused_as fixed-node 120 (drop (nodes_place s) l) r e))

    module _ (n : ℕ) (b : HasNodes l s n) where
      pub no_exemptions : (r : Refusal) → Err r ≡ count_of (counted 240 (number 8) (drop (exemptions_place s n) l)) → Err r ≡ reading_of (read l)
      unfolding parts
      no_exemptions r e = refused_reading l r (then-got _ _ _ _ v.reads ∙ then-got _ _ _ _ a.reads ∙ then-got _ _ _ _ b.reads ∙ then-refused _ _ r (refused_as fixed-exemption 240 (drop (exemptions_place s n) l) r e))

      module _ (e : ℕ) (c : HasExemptions l s n e) where
        no_settings : length l < settings_place s n e + 40 → Err MalformedFile ≡ reading_of (read l)
        unfolding parts
        no_settings h = refused_reading l MalformedFile (then-got _ _ _ _ v.reads ∙ then-got _ _ _ _ a.reads ∙ then-got _ _ _ _ b.reads ∙ then-got _ _ _ _ c.reads ∙ then-refused _ _ MalformedFile (fixed-settings.short (drop (settings_place s n e) l) (simp length-drop (omega arith))))

        all-parts : settings_place s n e + 40 ≤ length l → parts l ≡ got (drawing_of l s n e) (drop (settings_place s n e + 40) l)
        unfolding parts
        all-parts h = then-got _ _ _ _ v.reads ∙ then-got _ _ _ _ a.reads ∙ then-got _ _ _ _ b.reads ∙ then-got _ _ _ _ c.reads ∙ then-got _ _ _ _ (fixed-settings.reads (drop (settings_place s n e) l) (simp length-drop (omega arith)) refl) ∙ ap (got (drawing_of l s n e)) (drop-drop 40 (settings_place s n e) l)

        pub other_length : (length l ≡ settings_place s n e + 40 → ⊥) → Err MalformedFile ≡ reading_of (read l)
        unfolding read reading_of
        other_length h = elim (le_or_lt (settings_place s n e + 40) (length l)) [
          | inr k ↦ no_settings k
          | inl k ↦ sym (ap reading_of (then-got (parts l) ended _ _ (all-parts k) ∙ ended_more _ (drop (settings_place s n e + 40) l) (simp length-drop (omega arith))))
        ]

        pub whole_file : length l ≡ settings_place s n e + 40 → read l ≡ got (drawing_of l s n e) []
        unfolding read
        whole_file h = then-got (parts l) ended _ _ (all-parts (omega arith)) ∙ ended-there (drawing_of l s n e) (drop (settings_place s n e + 40) l) (simp length-drop (omega arith))

        -- the header of the drawing, where its parts are those of the file
        pub right_header : (h : Header) → length l ≡ settings_place s n e + 40 → h ≡ header_at l s n e → Ok h ≡ reading_of (read l)
        unfolding reading_of
        right_header h k g = sym (ap reading_of (whole_file k) ∙ ap Ok (header_is l s n e ∙ sym g))
