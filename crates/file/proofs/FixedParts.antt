-- The parts of the file that are of one width, with what their bytes say by offsets. Assumes nothing.
use mathlib.Core.Path.{◌≡◌, refl, ap, ◌∙◌}
use mathlib.Core.Bool.{Bool, false, not, cond}
use mathlib.Core.List.{List}
use Prim.Native.Nat.{ℕ, ◌+◌}
use native.Mathlib.Omega.{arith}
use borrow.Author.Tests.{not-true, not-false}
use lib.Dec.{ltb, eqb}
use lib.Ieee.{Float, binary64, of_bits}
use lib.ListN.{take, drop}
use lib.Seq.{drop-drop}
use Rattle.laws.proofs.Tests.{cond_true, cond_false, or_false}
use Rattle.drawing.specs.declared.lists.Segment.{Segment}
use Rattle.drawing.specs.Entries.{Node, Exemption}
use Rattle.drawing.specs.declared.refusal.Refusal.TheVariants.{MalformedFile}
use Rattle.file.specs.Reading.{got, refused, big_endian, float, version_byte, orientation, segment, node, exemption, Settings, settings}
use Rattle.file.proofs.Fixed.{Fixed, fixed_number, fixed-got, fixed_then, fixed_as}

-- the number of k bytes, and the float, from an offset on
abbrev pub number_at : ℕ → ℕ → List ℕ → ℕ
number_at k o l = big_endian 0 (take k (drop o l))

abbrev pub float_at : ℕ → List ℕ → Float
float_at o l = of_bits binary64 (number_at 8 o l)

-- ---- one value
fixed-float : Fixed 8 (λ l. false) (float_at 0) float
unfolding float
fixed-float = fixed_then (fixed_number 8) (λ n. fixed-got (of_bits binary64 n))

-- a value that is refused by a test on it
fixed_unless : {A : Type 0} (b : Bool) (a : A) → Fixed 0 (λ l. b) (λ l. a) (λ l. cond b (refused MalformedFile) (got a l))
fixed_unless b a =
    record {
      short = λ l h. absurd (omega arith);
      wrong = λ l h e. cond_true b _ _ e;
      reads = λ l h e. cond_false b _ _ e;
    }

fixed_where : {A : Type 0} (b : Bool) (a : A) → Fixed 0 (λ l. not b) (λ l. a) (λ l. cond b (got a l) (refused MalformedFile))
fixed_where b a =
    record {
      short = λ l h. absurd (omega arith);
      wrong = λ l h e. cond_false b _ _ (not-true b e);
      reads = λ l h e. cond_true b _ _ (not-false b e);
    }

pub fixed-version : Fixed 1 (λ l. not (eqb (number_at 1 0 l) 1)) (number_at 1 0) version_byte
unfolding version_byte
fixed-version = fixed_then (fixed_number 1) (λ n. fixed_where (eqb n 1) n)

fixed-orientation : Fixed 1 (λ l. ltb 1 (number_at 1 0 l)) (number_at 1 0) orientation
unfolding orientation
fixed-orientation = fixed_then (fixed_number 1) (λ n. fixed_unless (ltb 1 n) n)

-- ---- the entries and the settings
abbrev pub segment_of : List ℕ → Segment
segment_of l = record { net = number_at 4 0 l; orientation = number_at 1 4 l; fixed = float_at 5 l; start = float_at 13 l; end = float_at 21 l }

abbrev pub node_of : List ℕ → Node
node_of l = record { id = number_at 4 0 l; x = float_at 4 l; y = float_at 12 l; width = float_at 20 l; height = float_at 28 l }

abbrev pub exemption_of : List ℕ → Exemption
exemption_of l = record { net = number_at 4 0 l; node = number_at 4 4 l }

abbrev pub settings_of : List ℕ → Settings
settings_of l = record { threshold = float_at 0 l; cutoff = float_at 8 l; clearance = number_at 8 16 l; separation = number_at 8 24 l; congestion = number_at 8 32 l }

abbrev pub bad_orientation : List ℕ → Bool
bad_orientation l = ltb 1 (number_at 1 4 l)

abbrev pub no_fault : List ℕ → Bool
no_fault l = false

-- an offset from another
further : (k m : ℕ) (r l : List ℕ) → r ≡ drop m l → drop k r ≡ drop (m + k) l
further k m r l e = ap (drop k) e ∙ drop-drop k m l

pub fixed-segment : Fixed 29 bad_orientation segment_of segment
unfolding segment
fixed-segment =
    fixed_as refl (λ l. or_false (bad_orientation l)) (λ l.
    let a = drop-drop 1 4 l in
    let b = further 8 5 _ l a in
    let c = further 8 13 _ l b in
    λ i. record { net = number_at 4 0 l; orientation = number_at 1 4 l; fixed = float_at 0 (a i); start = float_at 0 (b i); end = float_at 0 (c i) })
    (fixed_then (fixed_number 4) (λ n.
    fixed_then fixed-orientation (λ o.
    fixed_then fixed-float (λ f.
    fixed_then fixed-float (λ s.
    fixed_then fixed-float (λ e.
    fixed-got (record { net = n; orientation = o; fixed = f; start = s; end = e })))))))

pub fixed-node : Fixed 36 no_fault node_of node
unfolding node
fixed-node =
    fixed_as refl (λ l. refl) (λ l.
    let a = drop-drop 8 4 l in
    let b = further 8 12 _ l a in
    let c = further 8 20 _ l b in
    λ i. record { id = number_at 4 0 l; x = float_at 4 l; y = float_at 0 (a i); width = float_at 0 (b i); height = float_at 0 (c i) })
    (fixed_then (fixed_number 4) (λ i.
    fixed_then fixed-float (λ x.
    fixed_then fixed-float (λ y.
    fixed_then fixed-float (λ w.
    fixed_then fixed-float (λ h.
    fixed-got (record { id = i; x = x; y = y; width = w; height = h })))))))

pub fixed-exemption : Fixed 8 no_fault exemption_of exemption
unfolding exemption
fixed-exemption =
    fixed_as refl (λ l. refl) (λ l. refl)
    (fixed_then (fixed_number 4) (λ n.
    fixed_then (fixed_number 4) (λ m.
    fixed-got (record { net = n; node = m }))))

pub fixed-settings : Fixed 40 no_fault settings_of settings
unfolding settings
fixed-settings =
    fixed_as refl (λ l. refl) (λ l.
    let a = drop-drop 8 8 l in
    let b = further 8 16 _ l a in
    let c = further 8 24 _ l b in
    λ i. record { threshold = float_at 0 l; cutoff = float_at 8 l; clearance = number_at 8 0 (a i); separation = number_at 8 0 (b i); congestion = number_at 8 0 (c i) })
    (fixed_then fixed-float (λ t.
    fixed_then fixed-float (λ c.
    fixed_then (fixed_number 8) (λ a.
    fixed_then (fixed_number 8) (λ b.
    fixed_then (fixed_number 8) (λ d.
    fixed-got (record { threshold = t; cutoff = c; clearance = a; separation = b; congestion = d })))))))
