-- Canonical segments: finite numbers without -0, start not above end, orientation byte 0 or 1. Their keys are in the order of their values, and they are known by their rows. Assumes nothing.
use mathlib.Core.Path.{◌≡◌, sym, ap, ◌∙◌}
use mathlib.Core.Bool.{Bool, true, false, not, ◌||◌}
use mathlib.Core.List.{[], ◌∷◌}
use Prim.Native.Nat.{ℕ, ◌-◌, ◌≤◌, ◌<◌}
use native.Mathlib.Omega.{arith}
use lib.Dec.{ltb}
use lib.Ieee.{Float, binary64, lt, le}
use lib.Ieee.Scale.{finite}
use borrow.Author.Tests.{ltb-false, lt-ltb, le-ltb}
use Rattle.laws.proofs.Tests.{is_true}
use Rattle.floats.specs.TotalOrder.{key_of}
use Rattle.floats.specs.Values.{canonical_zero}
use Rattle.floats.proofs.Rank.{rank, fin_num, lt_rank, lt→, →le, →lt}
use Rattle.floats.proofs.Zeros.{canonical_again, canonical_rank, canonical_fin}
use Rattle.floats.proofs.NumberKeys.{key-lt, canonical_key, key-of-one}
use Rattle.floats.proofs.Trichotomy.{lt_asym}
use Rattle.drawing.specs.declared.lists.Segment.{Segment}
use Rattle.drawing.specs.Entries.{as_taken}
use Rattle.drawing.specs.Conditions.{unfit_fields, unfit_segment}
use Rattle.drawing.specs.Held.{FitSegment}
use Rattle.drawing.proofs.Directions.{taken_kept}
use Rattle.drawing.proofs.Fit.{line_of}
use Rattle.joining.specs.Points.{Finite, NetLine, net_line_of}
use Rattle.joining.specs.Joined.{canonical_zeros, line_row}

-- ---- numbers without -0, by their keys
pub record Number (x : Float) : Type 0 where
  pub fin : Finite x
  pub zero : canonical_zero x ≡ x

module _ (x y : Float) (p : Number x) (q : Number y) where
  pub key_below : key_of x < key_of y → lt x y ≡ true
  key_below h = canonical_key x y (fin_num binary64 x p.fin) (fin_num binary64 y q.fin) p.zero q.zero ∙ lt-ltb (key_of x) (key_of y) h

  pub key_upto : key_of x ≤ key_of y → le x y ≡ true
  key_upto h =
      let u = fin_num binary64 x p.fin in
      let v = fin_num binary64 y q.fin in
      is_true (le x y) (→le binary64 x y u v (ltb-false (rank binary64 y) (rank binary64 x) (sym (lt_rank binary64 y x v u) ∙ canonical_key y x v u q.zero p.zero ∙ le-ltb (key_of y) (key_of x) h)))

  pub number-one : key_of x ≡ key_of y → x ≡ y
  number-one h = key-of-one x y p.fin.0 q.fin.0 h

-- a float without its -0 is one, and no further along the line
pub canonical_number : (x : Float) → Finite x → Number (canonical_zero x)
canonical_number x p = record { fin = canonical_fin binary64 x p; zero = canonical_again x }

pub zero_up : (x : Float) → Finite x → le x (canonical_zero x) ≡ true
zero_up x p = is_true (le x (canonical_zero x)) (→le binary64 x (canonical_zero x) (fin_num binary64 x p) (fin_num binary64 (canonical_zero x) (canonical_fin binary64 x p)) (let e = canonical_rank binary64 x p.0 in omega arith))

pub zero-down : (x : Float) → Finite x → le (canonical_zero x) x ≡ true
zero-down x p = is_true (le (canonical_zero x) x) (→le binary64 (canonical_zero x) x (fin_num binary64 (canonical_zero x) (canonical_fin binary64 x p)) (fin_num binary64 x p) (let e = canonical_rank binary64 x p.0 in omega arith))

-- ---- canonical_zeros segments
pub record Canonical (s : Segment) : Type 0 where
  pub orientation : s.orientation ≤ 1
  pub fixed : Number s.fixed
  pub start : Number s.start
  pub end : Number s.end
  pub rises : key_of s.start ≤ key_of s.end

-- start below end
abbrev pub Strict : Segment → Type 0
Strict s = key_of s.start < key_of s.end

module _ (s : Segment) (f : FitSegment s) where
  pub finite_fixed : Finite s.fixed
  finite_fixed = (f.held.fixed, (line_of s f.passes).fixed)

  pub finite_start : Finite s.start
  finite_start = (f.held.start, (line_of s f.passes).start)

  pub finite_end : Finite s.end
  finite_end = (f.held.end, (line_of s f.passes).end)

  pub canonical_strict : Strict (canonical_zeros s)
  unfolding canonical_zeros
  canonical_strict =
      let x = canonical_zero s.start in
      let y = canonical_zero s.end in
      let a = fin_num binary64 x (canonical_number s.start finite_start).fin in
      let b = fin_num binary64 y (canonical_number s.end finite_end).fin in
      let h = lt→ binary64 s.start s.end (fin_num binary64 s.start finite_start) (fin_num binary64 s.end finite_end) (line_of s f.passes).rising in
      key-lt x y a b (→lt binary64 x y a b (ranks (rank binary64 s.start) (rank binary64 s.end) (rank binary64 x) (rank binary64 y) h (canonical_rank binary64 s.start finite_start.0) (canonical_rank binary64 s.end finite_end.0)))
    where
      ranks : (a b c d : ℕ) → a < b → c ≡ a → d ≡ b → c < d
      ranks a b c d h p q = omega arith

  pub canonical_is : Canonical (canonical_zeros s)
  unfolding canonical_zeros
  canonical_is = record { orientation = (line_of s f.passes).orientation; fixed = canonical_number s.fixed finite_fixed; start = canonical_number s.start finite_start; end = canonical_number s.end finite_end; rises = let h = canonical_strict in omega arith }

-- ---- a canonical_zeros segment whose start is below its end is accepted, and taken as it is
fit-fields : (a b c d e : Bool) → a ≡ false → b ≡ true → c ≡ true → d ≡ true → e ≡ true → (a || not b || not c || not d || not e) ≡ false
fit-fields a b c d e p q r t u = rw (p, q, r, t, u)

module _ (s : Segment) (p : Canonical s) (h : Strict s) where
  pub strict_rises : lt s.start s.end ≡ true
  strict_rises = key_below s.start s.end p.start p.end h

  pub canonical_fit : FitSegment s
  unfolding unfit_segment unfit_fields
  canonical_fit = record {
    held = record { fixed = p.fixed.fin.0; start = p.start.fin.0; end = p.end.fin.0 };
    passes = fit-fields (ltb 1 s.orientation) (finite s.fixed) (finite s.start) (finite s.end) (lt s.start s.end) (le-ltb 1 s.orientation p.orientation) (is_true (finite s.fixed) p.fixed.fin.1) (is_true (finite s.start) p.start.fin.1) (is_true (finite s.end) p.end.fin.1) strict_rises;
  }

  pub canonical_taken : as_taken s ≡ s
  canonical_taken = taken_kept s (lt_asym s.start s.end strict_rises)

-- ---- a canonical_zeros segment is known by its line and its ends, and the line by its row
orientation-one : (o r : ℕ) → o ≤ 1 → r ≤ 1 → 1 - o ≡ 1 - r → o ≡ r
orientation-one o r a b e = omega arith

module _ (a b : Segment) (p : Canonical a) (q : Canonical b) where
  pub record Alike : Type 0 where
    pub net : a.net ≡ b.net
    pub orientation : a.orientation ≡ b.orientation
    pub fixed : a.fixed ≡ b.fixed

  pub alike : line_row a ≡ line_row b → Alike
  alike e = record { net = cc e; orientation = orientation-one a.orientation b.orientation p.orientation q.orientation (cc e); fixed = number-one a.fixed b.fixed p.fixed q.fixed (cc e) }

  pub line-of-row : line_row a ≡ line_row b → net_line_of a ≡ net_line_of b
  line-of-row e = let k = alike e in cc (k.net, k.orientation, ap canonical_zero k.fixed)

  pub row-of-line : net_line_of a ≡ net_line_of b → line_row a ≡ line_row b
  row-of-line e =
      let f : a.fixed ≡ b.fixed = sym p.fixed.zero ∙ ap (λ (t : NetLine). t.fixed) e ∙ q.fixed.zero in
      let n : a.net ≡ b.net = ap (λ (t : NetLine). t.net) e in
      let o : a.orientation ≡ b.orientation = ap (λ (t : NetLine). t.orientation) e in
      (λ i. n i ∷ (1 - o i) ∷ key_of (f i) ∷ [])

  pub piece_one : line_row a ≡ line_row b → key_of a.start ≡ key_of b.start → key_of a.end ≡ key_of b.end → a ≡ b
  piece_one e s t =
      let k = alike e in
      let u = number-one a.start b.start p.start q.start s in
      let v = number-one a.end b.end p.end q.end t in
      (λ i. record { net = k.net i; orientation = k.orientation i; fixed = k.fixed i; start = u i; end = v i })
