-- Lines are keys of finite floats, in totalOrder: their gaps are good, +0 on one line and nonzero on two, and a nearer pair of lines has no larger gap. Assumes nothing.
use mathlib.Core.Path.{◌≡◌, sym, ap, ◌∙◌, subst}
use mathlib.Core.Logic.{inl, inr}
use mathlib.Core.Bool.{true, not}
use Prim.Native.Nat.{ℕ, ◌+◌, ◌≤◌, ◌<◌, min, max}
use native.Mathlib.Omega.{arith}
use lib.Ieee.{Float, binary64, eq}
use lib.Ieee.Scale.{overflow}
use Rattle.laws.proofs.Tests.{decide, of_true, le_or_lt, same_or_not}
use Rattle.floats.specs.Values.{plus_zero, canonical_zero, gap_of}
use Rattle.floats.specs.TotalOrder.{key_of, float_at}
use Rattle.floats.proofs.Rank.{mag, rank, Fin, fin_num, distance, →lt, eq→, →eq}
use Rattle.floats.proofs.Zeros.{canonical_one}
use Rattle.floats.proofs.Gaps.{Good, good_one, good_rank, zero_good, gap_good, gap_mono, gap-of-equal, equal-of-gap}
use Rattle.floats.proofs.NumberKeys.{key-lt, float_back}
use Rattle.separation.specs.Figures.{nonzero}
use Rattle.separation.proofs.NearestLines.{Closer}

-- a finite float that is not -0
pub record Plain (x : Float) : Type 0 where
  pub fin : Fin binary64 x
  pub plus : canonical_zero x ≡ x

-- ---- keys and ranks have one order
pub key-of_rank : (x y : Float) → Fin binary64 x → Fin binary64 y → rank binary64 x < rank binary64 y → key_of x < key_of y
key-of_rank x y p q h = key-lt x y (fin_num binary64 x p) (fin_num binary64 y q) (→lt binary64 x y (fin_num binary64 x p) (fin_num binary64 y q) h)

pub rank_of_key : (x y : Float) → Fin binary64 x → Fin binary64 y → key_of x ≤ key_of y → rank binary64 x ≤ rank binary64 y
rank_of_key x y p q h = elim (le_or_lt (rank binary64 x) (rank binary64 y)) [ inl k ↦ k | inr k ↦ absurd (omega (arith, key-of_rank y x q p k)) ]

pub plain-one : (x y : Float) → Plain x → Plain y → rank binary64 x ≡ rank binary64 y → x ≡ y
plain-one x y p q h = sym p.plus ∙ canonical_one binary64 x y (fin_num binary64 x p.fin) (fin_num binary64 y q.fin) h ∙ q.plus

pub rank_below_key : (x y : Float) → Plain x → Plain y → key_of x < key_of y → rank binary64 x < rank binary64 y
rank_below_key x y p q h = elim (le_or_lt (rank binary64 y) (rank binary64 x)) [
  | inr k ↦ k
  | inl k ↦ absurd (elim (same_or_not (rank binary64 x) (rank binary64 y)) [
    | inl e ↦ omega (arith, ap key_of (plain-one x y p q e))
    | inr n ↦ omega (arith, key-of_rank y x q.fin p.fin (strict k n))
  ])
]
  where
    strict : {a b : ℕ} → b ≤ a → (a ≡ b → ⊥) → b < a
    strict h n = omega arith

-- ---- the key of such a float
pub record Placed (p : ℕ) : Type 0 where
  pub plain : Plain (float_at p)
  pub back : key_of (float_at p) ≡ p

pub placed : (x : Float) → Plain x → Placed (key_of x)
placed x p =
    let e = float_back x p.fin.0 in
    record { plain = subst Plain (sym e) p; back = ap key_of e }

abbrev pub gap_at : ℕ × ℕ → Float
gap_at c = gap_of (float_at c.0) (float_at c.1)

module _ (c : ℕ × ℕ) (p : Placed c.0) (q : Placed c.1) where
  pub at_good : Good (gap_at c)
  at_good = gap_good (float_at c.0) (float_at c.1) p.plain.fin q.plain.fin

  -- one line: the gap is +0
  pub at_one : c.0 ≡ c.1 → gap_at c ≡ plus_zero
  at_one e =
      let a = p.plain.fin in
      let b = q.plain.fin in
      gap-of-equal (float_at c.0) (float_at c.1) a b (→eq binary64 (float_at c.0) (float_at c.1) (fin_num binary64 _ a) (fin_num binary64 _ b) (ap (λ (k : ℕ). rank binary64 (float_at k)) e))

  -- two lines: it is not zero
  zero-of-eq : eq (gap_at c) plus_zero ≡ true → gap_at c ≡ plus_zero
  zero-of-eq t = good_one (gap_at c) plus_zero at_good zero_good (same (overflow binary64) (mag binary64 (gap_at c)) (mag binary64 plus_zero) (sym (good_rank (gap_at c) at_good) ∙ eq→ binary64 (gap_at c) plus_zero at_good.num zero_good.num (of_true (eq (gap_at c) plus_zero) t) ∙ good_rank plus_zero zero_good))
    where
      same : (B m n : ℕ) → B + m ≡ B + n → m ≡ n
      same B m n e = omega arith

  zero_one : gap_at c ≡ plus_zero → c.0 ≡ c.1
  zero_one e =
      let x = float_at c.0 in
      let y = float_at c.1 in
      let a = p.plain.fin in
      let b = q.plain.fin in
      sym p.back ∙ ap key_of (plain-one x y p.plain q.plain (eq→ binary64 x y (fin_num binary64 x a) (fin_num binary64 y b) (equal-of-gap x y a b e))) ∙ q.back

  pub at-two : (c.0 ≡ c.1 → ⊥) → nonzero (gap_at c) ≡ true
  unfolding nonzero
  at-two n = elim (decide (eq (gap_at c) plus_zero)) [
    | inl t ↦ absurd (n (zero_one (zero-of-eq t)))
    | inr f ↦ ap not f
  ]

-- ---- a nearer pair
pub nearer : (c d : ℕ × ℕ) → Placed c.0 → Placed c.1 → Placed d.0 → Placed d.1 → Closer c d.0 d.1 → mag binary64 (gap_at c) ≤ mag binary64 (gap_at d)
nearer c d p q r s k = gap_mono (float_at c.0) (float_at c.1) (float_at d.0) (float_at d.1) p.plain.fin q.plain.fin r.plain.fin s.plain.fin (within c.0 c.1 d.0 d.1 p q r s k.low k.high)
  where
    up : (a b : ℕ) → Placed a → Placed b → a ≤ b → rank binary64 (float_at a) ≤ rank binary64 (float_at b)
    up a b x y h = rank_of_key (float_at a) (float_at b) x.plain.fin y.plain.fin (omega (arith, x.back, y.back))

    -- both ends of c lie between those of d
    inside : (m n i j : ℕ) → i ≤ m → i ≤ n → m ≤ j → n ≤ j → distance m n ≤ distance i j
    inside m n i j a b x y = omega arith

    turn : (i j : ℕ) → distance i j ≡ distance j i
    turn i j = omega arith

    within : (a b u v : ℕ) → Placed a → Placed b → Placed u → Placed v → min u v ≤ min a b → max a b ≤ max u v
        → distance (rank binary64 (float_at a)) (rank binary64 (float_at b)) ≤ distance (rank binary64 (float_at u)) (rank binary64 (float_at v))
    within a b u v x y z w l h = elim (le_or_lt u v) [
      | inl g ↦ inside _ _ _ _ (up u a z x (omega arith)) (up u b z y (omega arith)) (up a v x w (omega arith)) (up b v y w (omega arith))
      | inr g ↦ rw (turn (rank binary64 (float_at u)) (rank binary64 (float_at v))) (inside _ _ _ _ (up v a w x (omega arith)) (up v b w y (omega arith)) (up a u x z (omega arith)) (up b u y z (omega arith)))
    ]
