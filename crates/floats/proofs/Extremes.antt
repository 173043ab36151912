-- `lesser_of` and `greater_of` of two numbers: the least and the greatest rank; of numbers that are not negative: the least and the greatest magnitude, in any order and grouping. Assumes nothing.
use Rattle.std.proofs.Common.{◌≡◌, ℕ, ◌<◌, ◌≤◌, min, max, Bool, true, false, cond, not, T, ltb, sym, ap, ◌∙◌, subst, inl, inr, arith, ltb→lt, nltb→le, ltb-false, ltb-true}
use lib.Ieee.{Float, binary64, lt}
use Rattle.laws.proofs.Tests.{decide, cond_true, cond_false}
use Rattle.floats.specs.Values.{lesser_of, greater_of}
use Rattle.floats.proofs.Rank.{mag, rank, Num, lt_rank}
use Rattle.floats.proofs.Gaps.{Good, good_one, good_lt}

-- an operation on such numbers that is `on` of the magnitudes, and its laws as an operation on floats
pub record Extreme (op : Float → Float → Float) (on : ℕ → ℕ → ℕ) : Type 0 where
  pub good : (x y : Float) → Good x → Good y → Good (op x y)
  pub size : (x y : Float) → Good x → Good y → mag binary64 (op x y) ≡ on (mag binary64 x) (mag binary64 y)
  pub comm : (x y : Float) → Good x → Good y → op x y ≡ op y x
  pub assoc : (x y z : Float) → Good x → Good y → Good z → op (op x y) z ≡ op x (op y z)
  pub same : (x : Float) → Good x → op x x ≡ x

module _ (op : Float → Float → Float) (on : ℕ → ℕ → ℕ) (op-good : (x y : Float) → Good x → Good y → Good (op x y)) (op-size : (x y : Float) → Good x → Good y → mag binary64 (op x y) ≡ on (mag binary64 x) (mag binary64 y)) where
  by_magnitude : ((m n : ℕ) → on m n ≡ on n m) → ((m n k : ℕ) → on (on m n) k ≡ on m (on n k)) → ((m : ℕ) → on m m ≡ m) → Extreme op on
  by_magnitude turn group once = record {
    good = op-good;
    size = op-size;
    comm = λ x y p q. good_one (op x y) (op y x) (op-good x y p q) (op-good y x q p) (op-size x y p q ∙ turn (mag binary64 x) (mag binary64 y) ∙ sym (op-size y x q p));
    assoc = λ x y z p q r. let u = op-good x y p q in let v = op-good y z q r in
        good_one (op (op x y) z) (op x (op y z)) (op-good (op x y) z u r) (op-good x (op y z) p v)
        (op-size (op x y) z u r
        ∙ ap (λ (k : ℕ). on k (mag binary64 z)) (op-size x y p q)
        ∙ group (mag binary64 x) (mag binary64 y) (mag binary64 z)
        ∙ sym (op-size x (op y z) p v ∙ ap (on (mag binary64 x)) (op-size y z q r)));
    same = λ x p. good_one (op x x) x (op-good x x p p) p (op-size x x p p ∙ once (mag binary64 x));
  }

-- what a comparison picks
pub picked : (P : Float → Type 0) (b : Bool) (x y : Float) → P x → P y → P (cond b y x)
picked P true x y p q = q
picked P false x y p q = p

picked_mag : (b : Bool) (x y : Float) (m n r : ℕ) → b ≡ ltb m n → (m < n → mag binary64 y ≡ r) → (n ≤ m → mag binary64 x ≡ r) → mag binary64 (cond b y x) ≡ r
picked_mag b x y m n r e h k = go b (λ t. h (ltb→lt m n (subst T e t))) (λ t. k (nltb→le m n (subst (λ (c : Bool). T (not c)) e t)))
  where
    go : (b : Bool) → (T b → mag binary64 y ≡ r) → (T (not b) → mag binary64 x ≡ r) → mag binary64 (cond b y x) ≡ r
    go true h k = h tt
    go false h k = k tt

pub lesser : Extreme lesser_of min
unfolding lesser_of
lesser =
    by_magnitude lesser_of min (λ x y p q. picked Good (lt y x) x y p q)
    (λ x y p q. picked_mag (lt y x) x y (mag binary64 y) (mag binary64 x) (min (mag binary64 x) (mag binary64 y)) (good_lt y x q p) (λ h. omega arith) (λ h. omega arith))
    (λ m n. omega arith) (λ m n k. omega arith) (λ m. omega arith)

pub greater : Extreme greater_of max
unfolding greater_of
greater =
    by_magnitude greater_of max (λ x y p q. picked Good (lt x y) x y p q)
    (λ x y p q. picked_mag (lt x y) x y (mag binary64 x) (mag binary64 y) (max (mag binary64 x) (mag binary64 y)) (good_lt x y p q) (λ h. omega arith) (λ h. omega arith))
    (λ m n. omega arith) (λ m n k. omega arith) (λ m. omega arith)

-- ---- of any two numbers, by ranks
module _ (x y : Float) (p : Num binary64 x) (q : Num binary64 y) where
  pub lesser_rank : rank binary64 (lesser_of x y) ≡ min (rank binary64 x) (rank binary64 y)
  unfolding lesser_of
  lesser_rank = elim (decide (lt y x)) [
    | inl t ↦ let h = ltb-true (rank binary64 y) (rank binary64 x) (sym (lt_rank binary64 y x q p) ∙ t) in rw (cond_true (lt y x) y x t) (omega arith)
    | inr f ↦ let h = ltb-false (rank binary64 y) (rank binary64 x) (sym (lt_rank binary64 y x q p) ∙ f) in rw (cond_false (lt y x) y x f) (omega arith)
  ]

  pub greater_rank : rank binary64 (greater_of x y) ≡ max (rank binary64 x) (rank binary64 y)
  unfolding greater_of
  greater_rank = elim (decide (lt x y)) [
    | inl t ↦ let h = ltb-true (rank binary64 x) (rank binary64 y) (sym (lt_rank binary64 x y p q) ∙ t) in rw (cond_true (lt x y) y x t) (omega arith)
    | inr f ↦ let h = ltb-false (rank binary64 x) (rank binary64 y) (sym (lt_rank binary64 x y p q) ∙ f) in rw (cond_false (lt x y) y x f) (omega arith)
  ]
