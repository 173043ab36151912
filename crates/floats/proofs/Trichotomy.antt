-- No float is both below and above another, and of two finite ones exactly one of below, equal and above holds, whatever their format. So two finite ends in rising order fail to rise exactly where they are equal. Assumes nothing.
use Rattle.std.proofs.Common.{◌≡◌, ℕ, ◌+◌, ◌*◌, Bool, true, false, not, ◌||◌, T, eqb, ltb, sym, refl, ap, ◌∙◌, inl, inr, arith, ltb-false, ltb-true, le-ltb, eq-eqb, eqb-true}
use lib.Ieee.{Float, nan, inf, fin, lt, eq, below, level, up, down}
use lib.Ieee.Scale.{finite}
use Rattle.laws.proofs.Tests.{decide, clash, and_left, and_right, neither_left, neither_right, or_false, cond_true, cond_false}
use Rattle.floats.specs.Values.{lesser_of, greater_of}

-- ---- of natural numbers with a sign
below_asym : (s t : Bool) (a b : ℕ) → below s a t b ≡ true → below t b s a ≡ false
below_asym false false a b h = le-ltb b a (omega (arith, ltb-true a b h))
below_asym false true a b h = clash false h refl
below_asym true false a b h = refl
below_asym true true a b h = le-ltb a b (omega (arith, ltb-true b a h))

level_not_below : (s t : Bool) (a b : ℕ) → level s a t b ≡ true → (below s a t b || below t b s a) ≡ false
level_not_below false false a b h = let e = eqb-true a b (and_left (eqb a b) _ h) in rw (le-ltb a b (omega arith), le-ltb b a (omega arith))
level_not_below false true a b h = le-ltb 0 (b + a) (omega (arith, eqb-true a b (and_left (eqb a b) _ h), eqb-true a 0 (and_right (eqb a b) (eqb a 0) h)))
level_not_below true false a b h = rw (le-ltb 0 (a + b) (omega (arith, eqb-true a b (and_left (eqb a b) _ h), eqb-true a 0 (and_right (eqb a b) (eqb a 0) h))))
level_not_below true true a b h = let e = eqb-true a b (and_left (eqb a b) _ h) in rw (le-ltb b a (omega arith), le-ltb a b (omega arith))

neither_level : (s t : Bool) (a b : ℕ) → (below s a t b || below t b s a) ≡ false → level s a t b ≡ true
neither_level false false a b h = rw (eq-eqb a b (omega (arith, ltb-false a b (neither_left (ltb a b) (ltb b a) h), ltb-false b a (neither_right (ltb a b) (ltb b a) h))))
neither_level false true a b h = let z = ltb-false 0 (b + a) h in rw (eq-eqb a b (omega arith), eq-eqb a 0 (omega arith))
neither_level true false a b h = let z = ltb-false 0 (a + b) (neither_left (ltb 0 (a + b)) false h) in rw (eq-eqb a b (omega arith), eq-eqb a 0 (omega arith))
neither_level true true a b h = rw (eq-eqb a b (omega (arith, ltb-false b a (neither_left (ltb b a) (ltb a b) h), ltb-false a b (neither_right (ltb b a) (ltb a b) h))))

level_iff : (s t : Bool) (a b : ℕ) (l c : Bool) → level s a t b ≡ l → (below s a t b || below t b s a) ≡ c → not c ≡ l
level_iff s t a b true true h k = clash true refl (sym k ∙ level_not_below s t a b h)
level_iff s t a b true false h k = refl
level_iff s t a b false true h k = refl
level_iff s t a b false false h k = clash true refl (sym (neither_level s t a b k) ∙ h)

-- ---- of floats
pub lt_asym : (x y : Float) → lt x y ≡ true → lt y x ≡ false
unfolding lt
lt_asym nan y h = clash false h refl
lt_asym (inf s) nan h = refl
lt_asym (inf false) (inf t) h = clash false h refl
lt_asym (inf true) (inf false) h = refl
lt_asym (inf true) (inf true) h = clash false h refl
lt_asym (inf false) (fin t n d) h = clash false h refl
lt_asym (inf true) (fin t n d) h = refl
lt_asym (fin s m e) nan h = refl
lt_asym (fin s m e) (inf false) h = refl
lt_asym (fin s m e) (inf true) h = clash false h refl
lt_asym (fin s m e) (fin t n d) h = below_asym s t (m * up e * down d) (n * up d * down e) h

-- neither below nor above is equal
pub neither_equal : (x y : Float) → T (finite x) → T (finite y) → not (lt x y || lt y x) ≡ eq x y
unfolding lt eq
neither_equal nan y p q = absurd p
neither_equal (inf s) y p q = absurd p
neither_equal (fin s m e) nan p q = absurd q
neither_equal (fin s m e) (inf t) p q = absurd q
neither_equal (fin s m e) (fin t n d) p q = level_iff s t (m * up e * down d) (n * up d * down e) _ _ refl refl

-- equal ones are neither, finite or not
equal_neither : (x y : Float) → eq x y ≡ true → (lt x y || lt y x) ≡ false
unfolding lt eq
equal_neither nan y h = clash false h refl
equal_neither (inf s) nan h = clash false h refl
equal_neither (inf false) (inf false) h = refl
equal_neither (inf false) (inf true) h = clash false h refl
equal_neither (inf true) (inf false) h = clash false h refl
equal_neither (inf true) (inf true) h = refl
equal_neither (inf s) (fin t n d) h = clash false h refl
equal_neither (fin s m e) nan h = clash false h refl
equal_neither (fin s m e) (inf t) h = clash false h refl
equal_neither (fin s m e) (fin t n d) h = level_not_below s t (m * up e * down d) (n * up d * down e) h

-- ---- two ends in rising order
module _ (x y : Float) where
  pub exchanged_lesser : lt y x ≡ true → lesser_of x y ≡ y
  unfolding lesser_of
  exchanged_lesser t = cond_true (lt y x) y x t

  pub exchanged_greater : lt y x ≡ true → greater_of y x ≡ x
  unfolding greater_of
  exchanged_greater t = cond_true (lt y x) x y t

  pub kept-lesser : lt y x ≡ false → lesser_of x y ≡ x
  unfolding lesser_of
  kept-lesser f = cond_false (lt y x) y x f

  pub kept_greater : lt y x ≡ false → greater_of y x ≡ y
  unfolding greater_of
  kept_greater f = cond_false (lt y x) x y f

  -- they rise where either end is below the other
  rise_either : lt (lesser_of x y) (greater_of y x) ≡ (lt x y || lt y x)
  rise_either = elim (decide (lt y x)) [
    | inl t ↦ rw (exchanged_lesser t, exchanged_greater t, t, lt_asym y x t)
    | inr f ↦ rw (kept-lesser f, kept_greater f, f) (or_false (lt x y))
  ]

  -- finite ones fail to rise exactly where they are equal
  pub rise_unless_equal : T (finite x) → T (finite y) → not (lt (lesser_of x y) (greater_of y x)) ≡ eq x y
  rise_unless_equal p q = ap not rise_either ∙ neither_equal x y p q

  -- equal ones do not rise
  pub equal_not_rising : eq x y ≡ true → lt (lesser_of x y) (greater_of y x) ≡ false
  equal_not_rising e = rise_either ∙ equal_neither x y e

  -- none is above the other, so that they are in rising order already
  pub rise_once : lt (greater_of y x) (lesser_of x y) ≡ false
  rise_once = elim (decide (lt y x)) [
    | inl t ↦ rw (exchanged_lesser t, exchanged_greater t) (lt_asym y x t)
    | inr f ↦ rw (kept-lesser f, kept_greater f) f
  ]
