-- The rank of a float that fits its format: its value as a multiple of the format's smallest positive value, plus `overflow f`, so that it is a natural number.
-- -infinity is 0, both zeros are `overflow f`, +infinity is 2 * overflow f. The comparisons of IEEE 754 are those of the ranks. Assumes nothing.
use Rattle.std.proofs.Common.{◌≡◌, ℕ, zero, suc, ◌+◌, ◌-◌, ◌*◌, ◌/◌, ◌%◌, ◌^◌, ◌<◌, ◌≤◌, min, max, Bool, true, false, not, ◌&&◌, ◌||◌, T, eqb, ltb, leb, ◌⊎◌, ℤ, pos, negsuc, sym, refl, ap, ◌∙◌, subst, ap₂, inl, inr, zero-le, le_of_eq, le_refl, lt_of_lt_of_le, le_of_suc-le-suc, lt_of_le_of_lt, add-zero, le_of_lt, lt_irrefl, mul_assoc, mul_comm, add-mul, lt_of_mul-lt-mul_right, eq-or-lt_of_le, mul-lt-mul_of_pos_right, mul-pos, lt_of_not-le, zero-mul, mul-one, mul_right_comm, div-one, mul-div_cancel, arith, le→leb, eqb→eq, ltb→lt, lt→ltb, leb→le, pow_pos, pow-add}
use mathlib.Core.Bool.{beq}
use native.Mathlib.Nat.{eq_of_mul-eq-mul_right, zero-div, sub-zero}
use lib.Pow.{pow-lt}
use lib.Ieee.{Float, nan, inf, fin, Format, prec, emax, low, up, down, below, level, lt, eq, le, fits, is_nan}
use lib.Ieee.Digits.{back}
use lib.Ieee.Fits.{and_l, and_r, and_i, eq→eqb, down_pos}
use lib.Ieee.Scale.{finite, overflow}
use Rattle.laws.proofs.Tests.{same_test, ltb_same, is_true, is_false, of_true, or_left, or_right}

-- ---- the magnitude as a multiple of the smallest positive value, and the sign
unfoldable pub mag : Format → Float → ℕ
mag f nan = 0
mag f (inf s) = overflow f
mag f (fin s m e) = m * up e * 2 ^ low f / down e

unfoldable pub sgn : Float → Bool
sgn nan = false
sgn (inf s) = s
sgn (fin s m e) = s

-- B plus n, or B minus n where the sign is set
abbrev pub at : ℕ → Bool → ℕ → ℕ
at B true n = B - n
at B false n = B + n

abbrev pub distance : ℕ → ℕ → ℕ
distance m n = max m n - min m n

unfoldable pub rank : Format → Float → ℕ
unfolding mag sgn
rank f x = at (overflow f) (sgn x) (mag f x)

-- x fits and is no NaN; x fits and is finite
abbrev pub Num : Format → Float → Type 0
Num f x = T (fits f x) × T (not (is_nan x))

abbrev pub Fin : Format → Float → Type 0
Fin f x = T (fits f x) × T (finite x)

-- ---- the magnitude of a float that fits is exact, and below that of an infinity
pub pow_le_back : (a l : ℕ) → 2 ^ a ≤ 2 ^ l → a ≤ l
pow_le_back a l h = le_of_suc-le-suc (lt_of_not-le (λ (g : suc l ≤ a). lt_irrefl (2 ^ l) (lt_of_lt_of_le (pow-lt g) h)))

exact : (m l : ℕ) (e : ℤ) → down e ≤ 2 ^ l → m * up e * 2 ^ l / down e * down e ≡ m * up e * 2 ^ l
exact m l (pos k) h = mul-one (m * 2 ^ k * 2 ^ l / 1) ∙ div-one (m * 2 ^ k * 2 ^ l)
exact m l (negsuc k) h =
    let i = l - suc k in
    let D = 2 ^ suc k in
    let p : m * 1 * 2 ^ l ≡ m * 1 * 2 ^ i * D = ap (λ (z : ℕ). m * 1 * 2 ^ z) (sym (back l (suc k) (pow_le_back (suc k) l h))) ∙ ap (λ (z : ℕ). m * 1 * z) (pow-add 2 i (suc k)) ∙ sym (mul_assoc (m * 1) (2 ^ i) D) in
    ap (λ (z : ℕ). z / D * D) p ∙ ap (λ (z : ℕ). z * D) (mul-div_cancel (m * 1 * 2 ^ i) (pow_pos (suc k))) ∙ sym p

pub fits_down : (f : Format) (s : Bool) (m : ℕ) (e : ℤ) → T (fits f (fin s (suc m) e)) → down e ≤ 2 ^ low f
unfolding fits
fits_down f s m e h =
    let a : Bool = eqb (suc m % 2) 1 && ltb (suc m) (2 ^ prec f) in
    let b : Bool = leb (down e) (2 ^ low f) in
    leb→le (down e) (2 ^ low f) (and_r a b (and_l (a && b) (ltb (suc m * up e) (2 ^ suc (emax f) * down e)) h))

pub fits_small : (f : Format) (s : Bool) (m : ℕ) (e : ℤ) → T (fits f (fin s (suc m) e)) → suc m < 2 ^ prec f
unfolding fits
fits_small f s m e h =
    let a : Bool = eqb (suc m % 2) 1 in
    let b : Bool = ltb (suc m) (2 ^ prec f) in
    let c : Bool = leb (down e) (2 ^ low f) in
    ltb→lt (suc m) (2 ^ prec f) (and_r a b (and_l (a && b) c (and_l (a && b && c) (ltb (suc m * up e) (2 ^ suc (emax f) * down e)) h)))

fits_top : (f : Format) (s : Bool) (m : ℕ) (e : ℤ) → T (fits f (fin s (suc m) e)) → suc m * up e < 2 ^ suc (emax f) * down e
unfolding fits
fits_top f s m e h =
    ltb→lt (suc m * up e) (2 ^ suc (emax f) * down e)
    (and_r (eqb (suc m % 2) 1 && ltb (suc m) (2 ^ prec f) && leb (down e) (2 ^ low f)) (ltb (suc m * up e) (2 ^ suc (emax f) * down e)) h)

zero_units : (l : ℕ) (e : ℤ) → 0 * up e * 2 ^ l ≡ 0
zero_units l e = ap (λ (z : ℕ). z * 2 ^ l) (zero-mul (up e)) ∙ zero-mul (2 ^ l)

pub mag_zero : (f : Format) (s : Bool) (e : ℤ) → mag f (fin s 0 e) ≡ 0
unfolding mag
mag_zero f s e = ap (λ (z : ℕ). z / down e) (zero_units (low f) e) ∙ zero-div (down e)

pub mag_exact : (f : Format) (s : Bool) (m : ℕ) (e : ℤ) → T (fits f (fin s m e)) → mag f (fin s m e) * down e ≡ m * up e * 2 ^ low f
unfolding mag
mag_exact f s zero e h = ap (λ (z : ℕ). z * down e) (mag_zero f s e) ∙ zero-mul (down e) ∙ sym (zero_units (low f) e)
mag_exact f s (suc m) e h = exact (suc m) (low f) e (fits_down f s m e h)

pub mag_lt : (f : Format) (s : Bool) (m : ℕ) (e : ℤ) → T (fits f (fin s m e)) → mag f (fin s m e) < overflow f
mag_lt f s zero e h = lt_of_le_of_lt (le_of_eq (mag_zero f s e)) (pow_pos (low f + suc (emax f)))
mag_lt f s (suc m) e h =
    let l = 2 ^ low f in
    let t = 2 ^ suc (emax f) in
    let r : t * down e * l ≡ overflow f * down e = mul_comm (t * down e) l ∙ sym (mul_assoc l t (down e)) ∙ ap (λ (z : ℕ). z * down e) (sym (pow-add 2 (low f) (suc (emax f)))) in
    lt_of_mul-lt-mul_right (down e)
    (lt_of_lt_of_le (lt_of_le_of_lt (le_of_eq (mag_exact f s (suc m) e h)) (mul-lt-mul_of_pos_right (fits_top f s m e h) (pow_pos (low f)))) (le_of_eq r))

-- ---- a / d equals M / c, and b / d equals N / c: they compare alike
scaled_lt : (a b M N c d : ℕ) → 0 < c → a * c ≡ M * d → b * c ≡ N * d → a < b → M < N
scaled_lt a b M N c d C p q h = lt_of_mul-lt-mul_right d (lt_of_le_of_lt (le_of_eq (sym p)) (lt_of_lt_of_le (mul-lt-mul_of_pos_right h C) (le_of_eq q)))

scaled_eq : (a b M N c d : ℕ) → 0 < d → a * c ≡ M * d → b * c ≡ N * d → a ≡ b → M ≡ N
scaled_eq a b M N c d D p q h = eq_of_mul-eq-mul_right d D M N (sym p ∙ ap (λ (z : ℕ). z * c) h ∙ q)

pub ltb_scaled : (a b M N c d : ℕ) → 0 < c → 0 < d → a * c ≡ M * d → b * c ≡ N * d → ltb a b ≡ ltb M N
ltb_scaled a b M N c d C D p q = ltb_same a b M N (scaled_lt a b M N c d C p q) (scaled_lt M N a b d c D (sym p) (sym q))

eqb_scaled : (a b M N c d : ℕ) → 0 < c → 0 < d → a * c ≡ M * d → b * c ≡ N * d → eqb a b ≡ eqb M N
eqb_scaled a b M N c d C D p q =
    same_test (eqb a b) (eqb M N) (λ t. eq→eqb (scaled_eq a b M N c d D p q (eqb→eq a b t))) (λ t. eq→eqb (scaled_eq M N a b d c C (sym p) (sym q) (eqb→eq M N t)))

-- the same with signs
module _ (a b M N c d : ℕ) (C : 0 < c) (D : 0 < d) (p : a * c ≡ M * d) (q : b * c ≡ N * d) where
  zero_same : 0 * c ≡ 0 * d
  zero_same = zero-mul c ∙ sym (zero-mul d)

  below_scaled : (s t : Bool) → below s a t b ≡ below s M t N
  below_scaled false false = ltb_scaled a b M N c d C D p q
  below_scaled false true = refl
  below_scaled true false = ltb_scaled 0 (a + b) 0 (M + N) c d C D zero_same (add-mul a b c ∙ ap₂ ◌+◌ p q ∙ sym (add-mul M N d))
  below_scaled true true = ltb_scaled b a N M c d C D q p

  level_scaled : (s t : Bool) → level s a t b ≡ level s M t N
  level_scaled s t i = eqb_scaled a b M N c d C D p q i && (beq s t || eqb_scaled a 0 M 0 c d C D p zero_same i)

-- ---- signed numbers compare as B plus or minus their magnitudes
is_lt : (a b : ℕ) → a < b → true ≡ ltb a b
is_lt a b h = sym (is_true (ltb a b) (lt→ltb a b h))

no_lt : (a b : ℕ) → b ≤ a → false ≡ ltb a b
no_lt a b h = sym (is_false (ltb a b) (λ t. omega (arith, ltb→lt a b t)))

is_eq : (a b : ℕ) → a ≡ b → true ≡ eqb a b
is_eq a b h = sym (is_true (eqb a b) (eq→eqb h))

no_eq : (a b : ℕ) → (a ≡ b → ⊥) → false ≡ eqb a b
no_eq a b h = sym (is_false (eqb a b) (λ t. h (eqb→eq a b t)))

below_at : (B : ℕ) (s t : Bool) (M N : ℕ) → M ≤ B → N ≤ B → below s M t N ≡ ltb (at B s M) (at B t N)
below_at B false false M N m n = ltb_same M N (B + M) (B + N) (λ h. omega arith) (λ h. omega arith)
below_at B false true M N m n = no_lt (B + M) (B - N) (omega arith)
below_at B true false M N m n = ltb_same 0 (M + N) (B - M) (B + N) (λ h. omega arith) (λ h. omega arith)
below_at B true true M N m n = ltb_same N M (B - M) (B - N) (λ h. omega arith) (λ h. omega arith)

level-at : (B : ℕ) (s t : Bool) (M N : ℕ) → M ≤ B → N ≤ B → level s M t N ≡ eqb (at B s M) (at B t N)
level-at B s t M N m n = go s t
  where
    -- the tests of `level` together are the test of the two numbers
    by : (x : Bool) (a b : ℕ) → (M ≡ N → T x → a ≡ b) → (a ≡ b → (M ≡ N) × T x) → (eqb M N && x) ≡ eqb a b
    by x a b h k =
        same_test (eqb M N && x) (eqb a b) (λ t. eq→eqb (h (eqb→eq M N (and_l (eqb M N) x t)) (and_r (eqb M N) x t)))
        (λ t. let e : a ≡ b = eqb→eq a b t in and_i (eqb M N) x (eq→eqb (k e).0) (k e).1)

    go : (s t : Bool) → level s M t N ≡ eqb (at B s M) (at B t N)
    go false false = by true (B + M) (B + N) (λ h z. omega arith) (λ h. (omega arith, tt))
    go true true = by true (B - M) (B - N) (λ h z. omega arith) (λ h. (omega arith, tt))
    go false true = by (eqb M 0) (B + M) (B - N) (λ h z. omega (arith, eqb→eq M 0 z)) (λ h. (omega arith, eq→eqb {a = M} {b = 0} (omega arith)))
    go true false = by (eqb M 0) (B - M) (B + N) (λ h z. omega (arith, eqb→eq M 0 z)) (λ h. (omega arith, eq→eqb {a = M} {b = 0} (omega arith)))

pub compare_at : (B : ℕ) (s t : Bool) (a b M N c d : ℕ) → 0 < c → 0 < d → a * c ≡ M * d → b * c ≡ N * d → M ≤ B → N ≤ B
    → (below s a t b ≡ ltb (at B s M) (at B t N)) × (level s a t b ≡ eqb (at B s M) (at B t N))
compare_at B s t a b M N c d C D p q m n = (below_scaled a b M N c d C D p q s t ∙ below_at B s t M N m n, level_scaled a b M N c d C D p q s t ∙ level-at B s t M N m n)

-- ---- an infinity is B plus or minus B, and z is strictly between the two
between : (B M : ℕ) (s : Bool) → M < B → (0 < at B s M) × (at B s M < B + B)
between B M true h = (omega arith, omega arith)
between B M false h = (omega arith, omega arith)

inf_inf : (B : ℕ) (s t : Bool) → 0 < B → ((s && not t) ≡ ltb (at B s B) (at B t B)) × (beq s t ≡ eqb (at B s B) (at B t B))
inf_inf B true true h = (no_lt (B - B) (B - B) (omega arith), is_eq (B - B) (B - B) refl)
inf_inf B true false h = (is_lt (B - B) (B + B) (omega arith), no_eq (B - B) (B + B) (λ e. omega arith))
inf_inf B false true h = (no_lt (B + B) (B - B) (omega arith), no_eq (B + B) (B - B) (λ e. omega arith))
inf_inf B false false h = (no_lt (B + B) (B + B) (omega arith), is_eq (B + B) (B + B) refl)

inf_fin : (B : ℕ) (s : Bool) (z : ℕ) → (0 < z) × (z < B + B) → (s ≡ ltb (at B s B) z) × (false ≡ eqb (at B s B) z)
inf_fin B true z h = (is_lt (B - B) z (omega arith), no_eq (B - B) z (λ e. omega arith))
inf_fin B false z h = (no_lt (B + B) z (omega arith), no_eq (B + B) z (λ e. omega arith))

fin_inf : (B : ℕ) (t : Bool) (z : ℕ) → (0 < z) × (z < B + B) → (not t ≡ ltb z (at B t B)) × (false ≡ eqb z (at B t B))
fin_inf B true z h = (no_lt z (B - B) (omega arith), no_eq z (B - B) (λ e. omega arith))
fin_inf B false z h = (is_lt z (B + B) (omega arith), no_eq z (B + B) (λ e. omega arith))

-- the two cross products, times 2 ^ low f, are the magnitudes times both denominators
pub cross-l : (f : Format) (s : Bool) (m : ℕ) (e d : ℤ) → T (fits f (fin s m e)) → m * up e * down d * 2 ^ low f ≡ mag f (fin s m e) * (down e * down d)
cross-l f s m e d h = mul_right_comm (m * up e) (down d) (2 ^ low f) ∙ ap (λ (z : ℕ). z * down d) (sym (mag_exact f s m e h)) ∙ mul_assoc (mag f (fin s m e)) (down e) (down d)

pub cross_r : (f : Format) (s : Bool) (m : ℕ) (e d : ℤ) → T (fits f (fin s m e)) → m * up e * down d * 2 ^ low f ≡ mag f (fin s m e) * (down d * down e)
cross_r f s m e d h = cross-l f s m e d h ∙ ap (λ (z : ℕ). mag f (fin s m e) * z) (mul_comm (down e) (down d))

-- ---- the comparisons are those of the ranks
pub over_pos : (f : Format) → 0 < overflow f
over_pos f = pow_pos (low f + suc (emax f))

compare_rank : (f : Format) (x y : Float) → Num f x → Num f y → (lt x y ≡ ltb (rank f x) (rank f y)) × (eq x y ≡ eqb (rank f x) (rank f y))
unfolding lt eq rank is_nan
compare_rank f nan y p q = absurd p.1
compare_rank f (inf s) nan p q = absurd q.1
compare_rank f (inf s) (inf t) p q = inf_inf (overflow f) s t (over_pos f)
compare_rank f (inf s) (fin t n d) p q = inf_fin (overflow f) s (at (overflow f) t (mag f (fin t n d))) (between (overflow f) (mag f (fin t n d)) t (mag_lt f t n d q.0))
compare_rank f (fin s m e) nan p q = absurd q.1
compare_rank f (fin s m e) (inf t) p q = fin_inf (overflow f) t (at (overflow f) s (mag f (fin s m e))) (between (overflow f) (mag f (fin s m e)) s (mag_lt f s m e p.0))
compare_rank f (fin s m e) (fin t n d) p q =
    compare_at (overflow f) s t (m * up e * down d) (n * up d * down e) (mag f (fin s m e)) (mag f (fin t n d)) (2 ^ low f) (down e * down d)
    (pow_pos (low f)) (mul-pos (down_pos e) (down_pos d)) (cross-l f s m e d p.0) (cross_r f t n d e q.0) (le_of_lt (mag_lt f s m e p.0)) (le_of_lt (mag_lt f t n d q.0))

pub lt_rank : (f : Format) (x y : Float) → Num f x → Num f y → lt x y ≡ ltb (rank f x) (rank f y)
lt_rank f x y p q = (compare_rank f x y p q).0

pub eq_rank : (f : Format) (x y : Float) → Num f x → Num f y → eq x y ≡ eqb (rank f x) (rank f y)
eq_rank f x y p q = (compare_rank f x y p q).1

pub lt_or_eq : (a b : ℕ) → (ltb a b || eqb a b) ≡ leb a b
lt_or_eq a b = same_test (ltb a b || eqb a b) (leb a b) (λ t. le→leb a b (go (ltb a b) (eqb a b) (ltb→lt a b) (eqb→eq a b) t)) (λ t. come (eq-or-lt_of_le (leb→le a b t)))
  where
    go : (x y : Bool) → (T x → a < b) → (T y → a ≡ b) → T (x || y) → a ≤ b
    go true y p q t = le_of_lt (p tt)
    go false y p q t = le_of_eq (q t)

    come : (a ≡ b) ⊎ (a < b) → T (ltb a b || eqb a b)
    come (inl p) = of_true (ltb a b || eqb a b) (or_right (ltb a b) (eqb a b) (is_true (eqb a b) (eq→eqb p)))
    come (inr q) = of_true (ltb a b || eqb a b) (or_left (ltb a b) (eqb a b) (is_true (ltb a b) (lt→ltb a b q)))

pub le_rank : (f : Format) (x y : Float) → Num f x → Num f y → le x y ≡ leb (rank f x) (rank f y)
unfolding le
le_rank f x y p q = ap (λ (b : Bool). b || eq x y) (lt_rank f x y p q) ∙ ap (λ (b : Bool). ltb (rank f x) (rank f y) || b) (eq_rank f x y p q) ∙ lt_or_eq (rank f x) (rank f y)

pub rank_is : (f : Format) (x : Float) → rank f x ≡ at (overflow f) (sgn x) (mag f x)
unfolding rank
rank_is f x = refl

pub fin_lt : (f : Format) (x : Float) → Fin f x → mag f x < overflow f
fin_lt f nan p = absurd p.1
fin_lt f (inf s) p = absurd p.1
fin_lt f (fin s m e) p = mag_lt f s m e p.0

pub mag_le : (f : Format) (x : Float) → T (fits f x) → mag f x ≤ overflow f
unfolding mag
mag_le f nan h = zero-le
mag_le f (inf s) h = le_refl (overflow f)
mag_le f (fin s m e) h = le_of_lt (mag_lt f s m e h)

pub fits_turned : (f : Format) (s t : Bool) (m : ℕ) (e : ℤ) → T (fits f (fin s m e)) → T (fits f (fin t m e))
unfolding fits
fits_turned f s t zero e h = h
fits_turned f s t (suc m) e h = h

-- ---- a finite float is a number, and so are the zeros
pub fin_num : (f : Format) (x : Float) → Fin f x → Num f x
unfolding is_nan
fin_num f nan p = absurd p.1
fin_num f (inf s) p = absurd p.1
fin_num f (fin s m e) p = (p.0, tt)

pub at_zero : (B : ℕ) (s : Bool) → at B s 0 ≡ B
at_zero B true = sub-zero B
at_zero B false = add-zero B

pub zero_num : (f : Format) (s : Bool) → Fin f (fin s 0 (pos 0))
unfolding fits
zero_num f s = (tt, tt)

pub zero_rank : (f : Format) (s : Bool) → rank f (fin s 0 (pos 0)) ≡ overflow f
unfolding rank mag sgn
zero_rank f s = ap (λ (z : ℕ). at (overflow f) s z) (ap (λ (z : ℕ). z / 1) (zero-mul (2 ^ low f))) ∙ at_zero (overflow f) s

-- ---- the comparisons as propositions
pub lt→ : (f : Format) (x y : Float) → Num f x → Num f y → T (lt x y) → rank f x < rank f y
lt→ f x y p q t = ltb→lt (rank f x) (rank f y) (subst T (lt_rank f x y p q) t)

pub →lt : (f : Format) (x y : Float) → Num f x → Num f y → rank f x < rank f y → T (lt x y)
→lt f x y p q h = subst T (sym (lt_rank f x y p q)) (lt→ltb (rank f x) (rank f y) h)

pub le→ : (f : Format) (x y : Float) → Num f x → Num f y → T (le x y) → rank f x ≤ rank f y
le→ f x y p q t = leb→le (rank f x) (rank f y) (subst T (le_rank f x y p q) t)

pub →le : (f : Format) (x y : Float) → Num f x → Num f y → rank f x ≤ rank f y → T (le x y)
→le f x y p q h = subst T (sym (le_rank f x y p q)) (le→leb (rank f x) (rank f y) h)

pub eq→ : (f : Format) (x y : Float) → Num f x → Num f y → T (eq x y) → rank f x ≡ rank f y
eq→ f x y p q t = eqb→eq (rank f x) (rank f y) (subst T (eq_rank f x y p q) t)

pub →eq : (f : Format) (x y : Float) → Num f x → Num f y → rank f x ≡ rank f y → T (eq x y)
→eq f x y p q h = subst T (sym (eq_rank f x y p q)) (eq→eqb h)
