-- The digits of a number as text: the last digit follows the digits of the number without it. Assumes nothing.
use mathlib.Core.Path.{◌≡◌, refl, sym, ap, ◌∙◌, subst}
use mathlib.Core.List.{List, [], ◌∷◌, ◌++◌}
use Prim.Native.Nat.{ℕ, zero, suc, ◌+◌, ◌-◌, ◌*◌, ◌/◌, ◌%◌, ◌^◌, ◌≤◌, ◌<◌}
use native.Mathlib.Nat.{pow-succ'}
use native.Mathlib.Omega.{arith}
use lib.ListN.{length, length-append}
use Rattle.text.specs.declared.put.TextBuffer.{TextBuffer}
use Rattle.text.specs.Text.{glyph, hexadecimal, leading, decimal}
use Rattle.text.specs.Inner.TextPut.{Put}
use Rattle.text.proofs.TextPuts.{put-none, put_both, put-within}

-- ---- hexadecimal
pub hexadecimal-none : (k n : ℕ) (b : TextBuffer) → k ≡ 0 → Put k b (hexadecimal k n) b
unfolding hexadecimal
hexadecimal-none zero n b e = put-none 0 b
hexadecimal-none (suc k) n b e = absurd (omega arith)

hexadecimal_next : (k j n d : ℕ) {b m e : TextBuffer} → k ≡ suc j → Put j b (hexadecimal j (n / 16)) m → d ≡ glyph (n % 16) → Put 1 m (d ∷ []) e → Put k b (hexadecimal k n) e
unfolding hexadecimal
hexadecimal_next k j n d {b} {m} {e} h p g q =
    let both : Put (j + 1) b (hexadecimal (suc j) n) e = put_both p (subst (λ (z : ℕ). Put 1 m (z ∷ []) e) g q) in
    subst (λ (z : ℕ). Put z b (hexadecimal z n) e) (sym h) (put-within (omega arith) both)

pub hexadecimal_more : (k n d : ℕ) {b m e : TextBuffer} → 0 < k → Put (k - 1) b (hexadecimal (k - 1) (n / 16)) m → d ≡ glyph (n % 16) → Put 1 m (d ∷ []) e → Put k b (hexadecimal k n) e
hexadecimal_more k n d h p g q = hexadecimal_next k (k - 1) n d (omega arith) p g q

-- ---- decimal
pub leading-none : (n : ℕ) (b : TextBuffer) → n ≡ 0 → Put (length (leading n n)) b (leading n n) b
unfolding leading
leading-none zero b e = put-none 0 b
leading-none (suc n) b e = absurd (omega arith)

-- n steps are enough for a number n, and more change nothing
leading-steps : (j k n : ℕ) → n ≤ j → n ≤ k → leading j n ≡ leading k n
unfolding leading
leading-steps zero zero n g h = refl
leading-steps zero (suc k) zero g h = refl
leading-steps zero (suc k) (suc n) g h = absurd (omega arith)
leading-steps (suc j) zero zero g h = refl
leading-steps (suc j) zero (suc n) g h = absurd (omega arith)
leading-steps (suc j) (suc k) zero g h = refl
leading-steps (suc j) (suc k) (suc n) g h = ap (λ (l : List ℕ). l ++ (glyph (suc n % 10) ∷ [])) (leading-steps j k (suc n / 10) (omega arith) (omega arith))

leading-last : (n : ℕ) → 0 < n → leading (n / 10) (n / 10) ++ (glyph (n % 10) ∷ []) ≡ leading n n
unfolding leading
leading-last zero h = absurd (omega arith)
leading-last (suc n) h = ap (λ (l : List ℕ). l ++ (glyph (suc n % 10) ∷ [])) (leading-steps (suc n / 10) n (suc n / 10) (omega arith) (omega arith))

leading-room : (n : ℕ) → 0 < n → length (leading (n / 10) (n / 10)) + 1 ≡ length (leading n n)
leading-room n h = sym (length-append (leading (n / 10) (n / 10)) (glyph (n % 10) ∷ [])) ∙ ap length (leading-last n h)

pub leading_more : (n d : ℕ) {b m e : TextBuffer} → 0 < n → Put (length (leading (n / 10) (n / 10))) b (leading (n / 10) (n / 10)) m → d ≡ glyph (n % 10) → Put 1 m (d ∷ []) e → Put (length (leading n n)) b (leading n n) e
leading_more n d {b} {m} {e} h p g q =
    let both : Put (length (leading n n)) b (leading (n / 10) (n / 10) ++ (glyph (n % 10) ∷ [])) e = put-within (omega (arith, leading-room n h)) (put_both p (subst (λ (z : ℕ). Put 1 m (z ∷ []) e) g q)) in
    subst (λ (l : List ℕ). Put (length (leading n n)) b l e) (leading-last n h) both

-- a number below 10 ^ w has at most w digits
leading-short : (w k n : ℕ) → n < 10 ^ w → length (leading k n) ≤ w
unfolding leading
leading-short w zero n h = omega arith
leading-short w (suc k) zero h = omega arith
leading-short zero (suc k) (suc n) h = absurd (omega arith)
leading-short (suc w) (suc k) (suc n) h =
    let p : 10 ^ suc w ≡ 10 * 10 ^ w = pow-succ' 10 w in
    let s : length (leading k (suc n / 10)) ≤ w = leading-short w k (suc n / 10) (omega arith) in
    omega (arith, length-append (leading k (suc n / 10)) (glyph (suc n % 10) ∷ []))

pub leading_wide : (n : ℕ) → n < 2 ^ 64 → length (leading n n) ≤ 20
leading_wide n h = leading-short 20 n n (omega arith)

pub decimal-zero : (n : ℕ) → n ≡ 0 → 48 ∷ [] ≡ decimal n
unfolding decimal glyph
decimal-zero n e = ap decimal (sym e)

pub decimal-leading : (n : ℕ) → (n ≡ 0 → ⊥) → leading n n ≡ decimal n
unfolding decimal
decimal-leading zero h = absurd (h refl)
decimal-leading (suc n) h = refl
