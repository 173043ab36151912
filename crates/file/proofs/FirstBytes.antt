-- A drawing file has at most 9,773 bytes, so the first 9,774 bytes of an input decide what it says: one byte more than the longest file is enough to see that bytes are left over. Assumes nothing.
use mathlib.Core.Path.{◌≡◌, refl, sym, ap, subst, ◌∙◌}
use mathlib.Core.Bool.{Bool, true, false, cond}
use mathlib.Core.List.{List, [], ◌∷◌, ◌++◌}
use Prim.Native.Nat.{ℕ, zero, suc, ◌+◌, ◌*◌, ◌≤◌, ◌<◌}
use native.Mathlib.Nat.{not-suc-le-zero, suc-mul, mul-le-mul_right}
use native.Mathlib.Omega.{arith}
use borrow.Author.Tests.{le-leb, ltb-false}
use lib.Dec.{leb, ltb, eqb}
use lib.Ieee.{binary64, of_bits}
use lib.ListN.{length, take, drop, length-append, length-drop, take-append-drop}
use lib.Seq.{take-append-le, drop-append-le, length-take-le, take_all}
use mathlib.Core.Logic.{◌⊎◌, inl, inr}
use Rattle.laws.proofs.Tests.{cond_true, le_or_lt}
use Rattle.drawing.specs.declared.refusal.Refusal.{Refusal}
use Rattle.drawing.specs.declared.refusal.Refusal.TheVariants.{MalformedFile, TooManyEntries}
use Rattle.file.specs.Reading.{Read, got, refused, then, big_endian, number, float, version_byte, orientation, segment, node, exemption, entries, counted, settings, parts, ended, read}

-- the same outcome with more bytes at the end
abbrev pub behind : {A : Type 0} → List ℕ → Read A → Read A
behind more (got a rest) = got a (rest ++ more)
behind more (refused r) = refused r

-- the outcome leaves at least n bytes, or is a refusal
abbrev pub Leaves : {A : Type 0} → ℕ → Read A → Type 0
Leaves n (got a rest) = n ≤ length rest
Leaves n (refused r) = Unit {0}

-- a reader that reads no more than k bytes
pub record Within (k : ℕ) {A : Type 0} (r : List ℕ → Read A) : Type 0 where
  pub alike : (l more : List ℕ) → k ≤ length l → r (l ++ more) ≡ behind more (r l)
  pub leaves : (l : List ℕ) (n : ℕ) → k + n ≤ length l → Leaves n (r l)

module _ {A : Type 0} where
  weaker : {j : ℕ} {r : List ℕ → Read A} (k : ℕ) → j ≤ k → Within j r → Within k r
  weaker {j} k h w = record { alike = λ l more e. w.alike l more (omega arith); leaves = λ l n e. w.leaves l n (omega arith) }

  none_looked_at : (a : A) → Within 0 (λ l. got a l)
  none_looked_at a = record { alike = λ l more e. refl; leaves = λ l n e. omega arith }

  refused-at_once : (r : Refusal) → Within 0 {A = A} (λ l. refused r)
  refused-at_once r = record { alike = λ l more e. refl; leaves = λ l n e. tt }

  either : {k : ℕ} {r s : List ℕ → Read A} (b : Bool) → Within k r → Within k s → Within k (λ l. cond b (r l) (s l))
  either true w v = w
  either false w v = v

module _ {A B : Type 0} where
  following : {k : ℕ} (next : A → List ℕ → Read B) → ((a : A) → Within k (next a)) → (more : List ℕ) (o : Read A) → Leaves k o → then (behind more o) next ≡ behind more (then o next)
  unfolding then
  following next w more (got a rest) e = (w a).alike rest more e
  following next w more (refused r) e = refl

  left_over : {k : ℕ} (next : A → List ℕ → Read B) → ((a : A) → Within k (next a)) → (n : ℕ) (o : Read A) → Leaves (k + n) o → Leaves n (then o next)
  unfolding then
  left_over next w n (got a rest) e = (w a).leaves rest n e
  left_over next w n (refused r) e = tt

  in_turn : {j k : ℕ} {r : List ℕ → Read A} {next : A → List ℕ → Read B} → Within j r → ((a : A) → Within k (next a)) → Within (j + k) (λ l. then (r l) next)
  in_turn {j} {k} {r} {next} w v = record {
    alike = λ l more e. ap (λ (o : Read A). then o next) (w.alike l more (omega arith)) ∙ following next v more (r l) (w.leaves l k e);
    leaves = λ l n e. left_over next v n (r l) (w.leaves l (k + n) (omega arith));
  }

number-got : (k : ℕ) (l : List ℕ) → k ≤ length l → number k l ≡ got (big_endian 0 (take k l)) (drop k l)
unfolding number
number-got k l h = cond_true (leb k (length l)) _ _ (le-leb k (length l) h)

in_number : (k : ℕ) → Within k (number k)
in_number k = record {
  alike = λ l more e.
      number-got k (l ++ more) (simp length-append (omega arith))
      ∙ ap (λ (t : List ℕ). got (big_endian 0 t) (drop k (l ++ more))) (take-append-le k l more e)
      ∙ ap (λ (t : List ℕ). got (big_endian 0 (take k l)) t) (drop-append-le k l more e)
      ∙ sym (ap (behind more) (number-got k l e));
  leaves = λ l n e. subst (Leaves n) (sym (number-got k l (omega arith))) (simp length-drop (omega arith));
}

in_float : Within 8 float
unfolding float
in_float = in_turn (in_number 8) (λ n. none_looked_at (of_bits binary64 n))

in_version : Within 1 version_byte
unfolding version_byte
in_version = in_turn (in_number 1) (λ n. either (eqb n 1) (none_looked_at n) (refused-at_once MalformedFile))

in_orientation : Within 1 orientation
unfolding orientation
in_orientation = in_turn (in_number 1) (λ n. either (ltb 1 n) (refused-at_once MalformedFile) (none_looked_at n))

in_segment : Within 29 segment
unfolding segment
in_segment = in_turn (in_number 4) (λ n. in_turn in_orientation (λ o. in_turn in_float (λ f. in_turn in_float (λ s. in_turn in_float (λ e. none_looked_at _)))))

in_node : Within 36 node
unfolding node
in_node = in_turn (in_number 4) (λ i. in_turn in_float (λ x. in_turn in_float (λ y. in_turn in_float (λ w. in_turn in_float (λ h. none_looked_at _)))))

in_exemption : Within 8 exemption
unfolding exemption
in_exemption = in_turn (in_number 4) (λ n. in_turn (in_number 4) (λ m. none_looked_at _))

in_settings : Within 40 settings
unfolding settings
in_settings = in_turn in_float (λ t. in_turn in_float (λ c. in_turn (in_number 8) (λ a. in_turn (in_number 8) (λ b. in_turn (in_number 8) (λ d. none_looked_at _)))))

module _ {A : Type 0} {w : ℕ} {entry : List ℕ → Read A} (v : Within w entry) where
  in_entries : (n : ℕ) → Within (n * w) (entries entry n)
  unfolding entries
  in_entries zero = weaker (0 * w) (omega arith) (none_looked_at [])
  in_entries (suc n) =
      let e : suc n * w ≡ n * w + w = suc-mul n w in
      weaker (suc n * w) (omega arith) (in_turn v (λ a. in_turn (in_entries n) (λ rest. none_looked_at (a ∷ rest))))

  in_limit : (limit n : ℕ) (b : Bool) → ltb limit n ≡ b → Within (limit * w) (λ rest. cond b (refused TooManyEntries) (entries entry n rest))
  in_limit limit n true e = weaker (limit * w) (omega arith) (refused-at_once TooManyEntries)
  in_limit limit n false e = weaker (limit * w) (mul-le-mul_right w (ltb-false limit n e)) (in_entries n)

  in_counted : (limit : ℕ) → Within (4 + limit * w) (counted limit entry)
  unfolding counted
  in_counted limit = in_turn (in_number 4) (λ n. in_limit limit n (ltb limit n) refl)

in_parts : Within 9773 parts
unfolding parts
in_parts = in_turn in_version (λ v. in_turn (in_counted in_segment 120) (λ ss. in_turn (in_counted in_node 120) (λ ns. in_turn (in_counted in_exemption 240) (λ es. in_turn in_settings (λ s. none_looked_at _)))))

ended-alike : {A : Type 0} (more : List ℕ) (o : Read A) → Leaves 1 o → then (behind more o) ended ≡ then o ended
unfolding then ended
ended-alike more (got a []) e = absurd (not-suc-le-zero e)
ended-alike more (got a (b ∷ rest)) e = refl
ended-alike more (refused r) e = refl

-- the bytes after the first 9,774 decide nothing
pub first_bytes : (l : List ℕ) → read (take 9774 l) ≡ read l
unfolding read
first_bytes l = by_length (le_or_lt 9774 (length l))
  where
    by_length : (9774 ≤ length l) ⊎ (length l < 9774) → then (parts (take 9774 l)) ended ≡ then (parts l) ended
    by_length (inl h) =
        let enough : length (take 9774 l) ≡ 9774 = length-take-le 9774 l h in
        sym (ap (λ (m : List ℕ). then (parts m) ended) (sym (take-append-drop 9774 l))
        ∙ ap (λ o. then o ended) (in_parts.alike (take 9774 l) (drop 9774 l) (omega arith))
        ∙ ended-alike (drop 9774 l) (parts (take 9774 l)) (in_parts.leaves (take 9774 l) 1 (omega arith)))
    by_length (inr h) = ap (λ (m : List ℕ). then (parts m) ended) (take_all 9774 l (omega arith))
