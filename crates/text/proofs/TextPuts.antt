-- Texts put into a buffer: one byte, one text after another, a text put at the front. Assumes nothing.
use mathlib.Core.Path.{◌≡◌, refl, sym, ap, ◌∙◌, subst}
use mathlib.Core.List.{List, [], ◌∷◌, ◌++◌}
use Prim.Native.Nat.{ℕ, suc, ◌+◌, ◌≤◌, ◌<◌}
use native.Mathlib.Nat.{zero-add}
use native.Mathlib.Numerals.{add-one}
use native.Mathlib.Omega.{arith}
use lib.ListN.{length, get_or, set, take, drop, length-append, length-set}
use lib.Seq.{sets, sets-eq, take-suc, take_all}
use Rattle.text.specs.declared.put.TextBuffer.{TextBuffer}
use Rattle.text.specs.Inner.TextPut.{last_index, index_after, stored, Put}

-- ---- the index after a text
behind-none : (at : ℕ) → index_after at 0 ≡ at
unfolding index_after
behind-none at = omega arith

behind_both : (at j k : ℕ) → index_after (index_after at j) k ≡ index_after at (j + k)
unfolding index_after
behind_both at j k = omega arith

pub behind-near : (at k : ℕ) → at + k ≤ last_index → index_after at k ≡ at + k
unfolding index_after
behind-near at k h = omega arith

-- ---- what is stored
-- one text after another is both
stored-append : (s : List ℕ) (at : ℕ) (a b : List ℕ) → stored (stored s at a) (index_after at (length a)) b ≡ stored s at (a ++ b)
unfolding stored
stored-append s at [] b = ap (λ (k : ℕ). stored s k b) (behind-none at)
stored-append s at (x ∷ a) b =
    let l : length (x ∷ a) ≡ 1 + length a = omega arith in
    ap (λ (k : ℕ). stored (stored (set s at x) (index_after at 1) a) k b) (ap (index_after at) l ∙ sym (behind_both at 1 (length a))) ∙ stored-append (set s at x) (index_after at 1) a b

-- where a usize can hold every index, it is the kit's run of stores
stored-near : (s : List ℕ) (at : ℕ) (t : List ℕ) → at + length t ≤ last_index → stored s at t ≡ sets s at t
unfolding stored
stored-near s at [] h = refl
stored-near s at (x ∷ t) h =
    let n : index_after at 1 ≡ suc at = behind-near at 1 (omega arith) ∙ add-one at in
    ap (λ (k : ℕ). stored (set s at x) k t) n ∙ stored-near (set s at x) (suc at) t (omega arith)

length-stored : (s : List ℕ) (at : ℕ) (t : List ℕ) → length (stored s at t) ≡ length s
unfolding stored
length-stored s at [] = refl
length-stored s at (x ∷ t) = length-stored (set s at x) (index_after at 1) t ∙ length-set s at x

-- what is left of a text where none of its first bytes goes
pub drop-none : (n : ℕ) (l : List ℕ) → n ≡ 0 → drop n l ≡ l
drop-none n l h = ap (λ (k : ℕ). drop k l) h

-- ---- texts put
pub put-none : (k : ℕ) (b : TextBuffer) → Put k b [] b
unfolding stored
put-none k b = record { is-stored = refl; ended = sym (behind-none b.position); short = omega arith; same_reference = refl }

-- a byte, stored where the buffer reaches
pub put_one : (byte : ℕ) {b e : TextBuffer} → e.bytes.now ≡ set b.bytes.now b.position byte → e.position ≡ index_after b.position 1 → e.bytes.ghost_name ≡ b.bytes.ghost_name → Put 1 b (byte ∷ []) e
unfolding stored
put_one byte h p n = record { is-stored = h; ended = p; short = omega arith; same_reference = n }

-- the buffer keeps its length
pub put-length : {k : ℕ} {b : TextBuffer} {t : List ℕ} {e : TextBuffer} → Put k b t e → length e.bytes.now ≡ length b.bytes.now
put-length {b} {t} p = ap length p.is-stored ∙ length-stored b.bytes.now b.position t

-- one text after another
pub put_both : {j k : ℕ} {b : TextBuffer} {t : List ℕ} {m : TextBuffer} {u : List ℕ} {e : TextBuffer} → Put j b t m → Put k m u e → Put (j + k) b (t ++ u) e
put_both {b} {t} {m} {u} p q =
    let l : length (t ++ u) ≡ length t + length u = length-append t u in
    record {
      is-stored = q.is-stored ∙ ap (λ (z : List ℕ). stored z m.position u) p.is-stored ∙ ap (λ (z : ℕ). stored (stored b.bytes.now b.position t) z u) p.ended ∙ stored-append b.bytes.now b.position t u;
      ended = q.ended ∙ ap (λ (z : ℕ). index_after z (length u)) p.ended ∙ behind_both b.position (length t) (length u) ∙ ap (index_after b.position) (sym l);
      short = omega arith;
      same_reference = q.same_reference ∙ p.same_reference;
    }

-- an equal text
pub put_same : {k : ℕ} {b : TextBuffer} {t u : List ℕ} {e : TextBuffer} → t ≡ u → Put k b t e → Put k b u e
put_same {k} {b} {e = e} h p = subst (λ (z : List ℕ). Put k b z e) h p

-- a larger bound on the length
pub put-within : {j k : ℕ} {b : TextBuffer} {t : List ℕ} {e : TextBuffer} → j ≤ k → Put j b t e → Put k b t e
put-within h p = record { is-stored = p.is-stored; ended = p.ended; short = omega arith; same_reference = p.same_reference }

-- a text put at the front of a buffer that has room for it
pub put_front : {k : ℕ} {b : TextBuffer} {t : List ℕ} {e : TextBuffer} → Put k b t e → b.position ≡ 0 → k ≤ length b.bytes.now → k ≤ last_index → (e.bytes.now ≡ t ++ drop (length t) b.bytes.now) × (e.position ≡ length t)
put_front {b} {t} p z h u =
    let s : List ℕ = b.bytes.now in
    let near : 0 + length t ≤ last_index = omega (arith, p.short) in
    let front : stored s b.position t ≡ stored s 0 t = ap (λ (n : ℕ). stored s n t) z in
    (p.is-stored ∙ front ∙ stored-near s 0 t near ∙ sets-eq t s 0 (omega (arith, p.short)) ∙ ap (λ (n : ℕ). t ++ drop n s) (zero-add (length t)), p.ended ∙ ap (λ (n : ℕ). index_after n (length t)) z ∙ behind-near 0 (length t) near ∙ zero-add (length t))

-- a loop that puts a text byte by byte: after i turns its first i bytes are put
pub record Copied (b : TextBuffer) (text : List ℕ) (e : TextBuffer) (i : ℕ) : Type 0 where
  pub small : i ≤ length text
  pub put : Put i b (take i text) e

pub copied_none : (b : TextBuffer) (text : List ℕ) → Copied b text b 0
copied_none b text = record { small = omega arith; put = put-none 0 b }

pub copied_next : {b : TextBuffer} (text : List ℕ) {m : TextBuffer} (i : ℕ) {e : TextBuffer} → Copied b text m i → i < length text → Put 1 m (get_or text i 0 ∷ []) e → Copied b text e (i + 1)
copied_next text i c h q =
    let w : take (i + 1) text ≡ take i text ++ (get_or text i 0 ∷ []) = ap (λ (z : ℕ). take z text) (add-one i) ∙ take-suc text i 0 h in
    record { small = omega arith; put = put_same (sym w) (put_both c.put q) }

-- where what was put, byte by byte, is all of a word
pub copied_all : {b : TextBuffer} (text word : List ℕ) {e : TextBuffer} (i : ℕ) → Copied b text e i → length text ≤ i → text ≡ word → Put (length word) b word e
copied_all {b} text word {e} i c h is = subst (λ (w : List ℕ). Put (length w) b w e) is (put-within (omega (arith, c.small)) (put_same (take_all i text h) c.put))
