-- A part of a slice that is lent and returned, and what the rest of the slice is meanwhile. Assumes nothing.
use mathlib.Core.Path.{◌≡◌, refl, sym, ap, ◌∙◌}
use mathlib.Core.List.{List, [], ◌∷◌, ◌++◌, append-nil}
use Prim.Native.Nat.{ℕ, zero, suc, ◌+◌, ◌-◌, ◌≤◌}
use native.Mathlib.Omega.{arith}
use lib.ListN.{length, get_or, take, drop, length-append, length-drop, drop_of_length-le}
use lib.Seq.{take_at, drop_at, take_all, take-take, drop-drop, get_or-drop}
use borrow.Rule.Slice.PartMut.{mid_of, put_mid, post_of, Post-is}

module _ {A : Type 0} where
  -- `&mut s[a..]`: what is lent, and what the slice is when e is returned
  pub tail_lent : (a : ℕ) (s : List A) → mid_of a (length s - a) s ≡ drop a s
  tail_lent a s = take_all (length s - a) (drop a s) (simp length-drop (omega arith))

  pub tail_back : (a : ℕ) (s e : List A) → a ≤ length s → put_mid a (length s - a) s e ≡ take a s ++ e
  tail_back a s e h =
      let p : post_of a (length s - a) s ≡ drop (length s) s = Post-is a (length s) s h in
      let n : drop (length s) s ≡ [] = drop_of_length-le s {i = length s} (omega arith) in
      rw (p, n, append-nil)

  -- the first `mid` entries of s were returned as e: the second part is still that of s, and when it is returned as f the whole is e ++ f
  module _ (mid : ℕ) (s e : List A) (len : length e ≡ mid) where
    pub second-lent : mid_of mid (length (e ++ drop mid s) - mid) (e ++ drop mid s) ≡ drop mid s
    second-lent = tail_lent mid (e ++ drop mid s) ∙ drop_at e (drop mid s) mid len

    pub second_back : (f : List A) → put_mid mid (length (e ++ drop mid s) - mid) (e ++ drop mid s) f ≡ e ++ f
    second_back f =
        let fits : mid ≤ length (e ++ drop mid s) = simp length-append (omega arith) in
        tail_back mid (e ++ drop mid s) f fits ∙ ap (λ (l : List A). l ++ f) (take_at e (drop mid s) mid len)

  -- lists that agree from index n on agree from any later index on, and at it
  pub drop_past : (n m : ℕ) (s r : List A) → drop n s ≡ drop n r → n ≤ m → drop m s ≡ drop m r
  drop_past n m s r e h =
      let k : n + (m - n) ≡ m = omega arith in
      ap (λ (i : ℕ). drop i s) (sym k) ∙ sym (drop-drop (m - n) n s) ∙ ap (drop (m - n)) e ∙ drop-drop (m - n) n r ∙ ap (λ (i : ℕ). drop i r) k

  pub get_d_past : (n i : ℕ) (s r : List A) (d : A) → drop n s ≡ drop n r → n ≤ i → get_or s i d ≡ get_or r i d
  get_d_past n i s r d e h =
      let k : n + (i - n) ≡ i = omega arith in
      ap (λ (j : ℕ). get_or s j d) (sym k) ∙ sym (get_or-drop n s (i - n) d) ∙ ap (λ (l : List A). get_or l (i - n) d) e ∙ get_or-drop n r (i - n) d ∙ ap (λ (j : ℕ). get_or r j d) k

  -- a part that ends within the first n entries is a part of these, so lists that agree there have equal parts
  part_of : (j m n : ℕ) (l : List A) → j + m ≤ n → take m (drop j (take n l)) ≡ take m (drop j l)
  part_of zero m n l h = take-take m n l (omega arith)
  part_of (suc j) m zero l h = absurd (omega arith)
  part_of (suc j) m (suc n) [] h = refl
  part_of (suc j) m (suc n) (x ∷ l) h = part_of j m n l (omega arith)

  pub part_same : (j m n : ℕ) (r s : List A) → take n r ≡ take n s → j + m ≤ n → take m (drop j r) ≡ take m (drop j s)
  part_same j m n r s e h = sym (part_of j m n r h) ∙ ap (λ (l : List A). take m (drop j l)) e ∙ part_of j m n s h
