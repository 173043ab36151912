-- A list after its count, its entries all of one width: whether bytes are missing, and what it says. Assumes nothing.
use Rattle.std.specs.Prelude.{Ok, Err}
use mathlib.Core.Path.{◌≡◌, refl, sym, ap, subst, ◌∙◌}
use mathlib.Core.Logic.{inl, inr}
use mathlib.Core.Bool.{Bool, true, false, cond}
use mathlib.Core.List.{List, map}
use Prim.Native.Nat.{ℕ, ◌+◌, ◌-◌, ◌*◌, ◌≤◌, ◌<◌}
use native.Mathlib.Nat.{le_trans, mul-le-mul_left}
use native.Mathlib.Omega.{arith}
use borrow.Author.Tests.{lt-ltb, le-ltb}
use lib.Dec.{ltb}
use lib.ListN.{length, take, drop, length-drop, length-map}
use lib.Seq.{drop-drop}
use Rattle.laws.specs.Lists.{some_of}
use Rattle.laws.proofs.Tests.{le_or_lt, decide, cond_true, cond_false}
use Rattle.drawing.specs.declared.refusal.Refusal.{Refusal}
use Rattle.drawing.specs.declared.refusal.Refusal.TheVariants.{MalformedFile, TooManyEntries}
use Rattle.file.specs.Reading.{Read, got, refused, big_endian, number, entries, counted}
use Rattle.file.specs.Inner.Places.{places, count_of}
use Rattle.file.proofs.Fixed.{Fixed, then-got, then-refused, fixed_number, fixed-entries}
use Rattle.file.proofs.FixedParts.{no_fault}
use Rattle.file.proofs.FixedPlaces.{length-places, some_never}

abbrev count_in : List ℕ → ℕ
count_in l = big_endian 0 (take 4 l)

-- the list has n entries of w bytes, at most as many as the limit, and none of their bytes is missing
pub record There (limit w : ℕ) (l : List ℕ) (n : ℕ) : Type 0 where
  pub is : n ≡ count_in l
  pub few : n ≤ limit
  pub whole : 4 + w * n ≤ length l

-- the list is read: its entries and the bytes after it
pub record Listed {A : Type 0} (limit w : ℕ) (value : List ℕ → A) (entry : List ℕ → Read A) (l : List ℕ) (n : ℕ) : Type 0 where
  pub there : There limit w l n
  pub reads : counted limit entry l ≡ got (map value (places w n (drop 4 l))) (drop (4 + w * n) l)

-- ---- the faults of a list in byte order
module _ {A : Type 0} (limit : ℕ) (entry : List ℕ → Read A) (l : List ℕ) where
  counted-short : length l < 4 → counted limit entry l ≡ refused MalformedFile
  unfolding counted
  counted-short h = then-refused _ _ MalformedFile ((fixed_number 4).short l h)

  counted-on : 4 ≤ length l → counted limit entry l ≡ cond (ltb limit (count_in l)) (refused TooManyEntries) (entries entry (count_in l) (drop 4 l))
  unfolding counted
  counted-on h = then-got _ _ _ _ ((fixed_number 4).reads l h refl)

  counted-many : 4 ≤ length l → limit < count_in l → counted limit entry l ≡ refused TooManyEntries
  counted-many h k = counted-on h ∙ cond_true _ _ _ (lt-ltb _ _ k)

  counted-few : (n : ℕ) → 4 ≤ length l → n ≡ count_in l → n ≤ limit → counted limit entry l ≡ entries entry n (drop 4 l)
  counted-few n h e k = counted-on h ∙ cond_false _ _ _ (le-ltb limit (count_in l) (omega arith)) ∙ ap (λ (m : ℕ). entries entry m (drop 4 l)) (sym e)

module _ {A : Type 0} {w : ℕ} {bad : List ℕ → Bool} {value : List ℕ → A} {entry : List ℕ → Read A} (f : Fixed w bad value entry) (limit : ℕ) (l : List ℕ) (n : ℕ) where
  counted_missing : 4 ≤ length l → n ≡ count_in l → n ≤ limit → length l < 4 + w * n → counted limit entry l ≡ refused MalformedFile
  counted_missing h e k m = counted-few limit entry l n h e k ∙ (fixed-entries f n).short (drop 4 l) (simp length-drop (omega arith))

  module _ (t : There limit w l n) where
    counted_wrong : some_of bad (places w n (drop 4 l)) ≡ true → counted limit entry l ≡ refused MalformedFile
    counted_wrong b = counted-few limit entry l n (omega (arith, t.whole)) t.is t.few ∙ (fixed-entries f n).wrong (drop 4 l) (simp length-drop (omega (arith, t.whole))) b

    counted-there : some_of bad (places w n (drop 4 l)) ≡ false → Listed limit w value entry l n
    counted-there b =
        record {
          there = t;
          reads = counted-few limit entry l n (omega (arith, t.whole)) t.is t.few ∙ (fixed-entries f n).reads (drop 4 l) (simp length-drop (omega (arith, t.whole))) b ∙ ap (got (map value (places w n (drop 4 l)))) (drop-drop (w * n) 4 l);
        }

-- what is known about a list of this width before its entries are read
pub data Seen (limit w : ℕ) (l : List ℕ) : Type 0 where
  short : length l < 4 → Seen limit w l
  many : 4 ≤ length l → limit < count_in l → Seen limit w l
  missing : 4 ≤ length l → count_in l ≤ limit → length l < 4 + w * count_in l → Seen limit w l
  here : (n : ℕ) → There limit w l n → Seen limit w l

pub see : (limit w : ℕ) (l : List ℕ) → Seen limit w l
see limit w l = elim (le_or_lt 4 (length l)) [
  | inr h ↦ short h
  | inl h ↦ elim (le_or_lt (count_in l) limit) [
    | inr k ↦ many h k
    | inl k ↦ elim (le_or_lt (4 + w * count_in l) (length l)) [
      | inr m ↦ missing h k m
      | inl m ↦ here (count_in l) (record { is = refl; few = k; whole = m })
    ]
  ]
]

-- ---- the count that a list gives
module _ {A : Type 0} where
  count-refused : (x : Read (List A)) (r : Refusal) → x ≡ refused r → Err r ≡ count_of x
  unfolding count_of
  count-refused x r e = sym (rw e)

  pub count-got : (x : Read (List A)) (l : List A) (rest : List ℕ) (n : ℕ) → x ≡ got l rest → length l ≡ n → Ok n ≡ count_of x
  unfolding count_of
  count-got x l rest n e g = sym (rw e (ap Ok g))

  pub refused-of : (x : Read (List A)) (r : Refusal) → Err r ≡ count_of x → x ≡ refused r
  unfolding count_of
  refused-of (got l rest) r e = cc
  refused-of (refused q) r e = cc

module _ {A : Type 0} {w : ℕ} {bad : List ℕ → Bool} {value : List ℕ → A} {entry : List ℕ → Read A} (f : Fixed w bad value entry) (limit : ℕ) (l : List ℕ) where
  count-listed : (n : ℕ) → Listed limit w value entry l n → Ok n ≡ count_of (counted limit entry l)
  count-listed n g = count-got _ _ _ n g.reads (length-map (places w n (drop 4 l)) value ∙ length-places w n (drop 4 l))

  -- the answer where no byte is missing
  pub count_wrong : (n : ℕ) → There limit w l n → some_of bad (places w n (drop 4 l)) ≡ true → Err MalformedFile ≡ count_of (counted limit entry l)
  count_wrong n t b = count-refused _ MalformedFile (counted_wrong f limit l n t b)

  pub count-right : (n : ℕ) → There limit w l n → some_of bad (places w n (drop 4 l)) ≡ false → Ok n ≡ count_of (counted limit entry l)
  count-right n t b = count-listed n (counted-there f limit l n t b)

  -- what the answer says about the list
  pub listed_of : (n : ℕ) → Ok n ≡ count_of (counted limit entry l) → Listed limit w value entry l n
  listed_of n e = go (see limit w l)
    where
      not_so : {B : Type 0} (r : Refusal) → counted limit entry l ≡ refused r → B
      not_so r g = let d : Err r ≡ count_of (counted limit entry l) = count-refused _ r g in let z : ◌≡◌ {A = ℕ} 0 1 = cc in absurd (omega arith)

      go : Seen limit w l → Listed limit w value entry l n
      go (short h) = not_so MalformedFile (counted-short limit entry l h)
      go (many h k) = not_so TooManyEntries (counted-many limit entry l h k)
      go (missing h k m) = not_so MalformedFile (counted_missing f limit l (count_in l) h refl k m)
      go (here m t) = elim (decide (some_of bad (places w m (drop 4 l)))) [
        | inl b ↦ not_so MalformedFile (counted_wrong f limit l m t b)
        | inr b ↦
            let g = counted-there f limit l m t b in
            let d : Ok m ≡ count_of (counted limit entry l) = count-listed m g in
            let q : m ≡ n = cc in
            subst (Listed limit w value entry l) q g
      ]

  -- a list that is refused as one of plain numbers is refused as any list of that width
  pub refused_as : (r : Refusal) → Err r ≡ count_of (counted limit (number w) l) → counted limit entry l ≡ refused r
  refused_as r e = go (see limit w l)
    where
      so : (q : Refusal) → counted limit (number w) l ≡ refused q → counted limit entry l ≡ refused q → counted limit entry l ≡ refused r
      so q g h = let d : Err q ≡ count_of (counted limit (number w) l) = count-refused _ q g in let p : q ≡ r = cc in h ∙ ap refused p

      go : Seen limit w l → counted limit entry l ≡ refused r
      go (short h) = so MalformedFile (counted-short limit (number w) l h) (counted-short limit entry l h)
      go (many h k) = so TooManyEntries (counted-many limit (number w) l h k) (counted-many limit entry l h k)
      go (missing h k m) = so MalformedFile (counted_missing (fixed_number w) limit l (count_in l) h refl k m) (counted_missing f limit l (count_in l) h refl k m)
      go (here m t) = let g = counted-there (fixed_number w) limit l m t (some_never (places w m (drop 4 l))) in let d : Ok m ≡ count_of (counted limit (number w) l) = count-got _ _ _ m g.reads (length-map (places w m (drop 4 l)) _ ∙ length-places w m (drop 4 l)) in cc

  pub refused-same : (r : Refusal) → Err r ≡ count_of (counted limit (number w) l) → Err r ≡ count_of (counted limit entry l)
  refused-same r e = count-refused _ r (refused_as r e)

-- entries without a fault of their own
pub listed_as : {A : Type 0} {w : ℕ} {value : List ℕ → A} {entry : List ℕ → Read A} (f : Fixed w no_fault value entry) (limit : ℕ) (l : List ℕ) (n : ℕ) → Ok n ≡ count_of (counted limit (number w) l) → Listed limit w value entry l n
listed_as {w} f limit l n e = counted-there f limit l n (listed_of (fixed_number w) limit l n e).there (some_never (places w n (drop 4 l)))

-- ---- a list whose count is at an index of the file: its entries, and the bytes after it
pub record PartAt {A : Type 0} (limit w : ℕ) (value : List ℕ → A) (entry : List ℕ → Read A) (l : List ℕ) (at n : ℕ) : Type 0 where
  pub few : n ≤ limit
  pub room : at + 4 + w * n ≤ length l
  pub reads : counted limit entry (drop at l) ≡ got (map value (places w n (drop (at + 4) l))) (drop (at + 4 + w * n) l)

pub part_of : {A : Type 0} {limit w : ℕ} {value : List ℕ → A} {entry : List ℕ → Read A} {l : List ℕ} {at n : ℕ} → at ≤ length l → Listed limit w value entry (drop at l) n → PartAt limit w value entry l at n
part_of {limit} {w} {value} {entry} {l} {at} {n} h g =
    let whole : 4 + w * n ≤ length l - at = simp length-drop at g.there.whole in
    let e : at + (4 + w * n) ≡ at + 4 + w * n = omega arith in
    record {
      few = g.there.few;
      room = omega arith;
      reads = g.reads ∙ (λ i. got (map value (places w n (drop-drop 4 at l i))) (drop-drop (4 + w * n) at l i)) ∙ ap (λ (k : ℕ). got (map value (places w n (drop (at + 4) l))) (drop k l)) e;
    }

-- the bytes of all entries, within the limits of the program
pub product : (w n : ℕ) → w ≤ 36 → n ≤ 240 → w * n ≤ 8640
product w n h k = le_trans (mul-le-mul_left w k) (omega arith)

-- ---- a list of plain numbers from an index of the file on, by the number of remaining bytes
module _ (bytes : List ℕ) (at limit w : ℕ) (a : at ≤ length bytes) where
  pub count-short : length bytes - at < 4 → Err MalformedFile ≡ count_of (counted limit (number w) (drop at bytes))
  count-short h = count-refused _ MalformedFile (counted-short limit (number w) (drop at bytes) (simp length-drop h))

  module _ (n : ℕ) (h : 4 ≤ length bytes - at) (e : n ≡ count_in (drop at bytes)) where
    pub count-many : limit < n → Err TooManyEntries ≡ count_of (counted limit (number w) (drop at bytes))
    count-many k = count-refused _ TooManyEntries (counted-many limit (number w) (drop at bytes) (simp length-drop h) (rw e at k))

    pub count_missing : n ≤ limit → length bytes - at - 4 < w * n → Err MalformedFile ≡ count_of (counted limit (number w) (drop at bytes))
    count_missing k m = count-refused _ MalformedFile (counted_missing (fixed_number w) limit (drop at bytes) n (simp length-drop h) e k (simp length-drop (omega arith)))

    pub count-there : n ≤ limit → w * n ≤ length bytes - at - 4 → Ok n ≡ count_of (counted limit (number w) (drop at bytes))
    count-there k m = count-right (fixed_number w) limit (drop at bytes) n (record { is = e; few = k; whole = simp length-drop (omega arith) }) (some_never (places w n (drop 4 (drop at bytes))))
