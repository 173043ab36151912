-- One number for each event, and which items are active once the events below a number are handled. Assumes nothing.
use mathlib.Core.Path.{◌≡◌, refl, sym, ap, ap₂, ◌∙◌, subst}
use mathlib.Core.Logic.{◌⊎◌, inl, inr}
use mathlib.Core.List.{List, [], ◌∷◌}
use mathlib.Core.Bool.{Bool, true, false, ◌&&◌, ◌||◌, cond, and_comm}
use Prim.Native.Nat.{ℕ, ◌+◌, ◌*◌, ◌≤◌, ◌<◌}
use native.Mathlib.Omega.{arith}
use native.Mathlib.Nat.{le_of_eq, le_of_lt}
use lib.Dec.{T, leb, ltb, eqb→eq, ltb→lt, lt→ltb, leb→le, le→leb}
use lib.Ieee.Fits.{eq→eqb}
use borrow.Author.Tests.{lt-ltb, le-ltb, le-leb, lt-leb}
use Rattle.laws.specs.Lists.{Mem, Pairwise}
use Rattle.laws.proofs.Tests.{same_test, le_or_lt, or_false}
use Rattle.congestion.specs.Cells.{covers}
use Rattle.congestion.specs.Walk.{Item, State, WireEvent, at, same, step}
use Rattle.congestion.proofs.Sets.{Rising, same-is}
use Rattle.congestion.proofs.Tracking.{Tracks, tracks_same, tracks_start, tracks_end}

-- few items with rising indices, each with a start below its end
pub record Fit (l : List Item) : Type 0 where
  pub rise : Rising l
  pub small : (i : Item) → Mem i l → i.index < 4096
  pub long : (i : Item) → Mem i l → i.wire.start < i.wire.end

abbrev pub event : Bool → Item → WireEvent
event b i = record { ends = b; item = i }

-- the order (coordinate, end before start, index) as one number, as there are at most 4,096 indices: all facts about it are then linear
abbrev pub start_key : Item → ℕ
start_key i = i.wire.start * 8192 + 4096 + i.index

abbrev pub end_key : Item → ℕ
end_key i = i.wire.end * 8192 + i.index

abbrev pub key : WireEvent → ℕ
key e = cond e.ends (end_key e.item) (start_key e.item)

-- active once all events with a key below t are handled, and no other
abbrev pub active_at : ℕ → Item → Bool
active_at t i = ltb (start_key i) t && leb t (end_key i)

-- q holds the remaining events of l, in order: those with a key of t or more; p is the last coordinate
pub record Pending (l : List Item) (t p : ℕ) (q : List WireEvent) : Type 0 where
  pub rising : Pairwise (λ x y. key x < key y) q
  pub from : (e : WireEvent) → Mem e q → t ≤ key e
  pub past : (e : WireEvent) → Mem e q → p ≤ at e
  pub inside : (e : WireEvent) → Mem e q → Mem e.item l
  pub starts : (i : Item) → Mem i l → (start_key i < t) ⊎ Mem (event false i) q
  pub stops : (i : Item) → Mem i l → (end_key i < t) ⊎ Mem (event true i) q
  pub high : t ≤ (p + 1) * 8192

-- ---- keys and coordinates
key-low : (b : Bool) (i : Item) → at (event b i) * 8192 ≤ key (event b i)
key-low true i = omega arith
key-low false i = omega arith

key-high : (b : Bool) (i : Item) → i.index < 4096 → key (event b i) < at (event b i) * 8192 + 8192
key-high true i h = omega arith
key-high false i h = omega arith

pub at-order : (e x : WireEvent) → x.item.index < 4096 → key e ≤ key x → at e ≤ at x
at-order e x h k = go (at e) (at x) (key e) (key x) (key-low e.ends e.item) (key-high x.ends x.item h) k
  where
    go : (a b k l : ℕ) → a * 8192 ≤ k → l < b * 8192 + 8192 → k ≤ l → a ≤ b
    go a b k l p q r = omega arith

pub head_first : (e x : WireEvent) (q : List WireEvent) → Pairwise (λ x y. key x < key y) (e ∷ q) → Mem x (e ∷ q) → key e ≤ key x
head_first e x q a (inl p) = le_of_eq (sym (ap key p))
head_first e x q a (inr m) = le_of_lt (a.0 x m)

-- keys of two indices differ
pub starts-differ : (a n b m : ℕ) → n < 4096 → m < 4096 → (n ≡ m → ⊥) → a * 8192 + 4096 + n ≡ b * 8192 + 4096 + m → ⊥
starts-differ a n b m h k d e = d (elim (le_or_lt b a) [
  | inr z ↦ absurd (omega arith)
  | inl z ↦ elim (le_or_lt a b) [ inr y ↦ absurd (omega arith) | inl y ↦ omega arith ]
])

pub ends-differ : (a n b m : ℕ) → n < 4096 → m < 4096 → (n ≡ m → ⊥) → a * 8192 + n ≡ b * 8192 + m → ⊥
ends-differ a n b m h k d e = starts-differ a n b m h k d (omega arith)

pub kinds_differ : (a n b m : ℕ) → n < 4096 → m < 4096 → a * 8192 + n ≡ b * 8192 + 4096 + m → ⊥
kinds_differ a n b m h k e = elim (le_or_lt a b) [ inl z ↦ omega arith | inr z ↦ omega arith ]

-- ---- an item none of whose keys lies between t and u
same-active : (t u : ℕ) (i : Item) → t ≤ u → (start_key i < t) ⊎ (u ≤ start_key i) → (end_key i < t) ⊎ (u ≤ end_key i) → active_at t i ≡ active_at u i
same-active t u i h a b = ap₂ ◌&&◌ (lower (start_key i) a) (upper (end_key i) b)
  where
    lower : (k : ℕ) → (k < t) ⊎ (u ≤ k) → ltb k t ≡ ltb k u
    lower k (inl p) = lt-ltb k t p ∙ sym (lt-ltb k u (omega arith))
    lower k (inr p) = le-ltb k t (omega arith) ∙ sym (le-ltb k u p)

    upper : (k : ℕ) → (k < t) ⊎ (u ≤ k) → leb t k ≡ leb u k
    upper k (inl p) = lt-leb t k p ∙ sym (lt-leb u k (omega arith))
    upper k (inr p) = le-leb t k (omega arith) ∙ sym (le-leb u k p)

below_or_above : (k t : ℕ) → (k ≡ t → ⊥) → (k < t) ⊎ (t + 1 ≤ k)
below_or_above k t h = elim (le_or_lt t k) [ inl p ↦ inr (omega arith) | inr p ↦ inl p ]

module _ (l : List Item) (fit : Fit l) where
  module _ (t p : ℕ) (e : WireEvent) (q : List WireEvent) (pe : Pending l t p (e ∷ q)) where
    -- between the last event and this one nothing happens
    next_start : (i : Item) → Mem i l → (start_key i < t) ⊎ (key e ≤ start_key i)
    next_start i m = elim (pe.starts i m) [ inl h ↦ inl h | inr n ↦ inr (head_first e (event false i) q pe.rising n) ]

    next_stop : (i : Item) → Mem i l → (end_key i < t) ⊎ (key e ≤ end_key i)
    next_stop i m = elim (pe.stops i m) [ inl h ↦ inl h | inr n ↦ inr (head_first e (event true i) q pe.rising n) ]

    pub unchanged : (i : Item) → Mem i l → active_at t i ≡ active_at (key e) i
    unchanged i m = same-active t (key e) i (pe.from e (inl refl)) (next_start i m) (next_stop i m)

    pub item∈ : Mem e.item l
    item∈ = pe.inside e (inl refl)

    pub next : Pending l (key e + 1) (at e) q
    next = record {
      rising = pe.rising.1;
      from = λ x m. let h = pe.rising.0 x m in omega arith;
      past = λ x m. at-order e x (fit.small x.item (pe.inside x (inr m))) (le_of_lt (pe.rising.0 x m));
      inside = λ x m. pe.inside x (inr m);
      starts = λ i m. go false i (start_key i) refl (pe.starts i m);
      stops = λ i m. go true i (end_key i) refl (pe.stops i m);
      high = up_to (key e) (at e) (key-high e.ends e.item (fit.small e.item item∈));
    }
      where
        up_to : (k a : ℕ) → k < a * 8192 + 8192 → k + 1 ≤ (a + 1) * 8192
        up_to k a h = omega arith

        old : (k t u : ℕ) → k < t → t ≤ u → k < u + 1
        old k t u h g = omega arith

        now : (k u : ℕ) → k ≡ u → k < u + 1
        now k u h = omega arith

        go : (b : Bool) (i : Item) (k : ℕ) → key (event b i) ≡ k → (k < t) ⊎ Mem (event b i) (e ∷ q) → (k < key e + 1) ⊎ Mem (event b i) q
        go b i k r (inl h) = inl (old k t (key e) h (pe.from e (inl refl)))
        go b i k r (inr (inl h)) = inl (now k (key e) (sym r ∙ ap key h))
        go b i k r (inr (inr n)) = inr n

    -- the active ones are those that cover the cells up to this event
    pub covering : (k : ℕ) → p ≤ k → k < at e → (i : Item) → Mem i l → active_at t i ≡ covers k i.wire
    covering k a b i m =
        ap₂ ◌&&◌ (same_test (ltb (start_key i) t) (leb i.wire.start k) (λ x. le→leb i.wire.start k (begun (ltb→lt (start_key i) t x))) (λ x. lt→ltb (start_key i) t (handled (leb→le i.wire.start k x) (next_start i m))))
        (same_test (leb t (end_key i)) (ltb k i.wire.end) (λ x. lt→ltb k i.wire.end (lasting (leb→le t (end_key i) x) (next_stop i m))) (λ x. le→leb t (end_key i) (waiting (ltb→lt k i.wire.end x))))
      where
        hi : t ≤ (p + 1) * 8192
        hi = pe.high

        lo : at e * 8192 ≤ key e
        lo = key-low e.ends e.item

        ix : i.index < 4096
        ix = fit.small i m

        begun : start_key i < t → i.wire.start ≤ k
        begun h = omega arith

        late : (s x n K : ℕ) → n < 4096 → x * 8192 ≤ K → K ≤ s * 8192 + 4096 + n → k < x → s ≤ k → ⊥
        late s x n K g f r u v = omega arith

        handled : i.wire.start ≤ k → (start_key i < t) ⊎ (key e ≤ start_key i) → start_key i < t
        handled h (inl g) = g
        handled h (inr g) = absurd (late i.wire.start (at e) i.index (key e) ix lo g b h)

        after_k : (f x n K : ℕ) → n < 4096 → x * 8192 ≤ K → K ≤ f * 8192 + n → k < x → k < f
        after_k f x n K g a r u = omega arith

        lasting : t ≤ end_key i → (end_key i < t) ⊎ (key e ≤ end_key i) → k < i.wire.end
        lasting h (inl g) = absurd (omega arith)
        lasting h (inr g) = after_k i.wire.end (at e) i.index (key e) ix lo g b

        waiting : k < i.wire.end → t ≤ end_key i
        waiting h = omega arith

  -- after the last event nothing is covered
  pub uncovered : (t p : ℕ) → Pending l t p [] → (k : ℕ) → p ≤ k → (i : Item) → Mem i l → covers k i.wire ≡ false
  uncovered t p pe k a i m = ap (λ (b : Bool). leb i.wire.start k && b) (le-ltb k i.wire.end (go (pe.stops i m))) ∙ and_comm (leb i.wire.start k) false
    where
      hi : t ≤ (p + 1) * 8192
      hi = pe.high

      go : (end_key i < t) ⊎ Mem (event true i) [] → i.wire.end ≤ k
      go (inl h) = omega arith
      go (inr n) = absurd n

  -- ---- the active set before and after an event of s
  module _ (s : Item) (s∈ : Mem s l) where
    sx : s.index < 4096
    sx = fit.small s s∈

    sl : s.wire.start < s.wire.end
    sl = fit.long s s∈

    another : (j : Item) → same s j ≡ false → j.index ≡ s.index → ⊥
    another j h e = subst T h (eq→eqb (sym e))

    up_one : (n : ℕ) → n ≤ n + 1
    up_one n = omega arith

    pub off_before : active_at (start_key s) s ≡ false
    off_before = ap (λ (b : Bool). b && leb (start_key s) (end_key s)) (le-ltb (start_key s) (start_key s) (omega arith))

    on-after : active_at (start_key s + 1) s ≡ true
    on-after = ap₂ ◌&&◌ (lt-ltb (start_key s) (start_key s + 1) (omega arith)) (le-leb (start_key s + 1) (end_key s) (omega (arith, sl, sx)))

    pub on-before : active_at (end_key s) s ≡ true
    on-before = ap₂ ◌&&◌ (lt-ltb (start_key s) (end_key s) (omega (arith, sl, sx))) (le-leb (end_key s) (end_key s) (omega arith))

    pub off_after : active_at (end_key s + 1) s ≡ false
    off_after = ap (λ (b : Bool). ltb (start_key s) (end_key s + 1) && b) (lt-leb (end_key s + 1) (end_key s) (omega arith)) ∙ and_comm (ltb (start_key s) (end_key s + 1)) false

    mine : (u v : ℕ) (j : Item) → Mem j l → active_at u s ≡ true → active_at v s ≡ false → (same s j ≡ false → active_at v j ≡ active_at u j) → active_at u j ≡ (active_at v j || same s j)
    mine u v j m a b f = go (same s j) refl
      where
        go : (x : Bool) → same s j ≡ x → active_at u j ≡ (active_at v j || x)
        go true h = let r : j ≡ s = same-is l fit.rise j s m s∈ (sym (eqb→eq s.index j.index (subst T (sym h) tt))) in ap (active_at u) r ∙ a ∙ sym (ap (λ (z : Bool). z || true) (ap (active_at v) r ∙ b))
        go false h = sym (f h) ∙ or_false (active_at v j)

    pub start_adds : (j : Item) → Mem j l → active_at (start_key s + 1) j ≡ (active_at (start_key s) j || same s j)
    start_adds j m = mine (start_key s + 1) (start_key s) j m on-after off_before
        (λ h. same-active (start_key s) (start_key s + 1) j (up_one (start_key s))
        (below_or_above (start_key j) (start_key s) (starts-differ j.wire.start j.index s.wire.start s.index (fit.small j m) sx (another j h)))
        (below_or_above (end_key j) (start_key s) (kinds_differ j.wire.end j.index s.wire.start s.index (fit.small j m) sx)))

    pub end_drops : (j : Item) → Mem j l → active_at (end_key s) j ≡ (active_at (end_key s + 1) j || same s j)
    end_drops j m = mine (end_key s) (end_key s + 1) j m on-before off_after
        (λ h. sym (same-active (end_key s) (end_key s + 1) j (up_one (end_key s))
        (below_or_above (start_key j) (end_key s) (λ e. kinds_differ s.wire.end s.index j.wire.start j.index sx (fit.small j m) (sym e)))
        (below_or_above (end_key j) (end_key s) (ends-differ j.wire.end j.index s.wire.end s.index (fit.small j m) sx (another j h)))))

  -- ---- one step
  pub step_tracks : (c t p : ℕ) (b : Bool) (s : Item) (q : List WireEvent) (st : State) → Pending l t p (event b s ∷ q) → Tracks c l (active_at t) st → Tracks c l (active_at (key (event b s) + 1)) (step c st (event b s)).value
  step_tracks c t p true s q st pe tr =
      let m = item∈ t p (event true s) q pe in
      tracks_end c l fit.rise s m (active_at (end_key s + 1)) (active_at (end_key s)) (off_after s m) (end_drops s m) s.wire.end st (tracks_same c l (active_at t) (active_at (end_key s)) st (unchanged t p (event true s) q pe) tr)
  step_tracks c t p false s q st pe tr =
      let m = item∈ t p (event false s) q pe in
      tracks_start c l fit.rise s m (active_at (start_key s)) (active_at (start_key s + 1)) (off_before s m) (start_adds s m) s.wire.start st (tracks_same c l (active_at t) (active_at (start_key s)) st (unchanged t p (event false s) q pe) tr)
