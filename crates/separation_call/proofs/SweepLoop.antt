-- The loop over the events: after q events, the others from the state reached have the outcome of all. Assumes nothing.
use Rattle.drawing.specs.declared.refusal.Refusal.{Refusal}
use Rattle.std.specs.Prelude.{Result, Ok, Err}
use mathlib.Core.Path.{◌≡◌, refl, sym, ap, ◌∙◌, subst}
use mathlib.Core.Logic.{inl, inr}
use mathlib.Core.List.{List, [], ◌∷◌}
use Prim.Native.Nat.{ℕ, ◌+◌, ◌-◌, ◌*◌, ◌^◌, ◌≤◌, ◌<◌}
use native.Mathlib.Omega.{arith}
use borrow.Author.Tests.{lt-ltb, le-ltb}
use lib.Dec.{ltb}
use lib.ListN.{length, get_or, drop, length-take}
use lib.Seq.{length-take-le}
use Rattle.laws.specs.Lists.{Mem}
use Rattle.laws.specs.Charged.{Charged, runs}
use Rattle.laws.specs.Inner.Allowance.{Outcome, left, within}
use Rattle.laws.proofs.Tests.{le_or_lt, cond_true, cond_false}
use Rattle.laws.proofs.Places.{first-at}
use Rattle.laws.proofs.Runs.{read_left, read-spent, onward-spent, onward-left}
use Rattle.laws.proofs.Loops.{ComesTo, loop_next, loop_stops, loop_ends, table_next, table_none}
use Rattle.rows.specs.Rows.{Row, Event, ends, starts, events}
use Rattle.rows.specs.Inner.Tables.{row_from, event_from}
use Rattle.separation.specs.Figures.{Figures}
use Rattle.separation.specs.Lines.{lines, levels}
use Rattle.separation.specs.Walk.{no_figures, Sweep, remove, starts_at, ends_at, step, sweep}
use Rattle.separation.proofs.Allowances.{sweep-within}
use Rattle.separation.proofs.Sweeps.{State, begin, after-start, after-end, is-active}
use Rattle.separation.specs.declared.state.Sweeping.{Sweeping}
use Rattle.separation.specs.declared.found.Found.{Found}
use Rattle.separation.specs.Inner.States.{met_by, at_start, Gives, found_in, swept_of}
use Rattle.separation_call.specs.Inner.Sweeping.{Ready, AtStart, AtEnd, AtEvent, AtFirst, figures_of, Begins, Finishes, Handles}
use Rattle.separation.proofs.States.{went_on, stopped, start-met}
use Rattle.separation_call.proofs.SweepRun.{front-word, start-active, end-active}

-- ---- an event by its number
ends-at : (l : List Row) (e : ℕ) → e < length l → event_from l e ≡ ends e (row_from l e)
ends-at l e h = cond_true (ltb e (length l)) _ _ (lt-ltb e (length l) h)

starts-at : (l : List Row) (e : ℕ) → length l ≤ e → event_from l e ≡ starts (e - length l) (row_from l (e - length l))
starts-at l e h = cond_false (ltb e (length l)) _ _ (le-ltb e (length l) h)

ending : (ls : List ℕ) (H : ℕ) (t : Sweep) (i : ℕ) (x : Row) → step ls H t (ends i x) ≡ ends_at H t x
unfolding step
ending ls H t i x = refl

starting : (ls : List ℕ) (H : ℕ) (t : Sweep) (i : ℕ) (x : Row) → step ls H t (starts i x) ≡ starts_at ls H t x
unfolding step
starting ls H t i x = refl

module _ (s : List ℕ) (n leaves e : ℕ) where
  pub event_ends : AtEvent s n leaves e → e < n → AtEnd s n leaves e
  event_ends a h = record { at = record { l = a.l; F = a.F; H = a.H; b = a.b; active = a.active; size = a.size; count = a.count; ready = a.ready; inside = h; early = a.early }; there = a.there h }

  pub event_starts : AtEvent s n leaves e → n ≤ e → AtStart s n leaves (e - n)
  event_starts a h = record { l = a.l; F = a.F; H = a.H; b = a.b; active = a.active; size = a.size; count = a.count; ready = a.ready; inside = let g = a.inside in omega arith; early = a.early }

  module _ (t : List ℕ) (st : Sweeping) (r : Result Sweeping Refusal) where
    -- a step that is known by its event
    abbrev Step : List Row → List ℕ → ℕ → ℕ → Charged Sweep → Type 0
    Step l F H b c = Gives r (figures_of (within st.remaining c)) × ((to : Sweeping) → r ≡ Ok to → Ready l F H (b + 1) c.value.active t)

    pub handles_end : e < n → Finishes s t n leaves e st r → Handles s t n leaves e st r
    handles_end h f l F H b active size count ready there =
        let here : Sweep = record { active = active; met = met_by st } in
        let g = f l F H b active size count ready (there h) in
        let c : step (lines l) H here (event_from l e) ≡ ends_at H here (row_from l e) = ap (step (lines l) H here) (ends-at l e (omega arith)) ∙ ending (lines l) H here e (row_from l e) in
        subst (Step l F H b) (sym c) (g.0, λ to w. subst (λ (a : List Row). Ready l F H (b + 1) a t) (sym (end-active (lines l) H active st (row_from l e))) (g.1 to w))

    pub handles_start : n ≤ e → Begins s t n leaves (e - n) st r → Handles s t n leaves e st r
    handles_start h f l F H b active size count ready there =
        let here : Sweep = record { active = active; met = met_by st } in
        let g = f l F H b active size count ready in
        let k : e - n ≡ e - length l = omega arith in
        let c : step (lines l) H here (event_from l e) ≡ starts_at (lines l) H here (row_from l (e - n)) = ap (step (lines l) H here) (starts-at l e (omega arith)) ∙ starting (lines l) H here (e - length l) (row_from l (e - length l)) ∙ ap (λ (j : ℕ). starts_at (lines l) H here (row_from l j)) (sym k) in
        subst (Step l F H b) (sym c) (g.0, λ to w. subst (λ (a : List Row). Ready l F H (b + 1) a t) (sym (start-active (lines l) H active st (row_from l (e - n)))) (g.1 to w))

-- ---- the loop
module _ (l : List Row) (F : List ℕ) (H allowance : ℕ) where
  abbrev start : Sweep
  start = record { active = []; met = no_figures }

  -- the outcome of all events
  abbrev whole : Outcome Sweep
  whole = within allowance (runs (step (lines l) H) start (events l))

  abbrev all : Outcome Figures
  all = figures_of whole

  pub record Going (st : Sweeping) (s : List ℕ) (q : ℕ) : Type 0 where
    pub active : List Row
    pub ready : Ready l F H q active s
    pub proper : (r : Row) → Mem r l → r.start < r.end
    pub state : State l active (drop q (events l))
    pub below : q ≤ 2 * length l
    pub onwards : ComesTo (step (lines l) H) whole (drop q (events l)) (record { active = active; met = met_by st }) st.remaining

  pub going_none : (st : Sweeping) (s : List ℕ) → Ready l F H 0 [] s → ((r : Row) → Mem r l → r.start < r.end) → st ≡ at_start allowance → Going st s 0
  going_none st s ready proper e = record {
    active = [];
    ready = ready;
    proper = proper;
    state = begin l;
    below = omega arith;
    onwards = record { come = λ i. within (e i).remaining (runs (step (lines l) H) (record { active = []; met = (ap met_by e ∙ start-met allowance) i }) (events l)) };
  }

  module _ (st : Sweeping) (s : List ℕ) (q : ℕ) (g : Going st s q) where
    tables_long : 9 * length l ≤ length F
    tables_long =
        let e = ap length g.ready.front in
        omega (arith, length-take-le (9 * length l) s (omega (arith, g.ready.room)), length-take (9 * length l) F)

    enough : 2 * length l ≤ length F
    enough = omega (arith, tables_long)

    module _ (less : q < 2 * length l) where
      abbrev number : ℕ
      number = get_or s q 0

      same_word : number ≡ get_or F q 0
      same_word = front-word l F H q g.active s g.ready q (omega arith)

      pub number_small : number < 2 * length l
      number_small =
          let k : get_or F q 0 < 2 * length l = first-at (λ e. e < 2 * length l) 0 (2 * length l) F enough g.ready.prepared.small q less in
          omega (arith, same_word)

      next_is : drop q (events l) ≡ event_from l number ∷ drop (q + 1) (events l)
      next_is = table_next 0 (event_from l) (2 * length l) F enough (events l) g.ready.prepared.ordered q less ∙ ap (λ (e : ℕ). event_from l e ∷ drop (q + 1) (events l)) (sym same_word)

      now_state : State l g.active (event_from l number ∷ drop (q + 1) (events l))
      now_state = subst (State l g.active) next_is g.state

      pub ends-active : number < length l → Mem (row_from l number) g.active
      ends-active h = is-active l g.proper g.active number (row_from l number) (drop (q + 1) (events l)) (subst (λ (e : Event). State l g.active (e ∷ drop (q + 1) (events l))) (ends-at l number h) now_state)

      abbrev here : Sweep
      here = record { active = g.active; met = met_by st }

      abbrev c : Charged Sweep
      c = step (lines l) H here (event_from l number)

      next_state : State l c.value.active (drop (q + 1) (events l))
      next_state = elim (le_or_lt (length l) number) [
        | inr h ↦
            let e = ends-at l number h in
            let a : c.value.active ≡ remove (row_from l number) g.active = ap (λ (z : Charged Sweep). z.value.active) (ap (step (lines l) H here) e ∙ ending (lines l) H here number (row_from l number)) ∙ end-active (lines l) H g.active st (row_from l number) in
            subst (λ (z : List Row). State l z (drop (q + 1) (events l))) (sym a) (after-end l g.proper g.active number (row_from l number) (drop (q + 1) (events l)) (subst (λ (z : Event). State l g.active (z ∷ drop (q + 1) (events l))) e now_state))
        | inl h ↦
            let j = number - length l in
            let e = starts-at l number h in
            let a : c.value.active ≡ row_from l j ∷ g.active = ap (λ (z : Charged Sweep). z.value.active) (ap (step (lines l) H here) e ∙ starting (lines l) H here j (row_from l j)) ∙ start-active (lines l) H g.active st (row_from l j) in
            subst (λ (z : List Row). State l z (drop (q + 1) (events l))) (sym a) (after-start l g.proper g.active j (row_from l j) (drop (q + 1) (events l)) (subst (λ (z : Event). State l g.active (z ∷ drop (q + 1) (events l))) e now_state))
      ]

      module _ (r : Result Sweeping Refusal) (t : List ℕ) (e : Gives r (figures_of (within st.remaining c))) (k : (to : Sweeping) → r ≡ Ok to → Ready l F H (q + 1) c.value.active t) where
        pub going_stops : (x : Refusal) → r ≡ Err x → Err x ≡ swept_of all
        unfolding swept_of
        going_stops x h =
            let p = stopped r x (figures_of (within st.remaining c)) h e in
            let z = read-spent (λ (a : Sweep). a.met) st.remaining c p.1 in
            ap Err p.0 ∙ sym (ap swept_of (ap figures_of (loop_stops g.onwards next_is z) ∙ onward-spent (λ t m. left t.met m)))

        pub going_next : (to : Sweeping) → r ≡ Ok to → Going to t (q + 1)
        going_next to x =
            let z = read_left (λ (a : Sweep). a.met) st.remaining c (met_by to) to.remaining (went_on r to (figures_of (within st.remaining c)) x e) in
            record {
              active = c.value.active;
              ready = k to x;
              proper = g.proper;
              state = next_state;
              below = omega arith;
              onwards = loop_next g.onwards next_is (z.0 ∙ (λ i. left (record { active = c.value.active; met = z.1 i }) to.remaining));
            }

    pub going_all : 2 * length l ≤ q → (f : Found) → f ≡ found_in st → Ok f ≡ swept_of all
    unfolding swept_of
    going_all h f k =
        let e = table_none 0 (event_from l) (2 * length l) F enough (events l) g.ready.prepared.ordered q h in
        ap Ok k ∙ sym (ap swept_of (ap figures_of (loop_ends g.onwards e) ∙ onward-left (record { active = g.active; met = met_by st }) st.remaining (λ t m. left t.met m)))

  -- all events are the sweep
  pub swept_all : H ≡ levels (length (lines l)) → swept_of all ≡ swept_of (within allowance (sweep l))
  swept_all e = ap swept_of (ap (λ (h : ℕ). figures_of (within allowance (runs (step (lines l) h) start (events l)))) e ∙ sym (sweep-within allowance l))

-- ---- the same for whatever rows the scratch is made ready with; n is their number
module _ (n leaves allowance : ℕ) (s₀ : List ℕ) where
  abbrev pub Runs : Sweeping → List ℕ → ℕ → Type 0
  Runs st s q = (l : List Row) (F : List ℕ) (H : ℕ) → length l ≡ n → leaves ≡ 2 ^ H → Ready l F H 0 [] s₀ → ((a : Row) → Mem a l → a.start < a.end) → Going l F H allowance st s q

  -- the rows that the caller knows of
  pub the_going : AtFirst s₀ n leaves → (st : Sweeping) (s : List ℕ) (q : ℕ) (g : Runs st s q) → (l : List Row) × (F : List ℕ) × (H : ℕ) × (length l ≡ n) × (leaves ≡ 2 ^ H) × Going l F H allowance st s q
  the_going a st s q g = (a.l, a.F, a.H, a.size, a.count, g a.l a.F a.H a.size a.count a.ready a.proper)

  pub run_room : AtFirst s₀ n leaves → (st : Sweeping) (s : List ℕ) (q : ℕ) → Runs st s q → (20 * n ≤ length s) × (n ≤ 4096)
  run_room a st s q g = let x = the_going a st s q g in let r = x.5.ready in let e = x.3 in (omega (arith, r.room), omega (arith, r.few))

  pub run_event : AtFirst s₀ n leaves → (st : Sweeping) (s : List ℕ) (q : ℕ) → Runs st s q → q < 2 * n → (number : ℕ) → number ≡ get_or s q 0 → AtEvent s n leaves number
  run_event a st s q g less number read =
      let x = the_going a st s q g in
      let l = x.0 in
      let e = x.3 in
      let o = x.5 in
      let h : q < 2 * length l = omega arith in
      rw read (record {
        l = l;
        F = x.1;
        H = x.2;
        b = q;
        active = o.active;
        size = e;
        count = x.4;
        ready = o.ready;
        inside = omega (arith, number_small l x.1 x.2 allowance st s q o h);
        early = omega (arith, o.ready.few);
        there = λ k. ends-active l x.1 x.2 allowance st s q o h (omega arith);
      })

  module _ (st : Sweeping) (s : List ℕ) (q : ℕ) (g : Runs st s q) (less : q < 2 * n) (number : ℕ) (read : number ≡ get_or s q 0) (r : Result Sweeping Refusal) (t : List ℕ) (f : Handles s t n leaves number st r) where
    module _ (l : List Row) (F : List ℕ) (H : ℕ) (size : length l ≡ n) (count : leaves ≡ 2 ^ H) (o : Going l F H allowance st s q) where
      less_rows : q < 2 * length l
      less_rows = omega arith

      handled : let c = step (lines l) H (record { active = o.active; met = met_by st }) (event_from l (get_or s q 0)) in Gives r (figures_of (within st.remaining c)) × ((to : Sweeping) → r ≡ Ok to → Ready l F H (q + 1) c.value.active t)
      handled = subst (λ (k : ℕ). Handles s t n leaves k st r) read f l F H q o.active size count o.ready (λ k. ends-active l F H allowance st s q o less_rows (omega arith))

    pub run_next : (to : Sweeping) → r ≡ Ok to → Runs to t (q + 1)
    run_next to e l F H size count ready proper =
        let o = g l F H size count ready proper in
        let k = handled l F H size count o in
        going_next l F H allowance st s q o (less_rows l F H size count o) r t k.0 k.1 to e

    pub run_stops : (x : Refusal) → r ≡ Err x → (l : List Row) (F : List ℕ) (H : ℕ) → length l ≡ n → leaves ≡ 2 ^ H → Ready l F H 0 [] s₀ → ((a : Row) → Mem a l → a.start < a.end) → H ≡ levels (length (lines l)) → Err x ≡ swept_of (within allowance (sweep l))
    run_stops x e l F H size count ready proper h =
        let o = g l F H size count ready proper in
        let k = handled l F H size count o in
        going_stops l F H allowance st s q o (less_rows l F H size count o) r t k.0 k.1 x e ∙ swept_all l F H allowance h

  pub run_all : (st : Sweeping) (s : List ℕ) (q : ℕ) → Runs st s q → 2 * n ≤ q → (f : Found) → f ≡ found_in st → (l : List Row) (F : List ℕ) (H : ℕ) → length l ≡ n → leaves ≡ 2 ^ H → Ready l F H 0 [] s₀ → ((a : Row) → Mem a l → a.start < a.end) → H ≡ levels (length (lines l)) → Ok f ≡ swept_of (within allowance (sweep l))
  run_all st s q g less f k l F H size count ready proper h = going_all l F H allowance st s q (g l F H size count ready proper) (omega arith) f k ∙ swept_all l F H allowance h
