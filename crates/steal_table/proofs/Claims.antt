-- A claim keeps the rule, and tells what it found.
use Rattle.std.proofs.Common.{◌≡◌, ◌≢◌, ℕ, zero, suc, ◌+◌, ◌-◌, ◌*◌, ◌/◌, ◌%◌, ◌<◌, ◌≤◌, List, [], ◌∷◌, length, set, Some, None, true, refl, sym, ap, ◌∙◌, subst, inl, inr, ⊎_elim, arith, length-set, slice_index}
use mathlib.Core.Option.{some, none, some-ne-none, some-injective}
use mathlib.Core.Logic.{dite}
use native.Mathlib.Decide.{ℕ_discrete}
use lib.ListN.{get_elem?}
use prog.Atomic.{either}
use Rattle.std.specs.Prelude.{◌==◌}
use Rattle.atomic_table.specs.Table.{Act, keeps, takes, Valid, stepped, Allows, carried_after, step, Step}
use Rattle.atomic_table.proofs.Lists.{set_here, set_else, exchanged}
use Rattle.steal_table.specs.declared.view.Size.{Size}
use Rattle.steal_table.specs.declared.view.Entry.{Entry}
use Rattle.steal_table.specs.declared.view.Found.{Found}
use Rattle.steal_table.specs.declared.view.Found.TheVariants.{HeldBy, DoneBy}
use Rattle.steal_table.specs.declared.view.Finding.{Finding}
use Rattle.steal_table.specs.declared.view.View.{View}
use Rattle.steal_table.specs.Rule.{Block, Table, Status, waiting, held, done, code, Says, AtHome, Live, HasEntry, CameBack, entry, StillFound, Rule}
use Rattle.steal_table.specs.Steps.{Seated, task_of, holding, finding, NoEntry, HasEntryOf, AllBack, ClaimTells, claimed}
use Rattle.steal_table.proofs.Tables.{code_apart, says_once, below_length, says_below, Grows, grows_refl, after, says_else, says_here, live_here, carried, found_else, Move}
use Rattle.steal_table.proofs.Tables as tables

pub index_at : (l : List ℕ) (i a : ℕ) → get_elem? l i ≡ some a → slice_index l i ≡ a
index_at [] i a e = absurd (some-ne-none a (sym e))
index_at (x ∷ xs) zero a e = some-injective x a e
index_at (x ∷ xs) (suc i) a e = index_at xs i a e

-- what the rule says of a table's seats and numbers
module _ (size : Size) (s : Table) (r : Rule size s) where
  pub one_view : (k : ℕ) (v w : View) → Live s k v → Live s k w → v ≡ w
  one_view k v w a b = some-injective v w (sym a.0 ∙ b.0)

  pub at_caller : (k : ℕ) (v : View) → Live s k v → k ≡ 0 → v ≡ r.caller
  at_caller k v l e = one_view 0 v r.caller (subst (λ (j : ℕ). Live s j v) e l) r.caller_sits

  pub number_most : (k : ℕ) (v : View) → Live s k v → v.number ≤ size.workers
  number_most k v l =
      dite (ℕ_discrete k 0)
      (λ (e : k ≡ 0). let same = ap (λ (x : View). x.number) (at_caller k v l e) in let n = r.caller_number in omega arith)
      (λ (ne : k ≢ 0). let lt = r.workers_made k v l ne in let le = r.made_most in omega arith)

  pub back_most : (i : ℕ) → CameBack r.caller i → i ≤ size.workers
  back_most i b = let lt = r.back_made i b in let le = r.made_most in omega arith

  pub done_most : (t i : ℕ) → Says s t (done i) → i ≤ size.workers
  done_most t i h = let o = (r.done_home t i h).2 in
      ⊎_elim (λ (e : o.1.number ≡ i). let le = number_most o.0 o.1 o.2 in omega arith)
      (λ (b : (o.0 ≡ 0) × CameBack o.1 i). back_most i (subst (λ (x : View). CameBack x i) (at_caller o.0 o.1 o.2 b.0) b.1)) o.4

  -- the view with the number of workers is the caller's
  pub is_caller : (id : ℕ) (v : View) → Live s id v → v.number ≡ size.workers → (id ≡ 0) × (v ≡ r.caller)
  is_caller id v l e = let same = r.numbers_apart id 0 v r.caller l r.caller_sits (e ∙ sym r.caller_number) in (same, at_caller id v l same)

  -- once all numbers are back the caller's view is the one that lives
  pub alone : (id : ℕ) (v : View) → Live s id v → AllBack v → (k : ℕ) (x : View) → Live s k x → x ≡ v
  alone id v l all k x m = let mine = is_caller id v l (all.0 ∙ ap (λ (z : Size). z.workers) (r.sized id v l)) in
      dite (ℕ_discrete k 0)
      (λ (e : k ≡ 0). at_caller k x m e ∙ sym mine.1)
      (λ (ne : k ≢ 0).
      let lt = r.workers_made k x m ne in let le = r.made_most in let w = ap (λ (z : Size). z.workers) (r.sized id v l) in let below : x.number < v.size.workers = omega arith in
      absurd (r.back_spent x.number k x (subst (λ (y : View). CameBack y x.number) mine.1 (all.1 x.number below)) m refl))

  pub all_done : (id : ℕ) (v : View) → Live s id v → AllBack v → (t i : ℕ) → Says s t (done i) → HasEntryOf v t
  all_done id v l all t i h = let o = r.done_home t i h in let e = entry t i o.0.items in (e, subst (λ (x : View). HasEntry x e) (alone id v l all o.2.0 o.2.1 o.2.2) o.2.3, refl)

  pub entry_worker : (id : ℕ) (v : View) → Live s id v → (t : ℕ) (e : Entry) → HasEntry v e → e.task ≡ t → Says s t (done e.worker)
  entry_worker id v l t e has is = subst (λ (j : ℕ). Says s j (done e.worker)) is (r.entry_told id v e l has).0

  -- a task that is not done has no entry
  pub no_entry : (id : ℕ) (v : View) → Live s id v → (t : ℕ) (q : Status) → Says s t q → ((i : ℕ) → q ≢ done i) → NoEntry v t
  no_entry id v l t q says ne e has is = ne e.worker (says_once s t q (done e.worker) says (entry_worker id v l t e has is))

  pub not_found_waiting : (t : ℕ) (f : Found) → Says s t waiting → StillFound s t f → ⊥
  not_found_waiting t (HeldBy i) says h =
      ⊎_elim (λ (x : Says s t (held i)). absurd (let e : waiting ≡ held i = says_once s t waiting (held i) says x in cc)) (λ (x : Says s t (done i)). absurd (let e : waiting ≡ done i = says_once s t waiting (done i) says x in cc)) h
  not_found_waiting t (DoneBy i) says h = absurd (let e : waiting ≡ done i = says_once s t waiting (done i) says h in cc)

  module _ (t id : ℕ) (v : View) (l : Live s id v) (free : v.held ≡ None) where
    -- the task was open
    pub take_move : (y : Block) → AtHome s t y → Says s t waiting → Move size s r t (held v.number) id (set s.homes t none) v (holding v t)
    take_move y home says = let below = says_below size s r t waiting says in let slot : t < length s.homes = (let n = r.slots_count in omega arith) in let word : t + 1 < length s.words = (let n = r.words_count in omega arith) in
        let w : View = holding v t in let g : Grows v w = record { same_size = refl; same_live = refl; same_number = refl; same_made = refl; same_back = refl; more = λ e h. h } in
        let now = says_here s t (code (held v.number)) id (set s.homes t none) w (held v.number) refl word in record {
          seat = l;
          below = below;
          grows = g;
          same_count = length-set s.homes t none;
          other_homes = λ u ne. set_else s.homes t u none ne;
          open_here = λ e. absurd (cc);
          held_here = λ i e. let same : v.number ≡ i = cc in (set_here s.homes t none slot, (id, w, live_here s t (code (held v.number)) id (set s.homes t none) w v l refl, same, refl));
          done_here = λ i e. absurd (cc);
          still_holds = λ u ne h. absurd (cc);
          now_holds = λ u h. let same : t ≡ u = cc in subst (λ (j : ℕ). get_elem? (set s.words (t + 1) (code (held v.number))) (j + 1) ≡ some (code (held v.number))) same now;
          others_hold = λ k x ne m h. absurd (let e : waiting ≡ held x.number = says_once s t waiting (held x.number) says (r.holder_told k t x m h) in cc);
          entry_here = λ k x e m has is. absurd (let e : waiting ≡ done e.worker = says_once s t waiting (done e.worker) says (entry_worker k x m t e has is) in cc);
          new_entry = λ n e at. inl at;
          not_back = λ i e b. let same : v.number ≡ i = cc in absurd (r.back_spent i id v b l same);
          still_found = λ f h. absurd (not_found_waiting t f says h);
          now_found = λ f is. let old = r.finding_true id v f l is in
              dite (ℕ_discrete f.task t)
              (λ (e : f.task ≡ t). absurd (not_found_waiting t f.found says (subst (λ (j : ℕ). StillFound s j f.found) e old)))
              (λ (ne : f.task ≢ t). found_else s t (code (held v.number)) id (set s.homes t none) w f.task f.found ne old);
        }

    -- the word says q already: each fact of the table stays
    module _ (q : Status) (says : Says s t q) (w : View) (g : Grows v w) (same_held : w.held ≡ v.held) where
      abbrev stood : Table
      stood = after s t (code q) id s.homes w

      here : Says stood t q
      here = says_here s t (code q) id s.homes w q refl (below_length s.words (t + 1) (code q) says)

      pub stays_said : (u : ℕ) (p : Status) → Says s u p → Says stood u p
      stays_said u p h =
          dite (ℕ_discrete u t)
          (λ (e : u ≡ t). let at : Says s t p = subst (λ (j : ℕ). Says s j p) e h in let same = says_once s t q p says at in
          subst (λ (j : ℕ). Says stood j p) (sym e) (subst (Says stood t) same here))
          (λ (ne : u ≢ t). says_else s t (code q) id s.homes w u p ne h)

      pub stays_found : (u : ℕ) (f : Found) → StillFound s u f → StillFound stood u f
      stays_found u (HeldBy i) h = ⊎_elim (λ (x : Says s u (held i)). inl (stays_said u (held i) x)) (λ (x : Says s u (done i)). inr (stays_said u (done i) x)) h
      stays_found u (DoneBy i) h = stays_said u (done i) h

      still_there : (k : ℕ) (x : View) → Live s k x → (y : View) × Live stood k y × Grows x y × (y.held ≡ x.held)
      still_there k x m = let c = carried s t (code q) id s.homes w v l g k x m in (
        c.0,
        c.1,
        c.2,
        dite (ℕ_discrete k id)
            (λ (e : k ≡ id). ap (λ (z : View). z.held) (c.4 e).0 ∙ same_held ∙ ap (λ (z : View). z.held) (sym (c.4 e).1))
            (λ (ne : k ≢ id). ap (λ (z : View). z.held) (c.3 ne)),
      )

      pub stays_move : ((n : ℕ) (e : Entry) → get_elem? w.entries n ≡ some e → get_elem? v.entries n ≡ some e) → ((f : Finding) → w.finding ≡ Some f → StillFound stood f.task f.found)
          → Move size s r t q id s.homes v w
      stays_move entries founds = record {
        seat = l;
        below = says_below size s r t q says;
        grows = g;
        same_count = refl;
        other_homes = λ u ne. refl;
        open_here = λ e. r.open_home t (subst (Says s t) e says);
        held_here = λ i e. let o = r.held_out t i (subst (Says s t) e says) in let y = still_there o.1.0 o.1.1 o.1.2 in (o.0, (o.1.0, y.0, y.1, y.2.same_number ∙ o.1.3, y.3 ∙ o.1.4));
        done_here = λ i e. let o = r.done_home t i (subst (Says s t) e says) in let y = still_there o.2.0 o.2.1 o.2.2 in (
          o.0,
          o.1,
          (
            o.2.0,
            y.0,
            y.1,
            y.2.more (entry t i o.0.items) o.2.3,
            ⊎_elim (λ (n : o.2.1.number ≡ i). inl (y.2.same_number ∙ n)) (λ (b : (o.2.0 ≡ 0) × CameBack o.2.1 i). inr (b.0, tables.back_same o.2.1 y.0 i y.2.same_back b.1)) o.2.4,
          ),
        );
        still_holds = λ u ne h. same_held ∙ h;
        now_holds = λ u h. subst (λ (i : ℕ). Says stood u (held i)) (sym g.same_number) (stays_said u (held v.number) (r.holder_told id u v l (sym same_held ∙ h)));
        others_hold = λ k x ne m h. stays_said t (held x.number) (r.holder_told k t x m h);
        entry_here = λ k x e m has is. let o = r.entry_told k x e m has in
            (stays_said t (done e.worker) (entry_worker k x m t e has is), (o.1.0, subst (λ (j : ℕ). AtHome s j o.1.0) is o.1.1, o.1.2));
        new_entry = λ n e at. inl (entries n e at);
        not_back = λ i e b. r.back_free i t b (subst (Says s t) e says);
        still_found = λ f h. stays_found t f h;
        now_found = founds;
      }

    -- the word said that the task is held or done
    pub find_move : (q : Status) → Says s t q → (f : Found) → StillFound s t f → Move size s r t q id s.homes v (finding v t f)
    find_move q says f still = let w : View = finding v t f in let g : Grows v w = record { same_size = refl; same_live = refl; same_number = refl; same_made = refl; same_back = refl; more = λ e h. h } in
        stays_move q says w g refl (λ n e at. at) (λ h is. let same : record { task = t; found = f } ≡ h = cc in
        subst (λ (z : Finding). StillFound (after s t (code q) id s.homes w) z.task z.found) same (stays_found q says w g refl t f still))

    abbrev Goes : ℕ → ℕ → Step Block → Type 0
    Goes new n st = (w : View) × (a : Act Block) × Valid s.homes [] a × Rule size (stepped s (t + 1) (either (n == 0) new n) id [] w a) × claimed st (v, []) n (w, carried_after [] a)

    pub claims_at : (new : ℕ) (st : Step Block) → new ≡ code (held v.number) → task_of st ≡ t → (q : Status) → Says s t q → (n : ℕ) → n ≡ code q → Goes new n st
    claims_at new st is at waiting says n e = subst (λ (k : ℕ). Goes new k st) (sym e) (let o = r.open_home t says in (
      holding v t,
      takes t o.0,
      o.1,
      subst (λ (k : ℕ). Rule size (after s t k id (set s.homes t none) (holding v t))) (sym is) (tables.keeps size s r t (held v.number) id (set s.homes t none) v (holding v t) (take_move o.0 o.1 says)),
      (
        waiting,
        refl,
        subst (λ (j : ℕ). ClaimTells j (v, []) (holding v t, (t, o.0) ∷ []) waiting) (sym at)
            ((o.0, o.2 ∙ sym (ap (λ (z : Size). z.width) (r.sized id v l)), refl), no_entry id v l t waiting says (λ i h. absurd (cc))),
      ),
    ))
    claims_at new st is at (held i) says n e = let w : View = finding v t (HeldBy i) in let o = (r.held_out t i says).1 in let workers = ap (λ (z : Size). z.workers) (r.sized id v l) in
        let not_mine : o.1 ≡ v → ⊥ = λ h. absurd (let a = o.4 in let b = ap (λ (x : View). x.held) h in cc) in (
          w,
          keeps,
          tt,
          exchanged n 0 new (λ (k : ℕ). Rule size (after s t k id s.homes w)) (λ z. absurd (omega arith))
              (λ ne. subst (λ (k : ℕ). Rule size (after s t k id s.homes w)) (sym e) (tables.keeps size s r t (held i) id s.homes v w (find_move (held i) says (HeldBy i) (inl says)))),
          (
            held i,
            e,
            subst (λ (j : ℕ). ClaimTells j (v, []) (w, []) (held i)) (sym at) (
              refl,
              (λ h. not_mine (one_view id o.1 v (subst (λ (j : ℕ). Live s j o.1) (r.numbers_apart o.0 id o.1 v o.2 l (o.3 ∙ h)) o.2) l)),
              (let le = number_most o.0 o.1 o.2 in let num = o.3 in omega arith),
              no_entry id v l t (held i) says (λ j h. absurd (cc)),
              (λ all. not_mine (alone id v l all o.0 o.1 o.2)),
            ),
          ),
        )
    claims_at new st is at (done i) says n e = let w : View = finding v t (DoneBy i) in let workers = ap (λ (z : Size). z.workers) (r.sized id v l) in (
      w,
      keeps,
      tt,
      exchanged n 0 new (λ (k : ℕ). Rule size (after s t k id s.homes w)) (λ z. absurd (omega arith))
          (λ ne. subst (λ (k : ℕ). Rule size (after s t k id s.homes w)) (sym e) (tables.keeps size s r t (done i) id s.homes v w (find_move (done i) says (DoneBy i) says))),
      (
        done i,
        e,
        subst (λ (j : ℕ). ClaimTells j (v, []) (w, []) (done i)) (sym at) (
          refl,
          (let le = done_most t i says in omega arith),
          (λ x has same. let is : done x.worker ≡ done i = says_once s t (done x.worker) (done i) (entry_worker id v l t x has same) says in let r : x.worker ≡ i = cc in r),
          (λ all. all_done id v l all t i says),
        ),
      ),
    )

-- a claim of the task t by a seat that holds nothing
pub claims : (size : Size) (slots id t new : ℕ) (v : View) → v.live ≡ true → v.held ≡ None → v.size ≡ size → t < size.tasks → new ≡ code (held v.number)
    → Allows (Rule size) slots id (v, []) (t + 1) (λ n. either (n == 0) new n) (claimed (step slots (t + 1) 0 new none) (v, []))
claims size slots id t new v live free sized below is s r count at fits = let q = r.each_word t below in
    claims_at size s r t id v (at, live) free new (step slots (t + 1) 0 new none) is (let e : t + 1 - 1 ≡ t = omega arith in e) q.0 q.1 (slice_index s.words (t + 1)) (index_at s.words (t + 1) (code q.0) q.1)

-- the same at a seat that is known by its parts
pub claims_by : (size : Size) (slots id t new : ℕ) (m : Seated) → m.1 ≡ [] → m.0.live ≡ true → m.0.held ≡ None → m.0.size ≡ size → t < size.tasks → new ≡ code (held m.0.number)
    → Allows (Rule size) slots id m (t + 1) (λ n. either (n == 0) new n) (claimed (step slots (t + 1) 0 new none) m)
claims_by size slots id t new m none_out live free sized below is =
    subst (λ (c : List (ℕ × Block)). Allows (Rule size) slots id (m.0, c) (t + 1) (λ n. either (n == 0) new n) (claimed (step slots (t + 1) 0 new none) (m.0, c))) (sym none_out)
    (claims size slots id t new m.0 live free sized below is)

-- what a claim tells, by the number that it found
abbrev Tells : ℕ → Seated → ℕ → Seated → Type 0
Tells t m n m' = (q : Status) × (n ≡ code q) × ClaimTells (t + 1 - 1) m m' q

pub tells_mine : (t n : ℕ) (m m' : Seated) → Tells t m n m' → n ≡ 0 → ClaimTells t m m' waiting
tells_mine t n m m' h zero_found = let same : waiting ≡ h.0 = code_apart waiting h.0 (sym zero_found ∙ h.1) in let at : t + 1 - 1 ≡ t = omega arith in
    subst (λ (j : ℕ). ClaimTells j m m' waiting) at (subst (ClaimTells (t + 1 - 1) m m') (sym same) h.2)

half_odd : (i n : ℕ) → n ≡ 2 * i + 1 → i ≡ (n - 1) / 2
half_odd i n e = omega arith

half_even : (i n : ℕ) → n ≡ 2 * i + 2 → i ≡ (n - 1) / 2
half_even i n e = omega arith

tells_held_at : (t n : ℕ) (m m' : Seated) (q : Status) → n ≡ code q → ClaimTells t m m' q → n ≢ 0 → n % 2 ≡ 1 → ClaimTells t m m' (held ((n - 1) / 2))
tells_held_at t n m m' waiting e h some_found odd = absurd (some_found e)
tells_held_at t n m m' (held i) e h some_found odd = subst (λ (j : ℕ). ClaimTells t m m' (held j)) (half_odd i n e) h
tells_held_at t n m m' (done i) e h some_found odd = absurd (omega arith)

tells_done_at : (t n : ℕ) (m m' : Seated) (q : Status) → n ≡ code q → ClaimTells t m m' q → n ≢ 0 → n % 2 ≢ 1 → ClaimTells t m m' (done ((n - 1) / 2))
tells_done_at t n m m' waiting e h some_found even = absurd (some_found e)
tells_done_at t n m m' (held i) e h some_found even = absurd (omega arith)
tells_done_at t n m m' (done i) e h some_found even = subst (λ (j : ℕ). ClaimTells t m m' (done j)) (half_even i n e) h

pub tells_held : (t n : ℕ) (m m' : Seated) → Tells t m n m' → n ≢ 0 → n % 2 ≡ 1 → ClaimTells t m m' (held ((n - 1) / 2))
tells_held t n m m' h some_found odd = let at : t + 1 - 1 ≡ t = omega arith in tells_held_at t n m m' h.0 h.1 (subst (λ (j : ℕ). ClaimTells j m m' h.0) at h.2) some_found odd

pub tells_done : (t n : ℕ) (m m' : Seated) → Tells t m n m' → n ≢ 0 → n % 2 ≢ 1 → ClaimTells t m m' (done ((n - 1) / 2))
tells_done t n m m' h some_found even = let at : t + 1 - 1 ≡ t = omega arith in tells_done_at t n m m' h.0 h.1 (subst (λ (j : ℕ). ClaimTells j m m' h.0) at h.2) some_found even
