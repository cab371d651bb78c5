-- A table that keeps the rule shows one state of its round, and each kind of step is its event or none.
use Rattle.std.proofs.Common.{◌≡◌, ◌≢◌, ℕ, zero, suc, ◌+◌, ◌<◌, ◌≤◌, List, [], ◌∷◌, ◌++◌, length, length-append, length-set, set, Some, None, refl, sym, ap, ◌∙◌, subst, ⊎_elim, arith}
use mathlib.Core.Option.{some, none, some-ne-none, some-injective}
use mathlib.Core.Option as maybe
use lib.ListN.{get_elem?}
use Rattle.atomic_table.specs.Table.{takes, gives, keeps, stepped}
use Rattle.atomic_table.proofs.Lists.{at_set, set_here, set_else, set_again}
use Rattle.steal_table.specs.declared.view.Size.{Size}
use Rattle.steal_table.specs.declared.view.View.{View}
use Rattle.steal_table.specs.declared.view.Found.{Found}
use Rattle.steal_table.specs.Rule.{Block, Table, Status, waiting, held, done, code, Says, Live, Rule, entry, one_more, next_worker, taken_over, spent}
use Rattle.steal_table.specs.Steps.{holding, finding, with_entry}
use Rattle.steal_table.specs.RoundState.{TaskState, open_task, held_by, done_by, RoundState, StateOf, ClaimEvent, FinishEvent, Stands, ShowsRound}
use Rattle.steal_table.proofs.Tables.{says_once, says_below, after, says_else, says_here}
use Rattle.steal_table.proofs.Claims.{one_view}
use Rattle.steal_table.proofs.Finishes.{at_push}

-- a task stands in one state
pub stands_once : (s : Table) (t : ℕ) (p q : TaskState) → Stands s t p → Stands s t q → p ≡ q
stands_once s t open_task open_task a b = refl
stands_once s t open_task (held_by i) a b = absurd (let e : waiting ≡ held i = says_once s t waiting (held i) a b in cc)
stands_once s t open_task (done_by i c) a b = absurd (let e : waiting ≡ done i = says_once s t waiting (done i) a b.0 in cc)
stands_once s t (held_by i) open_task a b = absurd (let e : held i ≡ waiting = says_once s t (held i) waiting a b in cc)
stands_once s t (held_by i) (held_by j) a b = let e : held i ≡ held j = says_once s t (held i) (held j) a b in let same : i ≡ j = cc in ap held_by same
stands_once s t (held_by i) (done_by j c) a b = absurd (let e : held i ≡ done j = says_once s t (held i) (done j) a b.0 in cc)
stands_once s t (done_by i c) open_task a b = absurd (let e : done i ≡ waiting = says_once s t (done i) waiting a.0 b in cc)
stands_once s t (done_by i c) (held_by j) a b = absurd (let e : done i ≡ held j = says_once s t (done i) (held j) a.0 b in cc)
stands_once s t (done_by i c) (done_by j d) a b =
    let e : done i ≡ done j = says_once s t (done i) (done j) a.0 b.0 in let same : i ≡ j = cc in
    let home : a.1.0 ≡ b.1.0 = some-injective a.1.0 b.1.0 (some-injective (some a.1.0) (some b.1.0) (sym a.1.1 ∙ b.1.1)) in
    let block : c ≡ d = a.1.2 ∙ ap (λ (y : Block). y.items) home ∙ sym b.1.2 in
    λ k. done_by (same k) (block k)

at_each : {A : Type 0} (l m : List A) → length l ≡ length m → ((t : ℕ) (a b : A) → get_elem? l t ≡ some a → get_elem? m t ≡ some b → a ≡ b) → l ≡ m
at_each [] [] len same = refl
at_each [] (y ∷ ys) len same = absurd (omega arith)
at_each (x ∷ xs) [] len same = absurd (omega arith)
at_each (x ∷ xs) (y ∷ ys) len same =
    let first : x ≡ y = same 0 x y refl refl in let others : xs ≡ ys = at_each xs ys (omega arith) (λ t a b. same (suc t) a b) in
    λ k. first k ∷ others k

-- a table shows at most one state
pub shows_once : (size : Size) (s : Table) (r r' : RoundState) → ShowsRound size s r → ShowsRound size s r' → r ≡ r'
shows_once size s r r' a b = at_each r r' (a.0 ∙ sym b.0) (λ t p q at at'. stands_once s t p q (a.1 t p at) (b.1 t q at'))

module _ (size : Size) (s : Table) (rule : Rule size s) where
  state_at : (t : ℕ) (q : Status) → Says s t q → (p : TaskState) × Stands s t p
  state_at t waiting says = (open_task, says)
  state_at t (held i) says = (held_by i, says)
  state_at t (done i) says = let o = rule.done_home t i says in (done_by i o.0.items, (says, (o.0, o.1, refl)))

  states_below : (n : ℕ) → n ≤ size.tasks → (r : RoundState) × (length r ≡ n) × ((t : ℕ) (q : TaskState) → StateOf r t q → Stands s t q)
  states_below zero le = ([], refl, λ t q at. absurd (some-ne-none q (sym at)))
  states_below (suc n) le =
      let before = states_below n (omega arith) in let word = rule.each_word n (omega arith) in let last = state_at n word.0 word.1 in let len = before.1 in (
        before.0 ++ last.0 ∷ [],
        (let l = length-append before.0 (last.0 ∷ []) in omega arith),
        λ t q at. ⊎_elim (λ (h : get_elem? before.0 t ≡ some q). before.2 t q h)
            (λ (h : (t ≡ length before.0) × (last.0 ≡ q)). subst (λ (j : ℕ). Stands s j q) (sym (h.0 ∙ len)) (subst (Stands s n) h.1 last.1)) (at_push before.0 last.0 q t at),
      )

-- where words and slots stay, the state stays
pub stays_shown : (size : Size) (s s' : Table) (r : RoundState) → s'.words ≡ s.words → s'.homes ≡ s.homes → ShowsRound size s r → ShowsRound size s' r
stays_shown size s s' r words homes shows = (shows.0, λ t q at. moved t q (shows.1 t q at))
  where
    says : (t : ℕ) (p : Status) → Says s t p → Says s' t p
    says t p h = ap (λ (l : List ℕ). get_elem? l (t + 1)) words ∙ h

    moved : (t : ℕ) (q : TaskState) → Stands s t q → Stands s' t q
    moved t open_task h = says t waiting h
    moved t (held_by i) h = says t (held i) h
    moved t (done_by i b) h = (says t (done i) h.0, (h.1.0, ap (λ (l : List (maybe.Option Block)). get_elem? l t) homes ∙ h.1.1, h.1.2))

module _ (size : Size) (s : Table) (rule : Rule size s) (t id : ℕ) (v : View) (live : Live s id v) (r : RoundState) (shows : ShowsRound size s r) where
  -- a task of another word stands as before
  stands_else : (n : ℕ) (hs : List (maybe.Option Block)) (w : View) (u : ℕ) (q : TaskState) → u ≢ t → (get_elem? hs u ≡ get_elem? s.homes u) → Stands s u q → Stands (after s t n id hs w) u q
  stands_else n hs w u open_task ne home h = says_else s t n id hs w u waiting ne h
  stands_else n hs w u (held_by i) ne home h = says_else s t n id hs w u (held i) ne h
  stands_else n hs w u (done_by i b) ne home h = (says_else s t n id hs w u (done i) ne h.0, (h.1.0, home ∙ h.1.1, h.1.2))

  state_at_word : (q : Status) (p : TaskState) → Says s t q → Stands s t p → StateOf r t p
  state_at_word q p says stands =
      let below = says_below size s rule t q says in let len = shows.0 in let some_state = at_place r t (omega arith) in
      some_state.1 ∙ ap some (stands_once s t some_state.0 p (shows.1 t some_state.0 some_state.1) stands)
    where
      at_place : (l : RoundState) (i : ℕ) → i < length l → (p : TaskState) × (get_elem? l i ≡ some p)
      at_place [] i lt = absurd (omega arith)
      at_place (x ∷ xs) zero lt = (x, refl)
      at_place (x ∷ xs) (suc i) lt = at_place xs i (omega arith)

  -- a claim of an open task is the claim event of the seat's number
  pub claim_event : (y : Block) → v.held ≡ None → Says s t waiting → ClaimEvent v.number t r (set r t (held_by v.number))
      × ShowsRound size (stepped s (t + 1) (code (held v.number)) id [] (holding v t) (takes t y)) (set r t (held_by v.number))
  claim_event y free says =
      let word : t + 1 < length s.words = (let n = rule.words_count in let below = says_below size s rule t waiting says in omega arith) in let hs : List (maybe.Option Block) = set s.homes t none in let w : View = holding v t in (
        (
          state_at_word waiting open_task says says,
          (λ u at. let o = (rule.held_out u v.number (shows.1 u (held_by v.number) at)).1 in let seat = rule.numbers_apart o.0 id o.1 v o.2 live o.3 in
              let mine : o.1 ≡ v = one_view size s rule id o.1 v (subst (λ (k : ℕ). Live s k o.1) seat o.2) live in
              absurd (let e : Some u ≡ None = sym o.4 ∙ ap (λ (x : View). x.held) mine ∙ free in cc)),
          refl,
        ),
        (
          length-set r t (held_by v.number) ∙ shows.0,
          λ u q at. ⊎_elim
              (λ (h : (u ≡ t) × (held_by v.number ≡ q)). subst (λ (j : ℕ). Stands (after s t (code (held v.number)) id hs w) j q) (sym h.0)
              (subst (Stands (after s t (code (held v.number)) id hs w) t) h.1 (says_here s t (code (held v.number)) id hs w (held v.number) refl word)))
              (λ (h : (u ≢ t) × (get_elem? r u ≡ some q)). stands_else (code (held v.number)) hs w u q h.0 (set_else s.homes t u none h.0) (shows.1 u q h.1))
              (at_set r t u (held_by v.number) q at),
        ),
      )

  -- a claim of a task that is held or done is no event
  pub refused_claim : (q : Status) (f : Found) → Says s t q → ShowsRound size (stepped s (t + 1) (code q) id [] (finding v t f) keeps) r
  refused_claim q f says = stays_shown size s (stepped s (t + 1) (code q) id [] (finding v t f) keeps) r (set_again s.words (t + 1) (code q) says) refl shows

  -- a finish is the finish event, with the block that goes home
  pub finish_event : (y : Block) → v.held ≡ Some t → FinishEvent v.number t y.items r (set r t (done_by v.number y.items))
      × ShowsRound size (stepped s (t + 1) (code (done v.number)) id ((t, y) ∷ []) (with_entry v (entry t v.number y.items)) gives) (set r t (done_by v.number y.items))
  finish_event y holds =
      let says : Says s t (held v.number) = rule.holder_told id t v live holds in let below = says_below size s rule t (held v.number) says in
      let word : t + 1 < length s.words = (let n = rule.words_count in omega arith) in let slot : t < length s.homes = (let n = rule.slots_count in omega arith) in
      let hs : List (maybe.Option Block) = set s.homes t (some y) in let w : View = with_entry v (entry t v.number y.items) in let n : ℕ = code (done v.number) in (
        (state_at_word (held v.number) (held_by v.number) says says, refl),
        (
          length-set r t (done_by v.number y.items) ∙ shows.0,
          λ u q at. ⊎_elim
              (λ (h : (u ≡ t) × (done_by v.number y.items ≡ q)). subst (λ (j : ℕ). Stands (after s t n id hs w) j q) (sym h.0)
              (subst (Stands (after s t n id hs w) t) h.1 (says_here s t n id hs w (done v.number) refl word, (y, set_here s.homes t (some y) slot, refl))))
              (λ (h : (u ≢ t) × (get_elem? r u ≡ some q)). stands_else n hs w u q h.0 (set_else s.homes t u (some y) h.0) (shows.1 u q h.1))
              (at_set r t u (done_by v.number y.items) q at),
        ),
      )

-- a split, a join and a load are no event
pub split_shown : (size : Size) (s : Table) (id : ℕ) (v : View) (r : RoundState) → ShowsRound size s r → ShowsRound size record { words = s.words; homes = s.homes; views = set s.views id (one_more v) ++ next_worker v ∷ [] } r
split_shown size s id v r shows = stays_shown size s record { words = s.words; homes = s.homes; views = set s.views id (one_more v) ++ next_worker v ∷ [] } r refl refl shows

pub join_shown : (size : Size) (s : Table) (id other : ℕ) (v w : View) (r : RoundState) → ShowsRound size s r
    → ShowsRound size record { words = s.words; homes = s.homes; views = set (set s.views id (taken_over v w)) other spent } r
join_shown size s id other v w r shows = stays_shown size s record { words = s.words; homes = s.homes; views = set (set s.views id (taken_over v w)) other spent } r refl refl shows

pub load_shown : (size : Size) (s : Table) (word n id : ℕ) (v : View) (c : List (ℕ × Block)) (r : RoundState) → get_elem? s.words word ≡ some n → ShowsRound size s r
    → ShowsRound size (stepped s word n id c v keeps) r
load_shown size s word n id v c r says shows = stays_shown size s (stepped s word n id c v keeps) r (set_again s.words word n says) refl shows
