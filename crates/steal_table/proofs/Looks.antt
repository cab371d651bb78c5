-- A load in the sweep changes nothing.
use Rattle.std.proofs.Common.{◌≡◌, ◌≢◌, ℕ, ◌+◌, ◌*◌, ◌/◌, ◌<◌, ◌≤◌, ◌-◌, set, Some, None, true, refl, sym, ap, ◌∙◌, subst, inl, inr, ⊎_elim, arith, slice_index}
use mathlib.Core.Option.{none, some}
use lib.ListN.{get_elem?}
use Rattle.atomic_table.specs.Table.{keeps, Allows, step}
use Rattle.atomic_table.proofs.Lists.{set_again}
use Rattle.steal_table.specs.declared.view.Size.{Size}
use Rattle.steal_table.specs.declared.view.Entry.{Entry}
use Rattle.steal_table.specs.declared.view.View.{View}
use Rattle.steal_table.specs.Rule.{Table, Status, waiting, held, done, code, Says, Live, HasEntry, Rule}
use Rattle.steal_table.specs.Steps.{Seated, NoEntry, AllBack, OnePerTask, Shown, looked}
use Rattle.steal_table.proofs.Claims.{index_at, alone, all_done, done_most, entry_worker, no_entry}
use Rattle.steal_table.proofs.Tables.{says_once}

-- what the word of the task t shows once all numbers are back
shows : (size : Size) (s : Table) (r : Rule size s) (id : ℕ) (v : View) → Live s id v → v.held ≡ None → AllBack v → (t n : ℕ) (q : Status) → Says s t q → n ≡ code q → Shown v t n
shows size s r id v l free all t n waiting says e = inl (e, no_entry size s r id v l t waiting says (λ i h. absurd (cc)))
shows size s r id v l free all t n (held i) says e = let o = (r.held_out t i says).1 in
    absurd (let a = o.4 in let b = ap (λ (x : View). x.held) (alone size s r id v l all o.0 o.1 o.2) in let c : Some t ≡ None = sym a ∙ b ∙ free in cc)
shows size s r id v l free all t n (done i) says e = let o = all_done size s r id v l all t i says in
    let is : done o.0.worker ≡ done i = says_once s t (done o.0.worker) (done i) (entry_worker size s r id v l t o.0 o.1 o.2) says in
    let workers = ap (λ (z : Size). z.workers) (r.sized id v l) in let most = done_most size s r t i says in let same : o.0.worker ≡ i = cc in
    inr (o.0, o.1, o.2, e ∙ ap code (sym is), (let most' : o.0.worker ≤ size.workers = omega arith in omega arith))

-- a load of a word that the rule gives, with what it tells
loads : (size : Size) (slots id k : ℕ) (m : Seated) → m.0.live ≡ true
    → ((s : Table) → Rule size s → Live s id m.0 → (n : ℕ) × (get_elem? s.words k ≡ some n) × (0 < k → m.0.held ≡ None → AllBack m.0 → Shown m.0 (k - 1) n))
    → Allows (Rule size) slots id m k (λ n. n) (looked (step slots k 0 0 none) m)
loads size slots id k m live gives s r count at fits = let q = gives s r (at, live) in let is = index_at s.words k q.0 q.1 in
    let words : set s.words k (slice_index s.words k) ≡ s.words = ap (set s.words k) is ∙ set_again s.words k q.0 q.1 in (
      m.0,
      keeps,
      tt,
      subst (Rule size) (sym (λ i. record { words = words i; homes = s.homes; views = set_again s.views id m.0 at i })) r,
      (
        refl,
        (λ i j e f a b same. (r.entry_once id id i j m.0 m.0 e f (at, live) (at, live) a b same).1),
        (λ above free all. subst (Shown m.0 (k - 1)) (sym is) (q.2 above free all)),
      ),
    )

pub looks : (size : Size) (slots id t : ℕ) (m : Seated) → m.0.live ≡ true → t < size.tasks → Allows (Rule size) slots id m (t + 1) (λ n. n) (looked (step slots (t + 1) 0 0 none) m)
looks size slots id t m live below = loads size slots id (t + 1) m live (λ s r l. let q = r.each_word t below in let task : t ≡ t + 1 - 1 = omega arith in
    (code q.0, q.1, (λ above free all. subst (λ (j : ℕ). Shown m.0 j (code q.0)) task (shows size s r id m.0 l free all t (code q.0) q.0 q.1 refl))))

-- a load of word 0, which is no task's
pub looks_first : (size : Size) (slots id : ℕ) (m : Seated) → m.0.live ≡ true → Allows (Rule size) slots id m 0 (λ n. n) (looked (step slots 0 0 0 none) m)
looks_first size slots id m live = loads size slots id 0 m live (λ s r l. (0, r.first_word, (λ (above : 0 < 0). absurd (omega arith))))

-- what a load tells, with the task for itself
pub tells_look : (t n : ℕ) (m m' : Seated) → (m' ≡ m) × OnePerTask m.0 × (0 < t + 1 → m.0.held ≡ None → AllBack m.0 → Shown m.0 (t + 1 - 1) n) → m.0.held ≡ None → AllBack m.0 → Shown m.0 t n
tells_look t n m m' h free all = let at : t + 1 - 1 ≡ t = omega arith in subst (λ (j : ℕ). Shown m.0 j n) at (h.2 (omega arith) free all)

half_of : (i n : ℕ) → n ≡ 2 * i + 2 → i ≡ n / 2 - 1
half_of i n e = omega arith

-- a word that is not 0 shows an entry's worker
pub shows_worker : (v : View) (t n : ℕ) → Shown v t n → n ≢ 0 → (e : Entry) × HasEntry v e × (e.task ≡ t) × (e.worker ≡ n / 2 - 1) × (2 ≤ n) × (e.worker ≤ v.size.workers)
shows_worker v t n h some_found =
    ⊎_elim (λ (x : (n ≡ 0) × NoEntry v t). absurd (some_found x.0))
    (λ (x : (e : Entry) × HasEntry v e × (e.task ≡ t) × (n ≡ code (done e.worker)) × (e.worker ≤ v.size.workers)).
    let p = x.3 in (x.0, x.1, x.2, half_of x.0.worker n x.3, (omega arith), x.4)) h

pub shows_none : (v : View) (t n : ℕ) → Shown v t n → n ≡ 0 → NoEntry v t
shows_none v t n h zero_found =
    ⊎_elim (λ (x : (n ≡ 0) × NoEntry v t). x.1)
    (λ (x : (e : Entry) × HasEntry v e × (e.task ≡ t) × (n ≡ code (done e.worker)) × (e.worker ≤ v.size.workers)). absurd (let p = x.3 in omega arith)) h
