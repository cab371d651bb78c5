-- What a round goes through, whatever the order of its steps.
use Rattle.std.specs.Prelude.{◌≡◌, ◌≢◌, ◌⊎◌, ℕ, ◌+◌, ◌<◌, List, [], ◌∷◌, ◌++◌, length, replicate, set, slice_index_or, Some, None}
use lib.ListN.{get_elem?}
use mathlib.Core.Option.{some}
use Rattle.atomic_table.specs.Table.{keeps, takes, gives, stepped, opening}
use Rattle.steal_table.specs.declared.view.Found.TheVariants.{HeldBy, DoneBy}
use Rattle.steal_table.specs.declared.view.Size.{Size}
use Rattle.steal_table.specs.declared.view.View.{View}
use Rattle.steal_table.specs.Opened.{AllWide}
use Rattle.steal_table.specs.Rule.{Block, Table, Status, waiting, held, done, code, Says, AtHome, Live, Rule, entry, caller_first, one_more, next_worker, taken_over, spent}
use Rattle.steal_table.specs.Steps.{holding, finding, with_entry}
use Rattle.steal_table.specs.RoundState.{RoundState, StateOf, open_task, done_by, ClaimEvent, FinishEvent, ShowsRound}

-- the steps of a round: the number i claims the task t, or finishes it with the block b; the caller makes a seat, or joins that of the number i; a seat loads the word k
pub data RoundStep : Type 0 where
  claim_by : ℕ → ℕ → RoundStep
  finish_by : ℕ → ℕ → List ℕ → RoundStep
  split_off : RoundStep
  join_in : ℕ → RoundStep
  load_at : ℕ → RoundStep

-- what a claim of the task t by the seat id makes of the table, by what the task's word said
abbrev pub ClaimMakes : Table → ℕ → View → ℕ → Status → Table → Type 0
ClaimMakes s id v t waiting s' = (y : Block) × AtHome s t y × (s' ≡ stepped s (t + 1) (code (held v.number)) id [] (holding v t) (takes t y))
ClaimMakes s id v t (held j) s' = s' ≡ stepped s (t + 1) (code (held j)) id [] (finding v t (HeldBy j)) keeps
ClaimMakes s id v t (done j) s' = s' ≡ stepped s (t + 1) (code (done j)) id [] (finding v t (DoneBy j)) keeps

-- a step makes this table of that: words, slots and views
abbrev pub StepsTo : Size → RoundStep → Table → Table → Type 0
StepsTo size (claim_by i t) s s' = (id : ℕ) × (v : View) × Live s id v × (v.number ≡ i) × (v.held ≡ None) × ((q : Status) × Says s t q × ClaimMakes s id v t q s')
StepsTo size (finish_by i t b) s s' = (id : ℕ) × (v : View) × Live s id v × (v.number ≡ i) × (v.held ≡ Some t)
    × ((y : Block) × (y.items ≡ b) × (s' ≡ stepped s (t + 1) (code (done v.number)) id ((t, y) ∷ []) (with_entry v (entry t v.number y.items)) gives))
StepsTo size split_off s s' = (id : ℕ) × (v : View) × Live s id v × (v.number ≡ size.workers) × (v.made < size.workers)
    × (s' ≡ record { words = s.words; homes = s.homes; views = set s.views id (one_more v) ++ next_worker v ∷ [] })
StepsTo size (join_in i) s s' = (id : ℕ) × (other : ℕ) × (v : View) × (w : View) × Live s id v × (v.number ≡ size.workers) × Live s other w × (w.number ≡ i) × (w.held ≡ None) × (other ≢ id)
    × (s' ≡ record { words = s.words; homes = s.homes; views = set (set s.views id (taken_over v w)) other spent })
StepsTo size (load_at k) s s' = (id : ℕ) × (v : View) × Live s id v × ((n : ℕ) × (get_elem? s.words k ≡ some n) × (s' ≡ stepped s k n id [] v keeps))

-- the steps, the last first, that lead from a new table to this one
abbrev pub Reaches : Size → List Block → List RoundStep → Table → Type 0
Reaches size blocks [] s = s ≡ opening (replicate (size.tasks + 1) 0) blocks (caller_first size)
Reaches size blocks (k ∷ ks) s' = (s : Table) × Reaches size blocks ks s × StepsTo size k s s'

-- what a step changes of the state: a claim of an open task and a finish are its only events
abbrev pub Changes : RoundStep → RoundState → RoundState → Type 0
Changes (claim_by i t) r r' = ClaimEvent i t r r' ⊎ ((r' ≡ r) × (¬ StateOf r t open_task))
Changes (finish_by i t b) r r' = FinishEvent i t b r r'
Changes split_off r r' = r' ≡ r
Changes (join_in i) r r' = r' ≡ r
Changes (load_at k) r r' = r' ≡ r

-- the state after the steps, from all tasks open
abbrev pub Leads : Size → List RoundStep → RoundState → Type 0
Leads size [] r = r ≡ replicate size.tasks open_task
Leads size (k ∷ ks) r' = (r : RoundState) × Leads size ks r × Changes k r r'

-- each finish brings the block that is wanted of its task
abbrev pub BringsWanted : List (List ℕ) → RoundStep → Type 0
BringsWanted want (claim_by i t) = Unit {0}
BringsWanted want (finish_by i t b) = b ≡ slice_index_or want t []
BringsWanted want split_off = Unit {0}
BringsWanted want (join_in i) = Unit {0}
BringsWanted want (load_at k) = Unit {0}

abbrev pub AllBring : List (List ℕ) → List RoundStep → Type 0
AllBring want [] = Unit {0}
AllBring want (k ∷ ks) = BringsWanted want k × AllBring want ks

-- each done task has the block that is wanted of it
abbrev pub AreWanted : List (List ℕ) → RoundState → Type 0
AreWanted want r = (t i : ℕ) (b : List ℕ) → StateOf r t (done_by i b) → b ≡ slice_index_or want t []

-- whatever steps are made, by whichever seats and in whatever order: the rule is kept, the table shows one state, this state came from all tasks open by claims and finishes alone,
-- and each done task has its wanted block
abbrev pub RoundsGoByEvents : Type 0
RoundsGoByEvents = (size : Size) (want : List (List ℕ)) (blocks : List Block) (steps : List RoundStep) (s : Table)
    → length blocks ≡ size.tasks → AllWide size.width blocks → AllBring want steps → Reaches size blocks steps s
    → Rule size s × ((r : RoundState) × ShowsRound size s r × Leads size steps r × AreWanted want r × ((r' : RoundState) → ShowsRound size s r' → r' ≡ r))
