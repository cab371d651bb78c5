-- The state of a round and its two events, without words and seats, and what of it a table shows.
use Rattle.std.specs.Prelude.{◌≡◌, ℕ, List, length, set}
use mathlib.Core.Option.{some}
use lib.ListN.{get_elem?}
use Rattle.steal_table.specs.declared.view.Size.{Size}
use Rattle.steal_table.specs.Rule.{Block, Table, waiting, held, done, Says, AtHome}

-- a task is open, held by a number, or done by it with a block
pub data TaskState : Type 0 where
  open_task : TaskState
  held_by : ℕ → TaskState
  done_by : ℕ → List ℕ → TaskState

-- the state of each task, in their order
abbrev pub RoundState : Type 0
RoundState = List TaskState

-- the task t is in this state
abbrev pub StateOf : RoundState → ℕ → TaskState → Type 0
StateOf r t q = get_elem? r t ≡ some q

-- the number i holds no task
abbrev pub HoldsNothing : RoundState → ℕ → Type 0
HoldsNothing r i = (t : ℕ) → StateOf r t (held_by i) → ⊥

-- the number i, which holds nothing, claims the open task t
abbrev pub ClaimEvent : ℕ → ℕ → RoundState → RoundState → Type 0
ClaimEvent i t r r' = StateOf r t open_task × HoldsNothing r i × (r' ≡ set r t (held_by i))

-- the number i, which holds the task t, finishes it with the block b
abbrev pub FinishEvent : ℕ → ℕ → List ℕ → RoundState → RoundState → Type 0
FinishEvent i t b r r' = StateOf r t (held_by i) × (r' ≡ set r t (done_by i b))

-- the word and the slot of the task t say that it is in this state
abbrev pub Stands : Table → ℕ → TaskState → Type 0
Stands s t open_task = Says s t waiting
Stands s t (held_by i) = Says s t (held i)
Stands s t (done_by i b) = Says s t (done i) × ((y : Block) × AtHome s t y × (b ≡ y.items))

-- the table shows this state of the round
abbrev pub ShowsRound : Size → Table → RoundState → Type 0
ShowsRound size s r = (length r ≡ size.tasks) × ((t : ℕ) (q : TaskState) → StateOf r t q → Stands s t q)
