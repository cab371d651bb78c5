-- What each step tells the seat that makes it.
use Rattle.std.specs.Prelude.{◌≡◌, ◌≢◌, ℕ, ◌-◌, ◌<◌, ◌≤◌, ◌⊎◌, [], ◌∷◌, ◌++◌, length, Some, None}
use mathlib.Core.Option.{some}
use lib.ListN.{get_elem?}
use Rattle.atomic_table.specs.Table.{Me, Step}
use Rattle.steal_table.specs.declared.view.Entry.{Entry}
use Rattle.steal_table.specs.declared.view.Found.{Found}
use Rattle.steal_table.specs.declared.view.Found.TheVariants.{HeldBy, DoneBy}
use Rattle.steal_table.specs.declared.view.View.{View}
use Rattle.steal_table.specs.Rule.{Block, Status, waiting, held, done, code, HasEntry, CameBack, entry}

-- a seat: what it knows, and the slots that are out with it
abbrev pub Seated : Type 0
Seated = Me Block View

abbrev pub task_of : Step Block → ℕ
task_of st = st.word - 1

abbrev pub holding : View → ℕ → View
holding v t = record v { held = Some t }

abbrev pub finding : View → ℕ → Found → View
finding v t f = record v { finding = Some (record { task = t; found = f }) }

abbrev pub with_entry : View → Entry → View
with_entry v e = record v { held = None; entries = v.entries ++ e ∷ [] }

abbrev pub NoEntry : View → ℕ → Type 0
NoEntry v t = (e : Entry) → HasEntry v e → e.task ≢ t

abbrev pub HasEntryOf : View → ℕ → Type 0
HasEntryOf v t = (e : Entry) × HasEntry v e × (e.task ≡ t)

-- it is the caller's view, and all workers' numbers came back
abbrev pub AllBack : View → Type 0
AllBack v = (v.number ≡ v.size.workers) × ((i : ℕ) → i < v.size.workers → CameBack v i)

-- what a claim of the task t tells, by what its word said
abbrev pub ClaimTells : ℕ → Seated → Seated → Status → Type 0
ClaimTells t m m' waiting = ((y : Block) × (length y.items ≡ m.0.size.width) × (m' ≡ (holding m.0 t, (t, y) ∷ m.1))) × NoEntry m.0 t
ClaimTells t m m' (held i) = (m' ≡ (finding m.0 t (HeldBy i), m.1)) × (i ≢ m.0.number) × (i ≤ m.0.size.workers) × NoEntry m.0 t × (¬ AllBack m.0)
ClaimTells t m m' (done i) = (m' ≡ (finding m.0 t (DoneBy i), m.1)) × (i ≤ m.0.size.workers) × ((e : Entry) → HasEntry m.0 e → e.task ≡ t → e.worker ≡ i) × (AllBack m.0 → HasEntryOf m.0 t)

abbrev pub claimed : Step Block → Seated → ℕ → Seated → Type 0
claimed st m n m' = (q : Status) × (n ≡ code q) × ClaimTells (task_of st) m m' q

-- the task is done with the block that was out
abbrev pub finished : Step Block → Seated → ℕ → Seated → Type 0
finished st m n m' = (y : Block) → m.1 ≡ (task_of st, y) ∷ [] → m' ≡ (with_entry m.0 (entry (task_of st) m.0.number y.items), [])

-- no task has two entries in the view
abbrev pub OnePerTask : View → Type 0
OnePerTask v = (i j : ℕ) (e f : Entry) → get_elem? v.entries i ≡ some e → get_elem? v.entries j ≡ some f → e.task ≡ f.task → i ≡ j

-- what a load tells the caller of the task t: with all numbers back the task is done where the caller has its entry, and else open
abbrev pub Shown : View → ℕ → ℕ → Type 0
Shown v t n = ((n ≡ 0) × NoEntry v t) ⊎ ((e : Entry) × HasEntry v e × (e.task ≡ t) × (n ≡ code (done e.worker)) × (e.worker ≤ v.size.workers))

-- a load changes nothing; word 0 is no task's
abbrev pub looked : Step Block → Seated → ℕ → Seated → Type 0
looked st m n m' = (m' ≡ m) × OnePerTask m.0 × (0 < st.word → m.0.held ≡ None → AllBack m.0 → Shown m.0 (task_of st) n)
