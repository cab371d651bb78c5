-- The rule of a round's table. Word 0 stays 0, word t + 1 and slot t are those of the task t.
use Rattle.std.specs.Prelude.{◌≡◌, ◌≢◌, ℕ, ◌+◌, ◌*◌, ◌<◌, ◌≤◌, ◌⊎◌, true, false, List, [], ◌∷◌, ◌++◌, length, Some, None, Vec}
use mathlib.Core.Option.{some, none}
use lib.ListN.{get_elem?}
use Rattle.std.specs.declared.alloc.Global.{Global}
use Rattle.atomic_table.specs.Table.{State}
use Rattle.steal_table.specs.declared.view.Size.{Size}
use Rattle.steal_table.specs.declared.view.Entry.{Entry}
use Rattle.steal_table.specs.declared.view.Found.{Found}
use Rattle.steal_table.specs.declared.view.Found.TheVariants.{HeldBy, DoneBy}
use Rattle.steal_table.specs.declared.view.Finding.{Finding}
use Rattle.steal_table.specs.declared.view.View.{View}

abbrev pub Block : Type 0
Block = Vec ℕ Global

-- the words, the blocks that are at home, and what each seat knows
abbrev pub Table : Type 0
Table = State Block View

-- what a task's word says
pub data Status : Type 0 where
  waiting : Status
  held : ℕ → Status
  done : ℕ → Status

abbrev pub code : Status → ℕ
code waiting = 0
code (held i) = 2 * i + 1
code (done i) = 2 * i + 2

-- the word of the task t says q
abbrev pub Says : Table → ℕ → Status → Type 0
Says s t q = get_elem? s.words (t + 1) ≡ some (code q)

-- the block y of the task t is at home
abbrev pub AtHome : Table → ℕ → Block → Type 0
AtHome s t y = get_elem? s.homes t ≡ some (some y)

-- the seat k has not been joined, and knows v
abbrev pub Live : Table → ℕ → View → Type 0
Live s k v = (get_elem? s.views k ≡ some v) × (v.live ≡ true)

abbrev pub HasEntry : View → Entry → Type 0
HasEntry v e = (n : ℕ) × (get_elem? v.entries n ≡ some e)

-- the number i came back to the caller
abbrev pub CameBack : View → ℕ → Type 0
CameBack v i = (n : ℕ) × (get_elem? v.back n ≡ some i)

abbrev pub entry : ℕ → ℕ → List ℕ → Entry
entry t i b = record { task = t; worker = i; block = b }

-- a finding is true from then on
abbrev pub StillFound : Table → ℕ → Found → Type 0
StillFound s t (HeldBy i) = Says s t (held i) ⊎ Says s t (done i)
StillFound s t (DoneBy i) = Says s t (done i)

pub record Rule (size : Size) (s : Table) : Type 0 where
  pub words_count : length s.words ≡ size.tasks + 1
  pub slots_count : length s.homes ≡ size.tasks
  pub first_word : get_elem? s.words 0 ≡ some 0
  pub each_word : (t : ℕ) → t < size.tasks → (q : Status) × Says s t q
  pub sized : (k : ℕ) (v : View) → Live s k v → v.size ≡ size
  -- the caller has the first seat, and the number of workers for its own number
  pub caller : View
  pub caller_sits : Live s 0 caller
  pub caller_number : caller.number ≡ size.workers
  -- an open task's slot is at home, with a block of the round's width
  pub open_home : (t : ℕ) → Says s t waiting → (y : Block) × AtHome s t y × (length y.items ≡ size.width)
  -- a task held by i has its slot out, and the live view of number i holds the task
  pub held_out : (t i : ℕ) → Says s t (held i) → (get_elem? s.homes t ≡ some none) × ((k : ℕ) × (v : View) × Live s k v × (v.number ≡ i) × (v.held ≡ Some t))
  -- a task done by i has its slot at home, and its entry stands in the live view of number i, or in the caller's where i came back
  pub done_home : (t i : ℕ) → Says s t (done i) → (y : Block) × AtHome s t y × ((k : ℕ) × (v : View) × Live s k v × HasEntry v (entry t i y.items) × ((v.number ≡ i) ⊎ ((k ≡ 0) × CameBack v i)))
  -- a task that a live view holds has a word that says so
  pub holder_told : (k t : ℕ) (v : View) → Live s k v → v.held ≡ Some t → Says s t (held v.number)
  -- an entry in a live view has a word that says done by its worker, and its block is the slot's content
  pub entry_told : (k : ℕ) (v : View) (e : Entry) → Live s k v → HasEntry v e → Says s e.task (done e.worker) × ((y : Block) × AtHome s e.task y × (e.block ≡ y.items))
  -- no task has two entries
  pub entry_once : (k l m n : ℕ) (v w : View) (e f : Entry) → Live s k v → Live s l w → get_elem? v.entries m ≡ some e → get_elem? w.entries n ≡ some f → e.task ≡ f.task → (k ≡ l) × (m ≡ n)
  -- live numbers are distinct, and workers' numbers are below the number made
  pub numbers_apart : (k l : ℕ) (v w : View) → Live s k v → Live s l w → v.number ≡ w.number → k ≡ l
  pub workers_made : (k : ℕ) (v : View) → Live s k v → k ≢ 0 → v.number < caller.made
  pub made_most : caller.made ≤ size.workers
  -- a number that came back is below the number made, stands once, has no live view, and no word is held by it
  pub back_made : (i : ℕ) → CameBack caller i → i < caller.made
  pub back_once : (m n i : ℕ) → get_elem? caller.back m ≡ some i → get_elem? caller.back n ≡ some i → m ≡ n
  pub back_spent : (i k : ℕ) (v : View) → CameBack caller i → Live s k v → v.number ≢ i
  pub back_free : (i t : ℕ) → CameBack caller i → Says s t (held i) → ⊥
  -- a finding stays true
  pub finding_true : (k : ℕ) (v : View) (f : Finding) → Live s k v → v.finding ≡ Some f → StillFound s f.task f.found

abbrev pub caller_first : Size → View
caller_first size = record { size = size; live = true; number = size.workers; held = None; entries = []; finding = None; made = 0; back = [] }

abbrev pub one_more : View → View
one_more v = record v { made = v.made + 1 }

abbrev pub next_worker : View → View
next_worker v = record { size = v.size; live = true; number = v.made; held = None; entries = []; finding = None; made = 0; back = [] }

abbrev pub taken_over : View → View → View
taken_over v w = record v { entries = v.entries ++ w.entries; back = v.back ++ w.number ∷ [] }

abbrev pub spent : View
spent = record { size = record { tasks = 0; width = 0; workers = 0 }; live = false; number = 0; held = None; entries = []; finding = None; made = 0; back = [] }
