-- What a round has at its beginning and at its end.
use Rattle.std.specs.Prelude.{◌≡◌, ℕ, ◌+◌, ◌-◌, ◌/◌, ◌≤◌, ◌<◌, List, [], length, true, None, Vec, vec_capacity}
use Rattle.std.specs.declared.alloc.Global.{Global}
use mathlib.Core.Option.{some}
use lib.ListN.{get_elem?}
use Rattle.steal_table.specs.Rule.{Block, caller_first}
use Rattle.steal_table.specs.Passes.{BoardId, PassState}

-- each block has this many words
abbrev pub AllWide : ℕ → List Block → Type 0
AllWide width xs = (t : ℕ) (y : Block) → get_elem? xs t ≡ some y → length y.items ≡ width

-- the pass of the number i, before its first claim
abbrev pub fresh : BoardId → ℕ → PassState
fresh b i = record { board = b; view = record { size = b.size; live = true; number = i; held = None; entries = []; finding = None; made = 0; back = [] }; block = [] }

-- the passes of the numbers below n, in this order
abbrev pub AllFresh : BoardId → ℕ → List PassState → Type 0
AllFresh b n ps = (length ps ≡ n) × ((i : ℕ) (p : PassState) → get_elem? ps i ≡ some p → p ≡ fresh b i)

-- the caller's pass, which made n seats
abbrev pub caller_of : BoardId → ℕ → PassState
caller_of b n = record { board = b; view = record (caller_first b.size) { made = n }; block = [] }

-- each task's word says done, by one of at most 64 workers
abbrev pub AllDone : ℕ → List ℕ → Type 0
AllDone tasks words = (t n : ℕ) → t < tasks → get_elem? words (t + 1) ≡ some n → (2 ≤ n) × (n ≤ 130)

-- the numbers of those by whom the words say done
abbrev pub AreOwners : List ℕ → List ℕ → Type 0
AreOwners words owners = (t i : ℕ) → get_elem? owners t ≡ some i → (n : ℕ) × (get_elem? words (t + 1) ≡ some n) × (i ≡ n / 2 - 1)

-- the blocks and the owners are none yet, with room for each task
abbrev pub HasRoom : ℕ → Vec Block Global → Vec ℕ Global → Type 0
HasRoom tasks blocks owners = (blocks.items ≡ []) × (owners.items ≡ []) × (tasks ≤ vec_capacity blocks) × (tasks ≤ vec_capacity owners)
