-- What a clause sees of a board and of a pass.
use Rattle.std.specs.Prelude.{◌≡◌, ℕ, ◌<◌, true, List, [], ◌∷◌, length, Option, Some, None}
use Rattle.atomic_table.specs.Seated.{TableId}
use Rattle.atomic_table.specs.Table.{Me}
use Rattle.steal_table.specs.declared.view.Size.{Size}
use Rattle.steal_table.specs.declared.view.View.{View}
use Rattle.steal_table.specs.Rule.{Block}

-- which round a board or a pass belongs to
pub record BoardId : Type 0 where
  pub table : TableId
  pub size : Size

-- a pass of a board, with what it knows, and the block of the task that it holds
pub record PassState : Type 0 where
  pub board : BoardId
  pub view : View
  pub block : List ℕ

-- a seat that holds nothing has no slot out, and one that holds the task t has its slot, whose block the pass has taken
abbrev pub Holds : Size → Me Block View → List ℕ → Option ℕ → Type 0
Holds size me block None = (me.1 ≡ []) × (block ≡ [])
Holds size me block (Some t) = (t < size.tasks) × ((z : Block) × (me.1 ≡ (t, z) ∷ [])) × (length block ≡ size.width)

-- what is true of each pass: its seat has not been joined, and its fields say what the seat's view says
abbrev pub Sound : Size → Me Block View → ℕ → Option ℕ → List ℕ → Type 0
Sound size me number task block = (me.0.live ≡ true) × (me.0.number ≡ number) × (me.0.held ≡ task) × (me.0.size ≡ size) × Holds size me block task
