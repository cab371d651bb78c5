-- What a borrow of a pass's block leaves.
use Rattle.std.specs.Prelude.{ℕ, List, ◌++◌, take, drop, length}
use Rattle.std.specs.Borrow.{Lends, MutBor, Fml, Array, u32}
use Rattle.steal_table.specs.Passes.{PassState}
use Rattle.steal_table.specs.contracts.board.Pass.{the_row}

-- the block takes the words w, and keeps its length
abbrev pub refilled : List ℕ → List ℕ → List ℕ
refilled old w = take (length old) (w ++ drop (length w) old)

abbrev pub with_block : PassState → List ℕ → PassState
with_block p w = record p { block = refilled p.block w }

-- the pass ends with what was last written to its block
abbrev pub LendsBlock : MutBor PassState → MutBor (List ℕ) → Fml
LendsBlock p r = Lends the_row (Array u32 0) p r (with_block p.now)
