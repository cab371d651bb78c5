-- What a worker keeps in a round.
use Rattle.std.specs.Prelude.{◌≡◌, ℕ, List, [], length, slice_index_or, None, IsSome, IsSomeAnd}
use Rattle.steal_pool.specs.declared.post.Post.{Post}
use Rattle.steal_table.specs.declared.view.Size.{Size}
use Rattle.steal_table.specs.declared.view.Entry.{Entry}
use Rattle.steal_table.specs.declared.view.View.{View}
use Rattle.steal_table.specs.Rule.{HasEntry}
use Rattle.steal_table.specs.Passes.{BoardId, PassState}

-- the round has this many tasks of this width
abbrev pub Fits : Size → List (List ℕ) → ℕ → Type 0
Fits size want wide = (size.tasks ≡ length want) × (size.width ≡ wide)

-- each entry has the block that its task wants
abbrev pub AllWanted : List (List ℕ) → View → Type 0
AllWanted want v = (e : Entry) → HasEntry v e → e.block ≡ slice_index_or want e.task []

-- a pass of the board that holds nothing, and whose entries are wanted
pub record Ready (board : BoardId) (want : List (List ℕ)) (p : PassState) : Type 0 where
  pub its_board : p.board ≡ board
  pub free : p.view.held ≡ None
  pub wanted : AllWanted want p.view

-- the deque and the pass of the worker i lie in its post, and the pass is ready
abbrev pub HasPass : {S : Type 0} → BoardId → List (List ℕ) → ℕ → Post S → Type 0
HasPass board want i p = IsSome p.deque × IsSomeAnd p.pass (λ k. Ready board want k × (k.view.number ≡ i))

-- the entries stay, and the numbers that came back are the same
pub record Grown (v w : View) : Type 0 where
  pub same_size : w.size ≡ v.size
  pub same_back : w.back ≡ v.back
  pub more : (e : Entry) → HasEntry v e → HasEntry w e
