-- Lines that were printed but for some last ones, which wait in a buffer.
use Rattle.std.specs.Prelude.{◌≡◌, ℕ, List, ◌++◌, None}
use Rattle.std.specs.List.{concat}
use Rattle.ann_shelf.specs.Written.{Got}
use Rattle.command_shapes.specs.Writing.{Printed}

-- the first of these lines were printed, and the buffer holds the bytes of those that follow
pub record WaitIn (lines : List (List ℕ)) (buffer : List ℕ) (had got : Got) : Type 0 where
  pub printed : List (List ℕ)
  pub waiting : List (List ℕ)
  pub lines_are : lines ≡ printed ++ waiting
  pub buffer_is : buffer ≡ concat waiting
  pub so_far : Printed printed had got None
