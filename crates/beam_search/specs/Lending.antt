-- What a borrow of a scratch's room needs and leaves.
use Rattle.std.specs.Prelude.{◌≡◌, ◌<◌, ◌≤◌, ℕ, Bool, true, false, List, length}
use Rattle.std.specs.List.{All}
use Rattle.std.specs.Borrow.{Lends, MutBor, Fml, Array}
use Rattle.ann_defs.specs.declared.limits.TheConstants.{MAX_DEGREE}
use Rattle.ann_defs.specs.declared.near.Near.{Near}
use Rattle.ann_defs.specs.contracts.near.Near as near
use Rattle.ann_defs.specs.Distance.{point}
use Rattle.ann_defs.specs.Nearness.{near_of}
use Rattle.ann_defs.specs.GreedySearch.{Walk}
use Rattle.beam_search.specs.Room.{Room}
use Rattle.beam_search.specs.contracts.scratch.Scratch.{the_row}

-- whatever is written into what is lent, the scratch ends as it was
abbrev pub LendsRoom : MutBor Room → MutBor (List Near) → Fml
LendsRoom s r = Lends the_row (Array near.the_row 0) s r (λ _. s.now)

-- what a search found, or else what it visited
abbrev pub listed : (of_found : Bool) → Walk → List Near
listed true w = w.found
listed false w = w.visited

-- the last search was for the point p of these points, and there is room for what it found, or else visited, with the extra ids
pub record CanGather (points : List (List ℕ)) (p : ℕ) (room : Room) (of_found : Bool) (extra : List ℕ) : Type 0 where
  pub count : room.count ≡ length points
  pub in_range : All (λ (x : Near). x.id < length points) (listed of_found room.last)
  pub near : All (λ (x : Near). x ≡ near_of points (point points p) x.id) (listed of_found room.last)
  pub short : of_found ≡ true → length room.last.found ≤ length points
  pub few : length extra ≤ MAX_DEGREE
