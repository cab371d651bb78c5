-- Pairs of a target and a source.
use Rattle.ann_defs.specs.declared.limits.TheConstants.{MAX_PAIRS}
use Rattle.std.specs.Prelude.{◌≡◌, ℕ, ◌≤◌, ◌==◌, Bool, true, List, map, length}
use Rattle.std.specs.List.{filter}
use Rattle.std.specs.List.Sorted.{IsNonDecreasingBy}
use Rattle.std.specs.declared.cmp.Ordering.{Ordering}
use Rattle.std.specs.Ordering.{nat_cmp, ordering_then}
use Rattle.ann_defs.specs.Ordered.{ordered}
use Rattle.batch_insert.specs.declared.pair.Pair.{Pair}

-- by the target, and then by the source
abbrev pub pair_cmp : Pair → Pair → Ordering
pair_cmp a b = ordering_then (nat_cmp a.target b.target) (nat_cmp a.source b.source)

-- the targets, ascending, each once
abbrev pub targets_of : List Pair → List ℕ
targets_of pairs = ordered nat_cmp (map (λ p. p.target) pairs)

-- the pairs of a target
abbrev pub proposed_to : List Pair → ℕ → List Pair
proposed_to pairs t = filter (λ p. p.target == t) pairs

-- pairs, in order if they are grouped, and how many there is room for
pub record Proposed : Type 0 where
  pub pairs : List Pair
  pub grouped : Bool
  pub room : ℕ

pub record IsProposed (pairs : List Pair) (targets : List ℕ) (grouped : Bool) (room pair_room target_room : ℕ) : Type 0 where
  pub limit : room ≤ MAX_PAIRS
  pub pairs_fit : room ≤ pair_room
  pub targets_fit : room ≤ target_room
  pub within : length pairs ≤ room
  pub sorted : grouped ≡ true → IsNonDecreasingBy (λ (p : Pair). p.target) pairs
  pub listed : grouped ≡ true → targets ≡ targets_of pairs
  pub few : grouped ≡ true → length targets ≤ room
