use Rattle.std.proofs.Common.{◌≡◌, ◌<◌, ◌≤◌, ℕ, List, Vec, Global, length, sym, subst, arith}
use Rattle.std.specs.List.{All}
use Rattle.pivot_trees.specs.Blocks.{lists_of}
use Rattle.pivot_trees.specs.Grown.{Grown, IsGrown, HasPlaces}
use Rattle.pivot_trees.specs.Leaves.{leaves_of}
use Rattle.pivot_trees.proofs.Levels.{grown}
use Rattle.pivot_trees.proofs.tree.Tree.grow.Goals as goal

-- leaves in memory are those of a tree
held : (points : List (List ℕ)) (seed tree leaf count : ℕ) (lists : List (List ℕ)) → 2 ≤ leaf → count ≡ length points → 1 ≤ count → lists ≡ leaves_of points seed tree leaf → IsGrown (record { count = count; leaves = lists })
held points seed tree leaf count lists two same some is =
    let g : Grown = record { count = length points; leaves = leaves_of points seed tree leaf } in
    let all : record { count = count; leaves = lists } ≡ g = λ i. record { count = same i; leaves = is i } in
    subst IsGrown (sym all) (grown points seed tree leaf two (omega (arith, same, some)))

pub place_ids-requires : goal.place_ids-requires
place_ids-requires g c =
    let is = held c.args.points.now.vectors c.args.seed c.args.tree c.args.leaf c.count-count.result (lists_of c.in_ok-leaves.leaves.items) c.requires c.count-count.ensures.value c.count-count.ensures.some c.in_ok-leaves.ensures.leaves in
    subst (λ (vs : List (Vec ℕ Global)). All (λ (ids : List ℕ). All (λ u. u < c.count-count.result) ids) (lists_of vs)) (sym c.as_slice.ensures.value) is.inside

pub invariant_of-result : goal.invariant_of-result
invariant_of-result g c = (
  held c.args.points.now.vectors c.args.seed c.args.tree c.args.leaf c.count-count.result (lists_of c.in_ok-leaves.leaves.items) c.requires c.count-count.ensures.value c.count-count.ensures.some c.in_ok-leaves.ensures.leaves,
  subst (λ (vs : List (Vec ℕ Global)). HasPlaces c.count-count.result (lists_of vs) c.in_ok-leaf_at.leaf_at.items) c.as_slice.ensures.value c.in_ok-leaf_at.ensures,
)
