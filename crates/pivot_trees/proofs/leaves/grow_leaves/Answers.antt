use Rattle.std.proofs.Common.{◌≡◌, ◌∙◌, ◌+◌, ◌*◌, ◌<◌, ◌≤◌, ◌++◌, ℕ, List, Vec, Global, length, sym, ap, subst, arith, vec_len}
use Rattle.std.specs.List.{All, filter, flat_map, range_with_len}
use Rattle.std.proofs.lemmas.List.{nil_from_length}
use Rattle.std.proofs.lemmas.Bool.{eqb-true}
use Rattle.std.proofs.Math.Nat.{mul-le-mul_right}
use Rattle.pivot_trees.specs.Blocks.{lists_of, AreSplittable}
use Rattle.pivot_trees.specs.Leaves.{is_long, is_short, level_at, leaves_at, leaves_of, parts_from}
use Rattle.pivot_trees.proofs.Lists.{many_lists}
use Rattle.pivot_trees.proofs.Levels.{long_depth, few_long, first_small, splittable, long_short, leaves_next, long_next, first_next, leaves_done}
use Rattle.pivot_trees.proofs.Splitting.{some_left}
use Rattle.pivot_trees.proofs.leaves.grow_leaves.Goals as goal

-- numbers of lists fit
small : (d n first many : ℕ) → d + 1 ≤ n → n ≤ 4194304 → first ≤ d * n → many ≤ n → first + many < 4611686018427387904
small d n first many low few most some =
    let one : d * n ≤ 4194304 * n = mul-le-mul_right {m = d} {n = 4194304} n (omega (arith, low, few)) in
    omega (arith, one, few, most, some)

-- the lists of a depth in memory
module _ (points : List (List ℕ)) (seed tree leaf d : ℕ) (two : 2 ≤ leaf) (lists : List (Vec ℕ Global)) (is : lists_of lists ≡ filter (is_long leaf) (level_at points seed tree leaf d).lists) where
  can_split : AreSplittable (length points) (lists_of lists)
  can_split = subst (AreSplittable (length points)) (sym is) (splittable points seed tree leaf two d)

  all_short : All (λ ids. length ids ≤ length points) (lists_of lists)
  all_short = subst (All (λ ids. length ids ≤ length points)) (sym is) (long_short points seed tree leaf d)

  count_is : length lists ≡ length (filter (is_long leaf) (level_at points seed tree leaf d).lists)
  count_is = sym (many_lists lists) ∙ ap (λ (xs : List (List ℕ)). length xs) is

  few_lists : length lists ≤ length points
  few_lists = let few = few_long points seed tree leaf two d in let same = count_is in omega (arith, few, same)

  small_numbers : (first : ℕ) → first ≡ (level_at points seed tree leaf d).first → d + 1 ≤ length points → length points ≤ 4194304 → first + length lists < 4611686018427387904
  small_numbers first same low few = small d (length points) first (length lists) low few (let most = first_small points seed tree leaf two d in omega (arith, most, same)) few_lists

  deeper : 0 < length lists → d + 1 + 1 ≤ length points
  deeper some = let same = count_is in let deep = long_depth points seed tree leaf two d (omega (arith, some, same)) in omega (arith, deep)

  all_done : (leaves : List (List ℕ)) → length lists ≡ 0 → d + 1 ≤ length points → leaves ≡ flat_map (leaves_at points seed tree leaf) (range_with_len 0 (d + 1)) → leaves ≡ leaves_of points seed tree leaf
  all_done leaves none low so_far = let same = count_is in so_far ∙ leaves_done points seed tree leaf d low (nil_from_length (filter (is_long leaf) (level_at points seed tree leaf d).lists) (omega (arith, none, same)))

pub split_lists-requires-clause-lists : goal.split_lists-requires-clause-lists
split_lists-requires-clause-lists g c κs within =
    subst (λ (vs : List (Vec ℕ Global)). AreSplittable (length c.args.root.points.now.vectors) (lists_of vs)) (sym c.as_slice.ensures.value) (can_split c.args.root.points.now.vectors c.args.root.seed c.args.root.tree c.args.leaf c.depths.depth c.requires.leaf c.depths.lists.items c.depths.invariant.long)

pub split_lists-requires-clause-short : goal.split_lists-requires-clause-short
split_lists-requires-clause-short g c κs within =
    subst (λ (vs : List (Vec ℕ Global)). All (λ ids. length ids ≤ length c.args.root.points.now.vectors) (lists_of vs)) (sym c.as_slice.ensures.value) (all_short c.args.root.points.now.vectors c.args.root.seed c.args.root.tree c.args.leaf c.depths.depth c.requires.leaf c.depths.lists.items c.depths.invariant.long)

pub split_lists-requires-clause-few : goal.split_lists-requires-clause-few
split_lists-requires-clause-few g c κs within =
    let few = few_lists c.args.root.points.now.vectors c.args.root.seed c.args.root.tree c.args.leaf c.depths.depth c.requires.leaf c.depths.lists.items c.depths.invariant.long in
    let same = ap (λ (vs : List (Vec ℕ Global)). length vs) c.as_slice.ensures.value in
    omega (arith, few, same, c.count.ensures.value, c.count.ensures.bound)

pub split_lists-requires-clause-number : goal.split_lists-requires-clause-number
split_lists-requires-clause-number g c κs within =
    let fits = small_numbers c.args.root.points.now.vectors c.args.root.seed c.args.root.tree c.args.leaf c.depths.depth c.requires.leaf c.depths.lists.items c.depths.invariant.long c.depths.number c.depths.invariant.first c.depths.invariant.within (omega (arith, c.count.ensures.value, c.count.ensures.bound)) in
    let same = ap (λ (vs : List (Vec ℕ Global)). length vs) c.as_slice.ensures.value in
    omega (arith, fits, same)

pub overflow_add-number : goal.overflow_add-number
overflow_add-number g c =
    let fits = small_numbers c.args.root.points.now.vectors c.args.root.seed c.args.root.tree c.args.leaf c.depths.depth c.requires.leaf c.depths.lists.items c.depths.invariant.long c.depths.number c.depths.invariant.first c.depths.invariant.within (omega (arith, c.count.ensures.value, c.count.ensures.bound)) in
    let len : c.len.result ≡ length c.depths.lists.items = omega (arith, c.len.ensures) in
    omega (arith, fits, len)

pub depths-preserved : goal.depths-preserved
depths-preserved g c =
    let points = c.args.root.points.now.vectors in
    let d = c.depths.depth in
    let lists = c.depths.lists.items in
    let len : c.len.result ≡ length lists = omega (arith, c.len.ensures) in
    let read : lists_of c.as_slice.result.now ≡ lists_of lists = ap lists_of c.as_slice.ensures.value in
    let more : 0 < vec_len c.depths.lists = some_left (vec_len c.depths.lists) (sym c.is_empty.ensures ∙ c.depths-test.true) in
    let some : 0 < length lists = omega (arith, more) in
    record {
      within = deeper points c.args.root.seed c.args.root.tree c.args.leaf d c.requires.leaf lists c.depths.invariant.long some;
      first = sym (first_next points c.args.root.seed c.args.root.tree c.args.leaf d c.depths.number (lists_of lists) c.depths.invariant.first c.depths.invariant.long ∙ ap (λ k. c.depths.number + k) (many_lists lists ∙ sym len));
      long = c.in_ok-split_lists.ensures.long
          ∙ (λ i. lists_of (c.new-parts.ensures.items i) ++ filter (is_long c.args.leaf) (parts_from points c.args.root.seed c.args.root.tree d c.depths.number (read i)))
          ∙ sym (long_next points c.args.root.seed c.args.root.tree c.args.leaf d c.depths.number (lists_of lists) c.depths.invariant.first c.depths.invariant.long);
      leaves = c.in_ok-split_lists.ensures.leaves
          ∙ (λ i. c.depths.invariant.leaves i ++ filter (is_short c.args.leaf) (parts_from points c.args.root.seed c.args.root.tree d c.depths.number (read i)))
          ∙ sym (leaves_next points c.args.root.seed c.args.root.tree c.args.leaf d c.depths.number (lists_of lists) c.depths.invariant.first c.depths.invariant.long);
      posts = c.in_ok-split_lists.ensures.posts ∙ c.depths.invariant.posts;
      workers = c.in_ok-split_lists.ensures.workers ∙ c.depths.invariant.workers;
    }

pub returns-clause-leaves : goal.returns-clause-leaves
returns-clause-leaves g c =
    let zero_len : vec_len c.depths.lists ≡ 0 = eqb-true (vec_len c.depths.lists) 0 (sym c.is_empty.ensures ∙ c.depths-test.false) in
    let none : length c.depths.lists.items ≡ 0 = omega (arith, zero_len) in
    all_done c.args.root.points.now.vectors c.args.root.seed c.args.root.tree c.args.leaf c.depths.depth c.requires.leaf c.depths.lists.items c.depths.invariant.long (lists_of c.depths.leaves.items) none c.depths.invariant.within c.depths.invariant.leaves
