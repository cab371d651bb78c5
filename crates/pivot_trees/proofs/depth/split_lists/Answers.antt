use Rattle.std.proofs.Common.{◌≡◌, ◌∙◌, ◌+◌, ◌-◌, ◌*◌, ◌≤◌, ℕ, List, Vec, Global, length, take, drop, sym, ap, subst, arith, length-take, length-drop}
use Rattle.std.specs.List.{All}
use Rattle.std.proofs.lemmas.List.{take-take, length-take-le}
use Rattle.std.proofs.lemmas.List.Elements.{All-weaker}
use Rattle.pivot_trees.specs.Blocks.{lists_of}
use Rattle.pivot_trees.specs.Leaves.{is_long, is_short}
use Rattle.pivot_trees.proofs.SplitBlocks.{some_of, some_splittable, many_blocks, kept_round}
use Rattle.pivot_trees.proofs.depth.split_lists.Goals as goal

-- the lists of a round
module _ (vectors : List (Vec ℕ Global)) (from count : ℕ) (few : count ≤ length (take (length vectors - from) (drop from vectors))) where
  round_within : from ≤ length vectors → from + count ≤ length vectors
  round_within low = let all = length-take (length vectors - from) (drop from vectors) in let rest = length-drop from vectors in omega (arith, few, all, rest, low)

  round_len : from + count - from ≡ count
  round_len = omega arith

  round_lists : take count (take (length vectors - from) (drop from vectors)) ≡ take (from + count - from) (drop from vectors)
  round_lists =
      let all = length-take (length vectors - from) (drop from vectors) in
      take-take count (length vectors - from) (drop from vectors) (omega (arith, few, all)) ∙ ap (λ k. take k (drop from vectors)) (sym round_len)

  round_count : length (take (from + count - from) (drop from vectors)) ≡ count
  round_count =
      let all = length-take (length vectors - from) (drop from vectors) in
      ap (λ k. length (take k (drop from vectors))) round_len ∙ length-take-le count (drop from vectors) (omega (arith, few, all))

pub round_of-count-requires-clause-short : goal.round_of-count-requires-clause-short
round_of-count-requires-clause-short g c =
    let lists = c.args.lists.now in
    let n = length c.args.splitter.now.points.now.vectors in
    let most : n ≤ 4194304 = omega (arith, c.count.ensures.value, c.count.ensures.bound) in
    some_of (λ (ids : List ℕ). length ids ≤ 4194304) lists c.loop-from.from (length lists - c.loop-from.from) (All-weaker (λ (ids : List ℕ). length ids ≤ n) (λ (ids : List ℕ). length ids ≤ 4194304) (λ ids h. omega (arith, h, most)) (lists_of lists) c.requires.short)

pub round_of-count-requires-clause-one : goal.round_of-count-requires-clause-one
round_of-count-requires-clause-one g c =
    let lists = c.args.lists.now in
    let n = length c.args.splitter.now.points.now.vectors in
    let limit = 4 * (c.count.result + 1) in
    let room : n + 1 ≤ limit = omega (arith, c.count.ensures.value) in
    some_of (λ (ids : List ℕ). length ids + 1 ≤ limit) lists c.loop-from.from (length lists - c.loop-from.from) (All-weaker (λ (ids : List ℕ). length ids ≤ n) (λ (ids : List ℕ). length ids + 1 ≤ limit) (λ ids h. omega (arith, h, room)) (lists_of lists) c.requires.short)

pub invariant_of-work : goal.invariant_of-work
invariant_of-work g c =
    let lists = c.args.lists.now in
    let from = c.loop-from.from in
    let count = c.round_of-count.result.0 in
    let width = c.round_of-count.result.1 in
    let few = c.round_of-count.ensures.within in
    let many = round_count lists from count few in
    let within = round_within lists from count few c.loop-from.invariant.within in
    record {
      fit = record {
        lists_are = some_splittable (length c.args.splitter.now.points.now.vectors) lists from (from + count - from) c.requires.lists;
        fit = subst (λ (vs : List (Vec ℕ Global)). All (λ ids. length ids + 1 ≤ width) (lists_of vs)) (round_lists lists from count few) c.round_of-count.ensures.fit;
      };
      wide = c.round_of-count.ensures.wide;
      numbers = let all = c.requires.number in omega (arith, many, within, all);
      few = let all = c.requires.few in omega (arith, many, within, all);
    }

pub run_round-requires-clause-small : goal.run_round-requires-clause-small
run_round-requires-clause-small g c κs within =
    let s = c.args.splitter.now in
    let lists = c.args.lists.now in
    let from = c.loop-from.from in
    let count = c.round_of-count.result.0 in
    let width = c.round_of-count.result.1 in
    let words : count * width ≤ 134217728 = omega (arith, c.round_of-count.ensures.words, c.count.ensures.bound) in
    subst (λ k. k * width ≤ 134217728)
    (sym (many_blocks s.points.now.vectors s.seed s.tree s.depth width (c.args.number + from) (take (from + count - from) (drop from lists)) ∙ round_count lists from count c.round_of-count.ensures.within)) words

pub loop-from-preserved : goal.loop-from-preserved
loop-from-preserved g c =
    let s = c.args.splitter.now in
    let points = s.points.now.vectors in
    let lists = c.args.lists.now in
    let from = c.loop-from.from in
    let count = c.round_of-count.result.0 in
    let few = c.round_of-count.ensures.within in
    let within = round_within lists from count few c.loop-from.invariant.within in
    let same = round_len lists from count few in
    record {
      within = within;
      long = kept_round points s.seed s.tree s.depth c.args.number lists (is_long c.args.leaf) from count (from + count - from) (lists_of c.args.long.now.items) (lists_of c.loop-from.long.items) (lists_of c.keep_parts.new.long.items) same within c.loop-from.invariant.long c.in_ok-keep_parts.ensures.long;
      leaves = kept_round points s.seed s.tree s.depth c.args.number lists (is_short c.args.leaf) from count (from + count - from) (lists_of c.args.leaves.now.items) (lists_of c.loop-from.leaves.items) (lists_of c.keep_parts.new.leaves.items) same within c.loop-from.invariant.leaves c.in_ok-keep_parts.ensures.leaves;
      posts = c.run_round.auto.posts ∙ c.loop-from.invariant.posts;
      workers = c.in_ok-blocks.ensures.workers ∙ c.loop-from.invariant.workers;
    }
