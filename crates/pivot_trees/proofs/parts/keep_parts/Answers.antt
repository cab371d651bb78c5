use Rattle.std.proofs.Common.{◌≡◌, ◌∙◌, ◌+◌, ◌<◌, ◌≤◌, ◌-◌, ◌++◌, [], ℕ, List, length, take, drop, get_or, sym, ap, arith, refl}
use Rattle.std.specs.List.{filter, flat_map}
use Rattle.std.proofs.lemmas.List.{take_all}
use Rattle.pivot_trees.specs.declared.splits.Splits.{Splits}
use Rattle.pivot_trees.specs.Blocks.{lists_of, block_of}
use Rattle.pivot_trees.specs.Leaves.{both, is_long, is_short, parts_of}
use Rattle.pivot_trees.specs.Tasks.{blocks_in, splits_in}
use Rattle.pivot_trees.proofs.Lists.{list_len}
use Rattle.pivot_trees.proofs.Splitting.{IsSplit, parts_split}
use Rattle.pivot_trees.proofs.SplitBlocks.{many_blocks, many_splits, split_is, block_is, left_low, words_room, first_part, second_part, kept_more}
use Rattle.pivot_trees.proofs.parts.keep_parts.Goals as goal

-- the block of one list
module _ (w : Splits) (i : ℕ) (lt : i < length w.lists.now) where
  abbrev list : List ℕ
  list = get_or (lists_of w.lists.now) i []

  abbrev parts : List ℕ × List ℕ
  parts = parts_of w.splitter.now.points.now.vectors w.splitter.now.seed w.splitter.now.tree w.splitter.now.depth (w.number + i) list

  split : IsSplit list parts
  split = parts_split w.splitter.now.points.now.vectors w.splitter.now.seed w.splitter.now.tree w.splitter.now.depth (w.number + i) list

  there : (blocks : List (List ℕ)) → blocks ≡ blocks_in w → i < length blocks
  there blocks same =
      let many = many_blocks w.splitter.now.points.now.vectors w.splitter.now.seed w.splitter.now.tree w.splitter.now.depth w.width w.number w.lists.now in
      let all = ap (λ (bs : List (List ℕ)). length bs) same in
      omega (arith, many, all, lt)

  its_split : get_or (splits_in w) i ([], []) ≡ parts
  its_split = split_is w.splitter.now.points.now.vectors w.splitter.now.seed w.splitter.now.tree w.splitter.now.depth w.width w.number w.lists.now i lt

  in_splits : i < length (splits_in w)
  in_splits = let many = many_splits w.splitter.now.points.now.vectors w.splitter.now.seed w.splitter.now.tree w.splitter.now.depth w.width w.number w.lists.now in omega (arith, many, lt)

-- the block as it is read
module _ (w : Splits) (i : ℕ) (lt : i < length w.lists.now) (blocks : List (List ℕ)) (words : List ℕ) (same : blocks ≡ blocks_in w) (read : words ≡ get_or blocks i []) where
  its_block : words ≡ block_of w.width (parts w i lt)
  its_block = read ∙ ap (λ (bs : List (List ℕ)). get_or bs i []) same ∙ block_is w.splitter.now.points.now.vectors w.splitter.now.seed w.splitter.now.tree w.splitter.now.depth w.width w.number w.lists.now i lt

  room : length (list w i lt) + 1 ≤ length words
  room = words_room w.width (list w i lt) words (parts w i lt) (split w i lt) its_block (get_or words 0 0) refl

  low : get_or words 0 0 ≤ length (list w i lt)
  low = left_low w.width (list w i lt) words (parts w i lt) (split w i lt) its_block (get_or words 0 0) refl

pub get-words-requires : goal.get-words-requires
get-words-requires c = there c.args.splits.now c.loop-i.i c.loop-i-test.true c.args.blocks.now c.requires

pub bounds-words-0 : goal.bounds-words-0
bounds-words-0 c =
    let wide = room c.args.splits.now c.loop-i.i c.loop-i-test.true c.args.blocks.now c.get-words.result.now c.requires c.get-words.ensures in
    omega (arith, wide)

pub part_of-requires-clause-within : goal.part_of-requires-clause-within
part_of-requires-clause-within c =
    let wide = room c.args.splits.now c.loop-i.i c.loop-i-test.true c.args.blocks.now c.get-words.result.now c.requires c.get-words.ensures in
    let left = low c.args.splits.now c.loop-i.i c.loop-i-test.true c.args.blocks.now c.get-words.result.now c.requires c.get-words.ensures in
    omega (arith, wide, left)

pub part_of-requires-in-loop-i-clause-order : goal.part_of-requires-in-loop-i-clause-order
part_of-requires-in-loop-i-clause-order c =
    let left = low c.args.splits.now c.loop-i.i c.loop-i-test.true c.args.blocks.now c.get-words.result.now c.requires c.get-words.ensures in
    let same : c.len-len.result ≡ length (list c.args.splits.now c.loop-i.i c.loop-i-test.true) = c.len-len.ensures ∙ list_len c.args.splits.now.lists.now c.loop-i.i c.index-splits-i.result c.loop-i-test.true in
    omega (arith, left, same)

pub part_of-requires-in-loop-i-clause-within : goal.part_of-requires-in-loop-i-clause-within
part_of-requires-in-loop-i-clause-within c =
    let wide = room c.args.splits.now c.loop-i.i c.loop-i-test.true c.args.blocks.now c.get-words.result.now c.requires c.get-words.ensures in
    let same : c.len-len.result ≡ length (list c.args.splits.now c.loop-i.i c.loop-i-test.true) = c.len-len.ensures ∙ list_len c.args.splits.now.lists.now c.loop-i.i c.index-splits-i.result c.loop-i-test.true in
    omega (arith, wide, same)

pub loop-i-preserved : goal.loop-i-preserved
loop-i-preserved c =
    let w = c.args.splits.now in
    let i = c.loop-i.i in
    let at = c.loop-i-test.true in
    let words = c.get-words.result.now in
    let is = its_block w i at c.args.blocks.now words c.requires c.get-words.ensures in
    let len : c.len-len.result ≡ length (list w i at) = c.len-len.ensures ∙ list_len w.lists.now i c.index-splits-i.result at in
    let one : c.in_ok-first.first.items ≡ (parts w i at).0 = c.in_ok-first.ensures ∙ first_part w.width (list w i at) words (parts w i at) (split w i at) is (get_or words 0 0) refl in
    let two : c.in_ok-second.second.items ≡ (parts w i at).1 =
    c.in_ok-second.ensures ∙ ap (λ k. take (k - get_or words 0 0) (drop (get_or words 0 0 + 1) words)) len ∙ second_part w.width (list w i at) words (parts w i at) (split w i at) is (get_or words 0 0) refl in
    let left = one ∙ ap (λ (p : List ℕ × List ℕ). p.0) (sym (its_split w i at)) in
    let right = two ∙ ap (λ (p : List ℕ × List ℕ). p.1) (sym (its_split w i at)) in
    record {
      long = kept_more (is_long c.args.leaf) (splits_in w) i c.in_ok-first.first.items c.in_ok-second.second.items (lists_of c.args.long.now.items) (lists_of c.loop-i.long.items) (lists_of c.keep_list.new.long.items) (lists_of c.keep_list-in-loop-i.new.long.items)
          (in_splits w i at) left right c.loop-i.invariant.long c.in_ok-keep_list.ensures.long c.in_ok-keep_list-2.ensures.long;
      leaves = kept_more (is_short c.args.leaf) (splits_in w) i c.in_ok-first.first.items c.in_ok-second.second.items (lists_of c.args.leaves.now.items) (lists_of c.loop-i.leaves.items) (lists_of c.keep_list.new.leaves.items) (lists_of c.keep_list-in-loop-i.new.leaves.items)
          (in_splits w i at) left right c.loop-i.invariant.leaves c.in_ok-keep_list.ensures.leaves c.in_ok-keep_list-2.ensures.leaves;
    }

all_splits : (w : Splits) (i : ℕ) → length w.lists.now ≤ i → take i (splits_in w) ≡ splits_in w
all_splits w i le = let many = many_splits w.splitter.now.points.now.vectors w.splitter.now.seed w.splitter.now.tree w.splitter.now.depth w.width w.number w.lists.now in take_all i (splits_in w) (omega (arith, many, le))

pub returns-clause-long : goal.returns-clause-long
returns-clause-long c = c.loop-i.invariant.long ∙ ap (λ (splits : List (List ℕ × List ℕ)). lists_of c.args.long.now.items ++ filter (is_long c.args.leaf) (flat_map both splits)) (all_splits c.args.splits.now c.loop-i.i c.loop-i-test.false)

pub returns-clause-leaves : goal.returns-clause-leaves
returns-clause-leaves c = c.loop-i.invariant.leaves ∙ ap (λ (splits : List (List ℕ × List ℕ)). lists_of c.args.leaves.now.items ++ filter (is_short c.args.leaf) (flat_map both splits)) (all_splits c.args.splits.now c.loop-i.i c.loop-i-test.false)
