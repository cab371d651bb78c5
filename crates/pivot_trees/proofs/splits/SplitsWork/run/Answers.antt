use Rattle.std.proofs.Common.{◌≡◌, ◌∙◌, ◌+◌, ◌<◌, ◌≤◌, ℕ, List, [], Vec, Global, length, get_or, sym, ap, subst, arith}
use Rattle.std.specs.List.{All}
use Rattle.std.proofs.lemmas.List.Elements.{All-get_or}
use Rattle.pivot_trees.specs.declared.splits.Splits.{Splits}
use Rattle.pivot_trees.specs.Blocks.{lists_of, block_of}
use Rattle.pivot_trees.specs.Leaves.{parts_of}
use Rattle.pivot_trees.specs.Tasks.{blocks_in}
use Rattle.pivot_trees.proofs.Lists.{many_lists, list_read}
use Rattle.pivot_trees.proofs.SplitBlocks.{many_blocks, block_is}
use Rattle.pivot_trees.proofs.splits.SplitsWork.run.Goals as goal

-- the list of a task, as it is read
module _ (w : Splits) (task : ℕ) (taken : task < length (blocks_in w)) where
  listed : task < length w.lists.now
  listed = subst (λ k. task < k) (many_blocks w.splitter.now.points.now.vectors w.splitter.now.seed w.splitter.now.tree w.splitter.now.depth w.width w.number w.lists.now) taken

  module _ (d : Vec ℕ Global) (ids : List ℕ) (read : ids ≡ (get_or w.lists.now task d).items) where
    its_list : ids ≡ get_or (lists_of w.lists.now) task []
    its_list = read ∙ list_read w.lists.now task d listed

    -- what holds of all lists holds of it
    of_all : (P : List ℕ → Type 0) → All P (lists_of w.lists.now) → P ids
    of_all P all = let at = listed in let many = many_lists w.lists.now in subst P (sym its_list) (All-get_or P (lists_of w.lists.now) task [] (omega (arith, many, at)) all)

pub bounds-self-task : goal.bounds-self-task
bounds-self-task c = listed c.args.self.now c.args.task c.requires.task

pub split-requires-clause-number : goal.split-requires-clause-number
split-requires-clause-number c =
    let at = listed c.args.self.now c.args.task c.requires.task in
    let all = c.args.self.now.numbers in
    omega (arith, at, all)

pub split-requires-clause-inside : goal.split-requires-clause-inside
split-requires-clause-inside c =
    of_all c.args.self.now c.args.task c.requires.task c.index-self-task.result c.as_slice-list.result.now c.as_slice-list.ensures.value
    (λ (ids : List ℕ). All (λ u. u < length c.args.self.now.splitter.now.points.now.vectors) ids) c.args.self.now.fit.lists_are.inside

pub split-requires-clause-some : goal.split-requires-clause-some
split-requires-clause-some c =
    of_all c.args.self.now c.args.task c.requires.task c.index-self-task.result c.as_slice-list.result.now c.as_slice-list.ensures.value
    (λ (ids : List ℕ). 2 ≤ length ids) c.args.self.now.fit.lists_are.some

pub split-requires-clause-few : goal.split-requires-clause-few
split-requires-clause-few c =
    let w = c.args.self.now in
    let fit = of_all w c.args.task c.requires.task c.index-self-task.result c.as_slice-list.result.now c.as_slice-list.ensures.value (λ (ids : List ℕ). length ids + 1 ≤ w.width) w.fit.fit in
    omega (arith, fit)

pub split-requires-clause-out : goal.split-requires-clause-out
split-requires-clause-out c =
    let w = c.args.self.now in
    let fit = of_all w c.args.task c.requires.task c.index-self-task.result c.as_slice-list.result.now c.as_slice-list.ensures.value (λ (ids : List ℕ). length ids + 1 ≤ w.width) w.fit.fit in
    let out = c.requires.out in
    omega (arith, fit, out)

pub returns-clause-out : goal.returns-clause-out
returns-clause-out c =
    let w = c.args.self.now in
    let s = w.splitter.now in
    let at = listed w c.args.task c.requires.task in
    let list = its_list w c.args.task c.requires.task c.index-self-task.result c.as_slice-list.result.now c.as_slice-list.ensures.value in
    c.split.ensures
    ∙ (λ i. block_of (c.requires.out i) (parts_of s.points.now.vectors s.seed s.tree s.depth (w.number + c.from.ensures i) c.as_slice-list.result.now))
    ∙ ap (λ (ids : List ℕ). block_of w.width (parts_of s.points.now.vectors s.seed s.tree s.depth (w.number + c.args.task) ids)) list
    ∙ sym (block_is s.points.now.vectors s.seed s.tree s.depth w.width w.number w.lists.now c.args.task at)
