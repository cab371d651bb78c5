use Rattle.std.proofs.Common.{◌<◌, ◌∙◌, ap, sym, length}
use Rattle.std.proofs.lemmas.List.Sorted.{All-permutation, IsPermutation-trans}
use Rattle.ann_defs.specs.Nearness.{ids_of}
use Rattle.ann_defs.specs.RobustPrune.{stays, kept}
use Rattle.robust_prune.proofs.Sorting.{ordered_sorted}
use Rattle.robust_prune.proofs.Laws.{pruned, pruned_good}
use Rattle.robust_prune.proofs.robust.prune.Goals as goal

pub keep-requires-clause-ids : goal.keep-requires-clause-ids
keep-requires-clause-ids c = All-permutation (λ x. x.id < length c.args.points.now.vectors) _ _ c.sort_unstable.ensures.permutation c.requires.cands.in_range

pub returns-clause-row : goal.returns-clause-row
returns-clause-row c =
    c.keep.ensures.kept
    ∙ sym (ap (λ xs. ids_of (kept (stays c.args.points.now.vectors c.args.alpha.num c.args.alpha.den) c.args.degree xs))
    (ordered_sorted c.args.points.now.vectors c.args.p c.args.cands.now c.sort_unstable.new.self c.requires.cands c.sort_unstable.ensures.permutation c.sort_unstable.ensures.sorted))

pub returns-clause-good : goal.returns-clause-good
returns-clause-good c =
    pruned_good c.args.points.now.vectors c.args.p c.args.alpha.num c.args.alpha.den c.args.degree c.args.cands.now _ c.requires.cands (returns-clause-row c)

pub returns-clause-pruned : goal.returns-clause-pruned
returns-clause-pruned c =
    pruned c.args.points.now.vectors c.args.p c.args.alpha.num c.args.alpha.den c.args.degree c.args.cands.now c.sort_unstable.new.self c.requires.cands c.sort_unstable.ensures.permutation _ c.keep.ensures.kept

pub returns-clause-cands : goal.returns-clause-cands
returns-clause-cands c = IsPermutation-trans _ _ _ c.sort_unstable.ensures.permutation c.keep.ensures.cands
