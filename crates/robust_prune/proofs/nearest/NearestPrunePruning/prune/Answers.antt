use Rattle.std.proofs.Common.{◌∙◌, ap, sym, subst, take, length, List}
use Rattle.ann_defs.specs.declared.near.Near.{Near}
use Rattle.ann_defs.specs.Nearness.{ids_of}
use Rattle.ann_defs.specs.Graph.{IsGoodRow}
use Rattle.robust_prune.specs.Nearest.{nearest_good}
use Rattle.robust_prune.proofs.Sorting.{ordered_sorted}
use Rattle.robust_prune.proofs.Laws.{candidates_inside, candidates_others}
use Rattle.robust_prune.proofs.nearest.NearestPrunePruning.prune.Goals as goal

pub returns-clause-row : goal.returns-clause-row
returns-clause-row c =
    c.copy_first.ensures.ids
    ∙ sym (ap (λ (xs : List Near). ids_of (take c.args.self.now.degree xs))
    (ordered_sorted c.args.self.now.points.now.vectors c.args._p c.args.cands.now c.sort_unstable.new.self c.requires.cands c.sort_unstable.ensures.permutation c.sort_unstable.ensures.sorted))

pub returns-clause-good : goal.returns-clause-good
returns-clause-good c =
    let points = c.args.self.now.points.now.vectors in
    subst (IsGoodRow (length points) c.args.self.now.degree c.args._p) (sym (returns-clause-row c))
    (nearest_good points c.args._p (ids_of c.args.cands.now) c.args.self.now.degree (candidates_inside points c.args._p c.args.cands.now c.requires.cands) (candidates_others points c.args._p c.args.cands.now c.requires.cands))
