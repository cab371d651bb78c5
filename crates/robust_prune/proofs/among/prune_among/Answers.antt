use Rattle.std.proofs.Common.{◌∙◌, ◌++◌, ap, sym, subst, List}
use Rattle.std.specs.List.Sorted.{IsPermutation}
use Rattle.ann_defs.specs.declared.near.Near.{Near}
use Rattle.ann_defs.specs.Nearness.{near_cmp, ids_of}
use Rattle.ann_defs.specs.Ordered.{Has, Rises, ordered}
use Rattle.ann_defs.specs.RobustPrune.{stays, kept}
use Rattle.robust_prune.specs.Apart.{IsSpread}
use Rattle.robust_prune.proofs.Laws.{pruned_good}
use Rattle.robust_prune.proofs.Apart.{others_inside, first_rise, first_spread, others_rise, none_twice, among_ordered}
use Rattle.robust_prune.proofs.among.prune_among.Goals as goal

pub keep_among-requires-clause-other_ids : goal.keep_among-requires-clause-other_ids
keep_among-requires-clause-other_ids c =
    others_inside c.args.points.now.vectors c.args.alpha.num c.args.alpha.den c.args.p c.args.cands.now c.sort_unstable.new.self c.args.settled c.requires.cands
    (subst (λ (xs : List Near). IsPermutation xs c.sort_unstable.new.self) c.split_at_mut-first.ensures.back c.sort_unstable.ensures.permutation)

pub keep_among-requires-clause-settled_rise : goal.keep_among-requires-clause-settled_rise
keep_among-requires-clause-settled_rise c =
    subst (Rises near_cmp) (sym c.split_at_mut-first.ensures.front)
    (first_rise c.args.points.now.vectors c.args.alpha.num c.args.alpha.den c.args.p c.args.cands.now c.sort_unstable.new.self c.args.settled c.requires.cands
    (subst (λ (xs : List Near). IsPermutation xs c.sort_unstable.new.self) c.split_at_mut-first.ensures.back c.sort_unstable.ensures.permutation) c.requires.apart)

pub keep_among-requires-clause-others_rise : goal.keep_among-requires-clause-others_rise
keep_among-requires-clause-others_rise c =
    others_rise c.args.points.now.vectors c.args.alpha.num c.args.alpha.den c.args.p c.args.cands.now c.sort_unstable.new.self c.args.settled c.requires.cands
    (subst (λ (xs : List Near). IsPermutation xs c.sort_unstable.new.self) c.split_at_mut-first.ensures.back c.sort_unstable.ensures.permutation) c.sort_unstable.ensures.sorted

pub keep_among-requires-clause-distinct : goal.keep_among-requires-clause-distinct
keep_among-requires-clause-distinct c =
    subst (λ (xs : List Near). (z : Near) → Has xs z → Has c.sort_unstable.new.self z → ⊥) (sym c.split_at_mut-first.ensures.front)
    (none_twice c.args.points.now.vectors c.args.alpha.num c.args.alpha.den c.args.p c.args.cands.now c.sort_unstable.new.self c.args.settled c.requires.cands
    (subst (λ (xs : List Near). IsPermutation xs c.sort_unstable.new.self) c.split_at_mut-first.ensures.back c.sort_unstable.ensures.permutation))

pub keep_among-requires-clause-spread : goal.keep_among-requires-clause-spread
keep_among-requires-clause-spread c =
    subst (IsSpread (stays c.args.points.now.vectors c.args.alpha.num c.args.alpha.den)) (sym c.split_at_mut-first.ensures.front)
    (first_spread c.args.points.now.vectors c.args.alpha.num c.args.alpha.den c.args.p c.args.cands.now c.sort_unstable.new.self c.args.settled c.requires.cands
    (subst (λ (xs : List Near). IsPermutation xs c.sort_unstable.new.self) c.split_at_mut-first.ensures.back c.sort_unstable.ensures.permutation) c.requires.apart)

pub returns-clause-row : goal.returns-clause-row
returns-clause-row c =
    let all = λ (xs : List Near). ids_of (kept (stays c.args.points.now.vectors c.args.alpha.num c.args.alpha.den) c.args.degree xs) in
    c.keep_among.ensures.kept
    ∙ ap (λ (xs : List Near). all (ordered near_cmp (xs ++ c.sort_unstable.new.self))) c.split_at_mut-first.ensures.front
    ∙ ap all (among_ordered c.args.points.now.vectors c.args.alpha.num c.args.alpha.den c.args.p c.args.cands.now c.sort_unstable.new.self c.args.settled c.requires.cands
    (subst (λ (xs : List Near). IsPermutation xs c.sort_unstable.new.self) c.split_at_mut-first.ensures.back c.sort_unstable.ensures.permutation))

pub returns-clause-good : goal.returns-clause-good
returns-clause-good c =
    pruned_good c.args.points.now.vectors c.args.p c.args.alpha.num c.args.alpha.den c.args.degree c.args.cands.now _ c.requires.cands (returns-clause-row c)
