use Rattle.std.proofs.Common.{◌∙◌, ap, sym, subst}
use Rattle.std.specs.Ordering.{nat_cmp}
use Rattle.ann_defs.specs.Ordered.{Rises}
use Rattle.batch_insert.specs.Proposing.{Proposed}
use Rattle.batch_insert.proofs.Grouping.{targets_rise}
use Rattle.batch_insert.proofs.proposals.Proposals.place.Goals as goal

pub place_in-requires-clause-rises : goal.place_in-requires-clause-rises
place_in-requires-clause-rises c =
    let grouped = ap (λ (p : Proposed). p.grouped) c.self.view_is ∙ c.requires in
    subst (Rises nat_cmp) (sym (c.as_slice.ensures.value ∙ c.self.invariant.listed grouped)) (targets_rise c.self.inside.pairs.items)
