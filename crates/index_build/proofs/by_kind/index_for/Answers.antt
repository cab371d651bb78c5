use Rattle.std.proofs.Common.{ap, sym, subst, ◌∙◌}
use Rattle.graph_rows.specs.Index.{Contents}
use Rattle.graph_rows.specs.Stamps.{stamped, IsStamped}
use Rattle.graph_rows.specs.View.{contents}
use Rattle.index_build.specs.Stamping.{stamp_for}
use Rattle.index_build.proofs.IndexFacts.{stamped_is, code_is}
use Rattle.index_build.proofs.by_kind.index_for.Goals as goal

pub returns-clause-index : goal.returns-clause-index
returns-clause-index g c =
    let X = c.args.points.now in
    let o = c.args.options.now in
    c.with_stamp.ensures.value ∙ ap (λ s. stamped s (contents c.in_ok-index.index)) c.stamp_for.ensures.value ∙ ap (stamped (stamp_for X o)) c.in_ok-index.ensures.index ∙ stamped_is X o

pub with_stamp-requires-clause-allowed : goal.with_stamp-requires-clause-allowed
with_stamp-requires-clause-allowed g c =
    let o = c.args.options.now in
    subst (λ k. IsStamped k c.stamp_for.result) (sym (ap (λ (j : Contents). j.kind) c.in_ok-index.ensures.index ∙ code_is o.kind c.args.points.now.vectors o)) c.stamp_for.ensures.allowed
