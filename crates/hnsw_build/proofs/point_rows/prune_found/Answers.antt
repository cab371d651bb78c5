use Rattle.std.proofs.Common.{◌∙◌, ap, ℕ, List}
use Rattle.std.proofs.lemmas.List.{append-nil}
use Rattle.ann_defs.specs.Nearness.{ids_of}
use Rattle.ann_defs.specs.Graph.{has, without}
use Rattle.ann_defs.proofs.Alike.{prune_alike}
use Rattle.hnsw_build.proofs.point_rows.prune_found.Goals as goal

pub returns-clause-row : goal.returns-clause-row
returns-clause-row c =
    let plan = c.args.plan.now in
    let points = plan.points.now.vectors in
    let p = c.args.p in
    let found = ids_of c.args.scratch.now.last.found in
    let same = λ (u : ℕ). c.found_candidates-nears.ensures.gathered.members u ∙ ap (λ (ids : List ℕ). has (without p ids) u) (append-nil found) in
    c.prune.ensures.row ∙ prune_alike points p (ids_of c.found_candidates-nears.result.now) (without p found) 1 1 plan.settings.degree same
