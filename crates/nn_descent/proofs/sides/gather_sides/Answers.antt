use Rattle.std.proofs.Common.{◌≡◌, ◌∙◌, ◌<◌, ◌++◌, List, length, map, take, sym, ap, subst, arith}
use Rattle.std.specs.Prelude.{◌==◌}
use Rattle.std.specs.List.{All, filter}
use Rattle.ann_defs.specs.declared.near.Near.{Near}
use Rattle.ann_defs.specs.Distance.{point}
use Rattle.ann_defs.specs.Nearness.{all_near}
use Rattle.ann_defs.specs.Graph.{row_in}
use Rattle.near_lists.specs.Gathered.{gathered, IsGathered}
use Rattle.neighbour_lists.specs.declared.edge.Edge.{Edge}
use Rattle.neighbour_lists.specs.ListRound.{sources_of}
use Rattle.neighbour_lists.proofs.Offers.{written_is}
use Rattle.nn_descent.proofs.SidesFacts.{edges_to, sources_few, sources_inside, copied, both_gathered}
use Rattle.nn_descent.proofs.sides.gather_sides.Goals as goal

pub copy_sources-count-requires : goal.copy_sources-count-requires
copy_sources-count-requires c =
    let points = c.args.points.now.vectors in
    let rows = c.args.rows.now.rows in
    let v = c.args.v in
    let few = sources_few points rows c.args.rows.now.width v c.requires.good in
    let to : c.to.result.now ≡ edges_to points rows c.args.rows.now.width v c.requires.good = c.to.ensures ∙ ap (filter (λ (e : Edge). e.target == v)) c.requires.edges in
    let same = ap (λ (es : List Edge). length es) to in
    let room = ap (λ (xs : List Near). length xs) c.deref_mut.ensures.value in
    let wide = c.requires.serves.sources in
    omega (arith, few, same, room, wide)

pub gather-requires-clause-in_range : goal.gather-requires-clause-in_range
gather-requires-clause-in_range c =
    let points = c.args.points.now.vectors in
    let rows = c.args.rows.now.rows in
    let v = c.args.v in
    let room = c.args.sides.now.sources in
    let measured = copied points rows c.args.rows.now.width v c.requires.good room.len c.copy_sources-count.result c.copy_sources-count.new.room room.items c.deref.result.now c.to.result.now c.args.edges.now (c.copy_sources-count.auto.room ∙ c.deref_mut.ensures.len) c.deref.ensures.value c.copy_sources-count.ensures.list c.to.ensures c.requires.edges in
    subst (All (λ (x : Near). x.id < length points)) (sym measured) (sources_inside points rows c.args.rows.now.width v c.requires.good)

pub returns-clause-gathered : goal.returns-clause-gathered
returns-clause-gathered c =
    let points = c.args.points.now.vectors in
    let rows = c.args.rows.now.rows in
    let v = c.args.v in
    let room = c.args.sides.now.sources in
    let measured = copied points rows c.args.rows.now.width v c.requires.good room.len c.copy_sources-count.result c.copy_sources-count.new.room room.items c.deref.result.now c.to.result.now c.args.edges.now (c.copy_sources-count.auto.room ∙ c.deref_mut.ensures.len) c.deref.ensures.value c.copy_sources-count.ensures.list c.to.ensures c.requires.edges in
    let cands = written_is c.args.sides.now.cands.len c.gather.new.room c.args.sides.now.cands.items (c.gather.auto.room ∙ c.deref_mut-3.ensures.len) in
    let is = ap (take c.gather.result) cands ∙ c.gather.ensures.list ∙ (λ i. gathered v (measured i ++ all_near points (point points v) (c.at-row.ensures.row i))) in
    subst (IsGathered points v (row_in rows v ++ sources_of rows v)) (sym is) (both_gathered points rows c.args.rows.now.width v c.requires.good c.requires.v)
