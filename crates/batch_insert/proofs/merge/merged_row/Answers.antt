use Rattle.std.proofs.Common.{◌≡◌, ◌<◌, ◌∙◌, ap, sym, subst, length, take, drop, arith, List, ℕ, rules, true}
use Rattle.std.specs.List.{All}
use Rattle.batch_insert.specs.declared.pair.Pair.{Pair}
use Rattle.batch_insert.specs.Sources.{sources_in}
use Rattle.batch_insert.proofs.Merges.{laid_front, laid_room, laid_candidates, laid_full, pairs_below}
use Rattle.batch_insert.proofs.merge.merged_row.Goals as goal

pub lay_sources-len-requires-clause-sources : goal.lay_sources-len-requires-clause-sources
lay_sources-len-requires-clause-sources g c = subst (λ (ps : List (List ℕ)). All (λ (p : Pair). p.source < length ps) c.args.sources.now) (sym c.points-points.ensures) (pairs_below (length (g.P.Pruning.vectors c.args.pruning.now)) c.args.sources.now c.requires.sources.inside)

pub prune_among-requires-clause-cands : goal.prune_among-requires-clause-cands
prune_among-requires-clause-cands g c =
    laid_candidates (g.P.Pruning.vectors c.args.pruning.now) _ c.args.target c.args.row.now (sources_in c.args.sources.now) _ _ c.points-points.ensures c.lay_row-from.ensures.list c.lay_sources-len.ensures.list (g.P.Pruning.most c.args.pruning.now) c.requires.row c.requires.sources

pub prune_among-requires-clause-apart : goal.prune_among-requires-clause-apart
prune_among-requires-clause-apart g c =
    subst (λ (ids : List ℕ). g.P.Pruning.apart c.args.pruning.now c.args.target ids ≡ true)
    (sym (laid_front (g.P.Pruning.vectors c.args.pruning.now) _ c.args.target c.args.row.now (sources_in c.args.sources.now) _ _ c.points-points.ensures c.lay_row-from.ensures.list c.lay_sources-len.ensures.list (g.P.Pruning.most c.args.pruning.now) c.args.settled c.requires.settled))
    c.requires.apart

pub returns-then-len-degree-clause-row : goal.returns-then-len-degree-clause-row
returns-then-len-degree-clause-row g c =
    let count : length (take c.lay_sources-len.result c.lay_sources-len.new.room) ≡ c.lay_sources-len.result = search rules in
    sym (ap (λ k. take k c.copy_ids.new.out) count)
    ∙ c.copy_ids.ensures.list
    ∙ laid_room (g.P.Pruning.vectors c.args.pruning.now) _ c.args.target c.args.row.now (sources_in c.args.sources.now) _ _ c.points-points.ensures c.lay_row-from.ensures.list c.lay_sources-len.ensures.list (g.P.Pruning.most c.args.pruning.now) (g.P.Pruning.pruned c.args.pruning.now) (omega (arith, count))

pub returns-then-len-degree-clause-rest : goal.returns-then-len-degree-clause-rest
returns-then-len-degree-clause-rest g c =
    let count : length (take c.lay_sources-len.result c.lay_sources-len.new.room) ≡ c.lay_sources-len.result = search rules in
    sym (ap (λ k. drop k c.copy_ids.new.out) count) ∙ c.copy_ids.ensures.rest ∙ ap (λ k. drop k c.args.out.now) count

pub returns-else-len-degree-clause-row : goal.returns-else-len-degree-clause-row
returns-else-len-degree-clause-row g c =
    let count : length (take c.lay_sources-len.result c.lay_sources-len.new.room) ≡ c.lay_sources-len.result = search rules in
    c.prune_among.ensures.row
    ∙ laid_full (g.P.Pruning.vectors c.args.pruning.now) _ c.args.target c.args.row.now (sources_in c.args.sources.now) _ _ c.points-points.ensures c.lay_row-from.ensures.list c.lay_sources-len.ensures.list (g.P.Pruning.most c.args.pruning.now) c.requires.row c.requires.sources (g.P.Pruning.pruned c.args.pruning.now) (omega (arith, count))
