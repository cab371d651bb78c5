use Rattle.std.proofs.Common.{◌≡◌, ◌≤◌, [], ◌∷◌, List, length, true, sym, ap, ◌∙◌, subst, lit≤}
use Rattle.std.specs.List.{All}
use Rattle.std.proofs.lemmas.List.Elements.{All-get_or}
use Rattle.ann_defs.specs.declared.near.Near.{Near}
use Rattle.ann_defs.specs.Graph.{has}
use Rattle.ann_defs.specs.GreedySearch.{found_of}
use Rattle.ann_defs.specs.Nearness.{ids_of}
use Rattle.beam_search.specs.Room.{Room}
use Rattle.graph_rows.specs.Index.{layer_ids}
use Rattle.graph_rows.specs.Layers.{layer_row}
use Rattle.layered_search.proofs.OneFound.{found_some, one_id}
use Rattle.layered_search.proofs.entering.nearest.Goals as goal

pub bounds-found-0 : goal.bounds-found-0
bounds-found-0 c =
    let is = c.found.ensures ∙ ap (λ (r : Room). r.last.found) c.search.ensures.walk in
    let some = found_some c.args.points.now.vectors (layer_row c.args.layer.now) c.args.query.now 1 (lit≤ tt) c.args.entry in
    subst (λ (nears : List Near). 1 ≤ length nears) (sym is) some

pub returns-clause-found : goal.returns-clause-found
returns-clause-found c =
    let nears = found_of c.args.points.now.vectors (layer_row c.args.layer.now) c.args.query.now 1 (c.args.entry ∷ []) in
    let is : c.found.result.now ≡ nears = c.found.ensures ∙ ap (λ (r : Room). r.last.found) c.search.ensures.walk in
    let some = found_some c.args.points.now.vectors (layer_row c.args.layer.now) c.args.query.now 1 (lit≤ tt) c.args.entry in
    let few : length c.found.result.now ≤ 1 = subst (λ (xs : List Near). length xs ≤ 1) (sym c.found.ensures) c.search.ensures.short in
    one_id c.found.result.now (record { dist = 0; id = 0 }) (subst (λ (xs : List Near). 1 ≤ length xs) (sym is) some) few ∙ ap ids_of is

pub returns-clause-held : goal.returns-clause-held
returns-clause-held c =
    let is = c.found.ensures ∙ ap (λ (r : Room). r.last.found) c.search.ensures.walk in
    let some = subst (λ (xs : List Near). 1 ≤ length xs) (sym is) (found_some c.args.points.now.vectors (layer_row c.args.layer.now) c.args.query.now 1 (lit≤ tt) c.args.entry) in
    All-get_or (λ (x : Near). has (layer_ids c.args.layer.now.entries) x.id ≡ true) c.found.result.now 0 (record { dist = 0; id = 0 }) some
    (subst (λ (xs : List Near). All (λ (x : Near). has (layer_ids c.args.layer.now.entries) x.id ≡ true) xs) (sym c.found.ensures) c.search.ensures.found.held_ids)
