use Rattle.std.proofs.Common.{◌≡◌, ◌<◌, ◌∷◌, [], ◌∙◌, ℕ, List, true, length, sym, ap, subst}
use Rattle.std.specs.Prelude.{nat_lt}
use Rattle.std.proofs.lemmas.Bool.{lt-ltb, ltb-true}
use Rattle.std.proofs.lemmas.List.Elements.{All-nil, All-cons}
use Rattle.ann_defs.proofs.GoodGraphs.{good_graph}
use Rattle.beam_search.specs.Room.{Room}
use Rattle.graph_rows.specs.Layers.{Layered}
use Rattle.graph_rows.specs.View.{contents}
use Rattle.graph_rows.specs.WellFormed.{base_bound}
use Rattle.layered_search.specs.Entering.{AreEnterable, upper_row}
use Rattle.layered_search.specs.KnnSearch.{entries_down}
use Rattle.layered_search.proofs.Enterable.{further_enterable, base_rows}
use Rattle.layered_search.proofs.Descending.{descended}
use Rattle.layered_search.proofs.descent.descend.Goals as goal

pub enter-entry-requires-clause-layers : goal.enter-entry-requires-clause-layers
enter-entry-requires-clause-layers c =
    let i = contents c.args.index.now in
    subst (λ (layers : List Layered). AreEnterable (length c.args.points.now.vectors) i.start layers) (sym c.deref.ensures.value)
    (subst (λ (n : ℕ). AreEnterable n i.start c.args.index.now.upper.items) c.requires.count
    (further_enterable i.count i.start i.degree c.args.index.now.upper.items c.requires.index.upper c.requires.index.start))

pub search-requires-clause-graph : goal.search-requires-clause-graph
search-requires-clause-graph c =
    let i = c.args.index.now in
    let n = length c.args.points.now.vectors in
    let rows = i.base.rows in
    let good = base_rows n i c.requires.index c.requires.count in
    good_graph n (base_bound (contents i).kind i.degree) (λ u. nat_lt u (length rows)) rows
    (λ u h. subst (λ (m : ℕ). u < m) good.count (ltb-true u (length rows) h))
    (λ u h. lt-ltb u (length rows) (subst (λ (m : ℕ). u < m) (sym good.count) h)) good

pub search-requires-clause-starts : goal.search-requires-clause-starts
search-requires-clause-starts c =
    let rows = c.args.index.now.base.rows in
    let good = base_rows (length c.args.points.now.vectors) c.args.index.now c.requires.index c.requires.count in
    All-cons (λ u. nat_lt u (length rows) ≡ true) c.enter-entry.result []
    (lt-ltb c.enter-entry.result (length rows) (subst (λ (m : ℕ). c.enter-entry.result < m) (sym good.count) c.enter-entry.ensures.below))
    (All-nil (λ u. nat_lt u (length rows) ≡ true))

pub returns-clause-descent : goal.returns-clause-descent
returns-clause-descent c =
    let points = c.args.points.now.vectors in
    let index = c.args.index.now in
    let walked = subst (λ (layers : List Layered). c.enter-entry.result ∷ [] ≡ entries_down points (upper_row layers) c.args.query.now 1 (index.start ∷ []) (length layers) 0) c.deref.ensures.value c.enter-entry.ensures.entry in
    ap (λ (r : Room). r.last.found) c.search.ensures.walk
    ∙ descended index points c.args.query.now c.args.beam c.enter-entry.result c.requires.index.base walked
