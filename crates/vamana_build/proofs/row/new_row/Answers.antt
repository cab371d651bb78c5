use Rattle.std.proofs.Common.{◌≡◌, ◌++◌, ◌∙◌, ap, ℕ, List, [], ◌∷◌}
use Rattle.ann_defs.specs.Distance.{point}
use Rattle.ann_defs.specs.Nearness.{ids_of}
use Rattle.ann_defs.specs.Graph.{has, row_in, without}
use Rattle.ann_defs.specs.GreedySearch.{search_of, visited_of}
use Rattle.ann_defs.proofs.Alike.{prune_alike}
use Rattle.beam_search.specs.Room.{Room, after_search}
use Rattle.vamana_build.specs.Builds.{start_of}
use Rattle.vamana_build.proofs.row.new_row.Goals as goal

-- what the scratch shows is what the definition visits
seen : (points : List (List ℕ)) (row : ℕ → List ℕ) (beam start first : ℕ) (q target : List ℕ) (new old : Room) → new ≡ after_search old (search_of points row q beam (start ∷ [])) → q ≡ target → start ≡ first → new.last.visited ≡ visited_of points row target beam (first ∷ [])
seen points row beam start first q target new old e k s =
    ap (λ (r : Room). r.last.visited) e ∙ (λ i. visited_of points row (k i) beam (s i ∷ []))

pub returns-clause-row : goal.returns-clause-row
returns-clause-row c =
    let plan = c.args.plan.now in
    let points = plan.points.now.vectors in
    let s = plan.settings in
    let rows = c.args.graph.now.rows in
    let p = c.args.p in
    let visited = visited_of points (row_in rows) (point points p) s.beam (start_of points s ∷ []) in
    let e = seen points (row_in rows) s.beam c.start.result (start_of points s) c.at.result.now (point points p) c.search.new.scratch c.args.scratch.now c.search.ensures.walk c.at.ensures.value c.start.ensures.value in
    let same = λ (u : ℕ). c.candidates-found.ensures.gathered.members u ∙ (λ i. has (without p (ids_of (e i) ++ c.row.ensures i)) u) in
    c.prune.ensures.row ∙ prune_alike points p (ids_of c.candidates-found.result.now) (without p (ids_of visited ++ row_in rows p)) c.args.alpha.num c.args.alpha.den s.degree same
