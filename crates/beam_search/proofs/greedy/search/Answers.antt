use Rattle.std.proofs.Common.{◌≡◌, ◌∙◌, length, sym, ap}
use Rattle.std.specs.Vec.{with_items}
use Rattle.ann_defs.specs.GreedySearch.{walk_in}
use Rattle.beam_search.specs.Room.{Room}
use Rattle.beam_search.proofs.Lent.{written_is}
use Rattle.beam_search.proofs.Searched.{searched}
use Rattle.beam_search.proofs.greedy.search.Goals as goal

pub returns : goal.returns
returns g c =
    let found = with_items c.scratch.inside.found c.walk_all-found_len.new.found in
    let visited = with_items c.scratch.inside.visited c.walk_all-found_len.new.visited in
    let beam : length found.items ≡ c.args.scratch.now.beam = sym found.ok.0 ∙ c.scratch.inside.found.ok.0 ∙ ap (λ (r : Room). r.beam) c.scratch.view_is in
    let count : length visited.items ≡ c.args.scratch.now.count = sym visited.ok.0 ∙ c.scratch.inside.visited.ok.0 ∙ ap (λ (r : Room). r.count) c.scratch.view_is in
    let found_is : found.items ≡ c.walk_all-found_len.new.found = written_is c.scratch.inside.found.len c.walk_all-found_len.new.found c.scratch.inside.found.items (c.walk_all-found_len.auto.found ∙ c.deref_mut-2.ensures.len) in
    let visited_is : visited.items ≡ c.walk_all-found_len.new.visited = written_is c.scratch.inside.visited.len c.walk_all-found_len.new.visited c.scratch.inside.visited.items (c.walk_all-found_len.auto.visited ∙ c.deref_mut-3.ensures.len) in
    let last = (λ i. walk_in (found_is i) c.walk_all-found_len.result.0 (visited_is i) c.walk_all-found_len.result.1) ∙ c.walk_all-found_len.ensures.walk in
    let all = searched c.args.points.now.vectors (g.R.Rows.row_of c.args.graph.now) c.args.query.now c.args.beam (g.R.Rows.held c.args.graph.now) c.requires.graph c.args.starts.now c.requires.starts _ last in
    record {
      walk = λ i. record { count = count i; beam = beam i; last = last i };
      visited = all.visited;
      few = all.few;
      found = all.found;
      rises = all.rises;
      short = all.short;
    }
