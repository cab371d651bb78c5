use Rattle.std.proofs.Common.{◌≡◌, ◌+◌, ◌<◌, sym, subst, ℕ, take, set, length, get_or, arith, length-set, []}
use Rattle.std.specs.List.{All}
use Rattle.std.proofs.lemmas.List.{length-take-le}
use Rattle.ann_defs.specs.GreedySearch.{Walk, walk_in, start_of}
use Rattle.ann_defs.proofs.SearchStates.{IsWalking, walking_none, walking_all}
use Rattle.near_lists.specs.Marks.{AreVisited}
use Rattle.beam_search.proofs.Cursor.{IsCursor, cursor_none, cursor_more, next_none, visited_none, visited_marked, visited_seen, up_to_first, up_to_marked, up_to_seen}
use Rattle.beam_search.proofs.Stepping.{p_held, p_below, count_room, row_below, settled_p, visited_p, walking_next, ids_next, ids_left}
use Rattle.beam_search.proofs.walk.walk_all.Goals as goal

pub loop-next-init : goal.loop-next-init
loop-next-init g c =
    let points = c.args.points.now.vectors in
    let row = g.R.Rows.row_of c.args.graph.now in
    let held = g.R.Rows.held c.args.graph.now in
    let start = start_of points row c.args.query.now c.args.beam c.args.starts.now in
    let same : walk_in c.offer_unseen-kept.new.list c.offer_unseen-kept.result.0 c.args.visited.now 0 ≡ start = λ i. record { found = c.offer_unseen-kept.ensures.list i; visited = [] } in
    record {
      walking = subst (λ (w : Walk). IsWalking points row c.args.query.now c.args.beam held start w 0) (sym same)
          (walking_none points row c.args.query.now c.args.beam held c.requires.graph c.args.starts.now c.requires.starts);
      found = c.offer_unseen-kept.ensures.bound;
      visited = omega arith;
      settled = c.offer_unseen-kept.ensures.settled;
      marks = visited_none (length points) c.args.seen c.args.marks.now c.offer_unseen-kept.new.marks c.requires.some c.requires.later c.offer_unseen-kept.ensures.marks;
      up_to = up_to_seen c.args.seen c.args.marks.now c.offer_unseen-kept.new.marks (up_to_first c.args.seen c.args.marks.now c.requires.later) c.offer_unseen-kept.ensures.marks;
      cursor = cursor_none c.offer_unseen-kept.new.list c.offer_unseen-kept.result.0;
    }

pub bounds-marks-p : goal.bounds-marks-p
bounds-marks-p g c =
    let below = p_below c.args.points.now.vectors (g.R.Rows.row_of c.args.graph.now) c.args.query.now c.args.beam (g.R.Rows.held c.args.graph.now) c.requires.graph _ c.loop-next.found c.loop-next.len c.loop-next.visited c.loop-next.count c.loop-next.next c.loop-next.invariant.walking c.loop-next.invariant.cursor (omega arith) c.loop-next-test.true in
    omega arith

pub row-row-requires : goal.row-row-requires
row-row-requires g c =
    p_held c.args.points.now.vectors (g.R.Rows.row_of c.args.graph.now) c.args.query.now c.args.beam (g.R.Rows.held c.args.graph.now) c.requires.graph _ c.loop-next.found c.loop-next.len c.loop-next.visited c.loop-next.count c.loop-next.next c.loop-next.invariant.walking c.loop-next.invariant.cursor (omega arith) c.loop-next-test.true

pub offer_unseen-kept-requires-in-loop-next-clause-ids : goal.offer_unseen-kept-requires-in-loop-next-clause-ids
offer_unseen-kept-requires-in-loop-next-clause-ids g c =
    subst (λ ids. All (λ v. v < length c.args.points.now.vectors) ids) (sym c.row-row.ensures)
    (row_below c.args.points.now.vectors (g.R.Rows.row_of c.args.graph.now) c.args.query.now c.args.beam (g.R.Rows.held c.args.graph.now) c.requires.graph _ c.loop-next.found c.loop-next.len c.loop-next.visited c.loop-next.count c.loop-next.next c.loop-next.invariant.walking c.loop-next.invariant.cursor (omega arith) c.loop-next-test.true)

pub offer_unseen-kept-requires-in-loop-next-clause-settled : goal.offer_unseen-kept-requires-in-loop-next-clause-settled
offer_unseen-kept-requires-in-loop-next-clause-settled g c =
    settled_p c.args.points.now.vectors (g.R.Rows.row_of c.args.graph.now) c.args.query.now c.args.beam (g.R.Rows.held c.args.graph.now) c.requires.graph _ c.loop-next.found c.loop-next.len c.loop-next.visited c.loop-next.count c.loop-next.next c.loop-next.invariant.walking c.loop-next.invariant.cursor (omega arith) c.loop-next-test.true
    c.args.seen c.loop-next.marks (omega arith) c.loop-next.invariant.found c.loop-next.invariant.settled

pub bounds-visited-count : goal.bounds-visited-count
bounds-visited-count g c =
    let below = count_room c.args.points.now.vectors (g.R.Rows.row_of c.args.graph.now) c.args.query.now c.args.beam (g.R.Rows.held c.args.graph.now) c.requires.graph _ c.loop-next.found c.loop-next.len c.loop-next.visited c.loop-next.count c.loop-next.next c.loop-next.invariant.walking c.loop-next.invariant.cursor (omega arith) c.loop-next-test.true in
    omega arith

pub first_left-next-requires-clause-ids : goal.first_left-next-requires-clause-ids
first_left-next-requires-clause-ids g c =
    ids_left c.args.points.now.vectors (g.R.Rows.row_of c.args.graph.now) c.args.query.now c.args.beam (g.R.Rows.held c.args.graph.now) c.requires.graph _ c.loop-next.found c.loop-next.len c.loop-next.visited c.loop-next.count c.loop-next.next c.loop-next.invariant.walking c.loop-next.invariant.cursor (omega arith) c.loop-next-test.true
    c.offer_unseen-kept-in-loop-next.new.list c.offer_unseen-kept-in-loop-next.result.0 c.row-row.result.now c.row-row.ensures c.offer_unseen-kept-in-loop-next.ensures.list (omega arith) (omega arith) c.offer_unseen-kept-in-loop-next.new.marks (omega (arith, length-set {A = ℕ}))

pub loop-next-smaller : goal.loop-next-smaller
loop-next-smaller g c =
    let below = count_room c.args.points.now.vectors (g.R.Rows.row_of c.args.graph.now) c.args.query.now c.args.beam (g.R.Rows.held c.args.graph.now) c.requires.graph _ c.loop-next.found c.loop-next.len c.loop-next.visited c.loop-next.count c.loop-next.next c.loop-next.invariant.walking c.loop-next.invariant.cursor (omega arith) c.loop-next-test.true in
    omega arith

pub loop-next-preserved : goal.loop-next-preserved
loop-next-preserved g c =
    let n = length c.args.points.now.vectors in
    let seen = c.args.seen in
    let visited = take c.loop-next.count c.loop-next.visited in
    let p = get_or c.loop-next.found c.loop-next.next (record { dist = 0; id = 0 }) in
    let found = c.offer_unseen-kept-in-loop-next.new.list in
    let len = c.offer_unseen-kept-in-loop-next.result.0 in
    let marked = set c.loop-next.marks p.id (seen + 1) in
    let marks = c.offer_unseen-kept-in-loop-next.new.marks in
    let only = c.offer_unseen-kept-in-loop-next.ensures.marks in
    let below = p_below c.args.points.now.vectors (g.R.Rows.row_of c.args.graph.now) c.args.query.now c.args.beam (g.R.Rows.held c.args.graph.now) c.requires.graph _ c.loop-next.found c.loop-next.len c.loop-next.visited c.loop-next.count c.loop-next.next c.loop-next.invariant.walking c.loop-next.invariant.cursor (omega arith) c.loop-next-test.true in
    let room = count_room c.args.points.now.vectors (g.R.Rows.row_of c.args.graph.now) c.args.query.now c.args.beam (g.R.Rows.held c.args.graph.now) c.requires.graph _ c.loop-next.found c.loop-next.len c.loop-next.visited c.loop-next.count c.loop-next.next c.loop-next.invariant.walking c.loop-next.invariant.cursor (omega arith) c.loop-next-test.true in
    let more = visited_p c.args.points.now.vectors (g.R.Rows.row_of c.args.graph.now) c.args.query.now c.args.beam (g.R.Rows.held c.args.graph.now) c.requires.graph _ c.loop-next.found c.loop-next.len c.loop-next.visited c.loop-next.count c.loop-next.next c.loop-next.invariant.walking c.loop-next.invariant.cursor (omega arith) c.loop-next-test.true (omega arith) in
    let visited_now = visited_seen n seen _ marked marks only (visited_marked n seen c.loop-next.marks p (omega arith) below visited c.loop-next.invariant.marks) in
    let ids = ids_next c.args.points.now.vectors (g.R.Rows.row_of c.args.graph.now) c.args.query.now c.args.beam (g.R.Rows.held c.args.graph.now) c.requires.graph _ c.loop-next.found c.loop-next.len c.loop-next.visited c.loop-next.count c.loop-next.next c.loop-next.invariant.walking c.loop-next.invariant.cursor (omega arith) c.loop-next-test.true
    c.offer_unseen-kept-in-loop-next.new.list c.offer_unseen-kept-in-loop-next.result.0 c.row-row.result.now c.row-row.ensures c.offer_unseen-kept-in-loop-next.ensures.list (omega arith) (omega arith) in
    let long : length (take len found) ≡ len = length-take-le len found (omega arith) in
    let range = c.first_left-next.ensures.range in
    record {
      walking = walking_next c.args.points.now.vectors (g.R.Rows.row_of c.args.graph.now) c.args.query.now c.args.beam (g.R.Rows.held c.args.graph.now) c.requires.graph _ c.loop-next.found c.loop-next.len c.loop-next.visited c.loop-next.count c.loop-next.next c.loop-next.invariant.walking c.loop-next.invariant.cursor (omega arith) c.loop-next-test.true
          c.offer_unseen-kept-in-loop-next.new.list c.offer_unseen-kept-in-loop-next.result.0 c.row-row.result.now c.row-row.ensures c.offer_unseen-kept-in-loop-next.ensures.list (omega arith) (omega arith);
      found = c.offer_unseen-kept-in-loop-next.ensures.bound;
      visited = omega arith;
      settled = c.offer_unseen-kept-in-loop-next.ensures.settled;
      marks = subst (λ xs. AreVisited n (seen + 1) xs marks) (sym more) visited_now;
      up_to = up_to_seen seen marked marks (up_to_marked n seen c.loop-next.marks p (omega arith) below c.loop-next.invariant.up_to) only;
      cursor = subst (λ xs. IsCursor found len xs c.first_left-next.result) (sym more)
          (cursor_more n (seen + 1) c.loop-next.found found c.loop-next.len len visited c.loop-next.next c.offer_unseen-kept-in-loop-next.result.1 c.min.result c.first_left-next.result marks
          c.loop-next.invariant.cursor c.loop-next-test.true c.offer_unseen-kept-in-loop-next.ensures.front c.min.ensures visited_now ids (omega arith) (omega arith)
          (omega (arith, range.1)) c.first_left-next.ensures.before (λ less. c.first_left-next.ensures.here (omega arith)));
    }

pub returns-clause-walk : goal.returns-clause-walk
returns-clause-walk g c =
    let none = next_none c.loop-next.found c.loop-next.len c.loop-next.visited c.loop-next.count c.loop-next.next c.loop-next.invariant.cursor (omega arith) (omega arith) in
    walking_all c.args.points.now.vectors (g.R.Rows.row_of c.args.graph.now) c.args.query.now c.args.beam (g.R.Rows.held c.args.graph.now) c.requires.graph c.loop-next.invariant.walking none
