use Rattle.std.proofs.Common.{◌≡◌, ◌∙◌, ◌<◌, ℕ, List, length, sym, ap, subst}
use Rattle.std.specs.List.{All, range_with_len, sum_by}
use Rattle.neighbour_lists.specs.declared.edge.Edge.{Edge}
use Rattle.neighbour_lists.specs.Changes.{entered_between}
use Rattle.neighbour_lists.specs.Edges.{edges_of}
use Rattle.neighbour_lists.specs.ListRound.{next_rows, changed}
use Rattle.neighbour_lists.specs.Settled.{IsStill}
use Rattle.neighbour_lists.proofs.Belonging.{next_lists, round_belong}
use Rattle.neighbour_lists.proofs.Counting.{entered_changed}
use Rattle.neighbour_lists.proofs.EdgeFacts.{sources_inside}
use Rattle.neighbour_lists.proofs.lists.Lists.round.Goals as goal

pub enter-requires-clause-count : goal.enter-requires-clause-count
enter-requires-clause-count g c =
    let belong = c.next_state.ensures.belong in
    ap (λ (rows : List (List ℕ)). length rows) c.in-Ok.ensures.rows ∙ (next_lists c.args.points.now.vectors c.next_state.new.self belong).good.count ∙ sym belong.flags

pub enter-requires-clause-sources : goal.enter-requires-clause-sources
enter-requires-clause-sources g c =
    let points = c.args.points.now.vectors in
    let l = c.next_state.new.self in
    let belong = c.next_state.ensures.belong in
    let many : length l.rows ≡ length l.active = belong.rows.count ∙ sym belong.flags in
    subst (λ n. All (λ (e : Edge). e.source.id < n) l.edges) many
    (subst (All (λ (e : Edge). e.source.id < length l.rows)) (sym c.in-Ok.ensures.sorted) (sources_inside points l.rows))

pub returns-in-Ok-clause-rows : goal.returns-in-Ok-clause-rows
returns-in-Ok-clause-rows g c =
    let points = c.args.points.now.vectors in
    c.enter.ensures.rows
    ∙ c.in-Ok.ensures.rows
    ∙ (λ i. next_rows points (c.next_state.ensures.list i) (c.next_state.ensures.kept i))

pub returns-in-Ok-clause-changed : goal.returns-in-Ok-clause-changed
returns-in-Ok-clause-changed g c =
    let points = c.args.points.now.vectors in
    let l = c.next_state.new.self in
    c.enter.ensures.changes
    ∙ ap (λ (rows : List (List ℕ)). sum_by (entered_between l.rows rows) (range_with_len 0 (length rows))) c.in-Ok.ensures.rows
    ∙ entered_changed points l.list l.rows
    ∙ (λ i. changed points (c.next_state.ensures.list i) (c.next_state.ensures.kept i))

pub returns-in-Ok-clause-belong : goal.returns-in-Ok-clause-belong
returns-in-Ok-clause-belong g c =
    let points = c.args.points.now.vectors in
    let l = c.next_state.new.self in
    let k = c.enter.new.self in
    let next = c.in-Ok.next in
    let belong = c.next_state.ensures.belong in
    let rows = c.enter.ensures.rows ∙ c.in-Ok.ensures.rows in
    let edges : k.edges ≡ edges_of points k.rows = c.enter.ensures.edges ∙ c.in-Ok.ensures.edges ∙ ap (edges_of points) (sym rows) in
    round_belong points l k belong c.in-Ok.ensures.sorted c.enter.ensures.list rows edges (c.enter.ensures.flags ∙ belong.flags)
    (λ v below h.
    let still = c.enter.ensures.still v (subst (λ n. v < n) (sym belong.flags) below) h in
    subst (λ (es : List Edge). IsStill l.list l.rows l.edges k.rows es v) (sym c.enter.ensures.edges)
    (subst (λ (rows : List (List ℕ)). IsStill l.list l.rows l.edges rows next.edges v) (sym c.enter.ensures.rows) still))
    c.enter.ensures.seen.0
    (c.enter.ensures.seen.1 ∙ c.in-Ok.ensures.others)
