use Rattle.std.proofs.Common.{◌∙◌, ◌≤◌, ◌-◌, sym, ap, subst, arith, length, take, drop, List}
use Rattle.std.specs.Prelude.{◌==◌}
use Rattle.std.specs.List.{filter}
use Rattle.neighbour_lists.specs.declared.edge.Edge.{Edge}
use Rattle.neighbour_lists.proofs.EdgeOrder.{none_behind, starts_rise, starts_of_target, between_starts}
use Rattle.neighbour_lists.proofs.edges.Edges.to.Goals as goal

pub returns-then-at-len : goal.returns-then-at-len
returns-then-at-len c =
    let v = c.self.inside in
    sym (ap (filter (λ (e : Edge). e.target == c.args.target)) (sym c.self.view_is) ∙ none_behind v.edges.items v.starts.items c.args.target c.self.invariant (omega arith))

pub between-requires-clause-from : goal.between-requires-clause-from
between-requires-clause-from c =
    let v = c.self.inside in
    let t = c.args.target in
    let none : Edge = record { target = 0; source = record { dist = 0; id = 0 } } in
    let starts = starts_of_target v.edges.items v.starts.items t c.index.result.now c.index-2.result.now c.self.invariant (omega arith) c.index.ensures c.index-2.ensures in
    starts_rise v.edges.items t c.index.result.now c.index-2.result.now starts.0 starts.1 none

pub between-requires-clause-end : goal.between-requires-clause-end
between-requires-clause-end c =
    let v = c.self.inside in
    let t = c.args.target in
    let starts = starts_of_target v.edges.items v.starts.items t c.index.result.now c.index-2.result.now c.self.invariant (omega arith) c.index.ensures c.index-2.ensures in
    subst (λ (es : List Edge). c.index-2.result.now ≤ length es) (sym c.as_slice.ensures.value) starts.1.bound

pub returns : goal.returns
returns c =
    let v = c.self.inside in
    let t = c.args.target in
    let none : Edge = record { target = 0; source = record { dist = 0; id = 0 } } in
    let starts = starts_of_target v.edges.items v.starts.items t c.index.result.now c.index-2.result.now c.self.invariant (omega arith) c.index.ensures c.index-2.ensures in
    c.between.ensures
    ∙ ap (λ (es : List Edge). take (c.index-2.result.now - c.index.result.now) (drop c.index.result.now es)) c.as_slice.ensures.value
    ∙ between_starts v.edges.items t c.index.result.now c.index-2.result.now starts.0 starts.1 none
    ∙ ap (filter (λ (e : Edge). e.target == t)) c.self.view_is
