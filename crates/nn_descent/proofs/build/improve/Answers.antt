use Rattle.std.proofs.Common.{◌∙◌, ◌-◌, ◌+◌, ◌<◌, ◌≤◌, ℕ, sym, subst}
use Rattle.nn_descent.specs.NndIndex.{improved}
use Rattle.nn_descent.proofs.Improving.{improved_stop, improved_on}
use Rattle.nn_descent.proofs.build.improve.Goals as goal

pub returns-then-changed-floor-clause-rows : goal.returns-then-changed-floor-clause-rows
returns-then-changed-floor-clause-rows g c =
    let points = c.args.points.now.vectors in
    let l = c.loop-round.lists in
    let few = subst (λ (k : ℕ). k ≤ c.args.floor) c.in_ok-changed.ensures.changed c.if-changed-floor.true in
    c.in_ok-changed.ensures.rows
    ∙ sym (improved_stop points l.list c.args.floor c.args.rounds c.loop-round._round l.rows c.loop-round-test.true few)
    ∙ c.loop-round.invariant.so_far

pub loop-round-preserved : goal.loop-round-preserved
loop-round-preserved g c =
    let points = c.args.points.now.vectors in
    let l = c.loop-round.lists in
    let r = c.loop-round._round in
    let list = c.in_ok-changed.ensures.list in
    let rows = c.in_ok-changed.ensures.rows in
    let many = subst (λ (k : ℕ). c.args.floor < k) c.in_ok-changed.ensures.changed c.if-changed-floor.false in
    record {
      so_far = (λ i. improved points (list i) c.args.floor (c.args.rounds - (r + 1)) (rows i)) ∙ sym (improved_on points l.list c.args.floor c.args.rounds r l.rows c.loop-round-test.true many) ∙ c.loop-round.invariant.so_far;
      list = list ∙ c.loop-round.invariant.list;
      belong = c.in_ok-changed.ensures.belong;
      workers = c.in_ok-changed.ensures.workers ∙ c.loop-round.invariant.workers;
    }
