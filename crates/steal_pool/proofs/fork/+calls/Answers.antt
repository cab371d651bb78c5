use Rattle.std.specs.Fork.{AcceptsAt, ChangesAt}
use Rattle.steal_pool.proofs.Forking.{accepts_others, changes_both, changes_only}
use Rattle.steal_pool.proofs.fork.+calls.Goals as goal

pub for_each_from-returns-then-s-eq1 : goal.for_each_from-returns-then-s-eq1
for_each_from-returns-then-s-eq1 g t c = changes_only (ChangesAt g.F.Fn c.args.f.now) c.args.base c.args.s.now c.index-s-0.result c.at_one.new.element c.if-s-eq1.true c.at_one.ensures

pub for_each_from-call_beside-requires-clause-others :
    goal.for_each_from-call_beside-requires-clause-others
for_each_from-call_beside-requires-clause-others g t c κs within =
    let cut = c.split_at_mut-one in
    accepts_others (AcceptsAt g.F.Fn c.args.f.now) c.args.base c.args.s.now cut.result.0.now cut.result.1.now cut.ensures.value cut.ensures.front_len c.requires.accepts

pub for_each_from-returns : goal.for_each_from-returns
for_each_from-returns g t c =
    let cut = c.split_at_mut-one in
    changes_both (ChangesAt g.F.Fn c.args.f.now) c.args.base c.args.s.now cut.result.0.now cut.result.1.now c.call_beside.new.one c.call_beside.new.rest
    cut.ensures.value cut.ensures.front_len c.call_beside.ensures.first c.call_beside.ensures.others
