use Rattle.std.proofs.Common.{◌≡◌, ◌<◌, ◌≤◌, ◌+◌, ◌-◌, sym, subst, min, take, length, arith}
use Rattle.std.specs.List.{All}
use Rattle.ann_defs.specs.Nearness.{all_near}
use Rattle.near_lists.proofs.Putting.{rises_now}
use Rattle.near_lists.proofs.Marking.{seen_twice, unseen_only}
use Rattle.near_lists.proofs.Settling.{todo_inside, part_settled, part_offered, front_left}
use Rattle.near_lists.proofs.unseen.offer_unseen.Goals as goal

pub touch-requires-clause-ids : goal.touch-requires-clause-ids
touch-requires-clause-ids c =
    let part : c.loop-at.at + c.min.result - c.loop-at.at ≡ c.min.result = omega arith in
    todo_inside c.args.points.now.vectors c.args.query.now c.args.limit c.args.seen (take c.args.len c.args.list.now) (take c.loop-at.count c.loop-at.list) c.args.ids.now c.loop-at.marks (take c.collect-new.result c.collect-new.new.todo) c.collect-new.new.marks c.loop-at.at c.min.result (c.loop-at.at + c.min.result - c.loop-at.at) c.requires.ids part c.collect-new.ensures.unseen

pub offer_all-kept-requires-clause-ids : goal.offer_all-kept-requires-clause-ids
offer_all-kept-requires-clause-ids c =
    let part : c.loop-at.at + c.min.result - c.loop-at.at ≡ c.min.result = omega arith in
    subst (All (λ u. u < length c.args.points.now.vectors)) (sym c.touch.ensures.ids) (todo_inside c.args.points.now.vectors c.args.query.now c.args.limit c.args.seen (take c.args.len c.args.list.now) (take c.loop-at.count c.loop-at.list) c.args.ids.now c.loop-at.marks (take c.collect-new.result c.collect-new.new.todo) c.collect-new.new.marks c.loop-at.at c.min.result (c.loop-at.at + c.min.result - c.loop-at.at) c.requires.ids part c.collect-new.ensures.unseen)

pub offer_all-kept-requires-clause-rises : goal.offer_all-kept-requires-clause-rises
offer_all-kept-requires-clause-rises c = rises_now c.args.limit _ (all_near c.args.points.now.vectors c.args.query.now (take c.loop-at.at c.args.ids.now)) _ c.requires.rises c.loop-at.invariant.offered

pub loop-at-preserved : goal.loop-at-preserved
loop-at-preserved c =
    let part : c.loop-at.at + c.min.result - c.loop-at.at ≡ c.min.result = omega arith in
    let rises = rises_now c.args.limit _ (all_near c.args.points.now.vectors c.args.query.now (take c.loop-at.at c.args.ids.now)) _ c.requires.rises c.loop-at.invariant.offered in
    let next = take c.offer_all-kept.result.0 c.offer_all-kept.new.list in
    let last : c.min-first.result ≡ min c.loop-at.first c.offer_all-kept.result.1 = c.min-first.ensures in
    record {
      offered = part_offered c.args.points.now.vectors c.args.query.now c.args.limit c.args.seen (take c.args.len c.args.list.now) (take c.loop-at.count c.loop-at.list) c.args.ids.now c.loop-at.marks (take c.collect-new.result c.collect-new.new.todo) c.collect-new.new.marks c.loop-at.at c.min.result (c.loop-at.at + c.min.result - c.loop-at.at) c.requires.ids part c.collect-new.ensures.unseen
          rises c.loop-at.invariant.settled (take c.collect-new.result c.touch.new.ids) c.touch.ensures.ids next c.offer_all-kept.ensures.list c.loop-at.invariant.offered;
      bound = c.offer_all-kept.ensures.bound;
      grows = omega (arith, c.loop-at.invariant.grows, c.offer_all-kept.ensures.grows);
      front = subst (λ m. take m c.offer_all-kept.new.list ≡ take m c.args.list.now) (sym last)
          (front_left c.loop-at.first c.offer_all-kept.result.1 c.args.list.now c.loop-at.list c.offer_all-kept.new.list c.loop-at.invariant.front c.offer_all-kept.ensures.front);
      first = let first : c.loop-at.first ≤ c.args.len = c.loop-at.invariant.first in omega arith;
      settled = part_settled c.args.points.now.vectors c.args.query.now c.args.limit c.args.seen (take c.args.len c.args.list.now) (take c.loop-at.count c.loop-at.list) c.args.ids.now c.loop-at.marks (take c.collect-new.result c.collect-new.new.todo) c.collect-new.new.marks c.loop-at.at c.min.result (c.loop-at.at + c.min.result - c.loop-at.at) c.requires.ids part c.collect-new.ensures.unseen
          rises c.loop-at.invariant.settled (take c.collect-new.result c.touch.new.ids) c.touch.ensures.ids next c.offer_all-kept.ensures.list;
      marks = seen_twice c.args.seen c.args.marks.now c.loop-at.marks c.collect-new.new.marks c.loop-at.invariant.marks (unseen_only c.args.seen _ c.loop-at.marks _ c.collect-new.new.marks c.collect-new.ensures.unseen);
      inside = omega arith;
    }
