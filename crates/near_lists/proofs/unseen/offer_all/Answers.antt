use Rattle.std.proofs.Common.{◌≡◌, ◌≤◌, ◌∙◌, ap, subst, sym, min, take, arith}
use Rattle.ann_defs.specs.Ordered.{put}
use Rattle.ann_defs.specs.Nearness.{near_cmp, near_of, all_near}
use Rattle.near_lists.proofs.Putting.{offered_more, rises_now}
use Rattle.near_lists.proofs.Settling.{front_left}
use Rattle.near_lists.proofs.unseen.offer_all.Goals as goal

pub offer-kept-requires-clause-rises : goal.offer-kept-requires-clause-rises
offer-kept-requires-clause-rises c = rises_now c.args.limit _ (all_near c.args.points.now.vectors c.args.query.now (take c.loop-id.id-index c.args.ids.now)) _ c.requires.rises c.loop-id.invariant.offered

pub loop-id-preserved : goal.loop-id-preserved
loop-id-preserved c =
    let last : c.min-first.result ≡ min c.loop-id.first c.offer-kept.result.1 = c.min-first.ensures in
    record {
      offered = offered_more (near_of c.args.points.now.vectors c.args.query.now) c.args.ids.now c.loop-id.id-index c.args.limit 0 _ _ _ (omega arith)
          c.loop-id.invariant.offered
          (c.offer-kept.ensures.list ∙ ap (λ x. take c.args.limit (put near_cmp (take c.loop-id.count c.loop-id.list) x)) c.near_to.ensures);
      bound = c.offer-kept.ensures.bound;
      grows = omega (arith, c.loop-id.invariant.grows, c.offer-kept.ensures.grows);
      front = subst (λ n. take n c.offer-kept.new.list ≡ take n c.args.list.now) (sym last)
          (front_left c.loop-id.first c.offer-kept.result.1 c.args.list.now c.loop-id.list c.offer-kept.new.list c.loop-id.invariant.front c.offer-kept.ensures.front);
      first = let first : c.loop-id.first ≤ c.args.len = c.loop-id.invariant.first in omega arith;
    }
