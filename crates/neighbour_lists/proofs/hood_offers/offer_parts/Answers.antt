use Rattle.neighbour_lists.proofs.Offers.{offered_on, offered_same}
use Rattle.neighbour_lists.proofs.hood_offers.offer_parts.Goals as goal

pub returns : goal.returns
returns c =
    let points = c.args.points.now.vectors in
    let both = offered_on points c.args.v c.parts_of.result.0.now c.parts_of.result.1.now c.args.scratch.now c.offer.new.self c.offer-2.new.self c.offer.ensures c.offer-2.ensures in
    offered_same points c.args.v _ _ c.args.scratch.now c.offer-2.new.self c.parts_of.ensures.parts both
