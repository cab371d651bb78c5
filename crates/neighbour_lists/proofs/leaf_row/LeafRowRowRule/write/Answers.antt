use Rattle.std.proofs.Common.{◌++◌, ◌∙◌, take}
use Rattle.neighbour_lists.specs.ListRound.{nearest_of}
use Rattle.neighbour_lists.proofs.Offers.{offered_on, finished}
use Rattle.neighbour_lists.proofs.leaf_row.LeafRowRowRule.write.Goals as goal

pub offer-requires-clause-offered : goal.offer-requires-clause-offered
offer-requires-clause-offered c = c.begin.ensures.offered c.args.self.now.points.now.vectors c.args.v

pub returns-clause-row : goal.returns-clause-row
returns-clause-row c =
    let points = c.args.self.now.points.now.vectors in
    let width = c.args.self.now.rows.now.width in
    let v = c.args.v in
    let both = offered_on points v c.at.result.now c.leaf_of.result.now c.begin.new.self c.offer.new.self c.offer-2.new.self c.offer.ensures c.offer-2.ensures in
    finished points v width (c.at.result.now ++ c.leaf_of.result.now) c.begin.new.self c.offer-2.new.self (take c.write.result c.write.new.out) c.begin.ensures.none (c.begin.ensures.most ∙ c.requires.scratch.room) both c.write.ensures.row
    ∙ (λ i. nearest_of points width v (c.at.ensures.row i ++ c.leaf_of.ensures.leaf i))
