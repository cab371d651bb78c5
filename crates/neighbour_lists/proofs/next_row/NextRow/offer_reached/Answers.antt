use Rattle.std.proofs.Common.{◌++◌}
use Rattle.std.specs.List.{flat_map}
use Rattle.neighbour_lists.specs.Fresh.{parts}
use Rattle.neighbour_lists.proofs.Offers.{offered_on, offered_same}
use Rattle.neighbour_lists.proofs.RoundRows.{all_hoods, fresh_hoods, stale_hoods}
use Rattle.neighbour_lists.proofs.next_row.NextRow.offer_reached.Goals as goal

pub offer_around-requires-clause-around : goal.offer_around-requires-clause-around
offer_around-requires-clause-around c = stale_hoods c.args.self.now

pub offer_around-requires-clause-hoods : goal.offer_around-requires-clause-hoods
offer_around-requires-clause-hoods c = fresh_hoods c.args.self.now

pub offer_around-requires-2-clause-around : goal.offer_around-requires-2-clause-around
offer_around-requires-2-clause-around c = fresh_hoods c.args.self.now

pub offer_around-requires-2-clause-hoods : goal.offer_around-requires-2-clause-hoods
offer_around-requires-2-clause-hoods c = all_hoods c.args.self.now

pub returns : goal.returns
returns c =
    let r = c.args.self.now in
    let points = r.points.now.vectors in
    let v = c.args.v in
    let some = parts r.news.now.fresh.rows.rows r.news.now.fresh.others.rows in
    let news = flat_map some (parts r.news.now.stale.rows.rows r.news.now.stale.others.rows v) in
    let whole = flat_map (parts r.rows.now.rows r.news.now.others.rows) (some v) in
    let begun = c.args.scratch.now in
    let old = offered_on points v c.at.result.now news begun c.offer.new.self c.offer_around.new.scratch c.offer.ensures c.offer_around.ensures in
    let all = offered_on points v (c.at.result.now ++ news) whole begun c.offer_around.new.scratch c.offer_around-2.new.scratch old c.offer_around-2.ensures in
    offered_same points v _ _ begun c.offer_around-2.new.scratch (λ i. (c.at.ensures.row i ++ news) ++ whole) all
