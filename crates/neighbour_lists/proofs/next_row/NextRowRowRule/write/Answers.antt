use Rattle.std.proofs.Common.{◌∙◌, take}
use Rattle.neighbour_lists.specs.Fresh.{offered}
use Rattle.neighbour_lists.proofs.Freshness.{offered_next}
use Rattle.neighbour_lists.proofs.Offers.{finished}
use Rattle.neighbour_lists.proofs.next_row.NextRowRowRule.write.Goals as goal

pub offer_reached-requires-clause-offered : goal.offer_reached-requires-clause-offered
offer_reached-requires-clause-offered c = c.begin.ensures.offered c.args.self.now.points.now.vectors c.args.v

pub returns-clause-row : goal.returns-clause-row
returns-clause-row c =
    let r = c.args.self.now in
    let points = r.points.now.vectors in
    let width = r.rows.now.width in
    let rows = r.rows.now.rows in
    let others = r.news.now.others.rows in
    let fresh = r.news.now.fresh.rows.rows in
    let fresh_others = r.news.now.fresh.others.rows in
    let stale = r.news.now.stale.rows.rows in
    let stale_others = r.news.now.stale.others.rows in
    finished points c.args.v width (offered rows others fresh fresh_others stale stale_others c.args.v) c.begin.new.self c.offer_reached.new.scratch (take c.write.result c.write.new.out) c.begin.ensures.none (c.begin.ensures.most ∙ c.requires.scratch.room) c.offer_reached.ensures c.write.ensures.row
    ∙ offered_next points width rows others r.seen.now.rows.rows r.seen.now.others.rows fresh fresh_others stale stale_others r.good r.reversed r.new r.old r.past c.args.v c.requires.v
