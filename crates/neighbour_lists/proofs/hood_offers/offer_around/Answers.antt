use Rattle.std.proofs.Common.{◌∙◌, ap, sym}
use Rattle.std.specs.List.{flat_map}
use Rattle.std.proofs.lemmas.Grind.{flat_map-append}
use Rattle.neighbour_lists.specs.Fresh.{parts}
use Rattle.neighbour_lists.proofs.Offers.{offered_on, offered_same}
use Rattle.neighbour_lists.proofs.hood_offers.offer_around.Goals as goal

pub returns : goal.returns
returns c =
    let points = c.args.points.now.vectors in
    let new = parts c.args.rows.now.rows c.args.others.now.rows in
    let row = c.parts_of.result.0.now in
    let back = c.parts_of.result.1.now in
    let both = offered_on points c.args.v (flat_map new row) (flat_map new back) c.args.scratch.now c.offer_each.new.scratch c.offer_each-2.new.scratch c.offer_each.ensures c.offer_each-2.ensures in
    offered_same points c.args.v _ _ c.args.scratch.now c.offer_each-2.new.scratch (sym (flat_map-append new row back) ∙ ap (flat_map new) c.parts_of.ensures.parts) both
