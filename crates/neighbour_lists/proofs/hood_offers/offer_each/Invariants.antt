use Rattle.std.proofs.Common.{take}
use Rattle.std.specs.List.{flat_map}
use Rattle.neighbour_lists.specs.Fresh.{parts}
use Rattle.neighbour_lists.specs.Offering.{HasOffered}
use Rattle.neighbour_lists.proofs.hood_offers.offer_each.Given as goal

abbrev pub invariant-loop-u : goal.invariant-loop-u
invariant-loop-u l = HasOffered l.points.vectors l.v (flat_map (parts l.rows.rows l.others.rows) (take l.u-index l.ids)) l.fn.scratch l.scratch
