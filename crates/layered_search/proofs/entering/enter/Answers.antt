use Rattle.std.proofs.Common.{◌<◌, ◌∷◌, [], length, sym, ◌∙◌, arith}
use Rattle.layered_search.specs.Entering.{upper_row}
use Rattle.layered_search.proofs.Walking.{entries_done}
use Rattle.layered_search.proofs.Stepping.{graph_here, below_here, held_here, walked_here}
use Rattle.layered_search.proofs.entering.enter.Goals as goal

pub nearest-entry-requires-clause-graph : goal.nearest-entry-requires-clause-graph
nearest-entry-requires-clause-graph c =
    graph_here c.args.upper.now c.loop-layer.layer c.index-upper-layer.result (omega arith) c.loop-layer.invariant.within c.index-upper-layer.is (length c.args.points.now.vectors) c.args.start c.requires.layers

pub loop-layer-preserved : goal.loop-layer-preserved
loop-layer-preserved c =
    let layers = c.args.upper.now in
    let layer = c.loop-layer.layer in
    let here = c.index-upper-layer.result in
    let n = length c.args.points.now.vectors in
    let some : 0 < layer = omega arith in
    let above : c.args.to < layer = omega arith in
    record {
      above = omega arith;
      within = omega arith;
      walked =
          walked_here layers layer here some c.loop-layer.invariant.within c.index-upper-layer.is c.args.points.now.vectors c.args.query.now c.loop-layer.entry c.nearest-entry.result c.args.to above c.nearest-entry.ensures.found
          ∙ c.loop-layer.invariant.walked;
      below = below_here layers layer here some c.loop-layer.invariant.within c.index-upper-layer.is n c.args.start c.requires.layers c.nearest-entry.result c.nearest-entry.ensures.held;
      held = held_here layers layer here some c.loop-layer.invariant.within c.index-upper-layer.is n c.args.start c.requires.layers c.nearest-entry.result c.nearest-entry.ensures.held;
      count = c.nearest-entry.ensures.count ∙ c.loop-layer.invariant.count;
      beam = c.nearest-entry.ensures.beam ∙ c.loop-layer.invariant.beam;
    }

pub returns-clause-entry : goal.returns-clause-entry
returns-clause-entry c =
    sym (entries_done c.args.points.now.vectors (upper_row c.args.upper.now) c.args.query.now 1 (c.loop-layer.entry ∷ []) c.loop-layer.layer c.args.to (omega arith)) ∙ c.loop-layer.invariant.walked
