use Rattle.std.proofs.Common.{◌∙◌}
use Rattle.ann_defs.specs.declared.kinds.Kind.TheVariants.{Vamana, Hnsw, Nnd}
use Rattle.index_build.proofs.StampFacts.{stamp_is}
use Rattle.index_build.proofs.stamp.stamp_of.Goals as goal

pub returns-in-Vamana : goal.returns-in-Vamana
returns-in-Vamana c = c.vamana_stamp.ensures ∙ stamp_is c.args.points.now c.args.settings.now Vamana c.in-Vamana.is

pub returns-in-Hnsw : goal.returns-in-Hnsw
returns-in-Hnsw c = c.hnsw_stamp.ensures ∙ stamp_is c.args.points.now c.args.settings.now Hnsw c.in-Hnsw.is

pub returns-in-Nnd : goal.returns-in-Nnd
returns-in-Nnd c = c.nnd_stamp.ensures ∙ stamp_is c.args.points.now c.args.settings.now Nnd c.in-Nnd.is
