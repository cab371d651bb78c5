-- An index with a stamp that its kind may have is well formed, and as large as it was.
use Rattle.std.proofs.Common.{Option}
use Rattle.graph_rows.specs.declared.stamp.Stamp.{Stamp}
use Rattle.graph_rows.specs.Index.{Contents}
use Rattle.graph_rows.specs.Stamps.{IsStamped, stamped}
use Rattle.graph_rows.specs.WellFormed.{IsWellFormed, IsWithinLimits}

pub stamped_formed : (i : Contents) (stamp : Option Stamp) → IsWellFormed i → IsStamped i.kind stamp → IsWellFormed (stamped stamp i)
stamped_formed i stamp formed is = record {
  kind = formed.kind;
  count = formed.count;
  dim = formed.dim;
  degree = formed.degree;
  start = formed.start;
  layers = formed.layers;
  base = formed.base;
  rows = formed.rows;
  upper = formed.upper;
  stamp = is;
}

pub stamped_limits : (i : Contents) (stamp : Option Stamp) → IsWithinLimits i → IsWithinLimits (stamped stamp i)
stamped_limits i stamp limits = record { count = limits.count; dim = limits.dim; degree = limits.degree; words = limits.words }
