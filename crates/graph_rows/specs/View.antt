-- An index without where it lies in memory.
use Rattle.std.specs.Prelude.{ℕ, ◌∷◌, map}
use Rattle.std.specs.List.{enumerate_from}
use Rattle.ann_defs.specs.declared.kinds.Kind.{Kind}
use Rattle.ann_defs.specs.declared.kinds.Kind.TheVariants.{Vamana, Hnsw, Nnd}
use Rattle.graph_rows.specs.Index.{Contents}
use Rattle.graph_rows.specs.Layers.{Layered}
use Rattle.graph_rows.specs.declared.index.Index.{Index}

-- a kind's code in a file
abbrev pub kind_code : Kind → ℕ
kind_code Vamana = 1
kind_code Hnsw = 2
kind_code Nnd = 3

abbrev pub contents : Index → Contents
contents i = record {
  kind = kind_code i.kind;
  count = i.count;
  dim = i.dim;
  degree = i.degree;
  start = i.start;
  layers = enumerate_from 0 i.base.rows ∷ map (λ (l : Layered). l.entries) i.upper.items;
  stamp = i.stamp;
}
