-- What the program writes of an index: its file, and the line of a build.
use Rattle.std.specs.Prelude.{ℕ, ◌==◌, if◌then◌else◌, List, length}
use Rattle.ann_defs.specs.declared.kinds.Kind.{Kind}
use Rattle.ann_defs.specs.declared.kinds.Kind.TheVariants.{Vamana, Hnsw, Nnd}
use Rattle.graph_rows.specs.Index.{Contents, edges_of, text_of}
use Rattle.annbuild_lines.specs.declared.index_lines.BuiltLine.{BuiltLine}
use Rattle.annbuild_lines.specs.Lines.{built_text}

-- the kind with this code
abbrev pub kind_at : ℕ → Kind
kind_at code = if code == 1 then Vamana else if code == 2 then Hnsw else Nnd

-- what the line of a build tells of an index
abbrev pub told_of : Contents → BuiltLine
told_of i = record { kind = kind_at i.kind; count = i.count; dim = i.dim; degree = i.degree; start = i.start; layers = length i.layers; edges = edges_of i }

-- the bytes of the index file
unfoldable pub file_of : Contents → List ℕ
file_of i = text_of i

-- the line of a build
unfoldable pub line_of : Contents → List ℕ
line_of i = built_text (told_of i)
