-- Points, an index and queries that don't fit together.
use Rattle.std.specs.Prelude.{ℕ, not, ◌==◌, if◌then◌else◌, List, length, take, drop, Option, Some, None, Result, Ok, Err}
use Rattle.std.specs.Option.{option_or}
use Rattle.ann_defs.specs.Distance.{PointSet, dim_of}
use Rattle.ann_defs.specs.declared.kinds.Element.{Element as ElementOf}
use Rattle.graph_files.specs.declared.fault.IndexFault.{IndexFault}
use Rattle.graph_files.specs.Grammar.{index_in}
use Rattle.graph_rows.specs.Index.{Contents}
use Rattle.command_options.specs.declared.role.Role.TheVariants.{Index, Queries}
use Rattle.annbuild_lines.specs.declared.fault.Fault.{Fault}
use Rattle.annbuild_lines.specs.declared.fault.Fault.TheVariants.{Unfit}
use Rattle.annbuild_lines.specs.declared.fault.What.{What}
use Rattle.annbuild_lines.specs.declared.fault.What.TheVariants.{Count, Dim, Element, Digest}
use Rattle.command_options.specs.declared.role.Role.{Role}
use Rattle.graph_rows.specs.declared.stamp.Stamp.{Stamp}
use Rattle.bin_files.specs.Points.{text}
use Rattle.index_build.specs.Stamping.{element_code}
use Rattle.sha2.specs.Sha256.{sha256}
use Rattle.std.specs.Int.{w64, from_be_bytes}
use Rattle.command_shapes.specs.Reading.{points_in}

-- a number of a file that differs from the points'
abbrev pub differs : Role → What → (found wanted : ℕ) → Option Fault
differs file what found wanted = if not (found == wanted) then Some (Unfit file what found wanted) else None

-- eight bytes of a digest as one number, the first byte foremost
abbrev pub group_at : (digest : List ℕ) → (at : ℕ) → ℕ
group_at digest at = from_be_bytes w64 (take 8 (drop at digest))

-- the first of the four such groups of a digest that differs
abbrev pub digest_unfit : (found wanted : List ℕ) → Option Fault
digest_unfit found wanted =
    option_or (differs Index Digest (group_at found 0) (group_at wanted 0))
    (option_or (differs Index Digest (group_at found 8) (group_at wanted 8))
    (option_or (differs Index Digest (group_at found 16) (group_at wanted 16)) (differs Index Digest (group_at found 24) (group_at wanted 24))))

-- what differs of a stamp, if there is one: its element, its digest
abbrev pub stamp_unfit : PointSet → Option Stamp → Option Fault
stamp_unfit X None = None
stamp_unfit X (Some s) = option_or (differs Index Element s.element (element_code X.element)) (digest_unfit s.digest (sha256 (text X)))

-- what differs first of an index: its count, its dimension, its stamp
abbrev pub index_unfit : PointSet → Contents → Option Fault
index_unfit X i = option_or (differs Index Count i.count (length X.vectors)) (option_or (differs Index Dim i.dim (dim_of X.vectors)) (stamp_unfit X i.stamp))

-- the queries' dimension, if it differs from the points'
abbrev pub queries_unfit : List (List ℕ) → List (List ℕ) → Option Fault
queries_unfit points queries = differs Queries Dim (dim_of queries) (dim_of points)

-- the first numbers that differ: the index's, then the queries'
abbrev pub unfit_in : PointSet → Contents → (queries : List (List ℕ)) → Option Fault
unfit_in X i queries = option_or (index_unfit X i) (queries_unfit X.vectors queries)

-- the same of files, where the one of the index holds an index; those of points are read as of this element type
abbrev pub index_unfit_with : PointSet → Result Contents IndexFault → Option Fault
index_unfit_with X (Ok i) = index_unfit X i
index_unfit_with X (Err fault) = None

unfoldable pub index_unfit_files : ElementOf → (base index : List ℕ) → Option Fault
index_unfit_files element base index = index_unfit_with (points_in element base) (index_in index)

abbrev pub unfit_with : PointSet → Result Contents IndexFault → (queries : List (List ℕ)) → Option Fault
unfit_with X (Ok i) queries = unfit_in X i queries
unfit_with X (Err fault) queries = None

unfoldable pub unfit_files : ElementOf → (base index queries : List ℕ) → Option Fault
unfit_files element base index queries = unfit_with (points_in element base) (index_in index) (points_in element queries).vectors
