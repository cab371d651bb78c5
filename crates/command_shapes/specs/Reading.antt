-- Reading the files of a request.
use Rattle.std.specs.Prelude.{◌≡◌, ℕ, List, Option, Some, None, Ok}
use Rattle.ann_shelf.specs.Files.{bytes_of}
use Rattle.ann_defs.specs.Distance.{PointSet}
use Rattle.ann_defs.specs.declared.kinds.Element.{Element}
use Rattle.bin_files.specs.Points.{points_of, text}
use Rattle.bin_files.specs.Rows.{ArePoints}
use Rattle.graph_rows.specs.Index.{Contents}
use Rattle.graph_files.specs.Grammar.{index_in}
use Rattle.annbuild_lines.specs.declared.fault.Fault.{Fault}
use Rattle.annbuild_lines.specs.declared.fault.Fault.TheVariants.{Read, Malformed, NoMemory, TooLarge}
use Rattle.command_options.specs.declared.role.Role.{Role}
use Rattle.command_shapes.specs.Doing.{Reads}
use Rattle.command_shapes.specs.Faults.{points_refusal, index_refusal}

-- the points of a file that is read as one of this element type
abbrev pub points_in : Element → List ℕ → PointSet
points_in element file = points_of element file

-- a file is the text of the points that it is taken for, which are within the limits
abbrev pub IsPointsText : Element → List ℕ → Type 0
IsPointsText element file = ArePoints (points_in element file).vectors × (file ≡ text (points_in element file))

-- the points of a well-formed file that is read as one of this element type
pub record AreOf (role : Role) (element : Element) (file : List ℕ) (points : PointSet) : Type 0 where
  pub accepted : points_refusal role file ≡ None
  pub points_are : points ≡ points_in element file
  pub text_is : file ≡ text points
  pub limits : ArePoints points.vectors

-- the index of a well-formed file
pub record IsOf (role : Role) (file : List ℕ) (i : Contents) : Type 0 where
  pub accepted : index_refusal role file ≡ None
  pub index_is : index_in file ≡ Ok i

-- reading a file of points, of either element type, and one of an index
abbrev pub points_read : Role → List ℕ → Reads
points_read role name = record { role = role; name = name; refused = λ files. points_refusal role (bytes_of files name) }

abbrev pub index_read : Role → List ℕ → Reads
index_read role name = record { role = role; name = name; refused = λ files. index_refusal role (bytes_of files name) }

-- a fault of reading a file: the first refusal that its bytes show; a failed read and want of memory may stand in its place
abbrev pub IsOfReading : Option Fault → Role → Fault → Type 0
IsOfReading refused role (Read file) = file ≡ role
IsOfReading refused role NoMemory = Unit {0}
IsOfReading refused role (Malformed file place rule) = refused ≡ Some (Malformed file place rule)
IsOfReading refused role (TooLarge name value limit) = refused ≡ Some (TooLarge name value limit)
IsOfReading refused role fault = ⊥

-- the same without the bytes: a failed read has its cause
abbrev pub IsReadFault : Role → (rose : Type 0) → Fault → Type 0
IsReadFault role rose (Read file) = (file ≡ role) × rose
IsReadFault role rose NoMemory = Unit {0}
IsReadFault role rose (Malformed file place rule) = Unit {0}
IsReadFault role rose (TooLarge name value limit) = Unit {0}
IsReadFault role rose fault = ⊥
