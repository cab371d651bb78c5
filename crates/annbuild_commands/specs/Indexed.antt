-- Points and their index, read from the files that a request names.
use Rattle.std.specs.Prelude.{◌≡◌, ℕ, List, [], ◌∷◌, ◌++◌, Option, IfSome}
use Rattle.ann_shelf.specs.Files.{Files, bytes_of}
use Rattle.ann_shelf.specs.Shown.{Shown}
use Rattle.graph_rows.specs.View.{contents}
use Rattle.graph_rows.specs.WellFormed.{IsWellFormed}
use Rattle.command_options.specs.declared.settings.Settings.{Settings}
use Rattle.command_options.specs.declared.role.Role.TheVariants.{Base, Index}
use Rattle.annbuild_lines.specs.declared.fault.Fault.{Fault}
use Rattle.command_shapes.specs.Doing.{Reads}
use Rattle.command_shapes.specs.Ends.{HaveRead, FailedRead}
use Rattle.command_shapes.specs.Reading.{AreOf, IsOf, points_read, index_read}
use Rattle.annbuild_commands.specs.declared.inputs.Indexed.{Indexed}

-- the reads of the points and of the index
abbrev pub indexed_reads : (base index : List ℕ) → List Reads
indexed_reads base index = points_read Base base ∷ index_read Index index ∷ []

-- the points and the index of these two of the files that are held
pub record AreIndexed (points_name index_name : List ℕ) (o : Settings) (held : Option Files) (x : Indexed) : Type 0 where
  pub points : IfSome held (λ files. AreOf Base o.element (bytes_of files points_name) x.points)
  pub index : IfSome held (λ files. IsOf Index (bytes_of files index_name) (contents x.index))
  pub well_formed : IsWellFormed (contents x.index)

-- one of these reads failed or was refused, and those before it are done
pub record FailedAmong (reads : List Reads) (old new : Shown) (fault : Fault) : Type 0 where
  pub before : List Reads
  pub read : Reads
  pub behind : List Reads
  pub all : reads ≡ before ++ (read ∷ behind)
  pub mid : Shown
  pub so_far : HaveRead before old mid
  pub failed : FailedRead read mid new fault
