-- `make` as data.
use Rattle.std.specs.Prelude.{ℕ, true, List, [], ◌∷◌, Some}
use Rattle.ann_defs.specs.Distance.{PointSet}
use Rattle.ann_defs.specs.declared.kinds.Element.TheVariants.{U8}
use Rattle.bin_files.specs.Points.{text}
use Rattle.seeded_order.specs.Generator.{made_points_of}
use Rattle.command_options.specs.declared.settings.Settings.{Settings}
use Rattle.command_options.specs.declared.role.Role.TheVariants.{Base}
use Rattle.annbuild_lines.specs.Lines.{made_text}
use Rattle.command_shapes.specs.Doing.{Stored, Doing}
use Rattle.index_build.specs.Limits.{cells_refusal}

-- the points that settings ask for: the generator's bytes from the first on
unfoldable pub vectors_made : Settings → List (List ℕ)
vectors_made o = made_points_of o.count o.dim o.seed 0

abbrev pub points_made : Settings → PointSet
points_made o = record { element = U8; vectors = vectors_made o }

-- their file
abbrev pub points_stored : List ℕ → Settings → Stored
points_stored base o = record { role = Base; name = base; text = λ files. text (points_made o) }

-- it reads nothing, refuses points of more numbers than the limit, stores the made points, and prints a line
abbrev pub making : (base : List ℕ) → Settings → Doing
making base o = record {
  reads = [];
  rest = λ files. cells_refusal o.count o.dim;
  meant = λ files. Unit {0};
  stores = Some (points_stored base o);
  lawful = λ files run. true;
  pieces = λ files run. made_text o.count o.dim ∷ [];
}
