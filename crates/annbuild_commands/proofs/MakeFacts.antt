-- Made points, and what is left of `make` once they stand.
use Rattle.std.proofs.Common.{◌≡◌, ◌∙◌, ◌*◌, ℕ, true, List, [], ◌∷◌, refl, ap, Some, None}
use Rattle.std.specs.Prelude.{◌⊎◌}
use Rattle.ann_defs.specs.Distance.{PointSet}
use Rattle.ann_defs.specs.declared.kinds.Element.TheVariants.{U8}
use Rattle.ann_defs.specs.declared.limits.TheConstants.{MAX_CELLS}
use Rattle.ann_shelf.specs.declared.slip.Quantity.TheVariants.{Cells}
use Rattle.ann_shelf.specs.Files.{Files, with_file}
use Rattle.ann_shelf.specs.Shown.{Shown}
use Rattle.ann_shelf.specs.Written.{Got}
use Rattle.bin_files.specs.Points.{text}
use Rattle.seeded_order.specs.Generator.{made_points_of}
use Rattle.command_options.specs.declared.settings.Settings.{Settings}
use Rattle.command_options.specs.declared.role.Role.TheVariants.{Base}
use Rattle.annbuild_lines.specs.Lines.{made_text}
use Rattle.annbuild_lines.specs.declared.fault.Fault.{Fault}
use Rattle.annbuild_lines.specs.declared.fault.Fault.TheVariants.{NoMemory}
use Rattle.command_shapes.specs.Ends.{Ends}
use Rattle.command_shapes.specs.Writing.{stored_as}
use Rattle.command_shapes.proofs.Ending.{Leads}
use Rattle.index_build.specs.Limits.{cells_refusal}
use Rattle.annbuild_commands.specs.Making.{vectors_made, points_made, making}
use Rattle.annbuild_commands.proofs.IndexFacts.{limit_fault}
use Rattle.annbuild_commands.proofs.Unread.{fails_unread}

-- the generator's points are those that settings ask for
pub vectors_are : (o : Settings) → made_points_of o.count o.dim o.seed 0 ≡ vectors_made o
unfolding vectors_made
vectors_are o = refl

pub points_are : (p : PointSet) (o : Settings) → p.vectors ≡ made_points_of o.count o.dim o.seed 0 → p.element ≡ U8 → p ≡ points_made o
points_are p o v e = λ i. record { element = e i; vectors = (v ∙ vectors_are o) i }

-- a fault of `make` before it writes
pub make_fails : (base : List ℕ) (o : Settings) (shown : Shown) (had : Got) (fault : Fault) → (cells_refusal o.count o.dim ≡ Some fault) ⊎ (fault ≡ NoMemory) → Ends (making base o) shown shown had had (Some fault)
make_fails base o shown had fault why =
    fails_unread (making base o) (cells_refusal o.count o.dim) refl (λ files. refl) (λ f e. limit_fault Cells (o.count * o.dim) MAX_CELLS f e) shown had fault why

pub make_leads : (files : Files) (base : List ℕ) (o : Settings) (p : PointSet) (line : List ℕ) → cells_refusal o.count o.dim ≡ None → p ≡ points_made o → line ≡ made_text o.count o.dim
    → Leads (making base o) (Some (stored_as Base base (text p))) (λ run. true) (λ run. line ∷ []) files
make_leads files base o p line fits is told = record {
  accepted = fits;
  meant = tt;
  stored = ap (λ (q : PointSet). with_file files base (text q)) is;
  runs = λ run e. e;
  prints = λ run. ap (λ l. l ∷ []) told;
}
