-- The first refusal that a file shows, from what is found in it.
use Rattle.std.proofs.Common.{◌≡◌, ◌∙◌, subst, List, [], ◌∷◌, ℕ, refl, ap, Some, None}
use Rattle.std.specs.Prelude.{Result, Ok, Err}
use Rattle.std.specs.Option.{option_map, option_or}
use Rattle.ann_shelf.specs.Files.{Files}
use Rattle.ann_defs.specs.Distance.{PointSet}
use Rattle.ann_defs.specs.declared.kinds.Element.{Element}
use Rattle.bin_files.specs.declared.fault.PointsFault.{PointsFault}
use Rattle.bin_files.specs.declared.fault.PointsFault.TheVariants.{Read as PointsRead, Malformed as BrokenPoints, TooLarge as LargePoints, NoMemory as NoPointsMemory}
use Rattle.bin_files.specs.Points.{text, verdict}
use Rattle.bin_files.specs.Rows.{ArePoints}
use Rattle.bin_files.specs.Read.{IsFaultOf}
use Rattle.graph_files.specs.declared.fault.IndexFault.{IndexFault}
use Rattle.graph_files.specs.declared.fault.IndexFault.TheVariants.{Read as IndexRead, Malformed as BrokenIndex, TooLarge as LargeIndex, NoMemory as NoIndexMemory}
use Rattle.graph_rows.specs.Index.{Contents}
use Rattle.graph_files.specs.Reading.{Fails}
use Rattle.graph_files.specs.Grammar.{index_in, verdict as index_verdict}
use Rattle.command_options.specs.declared.role.Role.{Role}
use Rattle.command_shapes.specs.Faults.{points_fault_of, index_fault_of, points_refusal, index_refusal}
use Rattle.command_shapes.specs.Reading.{AreOf, IsPointsText, IsOfReading, IsReadFault}
use Rattle.command_shapes.specs.Doing.{Reads, first_refused}

-- of a file of points
pub points_accepted : (role : Role) (file : List ℕ) → verdict file ≡ None → points_refusal role file ≡ None
unfolding points_refusal
points_accepted role file e = ap (option_map (points_fault_of role)) e

pub points_refused : (role : Role) (file : List ℕ) (fault : PointsFault) → verdict file ≡ Some fault → points_refusal role file ≡ Some (points_fault_of role fault)
unfolding points_refusal
points_refused role file fault e = ap (option_map (points_fault_of role)) e

-- of a file of an index
pub index_accepted : (role : Role) (file : List ℕ) (i : Contents) → index_in file ≡ Ok i → index_refusal role file ≡ None
unfolding index_refusal index_verdict index_in
index_accepted role file i e = ap (λ (r : Result Contents IndexFault). option_map (index_fault_of role) (elim r [ Ok index ↦ None | Err fault ↦ Some fault ])) e

pub index_refused : (role : Role) (file : List ℕ) (fault : IndexFault) → index_in file ≡ Err fault → index_refusal role file ≡ Some (index_fault_of role fault)
unfolding index_refusal index_verdict index_in
index_refused role file fault e = ap (λ (r : Result Contents IndexFault). option_map (index_fault_of role) (elim r [ Ok index ↦ None | Err fault ↦ Some fault ])) e

-- a fault of a reader, as a fault of the program
pub points_reading : (role : Role) (file : List ℕ) (fault : PointsFault) → IsFaultOf file fault → IsOfReading (points_refusal role file) role (points_fault_of role fault)
points_reading role file PointsRead h = refl
points_reading role file (BrokenPoints place rule) h = points_refused role file (BrokenPoints place rule) h
points_reading role file (LargePoints name value limit) h = points_refused role file (LargePoints name value limit) h
points_reading role file NoPointsMemory h = tt

pub index_reading : (role : Role) (file : List ℕ) (fault : IndexFault) → Fails fault (index_in file) → IsOfReading (index_refusal role file) role (index_fault_of role fault)
index_reading role file IndexRead h = refl
index_reading role file (BrokenIndex place rule) h = index_refused role file (BrokenIndex place rule) h
index_reading role file (LargeIndex name value limit) h = index_refused role file (LargeIndex name value limit) h
index_reading role file NoIndexMemory h = tt

-- the file that points were read from is their text
pub points_text : (role : Role) (element : Element) (file : List ℕ) (X : PointSet) → AreOf role element file X → IsPointsText element file
points_text role element file X of = (subst (λ (Y : PointSet). ArePoints Y.vectors) of.points_are of.limits, of.text_is ∙ ap text of.points_are)

-- one read alone
pub alone : (r : Reads) (files : Files) → r.refused files ≡ None → first_refused (r ∷ []) files ≡ None
alone r files e = ap (λ u. option_or u None) e

-- the cause of a reader's fault
pub points_cause : (role : Role) (rose : Type 0) (fault : PointsFault) → (fault ≡ PointsRead → rose) → IsReadFault role rose (points_fault_of role fault)
points_cause role rose PointsRead m = (refl, m refl)
points_cause role rose (BrokenPoints place rule) m = tt
points_cause role rose (LargePoints name value limit) m = tt
points_cause role rose NoPointsMemory m = tt

pub index_cause : (role : Role) (rose : Type 0) (fault : IndexFault) → (fault ≡ IndexRead → rose) → IsReadFault role rose (index_fault_of role fault)
index_cause role rose IndexRead m = (refl, m refl)
index_cause role rose (BrokenIndex place rule) m = tt
index_cause role rose (LargeIndex name value limit) m = tt
index_cause role rose NoIndexMemory m = tt
