-- Files that fit together or don't.
use Rattle.std.proofs.Common.{◌≡◌, ◌∙◌, ℕ, List, length, refl, sym, ap, subst, Option, Some, None, Bool, true, false, cond, not}
use Rattle.std.specs.Prelude.{◌==◌}
use Rattle.std.specs.Option.{option_or}
use Rattle.std.proofs.lemmas.Bool.{eqb-true}
use Rattle.ann_defs.specs.Distance.{PointSet, dim_of}
use Rattle.ann_defs.specs.declared.kinds.Element.{Element}
use Rattle.graph_rows.specs.Index.{Contents}
use Rattle.batch_search.specs.Answers.{answers_of}
use Rattle.command_options.specs.declared.settings.Settings.{Settings}
use Rattle.annbuild_lines.specs.declared.fault.Fault.{Fault}
use Rattle.annbuild_lines.specs.declared.fault.Fault.TheVariants.{Unfit}
use Rattle.command_options.specs.declared.role.Role.TheVariants.{Base, Index, Queries}
use Rattle.annbuild_lines.specs.declared.fault.What.{What}
use Rattle.annbuild_lines.specs.declared.fault.What.TheVariants.{Count, Dim, Element as ElementDiffers, Digest}
use Rattle.command_options.specs.declared.role.Role.{Role}
use Rattle.graph_rows.specs.declared.stamp.Stamp.{Stamp}
use Rattle.bin_files.specs.Points.{text}
use Rattle.index_build.specs.Stamping.{element_code}
use Rattle.sha2.specs.Sha256.{sha256}
use Rattle.command_shapes.specs.Reading.{AreOf, IsOf, points_in}
use Rattle.command_shapes.proofs.ReadFacts.{or_none}
use Rattle.command_shapes.proofs.Ending.{IsOfFiles}
use Rattle.annbuild_commands.specs.Fitting.{differs, group_at, digest_unfit, stamp_unfit, index_unfit, index_unfit_with, index_unfit_files, queries_unfit, unfit_in, unfit_with, unfit_files}
use Rattle.annbuild_commands.specs.Querying.{answers_with, answers_in}
use Rattle.annbuild_commands.specs.Checking.{checked_of, checked_with, checked_in}

pub some_same : (u v : Fault) → Some u ≡ Some v → u ≡ v
some_same u v s = cc

one_fault : (a : Bool) (x fault : Fault) → IsOfFiles x → cond (not a) (Some x) None ≡ Some fault → IsOfFiles fault
one_fault false x fault p e = subst IsOfFiles (some_same x fault e) p
one_fault true x fault p e = cc

pub differs_only : (file : Role) (what : What) (found wanted : ℕ) (fault : Fault) → differs file what found wanted ≡ Some fault → IsOfFiles fault
differs_only file what found wanted fault e = one_fault (found == wanted) (Unfit file what found wanted) fault tt e

-- a fault that one of two refusals gives
pub either_fault : (u v : Option Fault) (fault : Fault) → (u ≡ Some fault → IsOfFiles fault) → (v ≡ Some fault → IsOfFiles fault) → option_or u v ≡ Some fault → IsOfFiles fault
either_fault None v fault f g e = g e
either_fault (Some x) v fault f g e = f e

-- what a misfit is
digest_only : (found wanted : List ℕ) (fault : Fault) → digest_unfit found wanted ≡ Some fault → IsOfFiles fault
digest_only found wanted fault e =
    let part : (at : ℕ) → differs Index Digest (group_at found at) (group_at wanted at) ≡ Some fault → IsOfFiles fault = λ at. differs_only Index Digest (group_at found at) (group_at wanted at) fault in
    let first = differs Index Digest (group_at found 0) (group_at wanted 0) in
    let second = differs Index Digest (group_at found 8) (group_at wanted 8) in
    let third = differs Index Digest (group_at found 16) (group_at wanted 16) in
    let fourth = differs Index Digest (group_at found 24) (group_at wanted 24) in
    either_fault first (option_or second (option_or third fourth)) fault (part 0) (λ rest. either_fault second (option_or third fourth) fault (part 8) (λ last. either_fault third fourth fault (part 16) (part 24) last) rest) e

stamp_only : (X : PointSet) (stamp : Option Stamp) (fault : Fault) → stamp_unfit X stamp ≡ Some fault → IsOfFiles fault
stamp_only X None fault e = cc
stamp_only X (Some s) fault e =
    either_fault (differs Index ElementDiffers s.element (element_code X.element)) (digest_unfit s.digest (sha256 (text X))) fault
    (differs_only Index ElementDiffers s.element (element_code X.element) fault) (digest_only s.digest (sha256 (text X)) fault) e

pub index_only : (X : PointSet) (i : Contents) (fault : Fault) → index_unfit X i ≡ Some fault → IsOfFiles fault
index_only X i fault e =
    either_fault (differs Index Count i.count (length X.vectors)) (option_or (differs Index Dim i.dim (dim_of X.vectors)) (stamp_unfit X i.stamp)) fault (differs_only Index Count i.count (length X.vectors) fault)
    (λ rest. either_fault (differs Index Dim i.dim (dim_of X.vectors)) (stamp_unfit X i.stamp) fault (differs_only Index Dim i.dim (dim_of X.vectors) fault) (stamp_only X i.stamp fault) rest) e

pub queries_only : (X Q : List (List ℕ)) (fault : Fault) → queries_unfit X Q ≡ Some fault → IsOfFiles fault
queries_only X Q fault e = differs_only Queries Dim (dim_of Q) (dim_of X) fault e

pub unfit_only : (X : PointSet) (i : Contents) (Q : List (List ℕ)) (fault : Fault) → unfit_in X i Q ≡ Some fault → IsOfFiles fault
unfit_only X i Q fault e = either_fault (index_unfit X i) (queries_unfit X.vectors Q) fault (index_only X i fault) (queries_only X.vectors Q fault) e

none_one : (a : Bool) (x : Fault) → cond (not a) (Some x) None ≡ None → a ≡ true
none_one false x e = cc
none_one true x e = refl

same_number : (file : Role) (what : What) (found wanted : ℕ) → differs file what found wanted ≡ None → found ≡ wanted
same_number file what found wanted e = eqb-true found wanted (none_one (found == wanted) (Unfit file what found wanted) e)

pub queries_fit : (X Q : List (List ℕ)) → queries_unfit X Q ≡ None → dim_of Q ≡ dim_of X
queries_fit X Q e = same_number Queries Dim (dim_of Q) (dim_of X) e

-- where nothing is unfit, the numbers are the same
pub fits : (X : PointSet) (i : Contents) (Q : List (List ℕ)) → unfit_in X i Q ≡ None → (i.count ≡ length X.vectors) × (i.dim ≡ dim_of X.vectors) × (dim_of Q ≡ dim_of X.vectors)
fits X i Q e =
    let both = or_none (index_unfit X i) (queries_unfit X.vectors Q) e in
    let first = or_none (differs Index Count i.count (length X.vectors)) (option_or (differs Index Dim i.dim (dim_of X.vectors)) (stamp_unfit X i.stamp)) both.0 in
    let second = or_none (differs Index Dim i.dim (dim_of X.vectors)) (stamp_unfit X i.stamp) first.1 in
    (same_number Index Count i.count (length X.vectors) first.0, same_number Index Dim i.dim (dim_of X.vectors) second.0, queries_fit X.vectors Q both.1)

-- the points and the index of files that are read
module _ (element : Element) (base index : List ℕ) (X : PointSet) (i : Contents) (of_points : AreOf Base element base X) (of_index : IsOf Index index i) where
  pub index_unfit_read : index_unfit_files element base index ≡ index_unfit X i
  unfolding index_unfit_files
  index_unfit_read =
      ap (λ r. index_unfit_with (points_in element base) r) of_index.index_is
      ∙ ap (λ (Y : PointSet). index_unfit Y i) (sym of_points.points_are)

  pub checked_read : checked_in index ≡ checked_of i
  unfolding checked_in
  checked_read = ap checked_with of_index.index_is

-- the same of files that are read
module _ (o : Settings) (base index queries : List ℕ) (X Q : PointSet) (i : Contents) (of_points : AreOf Base o.element base X) (of_index : IsOf Index index i) (of_queries : AreOf Queries o.element queries Q) where
  pub unfit_read : unfit_files o.element base index queries ≡ unfit_in X i Q.vectors
  unfolding unfit_files
  unfit_read =
      ap (λ r. unfit_with (points_in o.element base) r (points_in o.element queries).vectors) of_index.index_is
      ∙ ap (λ (Y : PointSet). unfit_in Y i (points_in o.element queries).vectors) (sym of_points.points_are)
      ∙ ap (λ (Y : PointSet). unfit_in X i Y.vectors) (sym of_queries.points_are)

  pub answers_are : answers_in base index queries o ≡ answers_of X.vectors i o.search o.k Q.vectors
  unfolding answers_in
  answers_are =
      ap (λ r. answers_with (points_in o.element base).vectors r (points_in o.element queries).vectors o) of_index.index_is
      ∙ ap (λ (Y : PointSet). answers_of Y.vectors i o.search o.k (points_in o.element queries).vectors) (sym of_points.points_are)
      ∙ ap (λ (Y : PointSet). answers_of X.vectors i o.search o.k Y.vectors) (sym of_queries.points_are)
