-- The builders' indexes are those that settings ask for.
use Rattle.std.proofs.Common.{◌≡◌, ℕ, List, length, refl, sym, ap, subst, Ok, None}
use Rattle.ann_defs.specs.Distance.{PointSet}
use Rattle.ann_defs.specs.declared.kinds.Kind.{Kind}
use Rattle.ann_defs.specs.declared.kinds.Kind.TheVariants.{Vamana, Hnsw, Nnd}
use Rattle.graph_rows.specs.View.{contents, kind_code}
use Rattle.graph_rows.specs.WellFormed.{IsWellFormed}
use Rattle.graph_rows.specs.declared.index.Index.{Index}
use Rattle.vamana_build.specs.declared.settings.VamanaSettings.{VamanaSettings}
use Rattle.vamana_build.specs.Builds.{order_of}
use Rattle.vamana_build.specs.VamanaIndex.{vamana_index}
use Rattle.hnsw_build.specs.HnswIndex.{hnsw_index}
use Rattle.hnsw_build.specs.declared.settings.HnswSettings.{HnswSettings}
use Rattle.nn_descent.specs.NndIndex.{nnd_index}
use Rattle.nn_descent.specs.declared.settings.NndSettings.{NndSettings}
use Rattle.command_options.specs.declared.settings.Settings.{Settings}
use Rattle.graph_rows.specs.Stamps.{stamped}
use Rattle.index_build.specs.Stamping.{stamp_for}
use Rattle.index_build.specs.Limits.{words_refusal}
use Rattle.index_build.specs.Built.{IsBuilt}
use Rattle.index_build.specs.IndexOf.{AreNndSettings, vamana_of, vamana_rows, vamana_batches, hnsw_of, nnd_of, hnsw_settings, levels_for, index_by, index_of, words_by, words_of}

-- the builder's index is the one that a build must give
pub same_index : (X : List (List ℕ)) (s : VamanaSettings) (o : Settings) → s.order ≡ o.order → s.start ≡ o.start → s.seed ≡ o.seed → s.degree ≡ o.degree → s.beam ≡ o.beam
    → s.alpha.num ≡ o.num → s.alpha.den ≡ o.den → s.cap ≡ o.cap → s.passes ≡ o.passes → vamana_index X s ≡ vamana_of X o
unfolding order_of vamana_of vamana_rows vamana_batches
same_index X s o a b c d e f g h p = λ i. vamana_of X (record o { order = a i; start = b i; seed = c i; degree = d i; beam = e i; num = f i; den = g i; cap = h i; passes = p i })

-- the same of the builder of lists
pub same_lists : (X : List (List ℕ)) (s : NndSettings) (o : Settings) → AreNndSettings o s → nnd_index X s ≡ nnd_of X o
unfolding nnd_of
same_lists X s o e = λ k.
    nnd_of X (record o { start = e.start k; seed = e.seed k; degree = e.degree k; num = e.num k; den = e.den k; list = e.list k; trees = e.trees k; leaf = e.leaf k; rounds = e.rounds k; floor = e.floor k })

-- the index that settings of a kind ask for, but for its stamp
pub index_is : (X : PointSet) (o : Settings) (k : Kind) → o.kind ≡ k → index_by k X.vectors o ≡ index_by o.kind X.vectors o
index_is X o k e = ap (λ (j : Kind). index_by j X.vectors o) (sym e)

-- and with it
pub stamped_is : (X : PointSet) (o : Settings) → stamped (stamp_for X o) (index_by o.kind X.vectors o) ≡ index_of X o
unfolding index_of
stamped_is X o = refl

-- the layers of equal points, settings and levels
pub same_layers : (X Y : List (List ℕ)) (s t : HnswSettings) (l m : List ℕ) → X ≡ Y → s ≡ t → l ≡ m → hnsw_index X s l ≡ hnsw_index Y t m
same_layers X Y s t l m e f g = λ i. hnsw_index (e i) (f i) (g i)

-- the layered builder's index is the one that a build must give
pub layered_is : (X : List (List ℕ)) (o : Settings) → hnsw_index X (hnsw_settings o) (levels_for (length X) o) ≡ hnsw_of X o
unfolding hnsw_of
layered_is X o = refl

-- an index of each kind has its code
vamana_code : (X : List (List ℕ)) (o : Settings) → (vamana_of X o).kind ≡ 1
unfolding vamana_of
vamana_code X o = refl

hnsw_code : (X : List (List ℕ)) (o : Settings) → (hnsw_of X o).kind ≡ 2
unfolding hnsw_of
hnsw_code X o = refl

nnd_code : (X : List (List ℕ)) (o : Settings) → (nnd_of X o).kind ≡ 3
unfolding nnd_of
nnd_code X o = refl

pub code_is : (k : Kind) (X : List (List ℕ)) (o : Settings) → (index_by k X o).kind ≡ kind_code k
code_is Vamana X o = vamana_code X o
code_is Hnsw X o = hnsw_code X o
code_is Nnd X o = nnd_code X o

-- what the builder of a kind gives, where settings ask for that kind: their index but for its stamp
pub built_is : (i : Index) (X : PointSet) (o : Settings) (k : Kind) → o.kind ≡ k → words_refusal (words_by k (length X.vectors) o) ≡ None → contents i ≡ index_by k X.vectors o → IsWellFormed (contents i)
    → IsBuilt (words_of (length X.vectors) o) (index_by o.kind X.vectors o) (Ok i)
built_is i X o k is fits index well_formed =
    subst (λ j. IsBuilt (words_by j (length X.vectors) o) (index_by j X.vectors o) (Ok i)) (sym is) (record { fits = fits; index = index; well_formed = well_formed; failed = tt })
