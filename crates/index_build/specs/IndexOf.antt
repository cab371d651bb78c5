-- The index that settings ask for. No number of workers and no pool is among what it depends on.
use Rattle.std.specs.Prelude.{◌≡◌, ℕ, ◌+◌, ◌*◌, max, List, [], length, replicate, slice_index}
use Rattle.std.specs.List.{fold, range_with_len}
use Rattle.ann_defs.specs.Distance.{PointSet, dim_of}
use Rattle.ann_defs.specs.BatchInsert.{Build, cap_of, batches_in, graph_after}
use Rattle.ann_defs.specs.declared.kinds.Kind.{Kind}
use Rattle.ann_defs.specs.declared.kinds.Kind.TheVariants.{Vamana, Hnsw, Nnd}
use Rattle.graph_rows.specs.Index.{Contents, flat_contents}
use Rattle.graph_rows.specs.Stamps.{stamped}
use Rattle.seeded_order.specs.Order.{insertion_order}
use Rattle.seeded_order.specs.Levels.{levels_of}
use Rattle.hnsw_build.specs.Layering.{words_in}
use Rattle.hnsw_build.specs.HnswIndex.{hnsw_index}
use Rattle.hnsw_build.specs.declared.settings.HnswSettings.{HnswSettings}
use Rattle.pivot_trees.specs.Leaves.{leaves_of, leaf_with}
use Rattle.neighbour_lists.specs.ListRound.{with_leaves}
use Rattle.nn_descent.specs.SearchGraph.{graph_rows}
use Rattle.nn_descent.specs.NndIndex.{start_of, improved}
use Rattle.nn_descent.specs.declared.settings.NndSettings.{NndSettings}
use Rattle.command_options.specs.declared.settings.Settings.{Settings}
use Rattle.command_options.specs.Settings.{AreForKind}
use Rattle.index_build.specs.Stamping.{stamp_for}

-- settings that a build may have
abbrev pub AreForBuild : Settings → Type 0
AreForBuild o = AreForKind o.kind o

-- the order of insertion of a Vamana build, and the start of its searches
abbrev pub vamana_order : List (List ℕ) → Settings → List ℕ
vamana_order X o = insertion_order X o.order o.start o.seed

abbrev pub vamana_start : List (List ℕ) → Settings → ℕ
vamana_start X o = slice_index (vamana_order X o) 0

-- how many batches it has in all passes
unfoldable pub vamana_batches : List (List ℕ) → Settings → ℕ
vamana_batches X o = batches_in o.passes (length X) (cap_of (length X) o.cap)

-- its rows after v batches
unfoldable pub vamana_rows : List (List ℕ) → Settings → ℕ → List (List ℕ)
vamana_rows X o v =
    let b : Build = record { points = X; start = vamana_start X o; beam = o.beam; num = o.num; den = o.den; degree = o.degree; passes = o.passes } in
    graph_after b (vamana_order X o) (cap_of (length X) o.cap) v

-- the Vamana index of a point set: the order, start, seed, degree, beam, alpha, cap and passes of the settings decide it
unfoldable pub vamana_of : List (List ℕ) → Settings → Contents
vamana_of X o = flat_contents 1 (length X) (dim_of X) o.degree (vamana_start X o) (vamana_rows X o (vamana_batches X o))

-- the levels of so many points in an HNSW index: the seed, bits and greatest level of the settings decide them
abbrev pub levels_for : ℕ → Settings → List ℕ
levels_for n o = levels_of n o.seed o.bits o.max_level

-- what else decides an HNSW index
abbrev pub hnsw_settings : Settings → HnswSettings
hnsw_settings o = record { order = o.order; seed = o.seed; degree = o.degree; beam = o.beam; bits = o.bits; max_level = o.max_level; cap = o.cap }

-- the HNSW index of a point set
unfoldable pub hnsw_of : List (List ℕ) → Settings → Contents
hnsw_of X o = hnsw_index X (hnsw_settings o) (levels_for (length X) o)

-- the lists of nearest neighbours of a point set: those of its trees, improved in rounds
abbrev pub lists_for : List (List ℕ) → Settings → List (List ℕ)
lists_for X o =
    let with_tree : List (List ℕ) → ℕ → List (List ℕ) = λ rows t. with_leaves X o.list (leaf_with (leaves_of X o.seed t o.leaf)) rows in
    improved X o.list o.floor o.rounds (fold with_tree (replicate (length X) []) (range_with_len 0 o.trees))

-- the builder of lists has these settings
pub record AreNndSettings (o : Settings) (s : NndSettings) : Type 0 where
  pub start : s.start ≡ o.start
  pub seed : s.seed ≡ o.seed
  pub degree : s.degree ≡ o.degree
  pub num : s.alpha.num ≡ o.num
  pub den : s.alpha.den ≡ o.den
  pub list : s.list ≡ o.list
  pub trees : s.trees ≡ o.trees
  pub leaf : s.leaf ≡ o.leaf
  pub rounds : s.rounds ≡ o.rounds
  pub floor : s.floor ≡ o.floor

-- the index of nearest-neighbour lists of a point set: the search graph of the lists
unfoldable pub nnd_of : List (List ℕ) → Settings → Contents
nnd_of X o = flat_contents 3 (length X) (dim_of X) o.degree (start_of X o.start) (graph_rows X (lists_for X o) o.num o.den o.degree)

-- the index of each kind, of the vectors of a point set, with no stamp
abbrev pub index_by : Kind → List (List ℕ) → Settings → Contents
index_by Vamana X o = vamana_of X o
index_by Hnsw X o = hnsw_of X o
index_by Nnd X o = nnd_of X o

-- the index that a build of a point set with these settings must give, with the stamp of its format
unfoldable pub index_of : PointSet → Settings → Contents
index_of X o = stamped (stamp_for X o) (index_by o.kind X.vectors o)

-- the words that the rows of so many points take in a Vamana index
abbrev pub vamana_words : ℕ → Settings → ℕ
vamana_words n o = n * (o.degree + 1)

-- the words that the rows of so many points take in all layers of an HNSW index
abbrev pub hnsw_words : ℕ → Settings → ℕ
hnsw_words n o = words_in (levels_for n o) o.degree

-- the words that the lists of so many points take, or the rows of their index, whichever are more
abbrev pub nnd_words : ℕ → Settings → ℕ
nnd_words n o = n * (max o.list o.degree + 1)

-- the words in an index of each kind
abbrev pub words_by : Kind → ℕ → Settings → ℕ
words_by Vamana n o = vamana_words n o
words_by Hnsw n o = hnsw_words n o
words_by Nnd n o = nnd_words n o

-- the words that the rows of the index of so many points take
abbrev pub words_of : ℕ → Settings → ℕ
words_of n o = words_by o.kind n o
