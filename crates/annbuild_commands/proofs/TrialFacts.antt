-- A trial, from its parts.
use Rattle.std.proofs.Common.{◌≡◌, ◌∙◌, ◌*◌, ◌≤◌, ℕ, zero, suc, true, List, [], ◌∷◌, map, length, refl, sym, ap, subst, inl, inr, arith, Some, None}
use Rattle.std.specs.Prelude.{◌⊎◌}
use Rattle.std.specs.List.{range_with_len}
use Rattle.std.specs.Option.{option_or}
use Rattle.std.proofs.lemmas.List.{length-map}
use Rattle.std.proofs.lemmas.List.FromFn.{length-map-range_with_len}
use Rattle.ann_defs.specs.Distance.{PointSet, dim_of}
use Rattle.ann_defs.specs.declared.kinds.Kind.{Kind}
use Rattle.ann_defs.specs.declared.kinds.Kind.TheVariants.{Vamana, Hnsw, Nnd}
use Rattle.ann_defs.specs.declared.near.Near.{Near}
use Rattle.ann_defs.specs.declared.limits.TheConstants.{MAX_CELLS, MAX_WORDS}
use Rattle.ann_shelf.specs.declared.slip.Quantity.TheVariants.{Cells, Words}
use Rattle.ann_shelf.specs.Files.{Files}
use Rattle.ann_shelf.specs.Shown.{Shown}
use Rattle.ann_shelf.specs.Written.{Got}
use Rattle.bin_files.proofs.RowLaws.{length-rows, dim_of-rows}
use Rattle.graph_rows.specs.Index.{Contents}
use Rattle.batch_search.specs.Answers.{answer_of, answers_of}
use Rattle.seeded_order.specs.Generator.{generated_byte, made_points_of}
use Rattle.command_options.specs.declared.settings.Settings.{Settings}
use Rattle.annbuild_lines.specs.Lines.{answered_text}
use Rattle.annbuild_lines.specs.declared.fault.Fault.{Fault}
use Rattle.annbuild_lines.specs.declared.fault.Fault.TheVariants.{NoMemory}
use Rattle.command_shapes.specs.Ends.{Ends}
use Rattle.command_shapes.proofs.Ending.{Leads}
use Rattle.index_build.specs.IndexOf.{vamana_of, hnsw_of, nnd_of, index_by, index_of, words_of}
use Rattle.annbuild_commands.specs.IndexTexts.{line_of}
use Rattle.index_build.specs.Limits.{cells_refusal, words_refusal}
use Rattle.annbuild_commands.specs.Making.{vectors_made, points_made}
use Rattle.annbuild_commands.specs.Trying.{trial_refusal, index_tried, queries_made, answers_tried, answer_count, dist_total, summary_of, trying}
use Rattle.annbuild_commands.proofs.Fits.{either_fault}
use Rattle.annbuild_commands.proofs.IndexFacts.{limit_fault}
use Rattle.annbuild_commands.proofs.MakeFacts.{vectors_are}
use Rattle.annbuild_commands.proofs.Unread.{fails_unread}

-- made points are as many and as wide as is asked
wide_enough : (count dim : ℕ) → 1 ≤ count → dim ≤ count * dim
wide_enough zero dim h = absurd (omega (arith, h))
wide_enough (suc n) dim h = omega arith

pub made_count : (count dim seed first : ℕ) → length (made_points_of count dim seed first) ≡ count
made_count count dim seed first = length-rows count dim (map (generated_byte seed) (range_with_len first (count * dim)))

pub made_dim : (count dim seed first : ℕ) → 1 ≤ count → dim_of (made_points_of count dim seed first) ≡ dim
made_dim count dim seed first some =
    let all = length-map-range_with_len (generated_byte seed) first (count * dim) in
    dim_of-rows count dim (map (generated_byte seed) (range_with_len first (count * dim))) some (subst (λ n. dim ≤ n) (sym all) (wide_enough count dim some))

pub points_count : (o : Settings) → length (vectors_made o) ≡ o.count
points_count o = ap length (sym (vectors_are o)) ∙ made_count o.count o.dim o.seed 0

pub points_dim : (o : Settings) → 1 ≤ o.count → dim_of (vectors_made o) ≡ o.dim
points_dim o some = ap dim_of (sym (vectors_are o)) ∙ made_dim o.count o.dim o.seed 0 some

pub queries_are : (o : Settings) → made_points_of o.queries o.dim o.seed (o.count * o.dim) ≡ queries_made o
unfolding queries_made
queries_are o = refl

pub queries_count : (o : Settings) → length (queries_made o) ≡ o.queries
queries_count o = ap length (sym (queries_are o)) ∙ made_count o.queries o.dim o.seed (o.count * o.dim)

pub queries_dim : (o : Settings) → 1 ≤ o.queries → dim_of (queries_made o) ≡ o.dim
queries_dim o some = ap dim_of (sym (queries_are o)) ∙ made_dim o.queries o.dim o.seed (o.count * o.dim) some

-- the words of the made points' index
pub words_tried : (p : PointSet) (o : Settings) → p ≡ points_made o → words_refusal (words_of (length p.vectors) o) ≡ words_refusal (words_of o.count o)
words_tried p o e = ap (λ (q : PointSet). words_refusal (words_of (length q.vectors) o)) e ∙ ap (λ n. words_refusal (words_of n o)) (points_count o)

pub trial_fits : (p : PointSet) (o : Settings) → p ≡ points_made o → cells_refusal o.count o.dim ≡ None → words_refusal (words_of (length p.vectors) o) ≡ None → trial_refusal o ≡ None
trial_fits p o e cells words = ap (λ u. option_or u (words_refusal (words_of o.count o))) cells ∙ sym (words_tried p o e) ∙ words

-- a fault of a trial, from a fault of the points and from one of the index
pub trial_of_points : (o : Settings) (fault : Fault) → (cells_refusal o.count o.dim ≡ Some fault) ⊎ (fault ≡ NoMemory) → (trial_refusal o ≡ Some fault) ⊎ (fault ≡ NoMemory)
trial_of_points o fault why = elim why as (λ _. (trial_refusal o ≡ Some fault) ⊎ (fault ≡ NoMemory)) [
  | inl over ↦ inl (ap (λ u. option_or u (words_refusal (words_of o.count o))) over)
  | inr is ↦ inr is
]

pub trial_of_index : (p : PointSet) (o : Settings) (fault : Fault) → p ≡ points_made o → cells_refusal o.count o.dim ≡ None
    → (words_refusal (words_of (length p.vectors) o) ≡ Some fault) ⊎ (fault ≡ NoMemory) → (trial_refusal o ≡ Some fault) ⊎ (fault ≡ NoMemory)
trial_of_index p o fault e cells why = elim why as (λ _. (trial_refusal o ≡ Some fault) ⊎ (fault ≡ NoMemory)) [
  | inl over ↦ inl (ap (λ u. option_or u (words_refusal (words_of o.count o))) cells ∙ sym (words_tried p o e) ∙ over)
  | inr is ↦ inr is
]

pub index_is_tried : (p : PointSet) (o : Settings) → p ≡ points_made o → index_of p o ≡ index_tried o
index_is_tried p o e = ap (λ (q : PointSet). index_of q o) e

-- an index has as many points as it is of
vamana_count : (X : List (List ℕ)) (o : Settings) → (vamana_of X o).count ≡ length X
unfolding vamana_of
vamana_count X o = refl

hnsw_count : (X : List (List ℕ)) (o : Settings) → (hnsw_of X o).count ≡ length X
unfolding hnsw_of
hnsw_count X o = refl

nnd_count : (X : List (List ℕ)) (o : Settings) → (nnd_of X o).count ≡ length X
unfolding nnd_of
nnd_count X o = refl

kind_count : (k : Kind) (X : List (List ℕ)) (o : Settings) → (index_by k X o).count ≡ length X
kind_count Vamana X o = vamana_count X o
kind_count Hnsw X o = hnsw_count X o
kind_count Nnd X o = nnd_count X o

pub index_count : (X : PointSet) (o : Settings) → (index_of X o).count ≡ length X.vectors
unfolding index_of
index_count X o = kind_count o.kind X.vectors o

-- the index and the queries of a trial fit its points
pub tried_count : (i : Contents) (p : PointSet) (o : Settings) → i ≡ index_tried o → p ≡ points_made o → i.count ≡ length p.vectors
tried_count i p o e f = ap (λ (j : Contents). j.count) e ∙ index_count (points_made o) o ∙ ap (λ (q : PointSet). length q.vectors) (sym f)

pub tried_dim : (Q : List (List ℕ)) (p : PointSet) (o : Settings) → Q ≡ queries_made o → p ≡ points_made o → 1 ≤ o.queries → 1 ≤ o.count → dim_of Q ≡ dim_of p.vectors
tried_dim Q p o e f some many = ap dim_of e ∙ queries_dim o some ∙ sym (points_dim o many) ∙ ap (λ (q : PointSet). dim_of q.vectors) (sym f)

pub tried_queries : (Q : List (List ℕ)) (o : Settings) → Q ≡ queries_made o → length Q ≡ o.queries
tried_queries Q o e = ap length e ∙ queries_count o

-- the answers, from points, index and queries
pub answers_are_tried : (p : PointSet) (i : Contents) (Q : List (List ℕ)) (o : Settings) → p ≡ points_made o → i ≡ index_tried o → Q ≡ queries_made o
    → answers_of p.vectors i o.search o.k Q ≡ answers_tried o
unfolding answers_tried
answers_are_tried p i Q o e f g = λ j. answers_of (e j).vectors (f j) o.search o.k (g j)

pub answers_count : (o : Settings) → length (answers_tried o) ≡ o.queries
unfolding answers_tried
answers_count o = length-map (queries_made o) (answer_of (vectors_made o) (index_tried o) o.search o.k) ∙ queries_count o

-- the line of the answers
pub summary_is : (A : List (List Near)) (count answers total : ℕ) → count ≡ length A → answers ≡ answer_count A → total ≡ dist_total A → answered_text count answers total ≡ summary_of A
unfolding summary_of
summary_is A count answers total c a t = λ i. answered_text (c i) (a i) (t i)

-- a fault of a trial before it prints
pub trial_fault : (o : Settings) (fault : Fault) → (trial_refusal o ≡ Some fault) ⊎ (fault ≡ NoMemory) → (shown : Shown) (had : Got) → Ends (trying o) shown shown had had (Some fault)
trial_fault o fault why shown had =
    fails_unread (trying o) (trial_refusal o) refl (λ files. refl)
    (λ f e. either_fault (cells_refusal o.count o.dim) (words_refusal (words_of o.count o)) f (limit_fault Cells (o.count * o.dim) MAX_CELLS f) (limit_fault Words (words_of o.count o) MAX_WORDS f) e) shown had fault why

pub trial_leads : (files : Files) (o : Settings) (i : Contents) (first second : List ℕ) → trial_refusal o ≡ None → i ≡ index_tried o → first ≡ line_of i → second ≡ summary_of (answers_tried o)
    → Leads (trying o) None (λ run. true) (λ run. first ∷ second ∷ []) files
trial_leads files o i first second fits is a b = record {
  accepted = fits;
  meant = tt;
  stored = refl;
  runs = λ run e. e;
  prints = λ run. λ j. (a ∙ ap line_of is) j ∷ b j ∷ [];
}
