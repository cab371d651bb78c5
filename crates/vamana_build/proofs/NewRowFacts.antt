-- What the new rows of a batch are, and how they fit the graph before it.
use Rattle.std.proofs.Common.{◌≡◌, ℕ, ◌<◌, ◌≤◌, true, List, ◌∷◌, [], ◌++◌, length, refl, sym, ap, ◌∙◌, subst}
use Rattle.std.specs.Prelude.{nat_lt}
use Rattle.std.specs.List.{All, range_with_len}
use Rattle.std.proofs.lemmas.Bool.{ltb-true, lt-ltb}
use Rattle.std.proofs.lemmas.List.{length-map}
use Rattle.std.proofs.lemmas.List.Elements.{All-weaker}
use Rattle.ann_defs.specs.declared.near.Near.{Near}
use Rattle.ann_defs.specs.Distance.{point}
use Rattle.ann_defs.specs.Ordered.{Ascends, ordered}
use Rattle.ann_defs.specs.Nearness.{near_cmp, all_near, ids_of}
use Rattle.ann_defs.specs.RobustPrune.{kept, stays, pruned_row}
use Rattle.ann_defs.specs.GreedySearch.{search_of}
use Rattle.ann_defs.specs.Graph.{has, row_in, without, IsGoodRow, AreGoodRows}
use Rattle.ann_defs.specs.BatchInsert.{Build, new_row_of, last_row_of, merged_row_of, row_then}
use Rattle.ann_defs.proofs.GoodRows.{kept_short}
use Rattle.ann_defs.proofs.GoodGraphs.{new_row_good}
use Rattle.ann_defs.proofs.Members.{has_true}
use Rattle.ann_defs.proofs.Order.{All_has}
use Rattle.batch_insert.specs.Batch.{IsBatch}
use Rattle.batch_insert.specs.Changes.{differing}
use Rattle.batch_insert.specs.Padded.{row_by_id}
use Rattle.batch_insert.proofs.Padding.{row_by_id_is}
use Rattle.batch_insert.proofs.Differing.{differing_same}
use Rattle.batch_insert.proofs.SameRows.{row_then_same}
use Rattle.vamana_build.specs.Wanted.{new_blocks}

pub prune_short : (points : List (List ℕ)) (p : ℕ) (set : List ℕ) (num den r : ℕ) → length (pruned_row points p set num den r) ≤ r
prune_short points p set num den r =
    let xs = ordered near_cmp (all_near points (point points p) set) in
    let short = kept_short (stays points num den) r xs in
    rw (length-map (kept (stays points num den) r xs) (λ (y : Near). y.id)) short

pub new_row_short : (b : Build) (rows : List (List ℕ)) (p : ℕ) → length (new_row_of b rows p) ≤ b.degree
new_row_short b rows p = prune_short b.points p (without p (ids_of (search_of b.points (row_in rows) (point b.points p) b.beam (b.start ∷ [])).visited ++ row_in rows p)) b.num b.den b.degree

module _ (b : Build) (starts : b.start < length b.points) (rows : List (List ℕ)) (good : AreGoodRows (length b.points) b.degree rows) (ids : List ℕ) (up : Ascends ids) (inside : All (λ p. p < length b.points) ids) (blocks : List (List ℕ)) (right : blocks ≡ new_blocks b rows ids) where
  abbrev n : ℕ
  n = length b.points

  abbrev fresh : ℕ → List ℕ
  fresh = row_by_id ids blocks

  pub fresh_is : (u : ℕ) → has ids u ≡ true → fresh u ≡ new_row_of b rows u
  fresh_is u h = ap (λ (bs : List (List ℕ)). row_by_id ids bs u) right ∙ row_by_id_is (new_row_of b rows) b.degree ids up u (has_true ids u h)

  below : (u : ℕ) → has ids u ≡ true → u < n
  below u h = All_has (λ p. p < n) ids u inside (has_true ids u h)

  held_from : (u : ℕ) → u < n → nat_lt u (length rows) ≡ true
  held_from u at = lt-ltb u (length rows) (subst (λ k. u < k) (sym good.count) at)

  -- the new rows are a batch over the graph
  pub batch_fits : IsBatch n b.degree (λ u. nat_lt u (length rows)) (row_in rows) (has ids) fresh ids
  batch_fits = record {
    ascend = up;
    listed = λ u. refl;
    below = λ u h. subst (λ k. u < k) good.count (ltb-true u (length rows) h);
    batch_held = λ u h. held_from u (below u h);
    old_good = λ u h. good.good u (subst (λ k. u < k) good.count (ltb-true u (length rows) h));
    fresh_good = λ u h. subst (IsGoodRow n b.degree u) (sym (fresh_is u h)) (new_row_good b starts rows good u (below u h));
    fresh_held = λ u h. subst (All (λ v. nat_lt v (length rows) ≡ true)) (sym (fresh_is u h)) (All-weaker (λ v. v < n) (λ v. nat_lt v (length rows) ≡ true) held_from (new_row_of b rows u) (new_row_good b starts rows good u (below u h)).inside);
  }

  -- and what they change is what the definition's new rows do
  pub changed_right : differing (row_in rows) (row_then n (row_in rows) fresh (has ids) (merged_row_of b)) (range_with_len 0 n) ≡ differing (row_in rows) (last_row_of b rows ids) (range_with_len 0 n)
  changed_right =
      differing_same (row_in rows) (row_then n (row_in rows) fresh (has ids) (merged_row_of b)) (last_row_of b rows ids) (range_with_len 0 n)
      (λ u _. row_then_same n (row_in rows) fresh (new_row_of b rows) (has ids) (merged_row_of b) fresh_is u)
