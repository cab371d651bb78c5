-- A batch over the rows of one layer, as they lie in memory.
use Rattle.std.proofs.Common.{◌≡◌, ℕ, ◌+◌, ◌≤◌, Bool, true, false, cond, List, [], ◌∷◌, map, length, refl, sym, ap, ◌∙◌, subst, arith}
use Rattle.std.specs.List.{All, filter, range_with_len}
use Rattle.ann_defs.specs.Graph.{has, IsGoodRow}
use Rattle.ann_defs.specs.Ordered.{Ascends}
use Rattle.ann_defs.specs.BatchInsert.{merge_of, row_then}
use Rattle.ann_defs.proofs.Members.{has_true}
use Rattle.batch_insert.specs.Batch.{IsBatch}
use Rattle.batch_insert.specs.Changes.{differing}
use Rattle.batch_insert.specs.Padded.{padded, row_by_id}
use Rattle.batch_insert.proofs.Padding.{row_by_id_is}
use Rattle.batch_insert.proofs.Differing.{differing_same}
use Rattle.batch_insert.proofs.SameRows.{row_then_same}
use Rattle.hnsw_build.specs.Layering.{is_in, top_of}
use Rattle.hnsw_build.specs.LayeredInsert.{LayeredBuild, row_of_layer, bound_of, new_row_in, inserts, row_next}
use Rattle.hnsw_build.specs.Laws.{IsLayered, AreGoodLayers}
use Rattle.hnsw_build.specs.Wanted.{batch_in, change_in}
use Rattle.hnsw_build.proofs.LevelFacts.{has_filtered}
use Rattle.hnsw_build.proofs.GoodLayers.{batch_over}

pub few_pass : (t : ℕ → Bool) (xs : List ℕ) → length (filter t xs) ≤ length xs
few_pass t [] = omega arith
few_pass t (x ∷ xs) =
    let rest = few_pass t xs in
    elim (t x) as (λ b. length (cond b (x ∷ filter t xs) (filter t xs)) ≤ length (x ∷ xs)) [ true ↦ omega arith | false ↦ omega (arith, rest) ]

module _ (b : LayeredBuild) (is : IsLayered b) (layers : List (List (List ℕ))) (good : AreGoodLayers b layers) (l : ℕ) (le : l ≤ top_of b.levels) (batch : List ℕ) (up : Ascends batch) where
  abbrev n : ℕ
  n = length b.points

  abbrev ids : List ℕ
  ids = batch_in b batch l

  abbrev blocks : List (List ℕ)
  blocks = map (λ p. padded (b.degree + 1) (new_row_in b layers l p)) ids

  over : IsBatch n (bound_of b.degree l) (is_in b.levels l) (row_of_layer layers l) (inserts b batch l) (new_row_in b layers l) ids
  over = batch_over b is layers good l le batch up

  listed : (u : ℕ) → has ids u ≡ true → inserts b batch l u ≡ true
  listed u h = has_filtered (is_in b.levels l) batch u ∙ h

  fresh_is : (u : ℕ) → has ids u ≡ true → row_by_id ids blocks u ≡ new_row_in b layers l u
  fresh_is u h = row_by_id_is (new_row_in b layers l) b.degree ids over.ascend u (has_true ids u h)

  plain : IsBatch n (bound_of b.degree l) (is_in b.levels l) (row_of_layer layers l) (has ids) (row_by_id ids blocks) ids
  plain = record {
    ascend = over.ascend;
    listed = λ u. refl;
    below = over.below;
    batch_held = λ u h. over.batch_held u (listed u h);
    old_good = over.old_good;
    fresh_good = λ u h. subst (IsGoodRow n (bound_of b.degree l) u) (sym (fresh_is u h)) (over.fresh_good u (listed u h));
    fresh_held = λ u h. subst (All (λ v. is_in b.levels l v ≡ true)) (sym (fresh_is u h)) (over.fresh_held u (listed u h));
  }

  module _ (bound : ℕ) (bound_is : bound ≡ bound_of b.degree l) (held : ℕ → Bool) (held_is : (u : ℕ) → held u ≡ is_in b.levels l u) (row : ℕ → List ℕ) (row_is : (u : ℕ) → row u ≡ row_of_layer layers l u)
      (some : List ℕ) (some_is : some ≡ ids) (got : List (List ℕ)) (got_is : got ≡ blocks) where
    held_path : held ≡ is_in b.levels l
    held_path = λ i u. held_is u i

    row_path : row ≡ row_of_layer layers l
    row_path = λ i u. row_is u i

    -- the new rows in memory are a batch over the layer
    pub layer_batch : IsBatch n bound held row (has some) (row_by_id some got) some
    layer_batch =
        subst (λ m. IsBatch n m held row (has some) (row_by_id some got) some) (sym bound_is)
        (subst (λ (h : ℕ → Bool). IsBatch n (bound_of b.degree l) h row (has some) (row_by_id some got) some) (sym held_path)
        (subst (λ (r : ℕ → List ℕ). IsBatch n (bound_of b.degree l) (is_in b.levels l) r (has some) (row_by_id some got) some) (sym row_path)
        (subst (λ (bs : List (List ℕ)). IsBatch n (bound_of b.degree l) (is_in b.levels l) (row_of_layer layers l) (has some) (row_by_id some bs) some) (sym got_is)
        (subst (λ (xs : List ℕ). IsBatch n (bound_of b.degree l) (is_in b.levels l) (row_of_layer layers l) (has xs) (row_by_id xs blocks) xs) (sym some_is) plain))))

    -- and what they change is the definition's
    pub layer_changed : differing row (row_then n row (row_by_id some got) (has some) (merge_of b.points 1 1 bound)) (range_with_len 0 n) ≡ change_in b layers batch l
    layer_changed =
        (λ i. differing (row_path i) (row_then n (row_path i) (row_by_id (some_is i) (got_is i)) (has (some_is i)) (merge_of b.points 1 1 (bound_is i))) (range_with_len 0 n))
        ∙ differing_same (row_of_layer layers l) (row_then n (row_of_layer layers l) (row_by_id ids blocks) (has ids) (merge_of b.points 1 1 (bound_of b.degree l))) (row_next b layers batch l) (range_with_len 0 n)
        (λ u _.
        row_then_same n (row_of_layer layers l) (row_by_id ids blocks) (new_row_in b layers l) (has ids) (merge_of b.points 1 1 (bound_of b.degree l)) fresh_is u
        ∙ ap (λ (h : ℕ → Bool). row_then n (row_of_layer layers l) (new_row_in b layers l) h (merge_of b.points 1 1 (bound_of b.degree l)) u) (λ i v. sym (has_filtered (is_in b.levels l) batch v) i))
