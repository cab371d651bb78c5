-- The next batch of a build.
use Rattle.std.proofs.Common.{◌≡◌, ℕ, suc, [], map, ◌+◌, ◌<◌, ◌≤◌, true, false, cond, List, length, Option, Some, None, min, refl, sym, ap, ◌∙◌, subst, arith}
use Rattle.std.specs.Prelude.{◌↔◌, nat_lt, IsSome, IsNone, IfSome}
use Rattle.std.proofs.lemmas.Bool.{ltb-true, lt-ltb, ltb-false, le-ltb, true≢false}
use Rattle.ann_defs.specs.BatchInsert.{bound_at, total_of}
use Rattle.beam_search.specs.Room.{Room}
use Rattle.graph_rows.specs.Flat.{Flat}
use Rattle.prefix_batches.specs.Progress.{Progress}
use Rattle.steal_pool.specs.Work.{AllServe}
use Rattle.steal_pool.specs.declared.post.Post.{Post}
use Rattle.beam_search.specs.Serving.{Serves}
use Rattle.std.specs.Prelude.{slice_index_or}
use Rattle.std.specs.List.{range_with_len}
use Rattle.ann_defs.specs.BatchInsert.{batch_at}
use Rattle.graph_rows.specs.Layers.{Layered}
use Rattle.batch_insert.specs.Changes.{put_all, put_all_in_layer}
use Rattle.hnsw_build.specs.declared.settings.HnswSettings.{HnswSettings}
use Rattle.hnsw_build.specs.Layering.{top_of}
use Rattle.hnsw_build.specs.HnswBuilds.{batch_cap, batches_of, order_of, build_of, layers_at}
use Rattle.hnsw_build.specs.Building.{next_of, IsBuilt}
use Rattle.hnsw_build.specs.Laws.{IsLayered}
use Rattle.hnsw_build.specs.Wanted.{change_in}
use Rattle.hnsw_build.proofs.Stepping.{base_next, upper_next}

module _ (points : List (List ℕ)) (s : HnswSettings) where
  abbrev total : ℕ
  total = batches_of points s

  abbrev at : ℕ → Progress
  at k = record { n = length points; cap = batch_cap points s; done = k }

  -- the places of the batch after the first k
  abbrev places : ℕ → ℕ × ℕ
  places k = (bound_at (length points) (batch_cap points s) k, bound_at (length points) (batch_cap points s) (k + 1))

  -- where there is a next batch, not all are in
  pub some_left : (k : ℕ) (o : Option (ℕ × ℕ)) (b : ℕ × ℕ) → o ≡ next_of points s k → o ≡ Some b → k < total
  some_left k o b e h =
      elim (nat_lt k total) as (λ t. nat_lt k total ≡ t → cond {A = Option (ℕ × ℕ)} t (Some (places k)) None ≡ Some b → k < total) [
        | true ↦ λ t _. ltb-true k total t
        | false ↦ λ _ q. cc
      ] refl (sym e ∙ h)

  -- what the batches give after the first k
  pub record IsNext (k : ℕ) (old new : Progress) (next : Option (ℕ × ℕ)) : Type 0 where
    pub counted : IsSome next ↔ (old.done < total_of old.n old.cap)
    pub bounds : IfSome next (λ b. b ≡ (bound_at old.n old.cap old.done, bound_at old.n old.cap (old.done + 1)))
    pub fits : IfSome next (λ b. (b.0 < b.1) × (b.1 ≤ old.n))
    pub given : IfSome next (λ _. new ≡ record { n = old.n; cap = old.cap; done = old.done + 1 })
    pub same : IsNone next → new ≡ old

  next_at : (k : ℕ) (new : Progress) (next : Option (ℕ × ℕ)) → k ≤ total → IsNext k (at k) new next → (next ≡ next_of points s k) × (new ≡ at (min (k + 1) total))
  next_at k new None within h =
      let past : total ≤ k = not_below k (λ less. let some : IsSome {T = ℕ × ℕ} None = h.counted.1 less in true≢false (sym some)) in
      let count : k ≡ min (k + 1) total = omega (arith, past) in
      (sym (ap (λ t. cond {A = Option (ℕ × ℕ)} t (Some (places k)) None) (le-ltb k total past)), h.same refl ∙ ap at count)
    where
      not_below : (k : ℕ) → (k < total → ⊥) → total ≤ k
      not_below k f = elim (nat_lt k total) as (λ t. nat_lt k total ≡ t → total ≤ k) [ true ↦ λ e. absurd (f (ltb-true k total e)) | false ↦ λ e. ltb-false k total e ] refl
  next_at k new (Some b) within h =
      let less : k < total = h.counted.0 refl in
      let count : k + 1 ≡ min (k + 1) total = omega (arith, less) in
      (ap Some h.bounds ∙ sym (ap (λ t. cond {A = Option (ℕ × ℕ)} t (Some (places k)) None) (lt-ltb k total less)), h.given ∙ ap at count)

  pub next_is : (k : ℕ) (old new : Progress) (next : Option (ℕ × ℕ)) → k ≤ total → old ≡ at k → IsNext k old new next → (next ≡ next_of points s k) × (new ≡ at (min (k + 1) total)) × IfSome next (λ b. (b.0 < b.1) × (b.1 ≤ length points))
  next_is k old new next within e h =
      let here : IsNext k (at k) new next = subst (λ (o : Progress). IsNext k o new next) e h in
      let told = next_at k new next within here in
      (told.0, told.1, here.fits)

  -- one batch more
  pub stepped : (levels : List ℕ) (is : IsLayered (build_of points s levels)) (k : ℕ) (base base' : Flat) (upper upper' : List Layered) (batches batches' : Progress) (next next' : Option (ℕ × ℕ)) (posts posts' : List (Post Room)) (b : ℕ × ℕ) (changed : List (ℕ × List ℕ)) (changes : List (List (ℕ × List ℕ)))
      → IsBuilt points s levels k base upper batches next posts → next ≡ Some b
      → changed ≡ change_in (build_of points s levels) (layers_at points s levels k) (batch_at (order_of points s levels) (batch_cap points s) (suc k)) 0
      → changes ≡ map (change_in (build_of points s levels) (layers_at points s levels k) (batch_at (order_of points s levels) (batch_cap points s) (suc k))) (range_with_len 1 (top_of levels))
      → base' ≡ put_all base changed → length upper' ≡ length upper
      → ((j : ℕ) (d : Layered) → j < length upper → slice_index_or upper' j d ≡ put_all_in_layer (slice_index_or upper j d) (slice_index_or changes j []))
      → IsNext (k + 1) batches batches' next' → AllServe (Serves (length points) s.beam) posts' → length posts' ≡ length posts → IsBuilt points s levels (k + 1) base' upper' batches' next' posts'
  stepped levels is k base base' upper upper' batches batches' next next' posts posts' b changed changes built some first others put same each more serve count =
      let less = some_left k next b built.next_is some in
      let done : min (k + 1) total ≡ k + 1 = omega (arith, less) in
      let told = next_is (k + 1) batches batches' next' (omega (arith, less)) (built.batches_are ∙ ap at done) more in
      record {
        base_is = put ∙ (λ i. put_all (built.base_is i) (first i)) ∙ base_next points s levels is k;
        upper_is = upper_next points s levels is k upper upper' changes built.upper_is others same each;
        words = built.words;
        within = omega (arith, less);
        few = built.few;
        batches_are = told.1;
        next_is = told.0;
        next_fits = told.2;
        serve = serve;
        workers = (subst (λ m. 1 ≤ m) (sym count) built.workers.0, subst (λ m. m ≤ 64) (sym count) built.workers.1);
      }
