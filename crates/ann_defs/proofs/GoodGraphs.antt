-- Good rows make a graph that a search can go through, and a batch keeps them good.
use Rattle.std.proofs.Common.{◌≡◌, ◌≢◌, ℕ, zero, suc, ◌<◌, Bool, true, false, cond, List, [], ◌∷◌, ◌++◌, length, refl, sym, subst, inl, inr, arith}
use Rattle.std.specs.Prelude.{◌==◌, ◌&&◌, ◌+◌, ◌%◌, nat_eq, nat_lt}
use Rattle.std.specs.List.{All, IsDistinct, range_with_len}
use Rattle.std.proofs.lemmas.Bool.{ltb-true, lt-ltb}
use Rattle.std.proofs.lemmas.List.{length-replicate, get_or-replicate}
use Rattle.std.proofs.lemmas.List.Elements.{All-nil, All-weaker}
use Rattle.std.proofs.lemmas.List.FromFn.{length-map-range_with_len, get_or-map-range_with_len}
use Rattle.ann_defs.specs.declared.near.Near.{Near}
use Rattle.ann_defs.specs.Distance.{point}
use Rattle.ann_defs.specs.Ordered.{Has}
use Rattle.ann_defs.specs.Nearness.{ids_of}
use Rattle.ann_defs.specs.Graph.{has, without, row_in, IsGraph, IsGoodRow, AreGoodRows}
use Rattle.ann_defs.specs.GreedySearch.{search_of, start_of, visited_of}
use Rattle.ann_defs.specs.RobustPrune.{pruned_row}
use Rattle.ann_defs.specs.BatchInsert.{Build, merge_with, laid_row, sources_to, row_then, new_row_of, last_row_of, batch_step, at_batch, graph_after, batch_at, total_of}
use Rattle.ann_defs.proofs.Order.{has-map, All_has}
use Rattle.ann_defs.proofs.Members.{all_from_has, has-append, filter_has, has_true, distinct_once, Once-filter, and_both, range_has, range_once}
use Rattle.ann_defs.proofs.SearchStates.{IsSound, sound_start, sound_walk}
use Rattle.ann_defs.proofs.GoodRows.{prune_without_good, merged_good}

-- good rows of n points are a graph, for any word that says which ids are below n
pub good_graph : (n degree : ℕ) (held : ℕ → Bool) (rows : List (List ℕ)) → ((u : ℕ) → held u ≡ true → u < n) → ((u : ℕ) → u < n → held u ≡ true) → AreGoodRows n degree rows → IsGraph n held (row_in rows)
good_graph n degree held rows below above good = record {
  below = below;
  inside = λ u h. All-weaker (λ v. v < n) (λ v. held v ≡ true) above (row_in rows u) (good.good u (below u h)).inside;
  distinct = λ u h. (good.good u (below u h)).distinct;
}

-- whether an id is below n
abbrev pub is_below : ℕ → ℕ → Bool
is_below n u = nat_lt u n

pub graph_from_good : (n degree : ℕ) (rows : List (List ℕ)) → AreGoodRows n degree rows → IsGraph n (is_below n) (row_in rows)
graph_from_good n degree rows good = good_graph n degree (is_below n) rows (λ u h. ltb-true u n h) (λ u h. lt-ltb u n h) good

-- a search from one point visits points
pub visited_below : (points : List (List ℕ)) (degree : ℕ) (rows : List (List ℕ)) (query : List ℕ) (beam start : ℕ) → AreGoodRows (length points) degree rows → start < length points → (u : ℕ) → Has (ids_of (visited_of points (row_in rows) query beam (start ∷ []))) u → u < length points
visited_below points degree rows query beam start good at u h =
    let n = length points in
    let first : All (λ v. is_below n v ≡ true) (start ∷ []) = all_from_has (λ v. is_below n v ≡ true) (start ∷ []) (λ v m. elim m as (λ _. is_below n v ≡ true) [ inl e ↦ subst (λ (w : ℕ). is_below n w ≡ true) e (lt-ltb start n at) | inr k ↦ absurd k ]) in
    let sound : IsSound points (row_in rows) query beam (is_below n) (search_of points (row_in rows) query beam (start ∷ [])) =
    sound_walk points (row_in rows) query beam (is_below n) (graph_from_good n degree rows good) n (start_of points (row_in rows) query beam (start ∷ []))
    (sound_start points (row_in rows) query beam (is_below n) (start ∷ []) first) in
    let from = has-map (λ (y : Near). y.id) (visited_of points (row_in rows) query beam (start ∷ [])) u h in
    subst (λ (v : ℕ). v < n) from.2 (ltb-true from.0.id n (sound.visited_right from.0 from.1).0)

-- a batch over good rows, whose new rows are good, with a prune that gives good rows
module _ (n bound : ℕ) (old fresh : ℕ → List ℕ) (batch : ℕ → Bool) (prune : ℕ → List ℕ → List ℕ) where
  abbrev merged : ℕ → List ℕ → List ℕ → List ℕ
  merged = merge_with prune bound

  abbrev proposes : ℕ → ℕ → Bool
  proposes t p = batch p && has (fresh p) t

  -- the sources of a target are distinct points
  pub sources_inside : (t : ℕ) → All (λ v. v < n) (sources_to n old fresh batch merged t)
  sources_inside t = all_from_has (λ v. v < n) (sources_to n old fresh batch merged t) (λ p h. let within = range_has 0 n p (filter_has (proposes t) (range_with_len 0 n) p h).0 in omega (arith, within.1))

  pub sources_distinct : (t : ℕ) → IsDistinct nat_eq (sources_to n old fresh batch merged t)
  sources_distinct t = distinct_once (sources_to n old fresh batch merged t) (Once-filter (proposes t) (range_with_len 0 n) (range_once 0 n))

  module _ (fresh_good : (u : ℕ) → u < n → batch u ≡ true → IsGoodRow n bound u (fresh u)) where
    -- and other than the target, since no new row holds its own point
    pub sources_others : (t : ℕ) → t < n → All (λ v. v ≢ t) (sources_to n old fresh batch merged t)
    sources_others t at = all_from_has (λ v. v ≢ t) (sources_to n old fresh batch merged t) (λ p h e.
        let passed = and_both (batch p) (has (fresh p) t) (filter_has (proposes t) (range_with_len 0 n) p h).1 in
        let own : batch t ≡ true = subst (λ (w : ℕ). batch w ≡ true) e passed.0 in
        All_has (λ v. v ≢ t) (fresh t) t (fresh_good t at own).others (has_true (fresh t) t (subst (λ (w : ℕ). has (fresh w) t ≡ true) e passed.1)) refl)

    module _ (old_good : (u : ℕ) → u < n → IsGoodRow n bound u (old u)) where
      pub laid_good : (u : ℕ) → u < n → IsGoodRow n bound u (laid_row n old fresh batch merged u)
      laid_good u at =
          elim (batch u) as (λ c. batch u ≡ c → IsGoodRow n bound u (cond c (fresh u) (old u))) [ true ↦ λ e. fresh_good u at e | false ↦ λ _. old_good u at ] refl

      -- the row of each point after the batch is good
      pub row_then_good : ((t : ℕ) (set : List ℕ) → ((u : ℕ) → Has set u → u < n) → IsGoodRow n bound t (prune t (without t set)))
          → (t : ℕ) → t < n → IsGoodRow n bound t (row_then n old fresh batch merged t)
      row_then_good prunes t at =
          let sources = sources_to n old fresh batch merged t in
          let laid = laid_row n old fresh batch merged t in
          elim (length sources == 0) as (λ c. IsGoodRow n bound t (cond c laid (merged t laid sources))) [
            | true ↦ laid_good t at
            | false ↦ merged_good n bound t bound prune laid sources (prunes t) (laid_good t at) (sources_inside t) (sources_distinct t) (sources_others t at)
          ]

module _ (b : Build) where
  abbrev n : ℕ
  n = length b.points

  abbrev prune : ℕ → List ℕ → List ℕ
  prune t set = pruned_row b.points t set b.num b.den b.degree

  module _ (starts : b.start < length b.points) where
    module _ (rows : List (List ℕ)) (good : AreGoodRows n b.degree rows) where
      -- the new row of a point, in a good graph
      pub new_row_good : (p : ℕ) → p < n → IsGoodRow n b.degree p (new_row_of b rows p)
      new_row_good p at =
          let visited = ids_of (visited_of b.points (row_in rows) (point b.points p) b.beam (b.start ∷ [])) in
          prune_without_good b.points p (visited ++ row_in rows p) b.num b.den b.degree n
          (λ u h. elim (has-append visited (row_in rows p) u h) as (λ _. u < n) [
            | inl m ↦ visited_below b.points b.degree rows (point b.points p) b.beam b.start good starts u m
            | inr m ↦ All_has (λ v. v < n) (row_in rows p) u (good.good p at).inside m
          ])

      module _ (batch : List ℕ) where
        -- the row of each point after the batch
        pub last_row_good : (t : ℕ) → t < n → IsGoodRow n b.degree t (last_row_of b rows batch t)
        last_row_good = row_then_good n b.degree (row_in rows) (new_row_of b rows) (has batch) prune (λ u at _. new_row_good u at) good.good
            (λ t set inside. prune_without_good b.points t set b.num b.den b.degree n inside)

        pub batch_step_good : AreGoodRows n b.degree (batch_step b rows batch)
        batch_step_good = record {
          count = length-map-range_with_len (last_row_of b rows batch) 0 n;
          good = λ u at. subst (IsGoodRow n b.degree u) (sym (get_or-map-range_with_len (last_row_of b rows batch) 0 n u u [] at (omega arith))) (last_row_good u at);
        }

none_good : (n degree u : ℕ) → IsGoodRow n degree u []
unfolding IsDistinct
none_good n degree u = record { inside = All-nil (λ v. v < n); distinct = tt; others = All-nil (λ v. v ≢ u); short = omega arith }

-- the graph after any number of batches is good
pub graph_after_good : (b : Build) → b.start < length b.points → (order : List ℕ) (cap k : ℕ) → AreGoodRows (length b.points) b.degree (graph_after b order cap k)
graph_after_good b starts order cap zero = record {
  count = length-replicate (length b.points) [];
  good = λ u at. subst (IsGoodRow (length b.points) b.degree u) (sym (get_or-replicate (length b.points) u [] [] at)) (none_good (length b.points) b.degree u);
}
graph_after_good b starts order cap (suc k) =
    let pass = total_of (length order) cap in
    batch_step_good (at_batch b pass (suc k)) starts (graph_after b order cap k) (graph_after_good b starts order cap k) (batch_at order cap (k % pass + 1))
