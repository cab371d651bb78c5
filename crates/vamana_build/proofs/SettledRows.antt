-- How the counts of ids that stay together go on.
use Rattle.std.proofs.Common.{◌≡◌, ℕ, ◌+◌, ◌<◌, ◌≤◌, Bool, true, false, cond, not, List, [], ◌∷◌, ◌++◌, take, drop, set, length, replicate, refl, sym, ap, ◌∙◌, subst, inl, inr, arith, length-append}
use Rattle.std.specs.Prelude.{◌==◌, ◌⊎◌, nat_le, slice_index, slice_index_or}
use Rattle.std.specs.List.{filter, range_with_len}
use Rattle.std.proofs.lemmas.Bool.{le-leb, leb-true, eqb-true, eqb-false, true≢false}
use Rattle.std.proofs.lemmas.Bool.Decides.{Decides-eqb}
use Rattle.std.proofs.lemmas.List.{take_all, take-append-le, drop_more, drop_all, get_or-set_same, get_or-set_other, length-set, get_or-replicate, length-replicate}
use Rattle.std.proofs.lemmas.List.Elements.{Contains-get_or}
use Rattle.std.proofs.lemmas.List.FromFn.{length-range_with_len, get_or-range_with_len}
use Rattle.std.proofs.lemmas.Slice.Eq.{starts_is}
use Rattle.ann_defs.specs.Distance.{point}
use Rattle.ann_defs.specs.Nearness.{ids_of}
use Rattle.ann_defs.specs.GreedySearch.{search_of}
use Rattle.ann_defs.specs.Ordered.{Has}
use Rattle.ann_defs.specs.Graph.{has, row_in, without, AreGoodRows}
use Rattle.ann_defs.specs.BatchInsert.{Build, new_row_of, last_row_of, merged_row_of, sources_to}
use Rattle.ann_defs.proofs.Order.{has_from_Contains, has-map}
use Rattle.ann_defs.proofs.Members.{has-mapped, has-filter, filter_has, and_both, both_and, range_has}
use Rattle.ann_defs.proofs.GoodGraphs.{last_row_good}
use Rattle.batch_insert.specs.Changes.{differing}
use Rattle.batch_insert.specs.Batch.{laid_over}
use Rattle.batch_insert.proofs.Differing.{differs, same_row, entry}
use Rattle.robust_prune.specs.Apart.{are_apart}
use Rattle.robust_prune.proofs.Apart.{pruned_apart}
use Rattle.ann_defs.specs.RobustPrune.{pruned_row}
use Rattle.vamana_build.proofs.NewRowFacts.{new_row_short}
use Rattle.vamana_build.specs.Settled.{are_settled, laid_count, begins, AreSettled}

-- up to changed row j
pub record AreSettledTo (b : Build) (old new : ℕ → List ℕ) (changed : List (ℕ × List ℕ)) (j : ℕ) (before counts : List ℕ) : Type 0 where
  pub whole : length counts ≡ length b.points
  pub known : (u : ℕ) → u < length b.points → (are_settled b u (new u) (slice_index counts u) ≡ true) ⊎ (Has (drop j changed) (u, new u) × (slice_index counts u ≡ slice_index before u))

-- what begins with a list
begins_with : (row laid : List ℕ) → begins row laid ≡ true → row ≡ laid ++ drop (length laid) row
begins_with row laid h = (starts_is Decides-eqb row laid (begins row laid) refl).0 h

begun : (row laid rest : List ℕ) → row ≡ laid ++ rest → begins row laid ≡ true
begun row laid rest e = (starts_is Decides-eqb row laid (begins row laid) refl).1 rest e

append-nothing : (xs : List ℕ) → xs ≡ xs ++ []
append-nothing [] = refl
append-nothing (x ∷ xs) = ap (λ ys. x ∷ ys) (append-nothing xs)

has_range : (n u : ℕ) → u < n → Has (range_with_len 0 n) u
has_range n u at =
    let z : 0 + u ≡ u = omega arith in
    has_from_Contains (range_with_len 0 n) u (u, subst (λ m. u < m) (sym (length-range_with_len 0 n)) at, get_or-range_with_len 0 n u u at ∙ z)

module _ (b : Build) (u : ℕ) where
  -- all of a row that is apart
  pub settled_whole : (row : List ℕ) → are_apart b.points b.num b.den u row ≡ true → are_settled b u row (length row) ≡ true
  settled_whole row h =
      both_and (nat_le (length row) (length row)) (are_apart b.points b.num b.den u (take (length row) row)) (le-leb (length row) (length row) (omega arith))
      (ap (are_apart b.points b.num b.den u) (take_all (length row) row (omega arith)) ∙ h)

  -- a row that begins with another has what is settled there
  pub settled_front : (row laid : List ℕ) (count : ℕ) → begins row laid ≡ true → are_settled b u laid count ≡ true → are_settled b u row count ≡ true
  settled_front row laid count front h =
      let is = begins_with row laid front in
      let both = and_both (nat_le count (length laid)) (are_apart b.points b.num b.den u (take count laid)) h in
      let few : count ≤ length laid = leb-true count (length laid) both.0 in
      let long : length row ≡ length laid + length (drop (length laid) row) = ap length is ∙ length-append laid (drop (length laid) row) in
      let same : take count row ≡ take count laid = ap (take count) is ∙ take-append-le count laid (drop (length laid) row) few in
      both_and (nat_le count (length row)) (are_apart b.points b.num b.den u (take count row)) (le-leb count (length row) (omega arith))
      (ap (are_apart b.points b.num b.den u) same ∙ both.1)

module _ (b : Build) (rows : List (List ℕ)) (batch : List ℕ) where
  abbrev n : ℕ
  n = length b.points

  abbrev pub laid : ℕ → List ℕ
  laid = laid_over (row_in rows) (has batch) (new_row_of b rows)

  abbrev pub new : ℕ → List ℕ
  new = last_row_of b rows batch

  -- a row after the batch begins with the laid one, or is a prune's
  forms : (u : ℕ) → ((rest : List ℕ) × (new u ≡ laid u ++ rest)) ⊎ ((set : List ℕ) × (new u ≡ pruned_row b.points u set b.num b.den b.degree))
  forms u =
      let sources = sources_to n (row_in rows) (new_row_of b rows) (has batch) (merged_row_of b) u in
      let added = laid u ++ filter (λ x. not (has (laid u) x)) sources in
      let prune = pruned_row b.points u (without u added) b.num b.den b.degree in
      elim (length sources == 0) as (λ c. ((rest : List ℕ) × (cond c (laid u) (cond (nat_le (length added) b.degree) added prune) ≡ laid u ++ rest)) ⊎ ((set : List ℕ) × (cond c (laid u) (cond (nat_le (length added) b.degree) added prune) ≡ pruned_row b.points u set b.num b.den b.degree))) [
        | true ↦ inl ([], append-nothing (laid u))
        | false ↦ elim (nat_le (length added) b.degree) as (λ c. ((rest : List ℕ) × (cond c added prune ≡ laid u ++ rest)) ⊎ ((set : List ℕ) × (cond c added prune ≡ pruned_row b.points u set b.num b.den b.degree))) [
          | true ↦ inl (filter (λ x. not (has (laid u) x)) sources, refl)
          | false ↦ inr (without u added, refl)
        ]
      ]

  fresh_apart : (u : ℕ) → are_apart b.points b.num b.den u (new_row_of b rows u) ≡ true
  fresh_apart u = pruned_apart b.points b.num b.den u (without u (ids_of (search_of b.points (row_in rows) (point b.points u) b.beam (b.start ∷ [])).visited ++ row_in rows u)) b.degree

  -- the rows as the batch lays them, and those after it, are short
  module _ (starts : b.start < n) (good : AreGoodRows n b.degree rows) where
    pub laid_short : (u : ℕ) → u < n → length (laid u) ≤ b.degree
    laid_short u at =
        elim (has batch u) as (λ c. length (cond c (new_row_of b rows u) (row_in rows u)) ≤ b.degree) [
          | true ↦ new_row_short b rows u
          | false ↦ (good.good u at).short
        ]

    pub new_short : (u : ℕ) → u < n → length (new u) ≤ b.degree
    new_short u at = (last_row_good b starts rows good batch u at).short

  -- the counts of the rows as the batch lays them
  pub laid_settled : (counts : List ℕ) → AreSettled b (row_in rows) counts → (u : ℕ) → u < n → are_settled b u (laid u) (laid_count batch counts u (laid u)) ≡ true
  laid_settled counts a u at =
      elim (has batch u) as (λ c. are_settled b u (cond c (new_row_of b rows u) (row_in rows u)) (cond c (length (cond c (new_row_of b rows u) (row_in rows u))) (slice_index counts u)) ≡ true) [
        | true ↦ settled_whole b u (new_row_of b rows u) (fresh_apart u)
        | false ↦ a.apart u at
      ]

  module _ (before counts : List ℕ) (a : AreSettled b (row_in rows) before) (u : ℕ) (at : u < n) where
    -- where the row begins with the laid one
    front_settled : begins (new u) (laid u) ≡ true → (are_settled b u (new u) (slice_index counts u) ≡ true) ⊎ (slice_index counts u ≡ slice_index before u) → are_settled b u (new u) (laid_count batch counts u (laid u)) ≡ true
    front_settled begun known =
        elim known as (λ _. are_settled b u (new u) (laid_count batch counts u (laid u)) ≡ true) [
          | inl k ↦ elim (has batch u) as (λ c. has batch u ≡ c → are_settled b u (new u) (cond c (length (laid u)) (slice_index counts u)) ≡ true) [
            | true ↦ λ e. settled_front b u (new u) (laid u) (length (laid u)) begun (sym (ap (λ c. are_settled b u (laid u) (cond c (length (laid u)) (slice_index before u))) e) ∙ laid_settled before a u at)
            | false ↦ λ _. k
          ] refl
          | inr same ↦ settled_front b u (new u) (laid u) (laid_count batch counts u (laid u)) begun
              (ap (λ m. are_settled b u (laid u) (cond (has batch u) (length (laid u)) m)) same ∙ laid_settled before a u at)
        ]

    -- the count after the batch is right
    pub value_settled : (value : ℕ) → (begins (new u) (laid u) ≡ true → value ≡ laid_count batch counts u (laid u)) → (begins (new u) (laid u) ≡ false → value ≡ length (new u))
        → (are_settled b u (new u) (slice_index counts u) ≡ true) ⊎ (slice_index counts u ≡ slice_index before u) → are_settled b u (new u) value ≡ true
    value_settled value added pruned known =
        elim (begins (new u) (laid u)) as (λ c. begins (new u) (laid u) ≡ c → are_settled b u (new u) value ≡ true) [
          | true ↦ λ e. ap (are_settled b u (new u)) (added e) ∙ front_settled e known
          | false ↦ λ e.
              elim (forms u) as (λ _. are_settled b u (new u) value ≡ true) [
                | inl f ↦ absurd (true≢false (sym (begun (new u) (laid u) f.0 f.1) ∙ e))
                | inr f ↦ ap (are_settled b u (new u)) (pruned e) ∙ settled_whole b u (new u) (ap (are_apart b.points b.num b.den u) f.1 ∙ pruned_apart b.points b.num b.den u f.0 b.degree)
              ]
        ] refl

  module _ (changed : List (ℕ × List ℕ)) (are : changed ≡ differing (row_in rows) new (range_with_len 0 n)) where
    -- a changed row is that of a point after the batch
    changed_point : (j : ℕ) → j < length changed → ((slice_index_or changed j (0, [])).0 < n) × ((slice_index_or changed j (0, [])).1 ≡ new (slice_index_or changed j (0, [])).0)
    changed_point j within =
        let e = slice_index_or changed j (0, []) in
        let there = subst (λ (es : List (ℕ × List ℕ)). Has es e) are (has_from_Contains changed e (Contains-get_or changed j (0, []) within)) in
        let from = has-map (entry new) (filter (differs (row_in rows) new) (range_with_len 0 n)) e there in
        let inside = range_has 0 n from.0 (filter_has (differs (row_in rows) new) (range_with_len 0 n) from.0 from.1).0 in
        let id : from.0 ≡ e.0 = ap (λ (x : ℕ × List ℕ). x.0) from.2 in
        let row : new from.0 ≡ e.1 = ap (λ (x : ℕ × List ℕ). x.1) from.2 in
        (subst (λ u. u < n) id (omega (arith, inside)), sym row ∙ ap new id)

    pub changed_below : (j : ℕ) → j < length changed → (slice_index_or changed j (0, [])).0 < n
    changed_below j within = (changed_point j within).0

    pub changed_is : (j : ℕ) → j < length changed → (slice_index_or changed j (0, [])).1 ≡ new (slice_index_or changed j (0, [])).0
    changed_is j within = (changed_point j within).1

    pub settled_none : (counts : List ℕ) → AreSettled b (row_in rows) counts → AreSettledTo b (row_in rows) new changed 0 counts counts
    settled_none counts a = record {
      whole = a.whole;
      known = λ u at. elim (differs (row_in rows) new u) as (λ c. differs (row_in rows) new u ≡ c → (are_settled b u (new u) (slice_index counts u) ≡ true) ⊎ (Has changed (u, new u) × (slice_index counts u ≡ slice_index counts u))) [
        | false ↦ λ e. inl (ap (λ (row : List ℕ). are_settled b u row (slice_index counts u)) (same_row (row_in rows) new u e) ∙ a.apart u at)
        | true ↦ λ e. inr (subst (λ (es : List (ℕ × List ℕ)). Has es (u, new u)) (sym are) (has-mapped (entry new) (filter (differs (row_in rows) new) (range_with_len 0 n)) u (has-filter (differs (row_in rows) new) (range_with_len 0 n) u e (has_range n u at))), refl)
      ] refl;
    }

    pub settled_more : (before counts : List ℕ) (j id value : ℕ) → AreSettled b (row_in rows) before → j < length changed → id ≡ (slice_index_or changed j (0, [])).0 → AreSettledTo b (row_in rows) new changed j before counts
        → (begins (new id) (laid id) ≡ true → value ≡ laid_count batch counts id (laid id)) → (begins (new id) (laid id) ≡ false → value ≡ length (new id)) → AreSettledTo b (row_in rows) new changed (j + 1) before (set counts id value)
    settled_more before counts j id value a within is k added pruned =
        let inside : id < n = subst (λ u. u < n) (sym is) (changed_below j within) in
        let here : id < length counts = subst (λ m. id < m) (sym k.whole) inside in
        record {
          whole = length-set counts id value ∙ k.whole;
          known = λ u at. elim (u == id) as (λ c. (u == id) ≡ c → (are_settled b u (new u) (slice_index (set counts id value) u) ≡ true) ⊎ (Has (drop (j + 1) changed) (u, new u) × (slice_index (set counts id value) u ≡ slice_index before u))) [
            | true ↦ λ t.
                let same : u ≡ id = eqb-true u id t in
                inl (subst (λ v. are_settled b v (new v) (slice_index (set counts id value) v) ≡ true) (sym same)
                (ap (are_settled b id (new id)) (get_or-set_same counts id value 0 here)
                ∙ value_settled before counts a id inside value added pruned (elim (k.known id inside) as (λ _. (are_settled b id (new id) (slice_index counts id) ≡ true) ⊎ (slice_index counts id ≡ slice_index before id)) [ inl h ↦ inl h | inr h ↦ inr h.1 ])))
            | false ↦ λ t.
                let other : slice_index (set counts id value) u ≡ slice_index counts u = get_or-set_other counts id u value 0 (eqb-false u id t) in
                elim (k.known u at) as (λ _. (are_settled b u (new u) (slice_index (set counts id value) u) ≡ true) ⊎ (Has (drop (j + 1) changed) (u, new u) × (slice_index (set counts id value) u ≡ slice_index before u))) [
                  | inl h ↦ inl (ap (are_settled b u (new u)) other ∙ h)
                  | inr h ↦ elim (subst (λ (es : List (ℕ × List ℕ)). Has es (u, new u)) (drop_more changed j (0, []) within) h.0) as (λ _. (are_settled b u (new u) (slice_index (set counts id value) u) ≡ true) ⊎ (Has (drop (j + 1) changed) (u, new u) × (slice_index (set counts id value) u ≡ slice_index before u))) [
                    | inl q ↦ absurd (eqb-false u id t (sym (is ∙ ap (λ (x : ℕ × List ℕ). x.0) q)))
                    | inr m ↦ inr (m, other ∙ h.1)
                  ]
                ]
          ] refl;
        }

    pub settled_all : (before counts : List ℕ) (j : ℕ) → length changed ≤ j → AreSettledTo b (row_in rows) new changed j before counts → AreSettled b new counts
    settled_all before counts j done k = record {
      whole = k.whole;
      apart = λ u at. elim (k.known u at) as (λ _. are_settled b u (new u) (slice_index counts u) ≡ true) [
        | inl h ↦ h
        | inr h ↦ absurd (subst (λ (es : List (ℕ × List ℕ)). Has es (u, new u)) (drop_all j changed done) h.0)
      ];
    }

-- rows laid over others, where the new ones agree
pub laid_same : (old fresh fresh' : ℕ → List ℕ) (batch : ℕ → Bool) → ((u : ℕ) → batch u ≡ true → fresh u ≡ fresh' u) → (u : ℕ) → laid_over old batch fresh u ≡ laid_over old batch fresh' u
laid_same old fresh fresh' batch same u =
    elim (batch u) as (λ c. batch u ≡ c → cond c (fresh u) (old u) ≡ cond c (fresh' u) (old u)) [ true ↦ λ e. same u e | false ↦ λ _. refl ] refl

-- of rows that agree
pub settled_same : (b : Build) (row row' : ℕ → List ℕ) (counts : List ℕ) → ((u : ℕ) → u < length b.points → row u ≡ row' u) → AreSettled b row counts → AreSettled b row' counts
settled_same b row row' counts same a = record {
  whole = a.whole;
  apart = λ u at. ap (λ (r : List ℕ). are_settled b u r (slice_index counts u)) (sym (same u at)) ∙ a.apart u at;
}

-- before the first batch
pub settled_empty : (b : Build) (counts : List ℕ) → counts ≡ replicate (length b.points) 0 → AreSettled b (row_in (replicate (length b.points) [])) counts
settled_empty b counts is = record {
  whole = ap length is ∙ length-replicate (length b.points) 0;
  apart = λ u at. (λ i. are_settled b u (get_or-replicate (length b.points) u [] [] at i) (slice_index (is i) u)) ∙ ap (are_settled b u []) (get_or-replicate (length b.points) u 0 0 at);
}
