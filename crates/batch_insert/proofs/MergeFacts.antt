-- What a merge of a batch meets.
use Rattle.std.proofs.Common.{◌≡◌, ◌≢◌, ℕ, ◌<◌, ◌≤◌, Bool, true, false, cond, List, [], ◌∷◌, map, length, refl, sym, ap, ◌∙◌, subst, inl, inr, arith}
use Rattle.std.specs.Prelude.{◌==◌, ◌⊎◌, nat_eq}
use Rattle.std.specs.List.{list_any}
use Rattle.std.specs.Ordering.{nat_cmp}
use Rattle.std.specs.declared.cmp.Ordering.TheVariants.{Less}
use Rattle.std.proofs.lemmas.Bool.{eqb-true, eq-eqb, ne_eqb, true≢false, or_cases}
use Rattle.std.proofs.lemmas.Cmp.{ranked}
use Rattle.std.proofs.lemmas.Map.Steps.{length-le_from_distinct_below}
use Rattle.ann_defs.specs.Graph.{has, IsGoodRow}
use Rattle.ann_defs.specs.Ordered.{Has, Rises, ordered}
use Rattle.ann_defs.specs.BatchInsert.{sources_to, row_then}
use Rattle.ann_defs.proofs.Order.{fold_has, has_fold_new, has-map, All_has, below_has}
use Rattle.ann_defs.proofs.Members.{Once, distinct_once, has-mapped, filter_has, has-filter, true_has}
use Rattle.ann_defs.proofs.GoodGraphs.{sources_inside, sources_distinct, sources_others}
use Rattle.batch_insert.specs.declared.pair.Pair.{Pair}
use Rattle.batch_insert.specs.Sources.{sources_in, AreSources}
use Rattle.batch_insert.specs.Proposing.{pair_cmp, targets_of, proposed_to}
use Rattle.batch_insert.specs.Proposed.{proposed}
use Rattle.batch_insert.specs.Batch.{IsBatch, AreTargets, laid_over}
use Rattle.batch_insert.specs.Wanted.{merge_at}
use Rattle.batch_insert.proofs.Grouping.{nat_order, pair_order, targets_rise}
use Rattle.batch_insert.proofs.Ascending.{rises}
use Rattle.batch_insert.proofs.Sources.{sources_right, pair_from, from_pair, grouped_from, in_batch}

no_member : (xs : List ℕ) (x : ℕ) → length xs ≡ 0 → Has xs x → ⊥
no_member [] x e h = h
no_member (y ∷ xs) x e h = omega (arith, e)

no_length : (xs : List ℕ) → ((x : ℕ) → Has xs x → ⊥) → length xs ≡ 0
no_length [] h = refl
no_length (x ∷ xs) h = absurd (h x (inl refl))

pub rises_once : (xs : List ℕ) → Rises nat_cmp xs → Once xs
rises_once [] h = tt
rises_once (x ∷ xs) h = (λ m. let less : x < x = ranked x x Less (sym (below_has nat_cmp nat_order x x xs h.0 m)) in omega arith, rises_once xs h.1)

has_any : (xs : List ℕ) (q : ℕ) → list_any (nat_eq q) xs ≡ true → Has xs q
has_any [] q h = cc
has_any (x ∷ xs) q h = elim (or_cases (nat_eq q x) (list_any (nat_eq q) xs) h) as (λ _. (x ≡ q) ⊎ Has xs q) [ inl e ↦ inl (sym (eqb-true q x e)) | inr m ↦ inr (has_any xs q m) ]

-- numbers that ascend below n are at most n
pub rising_few : (xs : List ℕ) (n : ℕ) → Rises nat_cmp xs → ((u : ℕ) → Has xs u → u < n) → length xs ≤ n
rising_few xs n up inside = length-le_from_distinct_below xs n (distinct_once xs (rises_once xs up)) (λ q h. inside q (has_any xs q h))

-- there are no more sources than points
pub sources_few : (n t : ℕ) (xs : List ℕ) → AreSources n t xs → length xs ≤ n
sources_few n t xs are = length-le_from_distinct_below xs n are.distinct (λ q h. All_has (λ v. v < n) xs q are.inside (has_any xs q h))

module _ (n bound : ℕ) (held : ℕ → Bool) (old : ℕ → List ℕ) (batch : ℕ → Bool) (fresh : ℕ → List ℕ) (ids : List ℕ) (fits : IsBatch n bound held old batch fresh ids) (merged : ℕ → List ℕ → List ℕ → List ℕ) where
  abbrev pairs : List Pair
  pairs = proposed fresh ids

  abbrev grouped : List Pair
  grouped = ordered pair_cmp pairs

  abbrev laid : ℕ → List ℕ
  laid = laid_over old batch fresh

  abbrev sources : ℕ → List ℕ
  sources t = sources_to n old fresh batch merged t

  abbrev right : (t : ℕ) → sources_in (proposed_to grouped t) ≡ sources t
  right = sources_right n bound held old batch fresh ids fits merged

  -- a target is proposed by some
  target_from : (t : ℕ) → Has (targets_of grouped) t → (p : ℕ) × Has ids p × Has (fresh p) t
  target_from t h =
      let from = has-map (λ (q : Pair). q.target) grouped t (elim (fold_has nat_cmp [] (map (λ (q : Pair). q.target) grouped) t h) as (λ _. Has (map (λ (q : Pair). q.target) grouped) t) [ inl m ↦ absurd m | inr m ↦ m ]) in
      let told = pair_from n bound held old batch fresh ids fits merged from.0 (grouped_from n bound held old batch fresh ids fits merged from.0 from.1) in
      (from.0.source, told.0, subst (Has (fresh from.0.source)) from.2 told.1)

  pub target_held : (t : ℕ) → Has (targets_of grouped) t → held t ≡ true
  target_held t h =
      let from = target_from t h in
      All_has (λ v. held v ≡ true) (fresh from.0) t (fits.fresh_held from.0 (in_batch n bound held old batch fresh ids fits merged from.0 from.1)) from.2

  pub target_inside : (t : ℕ) → Has (targets_of grouped) t → t < n
  target_inside t h = fits.below t (target_held t h)

  -- a row of a held id is good
  pub laid_good : (u : ℕ) → held u ≡ true → IsGoodRow n bound u (laid u)
  laid_good u h = elim (batch u) as (λ c. batch u ≡ c → IsGoodRow n bound u (cond c (fresh u) (old u))) [ true ↦ λ e. fits.fresh_good u e | false ↦ λ _. fits.old_good u h ] refl

  are_sources : (t : ℕ) → t < n → AreSources n t (sources t)
  are_sources t at = record {
    inside = sources_inside n bound old fresh batch (λ _ _. []) t;
    distinct = sources_distinct n bound old fresh batch (λ _ _. []) t;
    others = sources_others n bound old fresh batch (λ _ _. []) (λ u _ h. fits.fresh_good u h) t at;
  }

  pub targets_right : AreTargets n bound held laid grouped
  targets_right = record {
    held_all = target_held;
    inside = target_inside;
    good = λ t h. laid_good t (target_held t h);
    sources = λ t h. subst (AreSources n t) (sym (right t)) (are_sources t (target_inside t h));
  }

  source_has : (t : ℕ) (z : Pair) → Has (proposed_to grouped t) z → Has (sources t) z.source
  source_has t z h = subst (λ (xs : List ℕ). Has xs z.source) (right t) (has-mapped (λ (q : Pair). q.source) (proposed_to grouped t) z h)

  source_there : (t p : ℕ) → Has ids p → Has (fresh p) t → Has (sources t) p
  source_there t p h k =
      source_has t (record { target = t; source = p })
      (has-filter (λ (q : Pair). q.target == t) grouped (record { target = t; source = p }) (eq-eqb t t refl) (has_fold_new pair_cmp pair_order.exact [] pairs _ (from_pair n bound held old batch fresh ids fits merged t p h k)))

  target_there : (t p : ℕ) → Has (sources t) p → Has (targets_of grouped) t
  target_there t p h =
      let from = has-map (λ (q : Pair). q.source) (proposed_to grouped t) p (subst (λ (xs : List ℕ). Has xs p) (sym (right t)) h) in
      let kept = filter_has (λ (q : Pair). q.target == t) grouped from.0 from.1 in
      has_fold_new nat_cmp nat_order.exact [] (map (λ (q : Pair). q.target) grouped) t
      (subst (Has (map (λ (q : Pair). q.target) grouped)) (eqb-true from.0.target t kept.1) (has-mapped (λ (q : Pair). q.target) grouped from.0 kept.0))

  -- the last row of a target, and of another id
  pub last_of_target : (u : ℕ) → Has (targets_of grouped) u → merge_at merged laid grouped u ≡ row_then n old fresh batch merged u
  last_of_target u h =
      let some : length (sources u) ≢ 0 = λ e. let from = target_from u h in no_member (sources u) from.0 e (source_there u from.0 from.1 from.2) in
      ap (merged u (laid u)) (right u) ∙ sym (ap (λ c. cond c (laid u) (merged u (laid u) (sources u))) (ne_eqb (length (sources u)) 0 some))

  pub last_of_other : (u : ℕ) → has (targets_of grouped) u ≡ false → laid u ≡ row_then n old fresh batch merged u
  last_of_other u h =
      let none : length (sources u) ≡ 0 = no_length (sources u) (λ p m. true≢false (sym (true_has (targets_of grouped) u (target_there u p m)) ∙ h)) in
      sym (ap (λ c. cond c (laid u) (merged u (laid u) (sources u))) (eq-eqb (length (sources u)) 0 none))

  -- there are no more targets than points
  pub targets_few : length (targets_of grouped) ≤ n
  targets_few = rising_few (targets_of grouped) n (targets_rise grouped) target_inside

  -- nor are there more ids
  pub ids_few : length ids ≤ n
  ids_few = rising_few ids n (rises ids fits.ascend) (λ u h. fits.below u (fits.batch_held u (in_batch n bound held old batch fresh ids fits merged u h)))
