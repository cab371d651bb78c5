-- What is proposed is what the definition's sources are.
use Rattle.std.proofs.Common.{◌≡◌, ℕ, Bool, true, List, [], ◌∷◌, refl, sym, ap, ◌∙◌, subst, inl, inr, arith}
use Rattle.std.specs.Prelude.{◌==◌, ◌&&◌}
use Rattle.std.specs.List.{range_with_len}
use Rattle.std.specs.declared.cmp.Ordering.TheVariants.{Less, Equal}
use Rattle.std.specs.Ordering.{nat_cmp, ordering_then}
use Rattle.std.specs.Cmp.{nat_cmp_is}
use Rattle.std.proofs.lemmas.Bool.{eqb-true, eq-eqb}
use Rattle.ann_defs.specs.Ordered.{ordered}
use Rattle.ann_defs.specs.Graph.{has}
use Rattle.ann_defs.specs.BatchInsert.{sources_to}
use Rattle.batch_insert.specs.Batch.{IsBatch}
use Rattle.ann_defs.specs.Ordered.{Has, Rises, IsBelow}
use Rattle.ann_defs.proofs.Order.{Rises-fold_put, same_rising, fold_has, has_fold_new, has-map}
use Rattle.batch_insert.specs.declared.pair.Pair.{Pair}
use Rattle.batch_insert.specs.Sources.{sources_in}
use Rattle.batch_insert.specs.Proposing.{pair_cmp, proposed_to}
use Rattle.ann_defs.proofs.Members.{has-mapped, has-flat, flat-has, filter_has, has-filter, has_true, true_has, and_both, both_and}
use Rattle.batch_insert.proofs.Grouping.{nat_order, pair_order}
use Rattle.batch_insert.specs.Proposed.{pairs_of, proposed}
use Rattle.batch_insert.proofs.Ascending.{Rises-filter, range_rises, in_range_has}

-- pairs of one target rise by their sources
less_sources : (a b : Pair) → a.target ≡ b.target → pair_cmp a b ≡ Less → nat_cmp a.source b.source ≡ Less
less_sources a b e h =
    let tie : nat_cmp a.target b.target ≡ Equal = sym (nat_cmp_is a.target b.target Equal e) in
    sym (ap (λ r. ordering_then r (nat_cmp a.source b.source)) tie) ∙ h

sources_below : (t : ℕ) (x : Pair) (xs : List Pair) → x.target ≡ t → ((z : Pair) → Has xs z → z.target ≡ t) → IsBelow pair_cmp x xs → IsBelow nat_cmp x.source (sources_in xs)
sources_below t x [] e f h = tt
sources_below t x (y ∷ xs) e f h = (less_sources x y (e ∙ sym (f y (inl refl))) h.0, sources_below t x xs e (λ z m. f z (inr m)) h.1)

sources_rise : (t : ℕ) (xs : List Pair) → ((z : Pair) → Has xs z → z.target ≡ t) → Rises pair_cmp xs → Rises nat_cmp (sources_in xs)
sources_rise t [] f h = tt
sources_rise t (x ∷ xs) f h = (sources_below t x xs (f x (inl refl)) (λ z m. f z (inr m)) h.0, sources_rise t xs (λ z m. f z (inr m)) h.1)

-- who proposes what
module _ (n bound : ℕ) (held : ℕ → Bool) (old : ℕ → List ℕ) (batch : ℕ → Bool) (fresh : ℕ → List ℕ) (ids : List ℕ) (fits : IsBatch n bound held old batch fresh ids) (merged : ℕ → List ℕ → List ℕ → List ℕ) where
  abbrev pairs : List Pair
  pairs = proposed fresh ids

  abbrev grouped : List Pair
  grouped = ordered pair_cmp pairs

  abbrev proposes : ℕ → ℕ → Bool
  proposes t p = batch p && has (fresh p) t

  -- the ids are those of the batch
  pub in_ids : (u : ℕ) → batch u ≡ true → Has ids u
  in_ids u h = has_true ids u (sym (fits.listed u) ∙ h)

  pub in_batch : (u : ℕ) → Has ids u → batch u ≡ true
  in_batch u h = fits.listed u ∙ true_has ids u h

  pub pair_from : (z : Pair) → Has pairs z → Has ids z.source × Has (fresh z.source) z.target
  pair_from z h =
      let from = has-flat (λ p. pairs_of p (fresh p)) ids z h in
      let item = has-map (λ t. record { target = t; source = from.0 }) (fresh from.0) z from.2 in
      let source : from.0 ≡ z.source = ap (λ (q : Pair). q.source) item.2 in
      let target : item.0 ≡ z.target = ap (λ (q : Pair). q.target) item.2 in
      (subst (Has ids) source from.1, subst (λ p. Has (fresh p) z.target) source (subst (Has (fresh from.0)) target item.1))

  pub from_pair : (t p : ℕ) → Has ids p → Has (fresh p) t → Has pairs (record { target = t; source = p })
  from_pair t p h k = flat-has (λ p. pairs_of p (fresh p)) ids p _ h (has-mapped (λ t. record { target = t; source = p }) (fresh p) t k)

  pub grouped_from : (z : Pair) → Has grouped z → Has pairs z
  grouped_from z h = elim (fold_has pair_cmp [] pairs z h) as (λ _. Has pairs z) [ inl m ↦ absurd m | inr m ↦ m ]

  -- the grouped pairs of t are the definition's sources of t
  pub sources_right : (t : ℕ) → sources_in (proposed_to grouped t) ≡ sources_to n old fresh batch merged t
  sources_right t =
      let test = λ (q : Pair). q.target == t in
      same_rising nat_cmp nat_order (sources_in (proposed_to grouped t)) (sources_to n old fresh batch merged t)
      (sources_rise t (proposed_to grouped t) (λ z h. eqb-true z.target t (filter_has test grouped z h).1) (Rises-filter pair_cmp test grouped (Rises-fold_put pair_cmp pair_order [] pairs tt)))
      (Rises-filter nat_cmp (proposes t) (range_with_len 0 n) (range_rises 0 n))
      (λ p h.
      let from = has-map (λ (q : Pair). q.source) (proposed_to grouped t) p h in
      let kept = filter_has test grouped from.0 from.1 in
      let told = pair_from from.0 (grouped_from from.0 kept.0) in
      let target : from.0.target ≡ t = eqb-true from.0.target t kept.1 in
      let there : batch p ≡ true = in_batch p (subst (Has ids) from.2 told.0) in
      let in_row : Has (fresh p) t = subst (λ q. Has (fresh q) t) from.2 (subst (Has (fresh from.0.source)) target told.1) in
      has-filter (proposes t) (range_with_len 0 n) p
      (both_and (batch p) (has (fresh p) t) there (true_has (fresh p) t in_row))
      (let below = fits.below p (fits.batch_held p there) in in_range_has 0 n p (omega arith) (omega (arith, below))))
      (λ p h.
      let told = and_both (batch p) (has (fresh p) t) (filter_has (proposes t) (range_with_len 0 n) p h).1 in
      has-mapped (λ (q : Pair). q.source) (proposed_to grouped t) (record { target = t; source = p })
      (has-filter test grouped (record { target = t; source = p }) (eq-eqb t t refl) (has_fold_new pair_cmp pair_order.exact [] pairs _ (from_pair t p (in_ids p told.0) (has_true (fresh p) t told.1)))))
