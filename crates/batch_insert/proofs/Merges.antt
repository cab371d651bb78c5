-- The candidates of a merge.
use Rattle.std.proofs.Common.{◌≡◌, ◌≢◌, ℕ, ◌+◌, ◌-◌, ◌<◌, ◌≤◌, true, cond, not, List, [], ◌∷◌, ◌++◌, length, take, drop, refl, sym, ap, subst, ◌∙◌, arith}
use Rattle.std.specs.Prelude.{◌==◌}
use Rattle.std.specs.List.{filter, All}
use Rattle.std.proofs.lemmas.Bool.{ne_eqb, le-leb, lt-leb}
use Rattle.std.proofs.lemmas.List.{drop-drop, length-map, map-append, get_or-map, take-map, take-append-le}
use Rattle.std.proofs.lemmas.List.Elements.{All-append, All-filter, All-map, All-head, All-tail}
use Rattle.ann_defs.specs.declared.near.Near.{Near}
use Rattle.ann_defs.specs.Distance.{point}
use Rattle.ann_defs.specs.Nearness.{near_of, all_near, ids_of}
use Rattle.ann_defs.specs.Graph.{has, without, IsGoodRow}
use Rattle.batch_insert.specs.declared.pair.Pair.{Pair}
use Rattle.batch_insert.specs.Sources.{sources_in, AreSources}
use Rattle.robust_prune.specs.Candidates.{AreCandidates}
use Rattle.ann_defs.specs.BatchInsert.{merge_with}
use Rattle.ann_defs.proofs.Members.{distinct_once}
use Rattle.ann_defs.proofs.GoodRows.{added_to, added_once}

-- lists that agree behind a place agree behind a later one
pub drop_on : (xs ys : List ℕ) (k r : ℕ) → k ≤ r → drop k xs ≡ drop k ys → drop r xs ≡ drop r ys
drop_on xs ys k r h e =
    let n : k + (r - k) ≡ r = omega arith in
    sym (ap (λ m. drop m xs) n) ∙ sym (drop-drop (r - k) k xs) ∙ ap (λ zs. drop (r - k) zs) e ∙ drop-drop (r - k) k ys ∙ ap (λ m. drop m ys) n

ids-near : (points : List (List ℕ)) (q : List ℕ) (xs : List ℕ) → ids_of (all_near points q xs) ≡ xs
ids-near points q [] = refl
ids-near points q (x ∷ xs) = ap (λ ys. x ∷ ys) (ids-near points q xs)

-- the sources of pairs are points
pub pairs_below : (n : ℕ) (pairs : List Pair) → All (λ v. v < n) (sources_in pairs) → All (λ (q : Pair). q.source < n) pairs
pairs_below n pairs h k d within =
    subst (λ v. v < n) (get_or-map (λ (q : Pair). q.source) pairs k d 0 within) (h k 0 (subst (λ m. k < m) (sym (length-map pairs (λ (q : Pair). q.source))) within))

without_none : (p : ℕ) (xs : List ℕ) → All (λ v. v ≢ p) xs → without p xs ≡ xs
without_none p [] h = refl
without_none p (x ∷ xs) h =
    let here : not (x == p) ≡ true = ap not (ne_eqb x p (All-head (λ v. v ≢ p) x xs h)) in
    ap (λ b. cond b (x ∷ without p xs) (without p xs)) here ∙ ap (λ ys. x ∷ ys) (without_none p xs (All-tail (λ v. v ≢ p) x xs h))

module _ (points : List (List ℕ)) (p : ℕ) (row sources : List ℕ) where
  abbrev q : List ℕ
  q = point points p

  abbrev added : List ℕ
  added = added_to row sources

  -- what is laid out one after the other
  laid : (first all : List Near) → first ≡ all_near points q row → all ≡ first ++ all_near points q (filter (λ s. not (has row s)) sources) → all ≡ all_near points q added
  laid first all e f = f ∙ ap (λ (xs : List Near). xs ++ all_near points q (filter (λ s. not (has row s)) sources)) e ∙ sym (map-append (near_of points q) row (filter (λ s. not (has row s)) sources))

  same_length : (all : List Near) → all ≡ all_near points q added → length all ≡ length added
  same_length all e = ap length e ∙ length-map added (near_of points q)

  module _ (bound : ℕ) (good : IsGoodRow (length points) bound p row) (are : AreSources (length points) p sources) where
    added_others : All (λ v. v ≢ p) added
    added_others = All-append (λ v. v ≢ p) row (filter (λ s. not (has row s)) sources) good.others (All-filter (λ s. not (has row s)) (λ v. v ≢ p) sources are.others)

    added_candidates : AreCandidates points p (all_near points q added)
    added_candidates = record {
      in_range = All-map (λ (x : Near). x.id < length points) (near_of points q) added (All-append (λ v. v < length points) row (filter (λ s. not (has row s)) sources) good.inside (All-filter (λ s. not (has row s)) (λ v. v < length points) sources are.inside));
      near = All-map (λ (x : Near). x ≡ near_of points q x.id) (near_of points q) added (λ k d h. refl);
      distinct = rw (ids-near points q added) (distinct_once added (added_once row sources good.distinct are.distinct));
      others = All-map (λ (x : Near). x.id ≢ p) (near_of points q) added added_others;
    }

    merge_full : (prune : ℕ → List ℕ → List ℕ) (bound : ℕ) → bound < length added → prune p added ≡ merge_with prune bound p row sources
    merge_full prune bound h = sym (ap (λ b. cond b added (prune p (without p added))) (lt-leb (length added) bound h) ∙ ap (prune p) (without_none p added added_others))

  merge_room : (prune : ℕ → List ℕ → List ℕ) (bound : ℕ) → length added ≤ bound → added ≡ merge_with prune bound p row sources
  merge_room prune bound h = sym (ap (λ b. cond b added (prune p (without p added))) (le-leb (length added) bound h))

-- what is laid out for a target: its row, and the sources that aren't in it
module _ (points points' : List (List ℕ)) (t : ℕ) (row sources : List ℕ) (first all : List Near) (same : points' ≡ points) (begins : first ≡ all_near points' (point points' t) row) (ends : all ≡ first ++ all_near points' (point points' t) (filter (λ s. not (has row s)) sources)) (bound : ℕ) where
  all_laid : all ≡ all_near points (point points t) (added_to row sources)
  all_laid = laid points' t row sources first all begins ends ∙ ap (λ (ps : List (List ℕ)). all_near ps (point ps t) (added_to row sources)) same

  ids_laid : ids_of all ≡ added_to row sources
  ids_laid = ap ids_of all_laid ∙ ids-near points (point points t) (added_to row sources)

  -- the first ids of the row are laid out first
  pub laid_front : (settled : ℕ) → settled ≤ length row → ids_of (take settled all) ≡ take settled row
  laid_front settled few =
      sym (take-map (λ (x : Near). x.id) settled all)
      ∙ ap (take settled) ids_laid
      ∙ take-append-le settled row (filter (λ s. not (has row s)) sources) few

  pub laid_room : (prune : ℕ → List ℕ → List ℕ) → length all ≤ bound → ids_of all ≡ merge_with prune bound t row sources
  laid_room prune few = let many = same_length points t row sources all all_laid in ids_laid ∙ merge_room points t row sources prune bound (omega (arith, many, few))

  module _ (good : IsGoodRow (length points) bound t row) (are : AreSources (length points) t sources) where
    pub laid_candidates : AreCandidates points t all
    laid_candidates = subst (AreCandidates points t) (sym all_laid) (added_candidates points t row sources bound good are)

    pub laid_full : (prune : ℕ → List ℕ → List ℕ) → bound < length all → prune t (ids_of all) ≡ merge_with prune bound t row sources
    laid_full prune full = let many = same_length points t row sources all all_laid in ap (prune t) ids_laid ∙ merge_full points t row sources bound good are prune bound (omega (arith, many, full))
