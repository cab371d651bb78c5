-- Three points of a layer of four, each with the row of the first alone, are a batch.
use Rattle.std.proofs.Common.{◌≡◌, ◌≢◌, ℕ, ◌<◌, ◌≤◌, Bool, true, [], ◌∷◌, refl, subst, inl, inr, arith, lit<, lit≤}
use Rattle.std.specs.List.{All, IsDistinct}
use Rattle.std.proofs.lemmas.List.Elements.{All-nil, All-cons}
use Rattle.ann_defs.specs.Graph.{has, IsGoodRow}
use Rattle.ann_defs.specs.Ordered.{Has}
use Rattle.ann_defs.proofs.Members.{has_true, distinct_once}
use Rattle.graph_rows.specs.Index.{layer_ids}
use Rattle.graph_rows.specs.Layers.{Layered, layer_row}
use Rattle.batch_insert.specs.Batch.{IsBatch}
use Rattle.batch_insert.proofs.Ascending.{ascends}

abbrev pub four : Layered
four = record { width = 2; entries = (0, []) ∷ (1, []) ∷ (2, []) ∷ (4, []) ∷ [] }

abbrev pub three : Layered
three = record { width = 2; entries = (1, 0 ∷ []) ∷ (2, 0 ∷ []) ∷ (4, 0 ∷ []) ∷ [] }

-- by cases
of_four : (P : ℕ → Type 0) → P 0 → P 1 → P 2 → P 4 → (u : ℕ) → Has (0 ∷ 1 ∷ 2 ∷ 4 ∷ []) u → P u
of_four P a b c d u h = elim h as (λ _. P u) [
  | inl e ↦ subst P e a
  | inr h ↦ elim h as (λ _. P u) [
    | inl e ↦ subst P e b
    | inr h ↦ elim h as (λ _. P u) [
      | inl e ↦ subst P e c
      | inr h ↦ elim h as (λ _. P u) [ inl e ↦ subst P e d | inr h ↦ absurd h ]
    ]
  ]
]

of_three : (P : ℕ → Type 0) → P 1 → P 2 → P 4 → (u : ℕ) → Has (1 ∷ 2 ∷ 4 ∷ []) u → P u
of_three P b c d u h = elim h as (λ _. P u) [
  | inl e ↦ subst P e b
  | inr h ↦ elim h as (λ _. P u) [
    | inl e ↦ subst P e c
    | inr h ↦ elim h as (λ _. P u) [ inl e ↦ subst P e d | inr h ↦ absurd h ]
  ]
]

-- an empty row is good
none_good : (n degree u : ℕ) → IsGoodRow n degree u []
unfolding IsDistinct
none_good n degree u = record { inside = All-nil (λ v. v < n); distinct = tt; others = All-nil (λ v. v ≢ u); short = omega arith }

-- the row of the first point alone is good for another
pub first_good : (degree t : ℕ) → 1 ≤ degree → 0 ≢ t → IsGoodRow 5 degree t (0 ∷ [])
first_good degree t some other = record {
  inside = All-cons (λ v. v < 5) 0 [] (lit< tt) (All-nil (λ v. v < 5));
  distinct = distinct_once (0 ∷ []) (λ m. m, tt);
  others = All-cons (λ v. v ≢ t) 0 [] other (All-nil (λ v. v ≢ t));
  short = some;
}

abbrev held : ℕ → Bool
held u = has (layer_ids four.entries) u

abbrev batch : ℕ → Bool
batch u = has (layer_ids three.entries) u

pub three_in_four : IsBatch 5 2 held (layer_row four) batch (layer_row three) (1 ∷ 2 ∷ 4 ∷ [])
three_in_four =
    let ids : (u : ℕ) → batch u ≡ true → Has (1 ∷ 2 ∷ 4 ∷ []) u = λ u h. has_true (1 ∷ 2 ∷ 4 ∷ []) u h in
    let all : (u : ℕ) → held u ≡ true → Has (0 ∷ 1 ∷ 2 ∷ 4 ∷ []) u = λ u h. has_true (0 ∷ 1 ∷ 2 ∷ 4 ∷ []) u h in
    record {
      ascend = ascends (1 ∷ 2 ∷ 4 ∷ []) ((refl, (refl, tt)), ((refl, tt), (tt, tt)));
      listed = λ u. refl;
      below = λ u h. of_four (λ v. v < 5) (lit< tt) (lit< tt) (lit< tt) (lit< tt) u (all u h);
      batch_held = λ u h. of_three (λ v. held v ≡ true) refl refl refl u (ids u h);
      old_good = λ u h. of_four (λ v. IsGoodRow 5 2 v (layer_row four v)) (none_good 5 2 0) (none_good 5 2 1) (none_good 5 2 2) (none_good 5 2 4) u (all u h);
      fresh_good = λ u h. of_three (λ v. IsGoodRow 5 2 v (layer_row three v)) (first_good 2 1 (lit≤ tt) (λ e. omega (arith, e))) (first_good 2 2 (lit≤ tt) (λ e. omega (arith, e))) (first_good 2 4 (lit≤ tt) (λ e. omega (arith, e))) u (ids u h);
      fresh_held = λ u h. of_three (λ v. All (λ w. held w ≡ true) (layer_row three v)) zero_held zero_held zero_held u (ids u h);
    }
  where
    zero_held : All (λ w. held w ≡ true) (0 ∷ [])
    zero_held = All-cons (λ w. held w ≡ true) 0 [] refl (All-nil (λ w. held w ≡ true))
