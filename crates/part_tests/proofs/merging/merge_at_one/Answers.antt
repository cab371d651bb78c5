use Rattle.std.proofs.Common.{◌≢◌, ◌<◌, ◌∷◌, [], ℕ, arith, sym, subst, lit<, inl, inr}
use Rattle.std.proofs.lemmas.List.Elements.{All-nil, All-cons}
use Rattle.ann_defs.specs.Graph.{IsGoodRow}
use Rattle.ann_defs.proofs.Members.{distinct_once}
use Rattle.batch_insert.specs.Sources.{AreSources}
use Rattle.part_tests.proofs.LayerBatch.{first_good}
use Rattle.part_tests.proofs.merging.merge_at_one.Goals as goal

two_and_three : AreSources 5 1 (2 ∷ 3 ∷ [])
two_and_three =
    let P : ℕ → Type 0 = λ v. v < 5 in
    let Q : ℕ → Type 0 = λ v. v ≢ 1 in
    record {
      inside = All-cons P 2 (3 ∷ []) (lit< tt) (All-cons P 3 [] (lit< tt) (All-nil P));
      distinct = distinct_once (2 ∷ 3 ∷ []) (λ m. elim m as (λ _. ⊥) [ inl e ↦ omega (arith, e) | inr k ↦ k ], (λ m. m, tt));
      others = All-cons Q 2 (3 ∷ []) (λ e. omega (arith, e)) (All-cons Q 3 [] (λ e. omega (arith, e)) (All-nil Q));
    }

pub merged_row-requires-clause-row : goal.merged_row-requires-clause-row
merged_row-requires-clause-row c κs = subst (λ n. IsGoodRow n c.args.degree 1 (0 ∷ [])) (sym c.requires.points) (first_good c.args.degree 1 c.requires.some (λ e. omega (arith, e)))

pub merged_row-requires-clause-sources : goal.merged_row-requires-clause-sources
merged_row-requires-clause-sources c κs = subst (λ n. AreSources n 1 (2 ∷ 3 ∷ [])) (sym c.requires.points) two_and_three
