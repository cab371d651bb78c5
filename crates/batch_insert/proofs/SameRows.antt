-- Where new rows are the same, so are the rows after a batch.
use Rattle.std.proofs.Common.{◌≡◌, ℕ, Bool, true, false, cond, List, length, refl, ap}
use Rattle.std.specs.Prelude.{◌==◌, ◌&&◌}
use Rattle.std.specs.List.{range_with_len}
use Rattle.std.proofs.lemmas.List.Elements.{filter_agree}
use Rattle.ann_defs.specs.Graph.{has}
use Rattle.ann_defs.specs.BatchInsert.{laid_row, sources_to, row_then}

module _ (n : ℕ) (old fresh other : ℕ → List ℕ) (batch : ℕ → Bool) (merged : ℕ → List ℕ → List ℕ → List ℕ) (same : (u : ℕ) → batch u ≡ true → fresh u ≡ other u) where
  laid_same : (u : ℕ) → laid_row n old fresh batch merged u ≡ laid_row n old other batch merged u
  laid_same u = elim (batch u) as (λ c. batch u ≡ c → cond c (fresh u) (old u) ≡ cond c (other u) (old u)) [ true ↦ λ e. same u e | false ↦ λ _. refl ] refl

  sources_same : (t : ℕ) → sources_to n old fresh batch merged t ≡ sources_to n old other batch merged t
  sources_same t = filter_agree _ _ (λ p. elim (batch p) as (λ c. batch p ≡ c → (c && has (fresh p) t) ≡ (c && has (other p) t)) [ true ↦ λ e. ap (λ (r : List ℕ). has r t) (same p e) | false ↦ λ _. refl ] refl) (range_with_len 0 n)

  pub row_then_same : (t : ℕ) → row_then n old fresh batch merged t ≡ row_then n old other batch merged t
  row_then_same t = λ i. cond (length (sources_same t i) == 0) (laid_same t i) (merged t (laid_same t i) (sources_same t i))
