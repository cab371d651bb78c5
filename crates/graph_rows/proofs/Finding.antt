-- Where an id stands among ids that ascend.
use Rattle.std.proofs.Common.{◌≡◌, ℕ, ◌<◌, ◌≤◌, true, false, List, length, get_or, sym, ap, arith, inl, inr}
use Rattle.std.specs.Prelude.{◌==◌}
use Rattle.std.proofs.lemmas.Bool.{ne_eqb, eq-eqb, cases_lt}
use Rattle.std.proofs.lemmas.List.Sums.{position_or_len_is}
use Rattle.std.proofs.lemmas.List.Folds.{list_any_none, list_any_at}
use Rattle.std.proofs.lemmas.List.Elements.{All-from_get_or}
use Rattle.ann_defs.specs.Graph.{has}
use Rattle.ann_defs.specs.Ordered.{Ascends}
use Rattle.graph_rows.specs.Layers.{place_in}

pub rises : (ids : List ℕ) → Ascends ids → (i j : ℕ) → i ≤ j → j < length ids → get_or ids i 0 ≤ get_or ids j 0
rises ids up i j le lt = elim (cases_lt i j) as (λ _. get_or ids i 0 ≤ get_or ids j 0) [
  | inl less ↦ omega (arith, up i j less lt)
  | inr same ↦ let e : i ≡ j = omega arith in let f = ap (λ k. get_or ids k 0) e in omega arith
]

pub found : (ids : List ℕ) (id i : ℕ) → Ascends ids → i < length ids → get_or ids i 0 ≡ id → (i ≡ place_in ids id) × (has ids id ≡ true)
found ids id i up lt is = (
  sym (position_or_len_is (λ x. x == id) ids i 0 (omega arith) (λ k less. ne_eqb (get_or ids k 0) id (λ e. absurd (omega (arith, up k i less lt)))) (λ _. eq-eqb (get_or ids i 0) id is)),
  list_any_at (λ x. x == id) ids i 0 lt (eq-eqb (get_or ids i 0) id is),
)

pub missing : (ids : List ℕ) (id i : ℕ) → ((k : ℕ) → k < i → get_or ids k 0 < id) → ((k : ℕ) → i ≤ k → k < length ids → id < get_or ids k 0) → has ids id ≡ false
missing ids id i below above = list_any_none (λ x. x == id) ids (All-from_get_or (λ x. (x == id) ≡ false) ids 0 (λ k lt. ne_eqb (get_or ids k 0) id (λ e.
    elim (cases_lt k i) as (λ _. ⊥) [ inl less ↦ absurd (omega (arith, below k less)) | inr more ↦ absurd (omega (arith, above k more lt)) ])))
