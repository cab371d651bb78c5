-- A place in an ascending list, and a number up to which all stand before it.
use Rattle.std.proofs.Common.{◌≡◌, ℕ, ◌+◌, ◌<◌, ◌≤◌, false, List, length, get_or, inl, inr, arith}
use Rattle.std.specs.Ordering.{nat_cmp}
use Rattle.std.proofs.lemmas.Bool.{cases_lt}
use Rattle.ann_defs.specs.Graph.{has}
use Rattle.ann_defs.specs.Ordered.{Rises}
use Rattle.batch_insert.proofs.Grouping.{rising_numbers, has_none}
use Rattle.batch_insert.proofs.Ascending.{rises_less}

-- what stands before the place is less, and what stands from it on is not
pub record IsUpTo (xs : List ℕ) (i from : ℕ) : Type 0 where
  pub within : i ≤ length xs
  pub before : (k : ℕ) → k < i → get_or xs k 0 < from
  pub after : (k : ℕ) → i ≤ k → k < length xs → from ≤ get_or xs k 0

pub up_to_none : (xs : List ℕ) → IsUpTo xs 0 0
up_to_none xs = record { within = omega arith; before = λ k h. absurd (omega arith); after = λ k _ _. omega arith }

-- past what stands at the place
pub up_to_next : (xs : List ℕ) → Rises nat_cmp xs → (i from : ℕ) → IsUpTo xs i from → i < length xs → IsUpTo xs (i + 1) (get_or xs i 0 + 1)
up_to_next xs up i from s at = record {
  within = omega arith;
  before = λ k h. let le = rising_numbers xs up k i (omega arith) at in omega (arith, le);
  after = λ k h within. let less = rises_less xs up i k (omega arith) within in omega (arith, less);
}

-- up to a number that isn't more than what stands at the place
module _ (xs : List ℕ) (up : Rises nat_cmp xs) (i from : ℕ) (s : IsUpTo xs i from) (to : ℕ) (here : i < length xs → to ≤ get_or xs i 0) where
  high : (k : ℕ) → i ≤ k → k < length xs → to ≤ get_or xs k 0
  high k h within =
      let first = here (omega arith) in
      let le = rising_numbers xs up i k h within in
      omega (arith, first, le)

  pub up_to_past : from ≤ to → IsUpTo xs i to
  up_to_past low = record { within = s.within; before = λ k h. let less = s.before k h in omega (arith, less); after = high }

  -- no number in between is there
  pub none_between : (u : ℕ) → from ≤ u → u < to → has xs u ≡ false
  none_between u low less =
      has_none xs u (λ k within e.
      elim (cases_lt k i) as (λ _. ⊥) [
        | inl before ↦ let b = s.before k before in omega (arith, b, e)
        | inr after ↦ let h = high k after within in omega (arith, h, e)
      ])
