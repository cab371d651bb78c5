-- The bounds of batches rise to the number of points and stay there.
use Rattle.std.proofs.Common.{◌≡◌, ℕ, zero, suc, ◌+◌, ◌-◌, ◌<◌, ◌≤◌, Bool, true, false, List, inl, inr, refl, sym, ap, ◌∙◌, arith, length, get_or}
use Rattle.std.specs.Prelude.{◌==◌}
use Rattle.std.specs.List.{range_with_len}
use Rattle.std.proofs.lemmas.Bool.{cases_lt, eqb-true, eq-eqb, true≢false}
use Rattle.std.proofs.lemmas.List.Sums.{fails_before_first, passes_at_first}
use Rattle.std.proofs.lemmas.List.FromFn.{get_or-range_with_len, length-range_with_len}
use Rattle.ann_defs.specs.BatchInsert.{bound_at, total_of}

module _ (n cap : ℕ) where
  pub bound_within : (k : ℕ) → 1 ≤ n → bound_at n cap k ≤ n
  bound_within zero some = omega arith
  bound_within (suc zero) some = omega arith
  bound_within (suc (suc k)) some = omega arith

  pub bound_some : (k : ℕ) → 1 ≤ n → 1 ≤ k → 1 ≤ bound_at n cap k
  bound_some zero some h = absurd (omega arith)
  bound_some (suc zero) some h = omega arith
  bound_some (suc (suc k)) some h = let before : 1 ≤ bound_at n cap (suc k) = bound_some (suc k) some (omega arith) in omega arith

  pub bound_rises : (k : ℕ) → 1 ≤ n → 1 ≤ cap → bound_at n cap k < n → bound_at n cap k < bound_at n cap (suc k)
  bound_rises zero some wide h = omega arith
  bound_rises (suc k) some wide h = let here : 1 ≤ bound_at n cap (suc k) = bound_some (suc k) some (omega arith) in omega arith

  bound_stays : (k : ℕ) → 1 ≤ n → bound_at n cap k ≡ n → bound_at n cap (suc k) ≡ n
  bound_stays zero some h = absurd (omega arith)
  bound_stays (suc k) some h = omega arith

  -- below n, a batch has at least one point
  bound_far : (k : ℕ) → 1 ≤ n → 1 ≤ cap → bound_at n cap k < n → k ≤ bound_at n cap k
  bound_far zero some wide h = omega arith
  bound_far (suc zero) some wide h = omega arith
  bound_far (suc (suc k)) some wide h =
      let here : 1 ≤ bound_at n cap (suc k) = bound_some (suc k) some (omega arith) in
      let before : bound_at n cap (suc k) < n = omega arith in
      let far : suc k ≤ bound_at n cap (suc k) = bound_far (suc k) some wide before in
      omega arith

  pub bound_first : (k b : ℕ) → 1 ≤ n → b ≡ 0 → b ≡ bound_at n cap k → 1 ≡ bound_at n cap (k + 1)
  bound_first zero b some none e = refl
  bound_first (suc k) b some none e = let here : 1 ≤ bound_at n cap (suc k) = bound_some (suc k) some (omega arith) in absurd (omega arith)

  -- whether bound k is n
  abbrev ends : ℕ → Bool
  ends k = bound_at n cap k == n

  abbrev counts : List ℕ
  counts = range_with_len 0 (n + 1)

  count_at : (k : ℕ) → k ≤ n → get_or counts k 0 ≡ k
  count_at k h = let at : get_or counts k 0 ≡ 0 + k = get_or-range_with_len 0 (n + 1) k 0 (omega arith) in omega arith

  pub bound_at_n : 1 ≤ n → 1 ≤ cap → bound_at n cap n ≡ n
  bound_at_n some wide =
      let within : bound_at n cap n ≤ n = bound_within n some in
      elim (cases_lt (bound_at n cap n) n) as (λ _. bound_at n cap n ≡ n) [
        | inl below ↦ absurd (let far : n ≤ bound_at n cap n = bound_far n some wide below in omega arith)
        | inr at ↦ omega arith
      ]

  -- no bound before the total is n
  not_ended : (k : ℕ) → k < total_of n cap → k ≤ n → bound_at n cap k ≡ n → ⊥
  not_ended k h fits e =
      let none : ends k ≡ false = sym (ap ends (count_at k fits)) ∙ fails_before_first ends counts k 0 h in
      true≢false (sym (eq-eqb (bound_at n cap k) n e) ∙ none)

  pub total_within : 1 ≤ n → 1 ≤ cap → total_of n cap ≤ n
  total_within some wide =
      let late : n < total_of n cap → ⊥ = λ h. not_ended n h (omega arith) (bound_at_n some wide) in
      elim (cases_lt n (total_of n cap)) as (λ _. total_of n cap ≤ n) [ inl h ↦ absurd (late h) | inr h ↦ h ]

  pub total_reaches : 1 ≤ n → 1 ≤ cap → bound_at n cap (total_of n cap) ≡ n
  total_reaches some wide =
      let within : total_of n cap ≤ n = total_within some wide in
      let listed : total_of n cap < length counts = rw (length-range_with_len 0 (n + 1)) (omega arith) in
      eqb-true _ _ (sym (ap ends (count_at (total_of n cap) within)) ∙ passes_at_first ends counts 0 listed)

  pub total_some : 1 ≤ n → 1 ≤ cap → 1 ≤ total_of n cap
  total_some some wide =
      let reaches : bound_at n cap (total_of n cap) ≡ n = total_reaches some wide in
      elim (cases_lt (total_of n cap) 1) as (λ _. 1 ≤ total_of n cap) [
        | inl h ↦ let none : total_of n cap ≡ 0 = omega arith in absurd (let no : 0 ≡ n = ap (bound_at n cap) (sym none) ∙ reaches in omega arith)
        | inr h ↦ h
      ]

  pub below_before_total : (k : ℕ) → 1 ≤ n → 1 ≤ cap → k < total_of n cap → bound_at n cap k < n
  below_before_total k some wide h =
      let within : bound_at n cap k ≤ n = bound_within k some in
      let short : total_of n cap ≤ n = total_within some wide in
      let ended : bound_at n cap k ≡ n → ⊥ = not_ended k h (omega arith) in
      elim (cases_lt (bound_at n cap k) n) as (λ _. bound_at n cap k < n) [ inl at ↦ at | inr at ↦ absurd (ended (omega arith)) ]

  later : (j : ℕ) → 1 ≤ n → 1 ≤ cap → bound_at n cap (total_of n cap + j) ≡ n
  later zero some wide = let e : total_of n cap + 0 ≡ total_of n cap = omega arith in ap (bound_at n cap) e ∙ total_reaches some wide
  later (suc j) some wide =
      let e : total_of n cap + suc j ≡ suc (total_of n cap + j) = omega arith in
      ap (bound_at n cap) e ∙ bound_stays (total_of n cap + j) some (later j some wide)

  -- a bound is n from the total on
  pub ended_from_total : (k : ℕ) → 1 ≤ n → 1 ≤ cap → total_of n cap ≤ k → bound_at n cap k ≡ n
  ended_from_total k some wide h = let e : total_of n cap + (k - total_of n cap) ≡ k = omega arith in sym (ap (bound_at n cap) e) ∙ later (k - total_of n cap) some wide

  pub total_before : (k : ℕ) → 1 ≤ n → 1 ≤ cap → bound_at n cap k < n → k < total_of n cap
  total_before k some wide h =
      elim (cases_lt k (total_of n cap)) as (λ _. k < total_of n cap) [
        | inl at ↦ at
        | inr at ↦ absurd (let e : bound_at n cap k ≡ n = ended_from_total k some wide at in omega arith)
      ]

  pub total_is : (k : ℕ) → 1 ≤ n → 1 ≤ cap → n ≤ bound_at n cap k → k ≤ total_of n cap → k ≡ total_of n cap
  total_is k some wide at h =
      elim (cases_lt k (total_of n cap)) as (λ _. k ≡ total_of n cap) [
        | inl early ↦ absurd (let below : bound_at n cap k < n = below_before_total k some wide early in omega arith)
        | inr late ↦ omega arith
      ]

  pub none_left : (k : ℕ) → 1 ≤ n → 1 ≤ cap → bound_at n cap k ≡ n → (false ≡ true → k < total_of n cap) × (k < total_of n cap → false ≡ true)
  none_left k some wide at = (λ e. absurd (true≢false (sym e)), λ h. absurd (let below : bound_at n cap k < n = below_before_total k some wide h in omega arith))

  pub one_left : (k : ℕ) → 1 ≤ n → 1 ≤ cap → bound_at n cap k < n → (true ≡ true → k < total_of n cap) × (k < total_of n cap → true ≡ true)
  one_left k some wide below = (λ _. total_before k some wide below, λ _. refl)

  pub ended_late : (k : ℕ) → 1 ≤ n → 1 ≤ cap → bound_at n cap k ≡ n → total_of n cap ≤ k
  ended_late k some wide at =
      elim (cases_lt k (total_of n cap)) as (λ _. total_of n cap ≤ k) [
        | inl early ↦ absurd (let below : bound_at n cap k < n = below_before_total k some wide early in omega arith)
        | inr late ↦ late
      ]
