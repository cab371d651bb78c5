-- The entry point.
use Rattle.std.proofs.Common.{◌≡◌, ℕ, zero, suc, ◌+◌, ◌<◌, ◌≤◌, Bool, true, false, cond, not, List, [], ◌∷◌, length, get_or, sym, ap, ◌∙◌, subst, inl, inr, arith}
use Rattle.std.specs.Prelude.{◌==◌}
use Rattle.std.specs.List.{All, position_or_len}
use Rattle.std.proofs.lemmas.Bool.{cases_lt, eqb-true, eq-eqb}
use Rattle.std.proofs.lemmas.List.{get_or_default}
use Rattle.std.proofs.Math.ListN.{get_or-eq_default}
use Rattle.std.proofs.lemmas.List.Sums.{passes_at_first}
use Rattle.std.proofs.lemmas.List.Elements.{All-get_or}
use Rattle.ann_defs.specs.Ordered.{Has}
use Rattle.ann_defs.proofs.Order.{Contains-from_has}
use Rattle.hnsw_build.specs.Layering.{level_in, top_of, entry_of}
use Rattle.hnsw_build.proofs.LevelFacts.{top_reached}

-- where one passes, the first that passes is there
first_there : (p : ℕ → Bool) (xs : List ℕ) (i : ℕ) → i < length xs → p (get_or xs i 0) ≡ true → position_or_len p xs < length xs
first_there p [] i lt h = absurd (omega arith)
first_there p (x ∷ xs) zero lt h = subst (λ b. cond (not b) (1 + position_or_len p xs) 0 < length (x ∷ xs)) (sym h) (omega arith)
first_there p (x ∷ xs) (suc i) lt h =
    let rest = first_there p xs i (omega arith) h in
    elim (p x) as (λ b. cond (not b) (1 + position_or_len p xs) 0 < length (x ∷ xs)) [ true ↦ omega arith | false ↦ omega (arith, rest) ]

module _ (levels order : List ℕ) (some : 1 ≤ length levels) where
  abbrev is_top : ℕ → Bool
  is_top id = level_in levels id == top_of levels

  abbrev place : ℕ
  place = position_or_len is_top order

  pub entry_below : All (λ u. u < length levels) order → entry_of levels order < length levels
  entry_below inside = elim (cases_lt place (length order)) as (λ _. get_or order place 0 < length levels) [
    | inl less ↦ All-get_or (λ u. u < length levels) order place 0 less inside
    | inr more ↦ let none : get_or order place 0 ≡ 0 = get_or-eq_default order 0 more in omega (arith, none)
  ]

  -- an order of all ids has a point of greatest level
  pub entry_top : ((u : ℕ) → u < length levels → Has order u) → level_in levels (entry_of levels order) ≡ top_of levels
  entry_top all =
      let high = top_reached levels some in
      let at = Contains-from_has order high.0 (all high.0 high.1) in
      let here : get_or order at.0 0 ≡ high.0 = get_or_default order at.0 0 high.0 at.1 ∙ at.2 in
      let passes : is_top (get_or order at.0 0) ≡ true = eq-eqb (level_in levels (get_or order at.0 0)) (top_of levels) (ap (level_in levels) here ∙ high.2) in
      eqb-true (level_in levels (entry_of levels order)) (top_of levels) (passes_at_first is_top order 0 (first_there is_top order at.0 at.1 passes))
