-- A search ends with nothing left to visit.
use Rattle.std.proofs.Common.{◌≡◌, ℕ, zero, suc, ◌+◌, Bool, true, Some, None, List, [], ◌∷◌, ◌++◌, length, refl, inl, inr, arith}
use Rattle.std.specs.Prelude.{◌⊎◌}
use Rattle.std.specs.List.{All}
use Rattle.std.specs.Option.{option_map_or}
use Rattle.std.proofs.lemmas.List.{length_push}
use Rattle.ann_defs.specs.declared.near.Near.{Near}
use Rattle.ann_defs.specs.Graph.{IsGraph}
use Rattle.ann_defs.specs.GreedySearch.{Walk, next_of, visit, walk, start_of, search_of}
use Rattle.ann_defs.proofs.SearchStates.{sound_start, sound_walk, room_left}

module _ (points : List (List ℕ)) (row : ℕ → List ℕ) (query : List ℕ) (beam : ℕ) where
  -- after k steps nothing is left, or k more are visited
  abbrev IsLeftOrMore : ℕ → Walk → Walk → Type 0
  IsLeftOrMore k w last = (next_of last ≡ None) ⊎ (length last.visited ≡ length w.visited + k)

  one_more : (k : ℕ) (w last : Walk) (p : Near) → IsLeftOrMore k (visit points row query beam w p) last → IsLeftOrMore (suc k) w last
  one_more k w last p h =
      elim h as (λ _. IsLeftOrMore (suc k) w last) [
        | inl e ↦ inl e
        | inr e ↦ let one : length (w.visited ++ p ∷ []) ≡ length w.visited + 1 = length_push w.visited p in inr (omega arith)
      ]

  left_or_more : (k : ℕ) (w : Walk) → IsLeftOrMore k w (walk points row query beam k w)
  left_or_more zero w = inr (omega arith)
  left_or_more (suc k) w =
      elim (next_of w) as (λ o. next_of w ≡ o → IsLeftOrMore (suc k) w (option_map_or (λ p. walk points row query beam k (visit points row query beam w p)) o w)) [
        | None ↦ λ e. inl e
        | Some p ↦ λ _. one_more k w (walk points row query beam k (visit points row query beam w p)) p (left_or_more k (visit points row query beam w p))
      ] refl

  pub nothing_left : (held : ℕ → Bool) (starts : List ℕ) → IsGraph (length points) held row → All (λ u. held u ≡ true) starts → next_of (search_of points row query beam starts) ≡ None
  nothing_left held starts g all =
      let start = start_of points row query beam starts in
      let last = walk points row query beam (length points) start in
      let sound = sound_walk points row query beam held g (length points) start (sound_start points row query beam held starts all) in
      elim (left_or_more (length points) start) as (λ _. next_of last ≡ None) [
        | inl e ↦ e
        | inr full ↦ elim (next_of last) as (λ o. next_of last ≡ o → o ≡ None) [
          | None ↦ λ _. refl
          | Some p ↦ λ e. let room = room_left points row query beam held g last p sound e in absurd (omega arith)
        ] refl
      ]
