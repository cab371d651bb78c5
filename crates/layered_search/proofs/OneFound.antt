-- A search with beam 1 finds one id.
use Rattle.std.proofs.Common.{◌≡◌, ℕ, zero, suc, ◌≤◌, Some, None, List, [], ◌∷◌, ◌++◌, length, get_or, refl, arith, length-append, length-take}
use Rattle.std.specs.List.{fold}
use Rattle.std.specs.Option.{option_map_or}
use Rattle.std.specs.Ordering.{match_ordering}
use Rattle.std.specs.declared.cmp.Ordering.TheVariants.{Less, Equal, Greater}
use Rattle.ann_defs.specs.declared.near.Near.{Near}
use Rattle.ann_defs.specs.Ordered.{put, ordered}
use Rattle.ann_defs.specs.Nearness.{near_cmp, all_near, ids_of, least}
use Rattle.ann_defs.specs.GreedySearch.{Walk, next_of, visit, walk, start_of, found_of}

put_some : (ys : List Near) (x : Near) → 1 ≤ length (put near_cmp ys x)
put_some [] x = omega arith
put_some (y ∷ ys) x = elim (near_cmp x y) as (λ r. 1 ≤ length (match_ordering r (x ∷ y ∷ ys) (y ∷ ys) (y ∷ put near_cmp ys x))) [
  | Less ↦ omega arith
  | Equal ↦ omega arith
  | Greater ↦ omega arith
]

fold_some : (ys xs : List Near) → 1 ≤ length ys → 1 ≤ length (fold (put near_cmp) ys xs)
fold_some ys [] h = h
fold_some ys (x ∷ xs) h = fold_some (put near_cmp ys x) xs (put_some ys x)

ordered_some : (xs : List Near) → 1 ≤ length xs → 1 ≤ length (ordered near_cmp xs)
ordered_some [] h = absurd (omega arith)
ordered_some (x ∷ xs) h = fold_some (x ∷ []) xs (omega arith)

least_some : (xs : List Near) (k : ℕ) → 1 ≤ k → 1 ≤ length xs → 1 ≤ length (least xs k)
least_some xs k some h = let more = ordered_some xs h in simp length-take (omega arith)

module _ (points : List (List ℕ)) (row : ℕ → List ℕ) (query : List ℕ) (beam : ℕ) (some : 1 ≤ beam) where
  walk_some : (k : ℕ) (w : Walk) → 1 ≤ length w.found → 1 ≤ length (walk points row query beam k w).found
  walk_some zero w h = h
  walk_some (suc k) w h =
      elim (next_of w) as (λ o. 1 ≤ length (option_map_or (λ p. walk points row query beam k (visit points row query beam w p)) o w).found) [
        | None ↦ h
        | Some p ↦ walk_some k (visit points row query beam w p) (least_some (w.found ++ all_near points query (row p.id)) beam some (simp length-append (omega arith)))
      ]

  -- a search from somewhere finds something
  pub found_some : (entry : ℕ) → 1 ≤ length (found_of points row query beam (entry ∷ []))
  found_some entry = walk_some (length points) (start_of points row query beam (entry ∷ [])) (least_some (all_near points query (entry ∷ [])) beam some (omega arith))

-- one is the first
pub one_id : (nears : List Near) (d : Near) → 1 ≤ length nears → length nears ≤ 1 → (get_or nears 0 d).id ∷ [] ≡ ids_of nears
one_id [] d some few = absurd (omega arith)
one_id (x ∷ []) d some few = refl
one_id (x ∷ y ∷ nears) d some few = absurd (omega arith)
