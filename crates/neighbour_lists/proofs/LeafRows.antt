-- Lists with the leaves of a tree.
use Rattle.std.proofs.Common.{ℕ, ◌<◌, List, [], ◌++◌, length, sym, subst, inl, inr}
use Rattle.std.specs.List.{All, position_or_len}
use Rattle.std.proofs.lemmas.Bool.{cases_lt}
use Rattle.std.proofs.lemmas.List.{get_or_past}
use Rattle.std.proofs.lemmas.List.Elements.{All-get_or, All-nil}
use Rattle.ann_defs.specs.Graph.{has, row_in}
use Rattle.ann_defs.specs.Ordered.{Has}
use Rattle.ann_defs.proofs.Members.{has-append}
use Rattle.ann_defs.proofs.Order.{All_has}
use Rattle.pivot_trees.specs.Leaves.{leaf_with}
use Rattle.neighbour_lists.specs.Held.{Held, ArePointLists, BelongTo}
use Rattle.neighbour_lists.specs.ListRound.{with_leaves}
use Rattle.neighbour_lists.proofs.NearestLists.{nearest_lists}

-- a leaf has points
leaf_inside : (n : ℕ) (leaves : List (List ℕ)) (v : ℕ) → All (λ ids. All (λ u. u < n) ids) leaves → All (λ u. u < n) (leaf_with leaves v)
leaf_inside n leaves v inside =
    let at = position_or_len (λ ids. has ids v) leaves in
    elim (cases_lt at (length leaves)) as (λ _. All (λ u. u < n) (leaf_with leaves v)) [
      | inl lt ↦ All-get_or (λ ids. All (λ u. u < n) ids) leaves at [] lt inside
      | inr ge ↦ subst (All (λ u. u < n)) (sym (get_or_past leaves at [] ge)) (All-nil (λ u. u < n))
    ]

-- what a point may take with its leaf are points
pub with_leaf_inside : (points : List (List ℕ)) (l : Held) (leaves : List (List ℕ)) → BelongTo points l → All (λ ids. All (λ u. u < length points) ids) leaves → (v u : ℕ) → v < length points → Has (row_in l.rows v ++ leaf_with leaves v) u → u < length points
with_leaf_inside points l leaves belong inside v u below h =
    elim (has-append (row_in l.rows v) (leaf_with leaves v) u h) as (λ _. u < length points) [
      | inl m ↦ All_has (λ w. w < length points) (row_in l.rows v) u (belong.rows.good v below).inside m
      | inr m ↦ All_has (λ w. w < length points) (leaf_with leaves v) u (leaf_inside (length points) leaves v inside) m
    ]

-- the lists with the leaves
pub leaf_lists : (points : List (List ℕ)) (l : Held) (leaves : List (List ℕ)) → BelongTo points l → All (λ ids. All (λ u. u < length points) ids) leaves → ArePointLists points l.list (with_leaves points l.list (leaf_with leaves) l.rows)
leaf_lists points l leaves belong inside = nearest_lists points l.list (λ v. row_in l.rows v ++ leaf_with leaves v) (with_leaf_inside points l leaves belong inside)
