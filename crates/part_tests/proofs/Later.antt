-- Ids from one on as sources, and what is gathered of ids.
use Rattle.std.proofs.Common.{◌≡◌, ◌≢◌, ℕ, zero, suc, ◌-◌, ◌<◌, ◌≤◌, List, [], replicate, length, sym, subst, arith}
use Rattle.std.specs.List.{All, range_with_len}
use Rattle.std.proofs.lemmas.List.Elements.{All-nil}
use Rattle.ann_defs.specs.declared.near.Near.{Near}
use Rattle.ann_defs.specs.Distance.{point}
use Rattle.ann_defs.specs.Nearness.{near_of, all_near}
use Rattle.ann_defs.proofs.Members.{all_from_has, distinct_once, range_has, range_once}
use Rattle.batch_insert.specs.Sources.{AreSources}
use Rattle.near_lists.specs.Gathered.{gathered}
use Rattle.near_lists.specs.Marks.{AreUpTo}
use Rattle.near_lists.proofs.Gathering.{is_gathered}
use Rattle.robust_prune.specs.Candidates.{AreCandidates}

-- ids of n points from one on, that isn't the first point
pub later_are_sources : (n first : ℕ) → 1 ≤ first → first ≤ n → AreSources n 0 (range_with_len first (n - first))
later_are_sources n first some few = record {
  inside = all_from_has (λ v. v < n) (range_with_len first (n - first)) (λ u h. let within = range_has first (n - first) u h in omega (arith, within.0, within.1));
  distinct = distinct_once (range_with_len first (n - first)) (range_once first (n - first));
  others = all_from_has (λ v. v ≢ 0) (range_with_len first (n - first)) (λ u h e. let within = range_has first (n - first) u h in omega (arith, within.0, e));
}

-- no mark is later than 0
pub no_marks : (n : ℕ) → AreUpTo 0 (replicate n 0)
no_marks zero u = omega arith
no_marks (suc n) zero = omega arith
no_marks (suc n) (suc u) = no_marks n u

-- what is gathered of ids are candidates
pub gathered_are : (points : List (List ℕ)) (ids : List ℕ) (nears : List Near) → All (λ (u : ℕ). u < length points) ids → nears ≡ gathered 0 (all_near points (point points 0) ids) → AreCandidates points 0 nears
gathered_are points ids nears inside is =
    let g = is_gathered points 0 [] ids (All-nil (λ (z : Near). z.id < length points)) (All-nil (λ (z : Near). z ≡ near_of points (point points 0) z.id)) inside in
    subst (AreCandidates points 0) (sym is) (record { in_range = g.in_range; near = g.near; distinct = g.distinct; others = g.others })
