-- A shared graph is a graph of the plan's points, and a search in it gives the definition's answer.
use Rattle.std.proofs.Common.{◌≡◌, ℕ, ◌+◌, ◌<◌, ◌≤◌, Bool, true, List, [], ◌∷◌, length, take, get_or, inl, inr, refl, sym, ap, ◌∙◌, subst, arith}
use Rattle.std.specs.Prelude.{nat_lt, ◌==◌}
use Rattle.std.specs.List.{All, range_with_len}
use Rattle.std.proofs.lemmas.Bool.{cases_lt, eqb-true, lt-ltb}
use Rattle.std.proofs.lemmas.List.Sums.{passes_at_first}
use Rattle.std.proofs.lemmas.List.FromFn.{get_or-range_with_len, length-range_with_len}
use Rattle.ann_defs.specs.declared.near.Near.{Near}
use Rattle.ann_defs.specs.BatchInsert as batches
use Rattle.ann_defs.specs.Graph.{IsGraph, AreGoodRows}
use Rattle.ann_defs.specs.GreedySearch.{search_of}
use Rattle.ann_defs.proofs.GoodGraphs.{graph_from_good}
use Rattle.ann_defs.proofs.Members.{all_from_has}
use Rattle.beam_search.specs.Room.{Room, after_search}
use Rattle.graph_rows.specs.Flat.{Flat, row_at}
use Rattle.vamana_build.specs.Builds.{start_of, pass_of}
use Rattle.vamana_build.specs.declared.plan.Plan.{Plan}
use Rattle.vamana_build.proofs.NextBatch.{passes_some}
use Rattle.vamana_build.proofs.Plans.{start_below}
use Rattle.vamana_build.proofs.Stepping.{rows_good}
use Rattle.versions.specs.Course.{answer_at, course_of, graph_after, total_of}

good_after : (p : Plan) (v : ℕ) → AreGoodRows (length p.points.now.vectors) p.settings.degree (graph_after (course_of p) v).rows
unfolding graph_after
good_after p v = rows_good p.points.now.vectors p.settings (start_below p) v

pub is_graph : (p : Plan) (v : ℕ) (g : Flat) → g ≡ graph_after (course_of p) v → IsGraph (length p.points.now.vectors) (λ u. nat_lt u (length g.rows)) (λ u. row_at g u)
is_graph p v g is =
    let n = length p.points.now.vectors in
    let good : AreGoodRows n p.settings.degree g.rows = subst (λ (h : Flat). AreGoodRows n p.settings.degree h.rows) (sym is) (good_after p v) in
    subst (λ m. IsGraph n (λ u. nat_lt u m) (λ u. row_at g u)) (sym good.count) (graph_from_good n p.settings.degree g.rows good)

-- it holds the start
pub holds_start : (p : Plan) (v start : ℕ) (g : Flat) → g ≡ graph_after (course_of p) v → start < length p.points.now.vectors → All (λ u. nat_lt u (length g.rows) ≡ true) (start ∷ [])
holds_start p v start g is at =
    let count : length g.rows ≡ length p.points.now.vectors = ap (λ (h : Flat). length h.rows) is ∙ (good_after p v).count in
    all_from_has (λ u. nat_lt u (length g.rows) ≡ true) (start ∷ []) (λ u m. elim m as (λ _. nat_lt u (length g.rows) ≡ true) [
      | inl e ↦ subst (λ (w : ℕ). nat_lt w (length g.rows) ≡ true) e (lt-ltb start (length g.rows) (omega (arith, count, at)))
      | inr k ↦ absurd k
    ])

-- what is found from the start, cut at k, is the answer
answer_found : (p : Plan) (v beam k : ℕ) (q : List ℕ) → take k (search_of p.points.now.vectors (row_at (graph_after (course_of p) v)) q beam (start_of p.points.now.vectors p.settings ∷ [])).found ≡ answer_at (course_of p) v beam k q
unfolding graph_after answer_at
answer_found p v beam k q = refl

pub answer_is : (p : Plan) (v beam k start : ℕ) (q : List ℕ) (g : Flat) (old new : Room) (pairs found : List Near) → g ≡ graph_after (course_of p) v → start ≡ start_of p.points.now.vectors p.settings
    → new ≡ after_search old (search_of p.points.now.vectors (λ u. row_at g u) q beam (start ∷ [])) → found ≡ new.last.found → pairs ≡ take k found → pairs ≡ answer_at (course_of p) v beam k q
answer_is p v beam k start q g old new pairs found is at walk shown cut =
    cut
    ∙ ap (take k) (shown ∙ ap (λ (r : Room). r.last.found) walk)
    ∙ (λ i. take k (search_of p.points.now.vectors (λ u. row_at (is i) u) q beam (at i ∷ [])).found)
    ∙ answer_found p v beam k q

-- there is at least one batch
some_batches : (n cap : ℕ) → 1 ≤ n → 1 ≤ batches.total_of n cap
some_batches n cap some =
    let ends : ℕ → Bool = λ k. batches.bound_at n cap k == n in
    let counts : List ℕ = range_with_len 0 (n + 1) in
    elim (cases_lt (batches.total_of n cap) 1) as (λ _. 1 ≤ batches.total_of n cap) [
      | inl h ↦
          let none : batches.total_of n cap ≡ 0 = omega arith in
          let listed : batches.total_of n cap < length counts = rw (length-range_with_len 0 (n + 1)) (omega arith) in
          let first : get_or counts (batches.total_of n cap) 0 ≡ 0 = ap (λ k. get_or counts k 0) none ∙ get_or-range_with_len 0 (n + 1) 0 0 (omega arith) in
          absurd (let no : 0 ≡ n = eqb-true _ _ (sym (ap ends first) ∙ passes_at_first ends counts 0 listed) in omega arith)
      | inr h ↦ h
    ]

pub total_some : (p : Plan) → 1 ≤ total_of (course_of p)
unfolding total_of
total_some p =
    let n = p.count.0 in
    passes_some p.settings.passes (pass_of p.points.now.vectors p.settings) p.passes.0 (some_batches (length p.points.now.vectors) _ n)
