-- The builder's graphs are those of the course.
use Rattle.std.proofs.Common.{◌≡◌, ◌∙◌, ℕ, ◌+◌, ◌<◌, ◌≤◌, List, length, refl, sym, ap, subst, arith, ◌∷◌, [], length-take}
use Rattle.std.specs.Prelude.{take, Option, Some, IfSome}
use Rattle.ann_defs.specs.declared.near.Near.{Near}
use Rattle.ann_defs.specs.Graph.{row_in}
use Rattle.ann_defs.specs.GreedySearch.{found_of}
use Rattle.vamana_build.specs.Builds.{batches_of, graph_at, rows_at, start_of}
use Rattle.vamana_build.specs.Building.{Building}
use Rattle.vamana_build.specs.Changes.{Change, change_at}
use Rattle.vamana_build.specs.declared.plan.Plan.{Plan}
use Rattle.vamana_build.proofs.Plans.{start_below}
use Rattle.vamana_build.proofs.Stepping.{change_leads}
use Rattle.versions.specs.Course.{Course, course_of, graph_after, total_of, answer_at, LeadsFrom}
use Rattle.versions.specs.Standing.{Desk}
use Rattle.live_session.specs.Builder.{AreInStep}

pub after_is : (c : Course) (v : ℕ) → graph_after c v ≡ graph_at c.points c.settings v
unfolding graph_after
after_is c v = refl

pub total_is : (c : Course) → total_of c ≡ batches_of c.points c.settings
unfolding total_of
total_is c = refl

answer_is : (c : Course) (v beam k : ℕ) (query : List ℕ) → answer_at c v beam k query ≡ take k (found_of c.points (row_in (rows_at c.points c.settings v)) query beam (start_of c.points c.settings ∷ []))
unfolding answer_at
answer_is c v beam k query = refl

module _ (p : Plan) where
  -- the change of a step leads to the next graph
  leads : (k : ℕ) (change : Change) → k < batches_of p.points.now.vectors p.settings → change ≡ change_at p.points.now.vectors p.settings k → LeadsFrom (course_of p) k change
  unfolding graph_after total_of
  leads k change left e =
      let points = p.points.now.vectors in
      let s = p.settings in
      subst (LeadsFrom (course_of p) k) (sym e) (record {
        batch = λ _. k + 1;
        within = omega (arith, left);
        next = change_leads points s (start_below p) k (sym (ap length p.ordered) ∙ p.whole);
      })

  -- the change of a builder's step leads from the graph that was published last
  pub step_leads : (many : ℕ) (b new : Building) (d : Desk) (step : Option Change) (change : Change) → AreInStep (course_of p) many b d → step ≡ Some change → IfSome step (λ x. (b.batch < batches_of b.points b.settings) × (x ≡ change_at b.points b.settings b.batch) × (new ≡ record b { batch = b.batch + 1 })) → LeadsFrom d.course d.batch change
  step_leads many b new d step change at is some =
      let stepped = subst (λ (o : Option Change). IfSome o (λ x. (b.batch < batches_of b.points b.settings) × (x ≡ change_at b.points b.settings b.batch) × (new ≡ record b { batch = b.batch + 1 }))) is some in
      let left : b.batch < batches_of p.points.now.vectors p.settings = subst (λ n. b.batch < n) (λ i. batches_of (at.points i) (at.settings i)) stepped.0 in
      let same : change ≡ change_at p.points.now.vectors p.settings b.batch = stepped.1 ∙ (λ i. change_at (at.points i) (at.settings i) b.batch) in
      subst (λ n. LeadsFrom d.course n change) (sym at.batch) (subst (λ x. LeadsFrom x b.batch change) (sym at.course) (leads b.batch change left same))

-- no answer has more than k ids
pub answer_short : (c : Course) (v beam k : ℕ) (query : List ℕ) → length (answer_at c v beam k query) ≤ k
answer_short c v beam k query =
    let same = ap (λ (xs : List Near). length xs) (answer_is c v beam k query) in
    let all = length-take k (found_of c.points (row_in (rows_at c.points c.settings v)) query beam (start_of c.points c.settings ∷ [])) in
    omega (arith, same, all)
