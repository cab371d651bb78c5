use Rattle.std.proofs.Common.{◌≡◌, ◌∙◌, ◌+◌, ◌*◌, ◌<◌, List, length, sym, ap, subst, arith}
use Rattle.std.proofs.lemmas.List.{with_items_is}
use Rattle.ann_defs.specs.Graph.{row_in}
use Rattle.ann_defs.specs.declared.limits.TheConstants.{MAX_POINTS}
use Rattle.beam_search.specs.Room.{Room}
use Rattle.steal_pool.specs.declared.post.Post.{Post}
use Rattle.vamana_build.specs.Builds.{batches_of, build_at, rows_at}
use Rattle.vamana_build.specs.Settled.{AreSettled}
use Rattle.vamana_build.specs.Building.{Building, IsBuilt}
use Rattle.vamana_build.specs.Changes.{change_at}
use Rattle.vamana_build.proofs.Plans.{start_below}
use Rattle.vamana_build.proofs.NextBatch.{some_left, few_left, stepped}
use Rattle.vamana_build.proofs.vamana.Vamana.step.Goals as goal

pub overflow_add-self-inside : goal.overflow_add-self-inside
overflow_add-self-inside g c =
    let v = c.self.inside in
    let less = few_left v.plan.now.points.now.vectors v.plan.now.settings v.batch (2 * MAX_POINTS) v.next _ c.self.invariant.0.next_is c.in-Some.is c.self.invariant.0.few in
    omega (arith, less)

pub change_of-requires-clause-few : goal.change_of-requires-clause-few
change_of-requires-clause-few g c κs within =
    let v = c.self.inside in
    few_left v.plan.now.points.now.vectors v.plan.now.settings v.batch (2 * MAX_POINTS) v.next _ c.self.invariant.0.next_is c.in-Some.is c.self.invariant.0.few

pub change_of-requires-clause-left : goal.change_of-requires-clause-left
change_of-requires-clause-left g c κs within =
    let v = c.self.inside in
    let plan = v.plan.now in
    some_left plan.points.now.vectors plan.settings v.batch v.next _ c.self.invariant.0.next_is c.in-Some.is

pub invariant_of-self-2 : goal.invariant_of-self-2
invariant_of-self-2 g c =
    let v = c.self.inside in
    let plan = v.plan.now in
    let points = plan.points.now.vectors in
    let next = c.next_places-self-inside in
    let posts : List (Post Room) = c.change_of.new.posts in
    let whole = with_items_is v.posts posts (c.change_of.auto.posts ∙ c.as_mut_slice-2.ensures.len) in
    let count : length posts ≡ length v.posts.items = c.change_of.auto.posts ∙ ap length c.as_mut_slice-2.ensures.value in
    let built = stepped points plan.settings v.batch v.graph c.put_into.new.graph v.batches next.new.batches v.next next.result v.posts.items posts _ c.in_ok-change.change (start_below plan) (sym (ap length plan.ordered) ∙ plan.whole) c.self.invariant.0 c.in-Some.is c.in_ok-change.ensures.change c.put_into.ensures
    next.ensures.next next.ensures.fits next.ensures.given
    c.in_ok-change.ensures.serve count in (
      subst (λ (ps : List (Post Room)). IsBuilt points plan.settings (v.batch + 1) c.put_into.new.graph next.new.batches next.result ps) (sym whole) built,
      c.self.invariant.1,
      subst (AreSettled (build_at points plan.settings (v.batch + 1)) (row_in (rows_at points plan.settings (v.batch + 1)))) (sym (with_items_is v.settled c.change_of.new.counts (c.change_of.auto.counts ∙ c.as_mut_slice.ensures.len))) c.in_ok-change.ensures.settled,
    )

pub returns-clause-some : goal.returns-clause-some
returns-clause-some g c =
    let v = c.self.inside in
    let plan = v.plan.now in
    let posts : List (Post Room) = c.change_of.new.posts in
    let whole = with_items_is v.posts posts (c.change_of.auto.posts ∙ c.as_mut_slice-2.ensures.len) in
    let count : length posts ≡ length v.posts.items = c.change_of.auto.posts ∙ ap length c.as_mut_slice-2.ensures.value in
    let less = some_left plan.points.now.vectors plan.settings v.batch v.next _ c.self.invariant.0.next_is c.in-Some.is in (
      subst (λ (b : Building). b.batch < batches_of b.points b.settings) c.self.view_is less,
      c.in_ok-change.ensures.change ∙ ap (λ (b : Building). change_at b.points b.settings b.batch) c.self.view_is,
      ap (λ (ps : List (Post Room)). record { points = plan.points.now.vectors; settings = plan.settings; batch = v.batch + 1; workers = length ps }) whole
          ∙ ap (λ m. record { points = plan.points.now.vectors; settings = plan.settings; batch = v.batch + 1; workers = m }) count
          ∙ ap (λ (b : Building). record b { batch = b.batch + 1 }) c.self.view_is,
    )
