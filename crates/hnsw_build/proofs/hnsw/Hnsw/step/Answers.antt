use Rattle.std.proofs.Common.{◌≡◌, ◌∙◌, ◌+◌, ◌<◌, [], ℕ, List, length, get_or, map, sym, ap, subst}
use Rattle.std.specs.List.{range_with_len}
use Rattle.std.specs.Vec.{with_items}
use Rattle.std.proofs.lemmas.List.{with_items_is}
use Rattle.batch_insert.specs.Changes.{put_all_in_layer}
use Rattle.beam_search.specs.Room.{Room}
use Rattle.graph_rows.specs.Layers.{Layered}
use Rattle.steal_pool.specs.declared.post.Post.{Post}
use Rattle.hnsw_build.specs.Layering.{top_of}
use Rattle.hnsw_build.specs.HnswBuilds.{build_of, layers_at}
use Rattle.hnsw_build.specs.Building.{IsBuilt}
use Rattle.hnsw_build.specs.Wanted.{change_in}
use Rattle.hnsw_build.proofs.PlanFacts.{plan_layered, plan_batch}
use Rattle.hnsw_build.proofs.NextBatch.{stepped}
use Rattle.hnsw_build.proofs.hnsw.Hnsw.step.Goals as goal

pub invariant_of-self-2 : goal.invariant_of-self-2
invariant_of-self-2 g c =
    let v = c.self.inside in
    let plan = v.plan.now in
    let points = plan.points.now.vectors in
    let s = plan.settings in
    let levels = plan.levels.items in
    let next = c.next-self-inside in
    let posts : List (Post Room) = c.batch_change.new.posts in
    let upper : List Layered = c.put_into.new.upper in
    let long : length upper ≡ length v.upper.items = c.put_into.auto.upper ∙ ap (λ (ls : List Layered). length ls) c.as_mut_slice-2.ensures.value in
    let whole_upper = with_items_is v.upper upper (c.put_into.auto.upper ∙ c.as_mut_slice-2.ensures.len) in
    let whole_posts = with_items_is v.posts posts (c.batch_change.auto.posts ∙ c.as_mut_slice.ensures.len) in
    let count : length posts ≡ length v.posts.items = c.batch_change.auto.posts ∙ ap (λ (ps : List (Post Room)). length ps) c.as_mut_slice.ensures.value in
    let b = build_of points s levels in
    let layers = layers_at points s levels v.batch in
    let base = c.in_ok-change.ensures.base ∙ ap (λ (ids : List ℕ). change_in b layers ids 0) (plan_batch plan v.batch) in
    let others = c.in_ok-change.ensures.upper ∙ ap (λ (ids : List ℕ). map (change_in b layers ids) (range_with_len 1 (top_of levels))) (plan_batch plan v.batch) in
    let each = subst (λ (ls : List Layered). (j : ℕ) (d : Layered) → j < length ls → get_or upper j d ≡ put_all_in_layer (get_or ls j d) (get_or c.in_ok-change.change.upper.items j [])) c.as_mut_slice-2.ensures.value c.put_into.ensures.upper in
    let built = stepped points s levels (plan_layered plan) v.batch v.base c.put_into.new.base v.upper.items upper v.batches next.new.self v.next next.result v.posts.items posts _ c.in_ok-change.change.base c.in_ok-change.change.upper.items c.self.invariant c.in-Some.is base others c.put_into.ensures.base long each
    (record { counted = next.ensures.counted; bounds = next.ensures.bounds; fits = next.ensures.some; given = next.ensures.given; same = next.ensures.same })
    c.in_ok-change.ensures.serve count in
    subst (λ (ls : List Layered). IsBuilt points s levels (v.batch + 1) c.put_into.new.base ls next.new.self next.result (with_items v.posts posts).items) (sym whole_upper)
    (subst (λ (ps : List (Post Room)). IsBuilt points s levels (v.batch + 1) c.put_into.new.base upper next.new.self next.result ps) (sym whole_posts) built)
