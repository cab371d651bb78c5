use Rattle.std.proofs.Common.{◌∙◌, ◌++◌, ◌∷◌, [], List, ℕ, Vec, Global, sym, ap}
use Rattle.hnsw_build.proofs.LevelFacts.{members_kept, members_left}
use Rattle.hnsw_build.proofs.members.member_ids.Goals as goal
use Rattle.hnsw_build.proofs.members.member_ids.Goals.{then-levels-id+in_ok-push, else-levels-id}

pub loop-id-preserved : goal.loop-id-preserved
loop-id-preserved c =
    let levels = c.args.levels.now in
    let l = c.args.layer in
    let id = c.loop-id.id in
    elim c.if-levels-id.branch [
      | then-levels-id+in_ok-push w ↦ ap (λ (v : Vec ℕ Global). v.items) w.ids-is ∙ w.in_ok-push.ensures.items ∙ ap (λ (ids : List ℕ). ids ++ id ∷ []) c.loop-id.invariant ∙ sym (members_kept levels l id c.loop-id-test.true w.if-levels-id.true)
      | else-levels-id w ↦ ap (λ (v : Vec ℕ Global). v.items) w.ids-is ∙ c.loop-id.invariant ∙ sym (members_left levels l id c.loop-id-test.true w.if-levels-id.false)
    ]
