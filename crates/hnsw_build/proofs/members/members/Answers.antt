use Rattle.std.proofs.Common.{◌+◌, ◌∙◌, List, ℕ, length, sym, ap, arith}
use Rattle.std.specs.List.{filter, range_with_len}
use Rattle.std.proofs.lemmas.List.{length_push}
use Rattle.hnsw_build.specs.Layering.{is_in}
use Rattle.hnsw_build.proofs.LevelFacts.{members_kept, members_left}
use Rattle.hnsw_build.proofs.members.members.Goals as goal
use Rattle.hnsw_build.proofs.members.members.Goals.{then-levels-id, else-levels-id}

pub loop-id-preserved : goal.loop-id-preserved
loop-id-preserved c =
    let levels = c.args.levels.now in
    let l = c.args.layer in
    let id = c.loop-id.id in
    let before = filter (is_in levels l) (range_with_len 0 id) in
    elim c.if-levels-id.branch [
      | then-levels-id w ↦ record {
        value = w.count-is ∙ ap (λ n. n + 1) c.loop-id.invariant.value ∙ sym (ap (λ (ids : List ℕ). length ids) (members_kept levels l id c.loop-id-test.true w.if-levels-id.true) ∙ length_push before id);
        bound = omega arith;
      }
      | else-levels-id w ↦ record {
        value = w.count-is ∙ c.loop-id.invariant.value ∙ sym (ap (λ (ids : List ℕ). length ids) (members_left levels l id c.loop-id-test.true w.if-levels-id.false));
        bound = omega arith;
      }
    ]
