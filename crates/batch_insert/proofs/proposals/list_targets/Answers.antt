use Rattle.std.proofs.Common.{◌≡◌, ◌∙◌, ◌<◌, ◌+◌, ◌++◌, ◌∷◌, [], ap, sym, arith, length, List, get_or, take, ℕ}
use Rattle.std.proofs.lemmas.List.{length_push}
use Rattle.batch_insert.specs.declared.pair.Pair.{Pair}
use Rattle.batch_insert.specs.Proposing.{targets_of}
use Rattle.batch_insert.proofs.Grouping.{targets_none, targets_new, targets_old}
use Rattle.batch_insert.proofs.proposals.list_targets.Goals as goal
use Rattle.batch_insert.proofs.proposals.list_targets.Goals.{then-i-eq0, then-i-eq0-via-then-i-eq0, then-i-eq0-via-else-i-eq0+then-pairs-i, else-i-eq0+else-pairs-i}

pub loop-i-preserved : goal.loop-i-preserved
loop-i-preserved c =
    let pairs = c.args.pairs.now in
    let i = c.loop-i.i in
    let d : Pair = record { target = 0; source = 0 } in
    let sorted = c.requires.sorted in
    let within : i < length pairs = c.loop-i-test.true in
    elim c.if-i-eq0.branch [
      | then-i-eq0 w ↦
          let next : targets_of (take (i + 1) pairs) ≡ targets_of (take i pairs) ++ (get_or pairs i d).target ∷ [] =
          elim w.then-i-eq0.branch [
            | then-i-eq0-via-then-i-eq0 w' ↦ targets_none pairs sorted i d within (omega arith)
            | then-i-eq0-via-else-i-eq0+then-pairs-i w' ↦ targets_new pairs sorted i d within (omega arith) w'.if-pairs-i.true
          ] in
          rw w.targets-is (record {
            items = w.push_within.ensures.items ∙ ap (λ (ts : List ℕ). ts ++ (get_or pairs i d).target ∷ []) c.loop-i.invariant.items ∙ sym next;
            count = rw w.push_within.ensures.items (rw length_push (omega arith));
            capacity = omega arith;
          })
      | else-i-eq0+else-pairs-i w ↦
          rw w.targets-is (record {
            items = c.loop-i.invariant.items ∙ sym (targets_old pairs sorted i d within (omega arith) w.if-pairs-i.false);
            count = omega arith;
            capacity = c.loop-i.invariant.capacity;
          })
    ]
