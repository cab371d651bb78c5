use Rattle.std.proofs.Common.{◌≡◌, ◌∙◌, ◌+◌, ◌*◌, ◌<◌, ◌≤◌, List, ◌∷◌, [], ◌++◌, take, drop, length, get_or, ap, sym, arith}
use Rattle.std.proofs.lemmas.List.{take_more, take_more_set}
use Rattle.ann_defs.specs.declared.near.Near.{Near}
use Rattle.batch_search.specs.Blocks.{pairs_in}
use Rattle.batch_search.proofs.Blocks.{answer_count, block_pair, block_pairs}
use Rattle.batch_search.proofs.block.read_answer.Goals as goal

pub bounds-out-at : goal.bounds-out-at
bounds-out-at c =
    let count = answer_count c.args.block.now c.requires.whole in
    omega (arith, count)

pub loop-at-preserved : goal.loop-at-preserved
loop-at-preserved c =
    let block = c.args.block.now in
    let at = c.loop-at.at in
    let pairs = pairs_in (drop 1 block) in
    let whole = c.requires.whole in
    let count = answer_count block whole in
    let x : Near = record { dist = get_or block (2 * at + 2) 0; id = get_or block (2 * at + 1) 0 } in
    let within : at < length c.loop-at.out = omega (arith, count) in
    let enough : at + 1 ≤ length pairs = block_pairs block (at + 1) (omega (arith, whole)) in
    let pair : get_or pairs at x ≡ x = block_pair block at x (omega (arith, whole)) in
    record {
      front = take_more_set c.loop-at.out at x within
          ∙ ap (λ (xs : List Near). xs ++ x ∷ []) c.loop-at.invariant.front
          ∙ ap (λ (y : Near). take at pairs ++ y ∷ []) (sym pair)
          ∙ sym (take_more pairs at x (omega (arith, enough)));
    }

pub returns-clause-count : goal.returns-clause-count
returns-clause-count c = sym (answer_count c.args.block.now c.requires.whole)
