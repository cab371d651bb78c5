use Rattle.std.proofs.Common.{◌∙◌, ◌+◌, ◌*◌, ◌≤◌, List, length, map, ap, sym, subst}
use Rattle.std.specs.List.{All}
use Rattle.ann_defs.specs.declared.near.Near.{Near}
use Rattle.batch_search.specs.Answers.{round_of}
use Rattle.batch_search.specs.Blocks.{answer_in, HasAnswer}
use Rattle.batch_search.proofs.Blocks.{answers_written, all_have}
use Rattle.batch_search.proofs.Rounds.{all_round}
use Rattle.batch_search.proofs.round.answer_round.Goals as goal

pub of-requires : goal.of-requires
of-requires g c =
    let t = c.round_from-tasks.result in
    subst (All HasAnswer) (sym c.in_ok-blocks.ensures.blocks) (all_have (2 * g.A.Answering.longest t.batch.now + 1) (round_of (g.A.Answering.answers t.batch.now) t.from))

pub returns-clause-answers : goal.returns-clause-answers
returns-clause-answers g c =
    let t = c.round_from-tasks.result in
    let same = c.round_from-tasks.ensures.batch in
    let first = c.round_from-tasks.ensures.from in
    c.of.ensures
    ∙ ap (map answer_in) c.in_ok-blocks.ensures.blocks
    ∙ answers_written (2 * g.A.Answering.longest t.batch.now + 1) (round_of (g.A.Answering.answers t.batch.now) t.from)
    ∙ (λ j. round_of (g.A.Answering.answers (same j)) (first j))

pub returns-clause-short : goal.returns-clause-short
returns-clause-short g c =
    let b = c.args.batch.now in
    let k = g.A.Answering.longest b in
    subst (All (λ (nears : List Near). length nears ≤ k)) (sym (returns-clause-answers g c)) (all_round (λ nears. length nears ≤ k) (g.A.Answering.answers b) c.args.from c.round_from-tasks.ensures.short)
