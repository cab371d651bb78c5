use Rattle.std.proofs.Common.{◌∙◌, ◌<◌, ◌+◌, ◌++◌, sym, subst, refl, arith, length, [], ◌∷◌}
use Rattle.std.specs.Prelude.{take, drop, slice_index_or}
use Rattle.std.proofs.lemmas.List.{take_all}
use Rattle.command_shapes.specs.Ends.{fault_in}
use Rattle.command_shapes.specs.Waiting.{WaitIn}
use Rattle.command_shapes.specs.Writing.{Printed}
use Rattle.command_shapes.proofs.Told.{fault_passed}
use Rattle.command_shapes.specs.AnswerLines.{answer_line, lines_from}
use Rattle.command_shapes.proofs.LineLists.{line_more, line_among}
use Rattle.command_shapes.proofs.WaitingFacts.{no_lines_wait, all_flushed}
use Rattle.command_shapes.proofs.lines.print_answers.Goals as goal

pub loop-j-init : goal.loop-j-init
loop-j-init g c = record {
  waiting = no_lines_wait answer_line [] c.args.first c.clear.new.self.items (g.O.Out.got c.args.out.now) c.clear.ensures.items;
  capacity = refl;
}

pub returns-in_err-push_answer-clause-printed : goal.returns-in_err-push_answer-clause-printed
returns-in_err-push_answer-clause-printed g c =
    let answers = c.args.answers.now in
    let j = c.loop-j.j in
    let less : j < length answers = omega (arith, c.loop-j-test.true, c.count-j-end.ensures) in
    let had = g.O.Out.got c.args.out.now in
    let got = g.O.Out.got c.push_answer.new.out in
    let before = lines_from c.args.first (take j answers) in
    let rest = (answer_line (c.args.first + j) (slice_index_or answers j []) ∷ []) ++ lines_from (c.args.first + (j + 1)) (drop (j + 1) answers) in
    subst (λ ps. Printed ps had got (fault_in c.from_residual.result)) (sym (line_among answer_line [] c.args.first j answers less))
    (subst (Printed (before ++ rest) had got) (fault_passed c.from_residual.result _ c.from_residual.ensures.1)
    (c.in_err-push_answer.ensures.failed before rest had c.loop-j.invariant.waiting))

pub loop-j-preserved : goal.loop-j-preserved
loop-j-preserved g c =
    let answers = c.args.answers.now in
    let j = c.loop-j.j in
    let less : j < length answers = omega (arith, c.loop-j-test.true, c.count-j-end.ensures) in
    let had = g.O.Out.got c.args.out.now in
    record {
      waiting = subst (λ ps. WaitIn ps c.push_answer.new.buffer.items had (g.O.Out.got c.push_answer.new.out)) (sym (line_more answer_line [] c.args.first j answers less))
          (c.in_ok-push_answer.ensures.waiting (lines_from c.args.first (take j answers)) had c.loop-j.invariant.waiting);
      capacity = c.in_ok-push_answer.ensures.capacity ∙ c.loop-j.invariant.capacity;
    }

pub returns-clause-printed : goal.returns-clause-printed
returns-clause-printed g c =
    let had = g.O.Out.got c.args.out.now in
    let got = g.O.Out.got c.flush.new.out in
    subst (λ xs. Printed (lines_from c.args.first xs) had got (fault_in c.flush.result)) (take_all c.loop-j.j c.args.answers.now (omega (arith, c.loop-j-test.false, c.count-j-end.ensures)))
    (all_flushed c.flush.result (lines_from c.args.first (take c.loop-j.j c.args.answers.now)) c.loop-j.buffer.items had (g.O.Out.got c.loop-j.out) got
    c.flush.ensures.printed c.flush.ensures.failed c.loop-j.invariant.waiting)
