use Rattle.std.proofs.Common.{◌≡◌, ◌∙◌, ◌<◌, ◌+◌, ◌++◌, ℕ, List, sym, ap, subst, refl, arith, length, [], ◌∷◌}
use Rattle.std.specs.Prelude.{take, drop, slice_index_or}
use Rattle.std.proofs.lemmas.List.{take_all}
use Rattle.ann_defs.specs.declared.near.Near.{Near}
use Rattle.annbuild_lines.specs.declared.batch_line.Moment.{Moment}
use Rattle.command_shapes.specs.AnswerLines.{numbered_lines}
use Rattle.command_shapes.specs.Ends.{fault_in}
use Rattle.command_shapes.specs.Waiting.{WaitIn}
use Rattle.command_shapes.specs.Writing.{Printed}
use Rattle.command_shapes.proofs.Told.{fault_passed}
use Rattle.command_shapes.proofs.LineLists.{line_more, line_among}
use Rattle.command_shapes.proofs.WaitingFacts.{no_lines_wait, all_flushed}
use Rattle.annbuild_commands.specs.Living.{batch_line}
use Rattle.annbuild_commands.proofs.batch_lines.print_batched.Goals as goal

-- lines are numbered from 0
from_zero : (moment : Moment) (j : ℕ) (a : ℕ × List Near) → batch_line moment j a ∷ [] ≡ batch_line moment (0 + j) a ∷ []
from_zero moment j a = let same : j ≡ 0 + j = omega arith in ap (λ n. batch_line moment n a ∷ []) same

pub loop-j-init : goal.loop-j-init
loop-j-init g c = record {
  waiting = no_lines_wait (batch_line c.args.moment) (0, []) 0 c.clear.new.self.items (g.O.Out.got c.args.out.now) c.clear.ensures.items;
  capacity = refl;
}

pub returns-in_err-push_answer-clause-printed : goal.returns-in_err-push_answer-clause-printed
returns-in_err-push_answer-clause-printed g c =
    let answers = c.args.answers.now in
    let told = batch_line c.args.moment in
    let j = c.loop-j.j in
    let less : j < length answers = omega (arith, c.loop-j-test.true, c.count-j-end.ensures) in
    let had = g.O.Out.got c.args.out.now in
    let got = g.O.Out.got c.push_answer.new.out in
    let before = numbered_lines told 0 (take j answers) in
    let rest = (told (0 + j) (slice_index_or answers j (0, [])) ∷ []) ++ numbered_lines told (0 + (j + 1)) (drop (j + 1) answers) in
    subst (λ ps. Printed ps had got (fault_in c.from_residual.result)) (sym (line_among told (0, []) 0 j answers less))
    (subst (Printed (before ++ rest) had got) (fault_passed c.from_residual.result _ c.from_residual.ensures.1)
    (c.in_err-push_answer.ensures.failed before rest had c.loop-j.invariant.waiting))

pub loop-j-preserved : goal.loop-j-preserved
loop-j-preserved g c =
    let answers = c.args.answers.now in
    let told = batch_line c.args.moment in
    let j = c.loop-j.j in
    let less : j < length answers = omega (arith, c.loop-j-test.true, c.count-j-end.ensures) in
    let had = g.O.Out.got c.args.out.now in
    let before = numbered_lines told 0 (take j answers) in
    record {
      waiting = subst (λ ps. WaitIn ps c.push_answer.new.buffer.items had (g.O.Out.got c.push_answer.new.out))
          (ap (λ t. before ++ t) (from_zero c.args.moment j (slice_index_or answers j (0, []))) ∙ sym (line_more told (0, []) 0 j answers less))
          (c.in_ok-push_answer.ensures.waiting before had c.loop-j.invariant.waiting);
      capacity = c.in_ok-push_answer.ensures.capacity ∙ c.loop-j.invariant.capacity;
    }

pub returns-clause-printed : goal.returns-clause-printed
returns-clause-printed g c =
    let told = batch_line c.args.moment in
    let had = g.O.Out.got c.args.out.now in
    let got = g.O.Out.got c.flush.new.out in
    subst (λ xs. Printed (numbered_lines told 0 xs) had got (fault_in c.flush.result)) (take_all c.loop-j.j c.args.answers.now (omega (arith, c.loop-j-test.false, c.count-j-end.ensures)))
    (all_flushed c.flush.result (numbered_lines told 0 (take c.loop-j.j c.args.answers.now)) c.loop-j.buffer.items had (g.O.Out.got c.loop-j.out) got
    c.flush.ensures.printed c.flush.ensures.failed c.loop-j.invariant.waiting)
