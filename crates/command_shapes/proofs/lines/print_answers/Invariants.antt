use Rattle.std.proofs.Common.{◌≡◌, vec_capacity}
use Rattle.std.specs.Prelude.{take}
use Rattle.command_shapes.specs.Waiting.{WaitIn}
use Rattle.command_shapes.specs.AnswerLines.{lines_from}
use Rattle.command_shapes.proofs.lines.print_answers.Given as goal

abbrev pub invariant-loop-j : goal.invariant-loop-j
invariant-loop-j g l = record {
  waiting : WaitIn (lines_from l.initial.first (take l.j l.initial.answers)) l.buffer.items (g.O.Out.got l.initial.out) (g.O.Out.got l.out);
  capacity : vec_capacity l.buffer ≡ vec_capacity l.initial.buffer;
}
