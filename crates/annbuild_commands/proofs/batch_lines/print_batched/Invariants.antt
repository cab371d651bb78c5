use Rattle.std.proofs.Common.{◌≡◌, vec_capacity}
use Rattle.std.specs.Prelude.{take}
use Rattle.command_shapes.specs.AnswerLines.{numbered_lines}
use Rattle.command_shapes.specs.Waiting.{WaitIn}
use Rattle.annbuild_commands.specs.Living.{batch_line}
use Rattle.annbuild_commands.proofs.batch_lines.print_batched.Given as goal

abbrev pub invariant-loop-j : goal.invariant-loop-j
invariant-loop-j g l = record {
  waiting : WaitIn (numbered_lines (batch_line l.initial.moment) 0 (take l.j l.initial.answers)) l.buffer.items (g.O.Out.got l.initial.out) (g.O.Out.got l.out);
  capacity : vec_capacity l.buffer ≡ vec_capacity l.initial.buffer;
}
