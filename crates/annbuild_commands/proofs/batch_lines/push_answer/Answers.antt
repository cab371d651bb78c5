use Rattle.std.proofs.Common.{◌≡◌, ◌∙◌, ap, ◌++◌, []}
use Rattle.std.specs.Prelude.{slice_index_or}
use Rattle.annbuild_lines.specs.Lines.{batch_text}
use Rattle.command_shapes.proofs.WaitingFacts.{line_waits}
use Rattle.annbuild_commands.specs.Living.{batch_line}
use Rattle.annbuild_commands.proofs.batch_lines.push_answer.Goals as goal

line_added : (g : _) (c : goal.After-push_batch_line g) → c.push_batch_line.new.buffer.items ≡ c.make_room.new.buffer.items ++ batch_line c.args.moment c.args.j (slice_index_or c.args.answers.now c.args.j (0, []))
line_added g c =
    c.push_batch_line.ensures.items
    ∙ ap (λ t. c.make_room.new.buffer.items ++ t) (λ i. batch_text c.args.moment c.args.j (c.batch.ensures i) (c.nears-nears.ensures i))

pub returns-clause-waiting : goal.returns-clause-waiting
returns-clause-waiting g c lines had w =
    line_waits lines c.make_room.new.buffer.items (batch_line c.args.moment c.args.j (slice_index_or c.args.answers.now c.args.j (0, []))) c.push_batch_line.new.buffer.items had (g.O.Out.got c.make_room.new.out)
    (line_added g c) (c.in_ok-make_room.ensures.waiting lines had w)
