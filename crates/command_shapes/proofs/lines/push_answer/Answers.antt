use Rattle.std.proofs.Common.{◌≡◌, ◌∙◌, ap, ◌++◌, []}
use Rattle.std.specs.Prelude.{slice_index_or}
use Rattle.annbuild_lines.specs.Lines.{query_text}
use Rattle.command_shapes.specs.AnswerLines.{answer_line}
use Rattle.command_shapes.proofs.LineLists.{line_text}
use Rattle.command_shapes.proofs.WaitingFacts.{line_waits}
use Rattle.command_shapes.proofs.lines.push_answer.Goals as goal

line_added : (g : _) (c : goal.After-push_query_line g) → c.push_query_line.new.buffer.items ≡ c.make_room.new.buffer.items ++ answer_line c.args.number (slice_index_or c.args.answers.now c.args.j [])
line_added g c =
    c.push_query_line.ensures.items
    ∙ ap (λ t. c.make_room.new.buffer.items ++ t)
    (ap (query_text c.args.number) c.answer-len.ensures.answer ∙ line_text c.args.number (slice_index_or c.args.answers.now c.args.j []))

pub returns-clause-waiting : goal.returns-clause-waiting
returns-clause-waiting g c lines had w =
    line_waits lines c.make_room.new.buffer.items (answer_line c.args.number (slice_index_or c.args.answers.now c.args.j [])) c.push_query_line.new.buffer.items had (g.O.Out.got c.make_room.new.out)
    (line_added g c) (c.in_ok-make_room.ensures.waiting lines had w)
