use Rattle.std.proofs.Common.{◌∙◌, ◌<◌, ◌+◌, ◌++◌, sym, subst, arith, length, [], None}
use Rattle.std.specs.Prelude.{take, drop}
use Rattle.std.proofs.lemmas.List.{take_all}
use Rattle.batch_search.specs.Answers.{round_size, round_of}
use Rattle.command_shapes.specs.Ends.{fault_in}
use Rattle.command_shapes.specs.Writing.{Printed}
use Rattle.command_shapes.specs.AnswerLines.{answer_line, lines_from}
use Rattle.command_shapes.proofs.Told.{fault_passed}
use Rattle.command_shapes.proofs.Pieces.{none_printed, both_printed, failed_printing}
use Rattle.command_shapes.proofs.LineLists.{no_lines, round_among, round_more, round_some}
use Rattle.command_shapes.proofs.rounds.print_rounds.Goals as goal

pub loop-from-init : goal.loop-from-init
loop-from-init g c = record {
  within = omega arith;
  printed = subst (λ ps. Printed ps (g.O.Out.got c.args.out.now) (g.O.Out.got c.args.out.now) None) (sym (no_lines answer_line [] 0)) (none_printed (g.O.Out.got c.args.out.now));
  posts = c.requires.posts;
  serve = c.requires.serve;
  rooms = c.requires.rooms;
}

pub print_next-requires-clause-posts : goal.print_next-requires-clause-posts
print_next-requires-clause-posts g c κs within = c.loop-from.invariant.posts

pub print_next-requires-clause-serve : goal.print_next-requires-clause-serve
print_next-requires-clause-serve g c κs within = c.loop-from.invariant.serve

pub print_next-requires-clause-rooms : goal.print_next-requires-clause-rooms
print_next-requires-clause-rooms g c κs within = c.loop-from.invariant.rooms

pub returns-in_err-from : goal.returns-in_err-from
returns-in_err-from g c =
    let size = round_size (length (g.A.Answering.answers c.args.batch.now)) c.loop-from.from in
    let less : c.loop-from.from < length (g.A.Answering.answers c.args.batch.now) = omega (arith, c.loop-from-test.true, c.count-count.ensures.value) in
    let rest = lines_from (c.loop-from.from + length (round_of (g.A.Answering.answers c.args.batch.now) c.loop-from.from)) (drop size (drop c.loop-from.from (g.A.Answering.answers c.args.batch.now))) in
    subst (λ ps. Printed ps (g.O.Out.got c.args.out.now) (g.O.Out.got c.print_next.new.out) (fault_in c.from_residual.result)) (sym (round_among answer_line [] c.loop-from.from size (g.A.Answering.answers c.args.batch.now) c.loop-from.invariant.within))
    (subst (Printed ((lines_from 0 (take c.loop-from.from (g.A.Answering.answers c.args.batch.now))) ++ ((lines_from c.loop-from.from (round_of (g.A.Answering.answers c.args.batch.now) c.loop-from.from)) ++ rest)) (g.O.Out.got c.args.out.now) (g.O.Out.got c.print_next.new.out)) (fault_passed c.from_residual.result _ c.from_residual.ensures.1)
    (failed_printing (lines_from 0 (take c.loop-from.from (g.A.Answering.answers c.args.batch.now))) (lines_from c.loop-from.from (round_of (g.A.Answering.answers c.args.batch.now) c.loop-from.from)) rest (g.O.Out.got c.args.out.now) (g.O.Out.got c.loop-from.out) (g.O.Out.got c.print_next.new.out) _ (round_some answer_line [] (g.A.Answering.answers c.args.batch.now) c.loop-from.from less) c.loop-from.invariant.printed c.in_err-from.ensures.printed))

pub loop-from-preserved : goal.loop-from-preserved
loop-from-preserved g c =
    let size = round_size (length (g.A.Answering.answers c.args.batch.now)) c.loop-from.from in
    record {
      within = omega (arith, c.loop-from.invariant.within, c.in_ok-from.ensures.next);
      printed = subst (λ ps. Printed ps (g.O.Out.got c.args.out.now) (g.O.Out.got c.print_next.new.out) None) (sym (round_more answer_line [] c.loop-from.from size c.in_ok-from.from (g.A.Answering.answers c.args.batch.now) c.loop-from.invariant.within c.in_ok-from.ensures.next))
          (both_printed (lines_from 0 (take c.loop-from.from (g.A.Answering.answers c.args.batch.now))) (lines_from c.loop-from.from (round_of (g.A.Answering.answers c.args.batch.now) c.loop-from.from)) (g.O.Out.got c.args.out.now) (g.O.Out.got c.loop-from.out) (g.O.Out.got c.print_next.new.out) c.loop-from.invariant.printed c.in_ok-from.ensures.printed);
      posts = c.print_next.auto.posts ∙ c.loop-from.invariant.posts ∙ sym c.in_ok-from.ensures.workers;
      serve = c.in_ok-from.ensures.serve;
      rooms = c.in_ok-from.ensures.rooms;
    }

pub returns : goal.returns
returns g c = subst (λ xs. Printed (lines_from 0 xs) (g.O.Out.got c.args.out.now) (g.O.Out.got c.loop-from.out) None) (take_all c.loop-from.from (g.A.Answering.answers c.args.batch.now) (omega (arith, c.loop-from-test.false, c.count-count.ensures.value))) c.loop-from.invariant.printed
