use Rattle.std.proofs.Common.{◌≡◌, ◌∙◌, sym, ◌≤◌, ◌++◌, ℕ, List, [], ◌∷◌, length, arith, subst, Option, Some, None}
use Rattle.annbuild_lines.specs.declared.fault.Fault.{Fault}
use Rattle.std.proofs.lemmas.Bool.{eqb-true, eqb-false}
use Rattle.std.proofs.lemmas.List.{nil_from_length}
use Rattle.ann_shelf.specs.Written.{Got}
use Rattle.command_shapes.specs.Writing.{Printed}
use Rattle.command_shapes.specs.Waiting.{WaitIn}
use Rattle.command_shapes.proofs.Told.{on_fault}
use Rattle.command_shapes.proofs.WaitingFacts.{all_printed, buffer_printed, buffer_failed}
use Rattle.command_shapes.proofs.buffer.flush.Goals as goal

-- the piece that is printed is what the buffer holds
printed_as : (piece held : List ℕ) (had got : Got) (fault : Option Fault) → piece ≡ held → Printed (piece ∷ []) had got fault → Printed (held ∷ []) had got fault
printed_as piece held had got fault same p = subst (λ t. Printed (t ∷ []) had got fault) same p

pub returns-then-is_empty-clause-printed : goal.returns-then-is_empty-clause-printed
returns-then-is_empty-clause-printed g c lines had w =
    let none : length c.args.buffer.now.items ≡ 0 = sym c.args.buffer.now.ok.0 ∙ eqb-true c.args.buffer.now.len 0 (sym c.is_empty.ensures ∙ c.if-is_empty.true) in
    all_printed lines c.args.buffer.now.items had (g.O.Out.got c.args.out.now) (nil_from_length c.args.buffer.now.items none) w

pub returns-in_err-print-clause-failed : goal.returns-in_err-print-clause-failed
returns-in_err-print-clause-failed g c =
    let some : 1 ≤ length c.args.buffer.now.items = omega (arith, c.args.buffer.now.ok.0, eqb-false c.args.buffer.now.len 0 (sym c.is_empty.ensures ∙ c.if-is_empty.false)) in
    let old = g.O.Out.got c.args.out.now in
    let new = g.O.Out.got c.print.new.out in
    on_fault c.from_residual.result _ (λ fault. (lines rest : List (List ℕ)) (had : Got) → WaitIn lines c.args.buffer.now.items had old → Printed (lines ++ rest) had new (Some fault)) c.from_residual.ensures.1
    (λ lines rest had w. buffer_failed lines rest c.args.buffer.now.items had old new _ some w (printed_as _ _ old new _ c.as_slice.ensures.value c.in_err-print.ensures.printed))

pub returns-clause-printed : goal.returns-clause-printed
returns-clause-printed g c lines had w =
    buffer_printed lines c.args.buffer.now.items had (g.O.Out.got c.args.out.now) (g.O.Out.got c.print.new.out) w (printed_as _ _ (g.O.Out.got c.args.out.now) (g.O.Out.got c.print.new.out) None c.as_slice.ensures.value c.in_ok-print.ensures.printed)
