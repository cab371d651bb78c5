use Rattle.std.proofs.Common.{◌∷◌, [], subst, inr, true, Some}
use Rattle.command_shapes.specs.Ends.{Ends, fault_in}
use Rattle.command_shapes.specs.Writing.{writing, stored_as}
use Rattle.command_shapes.proofs.WrittenFacts.{then_printed}
use Rattle.command_shapes.proofs.Told.{no_memory_in, fault_passed}
use Rattle.command_shapes.proofs.storing.store_and_print.Goals as goal

pub returns-in_err-store : goal.returns-in_err-store
returns-in_err-store g c = subst (Ends (writing (Some (stored_as c.args.role c.args.name.now (g.S.Storable.text c.args.what.now))) (c.args.line.now ∷ []))
    (g.F.Shelf.shown c.args.shelf.now) (g.F.Shelf.shown c.store.new.shelf) (g.O.Out.got c.args.out.now) (g.O.Out.got c.args.out.now)) (fault_passed c.from_residual.result _ c.from_residual.ensures.1)
    (c.in_err-store.ensures.failed (g.O.Out.got c.args.out.now) (λ run. true) (λ run. c.args.line.now ∷ []))

pub returns : goal.returns
returns g c = then_printed (Some (stored_as c.args.role c.args.name.now (g.S.Storable.text c.args.what.now))) (c.args.line.now ∷ [])
    (g.F.Shelf.shown c.args.shelf.now) (g.F.Shelf.shown c.store.new.shelf) (g.O.Out.got c.args.out.now) (g.O.Out.got c.print.new.out)
    (fault_in c.print.result) c.in_ok-store.ensures.stored (λ files e. inr (c.print.ensures.want (no_memory_in c.print.result e))) c.print.ensures.printed
