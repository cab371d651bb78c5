use Rattle.std.proofs.Common.{subst, sym, ap, Some}
use Rattle.std.specs.Prelude.{Err}
use Rattle.command_shapes.specs.Ends.{Ends}
use Rattle.command_shapes.specs.Writing.{writing_runs, stored_as}
use Rattle.command_shapes.proofs.WrittenFacts.{store_failed}
use Rattle.command_shapes.proofs.storing.store.Goals as goal

pub returns-in-Err-clause-failed : goal.returns-in-Err-clause-failed
returns-in-Err-clause-failed g c had lawful pieces = subst (λ f. Ends (writing_runs (Some (stored_as c.args.role c.args.name.now (g.S.Storable.text c.args.what.now))) lawful pieces)
    (g.F.Shelf.shown c.args.shelf.now) (g.F.Shelf.shown c.write_to.new.shelf) had had (Some f)) (sym c.write_fault.ensures)
    (store_failed c.args.role c.args.name.now (g.S.Storable.text c.args.what.now) lawful pieces c.requires.file
    (g.F.Shelf.shown c.args.shelf.now) (g.F.Shelf.shown c.write_to.new.shelf) had c.in-Err.slip
    c.in-Err.ensures.err (λ e. c.in-Err.ensures.only_writes.cause (ap Err e)))
