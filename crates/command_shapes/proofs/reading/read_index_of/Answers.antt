use Rattle.std.proofs.Common.{ap}
use Rattle.std.specs.Prelude.{Err}
use Rattle.bin_files.proofs.Pieces.{told_then}
use Rattle.ann_shelf.specs.Files.{bytes_of}
use Rattle.graph_rows.specs.View.{contents}
use Rattle.command_shapes.specs.Reading.{index_read}
use Rattle.command_shapes.proofs.Refusals.{index_accepted, index_reading, index_cause}
use Rattle.command_shapes.proofs.ReadFacts.{one_read, one_failed}
use Rattle.command_shapes.proofs.reading.read_index_of.Goals as goal

pub returns-in-Ok-clause-index : goal.returns-in-Ok-clause-index
returns-in-Ok-clause-index g c = told_then (g.F.Shelf.shown c.args.shelf.now).held c.in-Ok.ensures.index (λ files is. record {
  accepted = index_accepted c.args.role (bytes_of files c.args.name.now) (contents c.in-Ok.index) is;
  index_is = is;
})

pub returns-in-Ok-clause-read : goal.returns-in-Ok-clause-read
returns-in-Ok-clause-read g c = one_read (index_read c.args.role c.args.name.now) _ _ _ c.in-Ok.ensures.only_reads
    (told_then (g.F.Shelf.shown c.args.shelf.now).held c.in-Ok.ensures.index (λ files is. index_accepted c.args.role (bytes_of files c.args.name.now) (contents c.in-Ok.index) is))

pub returns-in-Err-clause-failed : goal.returns-in-Err-clause-failed
returns-in-Err-clause-failed g c = one_failed (index_read c.args.role c.args.name.now) _ _ _ _ _ c.index_fault.ensures c.in-Err.ensures.only_reads
    (told_then (g.F.Shelf.shown c.args.shelf.now).held c.in-Err.ensures.index (λ files fails. index_reading c.args.role (bytes_of files c.args.name.now) c.in-Err.fault fails))
    (index_cause c.args.role _ c.in-Err.fault (λ e. c.in-Err.ensures.only_reads.cause (ap Err e)))
