use Rattle.std.proofs.Common.{refl, ap}
use Rattle.std.specs.Prelude.{Err}
use Rattle.bin_files.proofs.Pieces.{told_then, both_told}
use Rattle.ann_shelf.specs.Files.{bytes_of}
use Rattle.command_shapes.specs.Reading.{points_read}
use Rattle.command_shapes.proofs.Refusals.{points_accepted, points_reading, points_cause}
use Rattle.command_shapes.proofs.ReadFacts.{one_read, one_failed}
use Rattle.command_shapes.proofs.reading.read_points_of.Goals as goal

pub returns-in-Ok-clause-points : goal.returns-in-Ok-clause-points
returns-in-Ok-clause-points g c =
    both_told (g.F.Shelf.shown c.args.shelf.now).held (g.F.Shelf.shown c.args.shelf.now).held refl c.in-Ok.ensures.verdict c.in-Ok.ensures.text (λ files judged text. record {
      accepted = points_accepted c.args.role (bytes_of files c.args.name.now) judged.0;
      points_are = judged.1;
      text_is = text;
      limits = c.in-Ok.ensures.points;
    })

pub returns-in-Ok-clause-read : goal.returns-in-Ok-clause-read
returns-in-Ok-clause-read g c = one_read (points_read c.args.role c.args.name.now) _ _ _ c.in-Ok.ensures.only_reads
    (told_then (g.F.Shelf.shown c.args.shelf.now).held c.in-Ok.ensures.verdict (λ files judged. points_accepted c.args.role (bytes_of files c.args.name.now) judged.0))

pub returns-in-Err-clause-failed : goal.returns-in-Err-clause-failed
returns-in-Err-clause-failed g c = one_failed (points_read c.args.role c.args.name.now) _ _ _ _ _ c.points_fault.ensures c.in-Err.ensures.only_reads
    (told_then (g.F.Shelf.shown c.args.shelf.now).held c.in-Err.ensures.verdict (λ files judged. points_reading c.args.role (bytes_of files c.args.name.now) c.in-Err.fault judged))
    (points_cause c.args.role _ c.in-Err.fault (λ e. c.in-Err.ensures.only_reads.cause (ap Err e)))
