use Rattle.std.proofs.Common.{◌≡◌, arith, ◌∙◌, take}
use Rattle.ann_shelf.specs.Files.{bytes_of}
use Rattle.bin_files.proofs.Pieces.{told_then}
use Rattle.bin_files.proofs.Verdicts.{verdict_header, same_front, same_u32}
use Rattle.bin_files.proofs.read.read_header.Goals as goal

pub returns-in-Some-clause-verdict : goal.returns-in-Some-clause-verdict
returns-in-Some-clause-verdict g c = told_then (g.F.Shelf.shown c.args.shelf.now).held c.in_ok-got.ensures.bytes (λ files reads.
    let same : take 8 c.read_full.new.into ≡ take 8 (bytes_of files c.args.name.now) = same_front _ _ c.in_ok-got.got reads (omega arith) (omega (arith, c.in_ok-got.ensures.bound)) (omega arith) in
    verdict_header (bytes_of files c.args.name.now) c.numbers_of-count.result.0 c.numbers_of-count.result.1 c.in-Some.fault (omega (arith, reads.within))
    (c.numbers_of-count.ensures.count ∙ same_u32 _ _ 0 same (omega arith)) (c.numbers_of-count.ensures.dim ∙ same_u32 _ _ 4 same (omega arith)) c.in-Some.ensures)
