use Rattle.std.proofs.Common.{◌+◌, arith, rules, refl, inr}
use Rattle.std.proofs.lemmas.List.{length-drop}
use Rattle.ann_shelf.specs.Files.{bytes_of}
use Rattle.ann_shelf.proofs.Only.{only_reads_same, only_reads_as, only_reads_then}
use Rattle.ann_shelf.proofs.Results.{ok_not_err, passed_on}
use Rattle.bin_files.proofs.Pieces.{more_read, same_read, stopped, both_told, told_always}
use Rattle.bin_files.proofs.read.read_full.Goals as goal

pub loop-done-init : goal.loop-done-init
loop-done-init g c = record {
  within = search rules;
  bytes = told_always (g.F.Shelf.shown c.args.shelf.now).held (λ files. (refl, omega arith));
  only = only_reads_same _ _ (λ never. never);
}

pub returns-in_err-got-clause-only_reads : goal.returns-in_err-got-clause-only_reads
returns-in_err-got-clause-only_reads g c =
    only_reads_then _ _ _ _ c.loop-done.invariant.only c.in_err-got.ensures.only_reads (λ told. inr (passed_on c.from_residual.result _ _ c.from_residual.ensures.1 told))

pub returns-then-got-eq0-clause-bytes : goal.returns-then-got-eq0-clause-bytes
returns-then-got-eq0-clause-bytes g c =
    both_told (g.F.Shelf.shown c.args.shelf.now).held (g.F.Shelf.shown c.loop-done.shelf).held c.loop-done.invariant.only.held c.loop-done.invariant.bytes c.in_ok-got.ensures.bytes (λ files so_far reads. record {
      same = same_read _ _ c.loop-done.done c.in_ok-got.got c.if-got-eq0.true
          (more_read c.args.at c.loop-done.done c.in_ok-got.got c.loop-done.into c.read_at.new.into _ _ (omega arith) c.in_ok-got.ensures.bound so_far.0 reads);
      within = so_far.1;
      ends = λ short. stopped (bytes_of files c.args.name.now) c.read_at.new.into c.args.at c.loop-done.done c.in_ok-got.got reads c.if-got-eq0.true (search rules) so_far.1;
    })

pub returns-then-got-eq0-clause-only_reads : goal.returns-then-got-eq0-clause-only_reads
returns-then-got-eq0-clause-only_reads g c =
    only_reads_then _ _ _ _ c.loop-done.invariant.only c.in_ok-got.ensures.only_reads (λ told. absurd (ok_not_err _ _ told))

pub loop-done-preserved : goal.loop-done-preserved
loop-done-preserved g c = record {
  within = search rules;
  bytes = both_told (g.F.Shelf.shown c.args.shelf.now).held (g.F.Shelf.shown c.loop-done.shelf).held c.loop-done.invariant.only.held c.loop-done.invariant.bytes c.in_ok-got.ensures.bytes (λ files so_far reads. (
    more_read c.args.at c.loop-done.done c.in_ok-got.got c.loop-done.into c.read_at.new.into _ _ (omega arith) c.in_ok-got.ensures.bound so_far.0 reads,
    omega (arith, reads.within, so_far.1, length-drop c.args.at (bytes_of files c.args.name.now), length-drop (c.args.at + c.loop-done.done) (bytes_of files c.args.name.now)),
  ));
  only = only_reads_then _ _ _ _ c.loop-done.invariant.only c.in_ok-got.ensures.only_reads (λ never. absurd never);
}

pub returns-clause-only_reads : goal.returns-clause-only_reads
returns-clause-only_reads g c = only_reads_as _ _ _ c.loop-done.invariant.only (λ told. absurd (ok_not_err _ _ told))
