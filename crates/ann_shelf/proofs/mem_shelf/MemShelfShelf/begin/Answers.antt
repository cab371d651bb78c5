use Rattle.std.proofs.Common.{Some, refl}
use Rattle.ann_shelf.specs.MemWords.{shelf_begun}
use Rattle.ann_shelf.proofs.Only.{others_same, others_set, others_kept, only_writes_quiet, only_writes_counted}
use Rattle.ann_shelf.proofs.Results.{ok_not_err, no_failure}
use Rattle.ann_shelf.proofs.mem_shelf.MemShelfShelf.begin.Goals as goal

pub returns-then-is_to_fail-clause-only_writes : goal.returns-then-is_to_fail-clause-only_writes
returns-then-is_to_fail-clause-only_writes c = only_writes_counted (others_same (Some (shelf_begun c.args.self.now)) c.args.name.now) refl (λ _. c.counted.ensures.grew) c.counted.ensures.rose

pub returns-in_err-set_file-clause-only_writes : goal.returns-in_err-set_file-clause-only_writes
returns-in_err-set_file-clause-only_writes c = only_writes_quiet (others_kept _ _ _ c.in_err-set_file.ensures.err) refl refl (no_failure c.from_residual.result c.from_residual.ensures.1)

pub returns-clause-only_writes : goal.returns-clause-only_writes
returns-clause-only_writes c = only_writes_quiet (others_set _ _ _ _ c.in_ok-set_file.ensures.ok) refl refl (ok_not_err _ _)
