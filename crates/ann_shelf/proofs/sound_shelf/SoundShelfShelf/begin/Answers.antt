use Rattle.std.proofs.Common.{refl}
use Rattle.ann_shelf.proofs.Only.{others_set, others_kept, only_writes_quiet}
use Rattle.ann_shelf.proofs.Results.{ok_not_err, no_failure}
use Rattle.ann_shelf.proofs.sound_shelf.SoundShelfShelf.begin.Goals as goal

pub returns-in_err-set_file-clause-only_writes : goal.returns-in_err-set_file-clause-only_writes
returns-in_err-set_file-clause-only_writes c = only_writes_quiet (others_kept _ _ _ c.in_err-set_file.ensures.err) refl refl (no_failure c.from_residual.result c.from_residual.ensures.1)

pub returns-clause-only_writes : goal.returns-clause-only_writes
returns-clause-only_writes c = only_writes_quiet (others_set _ _ _ _ c.in_ok-set_file.ensures.ok) refl refl (ok_not_err _ _)
