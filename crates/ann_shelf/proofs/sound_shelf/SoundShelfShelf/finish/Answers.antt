use Rattle.std.proofs.Common.{refl}
use Rattle.ann_shelf.proofs.Only.{others_taken, only_writes_quiet}
use Rattle.ann_shelf.proofs.Results.{ok_not_err, no_failure}
use Rattle.ann_shelf.proofs.sound_shelf.SoundShelfShelf.finish.Goals as goal

pub returns-in_err-set_file-clause-only_writes : goal.returns-in_err-set_file-clause-only_writes
returns-in_err-set_file-clause-only_writes c = only_writes_quiet (others_taken _ _ _ c.take_file.ensures.rest) refl refl (no_failure c.from_residual.result c.from_residual.ensures.1)

pub returns-clause-only_writes : goal.returns-clause-only_writes
returns-clause-only_writes c = only_writes_quiet (others_taken _ _ _ c.take_file.ensures.rest) refl refl (ok_not_err _ _)
