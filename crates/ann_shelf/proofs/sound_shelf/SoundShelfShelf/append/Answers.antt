use Rattle.std.proofs.Common.{ap, ◌∙◌, refl}
use Rattle.ann_shelf.specs.Files.{with_file}
use Rattle.ann_shelf.proofs.Only.{others_set, others_kept, only_writes_quiet}
use Rattle.ann_shelf.proofs.Results.{ok_not_err, no_failure}
use Rattle.ann_shelf.proofs.sound_shelf.SoundShelfShelf.append.Goals as goal

pub returns-in_err-extend_file-clause-only_writes : goal.returns-in_err-extend_file-clause-only_writes
returns-in_err-extend_file-clause-only_writes c = only_writes_quiet (others_kept _ _ _ c.in_err-extend_file.ensures.err) refl refl (no_failure c.from_residual.result c.from_residual.ensures.1)

pub returns-then-branch-clause-only_writes : goal.returns-then-branch-clause-only_writes
returns-then-branch-clause-only_writes c = only_writes_quiet (others_set _ _ _ _ (c.in_ok-extend_file.ensures.held c.if-branch.true).1) refl refl (ok_not_err _ _)

pub returns-in_err-piece-clause-only_writes : goal.returns-in_err-piece-clause-only_writes
returns-in_err-piece-clause-only_writes c = only_writes_quiet (others_kept _ _ _ (c.in_ok-extend_file.ensures.missing c.if-branch.false).1) refl refl (no_failure c.from_residual-in_err-piece.result c.from_residual-in_err-piece.ensures.1)

pub returns-in_err-set_file-clause-only_writes : goal.returns-in_err-set_file-clause-only_writes
returns-in_err-set_file-clause-only_writes c = only_writes_quiet (others_kept _ _ _ (c.in_err-set_file.ensures.err ∙ (c.in_ok-extend_file.ensures.missing c.if-branch.false).1)) refl refl (no_failure c.from_residual-in_err-set_file.result c.from_residual-in_err-set_file.ensures.1)

pub returns-clause-only_writes : goal.returns-clause-only_writes
returns-clause-only_writes c =
    only_writes_quiet (others_set _ _ _ _ (c.in_ok-set_file.ensures.ok ∙ ap (λ m. with_file m c.args.name.now c.in_ok-piece.piece.items) (c.in_ok-extend_file.ensures.missing c.if-branch.false).1)) refl refl (ok_not_err _ _)
