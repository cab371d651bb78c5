use Rattle.std.proofs.Common.{refl, sym, subst, IsSome}
use Rattle.ann_shelf.proofs.Places.{files_of-same, files_of-extend, get_place, get_absent}
use Rattle.ann_shelf.proofs.Results.{on_err}
use Rattle.ann_shelf.proofs.named_files.extend_file.Goals as goal

pub returns-in_err-extend_from_slice-in-Some-clause-err : goal.returns-in_err-extend_from_slice-in-Some-clause-err
returns-in_err-extend_from_slice-in-Some-clause-err c = on_err c.from_residual.result
    (files_of-same c.args.name.now c.args.files.now.items c.in-Some.i c.index_mut.result.now c.extend_from_slice.new.self (rw c.deref.ensures.value at c.in-Some.ensures.place) c.index_mut.ensures.value c.in_err-extend_from_slice-in-Some.ensures.items)

pub returns-in_err-extend_from_slice-in-Some-clause-wanted : goal.returns-in_err-extend_from_slice-in-Some-clause-wanted
returns-in_err-extend_from_slice-in-Some-clause-wanted c = on_err c.from_residual.result
    (subst IsSome (sym (get_place c.args.name.now c.args.files.now.items c.in-Some.i c.index_mut.result.now (rw c.deref.ensures.value at c.in-Some.ensures.place))) refl)

pub returns-in_ok-extend_from_slice-in-Some-clause-held : goal.returns-in_ok-extend_from_slice-in-Some-clause-held
returns-in_ok-extend_from_slice-in-Some-clause-held c = λ _.
    files_of-extend c.args.name.now c.args.files.now.items c.in-Some.i c.index_mut.result.now c.extend_from_slice.new.self c.args.piece.now (rw c.deref.ensures.value at c.in-Some.ensures.place) c.index_mut.ensures.value c.in_ok-extend_from_slice-in-Some.ensures.items

pub returns-in-None-clause-missing : goal.returns-in-None-clause-missing
returns-in-None-clause-missing c = λ _. (get_absent _ _ (rw c.deref.ensures.value at c.in-None.ensures.place), refl)
