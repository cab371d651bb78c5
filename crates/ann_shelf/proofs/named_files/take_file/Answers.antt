use Rattle.std.proofs.Common.{◌∙◌, sym, ap, option_map, Some, Vec, ℕ}
use Rattle.std.specs.declared.alloc.Global.{Global}
use Rattle.ann_shelf.specs.Files.{without_file}
use Rattle.ann_shelf.specs.NamedFiles.{Entry, files_of}
use Rattle.ann_shelf.proofs.Places.{get_place, get_absent, files_of-removed, files_of-absent}
use Rattle.ann_shelf.proofs.named_files.take_file.Goals as goal

pub returns-in_err-i-clause-value : goal.returns-in_err-i-clause-value
returns-in_err-i-clause-value c =
    ap (option_map (λ (v : Vec ℕ Global). v.items)) c.from_residual.ensures ∙ sym (get_absent _ _ (rw c.deref.ensures.value at c.in_err-i.ensures.place))

pub returns-in_err-i-clause-rest : goal.returns-in_err-i-clause-rest
returns-in_err-i-clause-rest c = sym (files_of-absent _ _ (rw c.deref.ensures.value at c.in_err-i.ensures.place))

pub loop-i-init : goal.loop-i-init
loop-i-init c =
    ap (λ es. without_file (files_of es) c.args.name.now) c.remove-bytes.ensures.by_index.2
    ∙ files_of-removed c.args.name.now c.args.files.now.items c.in_ok-i.i (rw c.deref.ensures.value at c.in_ok-i.ensures.place)

pub loop-i-preserved : goal.loop-i-preserved
loop-i-preserved c =
    ap (λ es. without_file (files_of es) c.args.name.now) c.remove.ensures.by_index.2
    ∙ files_of-removed c.args.name.now c.loop-i.files.items c.in-Some.i (rw c.deref-in-loop-i.ensures.value at c.in-Some.ensures.place)
    ∙ c.loop-i.invariant

pub returns-clause-value : goal.returns-clause-value
returns-clause-value c = sym (get_place c.args.name.now c.args.files.now.items c.in_ok-i.i c.remove-bytes.result (rw c.deref.ensures.value at c.in_ok-i.ensures.place)
    ∙ ap (λ (e : Entry). Some e.1.items) (sym c.remove-bytes.ensures.value))

pub returns-clause-rest : goal.returns-clause-rest
returns-clause-rest c = sym (files_of-absent c.args.name.now c.loop-i.files.items (rw c.deref-in-loop-i.ensures.value at c.in_default.ensures.place)) ∙ c.loop-i.invariant
