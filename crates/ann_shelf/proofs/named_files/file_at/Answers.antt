use Rattle.std.proofs.Common.{ap, sym, ◌∙◌, Some}
use Rattle.ann_shelf.proofs.Places.{get_place, get_absent}
use Rattle.ann_shelf.proofs.named_files.file_at.Goals as goal

pub returns-in-Some : goal.returns-in-Some
returns-in-Some c = ap Some c.as_slice.ensures.value ∙ sym (get_place _ _ _ c.index-files-i.result c.in-Some.ensures.place)

pub returns-in-None : goal.returns-in-None
returns-in-None c = sym (get_absent _ _ c.in-None.ensures.place)
