use Rattle.std.proofs.Common.{take, sym, ap, refl, ◌∙◌}
use Rattle.std.specs.Vec.{with_items, with_items_from}
use Rattle.beam_search.specs.Lending.{listed}
use Rattle.beam_search.specs.Room.{Room}
use Rattle.beam_search.proofs.Lent.{lent_gathered, lent_marks}
use Rattle.beam_search.proofs.candidate_ids.lent_room.Goals as goal

pub invariant_of-scratch-lent : goal.invariant_of-scratch-lent
invariant_of-scratch-lent c = λ w.
    let room = with_items_from (with_items c.scratch.inside.room c.gather-len.new.room) 0 w in
    let held = c.scratch.inside.marks in
    let long = c.gather-len.auto.marks ∙ c.next_stamp-stamp.auto.marks ∙ c.as_mut_slice-marks.ensures.len in
    let marks = lent_marks held.len _ c.next_stamp-stamp.result c.gather-len.new.marks held.items long (held.ok.0 ∙ c.scratch.invariant.3) c.gather-len.ensures.marks in
    (c.scratch.invariant.0, c.scratch.invariant.1, sym room.ok.0 ∙ c.scratch.inside.room.ok.0 ∙ c.scratch.invariant.2, marks.0, marks.1, c.scratch.invariant.5)

pub returns : goal.returns
returns c =
    let s = c.scratch.inside in
    let of_found = c.args.of_found in
    let last = listed of_found c.args.scratch.now.last in
    let same = c.one_of-measured.ensures
    ∙ (λ i. listed of_found record { found = take s.found_len (c.deref.ensures.value i); visited = take s.visited_len (c.deref-2.ensures.value i) })
    ∙ ap (λ (r : Room). listed of_found r.last) c.scratch.view_is in
    let gathered = lent_gathered c.args.points.now.vectors c.args.p s.room.len c.gather-len.result last c.one_of-measured.result.now c.args.extra.now c.slice_mut.result.now c.gather-len.new.room s.room.items same (c.gather-len.auto.room ∙ c.deref_mut.ensures.len) c.slice_mut.ensures.value c.gather-len.ensures.list c.requires.last.in_range c.requires.last.near c.requires.extra in
    ((refl, λ w. c.scratch.view_is), record { stays = tt; gathered = gathered })
