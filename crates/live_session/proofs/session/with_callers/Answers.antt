use Rattle.std.proofs.Common.{◌≡◌, ◌∙◌, ◌++◌, ℕ, List, length, take, drop, sym, subst}
use Rattle.std.specs.List.{All}
use Rattle.std.proofs.lemmas.List.{take_at}
use Rattle.versions.specs.Course.{course_of}
use Rattle.live_session.specs.declared.asker.Asker.{Asker}
use Rattle.live_session.specs.Askers.{AreNumbered, Stands}
use Rattle.live_session.proofs.session.with_callers.Goals as goal

kept : (len : ℕ) (items askers : List Asker) → length askers ≡ len → take len (askers ++ drop (length askers) items) ≡ askers
kept len items askers e = take_at askers (drop (length askers) items) len e

pub settled-requires-clause-stand : goal.settled-requires-clause-stand
settled-requires-clause-stand g c =
    let v = c.in_ok-askers.askers in
    let askers : List Asker = c.beside.new.askers in
    let whole = kept v.len v.items askers (c.beside.auto.askers ∙ c.as_mut_slice.ensures.len) in
    subst (All (Stands (course_of c.args.plan.now) c.args.asking.now)) (sym whole) c.in_ok-beside.ensures.stand

pub settled-requires-clause-order : goal.settled-requires-clause-order
settled-requires-clause-order g c =
    let v = c.in_ok-askers.askers in
    let askers : List Asker = c.beside.new.askers in
    let whole = kept v.len v.items askers (c.beside.auto.askers ∙ c.as_mut_slice.ensures.len) in
    subst (AreNumbered c.args.asking.now.callers) (sym whole) c.in_ok-beside.ensures.order
