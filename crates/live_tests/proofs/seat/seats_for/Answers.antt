use Rattle.std.proofs.Common.{◌≡◌, ◌++◌, ◌∷◌, [], sym, subst}
use Rattle.std.specs.Prelude.{Some}
use Rattle.std.specs.List.{All}
use Rattle.std.proofs.lemmas.List.Elements.{All-pop, All-push}
use Rattle.versions.specs.Course.{course_of}
use Rattle.versions.specs.Standing.{Standing, starting}
use Rattle.live_tests.specs.Seated.{CanAsk, Seated}
use Rattle.live_tests.proofs.seat.seats_for.Goals as goal

pub loop-preserved : goal.loop-preserved
loop-preserved c =
    let inv = c.loop.invariant in
    let course = course_of c.args.plan.now in
    let caller : Standing = c.in-Some.caller in
    let x : Seated = c.in_ok-new.field-0 in
    let P = CanAsk course c.args.beam c.args.k in
    let items : c.push.new.self.items ≡ c.loop.seats.items ++ x ∷ [] = c.in_ok-push.ensures.items in
    let from = All-pop (λ (s : Standing). s ≡ starting course) c.loop.callers.items c.pop.new.self.items (Some caller) c.in-Some.ensures.items inv.callers in
    record {
      callers = from.0;
      seats = subst (All P) (sym items) (All-push P c.loop.seats.items x inv.seats c.in_ok-new.ensures);
    }
