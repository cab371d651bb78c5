use Rattle.std.proofs.Common.{◌≡◌, ◌∙◌, ◌+◌, ◌++◌, ◌∷◌, [], List, length, sym, ap, subst, arith}
use Rattle.std.specs.Prelude.{Some}
use Rattle.std.specs.List.{All}
use Rattle.std.proofs.lemmas.List.{length_push}
use Rattle.std.proofs.lemmas.List.Elements.{All-push, All-pop}
use Rattle.versions.specs.Course.{course_of}
use Rattle.versions.specs.Standing.{Standing, starting}
use Rattle.live_session.specs.declared.asker.Asker.{Asker}
use Rattle.live_session.specs.declared.seats.Place.{Place}
use Rattle.live_session.specs.Askers.{AreNumbered, IsPlace, Stands}
use Rattle.live_session.proofs.Places.{numbered_more, place_stands, place_taken, places_less}
use Rattle.live_session.proofs.seats.seated.Goals as goal

pub loop-preserved : goal.loop-preserved
loop-preserved c =
    let inv = c.loop.invariant in
    let course = course_of c.args.plan.now in
    let a = c.args.asking.now in
    let p : Place = c.in-Some.field-0 in
    let caller : Standing = c.in-Some-pop.caller in
    let x : Asker = record { caller = caller; seat = p.seat; live = p.live; last = p.last } in
    let places : c.loop.places.items ≡ c.pop.new.self.items ++ p ∷ [] = c.in-Some.ensures.items in
    let callers : c.loop.callers.items ≡ c.pop-in-loop.new.self.items ++ caller ∷ [] = c.in-Some-pop.ensures.items in
    let askers : c.push.new.self.items ≡ c.loop.askers.items ++ x ∷ [] = c.in_ok-push.ensures.items in
    let from_places = All-pop (IsPlace course a) c.loop.places.items c.pop.new.self.items (Some p) places inv.places in
    let from_callers = All-pop (λ (s : Standing). s ≡ starting course) c.loop.callers.items c.pop-in-loop.new.self.items (Some caller) callers inv.callers in
    let fewer_places = ap (λ (ys : List Place). length ys) places ∙ length_push c.pop.new.self.items p in
    let fewer_callers = ap (λ (ys : List Standing). length ys) callers ∙ length_push c.pop-in-loop.new.self.items caller in
    let count = inv.count in
    let callers_count = inv.callers_count in
    let seated = inv.seated in
    let first = place_taken c.loop.places.items c.pop.new.self.items p places inv.order in
    record {
      callers = from_callers.0;
      callers_count = omega (arith, fewer_callers, callers_count);
      places = from_places.0;
      order = places_less c.loop.places.items c.pop.new.self.items p places inv.order;
      count = omega (arith, fewer_places, count);
      stand = subst (All (Stands course a)) (sym askers) (All-push (Stands course a) c.loop.askers.items x inv.stand (place_stands course a p caller from_callers.1 c.requires.total from_places.1));
      numbered = subst (AreNumbered a.callers) (sym askers) (numbered_more a.callers c.loop.askers.items x (omega (arith, first, fewer_places, count, seated)) inv.numbered);
      seated = ap (λ (ys : List Asker). length ys) askers ∙ length_push c.loop.askers.items x ∙ ap (λ n. n + 1) seated;
    }
