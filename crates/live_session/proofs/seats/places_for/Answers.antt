use Rattle.std.proofs.Common.{◌≡◌, ◌∙◌, ◌+◌, ◌++◌, ◌∷◌, [], length, sym, ap, subst}
use Rattle.std.specs.List.{All}
use Rattle.std.proofs.lemmas.List.{length_push}
use Rattle.std.proofs.lemmas.List.Elements.{All-push}
use Rattle.versions.specs.Course.{course_of}
use Rattle.live_session.specs.Askers.{ArePlaces, IsPlace}
use Rattle.live_session.proofs.Places.{places_more}
use Rattle.live_session.proofs.seats.places_for.Goals as goal

pub loop-first-preserved : goal.loop-first-preserved
loop-first-preserved c =
    let places = c.loop-first.places.items in
    let p = c.in_ok-place_for.field-0 in
    let P = IsPlace (course_of c.args.plan.now) c.args.asking.now in
    let items : c.push.new.self.items ≡ places ++ p ∷ [] = c.in_ok-push.ensures.items in
    record {
      count = ap length items ∙ length_push places p ∙ ap (λ n. n + 1) c.loop-first.invariant.count;
      places = subst (All P) (sym items) (All-push P places p c.loop-first.invariant.places c.in_ok-place_for.ensures.place);
      order = subst ArePlaces (sym items) (places_more places p (c.in_ok-place_for.ensures.first ∙ sym c.loop-first.invariant.count) c.loop-first.invariant.order);
    }
