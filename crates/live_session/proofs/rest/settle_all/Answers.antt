use Rattle.std.proofs.Common.{◌≡◌, ◌∙◌, ◌+◌, ◌++◌, ◌∷◌, [], List, length, sym, ap, subst, arith}
use Rattle.std.specs.Prelude.{Some}
use Rattle.std.proofs.lemmas.List.{length_push}
use Rattle.std.proofs.lemmas.List.Elements.{All-pop}
use Rattle.versions.specs.Course.{course_of}
use Rattle.live_session.specs.declared.asker.Asker.{Asker}
use Rattle.live_session.specs.Rows.{Row}
use Rattle.live_session.specs.Asked.{AreWhole, IsWhole}
use Rattle.live_session.specs.Askers.{Stands}
use Rattle.live_session.proofs.Rows.{whole_more}
use Rattle.live_session.proofs.Places.{asker_taken, numbered_less}
use Rattle.live_session.proofs.rest.settle_all.Goals as goal

pub settle-beside-requires-clause-stands : goal.settle-beside-requires-clause-stands
settle-beside-requires-clause-stands g c = (All-pop (Stands (course_of c.args.graph.now.plan.now) c.args.asking.now) c.loop.askers.items c.pop.new.self.items (Some c.in-Some.asker) c.in-Some.ensures.items c.loop.invariant.stand).1

pub loop-preserved : goal.loop-preserved
loop-preserved g c =
    let inv = c.loop.invariant in
    let course = course_of c.args.graph.now.plan.now in
    let a = c.args.asking.now in
    let top = c.args.graph.now.batch in
    let x : Asker = c.in-Some.asker in
    let askers : List Asker = c.pop.new.self.items in
    let items : c.loop.askers.items ≡ askers ++ x ∷ [] = c.in-Some.ensures.items in
    let fewer = ap (λ (ys : List Asker). length ys) items ∙ length_push askers x in
    let first = asker_taken a.callers c.loop.askers.items askers x items inv.order in
    let count = inv.count in
    let number : x.seat.first ≡ c.loop.counter = omega (arith, fewer, first, count) in
    let lives : List Row = c.loop.live.items in
    let lasts : List Row = c.loop.last.items in
    let live : Row = c.settle-beside.result.0 in
    let last : Row = c.settle-beside.result.1 in
    let live_items : c.push.new.self.items ≡ lives ++ live ∷ [] = c.in_ok-push.ensures.items in
    let last_items : c.push-in-loop.new.self.items ≡ lasts ++ last ∷ [] = c.in_ok-push-2.ensures.items in
    let live_whole : IsWhole course a (length lives) 1 top live = subst (λ n. IsWhole course a n 1 top live) (number ∙ sym inv.live_count) c.settle-beside.ensures.live in
    let last_whole : IsWhole course a (length lasts) top top last = subst (λ n. IsWhole course a n top top last) (number ∙ sym inv.last_count) c.settle-beside.ensures.last in
    record {
      stand = (All-pop (Stands course a) c.loop.askers.items askers (Some x) items inv.stand).0;
      order = numbered_less a.callers c.loop.askers.items askers x items inv.order;
      count = omega (arith, fewer, count);
      publisher = c.note.ensures.same ∙ inv.publisher;
      live = subst (AreWhole course a 1 top) (sym live_items) (whole_more course a 1 top lives live live_whole inv.live);
      last = subst (AreWhole course a top top) (sym last_items) (whole_more course a top top lasts last last_whole inv.last);
      live_count = ap (λ (ys : List Row). length ys) live_items ∙ length_push lives live ∙ ap (λ n. n + 1) inv.live_count;
      last_count = ap (λ (ys : List Row). length ys) last_items ∙ length_push lasts last ∙ ap (λ n. n + 1) inv.last_count;
    }
