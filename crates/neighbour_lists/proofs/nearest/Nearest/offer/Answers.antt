use Rattle.std.proofs.Common.{◌≡◌, ◌∙◌, ◌+◌, ℕ, List, length, take, sym, ap, subst}
use Rattle.std.specs.Vec.{with_items}
use Rattle.std.specs.List.{fold}
use Rattle.ann_defs.specs.declared.near.Near.{Near}
use Rattle.ann_defs.specs.Ordered.{put}
use Rattle.ann_defs.specs.Nearness.{near_cmp, all_near}
use Rattle.near_lists.specs.Marks.{AreSettled}
use Rattle.neighbour_lists.specs.Offering.{Offers}
use Rattle.neighbour_lists.proofs.Offers.{offered_now, written_is}
use Rattle.neighbour_lists.proofs.nearest.Nearest.offer.Goals as goal

pub returns : goal.returns
returns c =
    let points = c.args.points.now.vectors in
    let len = c.offer_unseen-len.result.0 in
    let list = with_items c.self.inside.list c.offer_unseen-len.new.list in
    let marks = with_items c.self.inside.marks c.offer_unseen-len.new.marks in
    let list_is : list.items ≡ c.offer_unseen-len.new.list = written_is c.self.inside.list.len c.offer_unseen-len.new.list c.self.inside.list.items (c.offer_unseen-len.auto.list ∙ c.deref_mut.ensures.len) in
    let marks_is : marks.items ≡ c.offer_unseen-len.new.marks = written_is c.self.inside.marks.len c.offer_unseen-len.new.marks c.self.inside.marks.items (c.offer_unseen-len.auto.marks ∙ c.deref_mut-2.ensures.len) in
    let settled =
    subst (λ (ms : List ℕ). AreSettled points c.at.result.now (c.self.inside.most + 1) c.self.inside.stamp (take len list.items) ms) (sym marks_is)
    (subst (λ (xs : List Near). AreSettled points c.at.result.now (c.self.inside.most + 1) c.self.inside.stamp (take len xs) c.offer_unseen-len.new.marks) (sym list_is) c.offer_unseen-len.ensures.settled) in
    offered_now points c.args.v c.args.ids.now c.args.self.now _ c.requires.offered
    (ap (take len) list_is ∙ c.offer_unseen-len.ensures.list ∙ (λ i. take (c.self.inside.most + 1) (fold (put near_cmp) (take c.self.inside.len (c.deref_mut.ensures.value i)) (all_near points c.at.result.now c.args.ids.now))) ∙ (λ i. take ((c.self.view_is i).most + 1) (fold (put near_cmp) (c.self.view_is i).kept (all_near points (c.at.ensures.value i) c.args.ids.now))))
    (subst (λ (query : List ℕ). AreSettled points query (c.args.self.now.most + 1) c.args.self.now.stamp (take len list.items) marks.items) c.at.ensures.value
    (subst (λ (o : Offers). AreSettled points c.at.result.now (o.most + 1) o.stamp (take len list.items) marks.items) c.self.view_is settled))
    (ap (λ (o : Offers). o.most) c.self.view_is)
    (ap (λ (o : Offers). o.stamp) c.self.view_is)
    (ap (λ (xs : List ℕ). length xs) marks_is ∙ c.offer_unseen-len.auto.marks ∙ c.deref_mut-2.ensures.len ∙ c.self.inside.marks.ok.0 ∙ ap (λ (o : Offers). length o.marks) c.self.view_is)
