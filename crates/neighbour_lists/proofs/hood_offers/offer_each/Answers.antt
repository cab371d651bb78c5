use Rattle.std.proofs.Common.{◌≡◌, ◌+◌, ◌<◌, ◌++◌, ◌∷◌, [], ◌∙◌, ℕ, List, take, get_or, sym, ap, subst}
use Rattle.std.specs.List.{All, flat_map}
use Rattle.std.proofs.lemmas.Grind.{flat_map-append}
use Rattle.std.proofs.lemmas.List.{take_more, append-nil}
use Rattle.neighbour_lists.specs.Fresh.{parts}
use Rattle.neighbour_lists.specs.Offering.{HasOffered}
use Rattle.neighbour_lists.proofs.Offers.{offered_none, offered_on, offered_same}
use Rattle.neighbour_lists.proofs.hood_offers.offer_each.Goals as goal

pub ends_of-requires : goal.ends_of-requires
ends_of-requires c = subst (λ (k : ℕ). All (λ (u : ℕ). u < k) c.args.ids.now) (sym c.requires.hoods.rows.count) c.requires.ids

pub ends_of-requires-2 : goal.ends_of-requires-2
ends_of-requires-2 c = subst (λ (k : ℕ). All (λ (u : ℕ). u < k) c.args.ids.now) (sym c.requires.hoods.others.count) c.requires.ids

pub loop-u-init : goal.loop-u-init
loop-u-init c = subst (HasOffered c.args.points.now.vectors c.args.v [] c.args.scratch.now) (sym c.note.ensures) (offered_none c.args.points.now.vectors c.args.v c.args.scratch.now c.requires.offered)

pub loop-u-preserved : goal.loop-u-preserved
loop-u-preserved c =
    let points = c.args.points.now.vectors in
    let f = parts c.args.rows.now.rows c.args.others.now.rows in
    let ids = c.args.ids.now in
    let i = c.loop-u.u-index in
    let u = get_or ids i 0 in
    let more : flat_map f (take (i + 1) ids) ≡ flat_map f (take i ids) ++ f u =
    ap (flat_map f) (take_more ids i 0 c.loop-u-test.true)
    ∙ flat_map-append f (take i ids) (u ∷ [])
    ∙ ap (λ (us : List ℕ). flat_map f (take i ids) ++ us) (append-nil (f u)) in
    offered_same points c.args.v (flat_map f (take i ids) ++ f u) (flat_map f (take (i + 1) ids)) c.args.scratch.now c.offer_parts.new.scratch (sym more)
    (offered_on points c.args.v (flat_map f (take i ids)) (f u) c.args.scratch.now c.loop-u.scratch c.offer_parts.new.scratch c.loop-u.invariant c.offer_parts.ensures)
