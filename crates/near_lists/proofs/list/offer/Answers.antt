use Rattle.std.proofs.Common.{◌≡◌, ◌≤◌, ◌∙◌, take, drop, length, get_or, sym, ap, subst, arith, ◌++◌, ◌∷◌}
use Rattle.std.proofs.lemmas.List.{length-take-le, take_all, take-take}
use Rattle.ann_defs.specs.Ordered.{Has, put}
use Rattle.ann_defs.specs.Nearness.{near_cmp}
use Rattle.near_lists.proofs.Inserting.{turned_away, has_place, put_at, put_there, has_get_or}
use Rattle.near_lists.proofs.Halving.{stands_behind}
use Rattle.near_lists.proofs.list.offer.Goals as goal

pub returns-then-is_full-clause-list : goal.returns-then-is_full-clause-list
returns-then-is_full-clause-list c =
    turned_away c.args.len c.args.limit c.args.list.now c.args.x c.requires.len c.requires.limit c.requires.rises (sym c.is_full.ensures ∙ c.if-is_full.true)

pub insert-requires-clause-at : goal.insert-requires-clause-at
insert-requires-clause-at c =
    let ys = take c.args.len c.args.list.now in
    let long : length ys ≡ c.args.len = length-take-le c.args.len c.args.list.now (omega arith) in
    let bound : c.place_of-at.result ≤ length ys = c.place_of-at.ensures.bound in (
      omega arith,
      has_place c.args.len c.args.limit c.place_of-at.result c.args.list.now c.args.x c.requires.len c.requires.limit (omega arith) (sym c.is_full.ensures ∙ c.if-is_full.false)
          (λ k d lt. c.place_of-at.ensures.before k d (omega arith) lt),
    )

pub returns-then-stands_at-clause-list : goal.returns-then-stands_at-clause-list
returns-then-stands_at-clause-list c =
    let ys = take c.args.len c.args.list.now in
    let long : length ys ≡ c.args.len = length-take-le c.args.len c.args.list.now (omega arith) in
    let at = c.place_of-at.result in
    let there = c.stands_at.ensures.there c.if-stands_at.true in
    let has : Has ys c.args.x = subst (Has ys) (there.1 c.args.x) (has_get_or ys at c.args.x there.0) in
    sym (ap (take c.args.limit) (put_there ys c.args.x c.requires.rises has) ∙ take_all c.args.limit ys (omega arith))

pub returns-clause-list : goal.returns-clause-list
returns-clause-list c =
    let ys = take c.args.len c.args.list.now in
    let at = c.place_of-at.result in
    let placed : put near_cmp ys c.args.x ≡ take at ys ++ c.args.x ∷ drop at ys =
    put_at ys at c.args.x (λ k d lt. c.place_of-at.ensures.before k d (omega arith) lt)
    (λ d lt. stands_behind (get_or ys at d) c.args.x (c.place_of-at.ensures.behind lt d) (c.stands_at.ensures.not_there c.if-stands_at.false lt d)) c.place_of-at.ensures.bound in
    let bound : at ≤ length ys = c.place_of-at.ensures.bound in
    let long : length ys ≡ c.args.len = length-take-le c.args.len c.args.list.now (omega arith) in
    c.insert.ensures.list ∙ ap (take c.args.limit) (ap (λ zs. zs ++ c.args.x ∷ drop at ys) (sym (take-take at c.args.len c.args.list.now (omega arith))) ∙ sym placed)
