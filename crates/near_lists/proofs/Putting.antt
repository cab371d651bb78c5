-- Lists that are offered ids one by one.
use Rattle.std.proofs.Common.{◌≡◌, ℕ, ◌+◌, ◌<◌, List, [], ◌∷◌, map, take, length, get_or, sym, ap, ◌∙◌, subst}
use Rattle.std.specs.List.{fold}
use Rattle.std.proofs.lemmas.List.{map_more}
use Rattle.ann_defs.specs.declared.near.Near.{Near}
use Rattle.ann_defs.specs.Ordered.{put}
use Rattle.ann_defs.specs.Nearness.{near_cmp}
use Rattle.ann_defs.specs.Ordered.{Rises}
use Rattle.ann_defs.proofs.Order.{take-put, Rises-take, Rises-fold_put}
use Rattle.std.proofs.lemmas.Grind.{fold-append}
use Rattle.ann_defs.proofs.NearOrder.{near_order}

-- one more is offered to what is left of those before
pub offered_more : (f : ℕ → Near) (ids : List ℕ) (i limit : ℕ) (d : ℕ) (base now next : List Near) → i < length ids → now ≡ take limit (fold (put near_cmp) base (map f (take i ids))) → next ≡ take limit (put near_cmp now (f (get_or ids i d))) → next ≡ take limit (fold (put near_cmp) base (map f (take (i + 1) ids)))
offered_more f ids i limit d base now next h e k =
    k
    ∙ ap (λ ys. take limit (put near_cmp ys (f (get_or ids i d)))) e
    ∙ take-put near_cmp limit (fold (put near_cmp) base (map f (take i ids))) (f (get_or ids i d))
    ∙ ap (take limit) (sym (ap (fold (put near_cmp) base) (map_more f ids i d h) ∙ fold-append (put near_cmp) base (map f (take i ids)) (f (get_or ids i d) ∷ [])))

pub rises_now : (limit : ℕ) (base more now : List Near) → Rises near_cmp base → now ≡ take limit (fold (put near_cmp) base more) → Rises near_cmp now
rises_now limit base more now h e = subst (Rises near_cmp) (sym e) (Rises-take near_cmp limit _ (Rises-fold_put near_cmp near_order base more h))
