-- Which ids are settled: offering them once more changes nothing.
use Rattle.std.proofs.Common.{◌≡◌, ℕ, ◌+◌, ◌<◌, ◌≤◌, List, [], ◌∷◌, map, take, drop, length, min, refl, sym, ap, ◌∙◌, subst, inl, inr, arith, take-add}
use Rattle.std.specs.Prelude.{◌⊎◌}
use Rattle.std.specs.List.{fold, All}
use Rattle.std.proofs.lemmas.Grind.{fold-append}
use Rattle.std.proofs.lemmas.List.{take-take, take_all, map-append}
use Rattle.std.proofs.lemmas.List.Elements.{All-take, All-drop}
use Rattle.ann_defs.specs.declared.near.Near.{Near}
use Rattle.ann_defs.specs.Ordered.{Has, put, Rises}
use Rattle.ann_defs.specs.Nearness.{near_cmp, near_of, all_near}
use Rattle.ann_defs.proofs.Order.{All_has, take-fold_put, Rises-take, Rises-put, Rises-fold_put, settled_itself, settled_more, fold_has, has_fold_old, has_fold_new, same_rising, has-map}
use Rattle.ann_defs.proofs.NearOrder.{near_order}
use Rattle.ann_defs.proofs.Members.{all_from_has, has-mapped}
use Rattle.near_lists.specs.Marks.{IsSettled, AreSettled, AreUnseen}
use Rattle.near_lists.proofs.Inserting.{put_there}

module _ (k : ℕ) where
  abbrev Settled : List Near → Near → Type 0
  Settled found x = take k (put near_cmp found x) ≡ found

  abbrev onto : List Near → List Near → List Near
  onto found more = take k (fold (put near_cmp) found more)

  pub stays_settled : (zs found : List Near) (x : Near) → Rises near_cmp found → Settled found x → Settled (onto found zs) x
  stays_settled [] found x h s =
      let cut : take k found ≡ found = ap (take k) (sym s) ∙ take-take k k (put near_cmp found x) (omega arith) ∙ s in
      ap (λ ys. take k (put near_cmp ys x)) cut ∙ s ∙ sym cut
  stays_settled (z ∷ zs) found x h s =
      subst (λ ys. Settled ys x) (take-fold_put near_cmp k (put near_cmp found z) zs)
      (stays_settled zs (take k (put near_cmp found z)) x (Rises-take near_cmp k (put near_cmp found z) (Rises-put near_cmp near_order found z h)) (settled_more near_cmp near_order k found x z h s))

  -- what was offered
  pub settled_among : (zs found : List Near) (x : Near) → Rises near_cmp found → Has zs x → Settled (onto found zs) x
  settled_among [] found x h m = absurd m
  settled_among (z ∷ zs) found x h m =
      elim m as (λ _. Settled (onto (put near_cmp found z) zs) x) [
        | inl e ↦ subst (Settled (onto (put near_cmp found z) zs)) e
            (subst (λ ys. Settled ys z) (take-fold_put near_cmp k (put near_cmp found z) zs)
            (stays_settled zs (take k (put near_cmp found z)) z (Rises-take near_cmp k (put near_cmp found z) (Rises-put near_cmp near_order found z h)) (settled_itself near_cmp near_order k found z h)))
        | inr n ↦ settled_among zs (put near_cmp found z) x (Rises-put near_cmp near_order found z h) n
      ]

  all_settled : (zs found : List Near) → ((z : Near) → Has zs z → Settled found z) → take k found ≡ found → onto found zs ≡ found
  all_settled [] found f e = e
  all_settled (z ∷ zs) found f e =
      sym (take-fold_put near_cmp k (put near_cmp found z) zs) ∙ ap (λ ys. onto ys zs) (f z (inl refl)) ∙ all_settled zs found (λ y h. f y (inr h)) e

  -- it is enough to offer those that aren't settled
  pub only_new : (found new all : List Near) → Rises near_cmp found → ((z : Near) → Has new z → Has all z) → ((z : Near) → Has all z → Settled found z ⊎ Has new z) → onto found new ≡ onto found all
  only_new found new all h among each =
      let last = onto found new in
      let settled : (z : Near) → Has all z → Settled last z = λ z m. elim (each z m) as (λ _. Settled last z) [ inl s ↦ stays_settled new found z h s | inr n ↦ settled_among new found z h n ] in
      let same : fold (put near_cmp) (fold (put near_cmp) found new) all ≡ fold (put near_cmp) found all =
      same_rising near_cmp near_order _ _
      (Rises-fold_put near_cmp near_order (fold (put near_cmp) found new) all (Rises-fold_put near_cmp near_order found new h))
      (Rises-fold_put near_cmp near_order found all h)
      (λ z m. elim (fold_has near_cmp (fold (put near_cmp) found new) all z m) as (λ _. Has (fold (put near_cmp) found all) z) [
        | inl n ↦ elim (fold_has near_cmp found new z n) as (λ _. Has (fold (put near_cmp) found all) z) [
          | inl old ↦ has_fold_old near_cmp found all z old
          | inr now ↦ has_fold_new near_cmp near_order.exact found all z (among z now)
        ]
        | inr n ↦ has_fold_new near_cmp near_order.exact found all z n
      ])
      (λ z m. elim (fold_has near_cmp found all z m) as (λ _. Has (fold (put near_cmp) (fold (put near_cmp) found new) all) z) [
        | inl old ↦ has_fold_old near_cmp (fold (put near_cmp) found new) all z (has_fold_old near_cmp found new z old)
        | inr now ↦ has_fold_new near_cmp near_order.exact (fold (put near_cmp) found new) all z now
      ]) in
      sym (all_settled all last settled (take-take k k (fold (put near_cmp) found new) (omega arith)))
      ∙ take-fold_put near_cmp k (fold (put near_cmp) found new) all
      ∙ ap (take k) same

-- what stands in a list in order is settled there
pub settled_there : (k : ℕ) (found : List Near) (x : Near) → Rises near_cmp found → length found ≤ k → Has found x → take k (put near_cmp found x) ≡ found
settled_there k found x h short m = ap (take k) (put_there found x h m) ∙ take_all k found short

module _ (points : List (List ℕ)) (query : List ℕ) (k seen : ℕ) (found : List Near) (ids old todo new : List ℕ) (rises : Rises near_cmp found) (inside : (u : ℕ) → Has ids u → u < length points) (settled : AreSettled points query k seen found old) (unseen : AreUnseen seen ids old todo new) where
  unseen_enough : take k (fold (put near_cmp) found (all_near points query todo)) ≡ take k (fold (put near_cmp) found (all_near points query ids))
  unseen_enough = only_new k found (all_near points query todo) (all_near points query ids) rises
      (λ z h. let from = has-map (near_of points query) todo z h in subst (Has (all_near points query ids)) from.2 (has-mapped (near_of points query) ids from.0 (unseen.among from.0 from.1)))
      (λ z h. let from = has-map (near_of points query) ids z h in
      elim (unseen.each from.0 from.1) as (λ _. (take k (put near_cmp found z) ≡ found) ⊎ Has (all_near points query todo) z) [
        | inl later ↦ inl (subst (λ (y : Near). take k (put near_cmp found y) ≡ found) from.2 (settled from.0 (inside from.0 from.1) later))
        | inr m ↦ inr (subst (Has (all_near points query todo)) from.2 (has-mapped (near_of points query) todo from.0 m))
      ])

  unseen_settled : AreSettled points query k seen (take k (fold (put near_cmp) found (all_near points query todo))) new
  unseen_settled u lt later = elim (unseen.marked u) as (λ _. IsSettled points query k (take k (fold (put near_cmp) found (all_near points query todo))) u) [
    | inl same ↦ stays_settled k (all_near points query todo) found (near_of points query u) rises (settled u lt (subst (λ m. seen ≤ m) same later))
    | inr now ↦ settled_among k (all_near points query todo) found (near_of points query u) rises (has-mapped (near_of points query) todo u now.2)
  ]

-- the front that two steps leave
pub front_left : (a b : ℕ) (xs ys zs : List Near) → take a ys ≡ take a xs → take b zs ≡ take b ys → take (min a b) zs ≡ take (min a b) xs
front_left a b xs ys zs e g =
    sym (take-take (min a b) b zs (omega arith)) ∙ ap (take (min a b)) g ∙ take-take (min a b) b ys (omega arith)
    ∙ sym (take-take (min a b) a ys (omega arith)) ∙ ap (take (min a b)) e ∙ take-take (min a b) a xs (omega arith)

-- offered in parts
parts_offered : (f : ℕ → Near) (k : ℕ) (base now next : List Near) (ids : List ℕ) (at n : ℕ) → now ≡ take k (fold (put near_cmp) base (map f (take at ids))) → next ≡ take k (fold (put near_cmp) now (map f (take n (drop at ids)))) → next ≡ take k (fold (put near_cmp) base (map f (take (at + n) ids)))
parts_offered f k base now next ids at n e g =
    g
    ∙ ap (λ ys. take k (fold (put near_cmp) ys (map f (take n (drop at ids))))) e
    ∙ take-fold_put near_cmp k (fold (put near_cmp) base (map f (take at ids))) (map f (take n (drop at ids)))
    ∙ ap (take k) (sym (fold-append (put near_cmp) base (map f (take at ids)) (map f (take n (drop at ids)))) ∙ ap (fold (put near_cmp) base) (sym (map-append f (take at ids) (take n (drop at ids))) ∙ ap (map f) (sym (take-add at n ids))))

-- the next n of the ids, of which those that aren't marked are offered
module _ (points : List (List ℕ)) (query : List ℕ) (k seen : ℕ) (base found : List Near) (ids old todo new : List ℕ) (at n m : ℕ) (inside : All (λ u. u < length points) ids) (is : m ≡ n) (unseen : AreUnseen seen (take m (drop at ids)) old todo new) where
  part_inside : All (λ u. u < length points) (take m (drop at ids))
  part_inside = All-take (λ u. u < length points) m (drop at ids) (All-drop (λ u. u < length points) at ids inside)

  pub todo_inside : All (λ u. u < length points) todo
  todo_inside = all_from_has (λ u. u < length points) todo (λ u h. All_has (λ v. v < length points) (take m (drop at ids)) u part_inside (unseen.among u h))

  module _ (rises : Rises near_cmp found) (settled : AreSettled points query k seen found old) (touched : List ℕ) (same : touched ≡ todo) (next : List Near) (offered : next ≡ take k (fold (put near_cmp) found (all_near points query touched))) where
    offered_todo : next ≡ take k (fold (put near_cmp) found (all_near points query todo))
    offered_todo = offered ∙ ap (λ us. take k (fold (put near_cmp) found (all_near points query us))) same

    part_has : (u : ℕ) → Has (take m (drop at ids)) u → u < length points
    part_has u h = All_has (λ v. v < length points) (take m (drop at ids)) u part_inside h

    pub part_settled : AreSettled points query k seen next new
    part_settled = subst (λ ys. AreSettled points query k seen ys new) (sym offered_todo) (unseen_settled points query k seen found (take m (drop at ids)) old todo new rises part_has settled unseen)

    pub part_offered : found ≡ take k (fold (put near_cmp) base (all_near points query (take at ids))) → next ≡ take k (fold (put near_cmp) base (all_near points query (take (at + n) ids)))
    part_offered before =
        parts_offered (near_of points query) k base found next ids at n before
        (offered_todo ∙ unseen_enough points query k seen found (take m (drop at ids)) old todo new rises part_has settled unseen
        ∙ ap (λ c. take k (fold (put near_cmp) found (all_near points query (take c (drop at ids))))) is)
