-- Lists in a total order in which only equal elements tie.
use Rattle.std.proofs.Common.{◌≡◌, ℕ, zero, suc, ◌<◌, Bool, true, false, cond, Some, List, [], ◌∷◌, ◌++◌, map, take, length, get_or, refl, sym, ap, ◌∙◌, subst, inl, inr, arith}
use Rattle.std.specs.Prelude.{◌⊎◌}
use Rattle.std.specs.List.{fold, find, All, Contains}
use Rattle.std.proofs.lemmas.List.Elements.{All-contains}
use Rattle.std.specs.declared.cmp.Ordering.{Ordering}
use Rattle.std.specs.declared.cmp.Ordering.TheVariants.{Less, Equal, Greater}
use Rattle.std.specs.Ordering.{match_ordering, ordering_reverse}
use Rattle.std.specs.Cmp.{IsTotalOrder}
use Rattle.std.proofs.lemmas.List.{take-take}
use Rattle.std.proofs.lemmas.Map.Lookups.{CmpEqualImpliesEq}
use Rattle.ann_defs.specs.Ordered.{Has, put, ordered, IsBelow, Rises}

-- a total order in which only equal elements tie
pub record IsExactOrder {K : Type 0} (R : K → K → Ordering) : Type 0 where
  pub total : IsTotalOrder R
  pub exact : CmpEqualImpliesEq R

pub Contains-from_has : {K : Type 0} (xs : List K) (x : K) → Has xs x → Contains xs x
Contains-from_has [] x h = absurd h
Contains-from_has (y ∷ ys) x h =
    elim h as (λ _. Contains (y ∷ ys) x) [
      | inl e ↦ (0, omega arith, e)
      | inr m ↦ let at = Contains-from_has ys x m in (suc at.0, omega (arith, at.1), at.2)
    ]

has_at : {K : Type 0} (xs : List K) (k : ℕ) (x : K) → k < length xs → get_or xs k x ≡ x → Has xs x
has_at [] k x h e = absurd (omega arith)
has_at (y ∷ ys) zero x h e = inl e
has_at (y ∷ ys) (suc k) x h e = inr (has_at ys k x (omega arith) e)

pub has_from_Contains : {K : Type 0} (xs : List K) (x : K) → Contains xs x → Has xs x
has_from_Contains xs x h = has_at xs h.0 x h.1 h.2

pub All_has : {K : Type 0} (P : K → Type 0) (xs : List K) (x : K) → All P xs → Has xs x → P x
All_has P xs x all h = All-contains P xs x all (Contains-from_has xs x h)

pub has-take : {K : Type 0} (k : ℕ) (xs : List K) (x : K) → Has (take k xs) x → Has xs x
has-take zero xs x h = absurd h
has-take (suc k) [] x h = absurd h
has-take (suc k) (y ∷ ys) x h = elim h as (λ _. (y ≡ x) ⊎ Has ys x) [ inl e ↦ inl e | inr m ↦ inr (has-take k ys x m) ]

pub has-map : {J K : Type 0} (f : J → K) (xs : List J) (z : K) → Has (map f xs) z → (x : J) × Has xs x × (f x ≡ z)
has-map f [] z h = absurd h
has-map {J} f (y ∷ ys) z h =
    elim h as (λ _. (x : J) × ((y ≡ x) ⊎ Has ys x) × (f x ≡ z)) [
      | inl e ↦ (y, inl refl, e)
      | inr m ↦ let rest = has-map f ys z m in (rest.0, inr rest.1, rest.2)
    ]

pub has-push : {K : Type 0} (xs : List K) (y z : K) → Has (xs ++ y ∷ []) z → Has xs z ⊎ (y ≡ z)
has-push [] y z h = elim h as (λ _. ⊥ ⊎ (y ≡ z)) [ inl e ↦ inr e | inr m ↦ absurd m ]
has-push (x ∷ xs) y z h =
    elim h as (λ _. ((x ≡ z) ⊎ Has xs z) ⊎ (y ≡ z)) [
      | inl e ↦ inl (inl e)
      | inr m ↦ elim (has-push xs y z m) as (λ _. ((x ≡ z) ⊎ Has xs z) ⊎ (y ≡ z)) [ inl k ↦ inl (inr k) | inr e ↦ inr e ]
    ]

-- what a search through a list finds
pub has_found : {K : Type 0} (p : K → Bool) (xs : List K) (x : K) → find p xs ≡ Some x → Has xs x × (p x ≡ true)
has_found p [] x e = cc
has_found p (y ∷ ys) x e =
    elim (p y) as (λ b. p y ≡ b → cond b (Some y) (find p ys) ≡ Some x → ((y ≡ x) ⊎ Has ys x) × (p x ≡ true)) [
      | true ↦ λ t e. let same : y ≡ x = cc in (inl same, ap p (sym same) ∙ t)
      | false ↦ λ t e. let rest = has_found p ys x e in (inr rest.0, rest.1)
    ] refl e

module _ {K : Type 0} (R : K → K → Ordering) where
  cons-take : (k : ℕ) (y : K) (ys : List K) → take k (y ∷ take k ys) ≡ take k (y ∷ ys)
  cons-take zero y ys = refl
  cons-take (suc k) y ys = ap (λ zs. y ∷ zs) (take-take k (suc k) ys (omega arith))

  -- what is cut off doesn't come back
  pub take-put : (k : ℕ) (xs : List K) (x : K) → take k (put R (take k xs) x) ≡ take k (put R xs x)
  take-put zero xs x = refl
  take-put (suc k) [] x = refl
  take-put (suc k) (y ∷ ys) x =
      elim (R x y) as (λ r. take (suc k) (match_ordering r (x ∷ y ∷ take k ys) (y ∷ take k ys) (y ∷ put R (take k ys) x)) ≡ take (suc k) (match_ordering r (x ∷ y ∷ ys) (y ∷ ys) (y ∷ put R ys x))) [
        | Less ↦ ap (λ zs. x ∷ zs) (cons-take k y ys)
        | Equal ↦ ap (λ zs. y ∷ zs) (take-take k k ys (omega arith))
        | Greater ↦ ap (λ zs. y ∷ zs) (take-put k ys x)
      ]

  pub take-fold_put : (k : ℕ) (xs zs : List K) → take k (fold (put R) (take k xs) zs) ≡ take k (fold (put R) xs zs)
  take-fold_put k xs [] = take-take k k xs (omega arith)
  take-fold_put k xs (z ∷ zs) =
      sym (take-fold_put k (put R (take k xs) z) zs)
      ∙ ap (λ ys. take k (fold (put R) ys zs)) (take-put k xs z)
      ∙ take-fold_put k (put R xs z) zs

  pub has_put_itself : CmpEqualImpliesEq R → (xs : List K) (x : K) → Has (put R xs x) x
  has_put_itself exact [] x = inl refl
  has_put_itself exact (y ∷ ys) x =
      elim (R x y) as (λ r. R x y ≡ r → Has (match_ordering r (x ∷ y ∷ ys) (y ∷ ys) (y ∷ put R ys x)) x) [
        | Less ↦ λ _. inl refl
        | Equal ↦ λ e. inl (sym (exact x y e))
        | Greater ↦ λ _. inr (has_put_itself exact ys x)
      ] refl

  pub has_put_old : (xs : List K) (x z : K) → Has xs z → Has (put R xs x) z
  has_put_old [] x z h = absurd h
  has_put_old (y ∷ ys) x z h =
      elim (R x y) as (λ r. Has (match_ordering r (x ∷ y ∷ ys) (y ∷ ys) (y ∷ put R ys x)) z) [
        | Less ↦ inr h
        | Equal ↦ h
        | Greater ↦ elim h as (λ _. (y ≡ z) ⊎ Has (put R ys x) z) [ inl e ↦ inl e | inr k ↦ inr (has_put_old ys x z k) ]
      ]

  pub put_has : (xs : List K) (x z : K) → Has (put R xs x) z → (x ≡ z) ⊎ Has xs z
  put_has [] x z h = h
  put_has (y ∷ ys) x z h =
      elim (R x y) as (λ r. Has (match_ordering r (x ∷ y ∷ ys) (y ∷ ys) (y ∷ put R ys x)) z → (x ≡ z) ⊎ Has (y ∷ ys) z) [
        | Less ↦ λ h. h
        | Equal ↦ λ h. inr h
        | Greater ↦ λ h. elim h as (λ _. (x ≡ z) ⊎ Has (y ∷ ys) z) [
          | inl e ↦ inr (inl e)
          | inr k ↦ elim (put_has ys x z k) as (λ _. (x ≡ z) ⊎ Has (y ∷ ys) z) [ inl e ↦ inl e | inr m ↦ inr (inr m) ]
        ]
      ] h

  pub fold_has : (xs zs : List K) (z : K) → Has (fold (put R) xs zs) z → Has xs z ⊎ Has zs z
  fold_has xs [] z h = inl h
  fold_has xs (y ∷ zs) z h =
      elim (fold_has (put R xs y) zs z h) as (λ _. Has xs z ⊎ Has (y ∷ zs) z) [
        | inl k ↦ elim (put_has xs y z k) as (λ _. Has xs z ⊎ Has (y ∷ zs) z) [ inl e ↦ inr (inl e) | inr m ↦ inl m ]
        | inr k ↦ inr (inr k)
      ]

  pub has_fold_old : (xs zs : List K) (z : K) → Has xs z → Has (fold (put R) xs zs) z
  has_fold_old xs [] z h = h
  has_fold_old xs (y ∷ zs) z h = has_fold_old (put R xs y) zs z (has_put_old xs y z h)

  pub has_fold_new : CmpEqualImpliesEq R → (xs zs : List K) (z : K) → Has zs z → Has (fold (put R) xs zs) z
  has_fold_new exact xs [] z h = absurd h
  has_fold_new exact xs (y ∷ zs) z h =
      elim h as (λ _. Has (fold (put R) (put R xs y) zs) z) [
        | inl e ↦ has_fold_old (put R xs y) zs z (subst (λ (w : K). Has (put R xs y) w) e (has_put_itself exact xs y))
        | inr k ↦ has_fold_new exact (put R xs y) zs z k
      ]

  -- before all of a list
  pub put_below : (ys : List K) (x : K) → IsBelow R x ys → put R ys x ≡ x ∷ ys
  put_below [] x h = refl
  put_below (y ∷ ys) x h = ap (λ r. match_ordering r (x ∷ y ∷ ys) (y ∷ ys) (y ∷ put R ys x)) h.0

  IsBelow-take : (k : ℕ) (x : K) (ys : List K) → IsBelow R x ys → IsBelow R x (take k ys)
  IsBelow-take zero x ys h = tt
  IsBelow-take (suc k) x [] h = tt
  IsBelow-take (suc k) x (y ∷ ys) h = (h.0, IsBelow-take k x ys h.1)

  pub Rises-take : (k : ℕ) (ys : List K) → Rises R ys → Rises R (take k ys)
  Rises-take zero ys h = tt
  Rises-take (suc k) [] h = tt
  Rises-take (suc k) (y ∷ ys) h = (IsBelow-take k y ys h.0, Rises-take k ys h.1)

  module _ (o : IsExactOrder R) where
    reversed : (x y : K) → R x y ≡ Greater → R y x ≡ Less
    reversed x y e = o.total.antisymm y x ∙ ap ordering_reverse e

    pub IsBelow-trans : (x y : K) (ys : List K) → R x y ≡ Less → IsBelow R y ys → IsBelow R x ys
    IsBelow-trans x y [] e h = tt
    IsBelow-trans x y (z ∷ ys) e h = (o.total.trans x y z e h.0, IsBelow-trans x y ys e h.1)

    IsBelow-put : (a x : K) (ys : List K) → R a x ≡ Less → IsBelow R a ys → IsBelow R a (put R ys x)
    IsBelow-put a x [] e h = (e, tt)
    IsBelow-put a x (y ∷ ys) e h =
        elim (R x y) as (λ r. IsBelow R a (match_ordering r (x ∷ y ∷ ys) (y ∷ ys) (y ∷ put R ys x))) [
          | Less ↦ (e, h)
          | Equal ↦ h
          | Greater ↦ (h.0, IsBelow-put a x ys e h.1)
        ]

    pub Rises-put : (ys : List K) (x : K) → Rises R ys → Rises R (put R ys x)
    Rises-put [] x h = (tt, tt)
    Rises-put (y ∷ ys) x h =
        elim (R x y) as (λ r. R x y ≡ r → Rises R (match_ordering r (x ∷ y ∷ ys) (y ∷ ys) (y ∷ put R ys x))) [
          | Less ↦ λ e. ((e, IsBelow-trans x y ys e h.0), h)
          | Equal ↦ λ _. h
          | Greater ↦ λ e. (IsBelow-put y x ys (reversed x y e) h.0, Rises-put ys x h.1)
        ] refl

    pub Rises-fold_put : (ys xs : List K) → Rises R ys → Rises R (fold (put R) ys xs)
    Rises-fold_put ys [] h = h
    Rises-fold_put ys (x ∷ xs) h = Rises-fold_put (put R ys x) xs (Rises-put ys x h)

    pub below_has : (x z : K) (ys : List K) → IsBelow R x ys → Has ys z → R x z ≡ Less
    below_has x z [] h k = absurd k
    below_has x z (y ∷ ys) h k = elim k as (λ _. R x z ≡ Less) [ inl e ↦ subst (λ (w : K). R x w ≡ Less) e h.0 | inr m ↦ below_has x z ys h.1 m ]

    not_below_itself : (x : K) → R x x ≡ Less → ⊥
    not_below_itself x e = let back : R x x ≡ ordering_reverse (R x x) = o.total.antisymm x x in
        let turned : Less ≡ Greater = sym e ∙ back ∙ ap ordering_reverse e in cc

    both_below : (x y : K) → R x y ≡ Less → R y x ≡ Less → ⊥
    both_below x y e f = not_below_itself x (o.total.trans x y x e f)

    -- the first of two lists in order with the same elements
    same_first : (x y : K) (xs ys : List K) → Rises R (x ∷ xs) → Rises R (y ∷ ys) → Has (y ∷ ys) x → Has (x ∷ xs) y → x ≡ y
    same_first x y xs ys g h p q =
        elim p as (λ _. x ≡ y) [
          | inl e ↦ sym e
          | inr m ↦ elim q as (λ _. x ≡ y) [ inl e ↦ e | inr n ↦ absurd (both_below x y (below_has x y xs g.0 n) (below_has y x ys h.0 m)) ]
        ]

    rest_has : (x z : K) (xs ys : List K) → IsBelow R x xs → Has xs z → Has (x ∷ ys) z → Has ys z
    rest_has x z xs ys g k h =
        elim h as (λ _. Has ys z) [
          | inl e ↦ absurd (not_below_itself z (subst (λ (w : K). R w z ≡ Less) e (below_has x z xs g k)))
          | inr m ↦ m
        ]

    -- two lists in order with the same elements are equal
    pub same_rising : (xs ys : List K) → Rises R xs → Rises R ys → ((z : K) → Has xs z → Has ys z) → ((z : K) → Has ys z → Has xs z) → xs ≡ ys
    same_rising [] [] g h p q = refl
    same_rising [] (y ∷ ys) g h p q = absurd (q y (inl refl))
    same_rising (x ∷ xs) [] g h p q = absurd (p x (inl refl))
    same_rising (x ∷ xs) (y ∷ ys) g h p q =
        let e = same_first x y xs ys g h (p x (inl refl)) (q y (inl refl)) in
        let tails : xs ≡ ys = same_rising xs ys g.1 h.1
        (λ z k. rest_has x z xs ys g.0 k (subst (λ (w : K). Has (w ∷ ys) z) (sym e) (p z (inr k))))
        (λ z k. rest_has y z ys xs h.0 k (subst (λ (w : K). Has (w ∷ xs) z) e (q z (inr k)))) in
        λ i. e i ∷ tails i

    -- a list that is in order already
    pub ordered_rising : (xs : List K) → Rises R xs → ordered R xs ≡ xs
    ordered_rising xs h = same_rising (ordered R xs) xs (Rises-fold_put [] xs tt) h
        (λ z k. elim (fold_has [] xs z k) as (λ _. Has xs z) [ inl n ↦ absurd n | inr m ↦ m ])
        (λ z k. has_fold_new o.exact [] xs z k)

    -- any list in order with the set's elements is the set in order
    pub ordered_is : (xs ys : List K) → Rises R ys → ((z : K) → Has xs z → Has ys z) → ((z : K) → Has ys z → Has xs z) → ordered R xs ≡ ys
    ordered_is xs ys h p q = same_rising (ordered R xs) ys (Rises-fold_put [] xs tt) h
        (λ z k. elim (fold_has [] xs z k) as (λ _. Has ys z) [ inl n ↦ absurd n | inr m ↦ p z m ])
        (λ z k. has_fold_new o.exact [] xs z (q z k))

    -- the order in which two are put doesn't count, nor how often
    pub put_comm : (ys : List K) (x z : K) → Rises R ys → put R (put R ys x) z ≡ put R (put R ys z) x
    put_comm ys x z h = same_rising _ _ (Rises-put (put R ys x) z (Rises-put ys x h)) (Rises-put (put R ys z) x (Rises-put ys z h)) (either ys x z) (either ys z x)
      where
        either : (ys : List K) (x z w : K) → Has (put R (put R ys x) z) w → Has (put R (put R ys z) x) w
        either ys x z w k =
            elim (put_has (put R ys x) z w k) as (λ _. Has (put R (put R ys z) x) w) [
              | inl e ↦ has_put_old (put R ys z) x w (subst (λ (v : K). Has (put R ys z) v) e (has_put_itself o.exact ys z))
              | inr m ↦ elim (put_has ys x w m) as (λ _. Has (put R (put R ys z) x) w) [
                | inl e ↦ subst (λ (v : K). Has (put R (put R ys z) x) v) e (has_put_itself o.exact (put R ys z) x)
                | inr n ↦ has_put_old (put R ys z) x w (has_put_old ys z w n)
              ]
            ]

    pub put_again : (ys : List K) (x : K) → Rises R ys → put R (put R ys x) x ≡ put R ys x
    put_again ys x h = same_rising _ _ (Rises-put (put R ys x) x (Rises-put ys x h)) (Rises-put ys x h)
        (λ w k. elim (put_has (put R ys x) x w k) as (λ _. Has (put R ys x) w) [ inl e ↦ subst (λ (v : K). Has (put R ys x) v) e (has_put_itself o.exact ys x) | inr m ↦ m ])
        (λ w k. has_put_old (put R ys x) x w k)

    -- offering x to the k first changes nothing
    abbrev pub IsSettled : ℕ → List K → K → Type 0
    IsSettled k ys x = take k (put R ys x) ≡ ys

    -- what was offered is settled, and stays so
    pub settled_itself : (k : ℕ) (ys : List K) (x : K) → Rises R ys → IsSettled k (take k (put R ys x)) x
    settled_itself k ys x h = take-put k (put R ys x) x ∙ ap (take k) (put_again ys x h)

    pub settled_more : (k : ℕ) (ys : List K) (x z : K) → Rises R ys → IsSettled k ys x → IsSettled k (take k (put R ys z)) x
    settled_more k ys x z h s =
        take-put k (put R ys z) x ∙ ap (take k) (put_comm ys z x h) ∙ sym (take-put k (put R ys x) z) ∙ ap (λ zs. take k (put R zs z)) s
