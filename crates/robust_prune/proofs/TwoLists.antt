-- Two lists in order that are gone through together.
use Rattle.std.proofs.Common.{◌≡◌, ℕ, zero, suc, ◌+◌, ◌-◌, ◌<◌, ◌≤◌, Bool, true, false, List, [], ◌∷◌, ◌++◌, take, drop, set, length, get_or, refl, sym, ap, ◌∙◌, subst, inl, inr, arith, append_assoc}
use Rattle.std.specs.Prelude.{◌⊎◌}
use Rattle.std.specs.List.{filter, list_all}
use Rattle.std.specs.declared.cmp.Ordering.{Ordering}
use Rattle.std.specs.declared.cmp.Ordering.TheVariants.{Less, Equal, Greater}
use Rattle.std.specs.Ordering.{is_lt, ordering_reverse}
use Rattle.std.proofs.lemmas.Bool.{true≢false}
use Rattle.std.proofs.lemmas.List.{drop_more, drop_all, take_more_set, drop-set-lt, length-set}
use Rattle.ann_defs.specs.declared.near.Near.{Near}
use Rattle.ann_defs.specs.Nearness.{near_cmp, ids_of}
use Rattle.ann_defs.specs.Ordered.{Has, IsBelow, Rises, ordered}
use Rattle.ann_defs.specs.RobustPrune.{kept}
use Rattle.ann_defs.proofs.Order.{fold_has, has_fold_new, has-map, has-push, below_has, ordered_is, Rises-fold_put}
use Rattle.ann_defs.proofs.Members.{has-mapped, has-append, append-has, same_bool, and_both, both_and}
use Rattle.ann_defs.proofs.NearOrder.{near_order}
use Rattle.robust_prune.specs.Apart.{IsSpread}
use Rattle.robust_prune.proofs.Keeping.{passes, to_come, filter-all, kept-nil, step_no, step_yes, append-nil}
use Rattle.robust_prune.proofs.Laws.{get_has}

pub below_from : (x : Near) (ys : List Near) → ((z : Near) → Has ys z → near_cmp x z ≡ Less) → IsBelow near_cmp x ys
below_from x [] h = tt
below_from x (y ∷ ys) h = (h y (inl refl), below_from x ys (λ z k. h z (inr k)))

-- the nearest of a set comes first
module _ (x : Near) (all rest : List Near) (into : (z : Near) → Has all z → (x ≡ z) ⊎ Has rest z) (back : (z : Near) → (x ≡ z) ⊎ Has rest z → Has all z) (before : (z : Near) → Has rest z → near_cmp x z ≡ Less) where
  from_ordered : (z : Near) → Has (ordered near_cmp rest) z → Has rest z
  from_ordered z h = elim (fold_has near_cmp [] rest z h) as (λ _. Has rest z) [ inl n ↦ absurd n | inr m ↦ m ]

  least_first : ordered near_cmp all ≡ x ∷ ordered near_cmp rest
  least_first =
      ordered_is near_cmp near_order all (x ∷ ordered near_cmp rest)
      (below_from x (ordered near_cmp rest) (λ z h. before z (from_ordered z h)), Rises-fold_put near_cmp near_order [] rest tt)
      (λ z h. elim (into z h) as (λ _. (x ≡ z) ⊎ Has (ordered near_cmp rest) z) [ inl e ↦ inl e | inr m ↦ inr (has_fold_new near_cmp near_order.exact [] rest z m) ])
      (λ z h. back z (elim h as (λ _. (x ≡ z) ⊎ Has rest z) [ inl e ↦ inl e | inr m ↦ inr (from_ordered z m) ]))

-- what comes before an element comes before all behind it
before_drop : (x : Near) (ys : List Near) (j : ℕ) (d : Near) → Rises near_cmp ys → (j < length ys → near_cmp x (get_or ys j d) ≡ Less) → (z : Near) → Has (drop j ys) z → near_cmp x z ≡ Less
before_drop x [] zero d up f z h = absurd h
before_drop x [] (suc j) d up f z h = absurd h
before_drop x (y ∷ ys) zero d up f z h =
    elim h as (λ _. near_cmp x z ≡ Less) [
      | inl e ↦ subst (λ (w : Near). near_cmp x w ≡ Less) e (f (omega arith))
      | inr m ↦ near_order.total.trans x y z (f (omega arith)) (below_has near_cmp near_order y z ys up.0 m)
    ]
before_drop x (y ∷ ys) (suc j) d up f z h = before_drop x ys j d up.1 (λ k. f (omega arith)) z h

-- an element comes before all behind it
later_drop : (xs : List Near) (i : ℕ) (d : Near) → Rises near_cmp xs → i < length xs → (z : Near) → Has (drop (suc i) xs) z → near_cmp (get_or xs i d) z ≡ Less
later_drop [] i d up k z h = absurd (omega arith)
later_drop (x ∷ xs) zero d up k z h = below_has near_cmp near_order x z xs up.0 h
later_drop (x ∷ xs) (suc i) d up k z h = later_drop xs i d up.1 (omega arith) z h

-- the answers of a comparison
pub is_less : (r : Ordering) → is_lt r ≡ true → r ≡ Less
is_less Less h = refl
is_less Equal h = absurd (true≢false (sym h))
is_less Greater h = absurd (true≢false (sym h))

not_less : (x y : Near) → is_lt (near_cmp x y) ≡ false → (x ≡ y → ⊥) → near_cmp y x ≡ Less
not_less x y h n =
    near_order.total.antisymm y x
    ∙ elim (near_cmp x y) as (λ r. near_cmp x y ≡ r → is_lt r ≡ false → ordering_reverse r ≡ Less) [
      | Less ↦ λ _ f. absurd (true≢false f)
      | Equal ↦ λ e _. absurd (n (near_order.exact x y e))
      | Greater ↦ λ _ _. refl
    ] refl h

module _ (settled others : List Near) (up : Rises near_cmp settled) (higher : Rises near_cmp others) (d : Near) where
  next_settled : (i j : ℕ) → i < length settled → (j < length others → near_cmp (get_or settled i d) (get_or others j d) ≡ Less) → ordered near_cmp (drop i settled ++ drop j others) ≡ get_or settled i d ∷ ordered near_cmp (drop (i + 1) settled ++ drop j others)
  next_settled i j within first =
      let x = get_or settled i d in
      let next : suc i ≡ i + 1 = omega arith in
      let rest = drop (i + 1) settled ++ drop j others in
      ap (λ (xs : List Near). ordered near_cmp (xs ++ drop j others)) (drop_more settled i d within)
      ∙ least_first x (x ∷ rest) rest (λ z h. h) (λ z h. h)
      (λ z h. elim (has-append (drop (i + 1) settled) (drop j others) z h) as (λ _. near_cmp x z ≡ Less) [
        | inl m ↦ later_drop settled i d up within z (subst (λ k. Has (drop k settled) z) (sym next) m)
        | inr m ↦ before_drop x others j d higher first z m
      ])

  next_other : (i j : ℕ) → j < length others → (i < length settled → near_cmp (get_or others j d) (get_or settled i d) ≡ Less) → ordered near_cmp (drop i settled ++ drop j others) ≡ get_or others j d ∷ ordered near_cmp (drop i settled ++ drop (j + 1) others)
  next_other i j within first =
      let y = get_or others j d in
      let next : suc j ≡ j + 1 = omega arith in
      let left = drop i settled in
      let behind = drop (j + 1) others in
      ap (λ (ys : List Near). ordered near_cmp (left ++ ys)) (drop_more others j d within)
      ∙ least_first y (left ++ y ∷ behind) (left ++ behind)
      (λ z h. elim (has-append left (y ∷ behind) z h) as (λ _. (y ≡ z) ⊎ Has (left ++ behind) z) [
        | inl m ↦ inr (append-has left behind z (inl m))
        | inr m ↦ elim m as (λ _. (y ≡ z) ⊎ Has (left ++ behind) z) [ inl e ↦ inl e | inr k ↦ inr (append-has left behind z (inr k)) ]
      ])
      (λ z h. elim h as (λ _. Has (left ++ y ∷ behind) z) [
        | inl e ↦ append-has left (y ∷ behind) z (inr (inl e))
        | inr m ↦ elim (has-append left behind z m) as (λ _. Has (left ++ y ∷ behind) z) [ inl k ↦ append-has left (y ∷ behind) z (inl k) | inr k ↦ append-has left (y ∷ behind) z (inr (inr k)) ]
      ])
      (λ z h. elim (has-append left behind z h) as (λ _. near_cmp y z ≡ Less) [
        | inl m ↦ before_drop y settled i d up first z m
        | inr m ↦ later_drop others j d higher within z (subst (λ k. Has (drop k others) z) (sym next) m)
      ])

take_on : (xs : List Near) (i : ℕ) (z : Near) → Has (take i xs) z → Has (take (suc i) xs) z
take_on xs zero z h = absurd h
take_on [] (suc i) z h = absurd h
take_on (x ∷ xs) (suc i) z h = elim h as (λ _. (x ≡ z) ⊎ Has (take (suc i) xs) z) [ inl e ↦ inl e | inr m ↦ inr (take_on xs i z m) ]

take_here : (xs : List Near) (i : ℕ) (d : Near) → i < length xs → Has (take (suc i) xs) (get_or xs i d)
take_here [] i d h = absurd (omega arith)
take_here (x ∷ xs) zero d h = inl refl
take_here (x ∷ xs) (suc i) d h = inr (take_here xs i d (omega arith))

pub all_true : (t : ℕ → Bool) (xs : List ℕ) → ((c : ℕ) → Has xs c → t c ≡ true) → list_all t xs ≡ true
all_true t [] h = refl
all_true t (x ∷ xs) h = both_and (t x) (list_all t xs) (h x (inl refl)) (all_true t xs (λ c k. h c (inr k)))

pub true_all : (t : ℕ → Bool) (xs : List ℕ) → list_all t xs ≡ true → (c : ℕ) → Has xs c → t c ≡ true
true_all t [] h c k = absurd k
true_all t (x ∷ xs) h c k =
    let both = and_both (t x) (list_all t xs) h in
    elim k as (λ _. t c ≡ true) [ inl e ↦ subst (λ y. t y ≡ true) e both.0 | inr m ↦ true_all t xs both.1 c m ]

module _ (beside : ℕ → Near → Bool) where
  spread_at : (xs : List Near) (i : ℕ) (d z : Near) → IsSpread beside xs → i < length xs → Has (take i xs) z → beside z.id (get_or xs i d) ≡ true
  spread_at [] i d z s h k = absurd (omega arith)
  spread_at (x ∷ xs) zero d z s h k = absurd k
  spread_at (x ∷ xs) (suc i) d z s h k =
      elim k as (λ _. beside z.id (get_or xs i d) ≡ true) [
        | inl e ↦ subst (λ (y : Near). beside y.id (get_or xs i d) ≡ true) e (s.0 (get_or xs i d) (get_has xs i d (omega arith)))
        | inr m ↦ spread_at xs i d z s.1 (omega arith) m
      ]

  -- those that leave x beside them anyway need no test
  passes_among : (row fresh : List ℕ) (x : Near) → ((c : ℕ) → Has fresh c → Has row c) → ((c : ℕ) → Has row c → Has fresh c ⊎ (beside c x ≡ true)) → passes beside row x ≡ passes beside fresh x
  passes_among row fresh x within split =
      same_bool (passes beside row x) (passes beside fresh x)
      (λ h. all_true (λ c. beside c x) fresh (λ c m. true_all (λ c. beside c x) row h c (within c m)))
      (λ h. all_true (λ c. beside c x) row (λ c m. elim (split c m) as (λ _. beside c x ≡ true) [ inl k ↦ true_all (λ c. beside c x) fresh h c k | inr e ↦ e ]))

  goes_no : (r len : ℕ) (out : List ℕ) (left rest : List Near) (x : Near) (all : List ℕ) → left ≡ x ∷ rest → passes beside (take len out) x ≡ false
      → take len out ++ to_come beside (r - len) (take len out) left ≡ all → take len out ++ to_come beside (r - len) (take len out) rest ≡ all
  goes_no r len out left rest x all e h k =
      ap (λ zs. take len out ++ zs) (sym (step_no beside (r - len) (take len out) x rest h) ∙ ap (to_come beside (r - len) (take len out)) (sym e)) ∙ k

  goes_yes : (r len : ℕ) (out : List ℕ) (left rest : List Near) (x : Near) (all : List ℕ) → left ≡ x ∷ rest → passes beside (take len out) x ≡ true → len < r → len < length out
      → take len out ++ to_come beside (r - len) (take len out) left ≡ all
      → take (len + 1) (set out len x.id) ++ to_come beside (r - (len + 1)) (take (len + 1) (set out len x.id)) rest ≡ all
  goes_yes r len out left rest x all e h room fits k =
      let row = take len out in
      let more : take (len + 1) (set out len x.id) ≡ row ++ x.id ∷ [] = take_more_set out len x.id fits in
      let still : r - len ≡ suc (r - (len + 1)) = omega arith in
      ap (λ zs. zs ++ to_come beside (r - (len + 1)) zs rest) more
      ∙ append_assoc row (x.id ∷ []) (to_come beside (r - (len + 1)) (row ++ x.id ∷ []) rest)
      ∙ ap (λ zs. row ++ zs) (sym (step_yes beside (r - (len + 1)) row x rest h) ∙ ap (λ n. to_come beside n row (x ∷ rest)) (sym still) ∙ ap (to_come beside (r - len) row) (sym e))
      ∙ k

  -- what is kept is of the others that are kept, or of the settled ones so far
  pub record IsAmong (r : ℕ) (settled others now : List Near) (out : List ℕ) (i j fresh len : ℕ) : Type 0 where
    pub so_far : take len out ++ to_come beside (r - len) (take len out) (ordered near_cmp (drop i settled ++ drop j others)) ≡ ids_of (kept beside r (ordered near_cmp (settled ++ others)))
    pub left : drop j now ≡ drop j others
    pub same : length now ≡ length others
    pub bound : len ≤ r
    pub few : fresh ≤ j
    pub first_bound : i ≤ length settled
    pub other_bound : j ≤ length others
    pub within : (z : Near) → Has (take fresh now) z → Has (take len out) z.id
    pub split : (c : ℕ) → Has (take len out) c → ((z : Near) × Has (take fresh now) z × (z.id ≡ c)) ⊎ ((z : Near) × Has (take i settled) z × (z.id ≡ c))

  pub among_none : (r : ℕ) (settled others : List Near) (out : List ℕ) → IsAmong r settled others others out 0 0 0 0
  among_none r settled others out = record {
    so_far = let e : r - 0 ≡ r = omega arith in
        let all = ordered near_cmp (settled ++ others) in
        ap (λ n. ids_of (kept beside n (filter (λ _. true) all))) e ∙ ap (λ ys. ids_of (kept beside r ys)) (filter-all all);
    left = refl;
    same = refl;
    bound = omega arith;
    few = omega arith;
    first_bound = omega arith;
    other_bound = omega arith;
    within = λ z h. absurd h;
    split = λ c h. absurd h;
  }

  module _ (r : ℕ) (settled others now : List Near) (out : List ℕ) (i j fresh len : ℕ) (d : Near) (up : Rises near_cmp settled) (higher : Rises near_cmp others) (spread : IsSpread beside settled) (distinct : (z : Near) → Has settled z → Has others z → ⊥) (k : IsAmong r settled others now out i j fresh len) where
    -- a settled one is tested against the others that are kept
    pub settled_test : i < length settled → passes beside (take len out) (get_or settled i d) ≡ passes beside (ids_of (take fresh now)) (get_or settled i d)
    settled_test within =
        let x = get_or settled i d in
        passes_among (take len out) (ids_of (take fresh now)) x
        (λ c h. let from = has-map (λ (y : Near). y.id) (take fresh now) c h in subst (Has (take len out)) from.2 (k.within from.0 from.1))
        (λ c h. elim (k.split c h) as (λ _. Has (ids_of (take fresh now)) c ⊎ (beside c x ≡ true)) [
          | inl from ↦ inl (subst (Has (ids_of (take fresh now))) from.2 (has-mapped (λ (y : Near). y.id) (take fresh now) from.0 from.1))
          | inr from ↦ inr (subst (λ c. beside c x ≡ true) from.2 (spread_at settled i d from.0 spread within from.1))
        ])

    take_next : (xs : List Near) (m : ℕ) → take (suc m) xs ≡ take (m + 1) xs
    take_next xs m = let next : suc m ≡ m + 1 = omega arith in ap (λ n. take n xs) next

    on_settled : (c : ℕ) → ((z : Near) × Has (take fresh now) z × (z.id ≡ c)) ⊎ ((z : Near) × Has (take i settled) z × (z.id ≡ c)) → ((z : Near) × Has (take fresh now) z × (z.id ≡ c)) ⊎ ((z : Near) × Has (take (i + 1) settled) z × (z.id ≡ c))
    on_settled c h =
        elim h as (λ _. ((z : Near) × Has (take fresh now) z × (z.id ≡ c)) ⊎ ((z : Near) × Has (take (i + 1) settled) z × (z.id ≡ c))) [
          | inl m ↦ inl m
          | inr m ↦ inr (m.0, subst (λ (xs : List Near). Has xs m.0) (take_next settled i) (take_on settled i m.0 m.1), m.2)
        ]

    other_at : j < length now → j < length others
    other_at far = subst (λ m. j < m) k.same far

    -- the next of the others, and what comes behind it, are as they were
    as_before : j < length others → (get_or now j d ∷ drop (j + 1) now) ≡ (get_or others j d ∷ drop (j + 1) others)
    as_before within =
        let far : j < length now = rw k.same within in
        sym (drop_more now j d far) ∙ k.left ∙ drop_more others j d within

    still_there : j < length others → get_or now j d ≡ get_or others j d
    still_there within = ap (λ (xs : List Near). get_or xs 0 d) (as_before within)

    next_left : j < length now → drop (j + 1) now ≡ drop (j + 1) others
    next_left far = ap (drop 1) (as_before (other_at far))

    next_first : (j < length now → is_lt (near_cmp (get_or settled i d) (get_or now j d)) ≡ true) → j < length others → near_cmp (get_or settled i d) (get_or others j d) ≡ Less
    next_first before h = is_less _ (subst (λ (y : Near). is_lt (near_cmp (get_or settled i d) y) ≡ true) (still_there h) (before (rw k.same h)))

    pub settled_no : i < length settled → (j < length now → is_lt (near_cmp (get_or settled i d) (get_or now j d)) ≡ true) → passes beside (ids_of (take fresh now)) (get_or settled i d) ≡ false → IsAmong r settled others now out (i + 1) j fresh len
    settled_no within before h = record {
      so_far = goes_no r len out _ _ (get_or settled i d) _ (next_settled settled others up higher d i j within (next_first before)) (settled_test within ∙ h) k.so_far;
      left = k.left;
      same = k.same;
      bound = k.bound;
      few = k.few;
      first_bound = omega arith;
      other_bound = k.other_bound;
      within = k.within;
      split = λ c m. on_settled c (k.split c m);
    }

    pub settled_yes : i < length settled → (j < length now → is_lt (near_cmp (get_or settled i d) (get_or now j d)) ≡ true) → passes beside (ids_of (take fresh now)) (get_or settled i d) ≡ true → len < r → len < length out
        → IsAmong r settled others now (set out len (get_or settled i d).id) (i + 1) j fresh (len + 1)
    settled_yes within before h room fits =
        let x = get_or settled i d in
        let more : take (len + 1) (set out len x.id) ≡ take len out ++ x.id ∷ [] = take_more_set out len x.id fits in
        record {
          so_far = goes_yes r len out _ _ x _ (next_settled settled others up higher d i j within (next_first before)) (settled_test within ∙ h) room fits k.so_far;
          left = k.left;
          same = k.same;
          bound = omega arith;
          few = k.few;
          first_bound = omega arith;
          other_bound = k.other_bound;
          within = λ z m. subst (λ (xs : List ℕ). Has xs z.id) (sym more) (append-has (take len out) (x.id ∷ []) z.id (inl (k.within z m)));
          split = λ c m. elim (has-push (take len out) x.id c (subst (λ (xs : List ℕ). Has xs c) more m)) as (λ _. ((z : Near) × Has (take fresh now) z × (z.id ≡ c)) ⊎ ((z : Near) × Has (take (i + 1) settled) z × (z.id ≡ c))) [
            | inl m ↦ on_settled c (k.split c m)
            | inr e ↦ inr (x, subst (λ (xs : List Near). Has xs x) (take_next settled i) (take_here settled i d within), e)
          ];
        }

    next_there : j < length now → (i < length settled → is_lt (near_cmp (get_or settled i d) (get_or now j d)) ≡ false) → ordered near_cmp (drop i settled ++ drop j others) ≡ get_or now j d ∷ ordered near_cmp (drop i settled ++ drop (j + 1) others)
    next_there far behind =
        let at = other_at far in
        let same = still_there at in
        let x = get_or settled i d in
        next_other settled others up higher d i j at
        (λ h. not_less x (get_or others j d) (subst (λ (z : Near). is_lt (near_cmp x z) ≡ false) same (behind h))
        (λ e. distinct x (get_has settled i d h) (subst (Has others) (sym e) (get_has others j d at))))
        ∙ ap (λ (z : Near). z ∷ ordered near_cmp (drop i settled ++ drop (j + 1) others)) (sym same)

    pub other_no : j < length now → (i < length settled → is_lt (near_cmp (get_or settled i d) (get_or now j d)) ≡ false) → passes beside (take len out) (get_or now j d) ≡ false → IsAmong r settled others now out i (j + 1) fresh len
    other_no far behind h = record {
      so_far = goes_no r len out _ _ (get_or now j d) _ (next_there far behind) h k.so_far;
      left = next_left far;
      same = k.same;
      bound = k.bound;
      few = let few = k.few in omega (arith, few);
      first_bound = k.first_bound;
      other_bound = let at = other_at far in omega arith;
      within = k.within;
      split = k.split;
    }

    pub other_yes : j < length now → (i < length settled → is_lt (near_cmp (get_or settled i d) (get_or now j d)) ≡ false) → passes beside (take len out) (get_or now j d) ≡ true → len < r → len < length out
        → IsAmong r settled others (set now fresh (get_or now j d)) (set out len (get_or now j d).id) i (j + 1) (fresh + 1) (len + 1)
    other_yes far behind h room fits =
        let y = get_or now j d in
        let few = k.few in
        let more : take (len + 1) (set out len y.id) ≡ take len out ++ y.id ∷ [] = take_more_set out len y.id fits in
        let front : fresh < length now = omega (arith, few, far) in
        let kept_more : take (fresh + 1) (set now fresh y) ≡ take fresh now ++ y ∷ [] = take_more_set now fresh y front in
        record {
          so_far = goes_yes r len out _ _ y _ (next_there far behind) h room fits k.so_far;
          left = drop-set-lt (j + 1) now fresh y (omega (arith, few)) ∙ next_left far;
          same = length-set now fresh y ∙ k.same;
          bound = omega arith;
          few = omega (arith, few);
          first_bound = k.first_bound;
          other_bound = let at = other_at far in omega arith;
          within = λ z m. subst (λ (xs : List ℕ). Has xs z.id) (sym more) (append-has (take len out) (y.id ∷ []) z.id
              (elim (has-push (take fresh now) y z (subst (λ (xs : List Near). Has xs z) kept_more m)) as (λ _. Has (take len out) z.id ⊎ Has (y.id ∷ []) z.id) [ inl m ↦ inl (k.within z m) | inr e ↦ inr (inl (ap (λ (w : Near). w.id) e)) ]));
          split = λ c m. elim (has-push (take len out) y.id c (subst (λ (xs : List ℕ). Has xs c) more m)) as (λ _. ((z : Near) × Has (take (fresh + 1) (set now fresh y)) z × (z.id ≡ c)) ⊎ ((z : Near) × Has (take i settled) z × (z.id ≡ c))) [
            | inl m ↦ elim (k.split c m) as (λ _. ((z : Near) × Has (take (fresh + 1) (set now fresh y)) z × (z.id ≡ c)) ⊎ ((z : Near) × Has (take i settled) z × (z.id ≡ c))) [
              | inl m ↦ inl (m.0, subst (λ (xs : List Near). Has xs m.0) (sym kept_more) (append-has (take fresh now) (y ∷ []) m.0 (inl m.1)), m.2)
              | inr m ↦ inr m
            ]
            | inr e ↦ inl (y, subst (λ (xs : List Near). Has xs y) (sym kept_more) (append-has (take fresh now) (y ∷ []) y (inr (inl refl))), e)
          ];
        }

    -- where the row is full, or nothing is left
    pub among_full : r ≤ len → take len out ≡ ids_of (kept beside r (ordered near_cmp (settled ++ others)))
    among_full full =
        let bound = k.bound in
        let none : r - len ≡ 0 = omega (arith, bound) in
        sym (ap (λ n. take len out ++ to_come beside n (take len out) (ordered near_cmp (drop i settled ++ drop j others))) none ∙ append-nil beside (take len out)) ∙ k.so_far

    pub among_all : length settled ≤ i → length others ≤ j → take len out ≡ ids_of (kept beside r (ordered near_cmp (settled ++ others)))
    among_all first other =
        sym (ap (λ (xs : List Near). take len out ++ to_come beside (r - len) (take len out) (ordered near_cmp xs)) (λ n. drop_all i settled first n ++ drop_all j others other n)
        ∙ ap (λ zs. take len out ++ zs) (kept-nil beside (r - len)) ∙ append-nil beside (take len out)) ∙ k.so_far
