-- One more in its place in a list in order.
use Rattle.std.proofs.Common.{◌≡◌, ℕ, zero, suc, ◌+◌, ◌-◌, ◌<◌, ◌≤◌, Bool, true, false, List, [], ◌∷◌, ◌++◌, take, drop, set, length, get_or, min, refl, sym, ap, ◌∙◌, subst, inl, inr, arith, append_assoc, take-add}
use Rattle.std.specs.Prelude.{◌⊎◌, ◌==◌, ◌&&◌, ◌||◌}
use Rattle.std.specs.declared.cmp.Ordering.{Ordering}
use Rattle.std.specs.declared.cmp.Ordering.TheVariants.{Less, Equal, Greater}
use Rattle.std.specs.Ordering.{match_ordering, ordering_index, ordering_reverse, is_lt}
use Rattle.std.specs.List.Sorted.{IsNonDecreasingBy}
use Rattle.std.proofs.lemmas.Bool.{cases_lt, eqb-true, eq-eqb, or_cases}
use Rattle.std.proofs.lemmas.List.{take_more_set, take_all, take-take, take-append-le, drop-set-lt, drop-take, length-take, length-take-le, length-drop, length-append, get_or-take, get_or_default}
use Rattle.std.proofs.Math.Seq.{take-append-add, drop-append_seam, take-append_seam, paste}
use Rattle.ann_defs.specs.declared.near.Near.{Near}
use Rattle.ann_defs.specs.Ordered.{Has, put, Rises}
use Rattle.ann_defs.specs.Nearness.{near_cmp}
use Rattle.ann_defs.proofs.Order.{below_has, same_rising, Rises-put, put_has, has_put_old}
use Rattle.ann_defs.proofs.Members.{and_both, both_and}
use Rattle.ann_defs.proofs.NearOrder.{near_order}

pub has_get_or : {K : Type 0} (xs : List K) (i : ℕ) (d : K) → i < length xs → Has xs (get_or xs i d)
has_get_or [] i d h = absurd (omega arith)
has_get_or (x ∷ xs) zero d h = inl refl
has_get_or (x ∷ xs) (suc i) d h = inr (has_get_or xs i d (omega arith))

or-left : (a b : Bool) → a ≡ true → (a || b) ≡ true
or-left true b e = refl
or-left false b e = cc

or-right : (a b : Bool) → b ≡ true → (a || b) ≡ true
or-right true b e = refl
or-right false b e = e

no_both : (b : Bool) → b ≡ true → b ≡ false → ⊥
no_both true e f = cc
no_both false e f = cc

-- the order, turned
turned : (a b : Near) → near_cmp a b ≡ Less → near_cmp b a ≡ Greater
turned a b e = near_order.total.antisymm b a ∙ ap ordering_reverse e

turned_back : (a b : Near) → near_cmp a b ≡ Greater → near_cmp b a ≡ Less
turned_back a b e = near_order.total.antisymm b a ∙ ap ordering_reverse e

-- of two places in a list in order
pub rises_at : (ys : List Near) (i j : ℕ) (d : Near) → Rises near_cmp ys → i < j → j < length ys → near_cmp (get_or ys i d) (get_or ys j d) ≡ Less
rises_at [] i j d h lt k = absurd (omega arith)
rises_at (y ∷ ys) i zero d h lt k = absurd (omega arith)
rises_at (y ∷ ys) zero (suc j) d h lt k = below_has near_cmp near_order y (get_or ys j d) ys h.0 (has_get_or ys j d (omega arith))
rises_at (y ∷ ys) (suc i) (suc j) d h lt k = rises_at ys i j d h.1 (omega arith) (omega arith)

at_most_two : (o : Ordering) → ordering_index o ≤ 2
at_most_two Less = omega arith
at_most_two Equal = omega arith
at_most_two Greater = omega arith

-- how they compare with x never falls
pub rises_by : (ys : List Near) (x : Near) → Rises near_cmp ys → IsNonDecreasingBy (λ y. ordering_index (near_cmp y x)) ys
rises_by ys x h i j d le lt =
    elim (near_cmp (get_or ys j d) x) as (λ r. near_cmp (get_or ys j d) x ≡ r → ordering_index (near_cmp (get_or ys i d) x) ≤ ordering_index r) [
      | Less ↦ λ e. before e
      | Equal ↦ λ e. same e
      | Greater ↦ λ _. at_most_two (near_cmp (get_or ys i d) x)
    ] refl
  where
    apart : (i < j) ⊎ (j ≤ i) → near_cmp (get_or ys j d) x ≡ Less → near_cmp (get_or ys i d) x ≡ Less
    apart (inl less) e = near_order.total.trans (get_or ys i d) (get_or ys j d) x (rises_at ys i j d h less lt) e
    apart (inr more) e = let same : j ≡ i = omega arith in subst (λ k. near_cmp (get_or ys k d) x ≡ Less) same e

    before : near_cmp (get_or ys j d) x ≡ Less → ordering_index (near_cmp (get_or ys i d) x) ≤ 0
    before e = subst (λ r. ordering_index r ≤ 0) (sym (apart (cases_lt i j) e)) (omega arith)

    same_by : (i < j) ⊎ (j ≤ i) → near_cmp (get_or ys j d) x ≡ Equal → ordering_index (near_cmp (get_or ys i d) x) ≤ 1
    same_by (inl less) e =
        let here : near_cmp (get_or ys i d) x ≡ Less = subst (λ (y : Near). near_cmp (get_or ys i d) y ≡ Less) (near_order.exact (get_or ys j d) x e) (rises_at ys i j d h less lt) in
        subst (λ r. ordering_index r ≤ 1) (sym here) (omega arith)
    same_by (inr more) e =
        let same : j ≡ i = omega arith in
        subst (λ r. ordering_index r ≤ 1) (sym (subst (λ k. near_cmp (get_or ys k d) x ≡ Equal) same e)) (omega arith)

    same : near_cmp (get_or ys j d) x ≡ Equal → ordering_index (near_cmp (get_or ys i d) x) ≤ 1
    same e = same_by (cases_lt i j) e

-- between those before it and those after it
pub put_at : (ys : List Near) (at : ℕ) (x : Near) → ((k : ℕ) (d : Near) → k < at → near_cmp (get_or ys k d) x ≡ Less) → ((d : Near) → at < length ys → near_cmp (get_or ys at d) x ≡ Greater) → at ≤ length ys → put near_cmp ys x ≡ take at ys ++ x ∷ drop at ys
put_at [] zero x f g h = refl
put_at [] (suc at) x f g h = absurd (omega arith)
put_at (y ∷ ys) zero x f g h = ap (λ r. match_ordering r (x ∷ y ∷ ys) (y ∷ ys) (y ∷ put near_cmp ys x)) (turned_back y x (g y (omega arith)))
put_at (y ∷ ys) (suc at) x f g h =
    ap (λ r. match_ordering r (x ∷ y ∷ ys) (y ∷ ys) (y ∷ put near_cmp ys x)) (turned y x (f 0 y (omega arith)))
    ∙ ap (λ zs. y ∷ zs) (put_at ys at x (λ k d lt. f (suc k) d (omega arith)) (λ d lt. g d (omega arith)) (omega arith))

-- what is there already
pub put_there : (ys : List Near) (x : Near) → Rises near_cmp ys → Has ys x → put near_cmp ys x ≡ ys
put_there ys x h m = same_rising near_cmp near_order (put near_cmp ys x) ys (Rises-put near_cmp near_order ys x h) h
    (λ z k. elim (put_has near_cmp ys x z k) as (λ _. Has ys z) [ inl e ↦ subst (Has ys) e m | inr n ↦ n ])
    (λ z k. has_put_old near_cmp ys x z k)

-- behind a full list
pub put_behind : (ys : List Near) (x : Near) (limit : ℕ) → length ys ≡ limit → Rises near_cmp ys → ((d : Near) → 0 < length ys → near_cmp (get_or ys (length ys - 1) d) x ≡ Less) → ys ≡ take limit (put near_cmp ys x)
put_behind ys x limit e h last =
    let all : (k : ℕ) (d : Near) → k < length ys → near_cmp (get_or ys k d) x ≡ Less = λ k d lt. by_place k d lt (cases_lt k (length ys - 1)) in
    let put_is : put near_cmp ys x ≡ take (length ys) ys ++ x ∷ drop (length ys) ys = put_at ys (length ys) x all (λ d lt. absurd (omega arith)) (omega arith) in
    let whole : take (length ys) ys ≡ ys = take_all (length ys) ys (omega arith) in
    sym (ap (take limit) (put_is ∙ ap (λ zs. zs ++ x ∷ drop (length ys) ys) whole) ∙ ap (λ n. take n (ys ++ x ∷ drop (length ys) ys)) (sym e) ∙ take-append_seam ys (x ∷ drop (length ys) ys))
  where
    by_place : (k : ℕ) (d : Near) → k < length ys → (k < length ys - 1) ⊎ (length ys - 1 ≤ k) → near_cmp (get_or ys k d) x ≡ Less
    by_place k d lt (inl less) = near_order.total.trans (get_or ys k d) (get_or ys (length ys - 1) d) x (rises_at ys k (length ys - 1) d h less (omega arith)) (last d (omega arith))
    by_place k d lt (inr more) = let here : length ys - 1 ≡ k = omega arith in subst (λ m. near_cmp (get_or ys m d) x ≡ Less) here (last d (omega arith))

pub less_if : (o : Ordering) → is_lt o ≡ true → o ≡ Less
less_if Less e = refl
less_if Equal e = cc
less_if Greater e = cc

-- whether a list is full of entries before x
abbrev pub full_before : ℕ → ℕ → List Near → Near → Bool
full_before len limit xs x = len == limit && (len == 0 || is_lt (near_cmp (get_or xs (len - 1) x) x))

-- then x is turned away
pub turned_away : (len limit : ℕ) (xs : List Near) (x : Near) → len ≤ limit → limit ≤ length xs → Rises near_cmp (take len xs) → full_before len limit xs x ≡ true → take len xs ≡ take limit (put near_cmp (take len xs) x)
turned_away len limit xs x a b h t =
    let parts = and_both (len == limit) (len == 0 || is_lt (near_cmp (get_or xs (len - 1) x) x)) t in
    let same : len ≡ limit = eqb-true len limit parts.0 in
    let long : length (take len xs) ≡ len = length-take-le len xs (omega arith) in
    put_behind (take len xs) x limit (long ∙ same) h (λ d lt.
    elim (or_cases (len == 0) (is_lt (near_cmp (get_or xs (len - 1) x) x)) parts.1) as (λ _. near_cmp (get_or (take len xs) (length (take len xs) - 1) d) x ≡ Less) [
      | inl e ↦ let none : len ≡ 0 = eqb-true len 0 e in absurd (omega arith)
      | inr e ↦
          let at : length (take len xs) - 1 ≡ len - 1 = omega arith in
          let here : get_or (take len xs) (length (take len xs) - 1) d ≡ get_or xs (len - 1) x = ap (λ k. get_or (take len xs) k d) at ∙ get_or-take len xs (len - 1) d (omega arith) ∙ get_or_default xs (len - 1) d x (omega arith) in
          subst (λ (y : Near). near_cmp y x ≡ Less) (sym here) (less_if (near_cmp (get_or xs (len - 1) x) x) e)
    ])

-- else there is a place for x
pub has_place : (len limit at : ℕ) (xs : List Near) (x : Near) → len ≤ limit → limit ≤ length xs → at ≤ len → full_before len limit xs x ≡ false → ((k : ℕ) (d : Near) → k < at → near_cmp (get_or (take len xs) k d) x ≡ Less) → at < limit
has_place len limit at xs x a b c f all = by_place (cases_lt at limit)
  where
    by_last : (0 < len) ⊎ (len ≤ 0) → at ≡ len → (len == 0 || is_lt (near_cmp (get_or xs (len - 1) x) x)) ≡ true
    by_last (inl some) e =
        let here : get_or (take len xs) (len - 1) x ≡ get_or xs (len - 1) x = get_or-take len xs (len - 1) x (omega arith) in
        let less : near_cmp (get_or xs (len - 1) x) x ≡ Less = subst (λ (y : Near). near_cmp y x ≡ Less) here (all (len - 1) x (omega arith)) in
        or-right (len == 0) (is_lt (near_cmp (get_or xs (len - 1) x) x)) (ap is_lt less)
    by_last (inr none) e = let zero_is : len ≡ 0 = omega arith in or-left (len == 0) (is_lt (near_cmp (get_or xs (len - 1) x) x)) (eq-eqb len 0 zero_is)

    by_place : (at < limit) ⊎ (limit ≤ at) → at < limit
    by_place (inl less) = less
    by_place (inr more) =
        let full : len ≡ limit = omega arith in
        let all_before = by_last (cases_lt 0 len) (omega arith) in
        absurd (no_both (full_before len limit xs x) (both_and (len == limit) (len == 0 || is_lt (near_cmp (get_or xs (len - 1) x) x)) (eq-eqb len limit full) all_before) f)

-- an entry is written where those behind have moved up by one
module _ (len limit at : ℕ) (xs : List Near) (x : Near) (a : limit ≤ length xs) (b : len ≤ limit) (c : at ≤ len) (d : at < limit) where
  abbrev n : ℕ
  n = min limit (len + 1) - 1 - at

  abbrev rest : List Near
  rest = take n (drop at xs) ++ drop (at + 1 + n) xs

  abbrev moved : List Near
  moved = take (at + 1) xs ++ rest

  front_long : length (take (at + 1) xs) ≡ at + 1
  front_long = length-take-le (at + 1) xs (omega arith)

  fits : at < length moved
  fits = let e : length moved ≡ length (take (at + 1) xs) + length rest = length-append (take (at + 1) xs) rest in let f = front_long in omega arith

  front : take (at + 1) (set moved at x) ≡ take at xs ++ x ∷ []
  front =
      let f = front_long in
      take_more_set moved at x fits ∙ ap (λ zs. zs ++ x ∷ []) (take-append-le at (take (at + 1) xs) rest (omega arith) ∙ take-take at (at + 1) xs (omega arith))

  behind : take n (drop (at + 1) (set moved at x)) ≡ take n (drop at xs)
  behind =
      let room : length (drop at xs) ≡ length xs - at = length-drop at xs in
      let long : length (take n (drop at xs)) ≡ n = length-take-le n (drop at xs) (omega arith) in
      ap (take n) (drop-set-lt (at + 1) moved at x (omega arith) ∙ ap (λ k. drop k moved) (sym front_long) ∙ drop-append_seam (take (at + 1) xs) rest)
      ∙ take-append-le n (take n (drop at xs)) (drop (at + 1 + n) xs) (omega arith)
      ∙ take-take n n (drop at xs) (omega arith)

  left : take (min limit (len + 1)) (set moved at x) ≡ take at xs ++ x ∷ take n (drop at xs)
  left =
      let kept : min limit (len + 1) ≡ at + 1 + n = omega arith in
      ap (λ k. take k (set moved at x)) kept
      ∙ take-add (at + 1) n (set moved at x)
      ∙ ap (λ zs. zs ++ take n (drop (at + 1) (set moved at x))) front
      ∙ ap (λ zs. (take at xs ++ x ∷ []) ++ zs) behind
      ∙ append_assoc (take at xs) (x ∷ []) (take n (drop at xs))

  cut : (len < limit) ⊎ (limit ≤ len) → take (limit - at - 1) (take (len - at) (drop at xs)) ≡ take n (drop at xs)
  cut (inl less) =
      let same : len - at ≡ n = omega arith in
      let short : length (take (len - at) (drop at xs)) ≡ min (len - at) (length (drop at xs)) = length-take (len - at) (drop at xs) in
      take_all (limit - at - 1) (take (len - at) (drop at xs)) (omega arith) ∙ ap (λ k. take k (drop at xs)) same
  cut (inr more) =
      let same : limit - at - 1 ≡ n = omega arith in
      take-take (limit - at - 1) (len - at) (drop at xs) (omega arith) ∙ ap (λ k. take k (drop at xs)) same

  right : take limit (take at xs ++ x ∷ drop at (take len xs)) ≡ take at xs ++ x ∷ take n (drop at xs)
  right =
      let long : length (take at xs) ≡ at = length-take-le at xs (omega arith) in
      let split : limit ≡ length (take at xs) + suc (limit - at - 1) = omega arith in
      let middle : len ≡ at + (len - at) = omega arith in
      ap (λ k. take k (take at xs ++ x ∷ drop at (take len xs))) split
      ∙ take-append-add (take at xs) (x ∷ drop at (take len xs)) (suc (limit - at - 1))
      ∙ ap (λ zs. take at xs ++ x ∷ take (limit - at - 1) zs) (ap (λ k. drop at (take k xs)) middle ∙ drop-take at (len - at) xs)
      ∙ ap (λ zs. take at xs ++ x ∷ zs) (cut (cases_lt len limit))

  pub inserted : take (min limit (len + 1)) (set (paste xs (at + 1) (drop at xs) (min limit (len + 1) - 1 - at)) at x) ≡ take limit (take at xs ++ x ∷ drop at (take len xs))
  inserted = ap (λ zs. take (min limit (len + 1)) (set zs at x)) (append_assoc (take (at + 1) xs) (take n (drop at xs)) (drop (at + 1 + n) xs)) ∙ left ∙ sym right
