-- The loop that keeps candidates.
use Rattle.std.proofs.Common.{◌≡◌, ℕ, zero, suc, ◌+◌, ◌-◌, ◌<◌, ◌≤◌, Bool, true, false, cond, List, [], ◌∷◌, ◌++◌, take, drop, set, length, get_or, refl, sym, ap, ◌∙◌, arith, append_assoc}
use Rattle.std.specs.Prelude.{◌&&◌}
use Rattle.std.specs.List.{filter, list_all}
use Rattle.std.proofs.lemmas.List.{drop_more, drop_all, take_more_set}
use Rattle.std.proofs.lemmas.List.Elements.{filter_agree}
use Rattle.ann_defs.specs.declared.near.Near.{Near}
use Rattle.ann_defs.specs.Nearness.{ids_of}
use Rattle.ann_defs.specs.RobustPrune.{kept}

pub filter-all : (xs : List Near) → filter (λ _. true) xs ≡ xs
filter-all [] = refl
filter-all (x ∷ xs) = ap (λ ys. x ∷ ys) (filter-all xs)

filter-filter : (p q : Near → Bool) (xs : List Near) → filter q (filter p xs) ≡ filter (λ x. p x && q x) xs
filter-filter p q [] = refl
filter-filter p q (x ∷ xs) =
    elim (p x) as (λ b. filter q (cond b (x ∷ filter p xs) (filter p xs)) ≡ cond (b && q x) (x ∷ filter (λ x. p x && q x) xs) (filter (λ x. p x && q x) xs)) [
      | true ↦ ap (λ ys. cond (q x) (x ∷ ys) ys) (filter-filter p q xs)
      | false ↦ filter-filter p q xs
    ]

pub list_all-push : (t : ℕ → Bool) (xs : List ℕ) (y : ℕ) → list_all t (xs ++ y ∷ []) ≡ (list_all t xs && t y)
list_all-push t [] y = elim (t y) as (λ b. (b && true) ≡ b) [ true ↦ refl | false ↦ refl ]
list_all-push t (x ∷ xs) y = elim (t x) as (λ b. (b && list_all t (xs ++ y ∷ [])) ≡ ((b && list_all t xs) && t y)) [ true ↦ list_all-push t xs y | false ↦ refl ]

module _ (beside : ℕ → Near → Bool) where
  -- whether x stays beside each of the row
  abbrev pub passes : List ℕ → Near → Bool
  passes row x = list_all (λ c. beside c x) row

  -- what is still to come, when the row is kept and ys are left
  abbrev pub to_come : ℕ → List ℕ → List Near → List ℕ
  to_come r row ys = ids_of (kept beside r (filter (passes row) ys))

  pub record IsKeeping (r : ℕ) (cands : List Near) (out : List ℕ) (i len : ℕ) : Type 0 where
    pub so_far : take len out ++ to_come (r - len) (take len out) (drop i cands) ≡ ids_of (kept beside r cands)
    pub bound : len ≤ r

  pub kept-nil : (r : ℕ) → ids_of (kept beside r []) ≡ []
  kept-nil zero = refl
  kept-nil (suc r) = refl

  pub keeping_none : (r : ℕ) (cands : List Near) (out : List ℕ) → IsKeeping r cands out 0 0
  keeping_none r cands out = record {
    so_far = let e : r - 0 ≡ r = omega arith in
        ap (λ n. ids_of (kept beside n (filter (λ _. true) cands))) e ∙ ap (λ ys. ids_of (kept beside r ys)) (filter-all cands);
    bound = omega arith;
  }

  pub step_no : (r : ℕ) (row : List ℕ) (x : Near) (ys : List Near) → passes row x ≡ false → to_come r row (x ∷ ys) ≡ to_come r row ys
  step_no r row x ys h = ap (λ b. ids_of (kept beside r (cond b (x ∷ filter (passes row) ys) (filter (passes row) ys)))) h

  pub step_yes : (r : ℕ) (row : List ℕ) (x : Near) (ys : List Near) → passes row x ≡ true → to_come (suc r) row (x ∷ ys) ≡ x.id ∷ to_come r (row ++ x.id ∷ []) ys
  step_yes r row x ys h =
      ap (λ b. ids_of (kept beside (suc r) (cond b (x ∷ filter (passes row) ys) (filter (passes row) ys)))) h
      ∙ ap (λ zs. x.id ∷ ids_of (kept beside r zs)) (filter-filter (passes row) (beside x.id) ys ∙ filter_agree _ _ (λ y. sym (list_all-push (λ c. beside c y) row x.id)) ys)

  pub keeping_no : {r : ℕ} {cands : List Near} {out : List ℕ} {i len : ℕ} (d : Near) → IsKeeping r cands out i len → i < length cands → passes (take len out) (get_or cands i d) ≡ false → IsKeeping r cands out (i + 1) len
  keeping_no {r} {cands} {out} {i} {len} d k within h = record {
    so_far =
        let x = get_or cands i d in
        let split : drop i cands ≡ x ∷ drop (i + 1) cands = drop_more cands i d within in
        ap (λ zs. take len out ++ zs) (sym (step_no (r - len) (take len out) x (drop (i + 1) cands) h) ∙ ap (to_come (r - len) (take len out)) (sym split)) ∙ k.so_far;
    bound = k.bound;
  }

  pub keeping_yes : {r : ℕ} {cands : List Near} {out : List ℕ} {i len : ℕ} (d : Near) → IsKeeping r cands out i len → i < length cands → passes (take len out) (get_or cands i d) ≡ true → len < r → len < length out → IsKeeping r cands (set out len (get_or cands i d).id) (i + 1) (len + 1)
  keeping_yes {r} {cands} {out} {i} {len} d k within h room fits = record {
    so_far =
        let x = get_or cands i d in
        let row = take len out in
        let row' : take (len + 1) (set out len x.id) ≡ row ++ x.id ∷ [] = take_more_set out len x.id fits in
        let split : drop i cands ≡ x ∷ drop (i + 1) cands = drop_more cands i d within in
        let left : r - len ≡ suc (r - (len + 1)) = omega arith in
        ap (λ zs. zs ++ to_come (r - (len + 1)) zs (drop (i + 1) cands)) row'
        ∙ append_assoc row (x.id ∷ []) (to_come (r - (len + 1)) (row ++ x.id ∷ []) (drop (i + 1) cands))
        ∙ ap (λ zs. row ++ zs) (sym (step_yes (r - (len + 1)) row x (drop (i + 1) cands) h) ∙ ap (λ n. to_come n row (x ∷ drop (i + 1) cands)) (sym left) ∙ ap (to_come (r - len) row) (sym split))
        ∙ k.so_far;
    bound = omega arith;
  }

  pub append-nil : (xs : List ℕ) → xs ++ [] ≡ xs
  append-nil [] = refl
  append-nil (x ∷ xs) = ap (λ ys. x ∷ ys) (append-nil xs)

  pub keeping_all : {r : ℕ} {cands : List Near} {out : List ℕ} {i len : ℕ} → IsKeeping r cands out i len → length cands ≤ i → take len out ≡ ids_of (kept beside r cands)
  keeping_all {r} {cands} {out} {i} {len} k done =
      sym (ap (λ zs. take len out ++ to_come (r - len) (take len out) zs) (drop_all i cands done) ∙ ap (λ zs. take len out ++ zs) (kept-nil (r - len)) ∙ append-nil (take len out)) ∙ k.so_far
