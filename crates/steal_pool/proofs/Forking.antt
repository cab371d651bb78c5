-- What holds of the first element and of the others holds of all.
use Rattle.std.proofs.Common.{◌≡◌, ◌∙◌, ℕ, ◌+◌, ◌-◌, ◌<◌, List, [], ◌∷◌, ◌++◌, length, get_or, set, sym, subst, ap, arith, length-append, true, false, refl}
use Rattle.std.specs.Prelude.{nat_lt}
use Rattle.std.proofs.lemmas.Bool.{ltb-true, ltb-false}
use Rattle.std.proofs.lemmas.List.{get_or_append_left, get_or-append-add}
use Rattle.steal_pool.specs.Fork.{AcceptsFrom, ChangesFrom}

front_at : {X : Type 0} (a b : List X) (k : ℕ) (d : X) → k < length a → get_or (a ++ b) k d ≡ get_or a k d
front_at a b k d lt = get_or_append_left a b d k lt

back_at : {X : Type 0} (a b : List X) (k : ℕ) (d : X) → length a ≡ 1 → get_or (a ++ b) (1 + k) d ≡ get_or b k d
back_at a b k d one = ap (λ n. get_or (a ++ b) (n + k) d) (sym one) ∙ get_or-append-add a b k d

module _ {X : Type 0} (P : ℕ → X → Type 0) (base : ℕ) (all a b : List X) (is : all ≡ a ++ b) (one : length a ≡ 1) where
  pub accepts_others : AcceptsFrom P base all → AcceptsFrom P (base + 1) b
  accepts_others each k d lt =
      let at : base + (1 + k) ≡ base + 1 + k = omega arith in
      subst (λ n. P n (get_or b k d)) at (subst (P (base + (1 + k))) (ap (λ l. get_or l (1 + k) d) is ∙ back_at a b k d one) (each (1 + k) d (omega (arith, lt, one, ap length is, length-append a b))))

module _ {X : Type 0} (R : ℕ → X → X → Type 0) (base : ℕ) (all a b c d : List X) (is : all ≡ a ++ b) (one : length a ≡ 1) where
  at_first : ChangesFrom R base a c → (k : ℕ) (e : X) → k < length a → R (base + k) (get_or (a ++ b) k e) (get_or (c ++ d) k e)
  at_first x k e lt = subst (λ u. R (base + k) u (get_or (c ++ d) k e)) (sym (front_at a b k e lt)) (subst (R (base + k) (get_or a k e)) (sym (front_at c d k e (omega (arith, lt, x.len)))) (x.each k e lt))

  at_others : ChangesFrom R base a c → ChangesFrom R (base + 1) b d → (j k : ℕ) (e : X) → k ≡ 1 + j → j < length b → R (base + k) (get_or (a ++ b) k e) (get_or (c ++ d) k e)
  at_others x y j k e here lt =
      let at : base + 1 + j ≡ base + k = omega (arith, here) in
      let before : get_or b j e ≡ get_or (a ++ b) k e = sym (ap (λ n. get_or (a ++ b) n e) here ∙ back_at a b j e one) in
      let after : get_or d j e ≡ get_or (c ++ d) k e = sym (ap (λ n. get_or (c ++ d) n e) here ∙ back_at c d j e (x.len ∙ one)) in
      subst (λ n. R n (get_or (a ++ b) k e) (get_or (c ++ d) k e)) at
      (subst (λ u. R (base + 1 + j) u (get_or (c ++ d) k e)) before (subst (R (base + 1 + j) (get_or b j e)) after (y.each j e lt)))

  pub changes_both : ChangesFrom R base a c → ChangesFrom R (base + 1) b d → ChangesFrom R base all (c ++ d)
  changes_both x y = subst (λ l. ChangesFrom R base l (c ++ d)) (sym is) (record {
    len = omega (arith, x.len, y.len, length-append a b, length-append c d);
    each = λ k e lt. elim (nat_lt k 1) as (λ t. nat_lt k 1 ≡ t → R (base + k) (get_or (a ++ b) k e) (get_or (c ++ d) k e)) [
      | true ↦ λ t. at_first x k e (omega (arith, one, ltb-true k 1 t))
      | false ↦ λ t.
          let ge = ltb-false k 1 t in
          at_others x y (k - 1) k e (omega (arith, ge)) (omega (arith, ge, lt, one, length-append a b))
    ] refl;
  })

-- one element alone
pub changes_only : {X : Type 0} (R : ℕ → X → X → Type 0) (base : ℕ) (xs : List X) (e y : X) → length xs ≡ 1 → R base (get_or xs 0 e) y → ChangesFrom R base xs (set xs 0 y)
changes_only R base [] e y one r = absurd (omega (arith, one))
changes_only R base (x ∷ []) e y one r = record {
  len = refl;
  each = λ k d lt.
      let first : k ≡ 0 = omega (arith, lt) in
      let here : base ≡ base + 0 = omega arith in
      subst (λ n. R (base + n) (get_or (x ∷ []) n d) (get_or (y ∷ []) n d)) (sym first) (subst (λ b. R b x y) here r);
}
changes_only R base (x ∷ z ∷ xs) e y one r = absurd (omega (arith, one))
