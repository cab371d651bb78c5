-- What is gathered, by its marks.
use Rattle.std.proofs.Common.{◌≡◌, ◌≢◌, ℕ, ◌-◌, ◌<◌, ◌≤◌, Bool, true, false, cond, List, [], ◌∷◌, ◌++◌, set, length, refl, sym, ap, ◌∙◌, inl, inr, arith}
use Rattle.std.specs.Prelude.{◌==◌, ◌||◌}
use Rattle.std.specs.List.{list_any}
use Rattle.std.proofs.lemmas.Bool.{cases_eq, eq-eqb, ne_eqb}
use Rattle.std.proofs.lemmas.List.{get_or-set_same, get_or-set_other}
use Rattle.ann_defs.specs.declared.near.Near.{Near}
use Rattle.near_lists.specs.Gathered.{add_once}
use Rattle.near_lists.specs.Marks.{mark_of, AreUpTo, AreTaken}

pub any_push : (t : Near → Bool) (xs : List Near) (y : Near) → list_any t (xs ++ y ∷ []) ≡ (list_any t xs || t y)
any_push t [] y = elim (t y) as (λ b. (b || false) ≡ b) [ true ↦ refl | false ↦ refl ]
any_push t (x ∷ xs) y = elim (t x) as (λ b. (b || list_any t (xs ++ y ∷ [])) ≡ ((b || list_any t xs) || t y)) [ true ↦ refl | false ↦ any_push t xs y ]

or_true : (a b : Bool) → (a || (b || true)) ≡ true
or_true true b = refl
or_true false true = refl
or_true false false = refl

or_false : (a b : Bool) → (a || (b || false)) ≡ (a || b)
or_false true b = refl
or_false false true = refl
or_false false false = refl

-- p alone is marked
pub taken_first : (n stamp p : ℕ) (marks : List ℕ) → 1 ≤ stamp → p < length marks → AreUpTo (stamp - 1) marks → AreTaken n stamp p [] (set marks p stamp)
taken_first n stamp p marks some fits up u lt =
    elim (cases_eq u p) as (λ _. (mark_of (set marks p stamp) u == stamp) ≡ (u == p || false)) [
      | inl e ↦
          eq-eqb (mark_of (set marks p stamp) u) stamp (ap (mark_of (set marks p stamp)) e ∙ get_or-set_same marks p stamp 0 fits)
          ∙ sym (ap (λ b. b || false) (eq-eqb u p e))
      | inr ne ↦
          let same : mark_of (set marks p stamp) u ≡ mark_of marks u = get_or-set_other marks p u stamp 0 ne in
          let low = up u in
          ne_eqb (mark_of (set marks p stamp) u) stamp (λ e. absurd (omega arith)) ∙ sym (ap (λ b. b || false) (ne_eqb u p ne))
    ]

pub up_to_set : (stamp u : ℕ) (marks : List ℕ) → u < length marks → AreUpTo stamp marks → AreUpTo stamp (set marks u stamp)
up_to_set stamp u marks fits up v =
    elim (cases_eq v u) as (λ _. mark_of (set marks u stamp) v ≤ stamp) [
      | inl e ↦ let is : mark_of (set marks u stamp) v ≡ stamp = ap (mark_of (set marks u stamp)) e ∙ get_or-set_same marks u stamp 0 fits in omega arith
      | inr ne ↦ let same : mark_of (set marks u stamp) v ≡ mark_of marks v = get_or-set_other marks u v stamp 0 ne in let low = up v in omega arith
    ]

pub up_to_first : (stamp : ℕ) (marks : List ℕ) → AreUpTo (stamp - 1) marks → AreUpTo stamp marks
up_to_first stamp marks up u = let low = up u in omega arith

module _ (n stamp p : ℕ) (acc : List Near) (marks : List ℕ) (x : Near) (inside : x.id < n) (long : length marks ≡ n) (taken : AreTaken n stamp p acc marks) where
  -- x is there, or is p
  pub taken_there : mark_of marks x.id ≡ stamp → add_once p acc x ≡ acc
  taken_there e = ap (λ b. cond b acc (acc ++ x ∷ [])) (sym (taken x.id inside) ∙ eq-eqb (mark_of marks x.id) stamp e)

  pub taken_new : mark_of marks x.id ≢ stamp → add_once p acc x ≡ acc ++ x ∷ []
  taken_new ne = ap (λ b. cond b acc (acc ++ x ∷ [])) (sym (taken x.id inside) ∙ ne_eqb (mark_of marks x.id) stamp ne)

  pub taken_more : AreTaken n stamp p (acc ++ x ∷ []) (set marks x.id stamp)
  taken_more u lt =
      elim (cases_eq u x.id) as (λ _. (mark_of (set marks x.id stamp) u == stamp) ≡ (u == p || list_any (λ y. u == y.id) (acc ++ x ∷ []))) [
        | inl e ↦
            eq-eqb (mark_of (set marks x.id stamp) u) stamp (ap (mark_of (set marks x.id stamp)) e ∙ get_or-set_same marks x.id stamp 0 (omega arith))
            ∙ sym (ap (λ b. u == p || b) (any_push (λ y. u == y.id) acc x ∙ ap (λ b. list_any (λ y. u == y.id) acc || b) (eq-eqb u x.id e)) ∙ or_true (u == p) (list_any (λ y. u == y.id) acc))
        | inr ne ↦
            ap (λ m. m == stamp) (get_or-set_other marks x.id u stamp 0 ne) ∙ taken u lt
            ∙ sym (ap (λ b. u == p || b) (any_push (λ y. u == y.id) acc x ∙ ap (λ b. list_any (λ y. u == y.id) acc || b) (ne_eqb u x.id ne)) ∙ or_false (u == p) (list_any (λ y. u == y.id) acc))
      ]
