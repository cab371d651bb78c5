-- Ids that are apart by factor 1 are apart by a greater one.
use Rattle.std.proofs.Common.{◌≡◌, ℕ, suc, ◌+◌, ◌-◌, ◌*◌, ◌<◌, ◌≤◌, Bool, true, false, cond, List, [], ◌∷◌, take, length, refl, sym, ◌∙◌, arith}
use Rattle.std.specs.Prelude.{nat_le, slice_index}
use Rattle.std.specs.List.{list_all}
use Rattle.std.proofs.Math.Nat.{mul-le-mul_right, mul-le-mul_left, mul-suc}
use Rattle.std.proofs.lemmas.Bool.{ltb-true, lt-ltb, leb-true, le-leb, true≢false}
use Rattle.ann_defs.specs.RobustPrune.{spares}
use Rattle.ann_defs.specs.BatchInsert.{Build, at_batch}
use Rattle.ann_defs.proofs.Members.{and_both, both_and}
use Rattle.robust_prune.specs.Pruned.{leaves}
use Rattle.robust_prune.specs.Apart.{is_apart, are_apart}
use Rattle.robust_prune.proofs.TwoLists.{all_true, true_all}
use Rattle.vamana_build.specs.Settled.{AreSettled}

-- what factor 1 spares, a greater one does
spares_more : (num den a d : ℕ) → 1 ≤ den → den ≤ num → spares 1 1 a d ≡ true → spares num den a d ≡ true
spares_more num den a d some ordered h =
    let less : 1 * d < 1 * a = ltb-true (1 * d) (1 * a) h in
    let step : suc d ≤ a = omega (arith, less) in
    let wide : den * suc d ≤ den * a = mul-le-mul_left den step in
    let more : den * a ≤ num * a = mul-le-mul_right a ordered in
    let spread : den * suc d ≡ den * d + den = mul-suc den d in
    lt-ltb (den * d) (num * a) (omega (arith, wide, more, spread, some))

module _ (points : List (List ℕ)) (num den p : ℕ) (some : 1 ≤ den) (ordered : den ≤ num) where
  is_apart_more : (c x : ℕ) → is_apart points 1 1 p c x ≡ true → is_apart points num den p c x ≡ true
  is_apart_more c x h =
      let both = and_both _ (leaves points p 1 1 c x) h in
      both_and _ (leaves points p num den c x) both.0 (spares_more num den _ _ some ordered both.1)

  pub apart_more : (ids : List ℕ) → are_apart points 1 1 p ids ≡ true → are_apart points num den p ids ≡ true
  apart_more [] h = refl
  apart_more (c ∷ ids) h =
      let both = and_both (list_all (is_apart points 1 1 p c) ids) (are_apart points 1 1 p ids) h in
      both_and (list_all (is_apart points num den p c) ids) (are_apart points num den p ids)
      (all_true (is_apart points num den p c) ids (λ x k. is_apart_more c x (true_all (is_apart points 1 1 p c) ids both.0 x k)))
      (apart_more ids both.1)

module _ (b : Build) (some : 1 ≤ b.den) (ordered : b.den ≤ b.num) (row : ℕ → List ℕ) (counts : List ℕ) where
  abbrev by : Bool → Build
  by early = record b { num = cond early 1 b.num; den = cond early 1 b.den }

  settled_more : AreSettled (by true) row counts → AreSettled (by false) row counts
  settled_more a = record {
    whole = a.whole;
    apart = λ u at.
        let count = slice_index counts u in
        let both = and_both (nat_le count (length (row u))) (are_apart b.points 1 1 u (take count (row u))) (a.apart u at) in
        both_and (nat_le count (length (row u))) (are_apart b.points b.num b.den u (take count (row u))) both.0 (apart_more b.points b.num b.den u some ordered (take count (row u)) both.1);
  }

  -- what is settled by the factor of a batch is so by that of the next
  pub settled_on : (pass k : ℕ) → AreSettled (at_batch b pass k) row counts → AreSettled (at_batch b pass (suc k)) row counts
  settled_on pass k =
      let most = (b.passes - 1) * pass in
      elim (nat_le k most) as (λ c. nat_le k most ≡ c → AreSettled (by c) row counts → AreSettled (by (nat_le (suc k) most)) row counts) [
        | true ↦ λ _ a. elim (nat_le (suc k) most) as (λ c. AreSettled (by c) row counts) [ true ↦ a | false ↦ settled_more a ]
        | false ↦ λ e a. elim (nat_le (suc k) most) as (λ c. nat_le (suc k) most ≡ c → AreSettled (by c) row counts) [
          | true ↦ λ f. let far = leb-true (suc k) most f in absurd (true≢false (sym (le-leb k most (omega (arith, far))) ∙ e))
          | false ↦ λ _. a
        ] refl
      ] refl
