-- How far a kept id removes a candidate.
use Rattle.std.proofs.Common.{◌≡◌, ℕ, ◌*◌, ◌/◌, ◌<◌, List, sym, ap, ◌∙◌, subst}
use Rattle.std.specs.Prelude.{nat_lt}
use Rattle.std.proofs.Math.Nat.{div-lt_iff_lt-mul, mul_comm}
use Rattle.std.proofs.lemmas.Bool.{ltb-true, lt-ltb}
use Rattle.ann_defs.specs.declared.near.Near.{Near}
use Rattle.ann_defs.specs.Distance.{dist_of, point}
use Rattle.ann_defs.specs.RobustPrune.{stays}
use Rattle.ann_defs.proofs.Members.{same_bool}

-- a distance is more than a quotient where the product is more
beyond_is : (num den near far : ℕ) → 0 < num → nat_lt (den * near / num) far ≡ nat_lt (den * near) (num * far)
beyond_is num den near far some =
    let both = div-lt_iff_lt-mul {k = num} {x = den * near} {y = far} some in
    let turned : far * num ≡ num * far = mul_comm far num in
    same_bool (nat_lt (den * near / num) far) (nat_lt (den * near) (num * far))
    (λ h. lt-ltb (den * near) (num * far) (subst (λ m. den * near < m) turned (both.0 (ltb-true (den * near / num) far h))))
    (λ h. lt-ltb (den * near / num) far (both.1 (subst (λ m. den * near < m) (sym turned) (ltb-true (den * near) (num * far) h))))

-- so a candidate stays beside one that it is farther from
pub beyond_one : (points : List (List ℕ)) (num den most : ℕ) (x : Near) (c : ℕ) → 0 < num → most ≡ den * x.dist / num → nat_lt most (dist_of (point points c) (point points x.id)) ≡ stays points num den c x
beyond_one points num den most x c some is =
    ap (λ m. nat_lt m (dist_of (point points c) (point points x.id))) is ∙ beyond_is num den x.dist (dist_of (point points c) (point points x.id)) some
