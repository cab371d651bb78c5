-- Maps from names: a name set twice, and two names set in either order.
use Rattle.std.proofs.Common.{◌≡◌, ◌≢◌, ℕ, List, Bool, cond, true, false, refl, sym, ap, subst, ◌∙◌, Some, None}
use Rattle.std.specs.Bool.{Decides}
use Rattle.std.specs.Ordering.{nat_cmp, eq_by_cmp}
use Rattle.std.specs.Cmp.Lexicographic.{slice_cmp, nat_list_cmp_total}
use Rattle.std.specs.FinMap.{get, insert, remove, same_map, get-insert, get-remove, nat_cmp-IsAntisymmetric, slice_cmp-IsAntisymmetric}
use Rattle.std.proofs.lemmas.Slice.Eq.{bytes_eq-Decides}
use Rattle.std.proofs.lemmas.Map.Text.{is_eq-slice_cmp}
use Rattle.ann_shelf.specs.Files.{Files}

abbrev is_same : List ℕ → List ℕ → Bool
is_same = eq_by_cmp (slice_cmp nat_cmp)

pub same_name : (a b : List ℕ) → Decides (is_same a b) (a ≡ b)
same_name a b = subst (λ v. Decides v (a ≡ b)) (sym (is_eq-slice_cmp a b)) (bytes_eq-Decides a b)

when_not : {P : Type 0} (b : Bool) → Decides b P → (P → ⊥) → b ≡ false
when_not true d differs = absurd (differs (d.0 refl))
when_not false d differs = refl

pub get_same : (m : Files) (k : List ℕ) (v : List ℕ) → get (insert m k v) k ≡ Some v
get_same m k v = get-insert nat_list_cmp_total m k v k ∙ ap (λ b. cond b (Some v) (get m k)) ((same_name k k).1 refl)

pub get_other : (m : Files) (k : List ℕ) (v q : List ℕ) → q ≢ k → get (insert m k v) q ≡ get m q
get_other m k v q ne = get-insert nat_list_cmp_total m k v q ∙ ap (λ b. cond b (Some v) (get m q)) (when_not _ (same_name q k) ne)

twice : {A : Type 0} (b : Bool) (x y z : A) → cond b x (cond b y z) ≡ cond b x z
twice true x y z = refl
twice false x y z = refl

pub insert_same : (m : Files) (k u v : List ℕ) → insert (insert m k u) k v ≡ insert m k v
insert_same m k u v = same_map nat_list_cmp_total (slice_cmp-IsAntisymmetric nat_cmp-IsAntisymmetric) _ _ (λ q.
    get-insert nat_list_cmp_total (insert m k u) k v q
    ∙ ap (cond (is_same q k) (Some v)) (get-insert nat_list_cmp_total m k u q)
    ∙ twice (is_same q k) (Some v) (Some u) (get m q)
    ∙ sym (get-insert nat_list_cmp_total m k v q))

kept : {A : Type 0} (b : Bool) (x y : A) → (b ≡ true → x ≡ y) → cond b x y ≡ y
kept true x y same = same refl
kept false x y same = refl

swapped : {A : Type 0} (a b : Bool) (x y z : A) → (a ≡ true → b ≡ true → ⊥) → cond b y (cond a x z) ≡ cond a x (cond b y z)
swapped true true x y z apart = absurd (apart refl refl)
swapped true false x y z apart = refl
swapped false b x y z apart = refl

pub insert_swap : (m : Files) (a u b v : List ℕ) → a ≢ b → insert (insert m a u) b v ≡ insert (insert m b v) a u
insert_swap m a u b v ne = same_map nat_list_cmp_total (slice_cmp-IsAntisymmetric nat_cmp-IsAntisymmetric) _ _ (λ q.
    get-insert nat_list_cmp_total (insert m a u) b v q
    ∙ ap (cond (is_same q b) (Some v)) (get-insert nat_list_cmp_total m a u q)
    ∙ swapped (is_same q a) (is_same q b) (Some u) (Some v) (get m q) (λ qa qb. ne (sym ((same_name q a).0 qa) ∙ (same_name q b).0 qb))
    ∙ sym (ap (cond (is_same q a) (Some u)) (get-insert nat_list_cmp_total m b v q))
    ∙ sym (get-insert nat_list_cmp_total (insert m b v) a u q))

-- a name set to what it is
pub insert_held : (m : Files) (k v : List ℕ) → get m k ≡ Some v → insert m k v ≡ m
insert_held m k v is = same_map nat_list_cmp_total (slice_cmp-IsAntisymmetric nat_cmp-IsAntisymmetric) _ _ (λ q.
    get-insert nat_list_cmp_total m k v q ∙ kept (is_same q k) (Some v) (get m q) (λ same. sym (ap (get m) ((same_name q k).0 same) ∙ is)))

-- a name that is set and taken away
pub remove_insert_same : (m : Files) (k v : List ℕ) → remove (insert m k v) k ≡ remove m k
remove_insert_same m k v = same_map nat_list_cmp_total (slice_cmp-IsAntisymmetric nat_cmp-IsAntisymmetric) _ _ (λ q.
    get-remove nat_list_cmp_total (insert m k v) k q
    ∙ ap (cond (is_same q k) None) (get-insert nat_list_cmp_total m k v q)
    ∙ twice (is_same q k) None (Some v) (get m q)
    ∙ sym (get-remove nat_list_cmp_total m k q))

-- a name that is set and another that is taken away
pub remove_insert_other : (m : Files) (a v b : List ℕ) → a ≢ b → remove (insert m a v) b ≡ insert (remove m b) a v
remove_insert_other m a v b ne = same_map nat_list_cmp_total (slice_cmp-IsAntisymmetric nat_cmp-IsAntisymmetric) _ _ (λ q.
    get-remove nat_list_cmp_total (insert m a v) b q
    ∙ ap (cond (is_same q b) None) (get-insert nat_list_cmp_total m a v q)
    ∙ swapped (is_same q a) (is_same q b) (Some v) None (get m q) (λ qa qb. ne (sym ((same_name q a).0 qa) ∙ (same_name q b).0 qb))
    ∙ sym (ap (cond (is_same q a) (Some v)) (get-remove nat_list_cmp_total m b q))
    ∙ sym (get-insert nat_list_cmp_total (remove m b) a v q))

-- a name that isn't there
pub remove_absent : (m : Files) (k : List ℕ) → get m k ≡ None → remove m k ≡ m
remove_absent m k none = same_map nat_list_cmp_total (slice_cmp-IsAntisymmetric nat_cmp-IsAntisymmetric) _ _ (λ q.
    get-remove nat_list_cmp_total m k q ∙ kept (is_same q k) None (get m q) (λ same. sym (ap (get m) ((same_name q k).0 same) ∙ none)))

-- a name that is taken away twice
pub remove_twice : (m : Files) (k : List ℕ) → remove (remove m k) k ≡ remove m k
remove_twice m k = same_map nat_list_cmp_total (slice_cmp-IsAntisymmetric nat_cmp-IsAntisymmetric) _ _ (λ q.
    get-remove nat_list_cmp_total (remove m k) k q
    ∙ ap (cond (is_same q k) None) (get-remove nat_list_cmp_total m k q)
    ∙ twice (is_same q k) None None (get m q)
    ∙ sym (get-remove nat_list_cmp_total m k q))
