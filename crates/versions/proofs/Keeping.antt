-- Each step keeps the rule.
use Rattle.std.proofs.Common.{◌≡◌, ℕ, ◌≤◌, ◌≢◌, List, set, refl, sym, ◌∙◌, subst, ⊎_elim, ◌⊎◌, inl, inr, arith, Option, Some, None}
use mathlib.Core.Option.{some}
use lib.ListN.{get_elem?}
use Rattle.left_right.specs.Register.{Admits, TurnsAt, Turns, Forks, Merges}
use Rattle.atomic_table.proofs.Lists.{at_set, at_snoc}
use Rattle.versions.specs.Course.{Course}
use Rattle.versions.specs.Known.{Known}
use Rattle.versions.specs.Rule.{IsVersion, Fits, Keeps, Sees, newcomer, knows, either, larger, shared_course}
use Rattle.versions.specs.declared.shared.Shared.{Shared}

fits_newcomer : (x : Shared) → IsVersion x → Fits x newcomer
fits_newcomer x is = record { low = omega arith; high = is.low; course = λ c e. absurd (cc) }

fits_knows : (x : Shared) → IsVersion x → Fits x (knows x)
fits_knows x is = record { low = is.low; high = omega arith; course = λ c e. cc }

fits_later : (x y : Shared) (v : Known) → shared_course y ≡ shared_course x → x.batch ≤ y.batch → Fits x v → Fits y v
fits_later x y v same later f = record { low = f.low; high = let h = f.high in omega arith; course = λ c e. f.course c e ∙ sym same }

either_is : (a b : Option Course) (c : Course) → either a b ≡ Some c → (a ≡ Some c) ⊎ (b ≡ Some c)
either_is None b c e = inr e
either_is (Some d) b c e = inl e

fits_larger : (x : Shared) (v w : Known) → Fits x v → Fits x w → Fits x (larger v w)
fits_larger x v w f g = record { low = let a = f.low in omega arith; high = let a = f.high in let b = g.high in omega arith; course = λ c e. ⊎_elim (λ (t : v.course ≡ Some c). f.course c t) (λ (t : w.course ≡ Some c). g.course c t) (either_is v.course w.course c e) }

fits_set : (x : Shared) (views : List Known) (seat : ℕ) (v : Known) → ((j : ℕ) (u : Known) → get_elem? views j ≡ some u → Fits x u) → Fits x v
    → (j : ℕ) (u : Known) → get_elem? (set views seat v) j ≡ some u → Fits x u
fits_set x views seat v each f j u e = ⊎_elim (λ (t : (j ≡ seat) × (v ≡ u)). subst (λ (z : Known). Fits x z) t.1 f) (λ (t : (j ≢ seat) × (get_elem? views j ≡ some u)). each j u t.1)
    (at_set views seat j v u e)

pub admits : Admits Keeps newcomer
admits x views h = record {
  version = h.version;
  each = λ seat v at. ⊎_elim (λ (e : get_elem? views seat ≡ some v). h.each seat v e) (λ (e : newcomer ≡ v). subst (λ (z : Known). Fits x z) e (fits_newcomer x h.version)) (at_snoc views newcomer v seat at);
}

pub turns : (seat : ℕ) (v : Known) (x y : Shared) → IsVersion y → shared_course y ≡ shared_course x → x.batch ≤ y.batch → TurnsAt Keeps seat v x y Sees
turns seat v x y is same later views h at =
    let old : (j : ℕ) (u : Known) → get_elem? views j ≡ some u → Fits y u = λ j u e. fits_later x y u same later (h.each j u e) in
    (knows y, record { version = is; each = fits_set y views seat (knows y) old (fits_knows y is) }, (is, old seat v at, refl))

pub enters : (seat : ℕ) (v : Known) → Turns Keeps seat v (λ x. x) Sees
enters seat v x views h at = turns seat v x x h.version refl (omega arith) views h at

pub forks : (seat : ℕ) (v : Known) → Forks Keeps seat v v v
forks seat v x views h at = record {
  version = h.version;
  each = λ j u e. ⊎_elim (λ (t : get_elem? (set views seat v) j ≡ some u). fits_set x views seat v h.each (h.each seat v at) j u t) (λ (t : v ≡ u). subst (λ (z : Known). Fits x z) t (h.each seat v at)) (at_snoc (set views seat v) v u j e);
}

pub merges : (seat : ℕ) (v : Known) (other : ℕ) (w : Known) → Merges Keeps seat v other w (larger v w) newcomer
merges seat v other w x views h at apart there =
    let a : Fits x v = h.each seat v at in
    let b : Fits x w = ⊎_elim (λ (t : (other ≡ seat) × (larger v w ≡ w)). absurd (apart t.0)) (λ (t : (other ≢ seat) × (get_elem? views other ≡ some w)). h.each other w t.1) (at_set views seat other (larger v w) w there) in
    record { version = h.version; each = fits_set x (set views seat (larger v w)) other newcomer (fits_set x views seat (larger v w) h.each (fits_larger x v w a b)) (fits_newcomer x h.version) }
