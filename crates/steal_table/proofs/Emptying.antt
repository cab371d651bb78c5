-- Steps of the loop that takes the blocks out of a closed table.
use Rattle.std.proofs.Common.{◌≡◌, ◌≢◌, ℕ, zero, suc, ◌+◌, ◌-◌, ◌/◌, ◌<◌, Bool, false, List, [], ◌∷◌, ◌++◌, length, map, set, take, get_or, All, refl, sym, ap, ◌∙◌, subst, ⊎_elim, arith}
use Rattle.std.proofs.lemmas.List.{take_more}
use mathlib.Core.Option.{some, some-ne-none, some-injective}
use mathlib.Core.Logic.{dite}
use native.Mathlib.Decide.{ℕ_discrete}
use lib.ListN.{get_elem?}
use Rattle.steal_table.specs.Rule.{Block}
use Rattle.steal_table.specs.Opened.{AreOwners, AllWide}
use Rattle.steal_table.proofs.Tables.{below_length}
use Rattle.steal_table.proofs.Finishes.{at_push}

module _ {A : Type 0} where
  pub read_at : (l : List A) (i : ℕ) (a d : A) → get_elem? l i ≡ some a → get_or l i d ≡ a
  read_at [] i a d e = absurd (some-ne-none a (sym e))
  read_at (x ∷ xs) zero a d e = some-injective x a e
  read_at (x ∷ xs) (suc i) a d e = read_at xs i a d e

  pub take_one : (l : List A) (i : ℕ) (a : A) → get_elem? l i ≡ some a → take (i + 1) l ≡ take i l ++ a ∷ []
  take_one l i a e = take_more l i a (below_length l i a e) ∙ ap (λ (x : A). take i l ++ x ∷ []) (read_at l i a a e)

  pub set_other : (l : List A) (i k : ℕ) (a d : A) → k ≢ i → get_or (set l i a) k d ≡ get_or l k d
  set_other [] i k a d ne = refl
  set_other (x ∷ xs) zero zero a d ne = absurd (ne refl)
  set_other (x ∷ xs) zero (suc k) a d ne = refl
  set_other (x ∷ xs) (suc i) zero a d ne = refl
  set_other (x ∷ xs) (suc i) (suc k) a d ne = set_other xs i k a d (λ e. ne (ap suc e))

pub set_gone : (l : List Bool) (i : ℕ) → get_or (set l i false) i false ≡ false
set_gone [] i = refl
set_gone (x ∷ xs) zero = refl
set_gone (x ∷ xs) (suc i) = set_gone xs i

pub gone_more : (l : List Bool) (i : ℕ) → ((k : ℕ) → k < i → get_or l k false ≡ false) → (k : ℕ) → k < i + 1 → get_or (set l i false) k false ≡ false
gone_more l i all k lt = dite (ℕ_discrete k i) (λ (e : k ≡ i). ap (λ (j : ℕ). get_or (set l i false) j false) e ∙ set_gone l i) (λ (ne : k ≢ i). set_other l i k false false ne ∙ all k (omega arith))

pub owners_more : (words owners : List ℕ) (t n i : ℕ) → AreOwners words owners → length owners ≡ t → get_elem? words (t + 1) ≡ some n → i ≡ n / 2 - 1 → AreOwners words (owners ++ i ∷ [])
owners_more words owners t n i all len at is u j e =
    ⊎_elim (λ (h : get_elem? owners u ≡ some j). all u j h)
    (λ (h : (u ≡ length owners) × (i ≡ j)). (n, ap (λ (k : ℕ). get_elem? words (k + 1)) (h.0 ∙ len) ∙ at, sym h.1 ∙ is)) (at_push owners i j u e)

module _ {A : Type 0} where
  -- what is read at a place that there is
  pub read_back : (l : List A) (i : ℕ) (d : A) → i < length l → get_elem? l i ≡ some (get_or l i d)
  read_back [] i d lt = absurd (omega arith)
  read_back (x ∷ xs) zero d lt = refl
  read_back (x ∷ xs) (suc i) d lt = read_back xs i d (omega arith)

  pub read_map : {B : Type 0} (f : A → B) (l : List A) (i : ℕ) (a : A) (d : B) → get_elem? l i ≡ some a → get_or (map f l) i d ≡ f a
  read_map f [] i a d e = absurd (some-ne-none a (sym e))
  read_map f (x ∷ xs) zero a d e = ap f (some-injective x a e)
  read_map f (x ∷ xs) (suc i) a d e = read_map f xs i a d e

-- each block is wide, place by place
pub wide_at : (width : ℕ) (xs : List Block) → All (λ y. length y.items ≡ width) xs → AllWide width xs
wide_at width xs all t y at = subst (λ (z : Block). length z.items ≡ width) (read_at xs t y y at) (all t y (below_length xs t y at))
