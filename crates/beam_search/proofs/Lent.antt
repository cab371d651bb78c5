-- What was written over the front of a list as long, and what is gathered there.
use Rattle.std.proofs.Common.{◌≡◌, ◌-◌, ◌<◌, ◌++◌, length, take, drop, ℕ, List, sym, ap, ◌∙◌, subst, arith}
use Rattle.std.proofs.lemmas.List.{take-append-le, take_all}
use Rattle.std.specs.Prelude.{slice_range}
use Rattle.std.specs.List.{All}
use Rattle.ann_defs.specs.declared.near.Near.{Near}
use Rattle.ann_defs.specs.Distance.{point}
use Rattle.ann_defs.specs.Nearness.{near_of, all_near, ids_of}
use Rattle.near_lists.specs.Gathered.{gathered, IsGathered}
use Rattle.near_lists.specs.Marks.{AreUpTo}
use Rattle.near_lists.proofs.Gathering.{is_gathered}

-- what was written over a list as long
pub written_is : {X : Type 0} (n : ℕ) (written old : List X) → length written ≡ n → take n (written ++ drop (length written) old) ≡ written
written_is n written old e = take-append-le n written (drop (length written) old) (omega arith) ∙ take_all n written (omega arith)

-- the front of what was written over a list as long
front_of : (n len : ℕ) (written old : List Near) → length written ≡ n → slice_range (take n (written ++ drop (length written) old)) 0 len ≡ take len written
front_of n len written old e =
    let same : len - 0 ≡ len = omega arith in
    ap (λ (k : ℕ). take k (take n (written ++ drop (length written) old))) same ∙ ap (take len) (written_is n written old e)

-- marks that are written over as many
pub lent_marks : (n count stamp : ℕ) (written old : List ℕ) → length written ≡ n → n ≡ count → AreUpTo stamp written → (length (take n (written ++ drop (length written) old)) ≡ count) × AreUpTo stamp (take n (written ++ drop (length written) old))
lent_marks n count stamp written old long many up_to =
    let is = written_is n written old long in (ap length is ∙ long ∙ many, subst (AreUpTo stamp) (sym is) up_to)

-- what is gathered into a list that is lent
pub lent_gathered : (points : List (List ℕ)) (p n len : ℕ) (last measured : List Near) (extra : List ℕ) (part written old : List Near) → measured ≡ last → length written ≡ n → part ≡ slice_range (take n (written ++ drop (length written) old)) 0 len
    → take len written ≡ gathered p (measured ++ all_near points (point points p) extra)
    → All (λ (x : Near). x.id < length points) last → All (λ (x : Near). x ≡ near_of points (point points p) x.id) last → All (λ (u : ℕ). u < length points) extra → IsGathered points p (ids_of last ++ extra) part
lent_gathered points p n len last measured extra part written old same long is list in_range near inside =
    subst (IsGathered points p (ids_of last ++ extra))
    (sym (is ∙ front_of n len written old long ∙ list ∙ ap (λ (xs : List Near). gathered p (xs ++ all_near points (point points p) extra)) same))
    (is_gathered points p last extra in_range near inside)
