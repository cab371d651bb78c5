-- A list of nearest ids while ids are offered to it.
use Rattle.std.specs.Prelude.{◌≡◌, ℕ, ◌+◌, ◌≤◌, List, length, take}
use Rattle.std.specs.List.{fold}
use Rattle.std.proofs.Common.{arith}
use Rattle.std.proofs.lemmas.List.{length-map, length-take}
use Rattle.ann_defs.specs.declared.near.Near.{Near}
use Rattle.ann_defs.specs.Distance.{point}
use Rattle.ann_defs.specs.Nearness.{near_cmp, all_near, least}
use Rattle.ann_defs.specs.Ordered.{Rises, put, ordered}
use Rattle.ann_defs.specs.Graph.{without}
use Rattle.near_lists.specs.Marks.{AreSettled}
use Rattle.neighbour_lists.specs.ListRound.{nearest_of}

-- the greatest length of a list, the nearest that were offered, the stamp of what was, and the marks
pub record Offers : Type 0 where
  pub most : ℕ
  pub kept : List Near
  pub stamp : ℕ
  pub marks : List ℕ

-- room for the lists of n points, of at most so many ids
pub record ServesRows (n most : ℕ) (o : Offers) : Type 0 where
  pub count : length o.marks ≡ n
  pub room : o.most ≡ most

-- offers for the list of v: v itself may be among them, so one more is kept
pub record IsOffered (points : List (List ℕ)) (v : ℕ) (o : Offers) : Type 0 where
  pub rises : Rises near_cmp o.kept
  pub short : length o.kept ≤ o.most + 1
  pub settled : AreSettled points (point points v) (o.most + 1) o.stamp o.kept o.marks

-- what is kept after some more ids were offered
abbrev pub kept_with : List (List ℕ) → ℕ → ℕ → List Near → List ℕ → List Near
kept_with points v most kept ids = take (most + 1) (fold (put near_cmp) kept (all_near points (point points v) ids))

-- ids were offered
pub record HasOffered (points : List (List ℕ)) (v : ℕ) (ids : List ℕ) (old new : Offers) : Type 0 where
  pub kept : new.kept ≡ kept_with points v old.most old.kept ids
  pub offered : IsOffered points v new
  pub most : new.most ≡ old.most
  pub count : length new.marks ≡ length old.marks

-- a list isn't too long
pub nearest_short : (points : List (List ℕ)) (list v : ℕ) (ids : List ℕ) → length (nearest_of points list v ids) ≤ list
nearest_short points list v ids =
    let all = all_near points (point points v) (without v ids) in
    let short : length (least all list) ≤ list = let e = length-take list (ordered near_cmp all) in omega (arith, e) in
    rw (length-map (least all list) (λ (x : Near). x.id)) short
