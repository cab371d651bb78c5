-- What of a round is done so far.
use Rattle.std.proofs.Common.{◌≡◌, ◌≢◌, ◌<◌, ◌≤◌, ◌+◌, ◌*◌, ◌/◌, ◌∙◌, ℕ, List, [], ◌∷◌, ◌++◌, map, take, drop, length, get_or, set, ap, sym, subst, arith, Vec, Global}
use Rattle.std.proofs.Math.Nat.{div-mul-le_self, div-le_of_le-mul, mul-le-mul_right, mul_comm}
use Rattle.std.proofs.lemmas.List.{map-set, map-append, take_more, take_more_set, length-map, length-set, drop-take, take-take, take-append-drop, take_all, get_or-set_other}
use Rattle.std.proofs.lemmas.Nat.{le-div}
use Rattle.std.proofs.lemmas.List.Elements.{All-append, All-set, All-take, All-drop}
use Rattle.std.proofs.Math.Seq.{take-append_seam, drop-append_seam}
use Rattle.steal_pool.specs.declared.post.Post.{Post}
use Rattle.steal_pool.specs.Shares.{share_start, IsShare, EachFrom}
use Rattle.steal_pool.specs.Work.{scratch_of, AllServe}

-- one block more stands as it is wanted
pub done_more : {X : Type 0} (f : X → List ℕ) (xs : List X) (ws : List (List ℕ)) (k : ℕ) (y : X) → k < length xs → k < length ws
    → take k (map f xs) ≡ take k ws → f y ≡ get_or ws k [] → take (k + 1) (map f (set xs k y)) ≡ take (k + 1) ws
done_more f xs ws k y lt lt' done is =
    let lt'' : k < length (map f xs) = omega (arith, length-map xs f) in
    ap (take (k + 1)) (map-set f xs k y)
    ∙ take_more_set (map f xs) k (f y) lt''
    ∙ ap (λ (l : List (List ℕ)). l ++ f y ∷ []) done
    ∙ ap (λ (z : List ℕ). take k ws ++ z ∷ []) is
    ∙ sym (take_more ws k [] lt')

-- a share begins where the one before it ends, or before that
pub starts_rise : (m w i : ℕ) → 0 < w → share_start m w i ≤ share_start m w (i + 1)
starts_rise m w i pos =
    let le : i * m ≤ (i + 1) * m = mul-le-mul_right m (omega arith) in
    let below : i * m / w * w ≤ i * m = div-mul-le_self (i * m) w in
    le-div (i * m / w) ((i + 1) * m) w pos (omega arith)

pub starts_within : (m w i : ℕ) → i ≤ w → share_start m w i ≤ m
starts_within m w i le = div-le_of_le-mul w (mul-le-mul_right m le)

-- what stands at the front, and the part after it
pub take_part : {X : Type 0} (a n : ℕ) (xs : List X) → take a xs ++ take n (drop a xs) ≡ take (a + n) xs
take_part a n xs =
    ap (λ l. l ++ take n (drop a xs)) (sym (take-take a (a + n) xs (omega arith)))
    ∙ ap (λ l. take a (take (a + n) xs) ++ l) (sym (drop-take a n xs))
    ∙ take-append-drop a (take (a + n) xs)

-- the blocks of the shares before a worker's, and its share
pub gathered : (want : List (List ℕ)) (w n : ℕ) (old new : List (Vec ℕ Global)) → map (λ y. y.items) old ≡ take (share_start (length want) w n) want
    → IsShare (length want) w n new → map (λ y. y.items) new ≡ take (length new) (drop (share_start (length want) w n) want)
    → map (λ y. y.items) (old ++ new) ≡ take (share_start (length want) w (n + 1)) want
gathered want w n old new before share is =
    let s : ℕ = share_start (length want) w n in
    map-append (λ (y : Vec ℕ Global). y.items) old new
    ∙ ap (λ (l : List (List ℕ)). l ++ map (λ (y : Vec ℕ Global). y.items) new) before
    ∙ ap (λ (l : List (List ℕ)). take s want ++ l) is
    ∙ take_part s (length new) want
    ∙ ap (λ (k : ℕ). take k want) share

-- from the last share on, the tasks before a share are all of them
pub gathered_all : (want : List (List ℕ)) (w n : ℕ) (old : List (Vec ℕ Global)) → 0 < w → w ≤ n → map (λ y. y.items) old ≡ take (share_start (length want) w n) want → map (λ y. y.items) old ≡ want
gathered_all want w n old pos le before =
    let m : ℕ = length want in
    let more : w * m ≤ n * m = mul-le-mul_right m le in
    let turned : m * w ≡ w * m = mul_comm m w in
    before ∙ take_all (share_start m w n) want (le-div m (n * m) w pos (omega arith))

pub from_set : {S : Type 0} (P : ℕ → Post S → Type 0) (posts : List (Post S)) (n : ℕ) (q : Post S) → EachFrom n P posts → EachFrom (n + 1) P (set posts n q)
from_set P posts n q from i d le lt =
    let len : i < length posts = omega (arith, length-set posts n q) in
    let ne : i ≢ n = omega arith in
    subst (P i) (sym (get_or-set_other posts n i q d ne)) (from i d (omega arith) len)

pub serve_set : {S : Type 0} (P : S → Type 0) (posts : List (Post S)) (n : ℕ) (q : Post S) → P (scratch_of q) → AllServe P posts → AllServe P (set posts n q)
serve_set P posts n q here all = All-set (λ p. P (scratch_of p)) posts n q here all

-- both parts of posts that serve
module _ {S : Type 0} (P : S → Type 0) (posts first others : List (Post S)) (is : posts ≡ first ++ others) (all : AllServe P posts) where
  whole : AllServe P (first ++ others)
  whole = subst (AllServe P) is all

  pub serve_front : AllServe P first
  serve_front = subst (AllServe P) (take-append_seam first others) (All-take (λ p. P (scratch_of p)) (length first) (first ++ others) whole)

  serve_back : AllServe P others
  serve_back = subst (AllServe P) (drop-append_seam first others) (All-drop (λ p. P (scratch_of p)) (length first) (first ++ others) whole)

  -- the first ones as a round leaves them, and the others
  pub serve_again : (now : List (Post S)) → AllServe P now → AllServe P (now ++ others)
  serve_again now still = All-append (λ p. P (scratch_of p)) now others still serve_back
