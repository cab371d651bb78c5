-- The blocks of splits, and what is kept of them.
use Rattle.std.proofs.Common.{◌≡◌, ℕ, ◌+◌, ◌-◌, ◌<◌, ◌≤◌, Bool, List, [], ◌∷◌, ◌++◌, Vec, Global, take, drop, replicate, length, get_or, refl, sym, ap, ◌∙◌, subst, arith, length-append, append_assoc}
use Rattle.std.specs.List.{filter, flat_map, All}
use Rattle.std.proofs.lemmas.List.{length-map, get_or-map, take_at, drop_at, take_more, take-map, drop-map, length-take-le, map-append}
use Rattle.std.proofs.lemmas.List.Concat.{flat_map-append}
use Rattle.std.proofs.lemmas.List.Elements.{All-take, All-drop, filter-append}
use Rattle.std.proofs.Math.Seq.{take-add}
use Rattle.pivot_trees.specs.Blocks.{lists_of, block_of, blocks_from, AreSplittable}
use Rattle.pivot_trees.specs.Leaves.{both, parts_of, splits_from, parts_from}
use Rattle.pivot_trees.proofs.Lists.{items_of, many_lists}
use Rattle.pivot_trees.proofs.Splitting.{IsSplit, length-splits, split_at, splits-append}

-- a block of parts
module _ (width : ℕ) (parts : List ℕ × List ℕ) where
  abbrev zeros : List ℕ
  zeros = replicate (width - (length (parts.0 ++ parts.1) + 1)) 0

  pub block_room : length parts.0 + length parts.1 + 1 ≤ length (block_of width parts)
  block_room =
      let all = length-append (length parts.0 ∷ (parts.0 ++ parts.1)) zeros in
      let ids = length-append parts.0 parts.1 in
      omega (arith, all, ids)

  pub block_first : take (length parts.0) (drop 1 (block_of width parts)) ≡ parts.0
  block_first = ap (take (length parts.0)) (append_assoc parts.0 parts.1 zeros) ∙ take_at parts.0 (parts.1 ++ zeros) (length parts.0) refl

  pub block_second : take (length parts.1) (drop (length parts.0 + 1) (block_of width parts)) ≡ parts.1
  block_second =
      let one : length parts.0 + 1 ≡ length (length parts.0 ∷ parts.0) = omega arith in
      ap (λ k. take (length parts.1) (drop k (block_of width parts))) one
      ∙ ap (λ (xs : List ℕ). take (length parts.1) (drop (length (length parts.0 ∷ parts.0)) (length parts.0 ∷ xs))) (append_assoc parts.0 parts.1 zeros)
      ∙ ap (take (length parts.1)) (drop_at (length parts.0 ∷ parts.0) (parts.1 ++ zeros) (length (length parts.0 ∷ parts.0)) refl)
      ∙ take_at parts.1 zeros (length parts.1) refl

-- the parts of a block that is read
module _ (width : ℕ) (ids words : List ℕ) (parts : List ℕ × List ℕ) (split : IsSplit ids parts) (is : words ≡ block_of width parts) (left : ℕ) (first : left ≡ get_or words 0 0) where
  left_is : left ≡ length parts.0
  left_is = first ∙ ap (λ (xs : List ℕ). get_or xs 0 0) is

  pub left_low : left ≤ length ids
  left_low = let total = split.total in let same = left_is in omega (arith, total, same)

  pub words_room : length ids + 1 ≤ length words
  words_room = let total = split.total in let room = block_room width parts in let long = ap (λ (xs : List ℕ). length xs) is in omega (arith, total, room, long)

  pub first_part : take (left - 0) (drop (0 + 1) words) ≡ parts.0
  first_part =
      let all : left - 0 ≡ length parts.0 = let same = left_is in omega (arith, same) in
      (λ i. take (all i) (drop 1 (is i))) ∙ block_first width parts

  pub second_part : take (length ids - left) (drop (left + 1) words) ≡ parts.1
  second_part =
      let same = left_is in
      let rest : length ids - left ≡ length parts.1 = let total = split.total in omega (arith, total, same) in
      (λ i. take (rest i) (drop (same i + 1) (is i))) ∙ block_second width parts

-- blocks of lists in memory
module _ (points : List (List ℕ)) (seed tree depth width j : ℕ) (vectors : List (Vec ℕ Global)) where
  abbrev splits : List (List ℕ × List ℕ)
  splits = splits_from points seed tree depth j (lists_of vectors)

  pub many_splits : length splits ≡ length vectors
  many_splits = length-splits points seed tree depth j (lists_of vectors) ∙ many_lists vectors

  pub many_blocks : length (blocks_from points seed tree depth width j (lists_of vectors)) ≡ length vectors
  many_blocks = length-map splits (block_of width) ∙ many_splits

  pub split_is : (k : ℕ) → k < length vectors → get_or splits k ([], []) ≡ parts_of points seed tree depth (j + k) (get_or (lists_of vectors) k [])
  split_is k lt = let many = many_lists vectors in split_at points seed tree depth j (lists_of vectors) k ([], []) (omega (arith, many, lt))

  pub block_is : (k : ℕ) → k < length vectors → get_or (blocks_from points seed tree depth width j (lists_of vectors)) k [] ≡ block_of width (parts_of points seed tree depth (j + k) (get_or (lists_of vectors) k []))
  block_is k lt = let many = many_splits in get_or-map (block_of width) splits k ([], []) [] (omega (arith, many, lt)) ∙ ap (block_of width) (split_is k lt)

-- what is kept of one split more
pub kept_more : (t : List ℕ → Bool) (splits : List (List ℕ × List ℕ)) (i : ℕ) (first second : List ℕ) (old now mid new : List (List ℕ)) → i < length splits → first ≡ (get_or splits i ([], [])).0 → second ≡ (get_or splits i ([], [])).1
    → now ≡ old ++ filter t (flat_map both (take i splits)) → mid ≡ now ++ filter t (first ∷ []) → new ≡ mid ++ filter t (second ∷ []) → new ≡ old ++ filter t (flat_map both (take (i + 1) splits))
kept_more t splits i first second old now mid new lt left right before one two =
    let split = get_or splits i ([], []) in
    let done = flat_map both (take i splits) in
    let more : flat_map both (take (i + 1) splits) ≡ done ++ (split.0 ∷ split.1 ∷ []) = ap (flat_map both) (take_more splits i ([], []) lt) ∙ flat_map-append both (take i splits) (split ∷ []) in
    let kept : filter t (flat_map both (take (i + 1) splits)) ≡ filter t done ++ (filter t (split.0 ∷ []) ++ filter t (split.1 ∷ [])) =
    ap (filter t) more ∙ filter-append t done (split.0 ∷ split.1 ∷ []) ∙ ap (λ (xs : List (List ℕ)). filter t done ++ xs) (filter-append t (split.0 ∷ []) (split.1 ∷ [])) in
    two
    ∙ (λ k. one k ++ filter t (right k ∷ []))
    ∙ (λ k. (before k ++ filter t (left k ∷ [])) ++ filter t (split.1 ∷ []))
    ∙ append_assoc (old ++ filter t done) (filter t (split.0 ∷ [])) (filter t (split.1 ∷ []))
    ∙ append_assoc old (filter t done) (filter t (split.0 ∷ []) ++ filter t (split.1 ∷ []))
    ∙ ap (λ (xs : List (List ℕ)). old ++ xs) (sym kept)

-- a round of lists more
module _ (points : List (List ℕ)) (seed tree depth number : ℕ) (vectors : List (Vec ℕ Global)) where
  pub parts_more : (from count : ℕ) → from + count ≤ length vectors → parts_from points seed tree depth number (lists_of (take (from + count) vectors)) ≡ parts_from points seed tree depth number (lists_of (take from vectors)) ++ parts_from points seed tree depth (number + from) (lists_of (take count (drop from vectors)))
  parts_more from count within =
      let lists = lists_of (take from vectors) in
      let next = lists_of (take count (drop from vectors)) in
      let all : lists_of (take (from + count) vectors) ≡ lists ++ next = ap lists_of (take-add from count vectors) ∙ lists-append (take from vectors) (take count (drop from vectors)) in
      let many : length lists ≡ from = many_lists (take from vectors) ∙ length-take-le from vectors (omega (arith, within)) in
      ap (λ (xs : List (List ℕ)). flat_map both (splits_from points seed tree depth number xs)) all
      ∙ ap (flat_map both) (splits-append points seed tree depth number lists next)
      ∙ flat_map-append both (splits_from points seed tree depth number lists) (splits_from points seed tree depth (number + length lists) next)
      ∙ ap (λ k. flat_map both (splits_from points seed tree depth number lists) ++ flat_map both (splits_from points seed tree depth (number + k) next)) many
    where
      lists-append : (xs ys : List (Vec ℕ Global)) → lists_of (xs ++ ys) ≡ lists_of xs ++ lists_of ys
      lists-append xs ys = map-append items_of xs ys

  pub kept_round : (t : List ℕ → Bool) (from count k : ℕ) (old now new : List (List ℕ)) → k ≡ count → from + count ≤ length vectors → now ≡ old ++ filter t (parts_from points seed tree depth number (lists_of (take from vectors)))
      → new ≡ now ++ filter t (parts_from points seed tree depth (number + from) (lists_of (take k (drop from vectors)))) → new ≡ old ++ filter t (parts_from points seed tree depth number (lists_of (take (from + count) vectors)))
  kept_round t from count k old now new same within before more =
      let done = parts_from points seed tree depth number (lists_of (take from vectors)) in
      let next = parts_from points seed tree depth (number + from) (lists_of (take count (drop from vectors))) in
      more
      ∙ (λ i. before i ++ filter t (parts_from points seed tree depth (number + from) (lists_of (take (same i) (drop from vectors)))))
      ∙ append_assoc old (filter t done) (filter t next)
      ∙ ap (λ (xs : List (List ℕ)). old ++ xs) (sym (ap (filter t) (parts_more from count within) ∙ filter-append t done next))

-- facts of all lists hold of some that follow each other
pub some_of : (P : List ℕ → Type 0) (vectors : List (Vec ℕ Global)) (from count : ℕ) → All P (lists_of vectors) → All P (lists_of (take count (drop from vectors)))
some_of P vectors from count all =
    subst (All P) (take-map items_of count (drop from vectors)) (All-take P count (lists_of (drop from vectors)) (subst (All P) (drop-map items_of from vectors) (All-drop P from (lists_of vectors) all)))

pub some_splittable : (n : ℕ) (vectors : List (Vec ℕ Global)) (from count : ℕ) → AreSplittable n (lists_of vectors) → AreSplittable n (lists_of (take count (drop from vectors)))
some_splittable n vectors from count all = record {
  inside = some_of (λ (ids : List ℕ). All (λ u. u < n) ids) vectors from count all.inside;
  some = some_of (λ (ids : List ℕ). 2 ≤ length ids) vectors from count all.some;
}
