-- Trees that split a point set by two pivots: McInnes, pyNNDescent, `euclidean_random_projection_split` of its random
-- projection trees, where a list of points is cut midway between two of them, and again, down to leaves of few points.
-- Differences: the pivots come from the words of a seed; an id that is as near to the one as to the other goes left, and
-- not by a coin; a list is halved where all its ids would go to one side, and at each depth over 48; the lists of one
-- depth are split from left to right, and are numbered on from the depth before; the leaves stand by their depths.
use Rattle.std.specs.Prelude.{ℕ, zero, suc, ◌+◌, ◌-◌, ◌*◌, ◌/◌, ◌%◌, ◌==◌, ◌||◌, Bool, not, nat_le, nat_lt, if◌then◌else◌, List, [], ◌∷◌, take, drop, length, slice_index, slice_index_or}
use Rattle.std.specs.List.{filter, flat_map, position_or_len, range_with_len}
use Rattle.ann_defs.specs.Distance.{dist_of, point}
use Rattle.ann_defs.specs.Graph.{has}
use Rattle.seeded_order.specs.Words.{word_of}

-- the lists that stand at a depth, from left to right, and the number of the first of them that is split
pub record Level : Type 0 where
  pub first : ℕ
  pub lists : List (List ℕ)

-- b, raised past a where it isn't below
abbrev pub beside : ℕ → ℕ → ℕ
beside a b = if nat_le a b then b + 1 else b

-- the first half, which has the middle one, and the rest
abbrev pub halves : List ℕ → List ℕ × List ℕ
halves ids = let half = (length ids + 1) / 2 in (take half ids, drop half ids)

-- both parts, the left one first
abbrev pub both : List ℕ × List ℕ → List (List ℕ)
both parts = parts.0 ∷ parts.1 ∷ []

-- whether a list has more ids than a leaf may have
abbrev pub is_long : ℕ → List ℕ → Bool
is_long leaf ids = nat_lt leaf (length ids)

abbrev pub is_short : ℕ → List ℕ → Bool
is_short leaf ids = not (is_long leaf ids)

-- whether an id is at least as near to p as to q
abbrev pub is_left : List (List ℕ) → ℕ → ℕ → ℕ → Bool
is_left points p q id = nat_le (dist_of (point points id) (point points p)) (dist_of (point points id) (point points q))

-- the ids that are, and the others, each in their order
abbrev pub sides_by : List (List ℕ) → ℕ → ℕ → List ℕ → List ℕ × List ℕ
sides_by points p q ids = (filter (is_left points p q) ids, filter (λ id. not (is_left points p q id)) ids)

-- the places of the two pivots in list j, of m ids
abbrev pub first_place : ℕ → ℕ → ℕ → ℕ → ℕ
first_place seed tree j m = word_of seed (3 + tree) (2 * j) % m

abbrev pub second_place : ℕ → ℕ → ℕ → ℕ → ℕ
second_place seed tree j m = beside (first_place seed tree j m) (word_of seed (3 + tree) (2 * j + 1) % (m - 1))

module _ (points : List (List ℕ)) (seed tree : ℕ) where
  -- the sides of list j
  abbrev pub sides_of : ℕ → List ℕ → List ℕ × List ℕ
  sides_of j ids = sides_by points (slice_index ids (first_place seed tree j (length ids))) (slice_index ids (second_place seed tree j (length ids))) ids

  -- the parts of list j, which stands at this depth
  unfoldable pub parts_of : ℕ → ℕ → List ℕ → List ℕ × List ℕ
  parts_of depth j ids =
      let sides = sides_of j ids in
      if nat_lt 48 depth || (length sides.0 == 0 || length sides.1 == 0) then halves ids else sides

  -- the parts of lists numbered from j on
  abbrev pub splits_from : ℕ → ℕ → List (List ℕ) → List (List ℕ × List ℕ)
  splits_from depth j [] = []
  splits_from depth j (ids ∷ rest) = parts_of depth j ids ∷ splits_from depth (j + 1) rest

  -- the lists of the next depth
  abbrev pub parts_from : ℕ → ℕ → List (List ℕ) → List (List ℕ)
  parts_from depth j lists = flat_map both (splits_from depth j lists)

  module _ (leaf : ℕ) where
    -- depth 0 has the list of all ids alone; of each depth the long lists are split
    abbrev pub level_at : ℕ → Level
    level_at zero = record { first = 0; lists = range_with_len 0 (length points) ∷ [] }
    level_at (suc depth) =
        let level = level_at depth in
        let long = filter (is_long leaf) level.lists in
        record { first = level.first + length long; lists = parts_from depth level.first long }

    -- the others are leaves
    abbrev pub leaves_at : ℕ → List (List ℕ)
    leaves_at depth = filter (is_short leaf) (level_at depth).lists

    -- the leaves of the tree, in the order of their depths; no list is long at depth n
    abbrev pub leaves_of : List (List ℕ)
    leaves_of = flat_map leaves_at (range_with_len 0 (length points))

-- the place of the first leaf that has an id
abbrev pub place_of_id : List (List ℕ) → ℕ → ℕ
place_of_id leaves id = position_or_len (λ ids. has ids id) leaves

-- the leaf that has an id
abbrev pub leaf_with : List (List ℕ) → ℕ → List ℕ
leaf_with leaves id = slice_index_or leaves (place_of_id leaves id) []
