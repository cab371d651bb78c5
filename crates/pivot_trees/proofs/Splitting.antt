-- What a split keeps of its list.
use Rattle.std.proofs.Common.{◌≡◌, ℕ, zero, suc, ◌+◌, ◌-◌, ◌/◌, ◌<◌, ◌≤◌, true, false, cond, not, List, [], ◌∷◌, ◌++◌, take, drop, length, get_or, refl, sym, ap, ◌∙◌, subst, inl, inr, arith}
use Rattle.std.specs.Prelude.{◌==◌, ◌||◌, ◌⊎◌, nat_lt}
use Rattle.std.specs.List.{filter, sum_by}
use Rattle.std.proofs.lemmas.Bool.{or_parts, or_from, or_left, or_right, le-ltb, lt-ltb, ne_eqb, eq-eqb, cases_Bool, cond_both}
use Rattle.std.proofs.lemmas.List.{length-take-le, length-drop, take-append-drop}
use Rattle.std.proofs.lemmas.List.Sums.{sum_by-cons}
use Rattle.std.proofs.lemmas.List.Filters.{length-filter_both}
use Rattle.ann_defs.specs.Ordered.{Has}
use Rattle.ann_defs.proofs.Members.{has-append, append-has, has-filter, filter_has}
use Rattle.pivot_trees.specs.Leaves.{halves, is_left, first_place, second_place, sides_by, sides_of, parts_of, splits_from, parts_from}

-- parts with the ids of a list, of which a list of two or more leaves none empty
pub record IsSplit (ids : List ℕ) (parts : List ℕ × List ℕ) : Type 0 where
  pub total : length parts.0 + length parts.1 ≡ length ids
  pub left : 2 ≤ length ids → 1 ≤ length parts.0
  pub right : 2 ≤ length ids → 1 ≤ length parts.1
  pub from_list : (u : ℕ) → Has parts.0 u ⊎ Has parts.1 u → Has ids u
  pub to_parts : (u : ℕ) → Has ids u → Has parts.0 u ⊎ Has parts.1 u

pub halves_split : (ids : List ℕ) → IsSplit ids (halves ids)
halves_split ids =
    let half = (length ids + 1) / 2 in
    let fits : half ≤ length ids = omega arith in
    let first : length (take half ids) ≡ half = length-take-le half ids fits in
    let rest : length (drop half ids) ≡ length ids - half = length-drop half ids in
    record {
      total = omega (arith, first, rest);
      left = λ some. omega (arith, first);
      right = λ some. omega (arith, rest);
      from_list = λ u h. subst (λ (xs : List ℕ). Has xs u) (take-append-drop half ids) (append-has (take half ids) (drop half ids) u h);
      to_parts = λ u h. has-append (take half ids) (drop half ids) u (subst (λ (xs : List ℕ). Has xs u) (sym (take-append-drop half ids)) h);
    }

pub sides_split : (points : List (List ℕ)) (p q : ℕ) (ids : List ℕ) → 1 ≤ length (sides_by points p q ids).0 → 1 ≤ length (sides_by points p q ids).1 → IsSplit ids (sides_by points p q ids)
sides_split points p q ids some other =
    let near = is_left points p q in
    let far = λ (id : ℕ). not (near id) in
    record {
      total = length-filter_both near far (λ _. refl) ids;
      left = λ _. some;
      right = λ _. other;
      from_list = λ u h. elim h as (λ _. Has ids u) [ inl m ↦ (filter_has near ids u m).0 | inr m ↦ (filter_has far ids u m).0 ];
      to_parts = λ u h. elim (cases_Bool (near u)) as (λ _. Has (filter near ids) u ⊎ Has (filter far ids) u) [
        | inl is ↦ inl (has-filter near ids u is h)
        | inr is ↦ inr (has-filter far ids u (ap not is) h)
      ];
    }

pub some_left : (n : ℕ) → (n == 0) ≡ false → 1 ≤ n
some_left zero e = cc
some_left (suc n) e = omega arith

module _ (points : List (List ℕ)) (seed tree : ℕ) where
  pub parts_split : (depth j : ℕ) (ids : List ℕ) → IsSplit ids (parts_of points seed tree depth j ids)
  unfolding parts_of
  parts_split depth j ids =
      let sides = sides_of points seed tree j ids in
      cond_both (nat_lt 48 depth || (length sides.0 == 0 || length sides.1 == 0)) (halves ids) sides (IsSplit ids)
      (λ _. halves_split ids)
      (λ other.
      let none = or_parts (length sides.0 == 0) (length sides.1 == 0) (or_parts (nat_lt 48 depth) (length sides.0 == 0 || length sides.1 == 0) other).1 in
      sides_split points _ _ ids (some_left (length sides.0) none.0) (some_left (length sides.1) none.1))

  -- where neither side of the pivots is empty, the parts are the sides
  pub parts_sides : (depth j : ℕ) (ids : List ℕ) (p q left : ℕ) → depth ≤ 48 → p ≡ get_or ids (first_place seed tree j (length ids)) 0 → q ≡ get_or ids (second_place seed tree j (length ids)) 0 → left ≡ length (sides_by points p q ids).0 → 0 < left → left < length ids
      → sides_by points p q ids ≡ parts_of points seed tree depth j ids
  unfolding parts_of
  parts_sides depth j ids p q left low first second is some less =
      let sides = sides_of points seed tree j ids in
      let same : sides_by points p q ids ≡ sides = λ i. sides_by points (first i) (second i) ids in
      let total = length-filter_both (is_left points p q) (λ id. not (is_left points p q id)) (λ _. refl) ids in
      let none : (nat_lt 48 depth || (length sides.0 == 0 || length sides.1 == 0)) ≡ false =
      or_from (nat_lt 48 depth) (length sides.0 == 0 || length sides.1 == 0) (le-ltb 48 depth low)
      (or_from (length sides.0 == 0) (length sides.1 == 0)
      (ap (λ (s : List ℕ × List ℕ). length s.0 == 0) (sym same) ∙ ne_eqb (length (sides_by points p q ids).0) 0 (λ e. absurd (omega (arith, is, e, some))))
      (ap (λ (s : List ℕ × List ℕ). length s.1 == 0) (sym same) ∙ ne_eqb (length (sides_by points p q ids).1) 0 (λ e. absurd (omega (arith, is, e, less, total))))) in
      same ∙ ap (λ b. cond b (halves ids) sides) (sym none)

  -- where one is, they are the halves
  pub parts_alike : (depth j : ℕ) (ids : List ℕ) (p q left : ℕ) → p ≡ get_or ids (first_place seed tree j (length ids)) 0 → q ≡ get_or ids (second_place seed tree j (length ids)) 0 → left ≡ length (sides_by points p q ids).0 → (left ≡ 0) ⊎ (length ids ≤ left)
      → halves ids ≡ parts_of points seed tree depth j ids
  unfolding parts_of
  parts_alike depth j ids p q left first second is one =
      let sides = sides_of points seed tree j ids in
      let same : sides_by points p q ids ≡ sides = λ i. sides_by points (first i) (second i) ids in
      let total = length-filter_both (is_left points p q) (λ id. not (is_left points p q id)) (λ _. refl) ids in
      let empty : (length sides.0 == 0 || length sides.1 == 0) ≡ true =
      elim one as (λ _. (length sides.0 == 0 || length sides.1 == 0) ≡ true) [
        | inl e ↦ or_left (length sides.0 == 0) (length sides.1 == 0) (ap (λ (s : List ℕ × List ℕ). length s.0 == 0) (sym same) ∙ eq-eqb (length (sides_by points p q ids).0) 0 (omega (arith, is, e)))
        | inr m ↦ or_right (length sides.0 == 0) (length sides.1 == 0) (ap (λ (s : List ℕ × List ℕ). length s.1 == 0) (sym same) ∙ eq-eqb (length (sides_by points p q ids).1) 0 (omega (arith, is, m, total)))
      ] in
      ap (λ b. cond b (halves ids) sides) (sym (or_right (nat_lt 48 depth) (length sides.0 == 0 || length sides.1 == 0) empty))

  -- and at each depth over 48
  pub parts_deep : (depth j : ℕ) (ids : List ℕ) → 48 < depth → halves ids ≡ parts_of points seed tree depth j ids
  unfolding parts_of
  parts_deep depth j ids deep =
      let sides = sides_of points seed tree j ids in
      ap (λ b. cond b (halves ids) sides) (sym (or_left (nat_lt 48 depth) (length sides.0 == 0 || length sides.1 == 0) (lt-ltb 48 depth deep)))

  pub length-splits : (depth j : ℕ) (lists : List (List ℕ)) → length (splits_from points seed tree depth j lists) ≡ length lists
  length-splits depth j [] = refl
  length-splits depth j (ids ∷ rest) = ap suc (length-splits depth (j + 1) rest)

  pub split_at : (depth j : ℕ) (lists : List (List ℕ)) (k : ℕ) (d : List ℕ × List ℕ) → k < length lists → get_or (splits_from points seed tree depth j lists) k d ≡ parts_of points seed tree depth (j + k) (get_or lists k [])
  split_at depth j [] k d lt = absurd (omega arith)
  split_at depth j (ids ∷ rest) zero d lt = let same : j ≡ j + 0 = omega arith in ap (λ i. parts_of points seed tree depth i ids) same
  split_at depth j (ids ∷ rest) (suc k) d lt = let same : j + 1 + k ≡ j + suc k = omega arith in split_at depth (j + 1) rest k d (omega arith) ∙ ap (λ i. parts_of points seed tree depth i (get_or rest k [])) same

  pub splits-append : (depth j : ℕ) (xs ys : List (List ℕ)) → splits_from points seed tree depth j (xs ++ ys) ≡ splits_from points seed tree depth j xs ++ splits_from points seed tree depth (j + length xs) ys
  splits-append depth j [] ys = let same : j ≡ j + 0 = omega arith in ap (λ i. splits_from points seed tree depth i ys) same
  splits-append depth j (ids ∷ xs) ys =
      let same : j + 1 + length xs ≡ j + suc (length xs) = omega arith in
      ap (λ (rest : List (List ℕ × List ℕ)). parts_of points seed tree depth j ids ∷ rest) (splits-append depth (j + 1) xs ys ∙ ap (λ i. splits_from points seed tree depth (j + 1) xs ++ splits_from points seed tree depth i ys) same)

  -- the parts have the ids of the lists
  pub sum-parts : (depth j : ℕ) (lists : List (List ℕ)) → sum_by (λ ids. length ids) (parts_from points seed tree depth j lists) ≡ sum_by (λ ids. length ids) lists
  sum-parts depth j [] = refl
  sum-parts depth j (ids ∷ rest) =
      let size = λ (xs : List ℕ). length xs in
      let parts = parts_of points seed tree depth j ids in
      let more = parts_from points seed tree depth (j + 1) rest in
      let split = parts_split depth j ids in
      let both_sizes : sum_by size (parts.0 ∷ parts.1 ∷ more) ≡ length parts.0 + (length parts.1 + sum_by size more) = sum_by-cons size parts.0 (parts.1 ∷ more) ∙ ap (λ n. length parts.0 + n) (sum_by-cons size parts.1 more) in
      let list_size = sum_by-cons size ids rest in
      let rest_size = sum-parts depth (j + 1) rest in
      let total = split.total in
      omega (arith, both_sizes, list_size, rest_size, total)

  -- each part is of a list
  pub record IsPartOf (depth : ℕ) (lists : List (List ℕ)) (part : List ℕ) : Type 0 where
    pub ids : List ℕ
    pub number : ℕ
    pub there : Has lists ids
    pub is : (part ≡ (parts_of points seed tree depth number ids).0) ⊎ (part ≡ (parts_of points seed tree depth number ids).1)

  pub part_of_list : (depth j : ℕ) (lists : List (List ℕ)) (part : List ℕ) → Has (parts_from points seed tree depth j lists) part → IsPartOf depth lists part
  part_of_list depth j [] part h = absurd h
  part_of_list depth j (ids ∷ rest) part h =
      let deeper : Has (parts_from points seed tree depth (j + 1) rest) part → IsPartOf depth (ids ∷ rest) part = λ m. let found = part_of_list depth (j + 1) rest part m in record { ids = found.ids; number = found.number; there = inr found.there; is = found.is } in
      elim h as (λ _. IsPartOf depth (ids ∷ rest) part) [
        | inl e ↦ record { ids = ids; number = j; there = inl refl; is = inl (sym e) }
        | inr m ↦ elim m as (λ _. IsPartOf depth (ids ∷ rest) part) [
          | inl e ↦ record { ids = ids; number = j; there = inl refl; is = inr (sym e) }
          | inr k ↦ deeper k
        ]
      ]

  -- an id of a list is in a part
  pub id_in_part : (depth j : ℕ) (lists : List (List ℕ)) (ids : List ℕ) (u : ℕ) → Has lists ids → Has ids u → (part : List ℕ) × Has (parts_from points seed tree depth j lists) part × Has part u
  id_in_part depth j [] ids u h m = absurd h
  id_in_part depth j (list ∷ rest) ids u h m =
      let parts = parts_of points seed tree depth j list in
      let more = parts_from points seed tree depth (j + 1) rest in
      elim h as (λ _. (part : List ℕ) × Has (parts.0 ∷ parts.1 ∷ more) part × Has part u) [
        | inl e ↦ elim ((parts_split depth j list).to_parts u (subst (λ (xs : List ℕ). Has xs u) (sym e) m)) as (λ _. (part : List ℕ) × Has (parts.0 ∷ parts.1 ∷ more) part × Has part u) [
          | inl k ↦ (parts.0, inl refl, k)
          | inr k ↦ (parts.1, inr (inl refl), k)
        ]
        | inr k ↦ let found = id_in_part depth (j + 1) rest ids u k m in (found.0, inr (inr found.1), found.2)
      ]
