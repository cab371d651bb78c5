-- What stands side by side.
use Rattle.std.proofs.Common.{◌≡◌, ◌∙◌, ℕ, ◌/◌, ◌%◌, ◌<◌, ◌≤◌, List, [], length, map, get_or, sym, ap, subst, arith}
use Rattle.std.proofs.Math.Nat.{mod-lt}
use Rattle.std.proofs.lemmas.List.{get_or-map, length-map}
use Rattle.std.proofs.lemmas.List.FromFn.{get_or-map-range_with_len, length-map-range_with_len}
use Rattle.ann_defs.specs.declared.near.Near.{Near}
use Rattle.live_session.specs.Rows.{Row}
use Rattle.live_session.specs.SideBySide.{AreFull, item_of, side_by_side}

module _ (rows : List Row) (count j callers : ℕ) (row : Row) (some : 1 ≤ length rows) (width : callers ≡ length rows) (there : row ≡ get_or rows (j % callers) row) where
  abbrev lists : List (List (ℕ × List Near))
  lists = map (λ (r : Row). r.answers) rows

  width_is : length lists ≡ callers
  width_is = length-map rows (λ (r : Row). r.answers) ∙ sym width

  list_is : get_or lists (j % callers) [] ≡ row.answers
  list_is =
      let less = mod-lt j {m = callers} (omega (arith, some, width)) in
      get_or-map (λ (r : Row). r.answers) rows (j % callers) row [] (omega (arith, less, width)) ∙ ap (λ (r : Row). r.answers) (sym there)

  -- the place of an item is in its list
  pub place_there : AreFull lists count → j < count → j / callers < length row.answers
  place_there full lt =
      subst (λ (xs : List (ℕ × List Near)). j / callers < length xs) list_is
      (subst (λ w. j / w < length (get_or lists (j % w) [])) width_is (full j lt))

  -- and so is the item
  pub item_there : j < count → get_or (side_by_side lists count (0, [])) j (0, []) ≡ get_or row.answers (j / callers) (0, [])
  item_there lt =
      get_or-map-range_with_len (λ m. item_of lists m (0, [])) 0 count j j (0, []) lt (omega arith)
      ∙ ap (λ w. get_or (get_or lists (j % w) []) (j / w) (0, [])) width_is
      ∙ ap (λ (xs : List (ℕ × List Near)). get_or xs (j / callers) (0, [])) list_is

  -- an item of a list that stands side by side is in its own list
  module _ (answers : List (ℕ × List Near)) (is : side_by_side lists count (0, []) ≡ answers) (lt : j < length answers) where
    within : j < count
    within =
        let size = length-map-range_with_len (λ m. item_of lists m (0, [])) 0 count in
        let same = ap (λ (xs : List (ℕ × List Near)). length xs) is in
        omega (arith, size, same, lt)

    pub place_in : AreFull lists count → j / callers < length row.answers
    place_in full = place_there full within

    pub item_in : get_or row.answers (j / callers) (0, []) ≡ get_or answers j (0, [])
    item_in = sym (item_there within) ∙ ap (λ (xs : List (ℕ × List Near)). get_or xs j (0, [])) is
