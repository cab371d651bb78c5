-- The new rows of a point, one after another.
use Rattle.std.proofs.Common.{◌≡◌, ℕ, zero, suc, ◌+◌, ◌-◌, ◌*◌, ◌<◌, ◌≤◌, List, [], ◌∷◌, ◌++◌, take, drop, replicate, length, sym, ap, ◌∙◌, inl, inr, arith, length-append}
use Rattle.std.proofs.lemmas.Bool.{cases_lt}
use Rattle.std.proofs.lemmas.List.{length-map, take_at, drop_at, length-take-le}
use Rattle.std.proofs.Math.Seq.{drop-append-add}
use Rattle.std.proofs.Math.Nat.{mul-le-mul_right}
use borrow.Rule.Slice.PartMut.{put_mid, post_of, Post-is}
use Rattle.ann_defs.specs.declared.near.Near.{Near}
use Rattle.ann_defs.specs.Distance.{point}
use Rattle.ann_defs.specs.Nearness.{near_cmp, all_near, ids_of}
use Rattle.ann_defs.specs.Ordered.{ordered}
use Rattle.ann_defs.specs.Graph.{without}
use Rattle.ann_defs.specs.GreedySearch.{found_of}
use Rattle.ann_defs.specs.RobustPrune.{kept, stays, pruned_row}
use Rattle.ann_defs.proofs.GoodRows.{kept_short}
use Rattle.batch_insert.specs.Padded.{padded}
use Rattle.batch_insert.proofs.Padding.{length-padded}
use Rattle.layered_search.specs.KnnSearch.{entries_down}
use Rattle.layered_search.proofs.Walking.{entries_next, entries_done}
use Rattle.hnsw_build.specs.Layering.{level_in, top_of}
use Rattle.hnsw_build.specs.LayeredInsert.{LayeredBuild, found_for, new_row_in, row_of_layer, entries_for}
use Rattle.hnsw_build.specs.Wanted.{rows_from, rows_of_point, block_of_point}

prune_short : (points : List (List ℕ)) (p : ℕ) (set : List ℕ) (num den r : ℕ) → length (pruned_row points p set num den r) ≤ r
prune_short points p set num den r =
    let xs = ordered near_cmp (all_near points (point points p) set) in
    let short = kept_short (stays points num den) r xs in
    rw (length-map (kept (stays points num den) r xs) (λ (y : Near). y.id)) short

-- the entries into the next layer are what was found in the one above
pub entries_last : (points : List (List ℕ)) (row : ℕ → ℕ → List ℕ) (query : List ℕ) (beam : ℕ) (entries : List ℕ) (from l : ℕ) → l < from
    → entries_down points row query beam entries from l ≡ ids_of (found_of points (row (suc l)) query beam (entries_down points row query beam entries from (suc l)))
entries_last points row query beam entries zero l lt = absurd (omega arith)
entries_last points row query beam entries (suc from) l lt =
    let next = ids_of (found_of points (row (suc from)) query beam entries) in
    elim (cases_lt l from) as (λ _. entries_down points row query beam entries (suc from) l ≡ ids_of (found_of points (row (suc l)) query beam (entries_down points row query beam entries (suc from) (suc l)))) [
      | inl less ↦
          entries_next points row query beam entries from l (omega (arith, less))
          ∙ entries_last points row query beam next from l less
          ∙ ap (λ (es : List ℕ). ids_of (found_of points (row (suc l)) query beam es)) (sym (entries_next points row query beam entries from (suc l) (omega (arith, less))))
      | inr more ↦
          let same : from ≡ l = omega (arith, more, lt) in
          entries_next points row query beam entries from l (omega (arith, same))
          ∙ entries_done points row query beam next from l (omega (arith, same))
          ∙ (λ i. ids_of (found_of points (row (suc (same i))) query beam entries))
          ∙ ap (λ (es : List ℕ). ids_of (found_of points (row (suc l)) query beam es)) (sym (entries_done points row query beam entries (suc from) (suc l) (omega (arith, same))))
    ]

pub next_entries : (b : LayeredBuild) (layers : List (List (List ℕ))) (p l : ℕ) → l < level_in b.levels p → entries_for b layers p l ≡ ids_of (found_for b layers p (suc l))
next_entries b layers p l lt =
    let query = point b.points p in
    let row = row_of_layer layers in
    entries_last b.points row query b.beam (entries_down b.points row query 1 (b.start ∷ []) (top_of b.levels) (level_in b.levels p)) (level_in b.levels p) l lt

module _ (b : LayeredBuild) (layers : List (List (List ℕ))) (p : ℕ) where
  abbrev size : ℕ
  size = b.degree + 1

  abbrev piece : ℕ → List ℕ
  piece l = padded size (new_row_in b layers l p)

  pub row_short : (l : ℕ) → length (new_row_in b layers l p) ≤ b.degree
  row_short l = prune_short b.points p (without p (ids_of (found_for b layers p l))) 1 1 b.degree

  pub length_piece : (l : ℕ) → length (piece l) ≡ size
  length_piece l = let short = row_short l in length-padded size (new_row_in b layers l p) (omega (arith, short))

  pub length_rows : (from count : ℕ) → length (rows_from b layers p from count) ≡ count * size
  length_rows from zero = omega arith
  length_rows from (suc count) =
      let rest = length_rows (from + 1) count in
      let first = length_piece from in
      length-append (piece from) (rows_from b layers p (from + 1) count) ∙ (λ i. first i + rest i) ∙ omega arith

  -- without the first l rows
  pub drop_rows : (l from count : ℕ) → l ≤ count → drop (l * size) (rows_from b layers p from count) ≡ rows_from b layers p (from + l) (count - l)
  drop_rows zero from count le =
      let none : 0 * size ≡ 0 = omega arith in
      let same : from ≡ from + 0 = omega arith in
      let all : count ≡ count - 0 = omega arith in
      ap (λ k. drop k (rows_from b layers p from count)) none ∙ (λ i. rows_from b layers p (same i) (all i))
  drop_rows (suc l) from zero le = absurd (omega arith)
  drop_rows (suc l) from (suc count) le =
      let first = length_piece from in
      let split : suc l * size ≡ length (piece from) + l * size = omega (arith, first) in
      let from_same : from + 1 + l ≡ from + suc l = omega arith in
      let count_same : count - l ≡ suc count - suc l = omega arith in
      (λ i. drop (split i) (piece from ++ rows_from b layers p (from + 1) count))
      ∙ drop-append-add (piece from) (rows_from b layers p (from + 1) count) (l * size)
      ∙ drop_rows l (from + 1) count (omega arith)
      ∙ (λ i. rows_from b layers p (from_same i) (count_same i))

  pub take_row : (from count : ℕ) → 0 < count → take size (rows_from b layers p from count) ≡ piece from
  take_row from zero some = absurd (omega arith)
  take_row from (suc count) some = take_at (piece from) (rows_from b layers p (from + 1) count) size (length_piece from)

  -- the row of layer l
  pub row_at : (l count : ℕ) → l < count → take size (drop (l * size) (rows_from b layers p 0 count)) ≡ piece l
  row_at l count lt =
      let same : 0 + l ≡ l = omega arith in
      ap (take size) (drop_rows l 0 count (omega arith) ∙ ap (λ k. rows_from b layers p k (count - l)) same) ∙ take_row l (count - l) (omega arith)

  pub no_rows : (from count : ℕ) → count ≡ 0 → rows_from b layers p from count ≡ []
  no_rows from count none = ap (rows_from b layers p from) none

  -- one row more, before the others
  pub row_before : (l count : ℕ) (out new : List ℕ) → 0 < l → l ≤ count → length out ≡ count * size → new ≡ piece (l - 1) → drop (l * size) out ≡ rows_from b layers p l (count - l)
      → drop ((l - 1) * size) (put_mid ((l - 1) * size) ((l - 1) * size + size - (l - 1) * size) out new) ≡ rows_from b layers p (l - 1) (count - (l - 1))
  row_before l count out new some within long is rest =
      let at = (l - 1) * size in
      let one : l ≡ l - 1 + 1 = omega arith in
      let low : l * size ≡ at + size = ap (λ k. k * size) one ∙ omega arith in
      let bound : l * size ≤ count * size = mul-le-mul_right {m = l} {n = count} size within in
      let before : length (take at out) ≡ at = length-take-le at out (omega (arith, long, bound, low)) in
      let len : at + size - at ≡ size = omega arith in
      let post : post_of at (at + size - at) out ≡ drop (l * size) out = Post-is at (at + size) out (omega arith) ∙ ap (λ k. drop k out) (sym low) in
      let count_same : count - (l - 1) ≡ suc (count - l) = omega arith in
      drop_at (take at out) (new ++ post_of at (at + size - at) out) at before
      ∙ (λ i. is i ++ (post ∙ rest) i)
      ∙ ap (λ k. piece (l - 1) ++ rows_from b layers p k (count - l)) one
      ∙ ap (rows_from b layers p (l - 1)) (sym count_same)

  -- the rows, and the zeros behind them
  pub block_front : take ((level_in b.levels p + 1) * size) (block_of_point b layers p) ≡ rows_of_point b layers p
  block_front = take_at (rows_of_point b layers p) (replicate ((top_of b.levels - level_in b.levels p) * size) 0) ((level_in b.levels p + 1) * size) (length_rows 0 (level_in b.levels p + 1))

  pub block_room : (level_in b.levels p + 1) * size ≤ length (block_of_point b layers p)
  block_room =
      let rows = length_rows 0 (level_in b.levels p + 1) in
      let all = length-append (rows_of_point b layers p) (replicate {A = ℕ} ((top_of b.levels - level_in b.levels p) * size) 0) in
      omega (arith, rows, all)
