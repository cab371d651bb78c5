-- Rows in blocks of a size.
use Rattle.std.proofs.Common.{◌≡◌, ℕ, ◌+◌, ◌-◌, ◌<◌, ◌≤◌, List, [], ◌∷◌, ◌++◌, map, take, drop, replicate, length, get_or, refl, sym, ap, ◌∙◌, subst, arith, length-append}
use Rattle.std.specs.Prelude.{slice_index}
use Rattle.std.specs.List.{All}
use borrow.Rule.Slice.PartMut.{put_mid, post_of}
use Rattle.std.proofs.lemmas.List.{length-map, length-replicate, get_or-map, get_or_default, take_at, drop_at, take-append-le, length-take-le}
use Rattle.std.proofs.lemmas.List.Elements.{Contains-get_or}
use Rattle.ann_defs.specs.Ordered.{Has, Ascends}
use Rattle.ann_defs.proofs.Order.{has_from_Contains, Contains-from_has}
use Rattle.graph_rows.specs.Blocks.{row_in}
use Rattle.graph_rows.specs.Layers.{place_in}
use Rattle.graph_rows.proofs.Finding.{found}
use Rattle.graph_rows.proofs.BlockRows.{length-put_mid_same}
use Rattle.batch_insert.specs.Padded.{padded, row_by_id}

pub length-padded : (size : ℕ) (ids : List ℕ) → length ids + 1 ≤ size → length (padded size ids) ≡ size
length-padded size ids h = rw (length-append (length ids ∷ ids) (replicate {A = ℕ} (size - (length ids + 1)) 0), length-replicate {A = ℕ} (size - (length ids + 1)) 0) (omega arith)

pub row_in_padded : (size : ℕ) (ids : List ℕ) → row_in (padded size ids) ≡ ids
row_in_padded size ids = take_at ids (replicate {A = ℕ} (size - (length ids + 1)) 0) (length ids) refl

-- a block whose ids were written behind its first word
pub written : (out new last : List ℕ) (size len : ℕ) → length out ≡ size + 1 → length new ≡ length out - 1 → len ≤ size → last ≡ padded (length (put_mid 1 (length out - 1) out new)) (take len (drop 1 (put_mid 1 (length out - 1) out new))) → last ≡ padded (size + 1) (take len new)
written out new last size len whole behind few is =
    let post = post_of 1 (length out - 1) out in
    let first : length (take 1 out) ≡ 1 = length-take-le 1 out (omega arith) in
    let rest : drop 1 (put_mid 1 (length out - 1) out new) ≡ new ++ post = drop_at (take 1 out) (new ++ post) 1 first in
    let row : take len (drop 1 (put_mid 1 (length out - 1) out new)) ≡ take len new = ap (take len) rest ∙ take-append-le len new post (omega arith) in
    let long : length (put_mid 1 (length out - 1) out new) ≡ size + 1 =
    let e : 1 + (length out - 1) - 1 ≡ length out - 1 = omega arith in
    ap (λ k. length (put_mid 1 k out new)) (sym e) ∙ length-put_mid_same out 1 (length out - 1) new behind (omega arith) ∙ whole in
    is ∙ (λ i. padded (long i) (row i))

-- a block among those of a list of rows
module _ (f : ℕ → List ℕ) (degree : ℕ) (batch : List ℕ) (few : (p : ℕ) → Has batch p → length (f p) ≤ degree) (i : ℕ) (within : i < length batch) (block : List ℕ) (is : block ≡ get_or (map (λ p. padded (degree + 1) (f p)) batch) i []) where
  block_is : block ≡ padded (degree + 1) (f (get_or batch i 0))
  block_is = is ∙ get_or-map (λ p. padded (degree + 1) (f p)) batch i 0 [] within

  pub block_fits : slice_index block 0 + 1 ≤ length block
  block_fits =
      let short = few (get_or batch i 0) (has_from_Contains batch (get_or batch i 0) (Contains-get_or batch i 0 within)) in
      rw block_is (rw (length-padded (degree + 1) (f (get_or batch i 0)) (omega arith)) (omega arith))

  pub block_row : row_in block ≡ f (get_or batch i 0)
  block_row = ap row_in block_is ∙ row_in_padded (degree + 1) (f (get_or batch i 0))

-- blocks of rows hold these rows by their ids
module _ (f : ℕ → List ℕ) (degree : ℕ) (ids : List ℕ) (up : Ascends ids) where
  abbrev blocks : List (List ℕ)
  blocks = map (λ p. padded (degree + 1) (f p)) ids

  pub row_by_id_is : (u : ℕ) → Has ids u → row_by_id ids blocks u ≡ f u
  row_by_id_is u h =
      let at = Contains-from_has ids u h in
      let within : at.0 < length ids = at.1 in
      let place : at.0 ≡ place_in ids u = (found ids u at.0 up within (get_or_default ids at.0 0 u within ∙ at.2)).0 in
      ap (λ k. row_in (get_or blocks k [])) (sym place)
      ∙ ap row_in (get_or-map (λ p. padded (degree + 1) (f p)) ids at.0 0 [] within)
      ∙ row_in_padded (degree + 1) (f (get_or ids at.0 0))
      ∙ ap f (get_or_default ids at.0 0 u within ∙ at.2)

  pub blocks_whole : ((u : ℕ) → Has ids u → length (f u) ≤ degree) → All (λ block. slice_index block 0 + 1 ≤ length block) blocks
  blocks_whole few = λ k d within.
      let at : k < length ids = subst (λ m. k < m) (length-map ids (λ p. padded (degree + 1) (f p))) within in
      block_fits f degree ids few k at (get_or blocks k d) (get_or_default blocks k d [] within)
