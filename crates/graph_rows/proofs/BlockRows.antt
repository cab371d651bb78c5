-- Rows in blocks of words.
use Rattle.std.proofs.Common.{◌≡◌, ◌≢◌, ℕ, zero, suc, ◌+◌, ◌-◌, ◌*◌, ◌<◌, ◌≤◌, List, [], ◌++◌, map, take, drop, set, replicate, length, get_or, refl, sym, ap, ◌∙◌, subst, inl, inr, arith, length-set, get_or-set_same, get_or-set_other, length-append, length-take, length-drop}
use Rattle.std.specs.Prelude.{slice_range, slice_index, ◌⊎◌}
use Rattle.std.specs.List.{All}
use borrow.Rule.Slice.PartMut.{put_mid}
use Rattle.std.proofs.Math.Nat.{mul-le-mul_right}
use Rattle.std.proofs.lemmas.List.{get_or-map, length-map, get_or-take, get_or-drop, drop-take, drop-drop, take-take, take_at, map-set, ext_get_or, length-replicate, get_or-replicate, drop-replicate}
use Rattle.std.proofs.lemmas.List.Elements.{All-set, All-get_or, All-from_get_or}
use Rattle.std.proofs.lemmas.Slice.{between_is, take-put_mid_below, drop-put_mid, between-put_mid}
use Rattle.std.proofs.lemmas.Bool.{cases_order}
use Rattle.graph_rows.specs.Blocks.{rows_of}
use Rattle.graph_rows.proofs.Parts.{length-rows, point-rows, ends_within}
use Rattle.graph_rows.specs.Blocks.{row_in, block_of, rows_in, AreBlocks}

pub length-rows_in : (n w : ℕ) (words : List ℕ) → length (rows_in n w words) ≡ n
length-rows_in n w words = length-map (rows_of n (w + 1) words) row_in ∙ length-rows n (w + 1) words

pub row-rows_in : (n w : ℕ) (words : List ℕ) (i : ℕ) → i < n → get_or (rows_in n w words) i [] ≡ row_in (slice_range words (i * (w + 1)) (i * (w + 1) + (w + 1)))
row-rows_in n w words i h =
    get_or-map row_in (rows_of n (w + 1) words) i [] [] (subst (λ k. i < k) (sym (length-rows n (w + 1) words)) h) ∙ ap row_in (point-rows n (w + 1) words i h)

-- the first word of a block
pub first_word : (words : List ℕ) (from size : ℕ) → 0 < size → get_or (slice_range words from (from + size)) 0 0 ≡ get_or words from 0
first_word words from size h = get_or-take (from + size - from) (drop from words) 0 0 (omega arith) ∙ get_or-drop from words 0 0 ∙ (let e : from + 0 ≡ from = omega arith in ap (λ k. get_or words k 0) e)

-- the row, as it is read
pub read_row : (words : List ℕ) (from w len : ℕ) → len ≤ w → len ≡ get_or words from 0 → take (from + 1 + len - (from + 1)) (drop (from + 1) words) ≡ row_in (slice_range words from (from + (w + 1)))
read_row words from w len h e =
    let n : from + 1 + len - (from + 1) ≡ len = omega arith in
    let m : from + (w + 1) - from ≡ 1 + w = omega arith in
    let first : get_or (slice_range words from (from + (w + 1))) 0 0 ≡ len = first_word words from (w + 1) (omega arith) ∙ sym e in
    let rest : drop 1 (slice_range words from (from + (w + 1))) ≡ take w (drop (from + 1) words) =
    ap (λ k. drop 1 (take k (drop from words))) m ∙ drop-take 1 w (drop from words) ∙ ap (take w) (drop-drop 1 from words) in
    ap (λ k. take k (drop (from + 1) words)) n
    ∙ sym (ap (λ k. take k (drop 1 (slice_range words from (from + (w + 1))))) first ∙ ap (take len) rest ∙ take-take len w (drop (from + 1) words) h)

ends_before : (d i j : ℕ) → i < j → i * d + d ≤ j * d
ends_before d i j h = let more : (i + 1) * d ≤ j * d = grind (arith, mul-le-mul_right) in omega arith

-- another block at the place i
module _ (n d : ℕ) (words : List ℕ) (i : ℕ) (block : List ℕ) (at : i < n) (whole : length words ≡ n * d) (size : length block ≡ d) where
  abbrev after : List ℕ
  after = put_mid (i * d) (i * d + d - i * d) words block

  within : i * d ≤ length words
  within = let e = ends_within n d words i at whole in omega arith

  long : length block ≡ i * d + d - i * d
  long = omega arith

  block_at : (j : ℕ) → j < n → (j ≡ i) ⊎ ((j < i) ⊎ (i < j)) → slice_range after (j * d) (j * d + d) ≡ get_or (set (rows_of n d words) i block) j []
  block_at j k c =
      elim c as (λ _. slice_range after (j * d) (j * d + d) ≡ get_or (set (rows_of n d words) i block) j []) [
        | inl e ↦ subst (λ m. slice_range after (m * d) (m * d + d) ≡ get_or (set (rows_of n d words) i block) m []) (sym e)
            (between-put_mid (i * d) (i * d + d - i * d) words block (i * d + d) within long ∙ sym (get_or-set_same (rows_of n d words) i block [] (subst (λ m. i < m) (sym (length-rows n d words)) at)))
        | inr o ↦ elim o as (λ _. slice_range after (j * d) (j * d + d) ≡ get_or (set (rows_of n d words) i block) j []) [
          | inl h ↦
              let before = ends_before d j i h in
              let other : j ≢ i = omega arith in
              between_is after (j * d) (j * d + d)
              ∙ ap (drop (j * d)) (take-put_mid_below (i * d) (i * d + d - i * d) words block (j * d + d) before within)
              ∙ sym (between_is words (j * d) (j * d + d))
              ∙ sym (point-rows n d words j k)
              ∙ sym (get_or-set_other (rows_of n d words) i j block [] other)
          | inr h ↦
              let behind = ends_before d i j h in
              let other : j ≢ i = omega arith in
              ap (take (j * d + d - j * d)) (drop-put_mid (i * d) (i * d + d - i * d) words block (j * d) (omega arith) within long)
              ∙ sym (point-rows n d words j k)
              ∙ sym (get_or-set_other (rows_of n d words) i j block [] other)
        ]
      ]

  pub rows_of_put : rows_of n d after ≡ set (rows_of n d words) i block
  rows_of_put =
      ext_get_or [] (rows_of n d after) (set (rows_of n d words) i block) (length-rows n d after ∙ sym (length-set (rows_of n d words) i block ∙ length-rows n d words))
      (λ j h. let k : j < n = subst (λ m. j < m) (length-rows n d after) h in point-rows n d after j k ∙ block_at j k (cases_order j i))

-- a vector's words, written over by as many
pub words_written : (ws vs : List ℕ) (n : ℕ) → length ws ≡ n → length vs ≡ n → take n (ws ++ drop (length ws) vs) ≡ ws
words_written ws vs n e f = take_at ws (drop (length ws) vs) n e

-- a block that is given another row
pub row-block_of : (ids block : List ℕ) → row_in (block_of ids block) ≡ ids
row-block_of ids block = take_at ids (drop (length ids + 1) block) (length ids) refl

pub rows_in_put : (n w : ℕ) (words : List ℕ) (i : ℕ) (ids block : List ℕ) → i < n → length words ≡ n * (w + 1) → length (block_of ids block) ≡ w + 1 → rows_in n w (put_mid (i * (w + 1)) (i * (w + 1) + (w + 1) - i * (w + 1)) words (block_of ids block)) ≡ set (rows_in n w words) i ids
rows_in_put n w words i ids block at whole size =
    ap (map row_in) (rows_of_put n (w + 1) words i (block_of ids block) at whole size)
    ∙ map-set row_in (rows_of n (w + 1) words) i (block_of ids block)
    ∙ ap (set (rows_in n w words) i) (row-block_of ids block)

first_of_zeros : (k r : ℕ) → ◌≡◌ {A = ℕ} (get_or {A = ℕ} (take k (replicate r 0)) 0 0) 0
first_of_zeros zero r = refl
first_of_zeros (suc k) zero = refl
first_of_zeros (suc k) (suc r) = refl

-- rows of zeros are empty
pub rows_in_zeros : (n w m : ℕ) → rows_in n w (replicate m 0) ≡ replicate n []
rows_in_zeros n w m =
    ext_get_or [] (rows_in n w (replicate m 0)) (replicate n []) (length-rows_in n w (replicate m 0) ∙ sym (length-replicate n []))
    (λ j h.
    let k : j < n = subst (λ l. j < l) (length-rows_in n w (replicate m 0)) h in
    let from = j * (w + 1) in
    let block = slice_range (replicate m 0) from (from + (w + 1)) in
    let first : get_or block 0 0 ≡ 0 =
    ap (λ zs. get_or (take (from + (w + 1) - from) zs) 0 0) (drop-replicate from m 0) ∙ first_of_zeros (from + (w + 1) - from) (m - from) in
    row-rows_in n w (replicate m 0) j k ∙ ap (λ len. take len (drop 1 block)) first ∙ sym (get_or-replicate n j [] [] k))

-- the blocks of zeros have the length 0
pub zeros_short : (n w m : ℕ) → All (λ block. slice_index block 0 ≤ w) (rows_of n (w + 1) (replicate m 0))
zeros_short n w m = All-from_get_or (λ block. slice_index block 0 ≤ w) (rows_of n (w + 1) (replicate m 0)) [] (λ j h.
    let k : j < n = subst (λ l. j < l) (length-rows n (w + 1) (replicate m 0)) h in
    let from = j * (w + 1) in
    let first : get_or (slice_range (replicate m 0) from (from + (w + 1))) 0 0 ≡ 0 =
    ap (λ zs. get_or (take (from + (w + 1) - from) zs) 0 0) (drop-replicate from m 0) ∙ first_of_zeros (from + (w + 1) - from) (m - from) in
    rw (point-rows n (w + 1) (replicate m 0) j k, first) (omega arith))

-- the length of the row with this id
pub short_at : (n w : ℕ) (words : List ℕ) (i : ℕ) → AreBlocks n w words → i < n → get_or words (i * (w + 1)) 0 ≤ w
short_at n w words i are h =
    let block : slice_index (slice_range words (i * (w + 1)) (i * (w + 1) + (w + 1))) 0 ≤ w =
    subst (λ b. slice_index b 0 ≤ w) (point-rows n (w + 1) words i h) (All-get_or (λ b. slice_index b 0 ≤ w) (rows_of n (w + 1) words) i [] (subst (λ k. i < k) (sym (length-rows n (w + 1) words)) h) are.lengths) in
    subst (λ k. k ≤ w) (first_word words (i * (w + 1)) (w + 1) (omega arith)) block

pub length-put_mid_same : (words : List ℕ) (a d : ℕ) (block : List ℕ) → length block ≡ d → a + d ≤ length words → length (put_mid a (a + d - a) words block) ≡ length words
length-put_mid_same words a d block e h = simp (length-append, length-take, length-drop) (omega arith)

-- the words after another row is written
pub AreBlocks_put : (n w : ℕ) (words : List ℕ) (i : ℕ) (ids block : List ℕ) → AreBlocks n w words → i < n → length ids ≤ w → length (block_of ids block) ≡ w + 1 → AreBlocks n w (put_mid (i * (w + 1)) (i * (w + 1) + (w + 1) - i * (w + 1)) words (block_of ids block))
AreBlocks_put n w words i ids block are at few size =
    record {
      some = are.some;
      wide = are.wide;
      bound = are.bound;
      limit = are.limit;
      whole = let e = ends_within n (w + 1) words i at are.whole in length-put_mid_same words (i * (w + 1)) (w + 1) (block_of ids block) size e ∙ are.whole;
      lengths = rw (rows_of_put n (w + 1) words i (block_of ids block) at are.whole size) (All-set (λ b. slice_index b 0 ≤ w) (rows_of n (w + 1) words) i (block_of ids block) few are.lengths);
    }

-- what is written: the block of the words as they were, with another row
module _ (n w : ℕ) (words : List ℕ) (i : ℕ) (ids : List ℕ) (are : AreBlocks n w words) (at : i < n) (few : length ids ≤ w) where
  abbrev pub old_block : List ℕ
  old_block = take (i * (w + 1) + (w + 1) - i * (w + 1)) (drop (i * (w + 1)) words)

  abbrev pub written : List ℕ
  written = put_mid (i * (w + 1)) (i * (w + 1) + (w + 1) - i * (w + 1)) words (block_of ids old_block)

  pub length-new_block : length (block_of ids old_block) ≡ w + 1
  length-new_block =
      let end = ends_within n (w + 1) words i at are.whole in
      simp (length-append, length-drop, length-take) (omega arith)

  pub AreBlocks-written : AreBlocks n w written
  AreBlocks-written = AreBlocks_put n w words i ids old_block are at few length-new_block

  pub rows-written : rows_in n w written ≡ set (rows_in n w words) i ids
  rows-written = rows_in_put n w words i ids old_block at are.whole length-new_block

  -- as the vector has it afterwards
  pub items-written : (len : ℕ) (buf block : List ℕ) → length buf ≡ len → buf ≡ words → block ≡ block_of ids (take (i * (w + 1) + (w + 1) - i * (w + 1)) (drop (i * (w + 1)) buf)) → take len (put_mid (i * (w + 1)) (i * (w + 1) + (w + 1) - i * (w + 1)) buf block ++ drop (length (put_mid (i * (w + 1)) (i * (w + 1) + (w + 1) - i * (w + 1)) buf block)) words) ≡ written
  items-written len buf block long e f =
      let a = i * (w + 1) in
      let k = a + (w + 1) - a in
      let same : put_mid a k buf block ≡ written = λ j. put_mid a k (e j) ((f ∙ ap (λ ws. block_of ids (take k (drop a ws))) e) j) in
      let size : length written ≡ len = length-put_mid_same words a (w + 1) (block_of ids old_block) length-new_block (ends_within n (w + 1) words i at are.whole) ∙ sym (ap length e) ∙ long in
      ap (λ ws. take len (ws ++ drop (length ws) words)) same ∙ words_written written words len size (sym (ap length e) ∙ long)
