-- Answers in blocks.
use Rattle.std.proofs.Common.{◌≡◌, ℕ, zero, suc, ◌+◌, ◌*◌, ◌-◌, ◌<◌, ◌≤◌, List, [], ◌∷◌, ◌++◌, map, take, drop, replicate, length, get_or, refl, ap, ◌∙◌, arith, length-append, length-take}
use Rattle.std.specs.Prelude.{slice_index, min}
use Rattle.std.specs.List.{All}
use Rattle.std.proofs.lemmas.List.Elements.{All-nil, All-cons}
use Rattle.ann_defs.specs.declared.near.Near.{Near}
use Rattle.batch_search.specs.Blocks.{words_of, block_of, pairs_in, answer_in, HasAnswer}

pub length-words : (nears : List Near) → length (words_of nears) ≡ 2 * length nears
length-words [] = refl
length-words (x ∷ nears) = let rest = length-words nears in omega (arith, rest)

pub length-block : (size : ℕ) (nears : List Near) → 2 * length nears + 1 ≤ length (block_of size nears)
length-block size nears =
    let n = 2 * length nears + 1 in
    let all : length (block_of size nears) ≡ suc (length (words_of nears)) + length (replicate {A = ℕ} (size - n) 0) = length-append (length nears ∷ words_of nears) (replicate {A = ℕ} (size - n) 0) in
    let ws = length-words nears in
    omega (arith, all, ws)

pub has_answer : (size : ℕ) (nears : List Near) → HasAnswer (block_of size nears)
has_answer size nears = length-block size nears

-- what was written is what is read
pub pairs_words : (nears : List Near) (rest : List ℕ) → take (length nears) (pairs_in (words_of nears ++ rest)) ≡ nears
pairs_words [] rest = refl
pairs_words (x ∷ nears) rest = ap (λ (xs : List Near). x ∷ xs) (pairs_words nears rest)

pub answer_written : (size : ℕ) (nears : List Near) → answer_in (block_of size nears) ≡ nears
answer_written size nears = pairs_words nears (replicate (size - (2 * length nears + 1)) 0)

-- there are as many pairs as there are two words
pub pairs_enough : (ws : List ℕ) (n : ℕ) → 2 * n ≤ length ws → n ≤ length (pairs_in ws)
pairs_enough ws zero h = omega arith
pairs_enough [] (suc n) h = absurd (omega arith)
pairs_enough (id ∷ []) (suc n) h = absurd (omega arith)
pairs_enough (id ∷ dist ∷ ws) (suc n) h = let rest = pairs_enough ws n (omega arith) in omega (arith, rest)

pub pair_at : (ws : List ℕ) (i j : ℕ) (d : Near) → j ≡ 2 * i → suc j < length ws → get_or (pairs_in ws) i d ≡ record { dist = get_or ws (suc j) 0; id = get_or ws j 0 }
pair_at [] i j d e h = absurd (omega arith)
pair_at (id ∷ []) i j d e h = absurd (omega arith)
pair_at (id ∷ dist ∷ ws) zero zero d e h = refl
pair_at (id ∷ dist ∷ ws) zero (suc j) d e h = absurd (omega arith)
pair_at (id ∷ dist ∷ ws) (suc i) zero d e h = absurd (omega arith)
pair_at (id ∷ dist ∷ ws) (suc i) (suc zero) d e h = absurd (omega arith)
pair_at (id ∷ dist ∷ ws) (suc i) (suc (suc j)) d e h = pair_at ws i j d (omega arith) (omega arith)

-- the pair with this number in a block
pub block_pair : (block : List ℕ) (at : ℕ) (d : Near) → 2 * at + 2 < length block → get_or (pairs_in (drop 1 block)) at d ≡ record { dist = get_or block (2 * at + 2) 0; id = get_or block (2 * at + 1) 0 }
block_pair [] at d h = absurd (omega arith)
block_pair (n ∷ ws) at d h =
    let low : suc (2 * at) ≡ 2 * at + 1 = omega arith in
    let high : suc (suc (2 * at)) ≡ 2 * at + 2 = omega arith in
    let make : ℕ → ℕ → Near = λ i j. record { dist = get_or (n ∷ ws) j 0; id = get_or (n ∷ ws) i 0 } in
    pair_at ws at (2 * at) d refl (omega arith) ∙ (λ i. make (low i) (high i))

pub block_pairs : (block : List ℕ) (n : ℕ) → 2 * n + 1 ≤ length block → n ≤ length (pairs_in (drop 1 block))
block_pairs [] n h = absurd (omega arith)
block_pairs (m ∷ ws) n h = pairs_enough ws n (omega arith)

pub answer_count : (block : List ℕ) → HasAnswer block → length (answer_in block) ≡ slice_index block 0
answer_count block h =
    let n = slice_index block 0 in
    let enough = block_pairs block n h in
    let all : length (answer_in block) ≡ min n (length (pairs_in (drop 1 block))) = length-take n (pairs_in (drop 1 block)) in
    omega (arith, enough, all)

-- the blocks of answers
module _ (size : ℕ) where
  pub answers_written : (answers : List (List Near)) → map answer_in (map (block_of size) answers) ≡ answers
  answers_written [] = refl
  answers_written (a ∷ answers) = λ i. answer_written size a i ∷ answers_written answers i

  pub all_have : (answers : List (List Near)) → All HasAnswer (map (block_of size) answers)
  all_have [] = All-nil HasAnswer
  all_have (a ∷ answers) = All-cons HasAnswer (block_of size a) (map (block_of size) answers) (has_answer size a) (all_have answers)
