-- The words that a window shows.
use Rattle.std.proofs.Common.{◌≡◌, ℕ, ◌+◌, ◌-◌, ◌<◌, ◌≤◌, List, length, take, drop, get_or, refl, sym, ap, subst, ◌∙◌, arith, inl, inr, Ok}
use Rattle.std.proofs.lemmas.Bool.{cases_lt}
use Rattle.std.proofs.lemmas.List.{get_or-take, get_or-drop, length-drop}
use Rattle.std.proofs.lemmas.Bool.Decides.{nat_tests}
use Rattle.bin_files.specs.Points.{u32_at}
use Rattle.graph_files.specs.declared.window.Window.{Window}
use Rattle.graph_files.specs.Reading.{AreBytesIn, Shows}
use Rattle.graph_files.specs.Grammar.{word_at}

shown_byte : (file : List ℕ) (w : Window) (i j : ℕ) → Shows file w → i < w.len → j ≡ w.from + i → get_or w.bytes i 0 ≡ get_or file j 0
shown_byte file w i j shows lt is =
    sym (get_or-take w.len w.bytes i 0 lt) ∙ ap (λ xs. get_or xs i 0) shows.same ∙ get_or-take w.len (drop w.from file) i 0 lt ∙ get_or-drop w.from file i 0
    ∙ ap (λ k. get_or file k 0) (sym is)

pub shown_u32 : (file : List ℕ) (w : Window) (i at : ℕ) → Shows file w → i + 4 ≤ w.len → at ≡ w.from + i → u32_at w.bytes i ≡ u32_at file at
shown_u32 file w i at shows fits is =
    rw (
      shown_byte file w i at shows (omega arith) (omega arith),
      shown_byte file w (i + 1) (at + 1) shows (omega arith) (omega arith),
      shown_byte file w (i + 2) (at + 2) shows (omega arith) (omega arith),
      shown_byte file w (i + 3) (at + 3) shows (omega arith) (omega arith),
    ) refl

whole_word : (file : List ℕ) (at : ℕ) → 4 ≤ length (drop at file) → word_at file at ≡ Ok (u32_at file at)
whole_word file at long = grind (arith, nat_tests)

pub shown_word : (file : List ℕ) (w : Window) (i at n : ℕ) → Shows file w → i + 4 ≤ w.len → at ≡ w.from + i → n ≡ u32_at w.bytes i → word_at file at ≡ Ok n
shown_word file w i at n shows fits is n-is =
    whole_word file at (omega (arith, shows.within, length-drop w.from file, length-drop at file))
    ∙ ap (λ k. Ok k) (sym (n-is ∙ shown_u32 file w i at shows fits is))

pub shown_bytes : (file : List ℕ) (w : Window) (i at : ℕ) → Shows file w → i + 4 ≤ w.len → at ≡ w.from + i → ((j : ℕ) → get_or w.bytes j 0 < 256) → AreBytesIn file at (at + 4)
shown_bytes file w i at shows fits is are j from to =
    let k : j ≡ w.from + (j - w.from) = omega arith in
    let here : get_or w.bytes (j - w.from) 0 ≡ get_or file j 0 = shown_byte file w (j - w.from) j shows (omega arith) k in
    subst (λ n. n < 256) here (are (j - w.from))

-- bytes up to a place, and from there on
pub bytes_on : (file : List ℕ) (from mid to : ℕ) → AreBytesIn file from mid → AreBytesIn file mid to → AreBytesIn file from to
bytes_on file from mid to first second i low high = elim (cases_lt i mid) as (λ _. get_or file i 0 < 256) [ inl less ↦ first i low less | inr more ↦ second i more high ]

pub bytes_more : (file : List ℕ) (from mid to next : ℕ) → AreBytesIn file from mid → AreBytesIn file mid to → to ≡ next → AreBytesIn file from next
bytes_more file from mid to next first second is = subst (AreBytesIn file from) is (bytes_on file from mid to first second)

-- the front of a file
pub shown_all : (file : List ℕ) (w : Window) (to : ℕ) → Shows file w → w.from ≡ 0 → to ≤ w.len → ((j : ℕ) → get_or w.bytes j 0 < 256) → AreBytesIn file 0 to
shown_all file w to shows front fits are j from below =
    subst (λ n. n < 256) (shown_byte file w j j shows (omega arith) (omega arith)) (are j)

-- a part of what a window shows
module _ (file : List ℕ) (w : Window) (i n at : ℕ) (shows : Shows file w) (fits : i + n ≤ w.len) (is : at ≡ w.from + i) where
  part_byte : (j place : ℕ) → j < n → place ≡ at + j → get_or (take (i + n - i) (drop i w.bytes)) j 0 ≡ get_or file place 0
  part_byte j place lt place_is =
      let below : j < i + n - i = omega arith in
      get_or-take (i + n - i) (drop i w.bytes) j 0 below ∙ get_or-drop i w.bytes j 0 ∙ shown_byte file w (i + j) place shows (omega arith) (omega arith)

  pub part_word : (j place m : ℕ) → j + 4 ≤ n → place ≡ at + j → m ≡ u32_at (take (i + n - i) (drop i w.bytes)) j → word_at file place ≡ Ok m
  part_word j place m lt place_is m_is =
      let same : u32_at (take (i + n - i) (drop i w.bytes)) j ≡ u32_at file place = rw (
        part_byte j place (omega arith) (omega arith),
        part_byte (j + 1) (place + 1) (omega arith) (omega arith),
        part_byte (j + 2) (place + 2) (omega arith) (omega arith),
        part_byte (j + 3) (place + 3) (omega arith) (omega arith),
      ) refl in
      whole_word file place (omega (arith, shows.within, length-drop w.from file, length-drop place file)) ∙ ap (λ k. Ok k) (sym (m_is ∙ same))

  pub part_bytes : (j place : ℕ) → j + 4 ≤ n → place ≡ at + j → ((k : ℕ) → get_or (take (i + n - i) (drop i w.bytes)) k 0 < 256) → AreBytesIn file place (place + 4)
  part_bytes j place lt place_is are k low high = subst (λ b. b < 256) (part_byte (k - at) k (omega arith) (omega arith)) (are (k - at))
