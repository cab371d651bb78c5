-- The rows of all callers, side by side.
use Rattle.std.proofs.Common.{◌≡◌, ◌∙◌, ℕ, suc, ◌+◌, ◌-◌, ◌*◌, ◌/◌, ◌%◌, ◌<◌, ◌≤◌, Bool, true, List, [], ◌∷◌, length, map, drop, get_or, refl, sym, ap, subst, arith}
use Rattle.std.specs.Prelude.{zip, ◌==◌, ◌&&◌, nat_le, min}
use Rattle.std.specs.List.{list_all}
use Rattle.std.proofs.Math.Nat.{mod-add-div', add-div_right, add-mod_right, mod-lt, lt_of_mul-lt-mul_right}
use Rattle.std.proofs.lemmas.Bool.{le-leb, eq-eqb}
use Rattle.std.proofs.lemmas.List.{get_or-map, get_or-drop, length-map, length-drop}
use Rattle.std.proofs.lemmas.List.Elements.{All-from_get_or}
use Rattle.std.proofs.lemmas.List.FromFn.{get_or-map-range_with_len, length-map-range_with_len}
use Rattle.std.proofs.lemmas.List.Sums.{list_all-from_AllPass}
use Rattle.std.proofs.lemmas.Slice.Zip.{get_or-zip, length-zip}
use Rattle.ann_defs.specs.declared.near.Near.{Near}
use Rattle.ann_defs.specs.Distance.{point}
use Rattle.versions.specs.Course.{Course, answer_at, total_of}
use Rattle.live_session.specs.declared.asking.Asking.{Asking}
use Rattle.live_session.specs.Rows.{Row}
use Rattle.live_session.specs.Asked.{IsRight, IsWhole, AreWhole}
use Rattle.live_session.specs.Lawful.{is_lawful}
use Rattle.live_session.specs.LiveAnswers.{live_answers, last_answers, batches_in}
use Rattle.live_session.specs.SideBySide.{AreFull, item_of, side_by_side}

abbrev none : ℕ × List Near
none = (0, [])

abbrev bare : Row
bare = record { answers = []; size = 0; k = 0 }

-- answers that are right one by one are those of the numbers that they have
pub live_from_each : (c : Course) (beam k : ℕ) (queries : List (List ℕ)) (answers : List (ℕ × List Near)) → length answers ≡ length queries → ((j : ℕ) → j < length queries → (get_or answers j none).1 ≡ answer_at c (get_or answers j none).0 beam k (get_or queries j [])) → answers ≡ live_answers c beam k queries (batches_in answers)
live_from_each c beam k [] [] e h = refl
live_from_each c beam k [] (x ∷ answers) e h = absurd (omega (arith, e))
live_from_each c beam k (q ∷ queries) [] e h = absurd (omega (arith, e))
live_from_each c beam k (q ∷ queries) (x ∷ answers) e h =
    let rest = live_from_each c beam k queries answers (omega (arith, e)) (λ j lt. h (suc j) (omega (arith, lt))) in
    let first : x.1 ≡ answer_at c x.0 beam k q = h 0 (omega arith) in
    λ i. (x.0, first i) ∷ rest i

-- answers that are right one by one and of one batch are those in its graph
pub last_from_each : (c : Course) (beam k v : ℕ) (queries : List (List ℕ)) (answers : List (ℕ × List Near)) → length answers ≡ length queries → ((j : ℕ) → j < length queries → ((get_or answers j none).0 ≡ v) × ((get_or answers j none).1 ≡ answer_at c v beam k (get_or queries j []))) → answers ≡ map (λ q. (v, answer_at c v beam k q)) queries
last_from_each c beam k v [] [] e h = refl
last_from_each c beam k v [] (x ∷ answers) e h = absurd (omega (arith, e))
last_from_each c beam k v (q ∷ queries) [] e h = absurd (omega (arith, e))
last_from_each c beam k v (q ∷ queries) (x ∷ answers) e h =
    let rest = last_from_each c beam k v queries answers (omega (arith, e)) (λ j lt. h (suc j) (omega (arith, lt))) in
    let first = h 0 (omega arith) in
    λ i. (first.0 i, first.1 i) ∷ rest i

-- numbers in range that don't fall from one query of a caller to its next are lawful
pub lawful_from_each : (callers total count : ℕ) (numbers : List ℕ) → length numbers ≡ count → ((j : ℕ) → j < count → (1 ≤ get_or numbers j 0) × (get_or numbers j 0 ≤ total)) → ((j : ℕ) → j + callers < count → get_or numbers j 0 ≤ get_or numbers (j + callers) 0) → is_lawful callers total count numbers ≡ true
unfolding is_lawful
lawful_from_each callers total count numbers e range rise =
    let size : (length numbers == count) ≡ true = eq-eqb (length numbers) count e in
    let InRange : ℕ → Bool = λ v. nat_le 1 v && nat_le v total in
    let Rises : ℕ × ℕ → Bool = λ p. nat_le p.0 p.1 in
    let in_range : list_all InRange numbers ≡ true = list_all-from_AllPass InRange numbers (All-from_get_or (λ v. InRange v ≡ true) numbers 0 (λ j lt.
    let r = range j (omega (arith, e, lt)) in
    λ i. le-leb 1 (get_or numbers j 0) r.0 i && le-leb (get_or numbers j 0) total r.1 i)) in
    let later = drop callers numbers in
    let pairs = zip numbers later in
    let short : length pairs ≡ min (length numbers) (length later) = length-zip numbers later in
    let left : length later ≡ length numbers - callers = length-drop callers numbers in
    let rises : list_all Rises pairs ≡ true = list_all-from_AllPass Rises pairs (All-from_get_or (λ p. Rises p ≡ true) pairs (0, 0) (λ j lt.
    let one : j < length numbers = omega (arith, short, left, lt) in
    let two : j < length later = omega (arith, short, left, lt) in
    let next : j + callers < count = omega (arith, left, two, e) in
    let swap : callers + j ≡ j + callers = omega arith in
    let at : get_or later j 0 ≡ get_or numbers (j + callers) 0 = get_or-drop callers numbers j 0 ∙ ap (λ m. get_or numbers m 0) swap in
    let pair : get_or pairs j (0, 0) ≡ (get_or numbers j 0, get_or numbers (j + callers) 0) = get_or-zip numbers later j (0, 0) one two ∙ (λ i. (get_or numbers j 0, at i)) in
    ap Rises pair ∙ le-leb (get_or numbers j 0) (get_or numbers (j + callers) 0) (rise j next))) in
    λ i. size i && in_range i && rises i

module _ (c : Course) (a : Asking) (low top : ℕ) (rows : List Row) (some : 1 ≤ a.callers) (count : length rows ≡ a.callers) (whole : AreWhole c a low top rows) where
  abbrev lists : List (List (ℕ × List Near))
  lists = map (λ (r : Row). r.answers) rows

  abbrev n : ℕ
  n = length a.queries.now.vectors

  abbrev together : List (ℕ × List Near)
  together = side_by_side lists n none

  width : length lists ≡ a.callers
  width = length-map rows (λ (r : Row). r.answers) ∙ count

  -- the row of a query, and its place there
  in_row : (j : ℕ) → j % a.callers < length rows
  in_row j = let less = mod-lt j {m = a.callers} (omega (arith, some)) in omega (arith, less, count)

  list_is : (j : ℕ) → get_or lists (j % a.callers) [] ≡ (get_or rows (j % a.callers) bare).answers
  list_is j = get_or-map (λ (r : Row). r.answers) rows (j % a.callers) bare [] (in_row j)

  row_whole : (j : ℕ) → IsWhole c a (j % a.callers) low top (get_or rows (j % a.callers) bare)
  row_whole j = whole (j % a.callers) bare (in_row j)

  place_in : (j : ℕ) → j < n → j / a.callers < length (get_or rows (j % a.callers) bare).answers
  place_in j lt =
      let m = length (get_or rows (j % a.callers) bare).answers in
      let all = (row_whole j).all in
      let at = mod-add-div' j a.callers in
      let less : j / a.callers * a.callers < m * a.callers = omega (arith, all, at, lt) in
      lt_of_mul-lt-mul_right a.callers less

  -- each query has its answer
  pub all_full : AreFull lists n
  all_full j lt =
      subst (λ w. j / w < length (get_or lists (j % w) [])) (sym width)
      (subst (λ (xs : List (ℕ × List Near)). j / a.callers < length xs) (sym (list_is j)) (place_in j lt))

  item_is : (j : ℕ) → j < n → get_or together j none ≡ get_or (get_or rows (j % a.callers) bare).answers (j / a.callers) none
  item_is j lt =
      get_or-map-range_with_len (λ m. item_of lists m none) 0 n j j none lt (omega arith)
      ∙ ap (λ w. get_or (get_or lists (j % w) []) (j / w) none) width
      ∙ ap (λ (xs : List (ℕ × List Near)). get_or xs (j / a.callers) none) (list_is j)

  right_at : (j : ℕ) → j < n → IsRight c a low top (point a.queries.now.vectors j) (get_or together j none)
  right_at j lt =
      let r = (row_whole j).right.each (j / a.callers) (place_in j lt) in
      subst (IsRight c a low top (point a.queries.now.vectors j)) (sym (item_is j lt))
      (subst (λ m. IsRight c a low top (point a.queries.now.vectors m) (get_or (get_or rows (j % a.callers) bare).answers (j / a.callers) none)) (mod-add-div' j a.callers) r)

  rises_at : (j : ℕ) → j + a.callers < n → (get_or together j none).0 ≤ (get_or together (j + a.callers) none).0
  rises_at j lt =
      let before : j < n = omega (arith, lt) in
      let same : (j + a.callers) % a.callers ≡ j % a.callers = add-mod_right j a.callers in
      let next : (j + a.callers) / a.callers ≡ j / a.callers + 1 = add-div_right j {k = a.callers} (omega (arith, some)) in
      let answers = (get_or rows (j % a.callers) bare).answers in
      let place : j / a.callers + 1 < length answers =
      subst (λ m. m < length answers) next (subst (λ m. (j + a.callers) / a.callers < length (get_or rows m bare).answers) same (place_in (j + a.callers) lt)) in
      let later : get_or together (j + a.callers) none ≡ get_or answers (j / a.callers + 1) none =
      item_is (j + a.callers) lt ∙ (λ i. get_or (get_or rows (same i) bare).answers (next i) none) in
      let rise = (row_whole j).right.rising (j / a.callers) place in
      let one = ap (λ (x : ℕ × List Near). x.0) (item_is j before) in
      let two = ap (λ (x : ℕ × List Near). x.0) later in
      omega (arith, rise, one, two)

  size_is : length together ≡ n
  size_is = length-map-range_with_len (λ m. item_of lists m none) 0 n

  number_at : (j : ℕ) → j < n → get_or (batches_in together) j 0 ≡ (get_or together j none).0
  number_at j lt = get_or-map (λ (x : ℕ × List Near). x.0) together j none 0 (omega (arith, size_is, lt))

  pub lawful : 1 ≤ low → top ≤ total_of c → is_lawful a.callers (total_of c) n (batches_in together) ≡ true
  lawful one most =
      lawful_from_each a.callers (total_of c) n (batches_in together) (length-map together (λ (x : ℕ × List Near). x.0) ∙ size_is)
      (λ j lt.
      let r = right_at j lt in
      let at = number_at j lt in
      (omega (arith, r.late, at, one), omega (arith, r.within, at, most)))
      (λ j lt.
      let at = number_at j (omega (arith, lt)) in
      let later = number_at (j + a.callers) lt in
      let rise = rises_at j lt in
      omega (arith, at, later, rise))

  pub live_is : together ≡ live_answers c a.beam a.k a.queries.now.vectors (batches_in together)
  live_is = live_from_each c a.beam a.k a.queries.now.vectors together size_is (λ j lt. (right_at j lt).nears)

  pub last_is : low ≡ total_of c → top ≡ total_of c → together ≡ last_answers c a.beam a.k a.queries.now.vectors
  last_is l t = last_from_each c a.beam a.k (total_of c) a.queries.now.vectors together size_is (λ j lt.
      let r = right_at j lt in
      let number : (get_or together j none).0 ≡ total_of c = omega (arith, r.late, r.within, l, t) in
      (number, r.nears ∙ ap (λ v. answer_at c v a.beam a.k (point a.queries.now.vectors j)) number))
