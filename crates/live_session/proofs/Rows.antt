-- Rows of right answers grow by one answer.
use Rattle.std.proofs.Common.{◌≡◌, ◌∙◌, ℕ, zero, suc, ◌+◌, ◌*◌, ◌<◌, ◌≤◌, List, [], ◌∷◌, ◌++◌, length, get_or, sym, ap, subst, arith, below_more}
use Rattle.std.specs.Int.{div_ceil}
use Rattle.std.specs.Prelude.{Option, Some, None, IfSome}
use Rattle.std.proofs.Math.Nat.{le_of_mul-le-mul_right}
use Rattle.std.proofs.lemmas.Grind.{div_ceil_times}
use Rattle.std.proofs.lemmas.List.{get_or_append_left, get_or_push, length_push}
use Rattle.ann_defs.specs.declared.near.Near.{Near}
use Rattle.ann_defs.specs.Distance.{point}
use Rattle.versions.specs.Course.{Course, answer_at}
use Rattle.live_session.specs.declared.asking.Asking.{Asking}
use Rattle.live_session.specs.Rows.{Row, pushed}
use Rattle.live_session.proofs.Leading.{answer_short}
use Rattle.live_session.specs.Asked.{IsRight, AreRight, IsRow, IsWhole, AreWhole}

abbrev none : ℕ × List Near
none = (0, [])

module _ (c : Course) (a : Asking) where
  module _ (first low : ℕ) where
    -- a greater bound holds too
    pub right_widen : (top more : ℕ) (answers : List (ℕ × List Near)) → top ≤ more → AreRight c a first low top answers → AreRight c a first low more answers
    right_widen top more answers h r = record {
      each = λ i lt. let e = r.each i lt in record {
        late = e.late;
        within = omega (arith, e.within);
        nears = e.nears;
      };
      rising = r.rising;
    }

    pub row_widen : (top more : ℕ) (row : Row) → top ≤ more → IsRow c a first low top row → IsRow c a first low more row
    row_widen top more row h r = record {
      k_is = r.k_is;
      enough = r.enough;
      small = r.small;
      few = r.few;
      right = right_widen top more row.answers h r.right;
    }

    -- one right answer more, of a batch that isn't before the bound
    pub right_more : (top v : ℕ) (answers : List (ℕ × List Near)) (query : ℕ) (nears : List Near) → low ≤ v → top ≤ v → query ≡ first + length answers * a.callers → nears ≡ answer_at c v a.beam a.k (point a.queries.now.vectors query) → AreRight c a first low top answers → AreRight c a first low v (answers ++ (v, nears) ∷ [])
    right_more top v answers query nears late h q e r =
        let n = length answers in
        let e' : ℕ × List Near = (v, nears) in
        let all : List (ℕ × List Near) = answers ++ e' ∷ [] in
        let wide = right_widen top v answers h r in
        let size : length all ≡ n + 1 = length_push answers e' in
        let old : (i : ℕ) → i < n → get_or all i none ≡ get_or answers i none = λ i lt. get_or_append_left answers (e' ∷ []) none i lt in
        let new : get_or all n none ≡ e' = get_or_push answers e' none n (λ _. n) in
        let Each : ℕ → Type 0 = λ i. IsRight c a low v (point a.queries.now.vectors (first + i * a.callers)) (get_or all i none) in
        let Rising : ℕ → Type 0 = λ j. (i : ℕ) → i + 1 ≡ j → (get_or all i none).0 ≤ (get_or all j none).0 in
        let last : IsRight c a low v (point a.queries.now.vectors (first + n * a.callers)) e' = record {
          late = late;
          within = omega arith;
          nears = e ∙ ap (λ m. answer_at c v a.beam a.k (point a.queries.now.vectors m)) q;
        } in
        let each : (i : ℕ) → i < n + 1 → Each i = below_more Each n
        (λ i lt. subst (IsRight c a low v (point a.queries.now.vectors (first + i * a.callers))) (sym (old i lt)) (wide.each i lt))
        (subst (IsRight c a low v (point a.queries.now.vectors (first + n * a.callers))) (sym new) last) in
        let rising : (j : ℕ) → j < n + 1 → Rising j = below_more Rising n
        (λ j lt i at.
        let before : i < n = omega (arith, at) in
        let was : (get_or answers i none).0 ≤ (get_or answers j none).0 = subst (λ m. (get_or answers i none).0 ≤ (get_or answers m none).0) at (r.rising i (omega (arith, at))) in
        let one = ap (λ (x : ℕ × List Near). x.0) (old i before) in
        let two = ap (λ (x : ℕ × List Near). x.0) (old j lt) in
        omega (arith, was, one, two))
        (λ i at.
        let before : i < n = omega (arith, at) in
        let was = (r.each i before).within in
        let one = ap (λ (x : ℕ × List Near). x.0) (old i before) in
        let two = ap (λ (x : ℕ × List Near). x.0) new in
        omega (arith, was, one, two)) in
        record {
          each = λ i lt. each i (omega (arith, size));
          rising = λ i lt. rising (i + 1) (omega (arith, size)) i (λ _. i + 1);
        }

    pub row_more : (top v : ℕ) (row : Row) (query : ℕ) (nears : List Near) → low ≤ v → top ≤ v → query ≡ first + length row.answers * a.callers → nears ≡ answer_at c v a.beam a.k (point a.queries.now.vectors query) → length row.answers < row.size → IsRow c a first low top row → IsRow c a first low v (pushed row v nears)
    row_more top v row query nears late h q e lt r =
        let size : length (row.answers ++ (v, nears) ∷ []) ≡ length row.answers + 1 = length_push row.answers (v, nears) in
        record {
          k_is = r.k_is;
          enough = r.enough;
          small = r.small;
          few = omega (arith, size);
          right = right_more top v row.answers query nears late h q e r.right;
        }

    -- a row is whole where no query is left at its end
    pub row_ends : (top : ℕ) (row : Row) → length a.queries.now.vectors ≤ first + length row.answers * a.callers → IsRow c a first low top row → IsWhole c a first low top row
    row_ends top row h r = record { right = r.right; all = h }

    -- a full row is whole
    pub row_full : (top : ℕ) (row : Row) → length row.answers ≡ row.size → IsRow c a first low top row → IsWhole c a first low top row
    row_full top row h r =
        let enough : length a.queries.now.vectors ≤ length row.answers * a.callers = subst (λ m. length a.queries.now.vectors ≤ m * a.callers) (sym h) r.enough in
        record { right = r.right; all = omega (arith, enough) }

  -- one whole row more
  pub whole_more : (low top : ℕ) (rows : List Row) (row : Row) → IsWhole c a (length rows) low top row → AreWhole c a low top rows → AreWhole c a low top (rows ++ row ∷ [])
  whole_more low top rows row new old i d lt =
      let size : length (rows ++ row ∷ []) ≡ length rows + 1 = length_push rows row in
      below_more (λ j. IsWhole c a j low top (get_or (rows ++ row ∷ []) j d)) (length rows)
      (λ j h. subst (IsWhole c a j low top) (sym (get_or_append_left rows (row ∷ []) d j h)) (old j d h))
      (subst (IsWhole c a (length rows) low top) (sym (get_or_push rows row d (length rows) (λ _. length rows))) new)
      i (omega (arith, size))

-- rounded up, a caller's share of the queries is at most all of them
pub share_small : (n callers : ℕ) → 1 ≤ n → 1 ≤ callers → div_ceil n callers ≤ n
share_small zero callers h k = absurd (omega arith)
share_small (suc n) zero h k = absurd (omega arith)
share_small (suc n) (suc m) h k =
    let times : div_ceil (suc n) (suc m) * suc m < suc n + suc m = (div_ceil_times (suc n) (suc m) (omega arith)).1 in
    let wide : suc n + suc m ≤ suc n * suc m + 1 = omega arith in
    le_of_mul-le-mul_right {m = div_ceil (suc n) (suc m)} {n = suc n} {k = suc m} (omega (arith, times, wide)) (omega arith)

pub share_enough : (n callers : ℕ) → 1 ≤ callers → n ≤ div_ceil n callers * callers
share_enough n callers h = (div_ceil_times n callers (omega (arith, h))).0

-- an empty row
pub row_empty : (c : Course) (a : Asking) (first low top : ℕ) (row : Row) → row ≡ record { answers = []; size = div_ceil (length a.queries.now.vectors) a.callers; k = a.k } → 1 ≤ length a.queries.now.vectors → 1 ≤ a.callers → IsRow c a first low top row
row_empty c a first low top row e some callers =
    let n = length a.queries.now.vectors in
    subst (IsRow c a first low top) (sym e) (record {
      k_is = λ _. a.k;
      enough = share_enough n a.callers callers;
      small = share_small n a.callers some callers;
      few = omega arith;
      right = record {
        each = λ i lt. absurd (omega (arith, lt));
        rising = λ i lt. absurd (omega (arith, lt));
      };
    })

-- an answer in the seat is short
pub seat_short : (c : Course) (a : Asking) (query : List ℕ) (pairs : List Near) (r : Option ℕ) → IfSome r (λ v. pairs ≡ answer_at c v a.beam a.k query) → IfSome r (λ _. length pairs ≤ a.k)
seat_short c a query pairs None h = tt
seat_short c a query pairs (Some v) h = let short = answer_short c v a.beam a.k query in let same = ap length h in omega (arith, short, same)
