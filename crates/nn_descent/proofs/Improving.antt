-- A round more, and a tree more.
use Rattle.std.proofs.Common.{◌≡◌, ℕ, suc, ◌+◌, ◌-◌, ◌<◌, ◌≤◌, true, false, cond, List, [], ◌∷◌, ◌++◌, length, replicate, ap, ◌∙◌, arith}
use Rattle.std.specs.Prelude.{nat_le}
use Rattle.std.specs.List.{fold, range_with_len}
use Rattle.std.proofs.lemmas.Bool.Decides.{nat_tests}
use Rattle.std.proofs.lemmas.List.Sums.{fold-append}
use Rattle.batch_insert.proofs.Differing.{range_more}
use Rattle.nn_descent.specs.declared.settings.NndSettings.{NndSettings}
use Rattle.neighbour_lists.specs.ListRound.{next_rows, changed}
use Rattle.ann_defs.specs.declared.kinds.StartKind.{StartKind}
use Rattle.ann_defs.specs.declared.kinds.StartKind.TheVariants.{First, Medoid}
use Rattle.seeded_order.proofs.Insertions.{medoid_below}
use Rattle.nn_descent.specs.NndIndex.{start_of, with_tree, planted, improved}

-- a tree more
pub planted_more : (points : List (List ℕ)) (s : NndSettings) (t : ℕ) → planted points s (t + 1) ≡ with_tree points s (planted points s t) t
planted_more points s t =
    let z : 0 + t ≡ t = omega arith in
    ap (fold (with_tree points s) (replicate (length points) [])) (range_more 0 t ∙ ap (λ v. range_with_len 0 t ++ v ∷ []) z)
    ∙ fold-append (with_tree points s) (replicate (length points) []) (range_with_len 0 t) (t ∷ [])

module _ (points : List (List ℕ)) (list floor rounds done : ℕ) (rows : List (List ℕ)) (left : done < rounds) where
  more : rounds - done ≡ suc (rounds - (done + 1))
  more = omega arith

  step : improved points list floor (rounds - done) rows ≡ cond (nat_le (changed points list rows) floor) (next_rows points list rows) (improved points list floor (rounds - (done + 1)) (next_rows points list rows))
  step = ap (λ k. improved points list floor k rows) more

  -- few entries changed
  pub improved_stop : changed points list rows ≤ floor → improved points list floor (rounds - done) rows ≡ next_rows points list rows
  improved_stop few =
      let is : nat_le (changed points list rows) floor ≡ true = grind (arith, nat_tests) in
      step ∙ ap (λ b. cond b (next_rows points list rows) (improved points list floor (rounds - (done + 1)) (next_rows points list rows))) is

  -- many did
  pub improved_on : floor < changed points list rows → improved points list floor (rounds - done) rows ≡ improved points list floor (rounds - (done + 1)) (next_rows points list rows)
  improved_on many =
      let is : nat_le (changed points list rows) floor ≡ false = grind (arith, nat_tests) in
      step ∙ ap (λ b. cond b (next_rows points list rows) (improved points list floor (rounds - (done + 1)) (next_rows points list rows))) is

-- a search starts at a point
pub start_below : (points : List (List ℕ)) (start : StartKind) → 1 ≤ length points → start_of points start < length points
start_below points First some = omega (arith, some)
start_below points Medoid some = medoid_below points some
