-- Where the rows of active points are new, all rows are as after the round.
use Rattle.std.proofs.Common.{◌≡◌, ℕ, ◌+◌, ◌*◌, ◌<◌, ◌≤◌, Bool, true, false, cond, List, [], ◌∷◌, ◌++◌, length, refl, sym, ap, ◌∙◌, arith}
use Rattle.std.specs.List.{filter, range_with_len, All}
use Rattle.std.proofs.Math.Nat.{mul-le-mul_left}
use Rattle.std.proofs.lemmas.List.Elements.{filter-append}
use Rattle.std.proofs.lemmas.List.FromFn.{fill_by_all}
use Rattle.ann_defs.specs.Graph.{has, row_in}
use Rattle.ann_defs.proofs.Members.{all_from_has, filter_has, has-filter, true_has, range_has}
use Rattle.batch_insert.proofs.Ascending.{in_range_has}
use Rattle.batch_insert.proofs.Differing.{range_more}
use Rattle.neighbour_lists.specs.Held.{Held, BelongTo, is_active}
use Rattle.neighbour_lists.specs.ListRound.{next_row, next_rows}
use Rattle.neighbour_lists.specs.Rounds.{active_ids}
use Rattle.neighbour_lists.specs.WrittenRows.{with_rows}
use Rattle.neighbour_lists.proofs.NewRows.{length-with_rows, row_with}

-- one number more that is filtered
pub filter_on : (p : ℕ → Bool) (n : ℕ) → filter p (range_with_len 0 (n + 1)) ≡ filter p (range_with_len 0 n) ++ cond (p n) (n ∷ []) []
filter_on p n =
    let e : 0 + n ≡ n = omega arith in
    ap (filter p) (range_more 0 n ∙ ap (λ k. range_with_len 0 n ++ k ∷ []) e) ∙ filter-append p (range_with_len 0 n) (n ∷ [])

module _ (points : List (List ℕ)) (l : Held) (b : BelongTo points l) where
  pub flags_few : length l.active < 4294967296
  flags_few =
      let twice : length points * 2 ≤ length points * (l.list + 1) = let some = b.list.0 in mul-le-mul_left {m = 2} {n = l.list + 1} (length points) (omega (arith, some)) in
      let words = b.words in
      let flags = b.flags in
      omega (arith, twice, words, flags)

  pub active_inside : All (λ v. v < length points) (active_ids l)
  active_inside = all_from_has (λ v. v < length points) (active_ids l) (λ v h.
      let range = range_has 0 (length l.active) v (filter_has (is_active l) (range_with_len 0 (length l.active)) v h).0 in
      let flags = b.flags in
      omega (arith, range, flags))

  stays : (v : ℕ) → v < length points → (t a : Bool) → has (active_ids l) v ≡ t → is_active l v ≡ a → cond t (next_row points l.list l.rows v) (row_in l.rows v) ≡ next_row points l.list l.rows v
  stays v lt true a h k = refl
  stays v lt false false h k = sym (b.settled v lt k)
  stays v lt false true h k =
      let flags = b.flags in
      let there = true_has (active_ids l) v (has-filter (is_active l) (range_with_len 0 (length l.active)) v k (in_range_has 0 (length l.active) v (omega arith) (omega (arith, flags, lt)))) in
      absurd (true_not_false (sym there ∙ h))
    where
      true_not_false : true ≡ false → ⊥
      true_not_false e = cc

  pub next_are : with_rows (next_row points l.list l.rows) (active_ids l) l.rows ≡ next_rows points l.list l.rows
  next_are =
      let count = b.rows.count in
      fill_by_all (next_row points l.list l.rows) (with_rows (next_row points l.list l.rows) (active_ids l) l.rows) (length points) []
      (length-with_rows (next_row points l.list l.rows) l.rows (active_ids l) ∙ count)
      (λ k lt.
      row_with (next_row points l.list l.rows) l.rows (active_ids l) k (omega (arith, count, lt))
      ∙ stays k lt (has (active_ids l) k) (is_active l k) refl refl)
