-- The rows that a round reads.
use Rattle.std.proofs.Common.{◌≡◌, ℕ, ◌<◌, List, map, length, sym, ap, ◌∙◌, subst}
use Rattle.std.specs.List.{All, range_with_len}
use Rattle.ann_defs.specs.Graph.{row_in, AreGoodRows}
use Rattle.neighbour_lists.specs.declared.next_row.NextRow.{NextRow}
use Rattle.neighbour_lists.specs.Fresh.{ArePoints, AreHoods}
use Rattle.neighbour_lists.specs.Held.{Held, BelongTo}
use Rattle.neighbour_lists.specs.Offering.{Offers, ServesRows}
use Rattle.neighbour_lists.specs.Reversed.{others_of}
use Rattle.neighbour_lists.proofs.AllRows.{mapped_count, mapped_row}
use Rattle.neighbour_lists.proofs.Joining.{others_inside}
use Rattle.neighbour_lists.proofs.KeptRows.{hoods_kept}

-- there are as many others as points
pub others_count : (points : List (List ℕ)) (list : ℕ) (rows others : List (List ℕ)) → others ≡ map (others_of points list rows) (range_with_len 0 (length points)) → length others ≡ length points
others_count points list rows others is = ap (λ (rs : List (List ℕ)). length rs) is ∙ mapped_count (others_of points list rows) (length points)

-- rows of points
lists_inside : (n list : ℕ) (rows : List (List ℕ)) → AreGoodRows n list rows → ArePoints n rows
lists_inside n list rows good = record { count = good.count; inside = λ u lt. (good.good u lt).inside }

-- the others of all points
others_rows : (points : List (List ℕ)) (list : ℕ) (rows others : List (List ℕ)) → AreGoodRows (length points) list rows → others ≡ map (others_of points list rows) (range_with_len 0 (length points)) → ArePoints (length points) others
others_rows points list rows others good is = record {
  count = others_count points list rows others is;
  inside = λ u lt. subst (All (λ w. w < length points)) (sym (ap (λ (rs : List (List ℕ)). row_in rs u) is ∙ mapped_row (others_of points list rows) (length points) u lt)) (others_inside points list rows good u);
}

-- what the offers of a round are read from is neighbourhoods of points
module _ (r : NextRow) where
  pub all_hoods : AreHoods (length r.points.now.vectors) r.rows.now.rows r.news.now.others.rows
  all_hoods = record {
    rows = lists_inside (length r.points.now.vectors) r.rows.now.width r.rows.now.rows r.good;
    others = others_rows r.points.now.vectors r.rows.now.width r.rows.now.rows r.news.now.others.rows r.good r.reversed;
  }

  pub fresh_hoods : AreHoods (length r.points.now.vectors) r.news.now.fresh.rows.rows r.news.now.fresh.others.rows
  fresh_hoods = hoods_kept (length r.points.now.vectors) r.rows.now.rows r.news.now.others.rows r.seen.now.rows.rows r.seen.now.others.rows r.news.now.fresh.rows.rows r.news.now.fresh.others.rows r.new all_hoods

  pub stale_hoods : AreHoods (length r.points.now.vectors) r.news.now.stale.rows.rows r.news.now.stale.others.rows
  stale_hoods = hoods_kept (length r.points.now.vectors) r.rows.now.rows r.news.now.others.rows r.news.now.fresh.rows.rows r.news.now.fresh.others.rows r.news.now.stale.rows.rows r.news.now.stale.others.rows r.old all_hoods

-- there are as many lists, and as many rows that the last round met, as points
module _ (points : List (List ℕ)) (h l : Held) (same : h ≡ l) (belong : BelongTo points l) where
  pub rows_count : length h.rows ≡ length points
  rows_count = ap (λ (x : Held). length x.rows) same ∙ belong.rows.count

  pub seen_count : length h.seen_rows ≡ length points
  seen_count = ap (λ (x : Held). length x.seen_rows) same ∙ belong.seen_rows

  pub seen_others_count : length h.seen_others ≡ length points
  seen_others_count = ap (λ (x : Held). length x.seen_others) same ∙ belong.seen_others

-- a scratch that serves the lists serves the rows that they stand in
pub rows_serve : (n width : ℕ) (h l : Held) → width ≡ h.list → h ≡ l → (s : Offers) → ServesRows n l.list s → ServesRows n width s
rows_serve n width h l is same s serves = subst (λ k. ServesRows n k s) (sym (is ∙ ap (λ (x : Held). x.list) same)) serves
