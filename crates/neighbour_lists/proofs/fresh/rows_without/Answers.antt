use Rattle.std.proofs.Common.{◌≡◌, ◌<◌, ◌∙◌, ◌++◌, ℕ, List, not, length, refl, ap, arith}
use Rattle.std.specs.List.{filter, range_with_len}
use Rattle.ann_defs.specs.Graph.{has}
use Rattle.graph_rows.specs.Flat.{Flat}
use Rattle.neighbour_lists.specs.Fresh.{row_without}
use Rattle.neighbour_lists.specs.WrittenRows.{with_rows}
use Rattle.neighbour_lists.proofs.AllRows.{all_written, row_written}
use Rattle.neighbour_lists.proofs.NewRows.{length-with_rows, with_none}
use Rattle.neighbour_lists.proofs.fresh.rows_without.Goals as goal

pub loop-u-init : goal.loop-u-init
loop-u-init c =
    let rows = c.args.rows.now.rows in
    let copied = c.in_ok-kept.ensures in
    record {
      rows = ap (λ (f : Flat). f.rows) copied ∙ with_none (row_without c.args.seen.now.rows.rows c.args.seen.now.others.rows rows) rows;
      width = ap (λ (f : Flat). f.width) copied;
      room = refl;
    }

pub set_row-requires-clause-i : goal.set_row-requires-clause-i
set_row-requires-clause-i c =
    let rows = c.args.rows.now.rows in
    let new = row_without c.args.seen.now.rows.rows c.args.seen.now.others.rows rows in
    let long = ap (λ (rs : List (List ℕ)). length rs) c.loop-u.invariant.rows ∙ length-with_rows new rows (range_with_len 0 c.loop-u.u) in
    let below = c.loop-u-test.true in
    let count = c.count-u-end.ensures in
    omega (arith, long, below, count)

pub loop-u-preserved : goal.loop-u-preserved
loop-u-preserved c =
    let rows = c.args.rows.now.rows in
    let new = row_without c.args.seen.now.rows.rows c.args.seen.now.others.rows rows in
    let u = c.loop-u.u in
    let row = c.write_without-len.ensures.ids ∙ (λ i. filter (λ w. not (has (c.at.ensures.row i ++ c.at-in-loop-u.ensures.row i) w)) (c.at-in-loop-u-2.ensures.row i)) in
    let below = c.loop-u-test.true in
    let count = c.count-u-end.ensures in
    let lt : u < length rows = omega (arith, below, count) in
    record {
      rows = row_written new rows c.loop-u.kept.rows c.set_row.new.self.rows u _ lt c.loop-u.invariant.rows row (ap (λ (f : Flat). f.rows) c.set_row.ensures);
      width = ap (λ (f : Flat). f.width) c.set_row.ensures ∙ c.loop-u.invariant.width;
      room = c.write_without-len.ensures.len ∙ c.loop-u.invariant.room;
    }

pub returns : goal.returns
returns c =
    let rows = c.args.rows.now.rows in
    let new = row_without c.args.seen.now.rows.rows c.args.seen.now.others.rows rows in
    let last = c.loop-u-test.false in
    let end = c.loop-u.auto.u-end in
    let count = c.count-u-end.ensures in
    let at : c.loop-u.u ≡ length rows = omega (arith, last, end, count) in
    record {
      rows = c.loop-u.invariant.rows
          ∙ ap (λ (k : ℕ). with_rows new (range_with_len 0 k) rows) at
          ∙ all_written new rows (length rows) refl;
    }
