use Rattle.std.proofs.Common.{◌≡◌, ◌∙◌, [], ℕ, ◌+◌, List, set, take, length, get_or, refl, sym, ap, arith}
use Rattle.std.proofs.lemmas.List.{get_or-map, take_more}
use Rattle.graph_rows.specs.Flat.{Flat}
use Rattle.graph_rows.specs.Blocks.{row_in}
use Rattle.batch_insert.specs.Padded.{padded}
use Rattle.batch_insert.proofs.Padding.{row_in_padded}
use Rattle.neighbour_lists.specs.WrittenRows.{with_rows}
use Rattle.neighbour_lists.proofs.NewRows.{length-with_rows, with_none, with_more}
use Rattle.neighbour_lists.proofs.row_tasks.RowTasks.put.Goals as goal

pub loop-i-init : goal.loop-i-init
loop-i-init g c = record { rows = with_none (g.L.RowRule.row_of c.args.self.now.rule.now) c.args.rows.now.rows; width = refl }

pub set_row-requires-clause-i : goal.set_row-requires-clause-i
set_row-requires-clause-i g c =
    let w = c.args.self.now in
    let i = c.loop-i.i in
    let inside = w.inside i 0 c.loop-i-test.true in
    let rows = ap (λ (xs : List (List ℕ)). length xs) c.loop-i.invariant.rows in
    let long = length-with_rows (g.L.RowRule.row_of w.rule.now) c.args.rows.now.rows (take i w.ids.now) in
    let count = c.requires.count in
    omega (arith, inside, rows, long, count)

pub loop-i-preserved : goal.loop-i-preserved
loop-i-preserved g c =
    let w = c.args.self.now in
    let i = c.loop-i.i in
    let row = g.L.RowRule.row_of w.rule.now in
    let most = g.L.RowRule.most w.rule.now in
    let ids = w.ids.now in
    let v = get_or ids i 0 in
    let old = c.args.rows.now.rows in
    let inside = w.inside i 0 c.loop-i-test.true in
    let block : c.get.result.now ≡ padded (most + 1) (row v) =
    c.get.ensures ∙ ap (λ (bs : List (List ℕ)). get_or bs i []) c.requires.blocks ∙ get_or-map (λ u. padded (most + 1) (row u)) ids i 0 [] c.loop-i-test.true in
    let new : c.row_of.result.now ≡ row v = c.row_of.ensures ∙ ap row_in block ∙ row_in_padded (most + 1) (row v) in
    record {
      rows =
          ap (λ (f : Flat). f.rows) c.set_row.ensures
          ∙ (λ j. set (c.loop-i.invariant.rows j) v (new j))
          ∙ with_more row old (take i ids) v (let count = c.requires.count in omega (arith, inside, count))
          ∙ ap (λ (us : List ℕ). with_rows row us old) (sym (take_more ids i 0 c.loop-i-test.true));
      width = ap (λ (f : Flat). f.width) c.set_row.ensures ∙ c.loop-i.invariant.width;
    }
