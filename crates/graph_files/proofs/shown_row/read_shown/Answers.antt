use Rattle.std.proofs.Common.{◌≡◌, ◌∙◌, ◌++◌, Ok, length, take, drop, sym, ap, arith, rules}
use Rattle.std.proofs.Math.Seq.{take-append_seam}
use Rattle.graph_rows.specs.Members.{holds}
use Rattle.graph_rows.specs.WellFormed.{IsRowIn}
use Rattle.graph_files.proofs.CleanRow.{row_clean}
use Rattle.graph_files.proofs.shown_row.read_shown.Goals as goal

pub returns-clause-ids : goal.returns-clause-ids
returns-clause-ids c e file shows =
    let row = c.words.new.cells in
    let rest = drop c.args.len c.args.ids.now in
    let long : length row ≡ c.args.len = search rules in
    let front : take c.args.len (row ++ rest) ≡ row = ap (λ n. take n (row ++ rest)) (sym long) ∙ take-append_seam row rest in
    let is : IsRowIn (holds c.args.members) c.args.len c.args.own row = record {
      inside = c.are_others.ensures.inside c.if-not-are_others.false;
      distinct = c.are_apart.ensures e;
      others = c.are_others.ensures.others c.if-not-are_others.false;
      short = omega (arith, long);
    } in
    row_clean file (holds c.args.members) c.args.own c.args.at c.args.len row long (c.words.ensures.words c.if-not-words.false file shows) is ∙ ap (λ xs. Ok xs) (sym front)
