use Rattle.std.proofs.Common.{◌≡◌, ap, ◌∙◌, [], ◌*◌, ◌+◌, replicate, rules, arith}
use Rattle.std.proofs.lemmas.List.{length-replicate}
use Rattle.graph_rows.specs.Blocks.{rows_in}
use Rattle.graph_rows.proofs.BlockRows.{rows_in_zeros, zeros_short}
use Rattle.graph_rows.proofs.flat.FlatGraph.new.Goals as goal

pub returns : goal.returns
returns c =
    let zeros : c.in_ok-words.words.items ≡ replicate (c.args.count * (c.args.width + 1)) 0 = search rules in
    let rows : rows_in c.args.count c.args.width c.in_ok-words.words.items ≡ replicate c.args.count [] = ap (rows_in c.args.count c.args.width) zeros ∙ rows_in_zeros c.args.count c.args.width _ in
    λ i. record { width = c.args.width; rows = rows i }

pub invariant_of-result : goal.invariant_of-result
invariant_of-result c =
    let zeros : c.in_ok-words.words.items ≡ replicate (c.args.count * (c.args.width + 1)) 0 = search rules in
    rw zeros (record {
      some = omega arith;
      wide = c.requires.width.0;
      bound = c.requires.width.1;
      limit = c.requires.words;
      whole = length-replicate _ 0;
      lengths = zeros_short c.args.count c.args.width (c.args.count * (c.args.width + 1));
    })
