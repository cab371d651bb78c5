use Rattle.std.proofs.Common.{ℕ, List, [], take, length, max, sym, ap, ◌∙◌, arith}
use Rattle.std.proofs.lemmas.List.{take_all}
use Rattle.std.proofs.lemmas.List.Sums.{fold_more}
use Rattle.graph_rows.specs.Index.{longest_in}
use Rattle.graph_rows.proofs.flat.FlatGraph.longest.Goals as goal

pub loop-i-preserved : goal.loop-i-preserved
loop-i-preserved c =
    c.max-longest.ensures ∙ ap (λ n. max n (length c.at.result.now)) c.loop-i.invariant
    ∙ ap (λ (row : List ℕ). max (longest_in (take c.loop-i.i c.args.self.now.rows)) (length row)) c.at.ensures.row
    ∙ sym (fold_more (λ most (row : List ℕ). max most (length row)) 0 c.args.self.now.rows c.loop-i.i [] (omega arith))

pub returns : goal.returns
returns c = c.loop-i.invariant ∙ ap longest_in (take_all c.loop-i.i c.args.self.now.rows (omega arith))
