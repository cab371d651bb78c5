use Rattle.std.proofs.Common.{◌≡◌, ◌+◌, ◌*◌, ◌≤◌, ℕ, List, [], take, length, sym, ap, ◌∙◌, arith}
use Rattle.std.proofs.Math.Nat.{mul-le-mul_right}
use Rattle.std.proofs.lemmas.List.{take_all}
use Rattle.std.proofs.lemmas.List.Sums.{sum_by_more}
use Rattle.std.specs.List.{sum_by}
use Rattle.graph_rows.specs.Flat.{Flat}
use Rattle.graph_rows.proofs.BlockRows.{length-rows_in}
use Rattle.graph_rows.proofs.flat.FlatGraph.edges.Goals as goal

pub at-requires : goal.at-requires
at-requires c =
    let many : length c.args.self.now.rows ≡ c.self.inside.count = sym (ap (λ (g : Flat). length g.rows) c.self.view_is) ∙ length-rows_in c.self.inside.count c.self.inside.width c.self.inside.words.items in
    omega arith

pub loop-i-preserved : goal.loop-i-preserved
loop-i-preserved c =
    let many : length c.args.self.now.rows ≡ c.self.inside.count = sym (ap (λ (g : Flat). length g.rows) c.self.view_is) ∙ length-rows_in c.self.inside.count c.self.inside.width c.self.inside.words.items in
    let more : sum_by (λ (row : List ℕ). length row) (take (c.loop-i.i + 1) c.args.self.now.rows) ≡ sum_by (λ (row : List ℕ). length row) (take c.loop-i.i c.args.self.now.rows) + length c.at.result.now =
    sum_by_more (λ (row : List ℕ). length row) c.args.self.now.rows c.loop-i.i [] (omega arith) ∙ ap (λ (row : List ℕ). sum_by (λ (row : List ℕ). length row) (take c.loop-i.i c.args.self.now.rows) + length row) (sym c.at.ensures.row) in
    record { sum = omega arith; bound = omega arith }

pub returns-clause-value : goal.returns-clause-value
returns-clause-value c =
    let many : length c.args.self.now.rows ≡ c.self.inside.count = sym (ap (λ (g : Flat). length g.rows) c.self.view_is) ∙ length-rows_in c.self.inside.count c.self.inside.width c.self.inside.words.items in
    c.loop-i.invariant.sum ∙ ap (λ (rows : List (List ℕ)). sum_by (λ (row : List ℕ). length row) rows) (take_all c.loop-i.i c.args.self.now.rows (omega arith))

pub returns-clause-bound : goal.returns-clause-bound
returns-clause-bound c =
    let width : c.self.inside.width ≡ c.args.self.now.width = ap (λ (g : Flat). g.width) c.self.view_is in
    let all : c.loop-i.i * c.self.inside.width ≤ c.self.inside.count * c.self.inside.width = mul-le-mul_right {m = c.loop-i.i} {n = c.self.inside.count} c.self.inside.width (omega arith) in
    let same : c.loop-i.i * c.args.self.now.width ≡ c.loop-i.i * c.self.inside.width = ap (λ w. c.loop-i.i * w) (sym width) in
    omega (arith, c.self.invariant.limit)
