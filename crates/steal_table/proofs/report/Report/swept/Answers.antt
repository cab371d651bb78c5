use Rattle.std.proofs.Common.{◌≡◌, ◌∙◌, ap, subst, ◌+◌, ℕ, List, map, sum, count_by, length}
use lib.Dec.{eqb}
use Rattle.std.specs.List.{range_with_len}
use Rattle.steal_table.specs.Report.{Owned, tasks_run}
use Rattle.steal_table.proofs.Counts.{counts_add_up}
use Rattle.steal_table.proofs.report.Report.swept.Goals as goal

pub returns-clause-adds_up : goal.returns-clause-adds_up
returns-clause-adds_up c =
    let w : ℕ = c.self.inside.workers in let xs : List ℕ = c.self.inside.owners.items in
    let of_sweep : c.count_of.result ≡ count_by (λ j. eqb j w) xs = c.count_of.ensures ∙ ap (count_by (λ (j : ℕ). eqb j w)) c.as_slice.ensures.value in
    subst (λ (z : Owned). sum (map (tasks_run z) (range_with_len 0 z.workers)) + c.count_of.result ≡ length z.owners) c.self.view_is
    (ap (λ (n : ℕ). sum (map (λ i. count_by (λ j. eqb j i) xs) (range_with_len 0 w)) + n) of_sweep ∙ counts_add_up w xs c.self.invariant.1)
