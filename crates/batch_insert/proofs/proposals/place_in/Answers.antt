use Rattle.std.proofs.Common.{◌≡◌, ◌<◌, ◌≤◌, arith, get_or, ℕ, Err}
use Rattle.std.proofs.lemmas.List.Sorted.{searched}
use Rattle.batch_insert.proofs.Grouping.{rising_numbers, has_none}
use Rattle.batch_insert.proofs.proposals.place_in.Goals as goal

pub returns-in-Err : goal.returns-in-Err
returns-in-Err c =
    let xs = c.args.targets.now in
    let x = c.args.target in
    let at = c.in-Err.field-0 in
    let found = searched xs x (Err at) c.in-Err.ensures.position (rising_numbers xs c.requires.rises) in
    has_none xs x (λ k within e.
    let low = found.1 k in
    let high = found.2 k in
    apart k at (get_or xs k 0) x low (λ h. high h within) e)
  where
    apart : (k at v x : ℕ) → (k < at → v < x) → (at ≤ k → x < v) → v ≡ x → ⊥
    apart k at v x low high e = grind arith
