-- Changed rows as pairs of an id and its row.
use Rattle.std.specs.Prelude.{ℕ, List, map}
use Rattle.batch_insert.specs.declared.entry.ChangedRow.{ChangedRow}

-- each id with its row
abbrev pub entries : List ChangedRow → List (ℕ × List ℕ)
entries rows = map (λ e. (e.id, e.row.items)) rows
