-- How many calls there were, and those that are to fail.
use Rattle.std.specs.Prelude.{ℕ, List, [], Bool, ◌==◌}
use Rattle.std.specs.List.{list_any}
use Rattle.ann_shelf.specs.Faults.{next_count}

-- how many calls there were, and the numbers of those that are to fail, whose order and repetition say nothing
pub record Calls : Type 0 where
  pub made : ℕ
  pub failing : List ℕ

abbrev pub no_calls : Calls
no_calls = record { made = 0; failing = [] }

-- whether the call with this number is to fail
abbrev pub fails : Calls → ℕ → Bool
fails calls number = list_any (λ n. n == number) calls.failing

-- whether the next call is to fail
abbrev pub next_fails : Calls → Bool
next_fails calls = fails calls (next_count calls.made)

-- after one call more
abbrev pub one_more : Calls → Calls
one_more calls = record { made = next_count calls.made; failing = calls.failing }
