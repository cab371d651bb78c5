-- Which batches the answers beside a build may be of.
use Rattle.std.specs.Prelude.{ℕ, Bool, ◌==◌, ◌&&◌, nat_le, List, length, drop, zip}
use Rattle.std.specs.List.{list_all}

-- a number of a batch for each of `count` queries: each is 1 to the total, and none is below that of the same caller's
-- query before it, which stands `callers` places before
unfoldable pub is_lawful : (callers total count : ℕ) → (numbers : List ℕ) → Bool
is_lawful callers total count numbers =
    (length numbers == count)
    && list_all (λ v. nat_le 1 v && nat_le v total) numbers
    && list_all (λ e. nat_le e.0 e.1) (zip numbers (drop callers numbers))
