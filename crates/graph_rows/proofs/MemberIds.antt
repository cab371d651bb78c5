-- The ids below a count, by their number.
use Rattle.std.proofs.Common.{◌≡◌, ℕ, ◌<◌, length, get_or, sym, subst, ◌∙◌, arith}
use Rattle.std.specs.List.{range_with_len}
use Rattle.std.proofs.lemmas.List.FromFn.{get_or-range_with_len, length-range_with_len}
use Rattle.graph_rows.specs.declared.members.Members.{Members}
use Rattle.graph_rows.specs.declared.members.Members.TheVariants.{Below}
use Rattle.graph_rows.specs.Members.{owns}

below_nth : (count i : ℕ) → i < length (range_with_len 0 count) → i ≡ get_or (range_with_len 0 count) i 0
below_nth count i lt = sym (get_or-range_with_len 0 count i 0 (omega (arith, length-range_with_len 0 count)) ∙ omega arith)

pub nth_below : (members : Members) (count i : ℕ) → members ≡ Below count → i < length (owns members) → i ≡ get_or (owns members) i 0
nth_below members count i is = subst (λ m. i < length (owns m) → i ≡ get_or (owns m) i 0) (sym is) (below_nth count i)

pub count_below : (members : Members) (count : ℕ) → members ≡ Below count → count ≡ length (owns members)
count_below members count is = subst (λ m. count ≡ length (owns m)) (sym is) (sym (length-range_with_len 0 count))
