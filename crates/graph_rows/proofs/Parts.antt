-- Parts of equal length.
use Rattle.std.proofs.Common.{◌≡◌, ℕ, ◌+◌, ◌*◌, ◌<◌, ◌≤◌, List, [], length, arith}
use Rattle.std.specs.Prelude.{slice_range}
use Rattle.std.proofs.Math.Nat.{mul-le-mul_right}
use Rattle.std.proofs.lemmas.List.FromFn.{length-map-range_with_len, get_or-map-range_with_len}
use Rattle.ann_defs.specs.Distance.{point}
use Rattle.graph_rows.specs.Blocks.{rows_of}

pub length-rows : (n d : ℕ) (bytes : List ℕ) → length (rows_of n d bytes) ≡ n
length-rows n d bytes = length-map-range_with_len (λ i. slice_range bytes (i * d) (i * d + d)) 0 n

pub point-rows : (n d : ℕ) (bytes : List ℕ) (i : ℕ) → i < n → point (rows_of n d bytes) i ≡ slice_range bytes (i * d) (i * d + d)
point-rows n d bytes i h = get_or-map-range_with_len (λ i. slice_range bytes (i * d) (i * d + d)) 0 n i i [] h (omega arith)

pub ends_within : (n d : ℕ) (bytes : List ℕ) (i : ℕ) → i < n → length bytes ≡ n * d → i * d + d ≤ length bytes
ends_within n d bytes i h e = let more : (i + 1) * d ≤ n * d = grind (arith, mul-le-mul_right) in omega arith
