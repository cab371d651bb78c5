use Rattle.std.proofs.Common.{◌≡◌, ◌∙◌, ◌≤◌, ◌/◌, ◌*◌, ◌%◌, ℕ, ap, sym, add-zero, map}
use Rattle.std.specs.List.{range_with_len}
use Rattle.std.specs.Prelude.{vec_len}
use Rattle.std.proofs.lemmas.Nat.{div-mul-add, mod-mul-add}
use Rattle.bin_files.specs.Rows.{rows}
use Rattle.seeded_order.specs.Generator.{generated_byte}
use Rattle.seeded_order.proofs.generator.made_points.Goals as goal

-- the length is the product
product_mod : (len count dim : ℕ) → len ≡ count * dim → 1 ≤ dim → len % dim ≡ 0
product_mod len count dim e some = ap (λ (x : ℕ). x % dim) (e ∙ sym (add-zero (count * dim))) ∙ mod-mul-add count dim 0 some

product_div : (len count dim : ℕ) → len ≡ count * dim → 1 ≤ dim → len / dim ≡ count
product_div len count dim e some = ap (λ (x : ℕ). x / dim) (e ∙ sym (add-zero (count * dim))) ∙ div-mul-add count dim 0 some

pub from_bytes-requires-clause-whole : goal.from_bytes-requires-clause-whole
from_bytes-requires-clause-whole c = product_mod (vec_len c.in_ok-bytes.bytes) c.args.count c.args.dim (c.in_ok-bytes.ensures.len ∙ (λ i. c.from.ensures i * c.from-2.ensures i)) c.requires.dim.0

pub returns-clause-vectors : goal.returns-clause-vectors
returns-clause-vectors c =
    let product : c.from.result * c.from-2.result ≡ c.args.count * c.args.dim = λ i. c.from.ensures i * c.from-2.ensures i in
    let count = product_div (vec_len c.in_ok-bytes.bytes) c.args.count c.args.dim (c.in_ok-bytes.ensures.len ∙ product) c.requires.dim.0 in
    let bytes = c.in_ok-bytes.ensures.bytes ∙ ap (λ (n : ℕ). map (generated_byte c.args.seed) (range_with_len c.args.first n)) product in
    c.from_bytes.ensures.vectors ∙ (λ i. rows (count i) c.args.dim (bytes i))
