use Rattle.std.proofs.Common.{◌++◌, ◌∙◌, ap, sym, arith}
use Rattle.std.specs.Int.{w32, to_le_bytes}
use Rattle.bin_files.specs.Points.{u32_at}
use Rattle.bin_files.proofs.Spelled.{eight}
use Rattle.bin_files.proofs.read.numbers_of.Goals as goal

pub returns-clause-spelled : goal.returns-clause-spelled
returns-clause-spelled c =
    eight c.args.header.now c.requires (λ i. omega (arith, c.type_inv.header i))
    ∙ sym (ap (λ n. to_le_bytes w32 n ++ to_le_bytes w32 c.u32_le-2.result) c.u32_le.ensures.value ∙ ap (λ n. to_le_bytes w32 (u32_at c.args.header.now 0) ++ to_le_bytes w32 n) c.u32_le-2.ensures.value)
