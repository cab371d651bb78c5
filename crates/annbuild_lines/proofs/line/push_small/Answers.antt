use Rattle.std.proofs.Common.{arith}
use Rattle.annbuild_lines.proofs.Decimals.{few_digits_32}
use Rattle.annbuild_lines.proofs.line.push_small.Goals as goal

pub push_digits-requires : goal.push_digits-requires
push_digits-requires c = omega (arith, c.requires, few_digits_32 c.from.result (omega (arith, c.ranges.n.fits)))

pub returns-clause-len : goal.returns-clause-len
returns-clause-len c = omega (arith, c.push_digits.ensures.len, few_digits_32 c.from.result (omega (arith, c.ranges.n.fits)))
