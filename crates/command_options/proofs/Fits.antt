-- The number of answers has 32 bits.
use Rattle.std.proofs.Common.{◌<◌, ◌≤◌, ◌^◌, ℕ, Bool, true, false, cond, arith}
use Rattle.ann_defs.specs.declared.limits.TheConstants.{MAX_BEAM}

pub k_fits : (exact : Bool) (k search : ℕ) → k ≤ cond exact MAX_BEAM search → search ≤ MAX_BEAM → k < 2 ^ 32
k_fits true k search h s = omega (arith, h)
k_fits false k search h s = omega (arith, h, s)
