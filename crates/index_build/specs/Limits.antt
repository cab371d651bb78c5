-- What is over its limit.
use Rattle.std.specs.Prelude.{ℕ, ◌*◌, Option, Some, None, nat_lt, if◌then◌else◌}
use Rattle.ann_defs.specs.declared.limits.TheConstants.{MAX_ANSWERS, MAX_CELLS, MAX_WORDS}
use Rattle.ann_shelf.specs.declared.slip.Quantity.{Quantity}
use Rattle.ann_shelf.specs.declared.slip.Quantity.TheVariants.{Answers, Cells, Words}
use Rattle.annbuild_lines.specs.declared.fault.Fault.{Fault}
use Rattle.annbuild_lines.specs.declared.fault.Fault.TheVariants.{TooLarge}

-- a number that is over its limit
abbrev pub limit_refusal : (name : Quantity) → (value limit : ℕ) → Option Fault
limit_refusal name value limit = if nat_lt limit value then Some (TooLarge name value limit) else None

-- the words of an index that are over their limit
abbrev pub words_refusal : ℕ → Option Fault
words_refusal words = limit_refusal Words words MAX_WORDS

-- the numbers of so many points of so many numbers each that are over their limit
abbrev pub cells_refusal : (count dim : ℕ) → Option Fault
cells_refusal count dim = limit_refusal Cells (count * dim) MAX_CELLS

-- the answers of so many queries, with so many each, that are over their limit
abbrev pub answers_refusal : (count k : ℕ) → Option Fault
answers_refusal count k = limit_refusal Answers (count * k) MAX_ANSWERS
