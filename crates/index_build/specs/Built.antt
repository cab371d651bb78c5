-- What a builder gives, or why it gives nothing.
use Rattle.std.specs.Prelude.{◌≡◌, ◌⊎◌, ℕ, Some, None, Result, IfOk, IfErr, OnOk}
use Rattle.graph_rows.specs.Index.{Contents}
use Rattle.graph_rows.specs.View.{contents}
use Rattle.graph_rows.specs.WellFormed.{IsWellFormed}
use Rattle.graph_rows.specs.declared.index.Index.{Index}
use Rattle.annbuild_lines.specs.declared.fault.Fault.{Fault}
use Rattle.annbuild_lines.specs.declared.fault.Fault.TheVariants.{NoMemory}
use Rattle.index_build.specs.Limits.{words_refusal}

-- the wanted index, whose rows take so many words, or a refusal of them, or want of memory
pub record IsBuilt (words : ℕ) (wanted : Contents) (built : Result Index Fault) : Type 0 where
  pub fits : OnOk built (words_refusal words ≡ None)
  pub index : IfOk built (λ i. contents i ≡ wanted)
  pub well_formed : IfOk built (λ i. IsWellFormed (contents i))
  pub failed : IfErr built (λ fault. (words_refusal words ≡ Some fault) ⊎ (fault ≡ NoMemory))
