use Rattle.std.proofs.Common.{inr}
use Rattle.ann_shelf.proofs.Only.{only_writes_then}
use Rattle.ann_shelf.proofs.Results.{passed_on}
use Rattle.graph_files.proofs.write.write_layer.Goals as goal

pub returns-in_err-write_words-clause-only_writes : goal.returns-in_err-write_words-clause-only_writes
returns-in_err-write_words-clause-only_writes g c =
    only_writes_then _ _ _ _ c.in_ok-put.ensures.only_writes c.in_err-write_words.ensures.only_writes (λ told. inr (passed_on c.from_residual-in_err-write_words.result _ _ c.from_residual-in_err-write_words.ensures.1 told))

pub returns-clause-only_writes : goal.returns-clause-only_writes
returns-clause-only_writes g c =
    only_writes_then _ _ _ _ (only_writes_then _ _ _ _ {R = ⊥} c.in_ok-put.ensures.only_writes c.in_ok-write_words.ensures.only_writes (λ never. absurd never))
    c.write_rows.ensures.only_writes (λ told. inr told)
