use Rattle.ann_shelf.proofs.Only.{only_writes_same}
use Rattle.ann_shelf.proofs.Results.{ok_not_err}
use Rattle.graph_files.proofs.pieces.Pieces.make_room.Goals as goal

pub returns-then-self-size-le16384-clause-only_writes : goal.returns-then-self-size-le16384-clause-only_writes
returns-then-self-size-le16384-clause-only_writes g c = only_writes_same _ _ (λ told. ok_not_err _ _ told)
