use Rattle.graph_rows.specs.Index.{words}
use Rattle.graph_files.specs.Writing.{pending}
use Rattle.std.proofs.Common.{◌++◌, ap, ◌∙◌}
use Rattle.graph_files.proofs.IndexBytes.{four_added}
use Rattle.graph_files.proofs.pieces.Pieces.push_stamp.Goals as goal

pub returns : goal.returns
returns c = record {
  bytes = four_added (pending c.args.self.now) (pending c.push_all.new.self) (pending c.push_bytes.new.self) (pending c.push_bytes-2.new.self) (pending c.push_bytes-3.new.self) _ _ _ _
      (c.push_all.ensures.bytes ∙ ap (λ ns. pending c.args.self.now ++ words ns) c.numbers_of.ensures) (c.push_bytes.ensures.bytes ∙ ap (λ bs. pending c.push_all.new.self ++ bs) c.to_le_bytes.ensures) (c.push_bytes-2.ensures.bytes ∙ ap (λ bs. pending c.push_bytes.new.self ++ bs) c.to_le_bytes-2.ensures) c.push_bytes-3.ensures.bytes;
}
