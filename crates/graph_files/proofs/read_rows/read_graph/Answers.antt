use Rattle.std.proofs.Common.{◌≡◌, [], Ok, IfSome, subst}
use Rattle.ann_shelf.specs.Files.{bytes_of}
use Rattle.graph_files.specs.Grammar.{rows_at}
use Rattle.graph_rows.specs.Members.{holds, owns}
use Rattle.graph_files.proofs.read_rows.read_graph.Goals as goal

pub returns-clause-rows : goal.returns-clause-rows
returns-clause-rows g c =
    subst (λ o. IfSome o (λ files. rows_at (holds c.args.members) c.args.bound (bytes_of files c.args.name.now) (owns c.args.members) c.args.at [] ≡ Ok (c.read_rows.new.graph.rows, c.in_ok-end.end)))
    c.in_ok-see_room.ensures.only_reads.held c.in_ok-end.ensures.rows
