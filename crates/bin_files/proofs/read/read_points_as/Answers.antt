use Rattle.std.proofs.Common.{◌≡◌, ◌*◌, ◌∙◌, sym, ap, subst, length}
use Rattle.bin_files.specs.Rows.{rows, ArePoints}
use Rattle.bin_files.proofs.Pieces.{both_told}
use Rattle.bin_files.proofs.Spelled.{are_points, limits_of, text_read}
use Rattle.bin_files.proofs.Texts.{text_only}
use Rattle.bin_files.proofs.Turned.{length-file_bytes}
use Rattle.bin_files.proofs.Verdicts.{judges_ok}
use Rattle.bin_files.proofs.read.read_points_as.Goals as goal

pub returns-clause-verdict : goal.returns-clause-verdict
returns-clause-verdict g c =
    both_told (g.F.Shelf.shown c.args.shelf.now).held (g.F.Shelf.shown c.read_header.new.shelf).held c.in_ok-count.ensures.only_reads.held c.in_ok-count.ensures.verdict c.in_ok-bytes.ensures.verdict (λ files has body.
    judges_ok c.args.element _ c.in_ok-count.count c.in_ok-count.dim c.in_ok-bytes.bytes.items c.new.result has body.0 c.in_ok-bytes.ensures.full c.new.ensures.element
    (c.new.ensures.points ∙ ap (rows c.in_ok-count.count c.in_ok-count.dim) (c.turned.ensures.there)))

pub returns-clause-points : goal.returns-clause-points
returns-clause-points g c =
    let long : length c.turned.result.items ≡ c.in_ok-count.count * c.in_ok-count.dim =
    ap length c.turned.ensures.there ∙ length-file_bytes c.args.element _ ∙ c.in_ok-bytes.ensures.full in
    subst ArePoints (sym c.new.ensures.points) (are_points c.in_ok-count.count c.in_ok-count.dim c.turned.result.items (limits_of _ _ c.in_ok-count.ensures.sound) long c.turned.ensures.are_bytes)

pub returns-clause-text : goal.returns-clause-text
returns-clause-text g c =
    let long : length c.turned.result.items ≡ c.in_ok-count.count * c.in_ok-count.dim =
    ap length c.turned.ensures.there ∙ length-file_bytes c.args.element _ ∙ c.in_ok-bytes.ensures.full in
    both_told (g.F.Shelf.shown c.args.shelf.now).held (g.F.Shelf.shown c.read_header.new.shelf).held c.in_ok-count.ensures.only_reads.held c.in_ok-count.ensures.verdict c.in_ok-bytes.ensures.verdict (λ files has body.
    text_read c.args.element _ c.in_ok-count.count c.in_ok-count.dim c.in_ok-bytes.bytes.items c.turned.result.items c.new.result (limits_of _ _ c.in_ok-count.ensures.sound) has body.0 long
    c.turned.ensures.back c.new.ensures.element c.new.ensures.points)

pub returns-clause-only : goal.returns-clause-only
returns-clause-only g c =
    let long : length c.turned.result.items ≡ c.in_ok-count.count * c.in_ok-count.dim =
    ap length c.turned.ensures.there ∙ length-file_bytes c.args.element _ ∙ c.in_ok-bytes.ensures.full in
    let limits = limits_of _ _ c.in_ok-count.ensures.sound in
    both_told (g.F.Shelf.shown c.args.shelf.now).held (g.F.Shelf.shown c.read_header.new.shelf).held c.in_ok-count.ensures.only_reads.held c.in_ok-count.ensures.verdict c.in_ok-bytes.ensures.verdict (λ files has body X are element same.
    text_only X c.new.result are
    (subst ArePoints (sym c.new.ensures.points) (are_points c.in_ok-count.count c.in_ok-count.dim c.turned.result.items limits long c.turned.ensures.are_bytes))
    element
    (sym same ∙ text_read c.args.element _ c.in_ok-count.count c.in_ok-count.dim c.in_ok-bytes.bytes.items c.turned.result.items c.new.result limits has body.0 long
    c.turned.ensures.back c.new.ensures.element c.new.ensures.points))
