use Rattle.std.proofs.Common.{◌<◌, ◌≡◌, ◌∙◌, subst, ap, ◌++◌, length, arith, rules}
use Rattle.sha2.specs.Hashers.{Holds256}
use Rattle.bin_files.specs.Points.{file_bytes}
use Rattle.points_digest.proofs.Fed.{fed, fed-more, fed-all}
use Rattle.points_digest.proofs.digest.digest_of.Goals as goal

pub loop-id-preserved : goal.loop-id-preserved
loop-id-preserved c =
    let X = c.args.points.now in
    let added = c.add_point.ensures.added (fed X.element X.vectors c.loop-id.id) c.loop-id.invariant.holds in
    let below : c.loop-id.id < length X.vectors = omega arith in
    record {
      holds = subst (λ m. Holds256 c.add_point.new.hasher m)
          (ap (λ e. fed X.element X.vectors c.loop-id.id ++ file_bytes e c.at.result.now) c.element.ensures ∙ ap (λ p. fed X.element X.vectors c.loop-id.id ++ file_bytes X.element p) c.at.ensures.value ∙ fed-more X.element X.vectors c.loop-id.id below)
          added;
      wide = search rules;
    }

pub returns : goal.returns
returns c =
    let X = c.args.points.now in
    let last : c.loop-id.id ≡ length X.vectors = omega arith in
    c.finalize.ensures _ (subst (λ m. Holds256 c.loop-id.hasher m) (ap (fed X.element X.vectors) last ∙ fed-all X) c.loop-id.invariant.holds)
