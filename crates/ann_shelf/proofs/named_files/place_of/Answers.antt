use Rattle.std.proofs.Common.{◌≡◌, ◌≢◌, arith, sym, ap, ◌∙◌, add-one, string_bytes, get_or, true}
use Rattle.std.proofs.lemmas.Slice.Eq.{bytes_eq-Decides}
use Rattle.ann_shelf.proofs.Places.{place_here, absent_more}
use Rattle.ann_shelf.proofs.named_files.place_of.Goals as goal

pub returns-then-eq-clause-place : goal.returns-then-eq-clause-place
returns-then-eq-clause-place c =
    let same : c.as_str.result.now ≡ c.args.name.now = (bytes_eq-Decides _ _).0 (sym c.if-eq.ensures) in
    place_here _ _ _ c.index-files-i.result (omega arith) c.loop-i.invariant
    (ap (λ e. string_bytes e.0) (sym c.index-files-i.is) ∙ sym c.as_str.ensures.value ∙ same)

pub loop-i-preserved : goal.loop-i-preserved
loop-i-preserved c =
    let differs : string_bytes (get_or c.args.files.now c.loop-i.i c.index-files-i.result).0 ≢ c.args.name.now = λ same.
    let true_too : c.eq.result ≡ true = c.eq.ensures ∙ (bytes_eq-Decides _ _).1 (c.as_str.ensures.value ∙ ap (λ e. string_bytes e.0) c.index-files-i.is ∙ same) in
    cc in
    rw add-one (absent_more _ _ _ c.index-files-i.result (omega arith) c.loop-i.invariant differs)
