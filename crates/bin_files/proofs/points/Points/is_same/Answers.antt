use Rattle.std.proofs.Common.{◌≡◌, sym, ◌∙◌, rules}
use Rattle.std.proofs.lemmas.Slice.Eq.{bytes_eq-Decides}
use Rattle.bin_files.proofs.SamePoints.{same_count, same_dim, same_numbers, same_set}
use Rattle.bin_files.proofs.points.Points.is_same.Goals as goal

pub returns-then-self-other : goal.returns-then-self-other
returns-then-self-other c = (
  search rules,
  λ same. absurd (c.if-self-other.true (same_count _ _ _ _ _ _ _ _ (c.self.view_is ∙ same ∙ sym c.other.view_is))),
)

pub returns-then-self-other-2 : goal.returns-then-self-other-2
returns-then-self-other-2 c = (
  search rules,
  λ same. absurd (c.if-self-other-2.true (same_dim _ _ _ _ _ _ _ _ (c.self.view_is ∙ same ∙ sym c.other.view_is) c.self.invariant.0.some c.other.invariant.0.some c.self.invariant.1 c.other.invariant.1)),
)

pub returns : goal.returns
returns c =
    let element : c.self.inside.element ≡ c.other.inside.element = search rules in
    let same_bytes = bytes_eq-Decides c.as_slice.result.now c.as_slice-2.result.now in (
      λ is. sym c.self.view_is
          ∙ same_set _ _ _ _ _ _ _ _ element c.if-self-other.false c.if-self-other-2.false (sym c.as_slice.ensures.value ∙ same_bytes.0 (sym c.eq.ensures ∙ is) ∙ c.as_slice-2.ensures.value)
          ∙ c.other.view_is,
      λ same. c.eq.ensures ∙ same_bytes.1 (c.as_slice.ensures.value ∙ same_numbers _ _ _ _ _ _ _ _ (c.self.view_is ∙ same ∙ sym c.other.view_is) c.self.invariant.1 c.other.invariant.1 ∙ sym c.as_slice-2.ensures.value),
    )
