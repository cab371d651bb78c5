-- Settings are their fields.
use Rattle.std.proofs.Common.{◌≡◌, ℕ, true, Option, Some, None, sym, refl, ap}
use mathlib.Core.HLevel.{is_prop→PathP}
use Rattle.std.specs.Prelude.{nat_eq, ◌≤◌}
use Rattle.std.specs.Coded.{le_prop}
use Rattle.std.specs.Option.{option_eq}
use Rattle.std.proofs.lemmas.Bool.{eqb-true, true≢false}
use Rattle.ann_defs.specs.declared.alpha.Alpha.{Alpha}
use Rattle.vamana_build.specs.declared.settings.VamanaSettings.{VamanaSettings}

pub alpha_same : (a b : Alpha) → a.num ≡ b.num → a.den ≡ b.den → a ≡ b
alpha_same a b num den = λ i. record {
  num = num i;
  den = den i;
  some = is_prop→PathP (λ j. 1 ≤ den j) (λ j. le_prop) a.some b.some i;
  ordered = is_prop→PathP (λ j. den j ≤ num j) (λ j. le_prop) a.ordered b.ordered i;
  small = is_prop→PathP (λ j. num j ≤ 1000) (λ j. le_prop) a.small b.small i;
}

pub cap_same : (a b : Option ℕ) → option_eq nat_eq a b ≡ true → a ≡ b
cap_same None None h = refl
cap_same None (Some y) h = absurd (true≢false (sym h))
cap_same (Some x) None h = absurd (true≢false (sym h))
cap_same (Some x) (Some y) h = ap Some (eqb-true x y h)

pub settings_same : (a b : VamanaSettings) → a.order ≡ b.order → a.start ≡ b.start → a.alpha ≡ b.alpha → a.cap ≡ b.cap → a.seed ≡ b.seed → a.degree ≡ b.degree → a.beam ≡ b.beam → a.passes ≡ b.passes → a ≡ b
settings_same a b order start alpha cap seed degree beam passes = λ i. record { order = order i; start = start i; seed = seed i; degree = degree i; beam = beam i; alpha = alpha i; cap = cap i; passes = passes i }
