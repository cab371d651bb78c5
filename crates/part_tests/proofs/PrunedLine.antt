-- The candidates of the worked rows.
use Rattle.std.proofs.Common.{◌≡◌, ◌≢◌, ℕ, ◌<◌, List, [], ◌∷◌, length, refl, arith, lit<}
use Rattle.std.specs.List.{All, IsDistinct}
use Rattle.std.proofs.lemmas.List.Elements.{All-nil, All-cons}
use Rattle.ann_defs.specs.declared.near.Near.{Near}
use Rattle.ann_defs.specs.Distance.{point}
use Rattle.ann_defs.specs.Nearness.{near_of}
use Rattle.robust_prune.specs.Candidates.{AreCandidates}

pub none_are_candidates : (points : List (List ℕ)) (p : ℕ) → AreCandidates points p []
unfolding IsDistinct
none_are_candidates points p = record {
  in_range = All-nil (λ x. x.id < length points);
  near = All-nil (λ x. x ≡ near_of points (point points p) x.id);
  distinct = tt;
  others = All-nil (λ x. x.id ≢ p);
}

abbrev three : List (List ℕ)
three = (0 ∷ []) ∷ (10 ∷ []) ∷ (20 ∷ []) ∷ []

abbrev farther : Near
farther = record { dist = 400; id = 2 }

abbrev nearer : Near
nearer = record { dist = 100; id = 1 }

both_of : (P : Near → Type 0) → P farther → P nearer → All P (farther ∷ nearer ∷ [])
both_of P h k = All-cons P farther (nearer ∷ []) h (All-cons P nearer [] k (All-nil P))

pub both_are_candidates : AreCandidates three 0 (farther ∷ nearer ∷ [])
unfolding IsDistinct
both_are_candidates = record {
  in_range = both_of (λ x. x.id < length three) (lit< tt) (lit< tt);
  near = both_of (λ x. x ≡ near_of three (point three 0) x.id) refl refl;
  distinct = ((refl, tt), (tt, tt));
  others = both_of (λ x. x.id ≢ 0) (λ (e : 2 ≡ 0). omega arith) (λ (e : 1 ≡ 0). omega arith);
}
