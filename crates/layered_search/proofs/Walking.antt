-- The walk down through the layers, one after another.
use Rattle.std.proofs.Common.{◌≡◌, ℕ, zero, suc, ◌<◌, ◌≤◌, cond, List, refl, ap, ◌∙◌, arith}
use Rattle.std.specs.Prelude.{nat_le}
use Rattle.std.proofs.lemmas.Bool.{lt-leb, le-leb}
use Rattle.ann_defs.specs.declared.near.Near.{Near}
use Rattle.ann_defs.specs.Nearness.{ids_of}
use Rattle.ann_defs.specs.GreedySearch.{found_of}
use Rattle.layered_search.specs.KnnSearch.{entries_down}

module _ (points : List (List ℕ)) (row : ℕ → ℕ → List ℕ) (query : List ℕ) (beam : ℕ) where
  -- above its end a walk goes through a layer
  pub entries_next : (entries : List ℕ) (l to : ℕ) → to ≤ l → entries_down points row query beam entries (suc l) to ≡ entries_down points row query beam (ids_of (found_of points (row (suc l)) query beam entries)) l to
  entries_next entries l to h = ap (λ b. cond b entries (entries_down points row query beam (ids_of (found_of points (row (suc l)) query beam entries)) l to)) (lt-leb (suc l) to (omega arith))

  -- and at its end it is over
  pub entries_done : (entries : List ℕ) (from to : ℕ) → from ≤ to → entries_down points row query beam entries from to ≡ entries
  entries_done entries zero to h = refl
  entries_done entries (suc l) to h = ap (λ b. cond b entries (entries_down points row query beam (ids_of (found_of points (row (suc l)) query beam entries)) l to)) (le-leb (suc l) to (omega arith))

-- a walk goes by the rows of the layers that it goes through
pub entries_same : (points : List (List ℕ)) (row other : ℕ → ℕ → List ℕ) (query : List ℕ) (beam : ℕ) (entries : List ℕ) (from to : ℕ) → ((l : ℕ) → l < from → row (suc l) ≡ other (suc l))
    → entries_down points row query beam entries from to ≡ entries_down points other query beam entries from to
entries_same points row other query beam entries zero to same = refl
entries_same points row other query beam entries (suc l) to same =
    let here : found_of points (row (suc l)) query beam entries ≡ found_of points (other (suc l)) query beam entries = ap (λ (r : ℕ → List ℕ). found_of points r query beam entries) (same l (omega arith)) in
    ap (λ rest. cond (nat_le (suc l) to) entries rest)
    (ap (λ (nears : List Near). entries_down points row query beam (ids_of nears) l to) here
    ∙ entries_same points row other query beam (ids_of (found_of points (other (suc l)) query beam entries)) l to (λ k less. same k (omega (arith, less))))
