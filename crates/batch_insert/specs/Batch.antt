-- A batch, and what its rounds work on.
use Rattle.std.specs.Prelude.{◌≡◌, ℕ, ◌<◌, Bool, true, if◌then◌else◌, List}
use Rattle.std.specs.List.{All}
use Rattle.ann_defs.specs.Graph.{has, IsGoodRow}
use Rattle.ann_defs.specs.Ordered.{Has, Ascends}
use Rattle.batch_insert.specs.declared.pair.Pair.{Pair}
use Rattle.batch_insert.specs.Proposing.{targets_of, proposed_to}
use Rattle.batch_insert.specs.Sources.{sources_in, AreSources}

-- a batch of these ids over a graph of some of n points: old and new rows are good, and all that a new row names is held
pub record IsBatch (n bound : ℕ) (held : ℕ → Bool) (old : ℕ → List ℕ) (batch : ℕ → Bool) (fresh : ℕ → List ℕ) (ids : List ℕ) : Type 0 where
  pub ascend : Ascends ids
  pub listed : (u : ℕ) → batch u ≡ has ids u
  pub below : (u : ℕ) → held u ≡ true → u < n
  pub batch_held : (u : ℕ) → batch u ≡ true → held u ≡ true
  pub old_good : (u : ℕ) → held u ≡ true → IsGoodRow n bound u (old u)
  pub fresh_good : (u : ℕ) → batch u ≡ true → IsGoodRow n bound u (fresh u)
  pub fresh_held : (u : ℕ) → batch u ≡ true → All (λ v. held v ≡ true) (fresh u)

-- the row of u once the new rows lie over the old ones
abbrev pub laid_over : (ℕ → List ℕ) → (ℕ → Bool) → (ℕ → List ℕ) → ℕ → List ℕ
laid_over old batch fresh u = if batch u then fresh u else old u

-- rows whose targets can be merged with what is proposed to them
pub record AreTargets (n bound : ℕ) (held : ℕ → Bool) (row : ℕ → List ℕ) (pairs : List Pair) : Type 0 where
  pub held_all : (t : ℕ) → Has (targets_of pairs) t → held t ≡ true
  pub inside : (t : ℕ) → Has (targets_of pairs) t → t < n
  pub good : (t : ℕ) → Has (targets_of pairs) t → IsGoodRow n bound t (row t)
  pub sources : (t : ℕ) → Has (targets_of pairs) t → AreSources n t (sources_in (proposed_to pairs t))
