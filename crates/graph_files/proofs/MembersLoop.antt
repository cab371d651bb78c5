-- The ids of a further layer, one after another.
use Rattle.std.proofs.Common.{◌≡◌, ◌≢◌, inl, inr, ℕ, suc, ◌+◌, ◌-◌, ◌<◌, ◌≤◌, Bool, true, false, not, ◌||◌, cond, ltb, List, [], ◌∷◌, ◌++◌, length, get_or, set, Some, None, Result, Ok, Err, refl, sym, ap, ◌∙◌, arith, get_or-set_same, get_or-set_other}
use Rattle.std.proofs.lemmas.Bool.{cases_lt, ltb-false}
use Rattle.graph_files.specs.declared.fault.IndexFault.{IndexFault}
use Rattle.graph_files.specs.declared.fault.IndexFault.TheVariants.{Malformed}
use Rattle.graph_files.specs.declared.fault.IndexRule.TheVariants.{LayerIds}
use Rattle.graph_files.specs.Grammar.{◌>>=◌, unless, word_at, layer_id_fault, layer_ids_at}
use Rattle.graph_files.specs.Reading.{Fails, AreMembers}
use Rattle.graph_files.proofs.RowLoop.{fails_with, fails_before, fails_along}

module _ (below : ℕ → Bool) (file : List ℕ) where
  pub members_on : (len i at next least id : ℕ) (ids : List ℕ) (total : Result (List ℕ) IndexFault) → i < len → next ≡ at + 4 → word_at file at ≡ Ok id → None ≡ layer_id_fault below at least id
      → layer_ids_at below file (len - i) at least ids ≡ total → layer_ids_at below file (len - (i + 1)) next (id + 1) (ids ++ id ∷ []) ≡ total
  unfolding layer_ids_at
  members_on len i at next least id ids total lt place word sound so_far =
      let k : len - i ≡ suc (len - (i + 1)) = omega arith in
      let one : layer_ids_at below file (len - i) at least ids ≡ layer_ids_at below file (len - (i + 1)) (at + 4) (id + 1) (ids ++ id ∷ []) = rw (k, word, ← sound) refl in
      ap (λ p. layer_ids_at below file (len - (i + 1)) p (id + 1) (ids ++ id ∷ [])) place ∙ sym one ∙ so_far

  pub members_short : (fault : IndexFault) (len i at least : ℕ) (ids : List ℕ) (total : Result (List ℕ) IndexFault) → i < len → Fails fault (word_at file at)
      → layer_ids_at below file (len - i) at least ids ≡ total → Fails fault total
  unfolding layer_ids_at
  members_short fault len i at least ids total lt short so_far =
      let k : len - i ≡ suc (len - (i + 1)) = omega arith in
      let F : ℕ → Result (List ℕ) IndexFault = λ id. unless (layer_id_fault below at least id) (layer_ids_at below file (len - (i + 1)) (at + 4) (id + 1) (ids ++ id ∷ [])) in
      let one : (word_at file at >>= F) ≡ layer_ids_at below file (len - i) at least ids = rw k refl in
      fails_along fault _ total (one ∙ so_far) (fails_before fault (word_at file at) F short)

  pub members_broken : (fault : IndexFault) (len i at least id : ℕ) (ids : List ℕ) (total : Result (List ℕ) IndexFault) → i < len → word_at file at ≡ Ok id → Some fault ≡ layer_id_fault below at least id
      → layer_ids_at below file (len - i) at least ids ≡ total → Fails fault total
  unfolding layer_ids_at
  members_broken fault len i at least id ids total lt word broken so_far =
      let k : len - i ≡ suc (len - (i + 1)) = omega arith in
      let one : layer_ids_at below file (len - i) at least ids ≡ Err fault = rw (k, word, ← broken) refl in
      fails_with fault total (sym so_far ∙ one)

  pub members_done : (len i at least : ℕ) (ids : List ℕ) (total : Result (List ℕ) IndexFault) → len ≤ i → layer_ids_at below file (len - i) at least ids ≡ total → total ≡ Ok ids
  unfolding layer_ids_at
  members_done len i at least ids total le so_far =
      let k : len - i ≡ 0 = omega arith in
      let one : layer_ids_at below file (len - i) at least ids ≡ Ok ids = rw k refl in
      sym so_far ∙ one

-- all earlier ids are below the least that may come
abbrev pub AreBelow : ℕ → ℕ → List ℕ → Type 0
AreBelow least n ids = (k : ℕ) → k < n → get_or ids k 0 < least

tests : (less inside : Bool) (at : ℕ) → None ≡ cond (less || not inside) (Some (Malformed at LayerIds)) None → (less ≡ false) × (inside ≡ true)
tests false true at e = (refl, refl)
tests false false at e = absurd cc
tests true inside at e = absurd cc

module _ (below : ℕ → Bool) (at least id i : ℕ) (ids : List ℕ) (lt : i < length ids) (sound : None ≡ layer_id_fault below at least id) where
  passed : (ltb id least ≡ false) × (below id ≡ true)
  passed = tests (ltb id least) (below id) at sound

  reached : least ≤ id
  reached = ltb-false id least passed.0

  same : get_or (set ids i id) i 0 ≡ id
  same = get_or-set_same ids i id 0 lt

  other : (k : ℕ) → k < i → get_or (set ids i id) k 0 ≡ get_or ids k 0
  other k less = let apart : k ≢ i = omega arith in get_or-set_other ids i k id 0 apart

  pub below_push : AreBelow least i ids → AreBelow (id + 1) (i + 1) (set ids i id)
  below_push before k less = elim (cases_lt k i) as (λ _. get_or (set ids i id) k 0 < id + 1) [
    | inl lt_i ↦ rw (other k lt_i) (omega (arith, before k lt_i, reached))
    | inr ge ↦ let is : k ≡ i = omega arith in rw (is, same) (omega arith)
  ]

  pub members_push : AreBelow least i ids → AreMembers below i ids → AreMembers below (i + 1) (set ids i id)
  members_push before members = record {
    ascend = λ j k less last. elim (cases_lt k i) as (λ _. get_or (set ids i id) j 0 < get_or (set ids i id) k 0) [
      | inl lt_i ↦ let j_lt : j < i = omega arith in rw (other j j_lt, other k lt_i) (members.ascend j k less lt_i)
      | inr ge ↦ let is : k ≡ i = omega arith in let j_lt : j < i = omega arith in rw (is, same, other j j_lt) (omega (arith, before j j_lt, reached))
    ];
    inside = λ k less. elim (cases_lt k i) as (λ _. below (get_or (set ids i id) k 0) ≡ true) [
      | inl lt_i ↦ rw (other k lt_i) (members.inside k lt_i)
      | inr ge ↦ let is : k ≡ i = omega arith in rw (is, same) passed.1
    ];
  }
