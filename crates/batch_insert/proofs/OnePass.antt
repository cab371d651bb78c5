-- Outside a batch and its targets no row changes: one pass over both meets all that differ.
use Rattle.std.proofs.Common.{◌≡◌, ℕ, ◌+◌, ◌<◌, ◌≤◌, Bool, true, false, cond, not, List, [], ◌∷◌, ◌++◌, length, get_or, eqb, refl, sym, ap, ◌∙◌, subst, inl, inr, arith}
use Rattle.std.specs.Prelude.{nat_eq, slice_index}
use lib.Pointwise.{pointwise}
use Rattle.std.specs.List.{range_with_len}
use Rattle.std.specs.Ordering.{nat_cmp}
use Rattle.std.proofs.lemmas.Bool.{cases_eq, cases_lt, eq-eqb, ne_eqb}
use mir.Val.{bool_byte}
use Rattle.std.proofs.lemmas.List.Elements.{Contains-get_or}
use Rattle.ann_defs.specs.Ordered.{Has, Rises, ordered}
use Rattle.ann_defs.specs.Graph.{has, IsGoodRow}
use Rattle.ann_defs.specs.BatchInsert.{row_then}
use Rattle.ann_defs.proofs.Order.{has_from_Contains}
use Rattle.batch_insert.specs.declared.pair.Pair.{Pair}
use Rattle.batch_insert.specs.Proposing.{pair_cmp, targets_of}
use Rattle.batch_insert.specs.Proposed.{proposed}
use Rattle.batch_insert.specs.Batch.{IsBatch, AreTargets, laid_over}
use Rattle.batch_insert.specs.Changes.{differing}
use Rattle.batch_insert.specs.Sources.{AreSources}
use Rattle.batch_insert.specs.Wanted.{merge_at, merged_blocks}
use Rattle.graph_rows.specs.Blocks.{row_in}
use Rattle.batch_insert.proofs.Padding.{block_fits, block_row}
use Rattle.batch_insert.proofs.Grouping.{targets_rise}
use Rattle.batch_insert.proofs.Ascending.{rises}
use Rattle.batch_insert.proofs.Sources.{in_batch}
use Rattle.batch_insert.proofs.Differing.{differs, differing_more, differing_to, differing_few}
use Rattle.batch_insert.proofs.MergeFacts.{targets_right, last_of_target, last_of_other}
use Rattle.batch_insert.proofs.UpTo.{IsUpTo, up_to_none, up_to_next, up_to_past, none_between}

-- what is found once the first i of the ids and the first j targets are passed: all that differs below a number
pub record IsMerged (n : ℕ) (old new : ℕ → List ℕ) (ids targets : List ℕ) (i j : ℕ) (found : List (ℕ × List ℕ)) (from : ℕ) : Type 0 where
  pub points : IsUpTo ids i from
  pub proposed_to : IsUpTo targets j from
  pub within : from ≤ n
  pub found_all : found ≡ differing old new (range_with_len 0 from)

pub merged_none : (n : ℕ) (old new : ℕ → List ℕ) (ids targets : List ℕ) → IsMerged n old new ids targets 0 0 [] 0
merged_none n old new ids targets = record { points = up_to_none ids; proposed_to = up_to_none targets; within = omega arith; found_all = refl }

-- which list the next id comes from
next_is_target : (points targets i j point target n : ℕ) → i + j < points + targets → j ≤ targets → (i < points → point < n) → (targets ≤ j → target ≡ 4294967295) → n ≤ 4194304 → target ≤ point → j < targets
next_is_target points targets i j point target n left within here behind small le =
    elim (cases_lt j targets) as (λ _. j < targets) [
      | inl h ↦ h
      | inr h ↦
          let far = behind h in
          let near : point < n = here (omega (arith, left, within, h)) in
          absurd (omega (arith, far, near, small, le))
    ]

next_is_point : (points i point target : ℕ) → (points ≤ i → point ≡ 4294967295) → target ≤ 4294967295 → point < target → i < points
next_is_point points i point target behind small less =
    elim (cases_lt i points) as (λ _. i < points) [ inl h ↦ h | inr h ↦ let far = behind h in absurd (omega (arith, far, small, less)) ]

-- what one more id adds
added : (old new : ℕ → List ℕ) (found found' : List (ℕ × List ℕ)) (id u : ℕ) (row was : List ℕ) → found' ≡ found ++ cond (not (pointwise nat_eq row was)) ((id, row) ∷ []) [] → id ≡ u → row ≡ new u → was ≡ old id → found' ≡ found ++ cond (differs old new u) ((u, new u) ∷ []) []
added old new found found' id u row was e same is before = e ∙ (λ k. found ++ cond (not (pointwise nat_eq (is k) ((before ∙ ap old same) k))) ((same k, is k) ∷ []) [])

moved : (n : ℕ) (old new : ℕ → List ℕ) (ids targets : List ℕ) → {i i' j from : ℕ} {found found' : List (ℕ × List ℕ)} → i ≡ i' → found ≡ found' → IsMerged n old new ids targets i j found from → IsMerged n old new ids targets i' j found' from
moved n old new ids targets {i} {i'} {j} {from} {found} {found'} e f m = subst (λ k. IsMerged n old new ids targets k j found' from) e (subst (λ es. IsMerged n old new ids targets i j es from) f m)

module _ (n bound : ℕ) (held : ℕ → Bool) (old : ℕ → List ℕ) (batch : ℕ → Bool) (fresh : ℕ → List ℕ) (ids : List ℕ) (fits : IsBatch n bound held old batch fresh ids) (merged : ℕ → List ℕ → List ℕ → List ℕ) (pairs : List Pair) (right : pairs ≡ ordered pair_cmp (proposed fresh ids)) where
  abbrev targets : List ℕ
  targets = targets_of pairs

  abbrev laid : ℕ → List ℕ
  laid = laid_over old batch fresh

  abbrev new : ℕ → List ℕ
  new = row_then n old fresh batch merged

  are_targets : AreTargets n bound held laid pairs
  are_targets = subst (AreTargets n bound held laid) (sym right) (targets_right n bound held old batch fresh ids fits merged)

  -- the rows of a target and of another point of the batch
  target_has : (j : ℕ) → j < length targets → Has targets (get_or targets j 0)
  target_has j at = has_from_Contains targets (get_or targets j 0) (Contains-get_or targets j 0 at)

  target_held_at : (j : ℕ) → j < length targets → held (get_or targets j 0) ≡ true
  target_held_at j at = are_targets.held_all (get_or targets j 0) (target_has j at)

  target_below : (j : ℕ) → j < length targets → get_or targets j 0 < n
  target_below j at = are_targets.inside (get_or targets j 0) (target_has j at)

  target_row : (j : ℕ) → j < length targets → merge_at merged laid pairs (get_or targets j 0) ≡ new (get_or targets j 0)
  target_row j at =
      let t = get_or targets j 0 in
      ap (λ (ps : List Pair). merge_at merged laid ps t) right
      ∙ last_of_target n bound held old batch fresh ids fits merged t (subst (λ (ps : List Pair). Has (targets_of ps) t) right (target_has j at))

  -- the block of a target holds its row
  module _ (good : (t : ℕ) (row sources : List ℕ) → t < n → IsGoodRow n bound t row → AreSources n t sources → IsGoodRow n bound t (merged t row sources)) (j : ℕ) (at : j < length targets) (blocks : List (List ℕ)) (all : blocks ≡ merged_blocks merged bound laid pairs) (block : List ℕ) (got : block ≡ get_or blocks j []) where
    targets_short : (t : ℕ) → Has targets t → length (merge_at merged laid pairs t) ≤ bound
    targets_short t h = (good t _ _ (are_targets.inside t h) (are_targets.good t h) (are_targets.sources t h)).short

    is : block ≡ get_or (merged_blocks merged bound laid pairs) j []
    is = got ∙ ap (λ (bs : List (List ℕ)). get_or bs j []) all

    pub target_block_fits : slice_index block 0 + 1 ≤ length block
    target_block_fits = block_fits (merge_at merged laid pairs) bound targets targets_short j at block is

    pub target_block_row : row_in block ≡ new (get_or targets j 0)
    target_block_row = block_row (merge_at merged laid pairs) bound targets targets_short j at block is ∙ target_row j at

  point_in : (i : ℕ) → i < length ids → batch (get_or ids i 0) ≡ true
  point_in i at = in_batch n bound held old batch fresh ids fits merged (get_or ids i 0) (has_from_Contains ids (get_or ids i 0) (Contains-get_or ids i 0 at))

  point_below : (i : ℕ) → i < length ids → get_or ids i 0 < n
  point_below i at = fits.below (get_or ids i 0) (fits.batch_held (get_or ids i 0) (point_in i at))

  other : (u : ℕ) → has targets u ≡ false → laid u ≡ new u
  other u h = last_of_other n bound held old batch fresh ids fits merged u (subst (λ (ps : List Pair). has (targets_of ps) u ≡ false) right h)

  point_row : (i : ℕ) → i < length ids → has targets (get_or ids i 0) ≡ false → fresh (get_or ids i 0) ≡ new (get_or ids i 0)
  point_row i at h = let p = get_or ids i 0 in
      sym (ap (λ t. cond t (fresh p) (old p)) (point_in i at)) ∙ other p h

  untouched : (u : ℕ) → has ids u ≡ false → has targets u ≡ false → new u ≡ old u
  untouched u h k = sym (other u k) ∙ ap (λ t. cond t (fresh u) (old u)) (fits.listed u ∙ h)

  -- on to the next id
  module _ {i j from : ℕ} {found : List (ℕ × List ℕ)} (m : IsMerged n old new ids targets i j found from) where
    ids_rise : Rises nat_cmp ids
    ids_rise = rises ids fits.ascend

    -- no more rows than points are found
    pub found_few : length found ≤ n
    found_few =
        let few = differing_few old new from in
        let within = m.within in
        subst (λ (es : List (ℕ × List ℕ)). length es ≤ n) (sym m.found_all) (omega (arith, few, within))

    module _ (id : ℕ) (below : id ≤ n) (low : from ≤ id) (point : i < length ids → id ≤ get_or ids i 0) (target : j < length targets → id ≤ get_or targets j 0) where
      same_between : differing old new (range_with_len 0 id) ≡ found
      same_between =
          differing_to old new from id low (λ u h less.
          untouched u
          (none_between ids ids_rise i from m.points id point u h less)
          (none_between targets (targets_rise pairs) j from m.proposed_to id target u h less))
          ∙ sym m.found_all

      one_more : found ++ cond (differs old new id) ((id, new id) ∷ []) [] ≡ differing old new (range_with_len 0 (id + 1))
      one_more = ap (λ (es : List (ℕ × List ℕ)). es ++ cond (differs old new id) ((id, new id) ∷ []) []) (sym same_between) ∙ sym (differing_more old new id)

    pub merged_all : i ≡ length ids → j ≡ length targets → found ≡ differing old new (range_with_len 0 n)
    merged_all e f = sym (same_between n (omega arith) m.within (λ h. absurd (omega arith)) (λ h. absurd (omega arith)))

    -- past a target, and past the same id of the batch
    merged_target : (point : ℕ) → (i < length ids → point ≡ get_or ids i 0) → (length ids ≤ i → point ≡ 4294967295) → n ≤ 4194304 → j < length targets → get_or targets j 0 ≤ point
        → IsMerged n old new ids targets (i + bool_byte (eqb point (get_or targets j 0))) (j + 1) (found ++ cond (differs old new (get_or targets j 0)) ((get_or targets j 0, new (get_or targets j 0)) ∷ []) []) (get_or targets j 0 + 1)
    merged_target point here behind small at le =
        let t = get_or targets j 0 in
        let low = m.proposed_to.after j (omega arith) at in
        let below = target_below j at in
        let more = one_more t (omega (arith, below)) low (λ h. let e = here h in omega (arith, e, le)) (λ _. omega arith) in
        record {
          points = elim (cases_eq point t) as (λ _. IsUpTo ids (i + bool_byte (eqb point t)) (t + 1)) [
            | inl e ↦
                let inner : i < length ids = not_behind i (length ids) point t n behind small below e in
                let one : i + bool_byte (eqb point t) ≡ i + 1 = ap (λ b. i + bool_byte b) (eq-eqb point t e) in
                let same : get_or ids i 0 ≡ t = sym (here inner) ∙ e in
                subst (λ k. IsUpTo ids k (t + 1)) (sym one) (subst (λ v. IsUpTo ids (i + 1) (v + 1)) same (up_to_next ids ids_rise i from m.points inner))
            | inr ne ↦
                let none : i + bool_byte (eqb point t) ≡ i = ap (λ b. i + bool_byte b) (ne_eqb point t ne) ∙ omega arith in
                subst (λ k. IsUpTo ids k (t + 1)) (sym none) (up_to_past ids ids_rise i from m.points (t + 1) (λ h. let e = here h in omega (arith, e, le, ne)) (omega (arith, low)))
          ];
          proposed_to = up_to_next targets (targets_rise pairs) j from m.proposed_to at;
          within = omega (arith, below);
          found_all = more;
        }
      where
        not_behind : (i len point t n : ℕ) → (len ≤ i → point ≡ 4294967295) → n ≤ 4194304 → t < n → point ≡ t → i < len
        not_behind i len point t n behind small below e =
            elim (cases_lt i len) as (λ _. i < len) [ inl h ↦ h | inr h ↦ let far = behind h in absurd (omega (arith, far, small, below, e)) ]

    -- past an id of the batch to which nothing is proposed
    module _ (at : i < length ids) (target : ℕ) (here : j < length targets → target ≡ get_or targets j 0) (less : get_or ids i 0 < target) where
      point_alone : has targets (get_or ids i 0) ≡ false
      point_alone =
          let p = get_or ids i 0 in
          none_between targets (targets_rise pairs) j from m.proposed_to (p + 1) (λ h. let e = here h in omega (arith, e, less)) p (m.points.after i (omega arith) at) (omega arith)

      merged_point : IsMerged n old new ids targets (i + 1) j (found ++ cond (differs old new (get_or ids i 0)) ((get_or ids i 0, new (get_or ids i 0)) ∷ []) []) (get_or ids i 0 + 1)
      merged_point =
          let p = get_or ids i 0 in
          let low = m.points.after i (omega arith) at in
          let below = point_below i at in
          record {
            points = up_to_next ids ids_rise i from m.points at;
            proposed_to = up_to_past targets (targets_rise pairs) j from m.proposed_to (p + 1) (λ h. let e = here h in omega (arith, e, less)) (omega (arith, low));
            within = omega (arith, below);
            found_all = one_more p (omega (arith, below)) low (λ _. omega arith) (λ h. let e = here h in omega (arith, e, less));
          }

    -- one turn of the pass: the next of the ids, or the end of them, is `point`, and the next of the targets `target`
    module _ (point target : ℕ) (here : i < length ids → point ≡ get_or ids i 0) (behind : length ids ≤ i → point ≡ 4294967295) (there : j < length targets → target ≡ get_or targets j 0) (past : length targets ≤ j → target ≡ 4294967295) (row was : List ℕ) (found' : List (ℕ × List ℕ)) where
      pub after_target : n ≤ 4194304 → target ≤ point → j < length targets → row ≡ new (get_or targets j 0) → was ≡ old target → found' ≡ found ++ cond (not (pointwise nat_eq row was)) ((target, row) ∷ []) []
          → (from' : ℕ) × IsMerged n old new ids targets (i + bool_byte (nat_eq point target)) (j + 1) found' from'
      after_target small le at is before e =
          let t = get_or targets j 0 in
          let same : target ≡ t = there at in
          let next = merged_target point here behind small at (subst (λ v. v ≤ point) same le) in
          let step : i + bool_byte (nat_eq point t) ≡ i + bool_byte (nat_eq point target) = ap (λ v. i + bool_byte (nat_eq point v)) (sym same) in
          (t + 1, moved n old new ids targets step (sym (added old new found found' target t row was e same is before)) next)

      pub after_point : target ≤ 4294967295 → point < target → row ≡ fresh (get_or ids i 0) → was ≡ old point → found' ≡ found ++ cond (not (pointwise nat_eq row was)) ((point, row) ∷ []) []
          → (from' : ℕ) × IsMerged n old new ids targets (i + 1) j found' from'
      after_point small less is before e =
          let at = next_is_point (length ids) i point target behind small less in
          let p = get_or ids i 0 in
          let same : point ≡ p = here at in
          let first : p < target = subst (λ v. v < target) same less in
          let whole : row ≡ new p = is ∙ point_row i at (point_alone at target there first) in
          (p + 1, moved n old new ids targets refl (sym (added old new found found' point p row was e same whole before)) (merged_point at target there first))

    -- what stands at a place among the targets, where the next of them comes before the next of the ids
    module _ (point target : ℕ) (here : i < length ids → point ≡ get_or ids i 0) (past : length targets ≤ j → target ≡ 4294967295) where
      pub target_next : i + j < length ids + length targets → n ≤ 4194304 → target ≤ point → j < length targets
      target_next left small le = next_is_target (length ids) (length targets) i j point target n left m.proposed_to.within (λ h. subst (λ v. v < n) (sym (here h)) (point_below i h)) past small le

      pub target_next_held : (j < length targets → target ≡ get_or targets j 0) → i + j < length ids + length targets → n ≤ 4194304 → target ≤ point → held target ≡ true
      target_next_held there left small le = let at = target_next left small le in ap held (there at) ∙ target_held_at j at
