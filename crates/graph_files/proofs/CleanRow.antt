-- Rows that a window shows whole and that break no rule.
use Rattle.std.proofs.Common.{◌≡◌, ◌≢◌, ◌&&◌, inl, inr, ℕ, suc, ◌+◌, ◌*◌, ◌%◌, ◌<◌, Bool, true, false, not, eqb, List, [], ◌∷◌, ◌++◌, length, take, get_or, set, Result, Ok, refl, sym, ap, subst, ◌∙◌, arith, append_assoc, get_or-set_same, get_or-set_other}
use Rattle.std.specs.List.{All, IsDistinct}
use Rattle.std.proofs.lemmas.Bool.{cases_eq, eqb-false, ne_eqb}
use Rattle.std.proofs.lemmas.List.{append-nil, get_or-take, length-take-le, take_more}
use Rattle.std.proofs.lemmas.List.Elements.{All-from_get_or, All-more}
use Rattle.std.proofs.lemmas.Map.Keys.{IsDistinct-push}
use Rattle.std.proofs.Math.Nat.{mod-lt}
use Rattle.ann_defs.specs.Graph.{has}
use Rattle.ann_defs.specs.Ordered.{Has}
use Rattle.ann_defs.proofs.Members.{Once, once_distinct, has-append}
use Rattle.ann_defs.proofs.Order.{All_has}
use Rattle.graph_files.specs.declared.fault.IndexFault.{IndexFault}
use Rattle.graph_files.specs.Grammar.{◌>>=◌, unless, word_at, id_fault, ids_at}
use Rattle.graph_rows.specs.WellFormed.{IsRowIn}
use Rattle.graph_files.proofs.RowLoop.{eqb_laws, member_is}
use Rattle.graph_files.proofs.TextReads.{id_sound, not_among}

-- the parts of a test of three
pub record Passed (before here other : Bool) : Type 0 where
  pub so_far : before ≡ true
  pub inside : here ≡ true
  pub apart : other ≡ false

pub passed : (before here other : Bool) → before && here && not other ≡ true → Passed before here other
passed true true false e = record { so_far = refl; inside = refl; apart = refl }
passed true true true e = absurd cc
passed true false other e = absurd cc
passed false here other e = absurd cc

module _ (held : ℕ → Bool) (own : ℕ) (ids : List ℕ) (i : ℕ) (clean : Bool) (lt : i < length ids) where
  pub inside_more : (clean ≡ true → All (λ v. held v ≡ true) (take i ids)) → clean && held (get_or ids i 0) && not (eqb (get_or ids i 0) own) ≡ true → All (λ v. held v ≡ true) (take (i + 1) ids)
  inside_more before e =
      let p = passed clean (held (get_or ids i 0)) (eqb (get_or ids i 0) own) e in
      All-more (λ v. held v ≡ true) ids i 0 lt (before p.so_far) p.inside

  pub others_more : (clean ≡ true → All (λ v. v ≢ own) (take i ids)) → clean && held (get_or ids i 0) && not (eqb (get_or ids i 0) own) ≡ true → All (λ v. v ≢ own) (take (i + 1) ids)
  others_more before e =
      let p = passed clean (held (get_or ids i 0)) (eqb (get_or ids i 0) own) e in
      All-more (λ v. v ≢ own) ids i 0 lt (before p.so_far) (eqb-false (get_or ids i 0) own p.apart)

-- the first ids are marked
abbrev pub AreMarked : (own : ℕ) (ids marks : List ℕ) (n : ℕ) → Type 0
AreMarked own ids marks n = (k : ℕ) → k < n → get_or marks (get_or ids k 0 % 4096) 0 ≡ own

module _ (own : ℕ) (ids marks : List ℕ) (i : ℕ) (lt : i < length ids) where
  -- an id without a mark is none of them
  pub unmarked : AreMarked own ids marks i → get_or marks (get_or ids i 0 % 4096) 0 ≢ own → has (take i ids) (get_or ids i 0) ≡ false
  unmarked marked none =
      let P : ℕ → Type 0 = λ u. get_or marks (u % 4096) 0 ≡ own in
      let long : length (take i ids) ≡ i = length-take-le i ids (omega arith) in
      let all : All P (take i ids) = All-from_get_or P (take i ids) 0 (λ k less.
      let below : k < i = omega (arith, long) in
      subst P (sym (get_or-take i ids k 0 below)) (marked k below)) in
      not_among (take i ids) (get_or ids i 0) (λ m. none (All_has P (take i ids) (get_or ids i 0) all m))

  pub marked_more : length marks ≡ 4096 → AreMarked own ids marks i → AreMarked own ids (set marks (get_or ids i 0 % 4096) own) (i + 1)
  marked_more size marked k below =
      let here = get_or ids i 0 % 4096 in
      let low : here < 4096 = mod-lt (get_or ids i 0) (omega arith) in
      let same : get_or (set marks here own) here 0 ≡ own = get_or-set_same marks here own 0 (omega (arith, low, size)) in
      elim (cases_eq k i) as (λ _. get_or (set marks here own) (get_or ids k 0 % 4096) 0 ≡ own) [
        | inl e ↦ subst (λ (j : ℕ). get_or (set marks here own) (get_or ids j 0 % 4096) 0 ≡ own) (sym e) same
        | inr n ↦ elim (cases_eq (get_or ids k 0 % 4096) here) as (λ _. get_or (set marks here own) (get_or ids k 0 % 4096) 0 ≡ own) [
          | inl e ↦ subst (λ (j : ℕ). get_or (set marks here own) j 0 ≡ own) (sym e) same
          | inr other ↦ get_or-set_other marks here (get_or ids k 0 % 4096) own 0 other ∙ marked k (omega arith)
        ]
      ]

  pub distinct_more : IsDistinct eqb (take i ids) → has (take i ids) (get_or ids i 0) ≡ false → IsDistinct eqb (take (i + 1) ids)
  distinct_more distinct new =
      subst (IsDistinct eqb) (sym (take_more ids i 0 lt)) (IsDistinct-push eqb_laws (take i ids) (get_or ids i 0) distinct (member_is (take i ids) (get_or ids i 0) ∙ new))

pub distinct_none : IsDistinct eqb []
unfolding IsDistinct
distinct_none = tt

module _ (file : List ℕ) (held : ℕ → Bool) (own : ℕ) where
  -- ids that stand in a file and break no rule
  pub ids_clean : (news ids : List ℕ) (at : ℕ) → ((k : ℕ) → k < length news → word_at file (at + 4 * k) ≡ Ok (get_or news k 0)) → ((z : ℕ) → Has news z → (held z ≡ true) × (z ≢ own)) → Once news
      → ((z : ℕ) → Has ids z → Has news z → ⊥) → ids_at held own file (length news) at ids ≡ Ok (ids ++ news)
  unfolding ids_at
  ids_clean [] ids at words sound once apart = ap (λ xs. Ok xs) (sym (append-nil ids))
  ids_clean (id ∷ news) ids at words sound once apart =
      let here = sound id (inl refl) in
      let first : word_at file at ≡ Ok id = ap (word_at file) (omega arith) ∙ words 0 (omega arith) in
      let step : ℕ → Result (List ℕ) IndexFault = λ n. unless (id_fault held own at ids n) (ids_at held own file (length news) (at + 4) (ids ++ n ∷ [])) in
      let fresh = not_among ids id (λ m. apart id m (inl refl)) in
      ap (λ r. r >>= step) first
      ∙ ap (λ o. unless o (ids_at held own file (length news) (at + 4) (ids ++ id ∷ []))) (id_sound held own at ids id here.0 (ne_eqb id own here.1) fresh)
      ∙ ids_clean news (ids ++ id ∷ []) (at + 4) (λ k less.
      let place : at + 4 + 4 * k ≡ at + 4 * suc k = omega arith in
      ap (word_at file) place ∙ words (suc k) (omega arith)) (λ z m. sound z (inr m)) once.1
      (λ z a b. elim (has-append ids (id ∷ []) z a) as (λ _. ⊥) [ inl m ↦ apart z m (inr b) | inr m ↦ elim m as (λ _. ⊥) [ inl q ↦ once.0 (subst (Has news) (sym q) b) | inr n ↦ absurd n ] ])
      ∙ ap (λ xs. Ok xs) (append_assoc ids (id ∷ []) news)

  -- a row that stands in a file is read
  pub row_clean : (at len : ℕ) (row : List ℕ) → length row ≡ len → ((k : ℕ) → k < length row → word_at file (at + 4 * k) ≡ Ok (get_or row k 0)) → IsRowIn held len own row → ids_at held own file len at [] ≡ Ok row
  row_clean at len row long words is =
      subst (λ n. ids_at held own file n at [] ≡ Ok row) long
      (ids_clean row [] at words (λ z m. (All_has (λ v. held v ≡ true) row z is.inside m, All_has (λ v. v ≢ own) row z is.others m)) (once_distinct row is.distinct) (λ z a b. a))
