-- Marks, as ids are seen.
use Rattle.std.proofs.Common.{◌≡◌, ℕ, zero, suc, ◌+◌, ◌<◌, ◌≤◌, Bool, true, false, List, [], ◌∷◌, ◌++◌, take, set, length, replicate, get_or, max, ltb, refl, sym, ap, ◌∙◌, subst, inl, inr, arith}
use Rattle.std.specs.Prelude.{◌⊎◌}
use Rattle.std.proofs.Math.Nat.{max-eq_left, max-eq_right}
use Rattle.std.proofs.lemmas.Bool.{cases_eq, cases_lt, lt-ltb, le-ltb}
use mir.Val.{bool_byte}
use Rattle.std.proofs.lemmas.List.{get_or-set_same, get_or-set_other, take_more, take_more_set, take-set}
use Rattle.ann_defs.specs.Ordered.{Has}
use Rattle.ann_defs.proofs.Order.{has-push}
use Rattle.near_lists.proofs.Gathering.{has-pushed}
use Rattle.near_lists.specs.Marks.{mark_of, AreUpTo, AreUnseen, OnlySeen}

pub unseen_none : (seen : ℕ) (marks : List ℕ) → AreUnseen seen [] marks [] marks
unseen_none seen marks = record { among = λ u h. h; each = λ u h. absurd h; marked = λ u. inl refl }

module _ {seen : ℕ} {ids old todo new : List ℕ} (id : ℕ) (k : AreUnseen seen ids old todo new) (fits : id < length new) where
  -- an id that has an earlier mark is collected
  pub unseen_new : mark_of new id < seen → AreUnseen seen (ids ++ id ∷ []) old (todo ++ id ∷ []) (set new id seen)
  unseen_new less = record {
    among = λ u h. has-pushed ids id u (elim (has-push todo id u h) as (λ _. Has ids u ⊎ (id ≡ u)) [ inl m ↦ inl (k.among u m) | inr e ↦ inr e ]);
    each = λ u h. elim (has-push ids id u h) as (λ _. (seen ≤ mark_of old u) ⊎ Has (todo ++ id ∷ []) u) [
      | inl m ↦ elim (k.each u m) as (λ _. (seen ≤ mark_of old u) ⊎ Has (todo ++ id ∷ []) u) [ inl later ↦ inl later | inr at ↦ inr (has-pushed todo id u (inl at)) ]
      | inr e ↦ inr (has-pushed todo id u (inr e))
    ];
    marked = λ u. elim (cases_eq u id) as (λ _. (mark_of (set new id seen) u ≡ mark_of old u) ⊎ ((mark_of old u < seen) × (mark_of (set new id seen) u ≡ seen) × Has (todo ++ id ∷ []) u)) [
      | inl e ↦
          let here : mark_of (set new id seen) u ≡ seen = ap (mark_of (set new id seen)) e ∙ get_or-set_same new id seen 0 fits in
          elim (k.marked id) as (λ _. (mark_of (set new id seen) u ≡ mark_of old u) ⊎ ((mark_of old u < seen) × (mark_of (set new id seen) u ≡ seen) × Has (todo ++ id ∷ []) u)) [
            | inl same ↦ inr (subst (λ (v : ℕ). mark_of old v < seen) (sym e) (subst (λ m. m < seen) same less), here, has-pushed todo id u (inr (sym e)))
            | inr now ↦ let now_is : mark_of new id ≡ seen = now.1 in absurd (omega arith)
          ]
      | inr n ↦
          let here : mark_of (set new id seen) u ≡ mark_of new u = get_or-set_other new id u seen 0 n in
          elim (k.marked u) as (λ _. (mark_of (set new id seen) u ≡ mark_of old u) ⊎ ((mark_of old u < seen) × (mark_of (set new id seen) u ≡ seen) × Has (todo ++ id ∷ []) u)) [
            | inl same ↦ inl (here ∙ same)
            | inr now ↦ inr (now.0, here ∙ now.1, has-pushed todo id u (inl now.2))
          ]
    ];
  }

  -- any other is left
  pub unseen_old : seen ≤ mark_of new id → AreUnseen seen (ids ++ id ∷ []) old todo (set new id (mark_of new id))
  unseen_old later =
      let same : (u : ℕ) → mark_of (set new id (mark_of new id)) u ≡ mark_of new u = λ u.
      elim (cases_eq u id) as (λ _. mark_of (set new id (mark_of new id)) u ≡ mark_of new u) [
        | inl e ↦ ap (mark_of (set new id (mark_of new id))) e ∙ get_or-set_same new id (mark_of new id) 0 fits ∙ ap (mark_of new) (sym e)
        | inr n ↦ get_or-set_other new id u (mark_of new id) 0 n
      ] in
      record {
        among = λ u h. has-pushed ids id u (inl (k.among u h));
        each = λ u h. elim (has-push ids id u h) as (λ _. (seen ≤ mark_of old u) ⊎ Has todo u) [
          | inl m ↦ k.each u m
          | inr e ↦ elim (k.marked id) as (λ _. (seen ≤ mark_of old u) ⊎ Has todo u) [
            | inl as_before ↦ inl (subst (λ (v : ℕ). seen ≤ mark_of old v) e (subst (λ m. seen ≤ m) as_before later))
            | inr now ↦ inr (subst (Has todo) e now.2)
          ]
        ];
        marked = λ u. elim (k.marked u) as (λ _. (mark_of (set new id (mark_of new id)) u ≡ mark_of old u) ⊎ ((mark_of old u < seen) × (mark_of (set new id (mark_of new id)) u ≡ seen) × Has todo u)) [
          | inl as_before ↦ inl (same u ∙ as_before)
          | inr now ↦ inr (now.0, same u ∙ now.1, now.2)
        ];
      }

byte_le : (b : Bool) → bool_byte b ≤ 1
byte_le true = omega arith
byte_le false = omega arith

-- one more id of a loop, which is counted only if its mark was earlier
pub unseen_more : (seen : ℕ) (ids old todo new : List ℕ) (i count m : ℕ) → i < length ids → count ≤ i → count < length todo → get_or ids i 0 < length new → m ≡ max (mark_of new (get_or ids i 0)) seen → AreUnseen seen (take i ids) old (take count todo) new
    → AreUnseen seen (take (i + 1) ids) old (take (count + bool_byte (ltb (mark_of new (get_or ids i 0)) seen)) (set todo count (get_or ids i 0))) (set new (get_or ids i 0) m) × (count + bool_byte (ltb (mark_of new (get_or ids i 0)) seen) ≤ i + 1)
unseen_more seen ids old todo new i count m lt le room fits e k =
    let id = get_or ids i 0 in
    let byte : bool_byte (ltb (mark_of new id) seen) ≤ 1 = byte_le (ltb (mark_of new id) seen) in
    let more : take (i + 1) ids ≡ take i ids ++ id ∷ [] = take_more ids i 0 lt in (
      elim (cases_lt (mark_of new id) seen) as (λ _. AreUnseen seen (take (i + 1) ids) old (take (count + bool_byte (ltb (mark_of new id) seen)) (set todo count id)) (set new id m)) [
        | inl less ↦
            let one : count + bool_byte (ltb (mark_of new id) seen) ≡ count + 1 = ap (λ b. count + bool_byte b) (lt-ltb (mark_of new id) seen less) in
            let m_is : m ≡ seen = e ∙ max-eq_right (omega arith) in
            let list : take (count + bool_byte (ltb (mark_of new id) seen)) (set todo count id) ≡ take count todo ++ id ∷ [] = ap (λ n. take n (set todo count id)) one ∙ take_more_set todo count id room in
            subst (λ xs. AreUnseen seen xs old (take (count + bool_byte (ltb (mark_of new id) seen)) (set todo count id)) (set new id m)) (sym more)
            (subst (λ xs. AreUnseen seen (take i ids ++ id ∷ []) old xs (set new id m)) (sym list)
            (subst (λ n. AreUnseen seen (take i ids ++ id ∷ []) old (take count todo ++ id ∷ []) (set new id n)) (sym m_is) (unseen_new id k fits less)))
        | inr later ↦
            let none : count + bool_byte (ltb (mark_of new id) seen) ≡ count = ap (λ b. count + bool_byte b) (le-ltb (mark_of new id) seen later) ∙ omega arith in
            let m_is : m ≡ mark_of new id = e ∙ max-eq_left later in
            let list : take (count + bool_byte (ltb (mark_of new id) seen)) (set todo count id) ≡ take count todo = ap (λ n. take n (set todo count id)) none ∙ take-set todo count id in
            subst (λ xs. AreUnseen seen xs old (take (count + bool_byte (ltb (mark_of new id) seen)) (set todo count id)) (set new id m)) (sym more)
            (subst (λ xs. AreUnseen seen (take i ids ++ id ∷ []) old xs (set new id m)) (sym list)
            (subst (λ n. AreUnseen seen (take i ids ++ id ∷ []) old (take count todo) (set new id n)) (sym m_is) (unseen_old id k fits later)))
      ],
      omega arith,
    )

-- what only became seen in two steps
pub seen_twice : (seen : ℕ) (a b c : List ℕ) → OnlySeen seen a b → OnlySeen seen b c → OnlySeen seen a c
seen_twice seen a b c f g u =
    elim (f u) as (λ _. (mark_of c u ≡ mark_of a u) ⊎ ((mark_of a u < seen) × (mark_of c u ≡ seen))) [
      | inl first ↦ elim (g u) as (λ _. (mark_of c u ≡ mark_of a u) ⊎ ((mark_of a u < seen) × (mark_of c u ≡ seen))) [
        | inl second ↦ inl (second ∙ first)
        | inr now ↦ inr (subst (λ m. m < seen) first now.0, now.1)
      ]
      | inr now ↦ elim (g u) as (λ _. (mark_of c u ≡ mark_of a u) ⊎ ((mark_of a u < seen) × (mark_of c u ≡ seen))) [
        | inl second ↦ inr (now.0, second ∙ now.1)
        | inr again ↦ let b_is : mark_of b u ≡ seen = now.1 in let less : mark_of b u < seen = again.0 in absurd (omega arith)
      ]
    ]

pub unseen_only : (seen : ℕ) (ids old todo new : List ℕ) → AreUnseen seen ids old todo new → OnlySeen seen old new
unseen_only seen ids old todo new k u = elim (k.marked u) as (λ _. (mark_of new u ≡ mark_of old u) ⊎ ((mark_of old u < seen) × (mark_of new u ≡ seen))) [ inl same ↦ inl same | inr now ↦ inr (now.0, now.1) ]

-- marks that are all 0
pub up_to_none : (n : ℕ) → AreUpTo 0 (replicate n 0)
up_to_none zero u = omega arith
up_to_none (suc n) zero = omega arith
up_to_none (suc n) (suc u) = up_to_none n u
