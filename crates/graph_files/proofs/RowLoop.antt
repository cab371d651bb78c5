-- The ids of a row, one after another.
use Rattle.std.proofs.Common.{◌≡◌, ◌≢◌, ◌||◌, length-append, ℕ, suc, ◌+◌, ◌-◌, ◌<◌, ◌≤◌, Bool, true, false, not, cond, List, [], ◌∷◌, ◌++◌, length, take, Some, None, Result, Ok, Err, refl, sym, ap, subst, ◌∙◌, arith, eqb, ltb, set, add-one}
use Rattle.std.specs.Cmp.{IsEquivalence}
use Rattle.std.specs.List.{IsDistinct, list_any}
use Rattle.std.proofs.lemmas.Bool.{eqb-true, eqb-false, eq-eqb, le-ltb, lt-ltb}
use Rattle.std.proofs.lemmas.List.Elements.{All-nil, All-push}
use Rattle.std.proofs.lemmas.Map.Keys.{IsDistinct-push}
use Rattle.std.proofs.Math.Seq.{take-suc-set}
use Rattle.graph_files.specs.declared.fault.IndexFault.{IndexFault}
use Rattle.graph_files.specs.declared.fault.IndexFault.TheVariants.{Read, Malformed, TooLarge, NoMemory}
use Rattle.graph_files.specs.declared.fault.IndexRule.TheVariants.{IdRange, SelfEdge, DoubleEdge, Degree}
use Rattle.ann_defs.specs.Graph.{has}
use Rattle.graph_files.specs.Grammar.{◌>>=◌, unless, word_at, id_fault, ids_at, row_at}
use Rattle.graph_files.specs.Reading.{Fails}
use Rattle.graph_rows.specs.WellFormed.{IsRowIn}

-- a step that ended with a fault
pub fails_with : {Y : Type 0} (fault : IndexFault) (step : Result Y IndexFault) → step ≡ Err fault → Fails fault step
fails_with Read step e = tt
fails_with (Malformed place rule) step e = e
fails_with (TooLarge name value limit) step e = e
fails_with NoMemory step e = tt

pub fails_before : {X Y : Type 0} (fault : IndexFault) (step : Result X IndexFault) (f : X → Result Y IndexFault) → Fails fault step → Fails fault (step >>= f)
fails_before Read step f h = tt
fails_before (Malformed place rule) step f h = rw h refl
fails_before (TooLarge name value limit) step f h = rw h refl
fails_before NoMemory step f h = tt

pub fails_along : {Y : Type 0} (fault : IndexFault) (a b : Result Y IndexFault) → a ≡ b → Fails fault a → Fails fault b
fails_along fault a b e h = subst (Fails fault) e h

module _ (held : ℕ → Bool) (own : ℕ) (file : List ℕ) where
  -- one more id
  pub ids_on : (len i at next id : ℕ) (ids : List ℕ) (total : Result (List ℕ) IndexFault) → i < len → next ≡ at + 4 → word_at file at ≡ Ok id → None ≡ id_fault held own at ids id
      → ids_at held own file (len - i) at ids ≡ total → ids_at held own file (len - (i + 1)) next (ids ++ id ∷ []) ≡ total
  unfolding ids_at
  ids_on len i at next id ids total lt place word sound so_far =
      let k : len - i ≡ suc (len - (i + 1)) = omega arith in
      let one : ids_at held own file (len - i) at ids ≡ ids_at held own file (len - (i + 1)) (at + 4) (ids ++ id ∷ []) = rw (k, word, ← sound) refl in
      ap (λ p. ids_at held own file (len - (i + 1)) p (ids ++ id ∷ [])) place ∙ sym one ∙ so_far

  -- the next word can't be read
  pub ids_short : (fault : IndexFault) (len i at : ℕ) (ids : List ℕ) (total : Result (List ℕ) IndexFault) → i < len → Fails fault (word_at file at)
      → ids_at held own file (len - i) at ids ≡ total → Fails fault total
  unfolding ids_at
  ids_short fault len i at ids total lt short so_far =
      let k : len - i ≡ suc (len - (i + 1)) = omega arith in
      let F : ℕ → Result (List ℕ) IndexFault = λ id. unless (id_fault held own at ids id) (ids_at held own file (len - (i + 1)) (at + 4) (ids ++ id ∷ [])) in
      let one : (word_at file at >>= F) ≡ ids_at held own file (len - i) at ids = rw k refl in
      fails_along fault _ total (one ∙ so_far) (fails_before fault (word_at file at) F short)

  -- the next id breaks a rule
  pub ids_broken : (fault : IndexFault) (len i at id : ℕ) (ids : List ℕ) (total : Result (List ℕ) IndexFault) → i < len → word_at file at ≡ Ok id → Some fault ≡ id_fault held own at ids id
      → ids_at held own file (len - i) at ids ≡ total → Fails fault total
  unfolding ids_at
  ids_broken fault len i at id ids total lt word broken so_far =
      let k : len - i ≡ suc (len - (i + 1)) = omega arith in
      let one : ids_at held own file (len - i) at ids ≡ Err fault = rw (k, word, ← broken) refl in
      fails_with fault total (sym so_far ∙ one)

  pub ids_done : (len i at : ℕ) (ids : List ℕ) (total : Result (List ℕ) IndexFault) → len ≤ i → ids_at held own file (len - i) at ids ≡ total → total ≡ Ok ids
  unfolding ids_at
  ids_done len i at ids total le so_far =
      let k : len - i ≡ 0 = omega arith in
      let one : ids_at held own file (len - i) at ids ≡ Ok ids = rw k refl in
      sym so_far ∙ one

  -- a row is its length and its ids
  pub row_is : (bound at len : ℕ) → word_at file at ≡ Ok len → len ≤ bound → row_at held bound own file at ≡ ids_at held own file len (at + 4) []
  unfolding row_at
  row_is bound at len word short = rw (word, within bound len short) refl
    where
      within : (a b : ℕ) → b ≤ a → ltb a b ≡ false
      within a b le = le-ltb a b le

  pub row_long : (bound at len : ℕ) → word_at file at ≡ Ok len → bound < len → row_at held bound own file at ≡ Err (Malformed at Degree)
  unfolding row_at
  row_long bound at len word long = rw (word, lt-ltb bound len long) refl

  pub row_short : (fault : IndexFault) (bound at : ℕ) → Fails fault (word_at file at) → Fails fault (row_at held bound own file at)
  unfolding row_at
  row_short fault bound at short = fails_before fault (word_at file at) (λ len. cond (ltb bound len) (Err (Malformed at Degree)) (ids_at held own file len (at + 4) [])) short

pub eqb_laws : IsEquivalence eqb
eqb_laws = record {
  refl = λ x. eq-eqb x x refl;
  symm = symmetric;
  congr = λ x y z e. ap (λ w. eqb w z) (eqb-true x y e);
}
  where
    decided : (b c : Bool) → (b ≡ true → c ≡ true) → (c ≡ true → b ≡ true) → b ≡ c
    decided true true p q = refl
    decided true false p q = sym (p refl)
    decided false true p q = q refl
    decided false false p q = refl

    symmetric : (x y : ℕ) → eqb x y ≡ eqb y x
    symmetric x y = decided (eqb x y) (eqb y x) (λ e. eq-eqb y x (sym (eqb-true x y e))) (λ e. eq-eqb x y (sym (eqb-true y x e)))

-- the two ways to ask for a member
pub member_is : (ids : List ℕ) (id : ℕ) → list_any (λ y. eqb id y) ids ≡ has ids id
member_is [] id = refl
member_is (x ∷ ids) id = λ i. eqb_laws.symm id x i || member_is ids id i

-- the three tests of an id
record IsSound (in_layer is_own is_double : Bool) : Type 0 where
  held : in_layer ≡ true
  own : is_own ≡ false
  among : is_double ≡ false

tests : (held own among : Bool) (at : ℕ) → None ≡ cond (not held) (Some (Malformed at IdRange)) (cond own (Some (Malformed at SelfEdge)) (cond among (Some (Malformed at DoubleEdge)) None)) → IsSound held own among
tests true false false at e = record { held = refl; own = refl; among = refl }
tests true false true at e = absurd cc
tests true true among at e = absurd cc
tests false own among at e = absurd cc

pub row_push : (held : ℕ → Bool) (n own at id : ℕ) (ids : List ℕ) → None ≡ id_fault held own at ids id → IsRowIn held n own ids → IsRowIn held (n + 1) own (ids ++ id ∷ [])
row_push held n own at id ids sound row =
    let t = tests (held id) (eqb id own) (has ids id) at sound in
    record {
      inside = All-push (λ v. held v ≡ true) ids id row.inside t.held;
      distinct = IsDistinct-push eqb_laws ids id row.distinct (member_is ids id ∙ t.among);
      others = All-push (λ v. v ≢ own) ids id row.others (eqb-false id own t.own);
      short = simp length-append (omega (arith, row.short));
    }

pub row_nil : (held : ℕ → Bool) (own : ℕ) → IsRowIn held 0 own []
unfolding IsDistinct
row_nil held own = record { inside = All-nil (λ v. held v ≡ true); distinct = tt; others = All-nil (λ v. v ≢ own); short = omega arith }

pub take_set_more : (ids : List ℕ) (i id : ℕ) → i < length ids → take (i + 1) (set ids i id) ≡ take i ids ++ id ∷ []
take_set_more ids i id lt = rw add-one (take-suc-set ids i id lt)

pub take_rows_more : (rows : List (List ℕ)) (i : ℕ) (row : List ℕ) → i < length rows → take (i + 1) (set rows i row) ≡ take i rows ++ row ∷ []
take_rows_more rows i row lt = rw add-one (take-suc-set rows i row lt)
