-- The fields of a stamp, one after another.
use Rattle.std.proofs.Common.{◌≡◌, ◌≢◌, ℕ, zero, suc, ◌+◌, ◌*◌, ◌^◌, ◌<◌, ◌≤◌, Bool, true, false, not, cond, nat_lt, ◌&&◌, List, [], ◌∷◌, length, take, drop, min, get_or, Option, Some, None, Ok, Err, inl, inr, refl, sym, ap, subst, ◌∙◌, arith, length-drop}
use Rattle.std.specs.List.{AllByRecursion}
use Rattle.std.proofs.Math.ListN.{drop_of_length-le}
use Rattle.std.proofs.lemmas.Bool.{cases_lt, eq-eqb, ne_eqb, le-ltb, lt-ltb, ltb-false}
use Rattle.std.proofs.lemmas.List.{at_drop_more, get_or-drop, get_or-take, get_or_past, length-take, take_all, take-take}
use Rattle.bin_files.specs.Points.{u32_at}
use Rattle.graph_rows.specs.declared.stamp.Stamp.{Stamp as StampOf}
use Rattle.graph_rows.specs.Stamps.{stamp_ranges, is_within, are_within, is_floor, IsStamp}
use Rattle.graph_files.specs.declared.fault.IndexFault.{IndexFault}
use Rattle.graph_files.specs.declared.fault.IndexFault.TheVariants.{Read, Malformed}
use Rattle.graph_files.specs.declared.fault.IndexRule.{IndexRule}
use Rattle.graph_files.specs.declared.fault.IndexRule.TheVariants.{Short, Stamp}
use Rattle.graph_files.specs.declared.window.Window.{Window}
use Rattle.graph_files.specs.declared.header.Header.{Header}
use Rattle.graph_files.specs.Grammar.{unless, stamp_at, layers_place}
use Rattle.graph_files.specs.Reading.{AreBytesIn, Shows}
use Rattle.graph_files.specs.Stamping.{u64_at, stamp_in, fields_fault, last_fault, or_else, stamp_fault}

-- a chain of checks that all passed
pub passed : (b : Bool) (fault : IndexFault) (rest : Option IndexFault) → cond b (Some fault) rest ≡ None → (b ≡ false) × (rest ≡ None)
passed true fault rest e = absurd cc
passed false fault rest e = (refl, e)

pub negated : (b : Bool) → not b ≡ false → b ≡ true
negated true e = refl
negated false e = absurd cc

module _ (ranges : List (ℕ × ℕ)) (front : List ℕ) (i at : ℕ) (total : Option IndexFault) (lt : i < length ranges) (so_far : fields_fault (drop i ranges) front at ≡ total) where
  abbrev range : ℕ × ℕ
  range = get_or ranges i (0, 0)

  opened : fields_fault (range ∷ drop (i + 1) ranges) front at ≡ total
  opened = sym (at_drop_more (λ rs. fields_fault rs front at) ranges i (0, 0) lt) ∙ so_far

  -- the next word isn't whole
  pub field_short : length front < at + 4 → Some (Malformed (length front) Short) ≡ total
  field_short short = sym (ap (λ b. cond b (Some (Malformed (length front) Short)) (cond (not (is_within range (u32_at front at))) (Some (Malformed at Stamp)) (fields_fault (drop (i + 1) ranges) front (at + 4)))) (lt-ltb (length front) (at + 4) short)) ∙ opened

  whole : at + 4 ≤ length front → cond (not (is_within range (u32_at front at))) (Some (Malformed at Stamp)) (fields_fault (drop (i + 1) ranges) front (at + 4)) ≡ total
  whole long = sym (ap (λ b. cond b (Some (Malformed (length front) Short)) (cond (not (is_within range (u32_at front at))) (Some (Malformed at Stamp)) (fields_fault (drop (i + 1) ranges) front (at + 4)))) (le-ltb (length front) (at + 4) long)) ∙ opened

  -- it isn't in its range
  pub field_broken : at + 4 ≤ length front → is_within range (u32_at front at) ≡ false → Some (Malformed at Stamp) ≡ total
  field_broken long out = sym (ap (λ b. cond (not b) (Some (Malformed at Stamp)) (fields_fault (drop (i + 1) ranges) front (at + 4))) out) ∙ whole long

  -- it is
  pub field_on : (next : ℕ) → at + 4 ≤ length front → is_within range (u32_at front at) ≡ true → next ≡ at + 4 → fields_fault (drop (i + 1) ranges) front next ≡ total
  field_on next long within is =
      ap (fields_fault (drop (i + 1) ranges) front) is ∙ sym (ap (λ b. cond (not b) (Some (Malformed at Stamp)) (fields_fault (drop (i + 1) ranges) front (at + 4))) within) ∙ whole long

pub fields_done : (ranges : List (ℕ × ℕ)) (front : List ℕ) (i at : ℕ) (total : Option IndexFault) → length ranges ≤ i → fields_fault (drop i ranges) front at ≡ total → None ≡ total
fields_done ranges front i at total le so_far = sym (ap (λ rs. fields_fault rs front at) (drop_of_length-le ranges le)) ∙ so_far

-- where the file ends before the denominator, no numerator counts
pub any_num : (kind a b : ℕ) (front : List ℕ) → length front < 56 → fields_fault (stamp_ranges kind a) front 32 ≡ fields_fault (stamp_ranges kind b) front 32
any_num kind a b front short = rw (lt-ltb (length front) 56 short) refl

pub same_fields : (kind num : ℕ) (front : List ℕ) → (56 ≤ length front → num ≡ u32_at front 48) → fields_fault (stamp_ranges kind num) front 32 ≡ fields_fault (stamp_ranges kind (u32_at front 48)) front 32
same_fields kind num front same = elim (cases_lt (length front) 56) as (λ _. fields_fault (stamp_ranges kind num) front 32 ≡ fields_fault (stamp_ranges kind (u32_at front 48)) front 32) [
  | inl short ↦ any_num kind num (u32_at front 48) front short
  | inr long ↦ ap (λ n. fields_fault (stamp_ranges kind n) front 32) (same long)
]

pub first_of : (a b : Option IndexFault) (fault : IndexFault) → Some fault ≡ a → Some fault ≡ or_else a b
first_of (Some x) b fault e = e
first_of None b fault e = absurd cc

both_none : (a b : Option IndexFault) → or_else a b ≡ None → (a ≡ None) × (b ≡ None)
both_none (Some x) b e = absurd cc
both_none None b e = (refl, e)

-- a fault of a rule
abbrev IsOfRule : Option IndexFault → Type 0
IsOfRule (Some Read) = ⊥
IsOfRule fault = Unit {0}

of_rule : (b : Bool) (place : ℕ) (rule : IndexRule) (rest : Option IndexFault) → IsOfRule rest → IsOfRule (cond b (Some (Malformed place rule)) rest)
of_rule true place rule rest h = tt
of_rule false place rule rest h = h

fields_of_rule : (ranges : List (ℕ × ℕ)) (front : List ℕ) (at : ℕ) → IsOfRule (fields_fault ranges front at)
fields_of_rule [] front at = tt
fields_of_rule (range ∷ ranges) front at =
    let rest = fields_fault ranges front (at + 4) in
    let out = not (is_within range (u32_at front at)) in
    of_rule (nat_lt (length front) (at + 4)) (length front) Short (cond out (Some (Malformed at Stamp)) rest) (of_rule out at Stamp rest (fields_of_rule ranges front (at + 4)))

last_of_rule : (kind : ℕ) (front : List ℕ) → IsOfRule (last_fault kind front)
last_of_rule kind front =
    let cut = cond (nat_lt (length front) 136) (Some (Malformed (length front) Short)) None in
    let out = not (is_floor kind (u64_at front 96)) in
    of_rule (nat_lt (length front) 104) (length front) Short (cond out (Some (Malformed 96 Stamp)) cut) (of_rule out 96 Stamp cut (of_rule (nat_lt (length front) 136) (length front) Short None tt))

either_of_rule : (a b : Option IndexFault) → IsOfRule a → IsOfRule b → IsOfRule (or_else a b)
either_of_rule (Some x) b first second = first
either_of_rule None b first second = second

pub stamp_of_rule : (kind : ℕ) (front : List ℕ) (fault : IndexFault) → stamp_fault kind front ≡ Some fault → fault ≡ Read → ⊥
stamp_of_rule kind front fault is read =
    subst IsOfRule (is ∙ ap (λ f. Some f) read)
    (either_of_rule (fields_fault (stamp_ranges kind (u32_at front 48)) front 32) (last_fault kind front) (fields_of_rule (stamp_ranges kind (u32_at front 48)) front 32) (last_of_rule kind front))

-- so many words from a place on
abbrev pub words_from : ℕ → List ℕ → ℕ → List ℕ
words_from zero front at = []
words_from (suc n) front at = u32_at front at ∷ words_from n front (at + 4)

both_true : (a b : Bool) → a ≡ true → b ≡ true → (a && b) ≡ true
both_true true b x y = y
both_true false b x y = absurd cc

within_all : (ranges : List (ℕ × ℕ)) (front : List ℕ) (at : ℕ) → fields_fault ranges front at ≡ None → are_within ranges (words_from (length ranges) front at) ≡ true
within_all [] front at e = refl
within_all (range ∷ ranges) front at e =
    let a = passed (nat_lt (length front) (at + 4)) _ _ e in
    let b = passed (not (is_within range (u32_at front at))) _ _ a.1 in
    both_true (is_within range (u32_at front at)) _ (negated (is_within range (u32_at front at)) b.0) (within_all ranges front (at + 4) b.1)

-- a stamp of which no rule is broken is whole
pub stamp_whole : (kind : ℕ) (front : List ℕ) → stamp_fault kind front ≡ None → (136 ≤ length front) × (is_floor kind (u64_at front 96) ≡ true)
stamp_whole kind front e =
    let both = both_none (fields_fault (stamp_ranges kind (u32_at front 48)) front 32) (last_fault kind front) e in
    let a = passed (nat_lt (length front) 104) _ _ both.1 in
    let b = passed (not (is_floor kind (u64_at front 96))) _ _ a.1 in
    let c = passed (nat_lt (length front) 136) _ _ b.1 in
    (ltb-false (length front) 136 c.0, negated (is_floor kind (u64_at front 96)) b.0)

pub all_below : (bytes : List ℕ) → ((i : ℕ) → get_or bytes i 0 < 256) → AllByRecursion (λ b. b < 256) bytes
all_below [] are = tt
all_below (b ∷ bytes) are = (are 0, all_below bytes (λ i. are (suc i)))

pub part_below : (front : List ℕ) (n at : ℕ) → ((i : ℕ) → get_or front i 0 < 256) → (i : ℕ) → get_or (take n (drop at front)) i 0 < 256
part_below front n at are i = elim (cases_lt i n) as (λ _. get_or (take n (drop at front)) i 0 < 256) [
  | inl less ↦ rw (get_or-take n (drop at front) i 0 less, get_or-drop at front i 0) (are (at + i))
  | inr more ↦ rw (get_or_past (take n (drop at front)) i 0 (omega (arith, length-take n (drop at front)))) (omega arith)
]

-- and is one that an index of its kind may have
pub stamp_fits : (kind : ℕ) (front : List ℕ) → stamp_fault kind front ≡ None → length front ≡ 136 → (stamp_in front).seed < 2 ^ 64 → (stamp_in front).floor < 2 ^ 64 → ((i : ℕ) → get_or front i 0 < 256)
    → IsStamp kind (stamp_in front)
stamp_fits kind front e whole seed floor are = record {
  words = within_all (stamp_ranges kind (u32_at front 48)) front 32 (both_none (fields_fault (stamp_ranges kind (u32_at front 48)) front 32) (last_fault kind front) e).0;
  floor = (stamp_whole kind front e).1;
  seed_fits = seed;
  floor_fits = floor;
  digest = length-take 32 (drop 104 front) ∙ omega (arith, length-drop 104 front);
  bytes = all_below (take 32 (drop 104 front)) (part_below front 32 104 are);
}

-- the first bytes that a window shows are those of the file
pub front_shown : (file : List ℕ) (w : Window) (n : ℕ) → w.from ≡ 0 → n ≡ min w.len 136 → w.len ≤ 16384 → Shows file w → (w.len < 16384 → w.len ≡ length file) → take n w.bytes ≡ take 136 file
front_shown file w n front is room shows ends =
    let same : take w.len w.bytes ≡ take w.len file = shows.same ∙ ap (λ k. take w.len (drop k file)) front in
    elim (cases_lt w.len 136) as (λ _. take n w.bytes ≡ take 136 file) [
      | inl less ↦
          let all : n ≡ w.len = is ∙ omega arith in
          let here : w.len ≡ length file = ends (omega arith) in
          ap (λ k. take k w.bytes) all ∙ same ∙ take_all w.len file (omega arith) ∙ sym (take_all 136 file (omega arith))
      | inr more ↦
          let all : n ≡ 136 = is ∙ omega arith in
          ap (λ k. take k w.bytes) all ∙ sym (take-take 136 w.len w.bytes more) ∙ ap (take 136) same ∙ take-take 136 w.len file more
    ]

-- what a file with this header has
pub no_stamp : (h : Header) (file : List ℕ) → h.version ≡ 1 → stamp_at h file ≡ Ok None
unfolding stamp_at
no_stamp h file is = ap (λ b. cond b (Ok None) (unless (stamp_fault h.kind (take 136 file)) (Ok (Some (stamp_in (take 136 file)))))) (eq-eqb h.version 1 is)

pub some_stamp : (h : Header) (file : List ℕ) → h.version ≢ 1 → stamp_at h file ≡ unless (stamp_fault h.kind (take 136 file)) (Ok (Some (stamp_in (take 136 file))))
unfolding stamp_at
some_stamp h file is = ap (λ b. cond b (Ok None) (unless (stamp_fault h.kind (take 136 file)) (Ok (Some (stamp_in (take 136 file)))))) (ne_eqb h.version 1 is)

pub stamp_broken : (h : Header) (file front : List ℕ) (fault : IndexFault) → h.version ≢ 1 → front ≡ take 136 file → stamp_fault h.kind front ≡ Some fault → stamp_at h file ≡ Err fault
stamp_broken h file front fault is same broken =
    some_stamp h file is ∙ ap (λ o. unless o (Ok (Some (stamp_in (take 136 file))))) (ap (stamp_fault h.kind) (sym same) ∙ broken)

pub stamp_read : (h : Header) (file front : List ℕ) (s : StampOf) → h.version ≢ 1 → front ≡ take 136 file → stamp_fault h.kind front ≡ None → s ≡ stamp_in front → stamp_at h file ≡ Ok (Some s)
stamp_read h file front s is same sound read =
    some_stamp h file is ∙ ap (λ o. unless o (Ok (Some (stamp_in (take 136 file))))) (ap (stamp_fault h.kind) (sym same) ∙ sound) ∙ ap (λ x. Ok (Some (stamp_in x))) (sym same) ∙ ap (λ x. Ok (Some x)) (sym read)

-- bytes up to the layers
pub front_bytes : (version : ℕ) (file front : List ℕ) → version ≢ 1 → front ≡ take 136 file → ((i : ℕ) → get_or front i 0 < 256) → AreBytesIn file 0 (layers_place version)
front_bytes version file front is same are i low high =
    let place : layers_place version ≡ 136 = ap (λ b. cond b 32 136) (ne_eqb version 1 is) in
    subst (λ n. n < 256) (ap (λ xs. get_or xs i 0) same ∙ get_or-take 136 file i 0 (omega (arith, place, high))) (are i)

pub plain_bytes : (version : ℕ) (file : List ℕ) → version ≡ 1 → AreBytesIn file 0 32 → AreBytesIn file 0 (layers_place version)
plain_bytes version file is are = subst (AreBytesIn file 0) (sym (ap (λ b. cond b 32 136) (eq-eqb version 1 is))) are

pub split_true : (a b : Bool) → (a && b) ≡ true → (a ≡ true) × (b ≡ true)
split_true true b e = (refl, e)
split_true false b e = absurd cc

-- words that are whole and in their ranges
pub fields_none : (ranges : List (ℕ × ℕ)) (front : List ℕ) (at : ℕ) → at + 4 * length ranges ≤ length front → are_within ranges (words_from (length ranges) front at) ≡ true → fields_fault ranges front at ≡ None
fields_none [] front at fits within = refl
fields_none (range ∷ ranges) front at fits within =
    let w = split_true (is_within range (u32_at front at)) _ within in
    let rest : fields_fault ranges front (at + 4) ≡ None = fields_none ranges front (at + 4) (omega (arith, fits)) w.1 in
    ap (λ b. cond b (Some (Malformed (length front) Short)) (cond (not (is_within range (u32_at front at))) (Some (Malformed at Stamp)) (fields_fault ranges front (at + 4)))) (le-ltb (length front) (at + 4) (omega (arith, fits)))
    ∙ ap (λ b. cond (not b) (Some (Malformed at Stamp)) (fields_fault ranges front (at + 4))) w.0 ∙ rest

pub last_none : (kind : ℕ) (front : List ℕ) → 136 ≤ length front → is_floor kind (u64_at front 96) ≡ true → last_fault kind front ≡ None
last_none kind front long floor =
    rw (le-ltb (length front) 104 (omega (arith, long)), floor, le-ltb (length front) 136 long) refl

pub both_sound : (a b : Option IndexFault) → a ≡ None → b ≡ None → or_else a b ≡ None
both_sound a b x y = ap (λ o. or_else o b) x ∙ y
