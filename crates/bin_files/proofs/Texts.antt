-- The text of points is read back, and what is sound is the text of points.
use Rattle.std.proofs.Common.{◌≡◌, ℕ, zero, suc, ◌*◌, ◌<◌, ◌≤◌, ◌^◌, List, [], ◌∷◌, ◌++◌, length, take, drop, Bool, cond, true, false, nat_lt, refl, sym, ap, ◌∙◌, subst, arith, Option, Some, None, lit<}
use Rattle.std.specs.Int.{w32, to_le_bytes}
use Rattle.std.specs.List.{AllByRecursion}
use Rattle.std.proofs.lemmas.List.{length-take-le, take_all, length-append}
use Rattle.std.proofs.lemmas.Nat.{from_le_bytes-to_le_bytes_4}
use Rattle.std.proofs.lemmas.Bool.Decides.{nat_tests}
use Rattle.std.proofs.lemmas.Bool.{ltb-false}
use Rattle.std.proofs.Math.Seq.{take-append_seam, drop-append_seam}
use Rattle.std.proofs.Math.Nat.{suc-mul}
use Rattle.bin_files.specs.declared.fault.PointsFault.{PointsFault}
use Rattle.bin_files.specs.Points.{u32_at, verdict, header_verdict, body_verdict, or_else, file_bytes, text, points_of}
use Rattle.bin_files.specs.Read.{HasHeader}
use Rattle.ann_defs.specs.declared.kinds.Element.{Element}
use Rattle.ann_defs.specs.declared.limits.TheConstants.{MAX_POINTS, MAX_DIM}
use Rattle.ann_defs.specs.Distance.{PointSet, dim_of}
use Rattle.bin_files.specs.Rows.{rows, cells, AreLimits, ArePoints}
use Rattle.bin_files.proofs.Verdicts.{verdict_long, same_u32, body_sound}
use Rattle.bin_files.proofs.Spelled.{drop_bytes, eight, is_text, are_points, limits_of}
use Rattle.bin_files.proofs.Turned.{AreBytes, length-file_bytes, file_bytes_twice, file_bytes_below}

rows-cells : (d : ℕ) (X : List (List ℕ)) → AllByRecursion (λ x. length x ≡ d) X → rows (length X) d (cells X) ≡ X
rows-cells d [] each = refl
rows-cells d (x ∷ X) each =
    let front : take d (x ++ cells X) ≡ x = subst (λ m. take m (x ++ cells X) ≡ x) each.0 (take-append_seam x (cells X)) in
    let rest : drop d (x ++ cells X) ≡ cells X = subst (λ m. drop m (x ++ cells X) ≡ cells X) each.0 (drop-append_seam x (cells X)) in
    ap (λ y. y ∷ rows (length X) d (drop d (x ++ cells X))) front ∙ ap (λ b. x ∷ rows (length X) d b) rest ∙ ap (λ r. x ∷ r) (rows-cells d X each.1)

length-cells : (d : ℕ) (X : List (List ℕ)) → AllByRecursion (λ x. length x ≡ d) X → length (cells X) ≡ length X * d
length-cells d [] each = omega arith
length-cells d (x ∷ X) each = omega (arith, length-append x (cells X), length-cells d X each.1, each.0, suc-mul (length X) d)

lt_32 : (n limit : ℕ) → n ≤ limit → limit < 2 ^ 32 → n < 2 ^ 32
lt_32 n limit le lt = omega arith

pub header_sound : (n d : ℕ) → AreLimits n d → header_verdict n d ≡ None
header_sound n d limits =
    let some = limits.some in
    let count = limits.count in
    let wide = limits.wide in
    let dim = limits.dim in
    let fit = limits.fit in
    grind (arith, nat_tests)

cells_below : (X : List (List ℕ)) → AllByRecursion (AllByRecursion (λ b. b < 256)) X → AreBytes (cells X)
cells_below [] all i = lit< tt
cells_below ([] ∷ X) all i = cells_below X all.1 i
cells_below ((b ∷ x) ∷ X) all zero = all.0.0
cells_below ((b ∷ x) ∷ X) all (suc i) = cells_below (x ∷ X) (all.0.1, all.1) i

module _ (X : PointSet) (are : ArePoints X.vectors) where
  abbrev n : ℕ
  n = length X.vectors

  abbrev d : ℕ
  d = dim_of X.vectors

  abbrev body : List ℕ
  body = file_bytes X.element (cells X.vectors)

  -- the numbers in the header of the text
  count_in : u32_at (text X) 0 ≡ n
  count_in = from_le_bytes-to_le_bytes_4 n (lt_32 n MAX_POINTS are.limits.count (lit< tt))

  dim_in : u32_at (text X) 4 ≡ d
  dim_in = from_le_bytes-to_le_bytes_4 d (lt_32 d MAX_DIM are.limits.dim (lit< tt))

  pub text_verdict : verdict (text X) ≡ None
  text_verdict =
      verdict_long (text X) (omega arith)
      ∙ ap (λ h. or_else h (body_verdict (length body) (u32_at (text X) 0 * u32_at (text X) 4)))
      (ap (λ m. header_verdict m (u32_at (text X) 4)) count_in ∙ ap (header_verdict n) dim_in ∙ header_sound n d are.limits)
      ∙ body_sound (length body) (u32_at (text X) 0 * u32_at (text X) 4)
      (length-file_bytes X.element (cells X.vectors) ∙ length-cells d X.vectors are.each ∙ sym (ap (λ m. m * u32_at (text X) 4) count_in ∙ ap (λ m. n * m) dim_in))

  pub text_points : points_of X.element (text X) ≡ X
  text_points =
      let vectors : rows (u32_at (text X) 0) (u32_at (text X) 4) (file_bytes X.element body) ≡ X.vectors =
      ap (λ m. rows m (u32_at (text X) 4) (file_bytes X.element body)) count_in ∙ ap (λ m. rows n m (file_bytes X.element body)) dim_in
      ∙ ap (rows n d) (file_bytes_twice X.element (cells X.vectors) (cells_below X.vectors are.bytes)) ∙ rows-cells d X.vectors are.each in
      ap (λ v. record { element = X.element; vectors = v }) vectors

pub text_only : (X Y : PointSet) → ArePoints X.vectors → ArePoints Y.vectors → X.element ≡ Y.element → text X ≡ text Y → X ≡ Y
text_only X Y x y element same = sym (text_points X x) ∙ ap (points_of X.element) same ∙ ap (λ e. points_of e (text Y)) element ∙ text_points Y y

-- a test that is not met
not_some : (b : Bool) (fault : PointsFault) (rest : Option PointsFault) → cond b (Some fault) rest ≡ None → (b ≡ false) × (rest ≡ None)
not_some true fault rest e = cc
not_some false fault rest e = (refl, e)

neither : (h rest : Option PointsFault) → or_else h rest ≡ None → (h ≡ None) × (rest ≡ None)
neither None rest e = (refl, e)
neither (Some fault) rest e = cc

pub are_of : (bytes : List ℕ) → AllByRecursion (λ b. b < 256) bytes → AreBytes bytes
are_of [] all i = lit< tt
are_of (b ∷ bytes) all zero = all.0
are_of (b ∷ bytes) all (suc i) = are_of bytes all.1 i

taken_bytes : (k : ℕ) (bytes : List ℕ) → AreBytes bytes → AreBytes (take k bytes)
taken_bytes zero bytes are i = lit< tt
taken_bytes (suc k) [] are i = lit< tt
taken_bytes (suc k) (b ∷ bytes) are zero = are 0
taken_bytes (suc k) (b ∷ bytes) are (suc i) = taken_bytes k bytes (λ j. are (suc j)) i

header_of : (file : List ℕ) → AreBytes file → 8 ≤ length file → take 8 file ≡ to_le_bytes w32 (u32_at file 0) ++ to_le_bytes w32 (u32_at file 4)
header_of file are long =
    let twice : take 8 (take 8 file) ≡ take 8 file = take_all 8 (take 8 file) (omega (arith, length-take-le 8 file long)) in
    eight (take 8 file) (length-take-le 8 file long) (taken_bytes 8 file are)
    ∙ ap (λ m. to_le_bytes w32 m ++ to_le_bytes w32 (u32_at (take 8 file) 4)) (same_u32 (take 8 file) file 0 twice (omega arith))
    ∙ ap (λ m. to_le_bytes w32 (u32_at file 0) ++ to_le_bytes w32 m) (same_u32 (take 8 file) file 4 twice (omega arith))

body_long : (has wants : ℕ) → body_verdict has wants ≡ None → has ≡ wants
body_long has wants e =
    let short = not_some (nat_lt has wants) _ _ e in
    let trailing = not_some (nat_lt wants has) _ _ short.1 in
    omega (arith, ltb-false has wants short.0, ltb-false wants has trailing.0)

pub sound_text : (element : Element) (file : List ℕ) → AllByRecursion (λ b. b < 256) file → verdict file ≡ None
    → ArePoints (points_of element file).vectors × (file ≡ text (points_of element file))
sound_text element file all none =
    let are = are_of file all in
    let n = u32_at file 0 in
    let d = u32_at file 4 in
    let body = file_bytes element (drop 8 file) in
    let first = not_some (nat_lt (length file) 8) _ _ none in
    let long : 8 ≤ length file = ltb-false (length file) 8 first.0 in
    let parts = neither (header_verdict n d) (body_verdict (length (drop 8 file)) (n * d)) first.1 in
    let full : length body ≡ n * d = length-file_bytes element (drop 8 file) ∙ body_long (length (drop 8 file)) (n * d) parts.1 in
    let has : HasHeader file n d = record { long = long; count = refl; dim = refl; sound = parts.0; spelled = header_of file are long } in
    let limits = limits_of n d parts.0 in (
      are_points n d body limits full (file_bytes_below element (drop 8 file) (drop_bytes 8 file are)),
      is_text element file n d body limits.some has (file_bytes_twice element (drop 8 file) (drop_bytes 8 file are)) full,
    )
