-- What was read is the text of points.
use Rattle.std.proofs.Common.{◌≡◌, ℕ, zero, suc, ◌+◌, ◌*◌, ◌<◌, ◌≤◌, List, [], ◌∷◌, ◌++◌, length, take, drop, get_or, refl, sym, ap, ◌∙◌, subst, arith, append_assoc, lit<, None}
use Rattle.std.specs.Int.{w32, to_le_bytes}
use Rattle.std.specs.List.{AllByRecursion}
use Rattle.std.proofs.lemmas.List.{length-take-le, length-drop, take-append-drop, take_all}
use Rattle.std.proofs.lemmas.Nat.{le_bytes_4}
use Rattle.std.proofs.lemmas.Bool.Decides.{nat_tests}
use Rattle.std.proofs.Math.Seq.{take-add, drop-cons}
use Rattle.std.proofs.Math.Nat.{suc-mul, mul-le-mul_right}
use Rattle.ann_defs.specs.declared.kinds.Element.{Element}
use Rattle.bin_files.specs.Points.{u32_at, header_verdict, file_bytes, text}
use Rattle.bin_files.specs.Read.{HasHeader}
use Rattle.ann_defs.specs.Distance.{PointSet, dim_of}
use Rattle.bin_files.specs.Rows.{rows, cells, AreLimits, ArePoints}
use Rattle.bin_files.proofs.Turned.{AreBytes}
use Rattle.bin_files.proofs.SamePoints.{point_set}
use Rattle.bin_files.proofs.RowLaws.{length-rows, dim_of-rows, cells-rows}

four_bytes : (a b c d : ℕ) → a < 256 → b < 256 → c < 256 → d < 256 → AreBytes (a ∷ b ∷ c ∷ d ∷ [])
four_bytes a b c d p q r s zero = p
four_bytes a b c d p q r s (suc zero) = q
four_bytes a b c d p q r s (suc (suc zero)) = r
four_bytes a b c d p q r s (suc (suc (suc zero))) = s
four_bytes a b c d p q r s (suc (suc (suc (suc i)))) = lit< tt

-- four bytes are the bytes of their number
pub four : (bytes : List ℕ) (at : ℕ) → at + 4 ≤ length bytes → AreBytes bytes → take 4 (drop at bytes) ≡ to_le_bytes w32 (u32_at bytes at)
four bytes at fits are =
    ap (take 4) (drop-cons bytes at 0 (omega arith) ∙ ap (λ xs. get_or bytes at 0 ∷ xs) (drop-cons bytes (suc at) 0 (omega arith)
    ∙ ap (λ xs. get_or bytes (suc at) 0 ∷ xs) (drop-cons bytes (suc (suc at)) 0 (omega arith) ∙ ap (λ xs. get_or bytes (suc (suc at)) 0 ∷ xs) (drop-cons bytes (suc (suc (suc at))) 0 (omega arith)))))
    ∙ at_places ∙ sym (le_bytes_4 _ (u32_at bytes at) refl (four_bytes _ _ _ _ (are at) (are (at + 1)) (are (at + 2)) (are (at + 3))) refl)
  where
    at_places : get_or bytes at 0 ∷ get_or bytes (suc at) 0 ∷ get_or bytes (suc (suc at)) 0 ∷ get_or bytes (suc (suc (suc at))) 0 ∷ [] ≡ get_or bytes at 0 ∷ get_or bytes (at + 1) 0 ∷ get_or bytes (at + 2) 0 ∷ get_or bytes (at + 3) 0 ∷ []
    at_places =
        let one : suc at ≡ at + 1 = omega arith in
        let two : suc (suc at) ≡ at + 2 = omega arith in
        let three : suc (suc (suc at)) ≡ at + 3 = omega arith in
        cc

pub eight : (bytes : List ℕ) → length bytes ≡ 8 → AreBytes bytes → bytes ≡ to_le_bytes w32 (u32_at bytes 0) ++ to_le_bytes w32 (u32_at bytes 4)
eight bytes long are =
    sym (take_all 8 bytes (omega arith)) ∙ take-add 4 4 bytes
    ∙ ap (λ xs. xs ++ take 4 (drop 4 bytes)) (four bytes 0 (omega arith) are) ∙ ap (λ xs. to_le_bytes w32 (u32_at bytes 0) ++ xs) (four bytes 4 (omega arith) are)

pub is_text : (element : Element) (file : List ℕ) (n d : ℕ) (body : List ℕ) → 1 ≤ n → HasHeader file n d → file_bytes element body ≡ drop 8 file → length body ≡ n * d
    → file ≡ text (record { element = element; vectors = rows n d body })
is_text element file n d body some has is long =
    let fits : d ≤ length body = omega (arith, mul-le-mul_right {m = 1} {n = n} d some) in
    sym (take-append-drop 8 file) ∙ ap (λ xs. xs ++ drop 8 file) has.spelled ∙ append_assoc (to_le_bytes w32 n) (to_le_bytes w32 d) (drop 8 file)
    ∙ sym (ap (λ m. to_le_bytes w32 m ++ to_le_bytes w32 (dim_of (rows n d body)) ++ file_bytes element (cells (rows n d body))) (length-rows n d body)
    ∙ ap (λ m. to_le_bytes w32 n ++ to_le_bytes w32 m ++ file_bytes element (cells (rows n d body))) (dim_of-rows n d body some fits)
    ∙ ap (λ xs. to_le_bytes w32 n ++ to_le_bytes w32 d ++ xs) (ap (file_bytes element) (cells-rows n d body long) ∙ is) ∙ append_assoc (to_le_bytes w32 n) (to_le_bytes w32 d) (drop 8 file))

-- a sound header keeps the limits
pub limits_of : (n d : ℕ) → header_verdict n d ≡ None → AreLimits n d
limits_of n d sound = record {
  some = grind (arith, nat_tests);
  count = grind (arith, nat_tests);
  wide = grind (arith, nat_tests);
  dim = grind (arith, nat_tests);
  fit = grind (arith, nat_tests);
}

each-rows : (m d : ℕ) (body : List ℕ) → length body ≡ m * d → AllByRecursion (λ x. length x ≡ d) (rows m d body)
each-rows zero d body long = tt
each-rows (suc m) d body long =
    (length-take-le d body (omega (arith, suc-mul m d)), each-rows m d (drop d body) (omega (arith, suc-mul m d, length-drop d body)))

all_bytes : (bytes : List ℕ) → AreBytes bytes → AllByRecursion (λ b. b < 256) bytes
all_bytes [] are = tt
all_bytes (b ∷ bytes) are = (are 0, all_bytes bytes (λ i. are (suc i)))

take_bytes : (k : ℕ) (bytes : List ℕ) → AreBytes bytes → AllByRecursion (λ b. b < 256) (take k bytes)
take_bytes zero bytes are = tt
take_bytes (suc k) [] are = tt
take_bytes (suc k) (b ∷ bytes) are = (are 0, take_bytes k bytes (λ i. are (suc i)))

pub drop_bytes : (k : ℕ) (bytes : List ℕ) → AreBytes bytes → AreBytes (drop k bytes)
drop_bytes zero bytes are = are
drop_bytes (suc k) [] are = are
drop_bytes (suc k) (b ∷ bytes) are = drop_bytes k bytes (λ i. are (suc i))

bytes-rows : (m d : ℕ) (body : List ℕ) → AreBytes body → AllByRecursion (AllByRecursion (λ b. b < 256)) (rows m d body)
bytes-rows zero d body are = tt
bytes-rows (suc m) d body are = (take_bytes d body are, bytes-rows m d (drop d body) (drop_bytes d body are))

pub are_points : (n d : ℕ) (body : List ℕ) → AreLimits n d → length body ≡ n * d → AreBytes body → ArePoints (rows n d body)
are_points n d body limits long are =
    let fits : d ≤ length body = omega (arith, mul-le-mul_right {m = 1} {n = n} d limits.some) in
    let count = length-rows n d body in
    let dim = dim_of-rows n d body limits.some fits in
    record {
      limits = subst (λ m. AreLimits m (dim_of (rows n d body))) (sym count) (subst (λ m. AreLimits n m) (sym dim) limits);
      each = subst (λ m. AllByRecursion (λ x. length x ≡ m) (rows n d body)) (sym dim) (each-rows n d body long);
      bytes = bytes-rows n d body are;
    }

-- points that were read are those whose text the file is
pub text_read : (element : Element) (file : List ℕ) (n d : ℕ) (raw numbers : List ℕ) (p : PointSet) → AreLimits n d → HasHeader file n d → raw ≡ drop 8 file → length numbers ≡ n * d
    → raw ≡ file_bytes element numbers → p.element ≡ element → p.vectors ≡ rows n d numbers → file ≡ text p
text_read element file n d raw numbers p limits has is long back same vectors =
    is_text element file n d numbers limits.some has (sym back ∙ is) long ∙ ap text (sym (point_set p element (rows n d numbers) same vectors))
