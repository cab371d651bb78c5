-- The verdict from what three reads gave.
use Rattle.std.proofs.Common.{◌≡◌, ℕ, ◌+◌, ◌*◌, ◌<◌, ◌≤◌, List, length, take, drop, get_or, cond, nat_lt, refl, sym, ap, subst, ◌∙◌, arith, Some, None, Ok}
use Rattle.std.proofs.lemmas.List.{get_or-take}
use Rattle.std.proofs.lemmas.Bool.Decides.{nat_tests}
use Rattle.ann_defs.specs.declared.kinds.Element.{Element}
use Rattle.ann_defs.specs.Distance.{PointSet}
use Rattle.bin_files.specs.declared.fault.PointsFault.{PointsFault}
use Rattle.bin_files.specs.declared.fault.PointsFault.TheVariants.{Read, Malformed, TooLarge, NoMemory}
use Rattle.bin_files.specs.Points.{u32_at, verdict, header_verdict, body_verdict, or_else, file_bytes}
use Rattle.bin_files.specs.Read.{ReadsAll, Judges, HasHeader, IsFaultOf}
use Rattle.bin_files.specs.Rows.{rows}
use Rattle.bin_files.proofs.SamePoints.{point_set}

same_at : (a b : List ℕ) (i : ℕ) → take 8 a ≡ take 8 b → i < 8 → get_or a i 0 ≡ get_or b i 0
same_at a b i e lt = sym (get_or-take 8 a i 0 lt) ∙ ap (λ xs. get_or xs i 0) e ∙ get_or-take 8 b i 0 lt

pub same_u32 : (a b : List ℕ) (at : ℕ) → take 8 a ≡ take 8 b → at + 4 ≤ 8 → u32_at a at ≡ u32_at b at
same_u32 a b at e fits =
    rw (same_at a b at e (omega arith), same_at a b (at + 1) e (omega arith), same_at a b (at + 2) e (omega arith), same_at a b (at + 3) e (omega arith)) refl

pub same_front : (file header : List ℕ) (got : ℕ) → ReadsAll file 0 got header → 8 ≤ got → got ≤ length header → length header ≡ 8 → take 8 header ≡ take 8 file
same_front file header got reads many in_header eight =
    let is : got ≡ 8 = omega arith in
    subst (λ k. take k header ≡ take k file) is reads.same

chosen_false : {A : Type 0} (a b : ℕ) (x y : A) → b ≤ a → cond (nat_lt a b) x y ≡ y
chosen_false a b x y le = grind (arith, nat_tests)

pub verdict_long : (file : List ℕ) → 8 ≤ length file → verdict file ≡ or_else (header_verdict (u32_at file 0) (u32_at file 4)) (body_verdict (length (drop 8 file)) (u32_at file 0 * u32_at file 4))
verdict_long file long = chosen_false (length file) 8 _ _ long

pub fault_of_verdict : (file : List ℕ) (fault : PointsFault) → verdict file ≡ Some fault → IsFaultOf file fault
fault_of_verdict file Read e = tt
fault_of_verdict file (Malformed place rule) e = e
fault_of_verdict file (TooLarge name value limit) e = e
fault_of_verdict file NoMemory e = tt

pub verdict_header : (file : List ℕ) (n d : ℕ) (fault : PointsFault) → 8 ≤ length file → n ≡ u32_at file 0 → d ≡ u32_at file 4 → Some fault ≡ header_verdict n d → IsFaultOf file fault
verdict_header file n d fault long count dim is = fault_of_verdict file fault
    (verdict_long file long ∙ ap (λ h. or_else h (body_verdict (length (drop 8 file)) (u32_at file 0 * u32_at file 4)))
    (sym (is ∙ ap (λ m. header_verdict m d) count ∙ ap (λ m. header_verdict (u32_at file 0) m) dim)))

-- past a sound header the verdict is that of the body
pub verdict_sound : (file : List ℕ) (n d : ℕ) → HasHeader file n d → verdict file ≡ body_verdict (length (drop 8 file)) (n * d)
verdict_sound file n d has =
    verdict_long file has.long
    ∙ ap (λ h. or_else h (body_verdict (length (drop 8 file)) (u32_at file 0 * u32_at file 4)))
    (sym (ap (λ m. header_verdict m d) has.count ∙ ap (λ m. header_verdict (u32_at file 0) m) has.dim) ∙ has.sound)
    ∙ sym (ap (λ m. body_verdict (length (drop 8 file)) (m * d)) has.count ∙ ap (λ m. body_verdict (length (drop 8 file)) (u32_at file 0 * m)) has.dim)

pub body_sound : (has wants : ℕ) → has ≡ wants → body_verdict has wants ≡ None
body_sound has wants is = grind (arith, nat_tests)

pub judges_ok : (element : Element) (file : List ℕ) (n d : ℕ) (bytes : List ℕ) (points : PointSet) → HasHeader file n d → bytes ≡ drop 8 file → length bytes ≡ n * d
    → points.element ≡ element → points.vectors ≡ rows n d (file_bytes element bytes) → Judges element file (Ok points)
judges_ok element file n d bytes points has is long same vectors = (
  verdict_sound file n d has ∙ body_sound (length (drop 8 file)) (n * d) (sym (ap length is) ∙ long),
  point_set points element _ same (vectors ∙ ap (λ b. rows n d (file_bytes element b)) is ∙ ap (λ m. rows m d (file_bytes element (drop 8 file))) has.count
      ∙ ap (λ m. rows (u32_at file 0) m (file_bytes element (drop 8 file))) has.dim),
)
