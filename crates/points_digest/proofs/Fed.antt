-- The text of points, as it grows point by point.
use Rattle.std.proofs.Common.{◌%◌, ◌≡◌, ℕ, zero, suc, ◌+◌, ◌<◌, List, [], ◌∷◌, ◌++◌, take, length, refl, sym, ap, ◌∙◌, arith}
use Rattle.std.proofs.lemmas.List.{map-append, append_assoc, append-nil, take_all}
use Rattle.ann_defs.specs.declared.kinds.Element.{Element}
use Rattle.ann_defs.specs.declared.kinds.Element.TheVariants.{U8, I8}
use Rattle.ann_defs.specs.Distance.{PointSet, point}
use Rattle.bin_files.specs.Points.{file_bytes, text}
use Rattle.bin_files.specs.Rows.{cells}
use Rattle.bin_files.specs.Write.{header_text}

-- the header and the first i points
abbrev pub fed : Element → List (List ℕ) → ℕ → List ℕ
fed element X i = header_text X ++ file_bytes element (cells (take i X))

file_bytes-append : (element : Element) (a b : List ℕ) → file_bytes element (a ++ b) ≡ file_bytes element a ++ file_bytes element b
file_bytes-append U8 a b = refl
file_bytes-append I8 a b = map-append (λ s. (s + 128) % 256) a b

cells-more : (X : List (List ℕ)) (i : ℕ) → i < length X → cells (take (suc i) X) ≡ cells (take i X) ++ point X i
cells-more [] i lt = absurd (omega arith)
cells-more (x ∷ X) zero lt = append-nil x
cells-more (x ∷ X) (suc i) lt = ap (λ c. x ++ c) (cells-more X i (omega arith)) ∙ sym (append_assoc x (cells (take i X)) (point X i))

-- one point more
pub fed-more : (element : Element) (X : List (List ℕ)) (i : ℕ) → i < length X → fed element X i ++ file_bytes element (point X i) ≡ fed element X (i + 1)
fed-more element X i lt =
    let next : suc i ≡ i + 1 = omega arith in
    append_assoc (header_text X) (file_bytes element (cells (take i X))) (file_bytes element (point X i))
    ∙ ap (λ c. header_text X ++ c) (sym (file_bytes-append element (cells (take i X)) (point X i)) ∙ ap (file_bytes element) (sym (cells-more X i lt)))
    ∙ ap (fed element X) next

pub fed-all : (X : PointSet) → fed X.element X.vectors (length X.vectors) ≡ text X
fed-all X = ap (λ v. header_text X.vectors ++ file_bytes X.element (cells v)) (take_all (length X.vectors) X.vectors (omega arith))

pub fed-none : (element : Element) (X : List (List ℕ)) → fed element X 0 ≡ header_text X
fed-none U8 X = append-nil (header_text X)
fed-none I8 X = append-nil (header_text X)
