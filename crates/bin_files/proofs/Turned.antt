-- Stored numbers and the bytes of a file.
use Rattle.std.proofs.Common.{◌≡◌, ℕ, zero, suc, ◌+◌, ◌%◌, ◌<◌, List, [], ◌∷◌, ◌++◌, map, take, drop, length, get_or, refl, sym, ap, ◌∙◌, arith, lit<}
use Rattle.std.proofs.lemmas.List.{length-map, map-append}
use Rattle.std.proofs.Math.Seq.{take-add}
use Rattle.ann_defs.specs.declared.kinds.Element.{Element}
use Rattle.ann_defs.specs.declared.kinds.Element.TheVariants.{U8, I8}
use Rattle.bin_files.specs.Points.{file_bytes}

abbrev pub AreBytes : List ℕ → Type 0
AreBytes bytes = (i : ℕ) → get_or bytes i 0 < 256

abbrev turned : ℕ → ℕ
turned s = (s + 128) % 256

turned_twice : (s : ℕ) → s < 256 → turned (turned s) ≡ s
turned_twice s lt = omega arith

turned_below : (s : ℕ) → turned s < 256
turned_below s = omega arith

pub length-file_bytes : (element : Element) (xs : List ℕ) → length (file_bytes element xs) ≡ length xs
length-file_bytes U8 xs = refl
length-file_bytes I8 xs = length-map xs turned

map_twice : (xs : List ℕ) → AreBytes xs → map turned (map turned xs) ≡ xs
map_twice [] are = refl
map_twice (x ∷ xs) are = ap (λ y. y ∷ map turned (map turned xs)) (turned_twice x (are 0)) ∙ ap (λ ys. x ∷ ys) (map_twice xs (λ i. are (suc i)))

pub file_bytes_twice : (element : Element) (xs : List ℕ) → AreBytes xs → file_bytes element (file_bytes element xs) ≡ xs
file_bytes_twice U8 xs are = refl
file_bytes_twice I8 xs are = map_twice xs are

map_below : (xs : List ℕ) → AreBytes (map turned xs)
map_below [] i = lit< tt
map_below (x ∷ xs) zero = turned_below x
map_below (x ∷ xs) (suc i) = map_below xs i

pub file_bytes_below : (element : Element) (xs : List ℕ) → AreBytes xs → AreBytes (file_bytes element xs)
file_bytes_below U8 xs are = are
file_bytes_below I8 xs are = map_below xs

-- a list whose numbers were turned one by one
pub all_turned : (new old : List ℕ) → length new ≡ length old → ((k : ℕ) → k < length old → get_or new k 0 ≡ turned (get_or old k 0)) → new ≡ file_bytes I8 old
all_turned [] [] long each = refl
all_turned [] (x ∷ old) long each = absurd (omega arith)
all_turned (y ∷ new) [] long each = absurd (omega arith)
all_turned (y ∷ new) (x ∷ old) long each =
    ap (λ z. z ∷ new) (each 0 (omega arith)) ∙ ap (λ zs. turned x ∷ zs) (all_turned new old (omega arith) (λ k lt. each (suc k) (omega arith)))

-- a piece that is turned after those before it
pub more_turned : (done len : ℕ) (stored piece : List ℕ) → piece ≡ file_bytes I8 (take len (drop done stored))
    → file_bytes I8 (take (done + len) stored) ≡ file_bytes I8 (take done stored) ++ piece
more_turned done len stored piece is =
    ap (map turned) (take-add done len stored) ∙ map-append turned (take done stored) (take len (drop done stored)) ∙ ap (λ p. map turned (take done stored) ++ p) (sym is)
