-- Places of files in a list of them.
use Rattle.std.proofs.Common.{◌≡◌, ◌≢◌, ℕ, zero, suc, ◌+◌, ◌<◌, add-one, List, [], ◌∷◌, ◌++◌, length, take, drop, get_or, refl, sym, ap, subst, ◌∙◌, arith, Some, None, IsSome, unwrap_or, Vec, string_bytes}
use Rattle.std.specs.declared.alloc.Global.{Global}
use Rattle.std.proofs.Math.ListN.{set}
use Rattle.std.specs.Ordering.{nat_cmp}
use Rattle.std.specs.Cmp.Lexicographic.{slice_cmp}
use Rattle.std.specs.FinMap.{get, insert, remove, get-empty}
use Rattle.ann_shelf.specs.Files.{bytes_of, with_file}
use Rattle.ann_shelf.specs.NamedFiles.{Entry, files_of, IsPlace, IsAbsent}
use Rattle.ann_shelf.proofs.Names.{get_same, get_other, insert_same, insert_swap, insert_held, remove_insert_same, remove_insert_other, remove_absent}

pub absent_more : (name : List ℕ) (es : List Entry) (i : ℕ) (d : Entry) → i < length es → IsAbsent name (take i es) → string_bytes (get_or es i d).0 ≢ name → IsAbsent name (take (suc i) es)
absent_more name [] i d lt absent differs = absurd (omega arith)
absent_more name (e ∷ es) zero d lt absent differs = (differs, tt)
absent_more name (e ∷ es) (suc i) d lt absent differs = (absent.0, absent_more name es i d (omega arith) absent.1 differs)

pub place_here : (name : List ℕ) (es : List Entry) (i : ℕ) (d : Entry) → i < length es → IsAbsent name (take i es) → string_bytes (get_or es i d).0 ≡ name → IsPlace name es i
place_here name [] i d lt absent is = absurd (omega arith)
place_here name (e ∷ es) zero d lt absent is = is
place_here name (e ∷ es) (suc i) d lt absent is = (absent.0, place_here name es i d (omega arith) absent.1 is)

-- a file that is set in its place
pub files_of-set : (name : List ℕ) (es : List Entry) (i : ℕ) (f : Entry) → IsPlace name es i → string_bytes f.0 ≡ name → files_of (set es i f) ≡ insert (files_of es) name f.1.items
files_of-set name [] i f place is = absurd place
files_of-set name (e ∷ es) zero f place is =
    ap (λ k. insert (files_of es) k f.1.items) is ∙ sym (ap (λ k. insert (insert (files_of es) k e.1.items) name f.1.items) place ∙ insert_same (files_of es) name e.1.items f.1.items)
files_of-set name (e ∷ es) (suc i) f place is =
    ap (λ m. insert m (string_bytes e.0) e.1.items) (files_of-set name es i f place.1 is) ∙ sym (insert_swap (files_of es) (string_bytes e.0) e.1.items name f.1.items place.0)

-- a file that is new
pub files_of-push : (name : List ℕ) (es : List Entry) (f : Entry) → IsAbsent name es → string_bytes f.0 ≡ name → files_of (es ++ f ∷ []) ≡ insert (files_of es) name f.1.items
files_of-push name [] f absent is = ap (λ k. insert (files_of []) k f.1.items) is
files_of-push name (e ∷ es) f absent is =
    ap (λ m. insert m (string_bytes e.0) e.1.items) (files_of-push name es f absent.1 is) ∙ sym (insert_swap (files_of es) (string_bytes e.0) e.1.items name f.1.items absent.0)

pub get_place : (name : List ℕ) (es : List Entry) (i : ℕ) (d : Entry) → IsPlace name es i → get (files_of es) name ≡ Some (get_or es i d).1.items
get_place name [] i d place = absurd place
get_place name (e ∷ es) zero d place = ap (λ k. get (insert (files_of es) k e.1.items) name) place ∙ get_same (files_of es) name e.1.items
get_place name (e ∷ es) (suc i) d place = get_other (files_of es) (string_bytes e.0) e.1.items name (λ is. place.0 (sym is)) ∙ get_place name es i d place.1

pub get_absent : (name : List ℕ) (es : List Entry) → IsAbsent name es → get (files_of es) name ≡ None
get_absent name [] absent = get-empty (slice_cmp nat_cmp) name
get_absent name (e ∷ es) absent = get_other (files_of es) (string_bytes e.0) e.1.items name (λ is. absent.0 (sym is)) ∙ get_absent name es absent.1

-- the name of the file in its place
pub place_name : (name : List ℕ) (es : List Entry) (i : ℕ) (d : Entry) → IsPlace name es i → string_bytes (get_or es i d).0 ≡ name
place_name name [] i d place = absurd place
place_name name (e ∷ es) zero d place = place
place_name name (e ∷ es) (suc i) d place = place_name name es i d place.1

-- a file's bytes that change in their place
pub files_of-change : (name : List ℕ) (es : List Entry) (i : ℕ) (old : Entry) (v : Vec ℕ Global) → IsPlace name es i → old ≡ get_or es i old → files_of (set es i (old.0, v)) ≡ insert (files_of es) name v.items
files_of-change name es i old v place is = files_of-set name es i (old.0, v) place (ap (λ (e : Entry). string_bytes e.0) is ∙ place_name name es i old place)

-- bytes that are set to what they are
pub files_of-same : (name : List ℕ) (es : List Entry) (i : ℕ) (old : Entry) (v : Vec ℕ Global) → IsPlace name es i → old ≡ get_or es i old → v.items ≡ old.1.items → files_of (set es i (old.0, v)) ≡ files_of es
files_of-same name es i old v place is same =
    files_of-change name es i old v place is ∙ ap (insert (files_of es) name) (same ∙ ap (λ (e : Entry). e.1.items) is)
    ∙ insert_held (files_of es) name (get_or es i old).1.items (get_place name es i old place)

held_at : (name : List ℕ) (es : List Entry) (i : ℕ) (old : Entry) → IsPlace name es i → old ≡ get_or es i old → get (files_of es) name ≡ Some old.1.items
held_at name es i old place is = get_place name es i old place ∙ ap (λ (e : Entry). Some e.1.items) (sym is)

-- bytes that get a piece at their end
pub files_of-extend : (name : List ℕ) (es : List Entry) (i : ℕ) (old : Entry) (v : Vec ℕ Global) (piece : List ℕ) → IsPlace name es i → old ≡ get_or es i old → v.items ≡ old.1.items ++ piece
    → IsSome (get (files_of es) name) × (files_of (set es i (old.0, v)) ≡ with_file (files_of es) name (bytes_of (files_of es) name ++ piece))
files_of-extend name es i old v piece place is longer =
    let held : get (files_of es) name ≡ Some old.1.items = held_at name es i old place is in (
      subst IsSome (sym held) refl,
      files_of-change name es i old v place is ∙ ap (insert (files_of es) name) (longer ∙ sym (ap (λ o. unwrap_or o [] ++ piece) held)),
    )

removed : (name : List ℕ) (es : List Entry) (i : ℕ) → IsPlace name es i → remove (files_of (take i es ++ drop (suc i) es)) name ≡ remove (files_of es) name
removed name [] i place = absurd place
removed name (e ∷ es) zero place =
    ap (λ k. remove (files_of es) k) (sym place) ∙ sym (remove_insert_same (files_of es) (string_bytes e.0) e.1.items) ∙ ap (remove (insert (files_of es) (string_bytes e.0) e.1.items)) place
removed name (e ∷ es) (suc i) place =
    remove_insert_other (files_of (take i es ++ drop (suc i) es)) (string_bytes e.0) e.1.items name place.0
    ∙ ap (λ m. insert m (string_bytes e.0) e.1.items) (removed name es i place.1)
    ∙ sym (remove_insert_other (files_of es) (string_bytes e.0) e.1.items name place.0)

-- a file that is taken out of its place
pub files_of-removed : (name : List ℕ) (es : List Entry) (i : ℕ) → IsPlace name es i → remove (files_of (take i es ++ drop (i + 1) es)) name ≡ remove (files_of es) name
files_of-removed name es i place = rw add-one (removed name es i place)

pub files_of-absent : (name : List ℕ) (es : List Entry) → IsAbsent name es → remove (files_of es) name ≡ files_of es
files_of-absent name es absent = remove_absent (files_of es) name (get_absent name es absent)
