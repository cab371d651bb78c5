-- Files and outputs that grow piece by piece.
use Rattle.std.proofs.Common.{◌≡◌, ℕ, ◌+◌, ◌-◌, arith, List, [], ◌++◌, take, drop, length, refl, sym, ap, subst, ◌∙◌, Option, Some, None, IfSome, IsSome, Bool, cond, unwrap_or, append_assoc, append-nil}
use Rattle.std.proofs.lemmas.List.{take_all, length-drop}
use Rattle.std.proofs.Math.Seq.{take-add}
use Rattle.ann_shelf.specs.declared.slip.Slip.{Slip}
use Rattle.ann_shelf.specs.declared.slip.Slip.TheVariants.{Failed, NoMemory}
use Rattle.ann_shelf.specs.Files.{Files, bytes_of, with_file, Grows}
use Rattle.ann_shelf.specs.Written.{GotSome}
use Rattle.ann_shelf.proofs.Names.{get_same, insert_same}

pub bytes_of-with_file : (files : Files) (name x : List ℕ) → bytes_of (with_file files name x) name ≡ x
bytes_of-with_file files name x = ap (λ o. unwrap_or o []) (get_same files name x)

pub with_file-more : (files : Files) (name x piece : List ℕ) → with_file (with_file files name x) name (bytes_of (with_file files name x) name ++ piece) ≡ with_file files name (x ++ piece)
with_file-more files name x piece =
    ap (λ b. with_file (with_file files name x) name (b ++ piece)) (bytes_of-with_file files name x) ∙ insert_same files name x (x ++ piece)

joined : (x bytes : List ℕ) (done k : ℕ) → (x ++ take done bytes) ++ take k (drop done bytes) ≡ x ++ take (done + k) bytes
joined x bytes done k = append_assoc x (take done bytes) (take k (drop done bytes)) ∙ ap (λ b. x ++ b) (sym (take-add done k bytes))

pub grows_on : (first old new : Option Files) (name bytes rest : List ℕ) (done k : ℕ) → rest ≡ drop done bytes → Grows first old name (take done bytes)
    → IfSome old (λ files. new ≡ Some (with_file files name (bytes_of files name ++ take k rest))) → Grows first new name (take (done + k) bytes)
grows_on first old new name bytes rest done k left so_far more_raw files x is =
    let Told : List ℕ → Type 0 = λ r. IfSome old (λ f. new ≡ Some (with_file f name (bytes_of f name ++ take k r))) in
    let more = subst Told left more_raw in
    let now : new ≡ Some (with_file (with_file files name (x ++ take done bytes)) name (bytes_of (with_file files name (x ++ take done bytes)) name ++ take k (drop done bytes))) =
    subst (λ o. IfSome o (λ f. new ≡ Some (with_file f name (bytes_of f name ++ take k (drop done bytes))))) (so_far files x is) more in
    now ∙ ap Some (with_file-more files name (x ++ take done bytes) (take k (drop done bytes)) ∙ ap (with_file files name) (joined x bytes done k))

pub grows_none : (files : Option Files) (name : List ℕ) → Grows files files name []
grows_none files name held x is = is ∙ ap (λ b. Some (with_file held name b)) (sym (append-nil x))

-- one piece after another
pub grows_more : (a b c : Option Files) (name p q : List ℕ) → Grows a b name p → Grows b c name q → Grows a c name (p ++ q)
grows_more a b c name p q first next files x is = next files (x ++ p) (first files x is) ∙ ap (λ t. Some (with_file files name t)) (append_assoc x p q)

-- what is begun by a begin and appended by pieces
pub grows_then : (a b c : Option Files) (name x piece : List ℕ) → IfSome a (λ files. b ≡ Some (with_file files name x)) → Grows b c name piece → IfSome a (λ files. c ≡ Some (with_file files name (x ++ piece)))
grows_then None b c name x piece first next = tt
grows_then (Some files) b c name x piece first next = next files x first

-- what a finish leaves of a file that was begun and appended, where what is begun is told with what is held
pub finished : (begun0 begun held0 held new : Option Files) (name text : List ℕ) → IfSome held0 (λ _. IsSome begun0)
    → IfSome begun0 (λ files. begun ≡ Some (with_file files name text)) → held ≡ held0
    → IfSome begun (λ b. IfSome held (λ files. new ≡ Some (with_file files name (bytes_of b name)))) → IfSome held0 (λ files. new ≡ Some (with_file files name text))
finished begun0 begun None held new name text told whole same end = tt
finished None begun (Some files) held new name text told whole same end = absurd (subst (λ (b : Bool). cond b ⊥ (Unit {0})) told tt)
finished (Some begun0) begun (Some files) held new name text told whole same end =
    let Told : Option Files → Type 0 = λ h. IfSome begun (λ b. IfSome h (λ files. new ≡ Some (with_file files name (bytes_of b name)))) in
    subst (λ o. IfSome o (λ b. new ≡ Some (with_file files name (bytes_of b name)))) whole (subst Told same end)
    ∙ ap (λ b. Some (with_file files name b)) (bytes_of-with_file begun0 name text)

-- an output
pub gets_on : (first old new : Option (List ℕ)) (bytes rest : List ℕ) (done k : ℕ) → rest ≡ drop done bytes → IfSome first (λ text. old ≡ Some (text ++ take done bytes))
    → IfSome old (λ text. new ≡ Some (text ++ take k rest)) → IfSome first (λ text. new ≡ Some (text ++ take (done + k) bytes))
gets_on None old new bytes rest done k left so_far more = tt
gets_on (Some text) old new bytes rest done k left so_far more_raw =
    let Told : List ℕ → Type 0 = λ r. IfSome old (λ t. new ≡ Some (t ++ take k r)) in
    let more = subst Told left more_raw in
    let now : new ≡ Some ((text ++ take done bytes) ++ take k (drop done bytes)) = subst (λ o. IfSome o (λ t. new ≡ Some (t ++ take k (drop done bytes)))) so_far more in
    now ∙ ap Some (joined text bytes done k)

pub gets_some : (first old new : Option (List ℕ)) (bytes rest : List ℕ) (done : ℕ) (slip : Slip) → rest ≡ drop done bytes → IfSome first (λ text. old ≡ Some (text ++ take done bytes))
    → (slip ≡ Failed → IfSome old (λ text. (after : List ℕ) × (new ≡ Some after) × GotSome text after rest))
    → (slip ≡ NoMemory → new ≡ old) → IfSome first (λ text. (after : List ℕ) × (new ≡ Some after) × GotSome text after bytes)
gets_some None old new bytes rest done slip left so_far failed no_memory = tt
gets_some (Some text) old new bytes rest done NoMemory left so_far failed no_memory = (text ++ take done bytes, no_memory refl ∙ so_far, (done, refl))
gets_some (Some text) old new bytes rest done Failed left so_far failed no_memory =
    let Told : List ℕ → Type 0 = λ r. IfSome old (λ t. (after : List ℕ) × (new ≡ Some after) × GotSome t after r) in
    let some = subst (λ o. IfSome o (λ t. (after : List ℕ) × (new ≡ Some after) × GotSome t after (drop done bytes))) so_far (subst Told left (failed refl)) in
    (text ++ take (done + some.2.0) bytes, some.1 ∙ ap Some (some.2.1 ∙ joined text bytes done some.2.0), (done + some.2.0, refl))

-- what is left of a piece, as a range of it is written
pub rest_of : (done : ℕ) (bytes : List ℕ) → take (length bytes - done) (drop done bytes) ≡ drop done bytes
rest_of done bytes = take_all (length bytes - done) (drop done bytes) (omega (arith, length-drop done bytes))
