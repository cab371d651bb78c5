-- Files that grow piece by piece through a buffer.
use Rattle.std.proofs.Common.{◌≡◌, ℕ, ◌+◌, ◌<◌, List, [], ◌∷◌, ◌++◌, take, length, get_or, refl, sym, ap, ◌∙◌, inr, Option, append_assoc}
use Rattle.std.specs.Prelude.{Result, Ok, Err, OnOk}
use Rattle.std.proofs.lemmas.List.Concat.{flat_map-append}
use Rattle.std.specs.List.{flat_map}
use Rattle.std.proofs.lemmas.List.{append-nil, take_more}
use Rattle.ann_shelf.specs.Files.{Files}
use Rattle.ann_shelf.specs.Shown.{Shown, OnlyWrites}
use Rattle.ann_shelf.proofs.Only.{only_writes_same, only_writes_then}
use Rattle.graph_files.specs.Writing.{Adds}

-- nothing was added
pub adds_none : (o : Option Files) (name before : List ℕ) → Adds o o name before before []
adds_none o name before files x is = (x, is, sym (append-nil (x ++ before)))

-- one piece after another
pub adds_both : (a b c : Option Files) (name p q r u v : List ℕ) → Adds a b name p q u → Adds b c name q r v → Adds a c name p r (u ++ v)
adds_both a b c name p q r u v first second files x is =
    let mid = first files x is in
    let end = second files mid.0 mid.1 in
    (end.0, end.1, end.2 ∙ ap (λ xs. xs ++ v) mid.2 ∙ append_assoc (x ++ p) u v)

pub adds_along : (a b : Option Files) (name p q u v : List ℕ) → u ≡ v → Adds a b name p q u → Adds a b name p q v
adds_along a b name p q u v e adds files x begun = let some = adds files x begun in (some.0, some.1, some.2 ∙ ap (λ w. (x ++ p) ++ w) e)

-- one more of a list's pieces
pub adds_more : {X : Type 0} (a b c : Option Files) (name p q r : List ℕ) (f : X → List ℕ) (xs : List X) (i : ℕ) (d x : X) → i < length xs → x ≡ get_or xs i d
    → Adds a b name p q (flat_map f (take i xs)) → Adds b c name q r (f x) → Adds a c name p r (flat_map f (take (i + 1) xs))
adds_more a b c name p q r f xs i d x lt is first second =
    adds_along a c name p r (flat_map f (take i xs) ++ f x) (flat_map f (take (i + 1) xs))
    (ap (λ y. flat_map f (take i xs) ++ f y) is
    ∙ sym (ap (λ ys. flat_map f ys) (take_more xs i d lt) ∙ flat_map-append f (take i xs) (get_or xs i d ∷ []) ∙ ap (λ w. flat_map f (take i xs) ++ w) (append-nil (f (get_or xs i d)))))
    (adds_both a b c name p q r (flat_map f (take i xs)) (f x) first second)

-- what came to a file and is pending, and no call failed
pub record HasAdded (old new : Shown) (name before after piece : List ℕ) : Type 0 where
  pub adds : Adds old.begun new.begun name before after piece
  pub held : new.held ≡ old.held
  pub only : OnlyWrites old new name ⊥

pub added_none : (s : Shown) (name before : List ℕ) → HasAdded s s name before before []
added_none s name before = record { adds = adds_none s.begun name before; held = refl; only = only_writes_same s name (λ never. never) }

-- what a call leaves that failed after these
pub added_failed : {a b c : Shown} {name before after piece : List ℕ} {P Q : Type 0} → HasAdded a b name before after piece → OnlyWrites b c name P → (Q → P) → OnlyWrites a c name Q
added_failed {a} {b} {c} {name} so_far next same = only_writes_then a b c name so_far.only next (λ q. inr (same q))

-- one more of a list's pieces
module _ {X : Type 0} (f : X → List ℕ) (xs : List X) {a b c : Shown} {name p q r : List ℕ} {P : Type 0} where
  pub added_more : (i : ℕ) (d x : X) → i < length xs → x ≡ get_or xs i d → HasAdded a b name p q (flat_map f (take i xs))
      → Adds b.begun c.begun name q r (f x) → c.held ≡ b.held → OnlyWrites b c name P → HasAdded a c name p r (flat_map f (take (i + 1) xs))
  added_more i d x lt is so_far more held next = record {
    adds = adds_more a.begun b.begun c.begun name p q r f xs i d x lt is so_far.adds more;
    held = held ∙ so_far.held;
    only = only_writes_then a b c name so_far.only next (λ no. absurd no);
  }

-- what follows if a call succeeds
pub on_ok_then : {T E : Type 0} (r : Result T E) {P Q : Type 0} → OnOk r P → (P → Q) → OnOk r Q
on_ok_then (Ok x) p f = f p
on_ok_then (Err e) p f = tt

pub on_ok_both : {T E : Type 0} (r : Result T E) {P Q R : Type 0} → OnOk r P → OnOk r Q → (P → Q → R) → OnOk r R
on_ok_both (Ok x) p q f = f p q
on_ok_both (Err e) p q f = tt
