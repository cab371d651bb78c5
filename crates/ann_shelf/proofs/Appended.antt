-- A file that is begun and gets a piece bit by bit.
use Rattle.std.proofs.Common.{◌≡◌, ℕ, ◌+◌, List, [], ◌++◌, take, drop, refl, inr, ◌∙◌, Some, IfSome}
use Rattle.ann_shelf.specs.Files.{bytes_of, with_file, Grows}
use Rattle.ann_shelf.specs.Shown.{Shown, OnlyWrites}
use Rattle.ann_shelf.proofs.Grow.{grows_on, grows_none, grows_more}
use Rattle.ann_shelf.proofs.Only.{only_writes_same, only_writes_then}

-- so far these bytes came to the end of a file, and no call failed
pub record IsAppended (old new : Shown) (name bytes : List ℕ) : Type 0 where
  pub grows : Grows old.begun new.begun name bytes
  pub held : new.held ≡ old.held
  pub only : OnlyWrites old new name ⊥

pub appended_none : (s : Shown) (name : List ℕ) → IsAppended s s name []
appended_none s name = record { grows = grows_none s.begun name; held = refl; only = only_writes_same s name (λ never. never) }

-- what a call leaves that failed after these
pub appended_failed : {a b c : Shown} {name bytes : List ℕ} {P Q : Type 0} → IsAppended a b name bytes → OnlyWrites b c name P → (Q → P) → OnlyWrites a c name Q
appended_failed {a} {b} {c} {name} so_far next same = only_writes_then a b c name so_far.only next (λ q. inr (same q))

-- more bytes come: a piece, or the first k that are left of one
module _ {a b c : Shown} {name : List ℕ} {P : Type 0} (held : c.held ≡ b.held) (next : OnlyWrites b c name P) where
  pub appended_more : (bytes piece : List ℕ) → IsAppended a b name bytes → Grows b.begun c.begun name piece → IsAppended a c name (bytes ++ piece)
  appended_more bytes piece so_far more = record {
    grows = grows_more a.begun b.begun c.begun name bytes piece so_far.grows more;
    held = held ∙ so_far.held;
    only = only_writes_then a b c name so_far.only next (λ no. absurd no);
  }

  pub appended_on : (bytes rest : List ℕ) (done k : ℕ) → rest ≡ drop done bytes → IsAppended a b name (take done bytes)
      → IfSome b.begun (λ files. c.begun ≡ Some (with_file files name (bytes_of files name ++ take k rest))) → IsAppended a c name (take (done + k) bytes)
  appended_on bytes rest done k left so_far more = record {
    grows = grows_on a.begun b.begun c.begun name bytes rest done k left so_far.grows more;
    held = held ∙ so_far.held;
    only = only_writes_then a b c name so_far.only next (λ no. absurd no);
  }
