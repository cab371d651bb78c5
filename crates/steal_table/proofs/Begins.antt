-- A new table keeps the rule.
use Rattle.std.proofs.Common.{◌≡◌, ℕ, zero, suc, ◌+◌, ◌<◌, List, [], ◌∷◌, length, map, replicate, Some, None, refl, sym, ap, ◌∙◌, arith}
use mathlib.Core.Option.{some, some-ne-none, some-injective}
use lib.ListN.{get_elem?}
use Rattle.atomic_table.specs.Table.{opening}
use Rattle.steal_table.specs.declared.view.Size.{Size}
use Rattle.steal_table.specs.declared.view.Entry.{Entry}
use Rattle.steal_table.specs.declared.view.View.{View}
use Rattle.steal_table.specs.Rule.{Block, Table, Status, waiting, held, done, code, Says, Live, Rule, caller_first}
use Rattle.steal_table.proofs.Tables.{code_apart, below_length}

zeros : (n t : ℕ) → t < n → get_elem? {A = ℕ} (replicate n 0) t ≡ some 0
zeros zero t lt = absurd (omega arith)
zeros (suc n) zero lt = refl
zeros (suc n) (suc t) lt = zeros n t (omega arith)

zeros_only : (n t a : ℕ) → get_elem? {A = ℕ} (replicate n 0) t ≡ some a → a ≡ 0
zeros_only zero t a e = absurd (some-ne-none a (sym e))
zeros_only (suc n) zero a e = sym (some-injective 0 a e)
zeros_only (suc n) (suc t) a e = zeros_only n t a e

length_zeros : (n : ℕ) → length {A = ℕ} (replicate n 0) ≡ n
length_zeros zero = refl
length_zeros (suc n) = ap suc (length_zeros n)

length_homes : (xs : List Block) → length (map some xs) ≡ length xs
length_homes [] = refl
length_homes (x ∷ xs) = ap suc (length_homes xs)

home_at : (xs : List Block) (t : ℕ) → t < length xs → (y : Block) × (get_elem? (map some xs) t ≡ some (some y)) × (get_elem? xs t ≡ some y)
home_at [] t lt = absurd (omega arith)
home_at (x ∷ xs) zero lt = (x, refl, refl)
home_at (x ∷ xs) (suc t) lt = home_at xs t (omega arith)

module _ (size : Size) (xs : List Block) (count : length xs ≡ size.tasks) (wide : (t : ℕ) (y : Block) → get_elem? xs t ≡ some y → length y.items ≡ size.width) where
  abbrev first : View
  first = caller_first size

  abbrev start : Table
  start = opening (replicate (size.tasks + 1) 0) xs first

  only : (k : ℕ) (v : View) → Live start k v → (k ≡ 0) × (first ≡ v)
  only zero v l = (refl, some-injective first v l.0)
  only (suc k) v l = absurd (some-ne-none v (sym l.0))

  fresh : (t : ℕ) (q : Status) → Says start t q → q ≡ waiting
  fresh t q says = code_apart q waiting (zeros_only (size.tasks + 1) (t + 1) (code q) says)

  no_entries : (k : ℕ) (v : View) (e : Entry) (n : ℕ) → Live start k v → get_elem? v.entries n ≡ some e → ⊥
  no_entries k v e n l at = some-ne-none e (sym (ap (λ (x : View). get_elem? x.entries n) (only k v l).1 ∙ at))

  pub begins : Rule size start
  begins = record {
    words_count = length_zeros (size.tasks + 1);
    slots_count = length_homes xs ∙ count;
    first_word = zeros (size.tasks + 1) 0 (omega arith);
    each_word = λ t lt. (waiting, zeros (size.tasks + 1) (t + 1) (omega arith));
    sized = λ k v l. ap (λ (x : View). x.size) (sym (only k v l).1);
    caller = first;
    caller_sits = (refl, refl);
    caller_number = refl;
    open_home = λ t says. let b = below_length (replicate (size.tasks + 1) 0) (t + 1) 0 says in let n = length_zeros (size.tasks + 1) in let h = home_at xs t (omega arith) in (h.0, h.1, wide t h.0 h.2);
    held_out = λ t i says. absurd (let e : held i ≡ waiting = fresh t (held i) says in cc);
    done_home = λ t i says. absurd (let e : done i ≡ waiting = fresh t (done i) says in cc);
    holder_told = λ k t v l h. absurd (let e : None ≡ Some t = ap (λ (x : View). x.held) (only k v l).1 ∙ h in cc);
    entry_told = λ k v e l h. absurd (no_entries k v e h.0 l h.1);
    entry_once = λ k l m n v w e f a b at_m at_n same. absurd (no_entries k v e m a at_m);
    numbers_apart = λ k l v w a b same. (only k v a).0 ∙ sym (only l w b).0;
    workers_made = λ k v l ne. absurd (ne (only k v l).0);
    made_most = omega arith;
    back_made = λ i b. absurd (some-ne-none i (sym b.1));
    back_once = λ m n i a b. absurd (some-ne-none i (sym a));
    back_spent = λ i k v b l e. some-ne-none i (sym b.1);
    back_free = λ i t b says. some-ne-none i (sym b.1);
    finding_true = λ k v f l is. absurd (let e : None ≡ Some f = ap (λ (x : View). x.finding) (only k v l).1 ∙ is in cc);
  }
