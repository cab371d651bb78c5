-- What a table shows when it is closed with the caller's seat.
use Rattle.std.proofs.Common.{◌≡◌, ℕ, ◌+◌, ◌-◌, ◌*◌, ◌/◌, ◌<◌, ◌≤◌, List, [], length, map, get_or, All, true, sym, ap, ◌∙◌, subst, arith}
use mathlib.Core.Option.{some, some-injective}
use Rattle.steal_table.specs.Opened.{AreOwners}
use lib.ListN.{get_elem?}
use Rattle.atomic_table.specs.Table.{Final, Seen}
use Rattle.steal_table.specs.declared.view.Size.{Size}
use Rattle.steal_table.specs.declared.view.Entry.{Entry}
use Rattle.steal_table.specs.declared.view.View.{View}
use Rattle.steal_table.specs.Rule.{Block, done, HasEntry, Rule}
use Rattle.steal_table.specs.Steps.{HasEntryOf}
use Rattle.steal_table.proofs.Tables.{says_below}
use Rattle.steal_table.proofs.Claims.{done_most}
use Rattle.steal_table.proofs.Emptying.{read_back, read_map}

-- the word and the block of each entry
pub closes : (size : Size) (id : ℕ) (v : View) (ws : List ℕ) (xs : List Block) → Final (Seen (Rule size) id v) ws xs → v.live ≡ true → (e : Entry) → HasEntry v e
    → (get_elem? ws (e.task + 1) ≡ some (2 * e.worker + 2)) × ((y : Block) × (get_elem? xs e.task ≡ some y) × (e.block ≡ y.items)) × (e.worker ≤ size.workers)
closes size id v ws xs f live e has = let s = f.0 in let r = f.1.0 in let o = r.entry_told id v e (f.1.1, live) has in (
  subst (λ (l : List ℕ). get_elem? l (e.task + 1) ≡ some (2 * e.worker + 2)) f.2 o.0,
  (o.1.0, f.4 e.task o.1.0 o.1.1, o.1.2),
  done_most size s r e.task e.worker o.0,
)

half_of : (i n : ℕ) → n ≡ 2 * i + 2 → n / 2 - 1 ≡ i
half_of i n e = omega arith

pub words_done : (size : Size) (id : ℕ) (v : View) (ws : List ℕ) (xs : List Block) → Final (Seen (Rule size) id v) ws xs → v.live ≡ true → size.workers ≤ 64
    → (t n : ℕ) → HasEntryOf v t → get_elem? ws (t + 1) ≡ some n → (2 ≤ n) × (n ≤ 130)
words_done size id v ws xs f live most t n h at = let c = closes size id v ws xs f live h.0 h.1 in let le = c.2 in
    let same : n ≡ 2 * h.0.worker + 2 = some-injective n (2 * h.0.worker + 2) (sym at ∙ ap (λ (k : ℕ). get_elem? ws (k + 1)) (sym h.2) ∙ c.0) in (omega arith, omega arith)

pub owner_is : (size : Size) (id : ℕ) (v : View) (ws : List ℕ) (xs : List Block) → Final (Seen (Rule size) id v) ws xs → v.live ≡ true → (owners : List ℕ) → AreOwners ws owners
    → (e : Entry) → HasEntry v e → (i : ℕ) → get_elem? owners e.task ≡ some i → i ≡ e.worker
owner_is size id v ws xs f live owners are e has i at = let c = closes size id v ws xs f live e has in let o = are e.task i at in
    let same : o.0 ≡ 2 * e.worker + 2 = some-injective o.0 (2 * e.worker + 2) (sym o.1 ∙ c.0) in o.2 ∙ half_of e.worker o.0 same

-- the block of an entry stands at its task
pub block_at : (xs : List Block) (bs : List (List ℕ)) (e : Entry) → bs ≡ map (λ y. y.items) xs → (y : Block) × (get_elem? xs e.task ≡ some y) × (e.block ≡ y.items) → get_or bs e.task [] ≡ e.block
block_at xs bs e is at = ap (λ (l : List (List ℕ)). get_or l e.task []) is ∙ read_map (λ (y : Block). y.items) xs e.task at.0 [] at.1 ∙ sym at.2

module _ (size : Size) (id : ℕ) (v : View) (ws : List ℕ) (xs : List Block) (f : Final (Seen (Rule size) id v) ws xs) (live : v.live ≡ true) (owners : List ℕ) (are : AreOwners ws owners) (count : length owners ≡ size.tasks) where
  -- and so does its worker
  pub owner_at : (e : Entry) → HasEntry v e → get_or owners e.task 0 ≡ e.worker
  owner_at e has = let r = f.1.0 in let s = f.0 in let o = r.entry_told id v e (f.1.1, live) has in
      let below = says_below size s r e.task (done e.worker) o.0 in
      owner_is size id v ws xs f live owners are e has (get_or owners e.task 0) (read_back owners e.task 0 (omega arith))

  pub owners_most : ((t : ℕ) → t < size.tasks → HasEntryOf v t) → All (λ i. i ≤ size.workers) owners
  owners_most all t d lt = let h = all t (omega arith) in let most = (closes size id v ws xs f live h.0 h.1).2 in
      let is = owner_is size id v ws xs f live owners are h.0 h.1 (get_or owners t d) (ap (get_elem? owners) h.2 ∙ read_back owners t d lt) in omega arith
