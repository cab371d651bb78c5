-- The posts of a stolen round, before and after the workers, and what the caller gathers.
use Rattle.std.proofs.Common.{◌≡◌, ◌≢◌, ℕ, suc, ◌+◌, ◌<◌, List, [], ◌∷◌, ◌++◌, length, length-append, length-set, get_or, set, Option, Some, None, IsSome, IsSomeAnd, refl, sym, ap, ◌∙◌, subst, ⊎_elim, arith, slice_index_or}
use mathlib.Core.Option.{some, some-ne-none}
use mathlib.Core.Logic.{dite}
use native.Mathlib.Decide.{ℕ_discrete}
use lib.ListN.{get_elem?}
use Rattle.std.specs.Option.{option_to_list}
use Rattle.steal_table.proofs.Finishes.{at_longer, at_last}
use Rattle.std.proofs.lemmas.List.{get_or-set_same, get_or-set_other}
use Rattle.steal_pool.specs.declared.post.Post.{Post}
use Rattle.steal_table.specs.declared.view.Size.{Size}
use Rattle.steal_table.specs.declared.view.Entry.{Entry}
use Rattle.steal_table.specs.declared.view.View.{View}
use Rattle.steal_pool.specs.Shares.{EachFrom}
use Rattle.steal_table.specs.Rule.{HasEntry, CameBack, taken_over}
use Rattle.steal_table.specs.Steps.{HasEntryOf, AllBack}
use Rattle.steal_table.specs.Passes.{BoardId, PassState}
use Rattle.steal_table.specs.Opened.{AllFresh, fresh}
use Rattle.steal_pool.specs.Worker.{AllWanted, Ready}
use Rattle.steal_table.proofs.Joins.{at_append}

-- a new pass is ready
pub fresh_ready : (board : BoardId) (want : List (List ℕ)) (i : ℕ) (p : PassState) → p ≡ fresh board i → Ready board want p × (p.view.number ≡ i)
fresh_ready board want i p is = (
  record {
    its_board = ap (λ (z : PassState). z.board) is;
    free = ap (λ (z : PassState). z.view.held) is;
    wanted = λ e has. absurd (some-ne-none e (sym (ap (λ (z : PassState). get_elem? z.view.entries has.0) (sym is) ∙ has.1)));
  },
  ap (λ (z : PassState). z.view.number) is,
)

-- the last of the new passes is taken off
pub fresh_pop : (board : BoardId) (want : List (List ℕ)) (n : ℕ) (ps rest : List PassState) (o : Option PassState) → AllFresh board (n + 1) ps → ps ≡ rest ++ option_to_list o → IsSome o
    → AllFresh board n rest × IsSomeAnd o (λ k. Ready board want k × (k.view.number ≡ n))
fresh_pop board want n ps rest None all is here = absurd (cc)
fresh_pop board want n ps rest (Some p) all is here =
    let len : length rest ≡ n = (let a = length-append rest (p ∷ []) in let b = ap length is in let c = all.0 in omega arith) in (
      (len, λ i x at. all.1 i x (ap (λ (l : List PassState). get_elem? l i) is ∙ at_longer rest (p ∷ []) i x at)),
      fresh_ready board want n p (all.1 n p (ap (λ (l : List PassState). get_elem? l n) is ∙ at_last rest p n len)),
    )

pub popped_len : {A : Type 0} (old rest : List A) (o : Option A) → old ≡ rest ++ option_to_list o → IsSome o → length old ≡ length rest + 1
popped_len old rest None is here = absurd (cc)
popped_len old rest (Some a) is here = ap length is ∙ length-append rest (a ∷ [])

-- a post that gets what holds of those after it
pub from_set_down : {S : Type 0} (P : ℕ → Post S → Type 0) (posts : List (Post S)) (n at : ℕ) (q : Post S) → at ≡ n → at < length posts → P n q → EachFrom (n + 1) P posts → EachFrom n P (set posts at q)
from_set_down P posts n at q same lt here from i d le lt' =
    let len : i < length posts = omega (arith, length-set posts at q) in
    dite (ℕ_discrete i at)
    (λ (is : i ≡ at). subst (λ (k : ℕ). P k (get_or (set posts at q) k d)) (sym is) (subst (P at) (sym (get_or-set_same posts at q d lt)) (subst (λ (k : ℕ). P k q) (sym same) here)))
    (λ (ne : i ≢ at). subst (P i) (sym (get_or-set_other posts at i q d ne)) (from i d (omega arith) len))

-- two ready passes make a ready one
pub joined_ready : (board : BoardId) (want : List (List ℕ)) (own pass own' : PassState) → Ready board want own → Ready board want pass → own' ≡ record own { view = taken_over own.view pass.view } → Ready board want own'
joined_ready board want own pass own' a b is = record {
  its_board = ap (λ (z : PassState). z.board) is ∙ a.its_board;
  free = ap (λ (z : PassState). z.view.held) is ∙ a.free;
  wanted = subst (λ (z : PassState). AllWanted want z.view) (sym is)
      (λ e has. ⊎_elim (λ (h : get_elem? own.view.entries has.0 ≡ some e). a.wanted e (has.0, h))
      (λ (h : (k : ℕ) × (has.0 ≡ length own.view.entries + k) × (get_elem? pass.view.entries k ≡ some e)). b.wanted e (h.0, h.2))
      (at_append own.view.entries pass.view.entries e has.0 has.1));
}

-- one number more has come back
pub joined_back : (own pass own' : PassState) (n : ℕ) → own' ≡ record own { view = taken_over own.view pass.view } → pass.view.number ≡ n → ((k : ℕ) → k < n → CameBack own.view k) → (k : ℕ) → k < n + 1 → CameBack own'.view k
joined_back own pass own' n is number back k lt = subst (λ (z : PassState). CameBack z.view k) (sym is)
    (dite (ℕ_discrete k n)
    (λ (e : k ≡ n). (length own.view.back, at_last own.view.back pass.view.number (length own.view.back) refl ∙ ap some (number ∙ sym e)))
    (λ (ne : k ≢ n). let b = back k (omega arith) in (b.0, at_longer own.view.back (pass.view.number ∷ []) b.0 k b.1)))

pub all_came_back : (board : BoardId) (v : View) (n : ℕ) → v.number ≡ board.size.workers → v.size ≡ board.size → n ≡ board.size.workers → ((k : ℕ) → k < n → CameBack v k) → AllBack v
all_came_back board v n number size all back = let w = ap (λ (z : Size). z.workers) size in (omega arith, λ i lt. back i (omega arith))

-- two lists with the same elements
same_each : {A : Type 0} (l m : List A) (d : A) → length l ≡ length m → ((k : ℕ) → k < length l → get_or l k d ≡ get_or m k d) → l ≡ m
same_each [] [] d len each = refl
same_each [] (y ∷ ys) d len each = absurd (omega arith)
same_each (x ∷ xs) [] d len each = absurd (omega arith)
same_each (x ∷ xs) (y ∷ ys) d len each =
    let first : x ≡ y = each 0 (omega arith) in let others : xs ≡ ys = same_each xs ys d (omega arith) (λ k lt. each (suc k) (omega arith)) in
    λ i. first i ∷ others i

-- the blocks of the entries are the wanted ones
pub all_wanted : (want blocks : List (List ℕ)) (v : View) → length blocks ≡ length want → ((e : Entry) → HasEntry v e → slice_index_or blocks e.task [] ≡ e.block) → AllWanted want v
    → ((t : ℕ) → t < length want → HasEntryOf v t) → blocks ≡ want
all_wanted want blocks v len are wanted all =
    same_each blocks want [] len (λ k lt. let h = all k (omega arith) in
    ap (λ (j : ℕ). get_or blocks j []) (sym h.2) ∙ are h.0 h.1 ∙ wanted h.0 h.1 ∙ ap (λ (j : ℕ). get_or want j []) h.2)
