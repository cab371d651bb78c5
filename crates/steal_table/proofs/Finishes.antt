-- A finish keeps the rule.
use Rattle.std.proofs.Common.{◌≡◌, ◌≢◌, ◌⊎◌, ℕ, zero, suc, ◌+◌, ◌-◌, ◌<◌, List, [], ◌∷◌, ◌++◌, length, set, Some, true, refl, sym, ap, ◌∙◌, subst, inl, inr, ⊎_elim, arith, length-set}
use mathlib.Core.Option.{some, none, some-ne-none, some-injective}
use mathlib.Core.Option as maybe
use mathlib.Core.Logic.{dite}
use native.Mathlib.Decide.{ℕ_discrete}
use lib.ListN.{get_elem?}
use Rattle.atomic_table.specs.Table.{gives, Allows, step}
use Rattle.atomic_table.proofs.Lists.{set_here, set_else}
pub use Rattle.atomic_table.proofs.Lists.{at_longer, at_last}
use Rattle.steal_table.specs.declared.view.Size.{Size}
use Rattle.steal_table.specs.declared.view.Entry.{Entry}
use Rattle.steal_table.specs.declared.view.Found.{Found}
use Rattle.steal_table.specs.declared.view.Found.TheVariants.{HeldBy, DoneBy}
use Rattle.steal_table.specs.declared.view.View.{View}
use Rattle.steal_table.specs.Rule.{Block, Table, held, done, code, Says, AtHome, Live, HasEntry, entry, StillFound, Rule}
use Rattle.steal_table.specs.Steps.{Seated, with_entry, finished}
use Rattle.steal_table.proofs.Tables.{says_once, says_below, Grows, after, says_here, live_here, found_else, Move}
use Rattle.steal_table.proofs.Tables as tables
use Rattle.steal_table.proofs.Claims.{entry_worker}

-- what stands in a list with one element more
pub at_push : {A : Type 0} (l : List A) (a b : A) (n : ℕ) → get_elem? (l ++ a ∷ []) n ≡ some b → (get_elem? l n ≡ some b) ⊎ ((n ≡ length l) × (a ≡ b))
at_push [] a b zero e = inr (refl, some-injective a b e)
at_push [] a b (suc n) e = absurd (some-ne-none b (sym e))
at_push (x ∷ xs) a b zero e = inl e
at_push (x ∷ xs) a b (suc n) e = ⊎_elim (λ (h : get_elem? xs n ≡ some b). inl h) (λ (h : (n ≡ length xs) × (a ≡ b)). inr (ap suc h.0, h.1)) (at_push xs a b n e)

module _ (size : Size) (s : Table) (r : Rule size s) (t id : ℕ) (v : View) (l : Live s id v) (holds : v.held ≡ Some t) (y : Block) where
  says : Says s t (held v.number)
  says = r.holder_told id t v l holds

  abbrev new : Entry
  new = entry t v.number y.items

  abbrev w : View
  w = with_entry v new

  abbrev homes : List (maybe.Option Block)
  homes = set s.homes t (some y)

  abbrev finished_table : Table
  finished_table = after s t (code (done v.number)) id homes w

  not_done : (k : ℕ) (x : View) (e : Entry) → Live s k x → HasEntry x e → e.task ≢ t
  not_done k x e m has is = let z : held v.number ≡ done e.worker = says_once s t (held v.number) (done e.worker) says (entry_worker size s r k x m t e has is) in absurd (cc)

  pub finish_move : Move size s r t (done v.number) id homes v w
  finish_move = let below = says_below size s r t (held v.number) says in let slot : t < length s.homes = (let n = r.slots_count in omega arith) in let word : t + 1 < length s.words = (let n = r.words_count in omega arith) in
      let g : Grows v w = record { same_size = refl; same_live = refl; same_number = refl; same_made = refl; same_back = refl; more = λ e h. (h.0, at_longer v.entries (new ∷ []) h.0 e h.1) } in
      let now : Says finished_table t (done v.number) = says_here s t (code (done v.number)) id homes w (done v.number) refl word in
      let home : AtHome finished_table t y = set_here s.homes t (some y) slot in
      let still : (f : Found) → StillFound s t f → StillFound finished_table t f = λ f. elim f as (λ (z : Found). StillFound s t z → StillFound finished_table t z) [
        | HeldBy i ↦ λ h. ⊎_elim
            (λ (x : Says s t (held i)). let e : held i ≡ held v.number = says_once s t (held i) (held v.number) x says in let same : v.number ≡ i = cc in inr (subst (λ (j : ℕ). Says finished_table t (done j)) same now))
            (λ (x : Says s t (done i)). absurd (let e : done i ≡ held v.number = says_once s t (done i) (held v.number) x says in cc)) h
        | DoneBy i ↦ λ h. absurd (let e : done i ≡ held v.number = says_once s t (done i) (held v.number) h says in cc)
      ] in record {
        seat = l;
        below = below;
        grows = g;
        same_count = length-set s.homes t (some y);
        other_homes = λ u ne. set_else s.homes t u (some y) ne;
        open_here = λ e. absurd (cc);
        held_here = λ i e. absurd (cc);
        done_here = λ i e. let same : v.number ≡ i = cc in
            (y, home, (id, w, live_here s t (code (done v.number)) id homes w v l refl, (length v.entries, at_last v.entries new (length v.entries) refl ∙ ap (λ (j : ℕ). some (entry t j y.items)) same), inl same));
        still_holds = λ u ne h. absurd (ne (let e : Some t ≡ Some u = sym holds ∙ h in let z : u ≡ t = cc in z));
        now_holds = λ u h. absurd (cc);
        others_hold = λ k x ne m h. absurd (ne (r.numbers_apart k id x v m l (let e : held x.number ≡ held v.number = says_once s t (held x.number) (held v.number) (r.holder_told k t x m h) says in let z : x.number ≡ v.number = cc in z)));
        entry_here = λ k x e m has is. absurd (not_done k x e m has is);
        new_entry = λ n e at. ⊎_elim (λ (h : get_elem? v.entries n ≡ some e). inl h)
            (λ (h : (n ≡ length v.entries) × (new ≡ e)). inr (
              ap (λ (z : Entry). z.task) (sym h.1),
              (subst (λ (z : Entry). Says finished_table t (done z.worker)) h.1 now, (y, home, ap (λ (z : Entry). z.block) (sym h.1))),
              h.0,
              not_done,
            )) (at_push v.entries new e n at);
        not_back = λ i e b. absurd (cc);
        still_found = still;
        now_found = λ f is. let old = r.finding_true id v f l is in
            dite (ℕ_discrete f.task t)
            (λ (e : f.task ≡ t). subst (λ (j : ℕ). StillFound finished_table j f.found) (sym e) (still f.found (subst (λ (j : ℕ). StillFound s j f.found) e old)))
            (λ (ne : f.task ≢ t). found_else s t (code (done v.number)) id homes w f.task f.found ne old);
      }

-- a finish of the task t by the seat that holds it, with its block in the slot
pub finishes : (size : Size) (slots id t new : ℕ) (m : Seated) (y : Block) → m.1 ≡ (t, y) ∷ [] → m.0.live ≡ true → m.0.held ≡ Some t → new ≡ code (done m.0.number)
    → Allows (Rule size) slots id m (t + 1) (λ _. new) (finished (step slots (t + 1) new 0 none) m)
finishes size slots id t new m y has live holds is =
    let v : View = m.0 in let task : t + 1 - 1 ≡ t = omega arith in let P : List (ℕ × Block) → Type 0 = λ c. Allows (Rule size) slots id (v, c) (t + 1) (λ _. new) (finished (step slots (t + 1) new 0 none) (v, c)) in
    subst P (sym has) (λ s r count at fits. (
      with_entry v (entry t v.number y.items),
      gives,
      tt,
      subst (λ (k : ℕ). Rule size (after s t k id (set s.homes t (some y)) (with_entry v (entry t v.number y.items)))) (sym is) (tables.keeps size s r t (done v.number) id (set s.homes t (some y)) v (with_entry v (entry t v.number y.items)) (finish_move size s r t id v (at, live) holds y)),
      λ z e. let same : y ≡ z = ap (λ (c : List (ℕ × Block)). second y c) e in
          let back : t ≡ t + 1 - 1 = sym task in λ i. (with_entry v (entry (back i) v.number (same i).items), []),
    ))
  where
    second : Block → List (ℕ × Block) → Block
    second d [] = d
    second d (x ∷ xs) = x.1

-- what a finish tells
pub tells_finish : (t : ℕ) (m m' : Seated) (y : Block) → ((z : Block) → m.1 ≡ (t + 1 - 1, z) ∷ [] → m' ≡ (with_entry m.0 (entry (t + 1 - 1) m.0.number z.items), [])) → m.1 ≡ (t, y) ∷ []
    → m' ≡ (with_entry m.0 (entry t m.0.number y.items), [])
tells_finish t m m' y h has = let at : t + 1 - 1 ≡ t = omega arith in
    h y (has ∙ (λ i. (sym at i, y) ∷ [])) ∙ (λ i. (with_entry m.0 (entry (at i) m.0.number y.items), []))
