-- The caller takes over what a worker knows, and the rule stays.
use Rattle.std.proofs.Common.{◌≡◌, ◌≢◌, ◌⊎◌, ℕ, zero, suc, ◌+◌, ◌<◌, List, [], ◌∷◌, ◌++◌, length, set, Some, None, true, true≢false, refl, sym, ap, ◌∙◌, subst, inl, inr, ⊎_elim, arith}
use mathlib.Core.Option.{some}
use mathlib.Core.Logic.{dite}
use native.Mathlib.Decide.{ℕ_discrete}
use lib.ListN.{get_elem?}
use Rattle.atomic_table.specs.Table.{Joins}
use Rattle.atomic_table.proofs.Lists.{at_set, set_here, set_else, at_longer, at_last}
use Rattle.steal_table.specs.declared.view.Size.{Size}
use Rattle.steal_table.specs.declared.view.Entry.{Entry}
use Rattle.steal_table.specs.declared.view.View.{View}
use Rattle.steal_table.specs.Rule.{Table, held, Says, Live, HasEntry, CameBack, entry, Rule, taken_over, spent}
use Rattle.steal_table.specs.Steps.{OnePerTask}
use Rattle.steal_table.proofs.Tables.{below_length}
use Rattle.steal_table.proofs.Claims.{is_caller, at_caller, one_view}
use Rattle.steal_table.proofs.Finishes.{at_push}

-- what stands in two lists, one after the other
pub at_append : {A : Type 0} (l m : List A) (a : A) (n : ℕ) → get_elem? (l ++ m) n ≡ some a → (get_elem? l n ≡ some a) ⊎ ((k : ℕ) × (n ≡ length l + k) × (get_elem? m k ≡ some a))
at_append [] m a n e = inr (n, (omega arith), e)
at_append (x ∷ xs) m a zero e = inl e
at_append (x ∷ xs) m a (suc n) e = ⊎_elim (λ (h : get_elem? xs n ≡ some a). inl h) (λ (h : (k : ℕ) × (n ≡ length xs + k) × (get_elem? m k ≡ some a)). inr (h.0, (let z = h.1 in omega arith), h.2)) (at_append xs m a n e)

pub at_second : {A : Type 0} (l m : List A) (a : A) (k : ℕ) → get_elem? m k ≡ some a → get_elem? (l ++ m) (length l + k) ≡ some a
at_second [] m a k e = let z : 0 + k ≡ k = omega arith in ap (get_elem? m) z ∙ e
at_second (x ∷ xs) m a k e = let z : suc (length xs) + k ≡ suc (length xs + k) = omega arith in ap (get_elem? (x ∷ xs ++ m)) z ∙ at_second xs m a k e

module _ (size : Size) (s : Table) (r : Rule size s) (other : ℕ) (w : View) (there : Live s other w) (free : w.held ≡ None) (apart : other ≢ 0) where
  abbrev v : View
  v = r.caller

  abbrev both : View
  both = taken_over v w

  abbrev joined : Table
  joined = record { words = s.words; homes = s.homes; views = set (set s.views 0 both) other spent }

  abbrev Was : ℕ → View → Type 0
  Was k x = ((k ≡ 0) × (both ≡ x)) ⊎ ((k ≢ 0) × (k ≢ other) × Live s k x)

  was : (k : ℕ) (x : View) → Live joined k x → Was k x
  was k x l =
      ⊎_elim (λ (a : (k ≡ other) × (spent ≡ x)). absurd (true≢false (sym (ap (λ (y : View). y.live) a.1 ∙ l.1))))
      (λ (a : (k ≢ other) × (get_elem? (set s.views 0 both) k ≡ some x)).
      ⊎_elim (λ (b : (k ≡ 0) × (both ≡ x)). inl b) (λ (b : (k ≢ 0) × (get_elem? s.views k ≡ some x)). inr (b.0, a.0, (b.1, l.1))) (at_set s.views 0 k both x a.1))
      (at_set (set s.views 0 both) other k spent x l.0)

  both_sits : Live joined 0 both
  both_sits = (set_else (set s.views 0 both) other 0 spent (λ e. apart (sym e)) ∙ set_here s.views 0 both (below_length s.views 0 v r.caller_sits.0), r.caller_sits.1)

  stays : (k : ℕ) (u : View) → k ≢ 0 → k ≢ other → Live s k u → Live joined k u
  stays k u a b l = (set_else (set s.views 0 both) other k spent b ∙ set_else s.views 0 k both a ∙ l.0, l.1)

  first_entry : (e : Entry) → HasEntry v e → HasEntry both e
  first_entry e h = (h.0, at_longer v.entries w.entries h.0 e h.1)

  second_entry : (e : Entry) → HasEntry w e → HasEntry both e
  second_entry e h = (length v.entries + h.0, at_second v.entries w.entries e h.0 h.1)

  back_more : (i : ℕ) → CameBack v i → CameBack both i
  back_more i b = (b.0, at_longer v.back (w.number ∷ []) b.0 i b.1)

  back_new : CameBack both w.number
  back_new = (length v.back, at_last v.back w.number (length v.back) refl)

  at_other : (k : ℕ) (u : View) → Live s k u → k ≡ other → u ≡ w
  at_other k u l e = one_view size s r other u w (subst (λ (j : ℕ). Live s j u) e l) there

  -- the seat of a view with the same number from before
  numbered : (k : ℕ) (x : View) → Live joined k x → (u : View) × Live s k u × (u.number ≡ x.number) × (k ≢ other)
  numbered k x l =
      ⊎_elim (λ (a : (k ≡ 0) × (both ≡ x)). (v, subst (λ (j : ℕ). Live s j v) (sym a.0) r.caller_sits, ap (λ (y : View). y.number) a.1, λ e. apart (sym e ∙ a.0)))
      (λ (a : (k ≢ 0) × (k ≢ other) × Live s k x). (x, a.2, refl, a.1)) (was k x l)

  -- where an entry from afterwards stood before
  abbrev Stood : ℕ → ℕ → Entry → Type 0
  Stood k n e = (j : ℕ) × (u : View) × (m : ℕ) × Live s j u × (get_elem? u.entries m ≡ some e) × (((j ≡ other) × (k ≡ 0) × (n ≡ length v.entries + m)) ⊎ ((j ≢ other) × (k ≡ j) × (n ≡ m)))

  stood : (k n : ℕ) (x : View) (e : Entry) → Live joined k x → get_elem? x.entries n ≡ some e → Stood k n e
  stood k n x e l at =
      ⊎_elim
      (λ (a : (k ≡ 0) × (both ≡ x)).
      ⊎_elim (λ (b : get_elem? v.entries n ≡ some e). (0, v, n, r.caller_sits, b, inr ((λ z. apart (sym z)), a.0, refl)))
      (λ (b : (m : ℕ) × (n ≡ length v.entries + m) × (get_elem? w.entries m ≡ some e)). (other, w, b.0, there, b.2, inl (refl, a.0, b.1)))
      (at_append v.entries w.entries e n (ap (λ (y : View). get_elem? y.entries n) a.1 ∙ at)))
      (λ (a : (k ≢ 0) × (k ≢ other) × Live s k x). (k, x, n, a.2, at, inr (a.1, refl, refl))) (was k x l)

  once : (k l i j : ℕ) (e f : Entry) → Stood k i e → Stood l j f → e.task ≡ f.task → (k ≡ l) × (i ≡ j)
  once k l i j e f a b same = let o = r.entry_once a.0 b.0 a.2 b.2 a.1 b.1 e f a.3 b.3 a.4 b.4 same in let seat = o.0 in let place = o.1 in
      ⊎_elim
      (λ (c : (a.0 ≡ other) × (k ≡ 0) × (i ≡ length v.entries + a.2)).
      ⊎_elim
      (λ (d : (b.0 ≡ other) × (l ≡ 0) × (j ≡ length v.entries + b.2)). let p : k ≡ l = c.1 ∙ sym d.1 in let x = c.2 in let y = d.2 in (p, omega arith))
      (λ (d : (b.0 ≢ other) × (l ≡ b.0) × (j ≡ b.2)). absurd (d.0 (sym seat ∙ c.0))) b.5)
      (λ (c : (a.0 ≢ other) × (k ≡ a.0) × (i ≡ a.2)).
      ⊎_elim
      (λ (d : (b.0 ≡ other) × (l ≡ 0) × (j ≡ length v.entries + b.2)). absurd (c.0 (seat ∙ d.0)))
      (λ (d : (b.0 ≢ other) × (l ≡ b.0) × (j ≡ b.2)). (c.1 ∙ seat ∙ sym d.1, c.2 ∙ place ∙ sym d.2)) b.5) a.5

  came_back : (i : ℕ) → CameBack both i → CameBack v i ⊎ (w.number ≡ i)
  came_back i b = ⊎_elim (λ (h : get_elem? v.back b.0 ≡ some i). inl (b.0, h)) (λ (h : (b.0 ≡ length v.back) × (w.number ≡ i)). inr h.1) (at_push v.back w.number i b.0 b.1)

  not_w : (i : ℕ) → CameBack v i → w.number ≢ i
  not_w i b e = r.back_spent i other w b there e

  pub joins_caller : Rule size joined
  joins_caller = record {
    words_count = r.words_count;
    slots_count = r.slots_count;
    first_word = r.first_word;
    each_word = r.each_word;
    sized = λ k x l. ⊎_elim (λ (a : (k ≡ 0) × (both ≡ x)). ap (λ (y : View). y.size) (sym a.1) ∙ r.sized 0 v r.caller_sits) (λ (a : (k ≢ 0) × (k ≢ other) × Live s k x). r.sized k x a.2) (was k x l);
    caller = both;
    caller_sits = both_sits;
    caller_number = r.caller_number;
    open_home = r.open_home;
    held_out = λ t i h. let o = r.held_out t i h in let k = o.1.0 in let u = o.1.1 in (
      o.0,
      dite (ℕ_discrete k 0)
          (λ (e : k ≡ 0). let same = at_caller size s r k u o.1.2 e in (0, both, both_sits, ap (λ (y : View). y.number) (sym same) ∙ o.1.3, ap (λ (y : View). y.held) (sym same) ∙ o.1.4))
          (λ (ne : k ≢ 0). (k, u, stays k u ne (λ e. absurd (let x : None ≡ Some t = sym free ∙ ap (λ (y : View). y.held) (sym (at_other k u o.1.2 e)) ∙ o.1.4 in cc)) o.1.2, o.1.3, o.1.4)),
    );
    done_home = λ t i h. let o = r.done_home t i h in let k = o.2.0 in let u = o.2.1 in let e : Entry = entry t i o.0.items in (
      o.0,
      o.1,
      dite (ℕ_discrete k 0)
          (λ (z : k ≡ 0). let same = at_caller size s r k u o.2.2 z in (
            0,
            both,
            both_sits,
            first_entry e (subst (λ (y : View). HasEntry y e) same o.2.3),
            ⊎_elim (λ (n : u.number ≡ i). inl (ap (λ (y : View). y.number) (sym same) ∙ n)) (λ (b : (k ≡ 0) × CameBack u i). inr (refl, back_more i (subst (λ (y : View). CameBack y i) same b.1))) o.2.4,
          ))
          (λ (nz : k ≢ 0).
          dite (ℕ_discrete k other)
          (λ (z : k ≡ other). let same = at_other k u o.2.2 z in (
            0,
            both,
            both_sits,
            second_entry e (subst (λ (y : View). HasEntry y e) same o.2.3),
            ⊎_elim (λ (n : u.number ≡ i). inr (refl, subst (CameBack both) (ap (λ (y : View). y.number) (sym same) ∙ n) back_new)) (λ (b : (k ≡ 0) × CameBack u i). absurd (nz b.0)) o.2.4,
          ))
          (λ (no : k ≢ other). (k, u, stays k u nz no o.2.2, o.2.3, ⊎_elim (λ (n : u.number ≡ i). inl n) (λ (b : (k ≡ 0) × CameBack u i). absurd (nz b.0)) o.2.4))),
    );
    holder_told = λ k t x l h.
        ⊎_elim (λ (a : (k ≡ 0) × (both ≡ x)). subst (λ (y : View). Says s t (held y.number)) a.1 (r.holder_told 0 t v r.caller_sits (ap (λ (y : View). y.held) a.1 ∙ h)))
        (λ (a : (k ≢ 0) × (k ≢ other) × Live s k x). r.holder_told k t x a.2 h) (was k x l);
    entry_told = λ k x e l h. let o = stood k h.0 x e l h.1 in r.entry_told o.0 o.1 e o.3 (o.2, o.4);
    entry_once = λ k l i j x y e f a b at_i at_j same. once k l i j e f (stood k i x e a at_i) (stood l j y f b at_j) same;
    numbers_apart = λ k l x y a b same. let c = numbered k x a in let d = numbered l y b in r.numbers_apart k l c.0 d.0 c.1 d.1 (c.2 ∙ same ∙ sym d.2);
    workers_made = λ k x l ne. ⊎_elim (λ (a : (k ≡ 0) × (both ≡ x)). absurd (ne a.0)) (λ (a : (k ≢ 0) × (k ≢ other) × Live s k x). r.workers_made k x a.2 ne) (was k x l);
    made_most = r.made_most;
    back_made = λ i b. ⊎_elim (λ (h : CameBack v i). r.back_made i h) (λ (e : w.number ≡ i). subst (λ (j : ℕ). j < v.made) e (r.workers_made other w there apart)) (came_back i b);
    back_once = λ m n i a b.
        ⊎_elim
        (λ (h : get_elem? v.back m ≡ some i).
        ⊎_elim (λ (g : get_elem? v.back n ≡ some i). r.back_once m n i h g) (λ (g : (n ≡ length v.back) × (w.number ≡ i)). absurd (not_w i (m, h) g.1)) (at_push v.back w.number i n b))
        (λ (h : (m ≡ length v.back) × (w.number ≡ i)).
        ⊎_elim (λ (g : get_elem? v.back n ≡ some i). absurd (not_w i (n, g) h.1)) (λ (g : (n ≡ length v.back) × (w.number ≡ i)). h.0 ∙ sym g.0) (at_push v.back w.number i n b))
        (at_push v.back w.number i m a);
    back_spent = λ i k x b l e. let c = numbered k x l in
        ⊎_elim (λ (h : CameBack v i). r.back_spent i k c.0 h c.1 (c.2 ∙ e)) (λ (h : w.number ≡ i). c.3 (r.numbers_apart k other c.0 w c.1 there (c.2 ∙ e ∙ sym h))) (came_back i b);
    back_free = λ i t b h.
        ⊎_elim (λ (g : CameBack v i). r.back_free i t g h)
        (λ (g : w.number ≡ i). let o = (r.held_out t i h).1 in let k = r.numbers_apart o.0 other o.1 w o.2 there (o.3 ∙ sym g) in
        absurd (let x : None ≡ Some t = sym free ∙ ap (λ (y : View). y.held) (sym (at_other o.0 o.1 o.2 k)) ∙ o.4 in cc)) (came_back i b);
    finding_true = λ k x f l is.
        ⊎_elim (λ (a : (k ≡ 0) × (both ≡ x)). r.finding_true 0 v f r.caller_sits (ap (λ (y : View). y.finding) a.1 ∙ is)) (λ (a : (k ≢ 0) × (k ≢ other) × Live s k x). r.finding_true k x f a.2 is) (was k x l);
  }

pub joins : (size : Size) (id other : ℕ) (v w : View) → v.live ≡ true → v.number ≡ size.workers → w.live ≡ true → w.held ≡ None → Joins (Rule size) id v other w (taken_over v w) spent
joins size id other v w live number w_live free s r at apart there = let c = is_caller size s r id v (at, live) number in
    let was : get_elem? s.views other ≡ some w = ⊎_elim (λ (a : (other ≡ id) × (taken_over v w ≡ w)). absurd (apart a.0)) (λ (a : (other ≢ id) × (get_elem? s.views other ≡ some w)). a.1) (at_set s.views id other (taken_over v w) w there) in
    subst (λ (p : ℕ × View). Rule size record { words = s.words; homes = s.homes; views = set (set s.views p.0 (taken_over p.1 w)) other spent }) (λ i. (sym c.0 i, sym c.1 i))
    (joins_caller size s r other w (was, w_live) free (λ e. apart (e ∙ sym c.0)))

-- two lists of entries that make one with no task twice have no task in common
pub apart_in_one : (v w : View) → OnePerTask (taken_over v w) → (e f : Entry) → HasEntry v e → HasEntry w f → e.task ≢ f.task
apart_in_one v w one e f a b same =
    let i = one a.0 (length v.entries + b.0) e f (at_longer v.entries w.entries a.0 e a.1) (at_second v.entries w.entries f b.0 b.1) same in
    let below = below_length v.entries a.0 e a.1 in absurd (omega arith)
