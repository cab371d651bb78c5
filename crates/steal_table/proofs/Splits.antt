-- A seat for one worker more keeps the rule.
use Rattle.std.proofs.Common.{◌≡◌, ◌≢◌, ◌⊎◌, ℕ, ◌+◌, ◌<◌, List, [], ◌∷◌, ◌++◌, length, set, Some, None, true, refl, sym, ap, ◌∙◌, subst, inl, inr, ⊎_elim, arith}
use mathlib.Core.Option.{some, some-ne-none}
use mathlib.Core.Logic.{dite}
use native.Mathlib.Decide.{ℕ_discrete}
use lib.ListN.{get_elem?}
use Rattle.atomic_table.specs.Table.{Splits}
use Rattle.atomic_table.proofs.Lists.{at_set, set_here, set_else, at_longer}
use Rattle.steal_table.specs.declared.view.Size.{Size}
use Rattle.steal_table.specs.declared.view.Entry.{Entry}
use Rattle.steal_table.specs.declared.view.View.{View}
use Rattle.steal_table.specs.Rule.{Table, held, Says, Live, HasEntry, CameBack, entry, Rule, one_more, next_worker}
use Rattle.steal_table.proofs.Tables.{below_length, back_same}
use Rattle.steal_table.proofs.Claims.{is_caller, at_caller}
use Rattle.steal_table.proofs.Finishes.{at_push}

-- all but the number of seats made
record Same (u x : View) : Type 0 where
  same_size : x.size ≡ u.size
  same_number : x.number ≡ u.number
  same_held : x.held ≡ u.held
  same_entries : x.entries ≡ u.entries
  same_finding : x.finding ≡ u.finding
  same_back : x.back ≡ u.back

same_refl : (u : View) → Same u u
same_refl u = record { same_size = refl; same_number = refl; same_held = refl; same_entries = refl; same_finding = refl; same_back = refl }

module _ (size : Size) (s : Table) (r : Rule size s) (room : r.caller.made < size.workers) where
  abbrev v : View
  v = r.caller

  abbrev left : View
  left = one_more v

  abbrev right : View
  right = next_worker v

  abbrev front : List View
  front = set s.views 0 left

  abbrev split : Table
  split = record { words = s.words; homes = s.homes; views = front ++ right ∷ [] }

  kept : Same v left
  kept = record { same_size = refl; same_number = refl; same_held = refl; same_entries = refl; same_finding = refl; same_back = refl }

  left_sits : Live split 0 left
  left_sits = (at_longer front (right ∷ []) 0 left (set_here s.views 0 left (below_length s.views 0 v r.caller_sits.0)), r.caller_sits.1)

  abbrev Was : ℕ → View → Type 0
  Was k x = ((u : View) × Live s k u × Same u x) ⊎ ((k ≡ length front) × (right ≡ x))

  was : (k : ℕ) (x : View) → Live split k x → Was k x
  was k x l =
      ⊎_elim
      (λ (a : get_elem? front k ≡ some x).
      ⊎_elim (λ (b : (k ≡ 0) × (left ≡ x)). inl (v, subst (λ (j : ℕ). Live s j v) (sym b.0) r.caller_sits, subst (Same v) b.1 kept))
      (λ (b : (k ≢ 0) × (get_elem? s.views k ≡ some x)). inl (x, (b.1, l.1), same_refl x)) (at_set s.views 0 k left x a))
      (λ (a : (k ≡ length front) × (right ≡ x)). inr a) (at_push front right x k l.0)

  still : (k : ℕ) (u : View) → Live s k u → (x : View) × Live split k x × Same u x
  still k u l =
      dite (ℕ_discrete k 0)
      (λ (e : k ≡ 0). (left, subst (λ (j : ℕ). Live split j left) (sym e) left_sits, subst (λ (y : View). Same y left) (sym (at_caller size s r k u l e)) kept))
      (λ (ne : k ≢ 0). (u, (at_longer front (right ∷ []) k u (set_else s.views 0 k left ne ∙ l.0), l.1), same_refl u))

  has_same : (u x : View) (e : Entry) → u.entries ≡ x.entries → HasEntry x e → HasEntry u e
  has_same u x e same h = (h.0, ap (λ (l : List Entry). get_elem? l h.0) same ∙ h.1)

  -- an old number is not the new one
  old_number : (k : ℕ) (u : View) → Live s k u → u.number ≢ v.made
  old_number k u l e =
      dite (ℕ_discrete k 0)
      (λ (z : k ≡ 0). let same = ap (λ (y : View). y.number) (at_caller size s r k u l z) in let n = r.caller_number in absurd (omega arith))
      (λ (ne : k ≢ 0). let lt = r.workers_made k u l ne in absurd (omega arith))

  pub splits_caller : Rule size split
  splits_caller = record {
    words_count = r.words_count;
    slots_count = r.slots_count;
    first_word = r.first_word;
    each_word = r.each_word;
    sized = λ k x l. ⊎_elim (λ (a : (u : View) × Live s k u × Same u x). a.2.same_size ∙ r.sized k a.0 a.1) (λ (a : (k ≡ length front) × (right ≡ x)). ap (λ (y : View). y.size) (sym a.1) ∙ r.sized 0 v r.caller_sits) (was k x l);
    caller = left;
    caller_sits = left_sits;
    caller_number = r.caller_number;
    open_home = r.open_home;
    held_out = λ t i h. let o = r.held_out t i h in let x = still o.1.0 o.1.1 o.1.2 in (o.0, (o.1.0, x.0, x.1, x.2.same_number ∙ o.1.3, x.2.same_held ∙ o.1.4));
    done_home = λ t i h. let o = r.done_home t i h in let x = still o.2.0 o.2.1 o.2.2 in (
      o.0,
      o.1,
      (
        o.2.0,
        x.0,
        x.1,
        has_same x.0 o.2.1 (entry t i o.0.items) x.2.same_entries o.2.3,
        ⊎_elim (λ (n : o.2.1.number ≡ i). inl (x.2.same_number ∙ n)) (λ (b : (o.2.0 ≡ 0) × CameBack o.2.1 i). inr (b.0, back_same o.2.1 x.0 i x.2.same_back b.1)) o.2.4,
      ),
    );
    holder_told = λ k t x l h.
        ⊎_elim
        (λ (a : (u : View) × Live s k u × Same u x). subst (λ (i : ℕ). Says s t (held i)) (sym a.2.same_number) (r.holder_told k t a.0 a.1 (sym a.2.same_held ∙ h)))
        (λ (a : (k ≡ length front) × (right ≡ x)). absurd (let e : None ≡ Some t = ap (λ (y : View). y.held) a.1 ∙ h in cc)) (was k x l);
    entry_told = λ k x e l h.
        ⊎_elim
        (λ (a : (u : View) × Live s k u × Same u x). r.entry_told k a.0 e a.1 (has_same a.0 x e (sym a.2.same_entries) h))
        (λ (a : (k ≡ length front) × (right ≡ x)). absurd (some-ne-none e (sym (ap (λ (y : View). get_elem? y.entries h.0) a.1 ∙ h.1)))) (was k x l);
    entry_once = λ k l i j x y e f a b at_i at_j same.
        ⊎_elim
        (λ (c : (u : View) × Live s k u × Same u x).
        ⊎_elim
        (λ (d : (u : View) × Live s l u × Same u y). let p = ap (λ (z : List Entry). get_elem? z i) c.2.same_entries in let q = ap (λ (z : List Entry). get_elem? z j) d.2.same_entries in
        r.entry_once k l i j c.0 d.0 e f c.1 d.1 (sym p ∙ at_i) (sym q ∙ at_j) same)
        (λ (d : (l ≡ length front) × (right ≡ y)). absurd (some-ne-none f (sym (ap (λ (z : View). get_elem? z.entries j) d.1 ∙ at_j)))) (was l y b))
        (λ (c : (k ≡ length front) × (right ≡ x)). absurd (some-ne-none e (sym (ap (λ (z : View). get_elem? z.entries i) c.1 ∙ at_i)))) (was k x a);
    numbers_apart = λ k l x y a b same.
        ⊎_elim
        (λ (c : (u : View) × Live s k u × Same u x).
        ⊎_elim
        (λ (d : (u : View) × Live s l u × Same u y). r.numbers_apart k l c.0 d.0 c.1 d.1 (sym c.2.same_number ∙ same ∙ d.2.same_number))
        (λ (d : (l ≡ length front) × (right ≡ y)). absurd (old_number k c.0 c.1 (sym c.2.same_number ∙ same ∙ ap (λ (z : View). z.number) (sym d.1)))) (was l y b))
        (λ (c : (k ≡ length front) × (right ≡ x)).
        ⊎_elim
        (λ (d : (u : View) × Live s l u × Same u y). absurd (old_number l d.0 d.1 (sym d.2.same_number ∙ sym same ∙ ap (λ (z : View). z.number) (sym c.1))))
        (λ (d : (l ≡ length front) × (right ≡ y)). c.0 ∙ sym d.0) (was l y b)) (was k x a);
    workers_made = λ k x l ne.
        ⊎_elim (λ (a : (u : View) × Live s k u × Same u x). let lt = r.workers_made k a.0 a.1 ne in let n = a.2.same_number in let p : x.number < v.made + 1 = omega arith in p)
        (λ (a : (k ≡ length front) × (right ≡ x)). let n = ap (λ (z : View). z.number) a.1 in let p : x.number < v.made + 1 = omega arith in p) (was k x l);
    made_most = omega arith;
    back_made = λ i b. let lt = r.back_made i b in omega arith;
    back_once = r.back_once;
    back_spent = λ i k x b l e.
        ⊎_elim (λ (a : (u : View) × Live s k u × Same u x). r.back_spent i k a.0 b a.1 (sym a.2.same_number ∙ e))
        (λ (a : (k ≡ length front) × (right ≡ x)). let n = ap (λ (z : View). z.number) a.1 in let lt = r.back_made i b in absurd (omega arith)) (was k x l);
    back_free = r.back_free;
    finding_true = λ k x f l is.
        ⊎_elim (λ (a : (u : View) × Live s k u × Same u x). r.finding_true k a.0 f a.1 (sym a.2.same_finding ∙ is))
        (λ (a : (k ≡ length front) × (right ≡ x)). absurd (let e : None ≡ Some f = ap (λ (y : View). y.finding) a.1 ∙ is in cc)) (was k x l);
  }

pub splits : (size : Size) (id : ℕ) (v : View) → v.live ≡ true → v.number ≡ size.workers → v.made < size.workers → Splits (Rule size) id v (one_more v) (next_worker v)
splits size id v live number room s r at = let c = is_caller size s r id v (at, live) number in let made = ap (λ (z : View). z.made) c.1 in
    subst (λ (p : ℕ × View). Rule size record { words = s.words; homes = s.homes; views = set s.views p.0 (one_more p.1) ++ next_worker p.1 ∷ [] }) (λ i. (sym c.0 i, sym c.1 i)) (splits_caller size s r (omega arith))
