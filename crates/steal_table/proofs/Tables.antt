-- A step on the word of one task by one seat keeps the rule, if it keeps what the rule says of that task and of that seat.
use Rattle.std.proofs.Common.{◌≡◌, ◌≢◌, ◌⊎◌, ℕ, zero, suc, ◌+◌, ◌<◌, List, [], ◌∷◌, length, set, Some, refl, sym, ap, ◌∙◌, subst, inl, inr, ⊎_elim, arith, length-set}
use mathlib.Core.Option.{some, none, some-ne-none, some-injective}
use mathlib.Core.Option as maybe
use mathlib.Core.Logic.{dite}
use native.Mathlib.Decide.{ℕ_discrete}
use lib.ListN.{get_elem?}
use Rattle.atomic_table.proofs.Lists.{at_set, set_here, set_else}
use Rattle.steal_table.specs.declared.view.Size.{Size}
use Rattle.steal_table.specs.declared.view.Entry.{Entry}
use Rattle.steal_table.specs.declared.view.Found.{Found}
use Rattle.steal_table.specs.declared.view.Found.TheVariants.{HeldBy, DoneBy}
use Rattle.steal_table.specs.declared.view.Finding.{Finding}
use Rattle.steal_table.specs.declared.view.View.{View}
use Rattle.steal_table.specs.Rule.{Block, Table, Status, waiting, held, done, code, Says, AtHome, Live, HasEntry, CameBack, entry, StillFound, Rule}

-- two statuses with one code are one
pub code_apart : (p q : Status) → code p ≡ code q → p ≡ q
code_apart waiting waiting e = refl
code_apart waiting (held i) e = absurd (omega arith)
code_apart waiting (done i) e = absurd (omega arith)
code_apart (held i) waiting e = absurd (omega arith)
code_apart (held i) (held j) e = let same : i ≡ j = omega arith in ap held same
code_apart (held i) (done j) e = absurd (omega arith)
code_apart (done i) waiting e = absurd (omega arith)
code_apart (done i) (held j) e = absurd (omega arith)
code_apart (done i) (done j) e = let same : i ≡ j = omega arith in ap done same

-- a word says one thing
pub says_once : (s : Table) (t : ℕ) (p q : Status) → Says s t p → Says s t q → p ≡ q
says_once s t p q a b = code_apart p q (some-injective _ _ (sym a ∙ b))

pub below_length : {A : Type 0} (l : List A) (i : ℕ) (a : A) → get_elem? l i ≡ some a → i < length l
below_length [] i a e = absurd (some-ne-none a (sym e))
below_length (x ∷ xs) zero a e = omega arith
below_length (x ∷ xs) (suc i) a e = let h = below_length xs i a e in omega arith

-- the task of a word is a task of the round
pub says_below : (size : Size) (s : Table) (r : Rule size s) (t : ℕ) (q : Status) → Says s t q → t < size.tasks
says_below size s r t q says = let h = below_length s.words (t + 1) (code q) says in let n = r.words_count in omega arith

-- the seat's view becomes w, which keeps all but the held task, the finding and new entries
pub record Grows (v w : View) : Type 0 where
  pub same_size : w.size ≡ v.size
  pub same_live : w.live ≡ v.live
  pub same_number : w.number ≡ v.number
  pub same_made : w.made ≡ v.made
  pub same_back : w.back ≡ v.back
  pub more : (e : Entry) → HasEntry v e → HasEntry w e

pub grows_refl : (v : View) → Grows v v
grows_refl v = record { same_size = refl; same_live = refl; same_number = refl; same_made = refl; same_back = refl; more = λ e h. h }

module _ (s : Table) (t n id : ℕ) (hs : List (maybe.Option Block)) (w : View) where
  abbrev pub after : Table
  after = record { words = set s.words (t + 1) n; homes = hs; views = set s.views id w }

  pub says_else : (u : ℕ) (p : Status) → u ≢ t → Says s u p → Says after u p
  says_else u p apart says = set_else s.words (t + 1) (u + 1) n (λ e. apart (omega arith)) ∙ says

  pub says_here : (q : Status) → n ≡ code q → t + 1 < length s.words → Says after t q
  says_here q is lt = set_here s.words (t + 1) n lt ∙ ap some is

  pub says_back : (q : Status) → n ≡ code q → (u : ℕ) (p : Status) → Says after u p → ((u ≡ t) × (p ≡ q)) ⊎ ((u ≢ t) × Says s u p)
  says_back q is u p says =
      ⊎_elim (λ (x : (u + 1 ≡ t + 1) × (n ≡ code p)). let same : u ≡ t = (let e = x.0 in omega arith) in inl (same, code_apart p q (sym x.1 ∙ is)))
      (λ (x : (u + 1 ≢ t + 1) × Says s u p). inr ((λ e. x.0 (ap (λ (k : ℕ). k + 1) e)), x.1)) (at_set s.words (t + 1) (u + 1) n (code p) says)

  pub live_else : (k : ℕ) (v : View) → k ≢ id → Live s k v → Live after k v
  live_else k v apart l = (set_else s.views id k w apart ∙ l.0, l.1)

  pub live_here : (v : View) → Live s id v → w.live ≡ v.live → Live after id w
  live_here v l same = (set_here s.views id w (below_length s.views id v l.0), same ∙ l.1)

  pub live_back : (k : ℕ) (v : View) → Live after k v → ((k ≡ id) × (w ≡ v)) ⊎ ((k ≢ id) × Live s k v)
  live_back k v l = ⊎_elim (λ (x : (k ≡ id) × (w ≡ v)). inl x) (λ (x : (k ≢ id) × (get_elem? s.views k ≡ some v)). inr (x.0, (x.1, l.1))) (at_set s.views id k w v l.0)

  -- a view from before is there still, or it is the seat's and has grown
  pub carried : (v : View) → Live s id v → Grows v w → (k : ℕ) (u : View) → Live s k u → (x : View) × Live after k x × Grows u x × (k ≢ id → x ≡ u) × (k ≡ id → (x ≡ w) × (u ≡ v))
  carried v l g k u m =
      dite (ℕ_discrete k id)
      (λ (e : k ≡ id). let same : u ≡ v = some-injective _ _ (sym m.0 ∙ ap (get_elem? s.views) e ∙ l.0) in
      (w, subst (λ (j : ℕ). Live after j w) (sym e) (live_here v l g.same_live), subst (λ (y : View). Grows y w) (sym same) g, (λ ne. absurd (ne e)), λ _. (refl, same)))
      (λ (ne : k ≢ id). (u, live_else k u ne m, grows_refl u, (λ _. refl), λ e. absurd (ne e)))

  -- a view from afterwards was there before, or it is the seat's
  pub before : (v : View) → Live s id v → Grows v w → (k : ℕ) (x : View) → Live after k x → (u : View) × Live s k u × Grows u x
  before v l g k x m =
      ⊎_elim (λ (a : (k ≡ id) × (w ≡ x)). (v, subst (λ (j : ℕ). Live s j v) (sym a.0) l, subst (λ (y : View). Grows v y) a.1 g))
      (λ (a : (k ≢ id) × Live s k x). (x, a.1, grows_refl x)) (live_back k x m)

  pub found_else : (u : ℕ) (f : Found) → u ≢ t → StillFound s u f → StillFound after u f
  found_else u (HeldBy i) apart h = ⊎_elim (λ (x : Says s u (held i)). inl (says_else u (held i) apart x)) (λ (x : Says s u (done i)). inr (says_else u (done i) apart x)) h
  found_else u (DoneBy i) apart h = says_else u (done i) apart h

pub back_same : (v w : View) (i : ℕ) → w.back ≡ v.back → CameBack v i → CameBack w i
back_same v w i same b = (b.0, ap (λ l. get_elem? l b.0) same ∙ b.1)

module _ (size : Size) (s : Table) (r : Rule size s) (t : ℕ) (q : Status) (id : ℕ) (hs : List (maybe.Option Block)) (v w : View) where
  abbrev pub next : Table
  next = after s t (code q) id hs w

  -- the word of the task t says that the entry is true
  abbrev pub Confirms : Entry → Type 0
  Confirms e = Says next t (done e.worker) × ((y : Block) × AtHome next t y × (e.block ≡ y.items))

  -- what the step of a seat on the word of one task has to keep
  pub record Move : Type 0 where
    pub seat : Live s id v
    pub below : t < size.tasks
    pub grows : Grows v w
    pub same_count : length hs ≡ length s.homes
    pub other_homes : (u : ℕ) → u ≢ t → get_elem? hs u ≡ get_elem? s.homes u
    pub open_here : q ≡ waiting → (y : Block) × AtHome next t y × (length y.items ≡ size.width)
    pub held_here : (i : ℕ) → q ≡ held i → (get_elem? hs t ≡ some none) × ((k : ℕ) × (x : View) × Live next k x × (x.number ≡ i) × (x.held ≡ Some t))
    pub done_here : (i : ℕ) → q ≡ done i → (y : Block) × AtHome next t y × ((k : ℕ) × (x : View) × Live next k x × HasEntry x (entry t i y.items) × ((x.number ≡ i) ⊎ ((k ≡ 0) × CameBack x i)))
    pub still_holds : (u : ℕ) → u ≢ t → v.held ≡ Some u → w.held ≡ Some u
    pub now_holds : (u : ℕ) → w.held ≡ Some u → Says next u (held w.number)
    pub others_hold : (k : ℕ) (x : View) → k ≢ id → Live s k x → x.held ≡ Some t → Says next t (held x.number)
    pub entry_here : (k : ℕ) (x : View) (e : Entry) → Live s k x → HasEntry x e → e.task ≡ t → Confirms e
    pub new_entry : (n : ℕ) (e : Entry) → get_elem? w.entries n ≡ some e → (get_elem? v.entries n ≡ some e)
        ⊎ ((e.task ≡ t) × Confirms e × (n ≡ length v.entries) × ((k : ℕ) (x : View) (f : Entry) → Live s k x → HasEntry x f → f.task ≢ t))
    pub not_back : (i : ℕ) → q ≡ held i → CameBack r.caller i → ⊥
    pub still_found : (f : Found) → StillFound s t f → StillFound next t f
    pub now_found : (f : Finding) → w.finding ≡ Some f → StillFound next f.task f.found

  module _ (m : Move) where
    grown : (k : ℕ) (u : View) → Live s k u → (x : View) × Live next k x × Grows u x × (k ≢ id → x ≡ u) × (k ≡ id → (x ≡ w) × (u ≡ v))
    grown k u l = carried s t (code q) id hs w v m.seat m.grows k u l

    earlier : (k : ℕ) (x : View) → Live next k x → (u : View) × Live s k u × Grows u x
    earlier k x l = before s t (code q) id hs w v m.seat m.grows k x l

    lives : (k : ℕ) (x : View) → Live next k x → ((k ≡ id) × (w ≡ x)) ⊎ ((k ≢ id) × Live s k x)
    lives k x l = live_back s t (code q) id hs w k x l

    says : (u : ℕ) (p : Status) → Says next u p → ((u ≡ t) × (p ≡ q)) ⊎ ((u ≢ t) × Says s u p)
    says u p h = says_back s t (code q) id hs w q refl u p h

    said : (u : ℕ) (p : Status) → u ≢ t → Says s u p → Says next u p
    said u p ne h = says_else s t (code q) id hs w u p ne h

    home : (u : ℕ) (y : Block) → u ≢ t → AtHome s u y → AtHome next u y
    home u y ne h = m.other_homes u ne ∙ h

    abbrev keeps_open : (u : ℕ) → Says next u waiting → (y : Block) × AtHome next u y × (length y.items ≡ size.width)
    keeps_open u h =
        ⊎_elim (λ (x : (u ≡ t) × (waiting ≡ q)). subst (λ (k : ℕ). (y : Block) × AtHome next k y × (length y.items ≡ size.width)) (sym x.0) (m.open_here (sym x.1)))
        (λ (x : (u ≢ t) × Says s u waiting). let o = r.open_home u x.1 in (o.0, home u o.0 x.0 o.1, o.2)) (says u waiting h)

    keeps_held : (u i : ℕ) → Says next u (held i) → (get_elem? hs u ≡ some none) × ((k : ℕ) × (x : View) × Live next k x × (x.number ≡ i) × (x.held ≡ Some u))
    keeps_held u i h =
        ⊎_elim (λ (x : (u ≡ t) × (held i ≡ q)). subst (λ (j : ℕ). (get_elem? hs j ≡ some none) × ((k : ℕ) × (x : View) × Live next k x × (x.number ≡ i) × (x.held ≡ Some j))) (sym x.0) (m.held_here i (sym x.1)))
        (λ (x : (u ≢ t) × Says s u (held i)). let o = r.held_out u i x.1 in let k = o.1.0 in let g = grown k o.1.1 o.1.2 in
        let holds : g.0.held ≡ Some u =
        dite (ℕ_discrete k id)
        (λ (e : k ≡ id). ap (λ (y : View). y.held) (g.4 e).0 ∙ m.still_holds u x.0 (ap (λ (y : View). y.held) (sym (g.4 e).1) ∙ o.1.4))
        (λ (ne : k ≢ id). ap (λ (y : View). y.held) (g.3 ne) ∙ o.1.4) in
        (m.other_homes u x.0 ∙ o.0, (k, g.0, g.1, g.2.same_number ∙ o.1.3, holds)))
        (says u (held i) h)

    keeps_done : (u i : ℕ) → Says next u (done i) → (y : Block) × AtHome next u y × ((k : ℕ) × (x : View) × Live next k x × HasEntry x (entry u i y.items) × ((x.number ≡ i) ⊎ ((k ≡ 0) × CameBack x i)))
    keeps_done u i h =
        ⊎_elim
        (λ (x : (u ≡ t) × (done i ≡ q)).
        subst (λ (j : ℕ). (y : Block) × AtHome next j y × ((k : ℕ) × (x : View) × Live next k x × HasEntry x (entry j i y.items) × ((x.number ≡ i) ⊎ ((k ≡ 0) × CameBack x i)))) (sym x.0) (m.done_here i (sym x.1)))
        (λ (x : (u ≢ t) × Says s u (done i)). let o = r.done_home u i x.1 in let g = grown o.2.0 o.2.1 o.2.2 in (
          o.0,
          home u o.0 x.0 o.1,
          (
            o.2.0,
            g.0,
            g.1,
            g.2.more (entry u i o.0.items) o.2.3,
            ⊎_elim (λ (e : o.2.1.number ≡ i). inl (g.2.same_number ∙ e)) (λ (b : (o.2.0 ≡ 0) × CameBack o.2.1 i). inr (b.0, back_same o.2.1 g.0 i g.2.same_back b.1)) o.2.4,
          ),
        ))
        (says u (done i) h)

    keeps_holder : (k u : ℕ) (x : View) → Live next k x → x.held ≡ Some u → Says next u (held x.number)
    keeps_holder k u x l h =
        ⊎_elim
        (λ (a : (k ≡ id) × (w ≡ x)). subst (λ (y : View). Says next u (held y.number)) a.1 (m.now_holds u (ap (λ (y : View). y.held) a.1 ∙ h)))
        (λ (a : (k ≢ id) × Live s k x).
        dite (ℕ_discrete u t)
        (λ (e : u ≡ t). subst (λ (j : ℕ). Says next j (held x.number)) (sym e) (m.others_hold k x a.0 a.1 (h ∙ ap Some e)))
        (λ (ne : u ≢ t). said u (held x.number) ne (r.holder_told k u x a.1 h)))
        (lives k x l)

    abbrev True : Entry → Type 0
    True e = Says next e.task (done e.worker) × ((y : Block) × AtHome next e.task y × (e.block ≡ y.items))

    confirmed : (e : Entry) → e.task ≡ t → Confirms e → True e
    confirmed e is c = subst (λ (j : ℕ). Says next j (done e.worker) × ((y : Block) × AtHome next j y × (e.block ≡ y.items))) (sym is) c

    old_entry : (k : ℕ) (x : View) (e : Entry) → Live s k x → HasEntry x e → True e
    old_entry k x e l has =
        dite (ℕ_discrete e.task t)
        (λ (is : e.task ≡ t). confirmed e is (m.entry_here k x e l has is))
        (λ (ne : e.task ≢ t). let o = r.entry_told k x e l has in (said e.task (done e.worker) ne o.0, (o.1.0, home e.task o.1.0 ne o.1.1, o.1.2)))

    -- an entry from afterwards was there before, or it is the new one
    abbrev Came : ℕ → ℕ → Entry → Type 0
    Came k n e = ((u : View) × Live s k u × (get_elem? u.entries n ≡ some e))
        ⊎ ((k ≡ id) × (e.task ≡ t) × Confirms e × (n ≡ length v.entries) × ((j : ℕ) (x : View) (f : Entry) → Live s j x → HasEntry x f → f.task ≢ t))

    came : (k n : ℕ) (x : View) (e : Entry) → Live next k x → get_elem? x.entries n ≡ some e → Came k n e
    came k n x e l at =
        ⊎_elim
        (λ (a : (k ≡ id) × (w ≡ x)).
        ⊎_elim
        (λ (o : get_elem? v.entries n ≡ some e). inl (v, subst (λ (j : ℕ). Live s j v) (sym a.0) m.seat, o))
        (λ (o : (e.task ≡ t) × Confirms e × (n ≡ length v.entries) × ((j : ℕ) (x : View) (f : Entry) → Live s j x → HasEntry x f → f.task ≢ t)). inr (a.0, o.0, o.1, o.2, o.3))
        (m.new_entry n e (ap (λ (y : View). get_elem? y.entries n) a.1 ∙ at)))
        (λ (a : (k ≢ id) × Live s k x). inl (x, a.1, at)) (lives k x l)

    keeps_entry : (k : ℕ) (x : View) (e : Entry) → Live next k x → HasEntry x e → True e
    keeps_entry k x e l has =
        ⊎_elim
        (λ (o : (u : View) × Live s k u × (get_elem? u.entries has.0 ≡ some e)). old_entry k o.0 e o.1 (has.0, o.2))
        (λ (o : (k ≡ id) × (e.task ≡ t) × Confirms e × (has.0 ≡ length v.entries) × ((j : ℕ) (x : View) (f : Entry) → Live s j x → HasEntry x f → f.task ≢ t)). confirmed e o.1 o.2)
        (came k has.0 x e l has.1)

    keeps_once : (k l i j : ℕ) (x y : View) (e f : Entry) → Live next k x → Live next l y → get_elem? x.entries i ≡ some e → get_elem? y.entries j ≡ some f → e.task ≡ f.task → (k ≡ l) × (i ≡ j)
    keeps_once k l i j x y e f a b at_i at_j same =
        ⊎_elim
        (λ (o : (u : View) × Live s k u × (get_elem? u.entries i ≡ some e)).
        ⊎_elim
        (λ (p : (u : View) × Live s l u × (get_elem? u.entries j ≡ some f)). r.entry_once k l i j o.0 p.0 e f o.1 p.1 o.2 p.2 same)
        (λ (p : (l ≡ id) × (f.task ≡ t) × Confirms f × (j ≡ length v.entries) × ((j : ℕ) (x : View) (f : Entry) → Live s j x → HasEntry x f → f.task ≢ t)). absurd (p.4 k o.0 e o.1 (i, o.2) (same ∙ p.1)))
        (came l j y f b at_j))
        (λ (o : (k ≡ id) × (e.task ≡ t) × Confirms e × (i ≡ length v.entries) × ((j : ℕ) (x : View) (f : Entry) → Live s j x → HasEntry x f → f.task ≢ t)).
        ⊎_elim
        (λ (p : (u : View) × Live s l u × (get_elem? u.entries j ≡ some f)). absurd (o.4 l p.0 f p.1 (j, p.2) (sym same ∙ o.1)))
        (λ (p : (l ≡ id) × (f.task ≡ t) × Confirms f × (j ≡ length v.entries) × ((j : ℕ) (x : View) (f : Entry) → Live s j x → HasEntry x f → f.task ≢ t)). (o.0 ∙ sym p.0, o.3 ∙ sym p.3))
        (came l j y f b at_j))
        (came k i x e a at_i)

    keeps_finding : (k : ℕ) (x : View) (f : Finding) → Live next k x → x.finding ≡ Some f → StillFound next f.task f.found
    keeps_finding k x f l is =
        ⊎_elim
        (λ (a : (k ≡ id) × (w ≡ x)). m.now_found f (ap (λ (y : View). y.finding) a.1 ∙ is))
        (λ (a : (k ≢ id) × Live s k x). let old = r.finding_true k x f a.1 is in
        dite (ℕ_discrete f.task t)
        (λ (e : f.task ≡ t). subst (λ (j : ℕ). StillFound next j f.found) (sym e) (m.still_found f.found (subst (λ (j : ℕ). StillFound s j f.found) e old)))
        (λ (ne : f.task ≢ t). found_else s t (code q) id hs w f.task f.found ne old))
        (lives k x l)

    pub keeps : Rule size next
    keeps = let c = grown 0 r.caller r.caller_sits in let words : length (set s.words (t + 1) (code q)) ≡ size.tasks + 1 = (let h = r.words_count in omega (arith, length-set {A = ℕ})) in
        let was : (i : ℕ) → CameBack c.0 i → CameBack r.caller i = λ i b. back_same c.0 r.caller i (sym c.2.same_back) b in record {
          words_count = words;
          slots_count = m.same_count ∙ r.slots_count;
          first_word = set_else s.words (t + 1) 0 (code q) (λ e. absurd (omega arith)) ∙ r.first_word;
          each_word = λ u lt.
              dite (ℕ_discrete u t)
              (λ (e : u ≡ t). (q, subst (λ (j : ℕ). Says next j q) (sym e) (says_here s t (code q) id hs w q refl (let h = r.words_count in let b = m.below in omega arith))))
              (λ (ne : u ≢ t). let p = r.each_word u lt in (p.0, said u p.0 ne p.1));
          sized = λ k x l. let e = earlier k x l in e.2.same_size ∙ r.sized k e.0 e.1;
          caller = c.0;
          caller_sits = c.1;
          caller_number = c.2.same_number ∙ r.caller_number;
          open_home = keeps_open;
          held_out = keeps_held;
          done_home = keeps_done;
          holder_told = keeps_holder;
          entry_told = keeps_entry;
          entry_once = keeps_once;
          numbers_apart = λ k l x y a b same. let e = earlier k x a in let f = earlier l y b in r.numbers_apart k l e.0 f.0 e.1 f.1 (sym e.2.same_number ∙ same ∙ f.2.same_number);
          workers_made = λ k x l ne. let e = earlier k x l in let lt = r.workers_made k e.0 e.1 ne in let a = e.2.same_number in let b = c.2.same_made in omega arith;
          made_most = let le = r.made_most in let b = c.2.same_made in omega arith;
          back_made = λ i b. let lt = r.back_made i (was i b) in let e = c.2.same_made in omega arith;
          back_once = λ i j n a b. let same = ap (λ l. get_elem? l i) c.2.same_back in let same' = ap (λ l. get_elem? l j) c.2.same_back in r.back_once i j n (sym same ∙ a) (sym same' ∙ b);
          back_spent = λ i k x b l e. let o = earlier k x l in r.back_spent i k o.0 (was i b) o.1 (sym o.2.same_number ∙ e);
          back_free = λ i u b h. ⊎_elim (λ (x : (u ≡ t) × (held i ≡ q)). m.not_back i (sym x.1) (was i b)) (λ (x : (u ≢ t) × Says s u (held i)). r.back_free i u (was i b) x.1) (says u (held i) h);
          finding_true = keeps_finding;
        }
