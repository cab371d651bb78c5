-- The place of the first entry that isn't visited.
use Rattle.std.proofs.Common.{◌≡◌, ◌≢◌, ℕ, zero, suc, ◌+◌, ◌-◌, ◌<◌, ◌≤◌, Bool, true, false, cond, not, Some, None, List, [], ◌∷◌, ◌++◌, take, set, length, get_or, min, refl, sym, ap, ◌∙◌, subst, inl, inr, arith}
use Rattle.std.specs.Prelude.{◌==◌, ◌||◌}
use Rattle.std.specs.List.{find, list_any, AllWithin, HoldsAt}
use Rattle.std.proofs.lemmas.Bool.{cases_lt, cases_eq, eq-eqb, ne_eqb}
use Rattle.std.proofs.lemmas.List.{get_or-take, get_or_default, get_or-set_same, get_or-set_other, length-take-le}
use Rattle.ann_defs.specs.declared.near.Near.{Near}
use Rattle.ann_defs.specs.Ordered.{Has, Rises}
use Rattle.ann_defs.specs.Nearness.{near_cmp, near_of}
use Rattle.ann_defs.specs.GreedySearch.{is_in, walk_in, next_of}
use Rattle.near_lists.specs.Marks.{mark_of, AreSettled, AreUpTo, AreVisited, OnlySeen}
use Rattle.near_lists.proofs.Settling.{settled_there}
use Rattle.near_lists.proofs.Taking.{any_push}

-- all before it are visited, and it isn't
pub record IsCursor (found : List Near) (len : ℕ) (visited : List Near) (next : ℕ) : Type 0 where
  pub inside : next ≤ len
  pub before : AllWithin (λ x. is_in visited x ≡ true) found 0 next
  pub here : next < len → HoldsAt (λ x. is_in visited x ≡ false) found next

find_at : (p : Near → Bool) (xs : List Near) (i : ℕ) (d : Near) → i < length xs → ((k : ℕ) → k < i → p (get_or xs k d) ≡ false) → p (get_or xs i d) ≡ true → find p xs ≡ Some (get_or xs i d)
find_at p [] i d lt f h = absurd (omega arith)
find_at p (x ∷ xs) zero d lt f h = ap (λ b. cond b (Some x) (find p xs)) h
find_at p (x ∷ xs) (suc i) d lt f h = ap (λ b. cond b (Some x) (find p xs)) (f 0 (omega arith)) ∙ find_at p xs i d (omega arith) (λ k less. f (suc k) (omega arith)) h

find_none : (p : Near → Bool) (xs : List Near) (d : Near) → ((k : ℕ) → k < length xs → p (get_or xs k d) ≡ false) → find p xs ≡ None
find_none p [] d f = refl
find_none p (x ∷ xs) d f = ap (λ b. cond b (Some x) (find p xs)) (f 0 (omega arith)) ∙ find_none p xs d (λ k less. f (suc k) (omega arith))

module _ (found : List Near) (len : ℕ) (visited : List Near) (count next : ℕ) (c : IsCursor found len (take count visited) next) (room : len ≤ length found) where
  long : length (take len found) ≡ len
  long = length-take-le len found room

  pub next_some : (d : Near) → next < len → next_of (walk_in found len visited count) ≡ Some (get_or found next d)
  next_some d lt =
      let same : get_or (take len found) next d ≡ get_or found next d = get_or-take len found next d lt in
      let l = long in
      find_at (λ x. not (is_in (take count visited) x)) (take len found) next d (omega arith)
      (λ k less. ap (λ x. not (is_in (take count visited) x)) (get_or-take len found k d (omega arith)) ∙ ap not (c.before k d (omega arith) less))
      (ap (λ x. not (is_in (take count visited) x)) same ∙ ap not (c.here lt d))
      ∙ ap Some same

  pub next_none : len ≤ next → next_of (walk_in found len visited count) ≡ None
  next_none le =
      let none : Near = record { dist = 0; id = 0 } in
      let l = long in
      find_none (λ x. not (is_in (take count visited) x)) (take len found) none
      (λ k less. ap (λ x. not (is_in (take count visited) x)) (get_or-take len found k none (omega arith)) ∙ ap not (c.before k none (omega arith) (omega arith)))

pub cursor_none : (found : List Near) (len : ℕ) → IsCursor found len [] 0
cursor_none found len = record { inside = omega arith; before = λ k d low lt. absurd (omega arith); here = λ lt d. refl }

or-none : (b : Bool) → (b || false) ≡ b
or-none true = refl
or-none false = refl

or-true : (b : Bool) → (b || true) ≡ true
or-true true = refl
or-true false = refl

-- no id is visited before the first visit
pub visited_none : (n seen : ℕ) (old new : List ℕ) → 1 ≤ seen → AreUpTo (seen - 1) old → OnlySeen seen old new → AreVisited n (seen + 1) [] new
visited_none n seen old new some up only u lt =
    ne_eqb (mark_of new u) (seen + 1) (λ e. elim (only u) as (λ _. ⊥) [
      | inl same ↦ let low = up u in absurd (omega arith)
      | inr now ↦ let is : mark_of new u ≡ seen = now.1 in absurd (omega arith)
    ])

pub up_to_seen : (seen : ℕ) (old new : List ℕ) → AreUpTo (seen + 1) old → OnlySeen seen old new → AreUpTo (seen + 1) new
up_to_seen seen old new up only u = elim (only u) as (λ _. mark_of new u ≤ seen + 1) [
  | inl same ↦ let low = up u in omega arith
  | inr now ↦ let is : mark_of new u ≡ seen = now.1 in omega arith
]

pub up_to_first : (seen : ℕ) (marks : List ℕ) → AreUpTo (seen - 1) marks → AreUpTo (seen + 1) marks
up_to_first seen marks up u = let low = up u in omega arith

-- p is marked as visited
module _ (n seen : ℕ) (marks : List ℕ) (p : Near) (long : length marks ≡ n) (inside : p.id < n) where
  abbrev marked : List ℕ
  marked = set marks p.id (seen + 1)

  marked_here : mark_of marked p.id ≡ seen + 1
  marked_here = get_or-set_same marks p.id (seen + 1) 0 (omega arith)

  marked_other : (u : ℕ) → u ≢ p.id → mark_of marked u ≡ mark_of marks u
  marked_other u ne = get_or-set_other marks p.id u (seen + 1) 0 ne

  pub up_to_marked : AreUpTo (seen + 1) marks → AreUpTo (seen + 1) marked
  up_to_marked up u = elim (cases_eq u p.id) as (λ _. mark_of marked u ≤ seen + 1) [
    | inl e ↦ let is : mark_of marked u ≡ seen + 1 = ap (mark_of marked) e ∙ marked_here in omega arith
    | inr ne ↦ let is = marked_other u ne in let low = up u in omega arith
  ]

  pub visited_marked : (visited : List Near) → AreVisited n (seen + 1) visited marks → AreVisited n (seen + 1) (visited ++ p ∷ []) marked
  visited_marked visited v u lt =
      elim (cases_eq u p.id) as (λ _. (mark_of marked u == seen + 1) ≡ list_any (λ y. u == y.id) (visited ++ p ∷ [])) [
        | inl e ↦
            eq-eqb (mark_of marked u) (seen + 1) (ap (mark_of marked) e ∙ marked_here)
            ∙ sym (any_push (λ y. u == y.id) visited p ∙ ap (λ b. list_any (λ y. u == y.id) visited || b) (eq-eqb u p.id e) ∙ or-true (list_any (λ y. u == y.id) visited))
        | inr ne ↦
            ap (λ m. m == seen + 1) (marked_other u ne) ∙ v u lt
            ∙ sym (any_push (λ y. u == y.id) visited p ∙ ap (λ b. list_any (λ y. u == y.id) visited || b) (ne_eqb u p.id ne) ∙ or-none (list_any (λ y. u == y.id) visited))
      ]

  pub settled_marked : (points : List (List ℕ)) (query : List ℕ) (beam : ℕ) (found : List Near) → Rises near_cmp found → length found ≤ beam → Has found p → p ≡ near_of points query p.id → AreSettled points query beam seen found marks → AreSettled points query beam seen found marked
  settled_marked points query beam found rises short there right s u lt later =
      elim (cases_eq u p.id) as (λ _. take beam (Rattle.ann_defs.specs.Ordered.put near_cmp found (near_of points query u)) ≡ found) [
        | inl e ↦ subst (λ y. take beam (Rattle.ann_defs.specs.Ordered.put near_cmp found y) ≡ found) (right ∙ ap (near_of points query) (sym e)) (settled_there beam found p rises short there)
        | inr ne ↦ s u lt (subst (λ m. seen ≤ m) (marked_other u ne) later)
      ]

-- seeing more ids changes nothing of the visited
pub visited_seen : (n seen : ℕ) (visited : List Near) (old new : List ℕ) → OnlySeen seen old new → AreVisited n (seen + 1) visited old → AreVisited n (seen + 1) visited new
visited_seen n seen visited old new only v u lt =
    elim (only u) as (λ _. (mark_of new u == seen + 1) ≡ list_any (λ y. u == y.id) visited) [
      | inl same ↦ ap (λ m. m == seen + 1) same ∙ v u lt
      | inr now ↦
          let is : mark_of new u ≡ seen = now.1 in
          let less : mark_of old u < seen = now.0 in
          ne_eqb (mark_of new u) (seen + 1) (λ e. absurd (omega arith)) ∙ sym (ne_eqb (mark_of old u) (seen + 1) (λ e. absurd (omega arith))) ∙ v u lt
    ]

-- the place after a visit
module _ (n stamp : ℕ) (found found' : List Near) (len len' : ℕ) (visited : List Near) (next first from next' : ℕ) (marks : List ℕ)
    (c : IsCursor found len visited next) (lt : next < len) (front : take first found' ≡ take first found) (from_is : from ≡ min first (next + 1))
    (v : AreVisited n stamp (visited ++ get_or found next (record { dist = 0; id = 0 }) ∷ []) marks)
    (ids : (k : ℕ) (d : Near) → k < len' → (get_or found' k d).id < n)
    (room : next < length found) (room' : len' ≤ length found')
    (inside : next' ≤ len')
    (before : AllWithin (λ x. mark_of marks x.id ≡ stamp) (take len' found') from next')
    (here : next' < len' → HoldsAt (λ x. mark_of marks x.id ≢ stamp) (take len' found') next') where
  abbrev p : Near
  p = get_or found next (record { dist = 0; id = 0 })

  abbrev more : List Near
  more = visited ++ p ∷ []

  kept_in : (x : Near) → is_in visited x ≡ true → is_in more x ≡ true
  kept_in x h = any_push (λ y. x.id == y.id) visited p ∙ ap (λ b. b || (x.id == p.id)) h

  itself : is_in more p ≡ true
  itself = any_push (λ y. p.id == y.id) visited p ∙ ap (λ b. is_in visited p || b) (eq-eqb p.id p.id refl) ∙ or-true (is_in visited p)

  in_front : (k : ℕ) (d : Near) → k < from → is_in more (get_or found' k d) ≡ true
  in_front k d less =
      let same : get_or found' k d ≡ get_or found k d = sym (get_or-take first found' k d (omega arith)) ∙ ap (λ xs. get_or xs k d) front ∙ get_or-take first found k d (omega arith) in
      subst (λ x. is_in more x ≡ true) (sym same)
      (elim (cases_lt k next) as (λ _. is_in more (get_or found k d) ≡ true) [
        | inl early ↦ kept_in (get_or found k d) (c.before k d (omega arith) early)
        | inr late ↦
            let e : k ≡ next = omega arith in
            let is : get_or found k d ≡ p = ap (λ m. get_or found m d) e ∙ get_or_default found next d (record { dist = 0; id = 0 }) room in
            subst (λ x. is_in more x ≡ true) (sym is) itself
      ])

  pub cursor_more : IsCursor found' len' more next'
  cursor_more = record {
    inside = inside;
    before = λ k d low less. elim (cases_lt k from) as (λ _. is_in more (get_or found' k d) ≡ true) [
      | inl early ↦ in_front k d early
      | inr late ↦
          let at : mark_of marks (get_or found' k d).id ≡ stamp = subst (λ x. mark_of marks x.id ≡ stamp) (get_or-take len' found' k d (omega arith)) (before k d late less) in
          sym (v (get_or found' k d).id (ids k d (omega arith))) ∙ eq-eqb (mark_of marks (get_or found' k d).id) stamp at
    ];
    here = λ less d.
        let not_at : mark_of marks (get_or found' next' d).id ≢ stamp = subst (λ x. mark_of marks x.id ≢ stamp) (get_or-take len' found' next' d less) (here less d) in
        sym (v (get_or found' next' d).id (ids next' d less)) ∙ ne_eqb (mark_of marks (get_or found' next' d).id) stamp not_at;
  }
