-- Places and callers, taken from the end and put into a list.
use Rattle.std.proofs.Common.{◌≡◌, ◌∙◌, ℕ, ◌+◌, ◌≤◌, List, [], ◌∷◌, ◌++◌, length, get_or, sym, ap, subst, arith, below_more}
use Rattle.std.proofs.lemmas.List.{get_or_append_left, get_or_push, length_push}
use Rattle.versions.specs.Course.{Course, total_of}
use Rattle.versions.specs.Standing.{Standing, starting}
use Rattle.live_session.specs.declared.asker.Asker.{Asker}
use Rattle.live_session.specs.declared.asking.Asking.{Asking}
use Rattle.live_session.specs.declared.seats.Place.{Place}
use Rattle.live_session.specs.Askers.{AreNumbered, ArePlaces, IsPlace, Stands}

-- one place more
pub places_more : (places : List Place) (p : Place) → p.seat.first ≡ length places → ArePlaces places → ArePlaces (places ++ p ∷ [])
places_more places p e old i d lt =
    let size : length (places ++ p ∷ []) ≡ length places + 1 = length_push places p in
    below_more (λ j. (get_or (places ++ p ∷ []) j d).seat.first ≡ j) (length places)
    (λ j h. ap (λ (x : Place). x.seat.first) (get_or_append_left places (p ∷ []) d j h) ∙ old j d h)
    (ap (λ (x : Place). x.seat.first) (get_or_push places p d (length places) (λ _. length places)) ∙ e)
    i (omega (arith, size, lt))

-- one place less
pub places_less : (all places : List Place) (p : Place) → all ≡ places ++ p ∷ [] → ArePlaces all → ArePlaces places
places_less all places p e old i d lt =
    let now : ArePlaces (places ++ p ∷ []) = subst ArePlaces e old in
    let size : length (places ++ p ∷ []) ≡ length places + 1 = length_push places p in
    ap (λ (x : Place). x.seat.first) (sym (get_or_append_left places (p ∷ []) d i lt)) ∙ now i d (omega (arith, size, lt))

-- the one taken is that of the last number
pub place_taken : (all places : List Place) (p : Place) → all ≡ places ++ p ∷ [] → ArePlaces all → p.seat.first ≡ length places
place_taken all places p e old =
    let now : ArePlaces (places ++ p ∷ []) = subst ArePlaces e old in
    let size : length (places ++ p ∷ []) ≡ length places + 1 = length_push places p in
    ap (λ (x : Place). x.seat.first) (sym (get_or_push places p p (length places) (λ _. length places))) ∙ now (length places) p (omega (arith, size))

-- one caller more, which is taken before those in the list
pub numbered_more : (callers : ℕ) (askers : List Asker) (x : Asker) → x.seat.first + length askers + 1 ≡ callers → AreNumbered callers askers → AreNumbered callers (askers ++ x ∷ [])
numbered_more callers askers x e old i d lt =
    let size : length (askers ++ x ∷ []) ≡ length askers + 1 = length_push askers x in
    below_more (λ j. (get_or (askers ++ x ∷ []) j d).seat.first + j + 1 ≡ callers) (length askers)
    (λ j h. ap (λ (y : Asker). y.seat.first + j + 1) (get_or_append_left askers (x ∷ []) d j h) ∙ old j d h)
    (ap (λ (y : Asker). y.seat.first + length askers + 1) (get_or_push askers x d (length askers) (λ _. length askers)) ∙ e)
    i (omega (arith, size, lt))

-- one caller less
pub numbered_less : (callers : ℕ) (all askers : List Asker) (x : Asker) → all ≡ askers ++ x ∷ [] → AreNumbered callers all → AreNumbered callers askers
numbered_less callers all askers x e old i d lt =
    let now : AreNumbered callers (askers ++ x ∷ []) = subst (AreNumbered callers) e old in
    let size : length (askers ++ x ∷ []) ≡ length askers + 1 = length_push askers x in
    ap (λ (y : Asker). y.seat.first + i + 1) (sym (get_or_append_left askers (x ∷ []) d i lt)) ∙ now i d (omega (arith, size, lt))

-- the number of the one taken
pub asker_taken : (callers : ℕ) (all askers : List Asker) (x : Asker) → all ≡ askers ++ x ∷ [] → AreNumbered callers all → x.seat.first + length askers + 1 ≡ callers
asker_taken callers all askers x e old =
    let now : AreNumbered callers (askers ++ x ∷ []) = subst (AreNumbered callers) e old in
    let size : length (askers ++ x ∷ []) ≡ length askers + 1 = length_push askers x in
    ap (λ (y : Asker). y.seat.first + length askers + 1) (sym (get_or_push askers x x (length askers) (λ _. length askers))) ∙ now (length askers) x (omega (arith, size))

-- a caller with a place
pub place_stands : (c : Course) (a : Asking) (p : Place) (caller : Standing) → caller ≡ starting c → 1 ≤ total_of c → IsPlace c a p → Stands c a (record { caller = caller; seat = p.seat; live = p.live; last = p.last })
place_stands c a p caller e some place =
    subst (λ (s : Standing). Stands c a (record { caller = s; seat = p.seat; live = p.live; last = p.last })) (sym e) (record {
      course = λ _. c;
      seen = (omega arith, some);
      seat = place.seat;
      live = place.live;
      last = place.last;
      none = place.none;
    })
