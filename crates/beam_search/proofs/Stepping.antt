-- One turn of the search's loop.
use Rattle.std.proofs.Common.{◌≡◌, ℕ, ◌+◌, ◌<◌, ◌≤◌, Bool, true, not, Some, List, [], ◌∷◌, ◌++◌, take, set, length, get_or, sym, ap, ◌∙◌, subst, arith}
use Rattle.std.specs.List.{fold, All}
use Rattle.std.proofs.lemmas.List.{take_more_set, length-take-le, get_or-take}
use Rattle.std.proofs.lemmas.List.Elements.{All-weaker}
use Rattle.ann_defs.specs.declared.near.Near.{Near}
use Rattle.ann_defs.specs.Ordered.{Has, put}
use Rattle.ann_defs.specs.Nearness.{near_cmp, all_near}
use Rattle.ann_defs.specs.Graph.{IsGraph}
use Rattle.ann_defs.specs.GreedySearch.{Walk, is_in, walk_in, next_of}
use Rattle.ann_defs.proofs.Order.{has_found}
use Rattle.ann_defs.proofs.SearchStates.{IsWalking, next_held, walking_room, walking_more, visited_more}
use Rattle.near_lists.specs.Marks.{AreSettled}
use Rattle.beam_search.proofs.Cursor.{IsCursor, next_some, settled_marked}
use Rattle.near_lists.proofs.Inserting.{has_get_or}

module _ (points : List (List ℕ)) (row : ℕ → List ℕ) (query : List ℕ) (beam : ℕ) (held : ℕ → Bool) (g : IsGraph (length points) held row) (start : Walk)
    (found : List Near) (len : ℕ) (visited : List Near) (count next : ℕ)
    (walking : IsWalking points row query beam held start (walk_in found len visited count) count)
    (cursor : IsCursor found len (take count visited) next) (room : len ≤ length found) (lt : next < len) where
  abbrev pub p : Near
  p = get_or found next (record { dist = 0; id = 0 })

  pub next_is : next_of (walk_in found len visited count) ≡ Some p
  next_is = next_some found len visited count next cursor room (record { dist = 0; id = 0 }) lt

  pub p_held : held p.id ≡ true
  p_held = next_held points row query beam held (walk_in found len visited count) p walking.sound next_is

  pub p_below : p.id < length points
  p_below = g.below p.id p_held

  p_there : Has (take len found) p
  p_there = (has_found (λ x. not (is_in (take count visited) x)) (take len found) p next_is).0

  pub count_room : count < length points
  count_room = walking_room points row query beam held g p walking next_is

  pub row_below : All (λ v. v < length points) (row p.id)
  row_below = All-weaker (λ v. held v ≡ true) (λ v. v < length points) (λ v h. g.below v h) (row p.id) (g.inside p.id p_held)

  pub settled_p : (seen : ℕ) (marks : List ℕ) → length marks ≡ length points → len ≤ beam → AreSettled points query beam seen (take len found) marks → AreSettled points query beam seen (take len found) (set marks p.id (seen + 1))
  settled_p seen marks long short s =
      let few : length (take len found) ≡ len = length-take-le len found room in
      settled_marked (length points) seen marks p long p_below points query beam (take len found) walking.sound.rises (omega arith) p_there (walking.sound.found_right p p_there).1 s

  pub visited_p : length visited ≡ length points → take (count + 1) (set visited count p) ≡ take count visited ++ p ∷ []
  visited_p long = let c = count_room in take_more_set visited count p (omega arith)

  -- once the row of p was offered
  module _ (found' : List Near) (len' : ℕ) (near : List ℕ) (is : near ≡ row p.id) (told : take len' found' ≡ take beam (fold (put near_cmp) (take len found) (all_near points query near))) (room' : len' ≤ length found') (long : length visited ≡ length points) where
    offered : take len' found' ≡ take beam (fold (put near_cmp) (take len found) (all_near points query (row p.id)))
    offered = told ∙ ap (λ ids. take beam (fold (put near_cmp) (take len found) (all_near points query ids))) is

    pub walking_next : IsWalking points row query beam held start (walk_in found' len' (set visited count p) (count + 1)) (count + 1)
    walking_next =
        let c = count_room in
        let same = visited_more points row query beam found len visited count found' len' p walking.sound.rises (omega arith) offered in
        subst (λ (w : Walk). IsWalking points row query beam held start w (count + 1)) (sym same) (walking_more points row query beam held g p walking next_is)

    pub ids_next : (k : ℕ) (d : Near) → k < len' → (get_or found' k d).id < length points
    ids_next k d less =
        let few : length (take len' found') ≡ len' = length-take-le len' found' room' in
        let there : Has (take len' found') (get_or (take len' found') k d) = has_get_or (take len' found') k d (omega arith) in
        subst (λ (x : Near). x.id < length points) (get_or-take len' found' k d less) (g.below (get_or (take len' found') k d).id (walking_next.sound.found_right (get_or (take len' found') k d) there).0)

    pub ids_left : (marks : List ℕ) → length marks ≡ length points → (k : ℕ) (d : Near) → k < length (take len' found') → (get_or (take len' found') k d).id < length marks
    ids_left marks same k d less =
        let few : length (take len' found') ≡ len' = length-take-le len' found' room' in
        subst (λ m. (get_or (take len' found') k d).id < m) (sym same)
        (subst (λ (x : Near). x.id < length points) (sym (get_or-take len' found' k d (omega arith))) (ids_next k d (omega arith)))
