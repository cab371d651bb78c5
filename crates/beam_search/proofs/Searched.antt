-- What a whole search finds and visits.
use Rattle.std.proofs.Common.{◌≡◌, ℕ, zero, suc, ◌<◌, ◌≤◌, Bool, true, Some, None, List, ◌++◌, length, min, sym, subst, arith}
use Rattle.std.specs.Prelude.{nat_eq}
use Rattle.std.specs.List.{All, IsDistinct}
use Rattle.std.specs.Option.{option_map_or}
use Rattle.std.proofs.lemmas.List.{length-take}
use Rattle.ann_defs.specs.declared.near.Near.{Near}
use Rattle.ann_defs.specs.Ordered.{Has, Rises, ordered}
use Rattle.ann_defs.specs.Nearness.{near_cmp, near_of, all_near, ids_of, least}
use Rattle.ann_defs.specs.Graph.{IsGraph}
use Rattle.ann_defs.specs.GreedySearch.{Walk, next_of, visit, walk, start_of, search_of}
use Rattle.ann_defs.proofs.SearchStates.{IsSound, sound_start, sound_walk, few_visited}
use Rattle.ann_defs.proofs.Members.{all_from_has, distinct_once}
use Rattle.ann_defs.proofs.GoodRows.{rising_once}
use Rattle.beam_search.specs.Measured.{AreMeasured}

least_short : (set : List Near) (k : ℕ) → length (least set k) ≤ k
least_short set k = let e : length (least set k) ≡ min k (length (ordered near_cmp set)) = length-take k (ordered near_cmp set) in omega (arith, e)

-- what holds of the end of a whole search
pub record IsSearched (points : List (List ℕ)) (query : List ℕ) (beam : ℕ) (held : ℕ → Bool) (last : Walk) : Type 0 where
  pub visited : AreMeasured points query held last.visited
  pub few : length last.visited ≤ length points
  pub found : AreMeasured points query held last.found
  pub rises : Rises near_cmp last.found
  pub short : length last.found ≤ beam

module _ (points : List (List ℕ)) (row : ℕ → List ℕ) (query : List ℕ) (beam : ℕ) where
  short_walk : (k : ℕ) (w : Walk) → length w.found ≤ beam → length (walk points row query beam k w).found ≤ beam
  short_walk zero w h = h
  short_walk (suc k) w h =
      elim (next_of w) as (λ o. length (option_map_or (λ p. walk points row query beam k (visit points row query beam w p)) o w).found ≤ beam) [
        | None ↦ h
        | Some p ↦ short_walk k (visit points row query beam w p) (least_short (w.found ++ all_near points query (row p.id)) beam)
      ]

  found_short : (starts : List ℕ) → length (search_of points row query beam starts).found ≤ beam
  found_short starts = short_walk (length points) (start_of points row query beam starts) (least_short (all_near points query starts) beam)

  module _ (held : ℕ → Bool) (g : IsGraph (length points) held row) (starts : List ℕ) (all : All (λ u. held u ≡ true) starts) where
    abbrev whole : Walk
    whole = search_of points row query beam starts

    sound : IsSound points row query beam held whole
    sound = sound_walk points row query beam held g (length points) (start_of points row query beam starts) (sound_start points row query beam held starts all)

    measured : (nears : List Near) → ((z : Near) → Has nears z → (held z.id ≡ true) × (z ≡ near_of points query z.id)) → IsDistinct nat_eq (ids_of nears) → AreMeasured points query held nears
    measured nears right distinct = record {
      in_range = all_from_has (λ z. z.id < length points) nears (λ z h. g.below z.id (right z h).0);
      held_ids = all_from_has (λ z. held z.id ≡ true) nears (λ z h. (right z h).0);
      near = all_from_has (λ z. z ≡ near_of points query z.id) nears (λ z h. (right z h).1);
      distinct = distinct;
    }

    visited_measured : AreMeasured points query held whole.visited
    visited_measured = measured whole.visited sound.visited_right sound.distinct

    visited_few : length whole.visited ≤ length points
    visited_few = few_visited points row query beam held g whole sound

    found_rises : Rises near_cmp whole.found
    found_rises = sound.rises

    found_measured : AreMeasured points query held whole.found
    found_measured = measured whole.found sound.found_right (distinct_once (ids_of whole.found) (rising_once points query whole.found sound.rises (λ z h. (sound.found_right z h).1)))

    pub searched : (last : Walk) → last ≡ whole → IsSearched points query beam held last
    searched last is = subst (IsSearched points query beam held) (sym is) record { visited = visited_measured; few = visited_few; found = found_measured; rises = found_rises; short = found_short starts }
