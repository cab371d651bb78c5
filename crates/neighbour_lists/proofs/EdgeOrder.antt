-- Edges in order.
use Rattle.std.proofs.Common.{◌≡◌, ℕ, ◌+◌, ◌-◌, ◌<◌, ◌≤◌, Bool, true, false, List, [], ◌++◌, take, drop, length, get_or, sym, ap, ◌∙◌, subst, arith}
use Rattle.std.specs.Prelude.{◌==◌, ◌&&◌, nat_eq}
use Rattle.std.specs.List.{filter, All}
use Rattle.std.specs.List.Sorted.{IsNonDecreasingBy}
use Rattle.std.specs.Ordering.{nat_cmp, eq_by_cmp, is_eq}
use Rattle.std.proofs.lemmas.Bool.{eq-eqb, ne_eqb}
use Rattle.std.proofs.lemmas.List.{get_or-take, get_or-drop, take-append-drop, length-drop, append-nil, length-take-le, get_or_read}
use Rattle.std.proofs.lemmas.List.Elements.{filter-append, All-from_get_or, All-weaker}
use Rattle.ann_defs.specs.declared.near.Near.{Near}
use Rattle.ann_defs.specs.Nearness.{near_cmp}
use Rattle.ann_defs.specs.Ordered.{ordered}
use Rattle.batch_insert.proofs.Grouping.{filter_none, filter_each, nat_ties, then_eq, first_least, ordered_by}
use Rattle.neighbour_lists.specs.declared.edge.Edge.{Edge}
use Rattle.neighbour_lists.specs.Edges.{edge_cmp, IsStart, AreStarts}
use Rattle.neighbour_lists.proofs.Reversing.{edge_order}

near_ties : (a b : Near) → (nat_eq a.dist b.dist && nat_eq a.id b.id) ≡ is_eq (near_cmp a b)
near_ties a b = (λ i. nat_ties a.dist b.dist i && nat_ties a.id b.id i) ∙ sym (then_eq (nat_cmp a.dist b.dist) (nat_cmp a.id b.id))

pub edge_ties : (x y : Edge) → (nat_eq x.target y.target && (nat_eq x.source.dist y.source.dist && nat_eq x.source.id y.source.id)) ≡ eq_by_cmp edge_cmp x y
edge_ties x y = (λ i. nat_ties x.target y.target i && near_ties x.source y.source i) ∙ sym (then_eq (nat_cmp x.target y.target) (near_cmp x.source y.source))

-- in order, the targets never fall
pub ordered_targets : (xs : List Edge) → IsNonDecreasingBy (λ (e : Edge). e.target) (ordered edge_cmp xs)
ordered_targets = ordered_by edge_cmp edge_order (λ (e : Edge). e.target) (λ a b. first_least a.target b.target (near_cmp a.source b.source))

-- the part between two starts
module _ (edges : List Edge) (t from end : ℕ) (first : IsStart edges t from) (last : IsStart edges (t + 1) end) (d : Edge) where
  pub starts_rise : from ≤ end
  starts_rise = grind (arith, first.before end d, last.after end d, first.bound, last.bound)

  abbrev test : Edge → Bool
  test e = e.target == t

  abbrev rest : List Edge
  rest = drop from edges

  low : All (λ (e : Edge). test e ≡ false) (take from edges)
  low = All-from_get_or (λ (e : Edge). test e ≡ false) (take from edges) d (λ k within.
      let short : k < from = omega (arith, length-take-le from edges first.bound, within) in
      let less = first.before k d short in
      subst (λ (e : Edge). test e ≡ false) (sym (get_or-take from edges k d short)) (ne_eqb (get_or edges k d).target t (λ e. omega (arith, less, e))))

  mid : All (λ (e : Edge). test e ≡ true) (take (end - from) rest)
  mid = All-from_get_or (λ (e : Edge). test e ≡ true) (take (end - from) rest) d (λ k within.
      let up = starts_rise in
      let most = last.bound in
      let fits : end - from ≤ length rest = omega (arith, length-drop from edges) in
      let short : k < end - from = omega (arith, length-take-le (end - from) rest fits, within) in
      let there : get_or (take (end - from) rest) k d ≡ get_or edges (from + k) d = get_or-take (end - from) rest k d short ∙ get_or-drop from edges k d in
      let more = first.after (from + k) d (omega arith) (omega arith) in
      let less = last.before (from + k) d (omega arith) in
      subst (λ (e : Edge). test e ≡ true) (sym there) (eq-eqb (get_or edges (from + k) d).target t (omega (arith, more, less))))

  high : All (λ (e : Edge). test e ≡ false) (drop (end - from) rest)
  high = All-from_get_or (λ (e : Edge). test e ≡ false) (drop (end - from) rest) d (λ k within.
      let up = starts_rise in
      let long : end + k < length edges = omega (arith, length-drop (end - from) rest, length-drop from edges, within) in
      let place : from + (end - from + k) ≡ end + k = omega arith in
      let there : get_or (drop (end - from) rest) k d ≡ get_or edges (end + k) d = get_or-drop (end - from) rest k d ∙ get_or-drop from edges (end - from + k) d ∙ ap (λ j. get_or edges j d) place in
      let more = last.after (end + k) d (omega arith) long in
      subst (λ (e : Edge). test e ≡ false) (sym there) (ne_eqb (get_or edges (end + k) d).target t (λ e. omega (arith, more, e))))

  pub between_starts : take (end - from) (drop from edges) ≡ filter (λ e. e.target == t) edges
  between_starts =
      sym (ap (filter test) (sym (take-append-drop from edges))
      ∙ filter-append test (take from edges) rest
      ∙ ap (λ ys. ys ++ filter test rest) (filter_none test (take from edges) low)
      ∙ ap (filter test) (sym (take-append-drop (end - from) rest))
      ∙ filter-append test (take (end - from) rest) (drop (end - from) rest)
      ∙ (λ i. filter_each test (take (end - from) rest) mid i ++ filter_none test (drop (end - from) rest) high i)
      ∙ append-nil (take (end - from) rest))

-- the two starts that are read for a target
pub starts_of_target : (edges : List Edge) (starts : List ℕ) (t from end : ℕ) → AreStarts edges starts → t + 1 < length starts → from ≡ get_or starts t from → end ≡ get_or starts (t + 1) end → IsStart edges t from × IsStart edges (t + 1) end
starts_of_target edges starts t from end are within first last = (
  subst (IsStart edges t) (sym (get_or_read starts t from (omega arith) first 0)) (are.starts_at t (omega arith)),
  subst (IsStart edges (t + 1)) (sym (get_or_read starts (t + 1) end within last 0)) (are.starts_at (t + 1) within),
)

-- behind the last start there is no target
pub none_behind : (edges : List Edge) (starts : List ℕ) (t : ℕ) → AreStarts edges starts → length starts ≤ t + 1 → filter (λ (e : Edge). e.target == t) edges ≡ []
none_behind edges starts t are h =
    filter_none (λ (e : Edge). e.target == t) edges
    (All-weaker (λ (e : Edge). e.target + 1 < length starts) (λ (e : Edge). (e.target == t) ≡ false) (λ e k. ne_eqb e.target t (λ q. omega (arith, h, k, q))) edges are.inside)
