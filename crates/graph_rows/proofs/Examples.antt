-- Small indexes and their files, computed.
use Rattle.std.proofs.Common.{◌≡◌, ◌≢◌, ℕ, zero, suc, ◌<◌, true, List, [], ◌∷◌, map, sym, subst, get_or, refl, inl, arith, lit<, lit≤, nat_lt}
use Rattle.std.specs.Prelude.{None}
use Rattle.std.specs.List.{IsDistinct, enumerate_from}
use Rattle.std.proofs.lemmas.List.Elements.{All-nil, All-cons}
use Rattle.ann_defs.specs.Graph.{has, IsGoodRow, AreGoodRows}
use Rattle.graph_rows.specs.Index.{Contents, flat_contents, text_of, edges_of, longest_of}
use Rattle.graph_rows.specs.Flat.{Flat}
use Rattle.graph_rows.specs.Layers.{Layered}
use Rattle.graph_rows.specs.WellFormed.{IsRowIn, IsFurtherLayer, IsWellFormed}
use Rattle.graph_rows.proofs.Totals.{entries_of}
use Rattle.graph_rows.proofs.FlatIndex.{flat_well_formed, flat_rows}

-- four points in a row, two of them inserted together
abbrev pub four_rows : List (List ℕ)
four_rows = (1 ∷ []) ∷ (0 ∷ 2 ∷ []) ∷ (1 ∷ []) ∷ (1 ∷ []) ∷ []

abbrev pub four_points : Contents
four_points = flat_contents 1 4 1 2 0 four_rows

-- the same rows with a further layer that holds id 1
abbrev pub two_layers : Contents
two_layers = record { kind = 2; count = 4; dim = 1; degree = 1; start = 1; layers = enumerate_from 0 four_rows ∷ ((1, []) ∷ []) ∷ []; stamp = None }

one_point_file : text_of (flat_contents 1 1 1 64 0 ([] ∷ []))
    ≡ 80 ∷ 65 ∷ 78 ∷ 78 ∷ 1 ∷ 0 ∷ 0 ∷ 0 ∷ 1 ∷ 0 ∷ 0 ∷ 0 ∷ 1 ∷ 0 ∷ 0 ∷ 0 ∷ 1 ∷ 0 ∷ 0 ∷ 0 ∷ 64 ∷ 0 ∷ 0 ∷ 0 ∷ 0 ∷ 0 ∷ 0 ∷ 0 ∷ 1 ∷ 0 ∷ 0 ∷ 0 ∷ 0 ∷ 0 ∷ 0 ∷ 0 ∷ []
unfolding text_of
one_point_file = refl

four_points_file : text_of four_points
    ≡ 80 ∷ 65 ∷ 78 ∷ 78 ∷ 1 ∷ 0 ∷ 0 ∷ 0 ∷ 1 ∷ 0 ∷ 0 ∷ 0 ∷ 4 ∷ 0 ∷ 0 ∷ 0 ∷ 1 ∷ 0 ∷ 0 ∷ 0 ∷ 2 ∷ 0 ∷ 0 ∷ 0 ∷ 0 ∷ 0 ∷ 0 ∷ 0 ∷ 1 ∷ 0 ∷ 0 ∷ 0 ∷ 1 ∷ 0 ∷ 0 ∷ 0 ∷ 1 ∷ 0 ∷ 0 ∷ 0 ∷ 2 ∷ 0 ∷ 0 ∷ 0 ∷ 0 ∷ 0 ∷ 0 ∷ 0 ∷ 2 ∷ 0 ∷ 0 ∷ 0 ∷ 1 ∷ 0 ∷ 0 ∷ 0 ∷ 1 ∷ 0 ∷ 0 ∷ 0 ∷ 1 ∷ 0 ∷ 0 ∷ 0 ∷ 1 ∷ 0 ∷ 0 ∷ 0 ∷ []
unfolding text_of
four_points_file = refl

two_layers_file : text_of two_layers
    ≡ 80 ∷ 65 ∷ 78 ∷ 78 ∷ 1 ∷ 0 ∷ 0 ∷ 0 ∷ 2 ∷ 0 ∷ 0 ∷ 0 ∷ 4 ∷ 0 ∷ 0 ∷ 0 ∷ 1 ∷ 0 ∷ 0 ∷ 0 ∷ 1 ∷ 0 ∷ 0 ∷ 0 ∷ 1 ∷ 0 ∷ 0 ∷ 0 ∷ 2 ∷ 0 ∷ 0 ∷ 0 ∷ 1 ∷ 0 ∷ 0 ∷ 0 ∷ 1 ∷ 0 ∷ 0 ∷ 0 ∷ 2 ∷ 0 ∷ 0 ∷ 0 ∷ 0 ∷ 0 ∷ 0 ∷ 0 ∷ 2 ∷ 0 ∷ 0 ∷ 0 ∷ 1 ∷ 0 ∷ 0 ∷ 0 ∷ 1 ∷ 0 ∷ 0 ∷ 0 ∷ 1 ∷ 0 ∷ 0 ∷ 0 ∷ 1 ∷ 0 ∷ 0 ∷ 0 ∷ 1 ∷ 0 ∷ 0 ∷ 0 ∷ 1 ∷ 0 ∷ 0 ∷ 0 ∷ 0 ∷ 0 ∷ 0 ∷ 0 ∷ []
unfolding text_of
two_layers_file = refl

four_edges : edges_of four_points ≡ 5
four_edges = refl

four_longest : longest_of four_points ≡ 2
four_longest = refl

one_neighbour : (u v : ℕ) → v < 4 → v ≢ u → IsGoodRow 4 2 u (v ∷ [])
unfolding IsDistinct
one_neighbour u v lt ne = record {
  inside = All-cons (λ w. w < 4) v [] lt (All-nil (λ w. w < 4));
  distinct = (tt, tt);
  others = All-cons (λ w. w ≢ u) v [] ne (All-nil (λ w. w ≢ u));
  short = lit≤ tt;
}

two_neighbours : IsGoodRow 4 2 1 (0 ∷ 2 ∷ [])
unfolding IsDistinct
two_neighbours = record {
  inside = All-cons (λ w. w < 4) 0 (2 ∷ []) (lit< tt) (All-cons (λ w. w < 4) 2 [] (lit< tt) (All-nil (λ w. w < 4)));
  distinct = ((refl, tt), (tt, tt));
  others = All-cons (λ w. w ≢ 1) 0 (2 ∷ []) (omega arith) (All-cons (λ w. w ≢ 1) 2 [] (omega arith) (All-nil (λ w. w ≢ 1)));
  short = lit≤ tt;
}

four_good_at : (u : ℕ) → u < 4 → IsGoodRow 4 2 u (get_or four_rows u [])
four_good_at zero lt = one_neighbour 0 1 (lit< tt) (omega arith)
four_good_at (suc zero) lt = two_neighbours
four_good_at (suc (suc zero)) lt = one_neighbour 2 1 (lit< tt) (omega arith)
four_good_at (suc (suc (suc zero))) lt = one_neighbour 3 1 (lit< tt) (omega arith)
four_good_at (suc (suc (suc (suc u)))) lt = absurd (omega arith)

pub four_good : AreGoodRows 4 2 four_rows
four_good = record { count = refl; good = four_good_at }

pub four_well_formed : IsWellFormed four_points
four_well_formed = flat_well_formed 1 4 1 2 0 four_rows four_good (lit≤ tt) (lit≤ tt) (lit≤ tt) (lit≤ tt) (lit≤ tt) (lit≤ tt) (lit< tt) (inl refl)

abbrev own_row : ℕ × List ℕ → Type 0
own_row e = IsRowIn (λ v. has (1 ∷ []) v) 1 e.0 e.1

further : IsFurtherLayer 1 1 (λ v. nat_lt v 4) ((1, []) ∷ [])
unfolding IsDistinct
further = record {
  some = lit≤ tt;
  ascend = λ j k less lt. absurd (omega arith);
  inside = All-cons (λ v. nat_lt v 4 ≡ true) 1 [] refl (All-nil (λ v. nat_lt v 4 ≡ true));
  has_start = refl;
  rows = All-cons own_row (1, []) [] (record { inside = All-nil (λ v. has (1 ∷ []) v ≡ true); distinct = tt; others = All-nil (λ v. v ≢ 1); short = lit≤ tt }) (All-nil own_row);
}

pub two_well_formed : IsWellFormed two_layers
two_well_formed = record {
  kind = (lit≤ tt, lit≤ tt);
  count = (lit≤ tt, lit< tt);
  dim = (lit≤ tt, lit< tt);
  degree = (lit≤ tt, lit< tt);
  start = lit< tt;
  layers = refl;
  base = refl;
  rows = flat_rows 4 2 four_rows four_good;
  upper = (further, tt);
  stamp = tt;
}

abbrev index_of : ℕ → ℕ → ℕ → List (List ℕ) → List Layered → Contents
index_of kind degree start rows upper = record { kind = kind; count = 4; dim = 1; degree = degree; start = start; layers = enumerate_from 0 rows ∷ map entries_of upper; stamp = None }

abbrev pub four_flat : Flat
four_flat = record { width = 2; rows = four_rows }

abbrev pub one_id : Layered
one_id = record { width = 1; entries = (1, []) ∷ [] }

-- the same of what was built
pub four_built : (g : Flat) (upper : List Layered) → g ≡ four_flat → upper ≡ [] → IsWellFormed (index_of 1 2 0 g.rows upper)
four_built g upper e none = subst (λ ls. IsWellFormed (index_of 1 2 0 g.rows ls)) (sym none) (subst (λ (f : Flat). IsWellFormed (index_of 1 2 0 f.rows [])) (sym e) four_well_formed)

pub two_built : (g : Flat) (l : Layered) (upper : List Layered) → g ≡ four_flat → l ≡ one_id → upper ≡ l ∷ [] → IsWellFormed (index_of 2 1 1 g.rows upper)
two_built g l upper e f one =
    subst (λ ls. IsWellFormed (index_of 2 1 1 g.rows ls)) (sym one)
    (subst (λ (k : Layered). IsWellFormed (index_of 2 1 1 g.rows (k ∷ []))) (sym f) (subst (λ (h : Flat). IsWellFormed (index_of 2 1 1 h.rows (one_id ∷ []))) (sym e) two_well_formed))
