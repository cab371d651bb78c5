-- What is known of an index whose layers were read.
use Rattle.std.proofs.Common.{◌≡◌, ℕ, ◌+◌, ◌≤◌, true, nat_lt, List, ◌∷◌, length, sym, ap, subst, ◌∙◌, arith, None}
use Rattle.std.specs.List.{sum_by, range_with_len, enumerate_from}
use Rattle.std.proofs.lemmas.Bool.Decides.{nat_tests}
use Rattle.graph_files.specs.declared.header.Header.{Header}
use Rattle.graph_files.specs.Header.{is_read, form_fault, limit_fault}
use Rattle.graph_rows.specs.Index.{Contents}
use Rattle.graph_rows.specs.Members.{AreRows}
use Rattle.graph_rows.specs.WellFormed.{layers_fit, base_bound, layer_words, AreRowsOf, AreFurtherLayers, IsWellFormed, IsWithinLimits}
use Rattle.graph_files.proofs.IndexLaws.{form_of_none, small_of_none, degree_small}
use Rattle.graph_files.proofs.Layering.{rows_counted}
use Rattle.graph_rows.proofs.LayerLists.{ids_enumerate}
use Rattle.graph_files.proofs.UpperLoop.{Entries}

-- the kinds that are read are kinds
kind_of_read : (kind : ℕ) → is_read kind ≡ true → (1 ≤ kind) × (kind ≤ 3)
kind_of_read kind read = (grind (arith, nat_tests), grind (arith, nat_tests))

module _ (h : Header) (kind : ℕ) (rows : List (List ℕ)) (upper : List Entries) (formed : form_fault h ≡ None) (limits : limit_fault h ≡ None) (is : kind ≡ h.kind) where
  abbrev index : ℕ → Contents
  index k = record { kind = k; count = h.count; dim = h.dim; degree = h.degree; start = h.start; layers = enumerate_from 0 rows ∷ upper; stamp = None }

  pub body_formed : (bound : ℕ) → bound ≡ base_bound h.kind h.degree → length rows ≡ h.count → AreRows (λ id. nat_lt id h.count) bound (range_with_len 0 h.count) (length rows) rows
      → AreFurtherLayers h.start h.degree (λ id. nat_lt id h.count) upper → length upper + 1 ≡ h.layers → IsWellFormed (index kind)
  body_formed bound bound_is count are further many =
      let form = form_of_none h formed in
      let small = small_of_none h limits in
      let layers : length (enumerate_from 0 rows ∷ upper) ≡ h.layers = omega arith in
      let whole : IsWellFormed (index h.kind) = record {
        kind = kind_of_read h.kind form.kind;
        count = (form.count, omega (arith, small.count));
        dim = (form.dim, omega (arith, small.dim));
        degree = (form.degree, omega (arith, small.degree, degree_small h.kind h.degree small.degree));
        start = form.start;
        layers = ap (layers_fit h.kind) layers ∙ form.layers;
        base = ids_enumerate 0 rows ∙ ap (range_with_len 0) count;
        rows = subst (λ b. AreRowsOf (λ id. nat_lt id h.count) b (enumerate_from 0 rows)) bound_is (rows_counted (λ id. nat_lt id h.count) bound h.count rows count are);
        upper = further;
        stamp = tt;
      } in
      subst (λ k. IsWellFormed (index k)) (sym is) whole

  pub body_limits : layer_words h.count (base_bound h.kind h.degree) + sum_by (λ (layer : Entries). layer_words (length layer) h.degree) upper ≤ 134217728 → IsWithinLimits (index kind)
  body_limits fits =
      let small = small_of_none h limits in
      let whole : IsWithinLimits (index h.kind) = record { count = small.count; dim = small.dim; degree = small.degree; words = fits } in
      subst (λ k. IsWithinLimits (index k)) (sym is) whole
