-- A further layer from its parts.
use Rattle.std.proofs.Common.{◌≡◌, ℕ, ◌+◌, ◌*◌, ◌≤◌, Bool, true, false, cond, List, [], Some, None, Result, Ok, refl, sym, ap, ◌∙◌, arith}
use Rattle.std.proofs.lemmas.Bool.Decides.{nat_tests}
use Rattle.graph_files.specs.declared.fault.IndexFault.{IndexFault}
use Rattle.graph_files.specs.declared.fault.IndexFault.TheVariants.{Malformed}
use Rattle.graph_files.specs.declared.fault.IndexRule.TheVariants.{LayerIds}
use Rattle.graph_files.specs.Grammar.{◌>>=◌, unless, word_at, members_fault, start_fault, layer_ids_at, rows_at, layer_at}
use Rattle.ann_defs.specs.Graph.{has}
use Rattle.graph_files.specs.Reading.{Fails}
use Rattle.graph_files.proofs.RowLoop.{fails_with, fails_before, fails_along}

module _ (start degree : ℕ) (below : ℕ → Bool) (count words : ℕ) (file : List ℕ) (at : ℕ) where
  abbrev the_layer : Result (List ℕ × List (List ℕ) × ℕ) IndexFault
  the_layer = layer_at start degree below count words file at

  abbrev the_rows : ℕ → List ℕ → Result (List (List ℕ) × ℕ) IndexFault
  the_rows members ids = rows_at (λ id. has ids id) degree file ids (at + 4 + 4 * members) []

  abbrev the_ids : ℕ → Result (List ℕ) IndexFault
  the_ids members = layer_ids_at below file members (at + 4) 0 []

  abbrev with_rows : List ℕ → List (List ℕ) × ℕ → Result (List ℕ × List (List ℕ) × ℕ) IndexFault
  with_rows ids rows = Ok (ids, rows.0, rows.1)

  abbrev with_ids : ℕ → List ℕ → Result (List ℕ × List (List ℕ) × ℕ) IndexFault
  with_ids members ids = unless (start_fault start at ids) (the_rows members ids) >>= with_rows ids

  abbrev with_count : ℕ → Result (List ℕ × List (List ℕ) × ℕ) IndexFault
  with_count members = unless (members_fault degree count words at members) (the_ids members) >>= with_ids members

  whole : the_layer ≡ (word_at file at >>= with_count)
  unfolding layer_at
  whole = refl

  pub layer_short : (fault : IndexFault) → Fails fault (word_at file at) → Fails fault (layer_at start degree below count words file at)
  layer_short fault short = fails_along fault _ the_layer (sym whole) (fails_before fault (word_at file at) with_count short)

  counted : (members : ℕ) → word_at file at ≡ Ok members → the_layer ≡ with_count members
  counted members word = whole ∙ ap (λ r. r >>= with_count) word

  pub layer_count : (fault : IndexFault) (members : ℕ) → word_at file at ≡ Ok members → Some fault ≡ members_fault degree count words at members → Fails fault (layer_at start degree below count words file at)
  layer_count fault members word broken = fails_with fault the_layer (counted members word ∙ ap (λ o. unless o (the_ids members) >>= with_ids members) (sym broken))

  listed : (members : ℕ) → word_at file at ≡ Ok members → None ≡ members_fault degree count words at members → the_layer ≡ (the_ids members >>= with_ids members)
  listed members word sound = counted members word ∙ ap (λ o. unless o (the_ids members) >>= with_ids members) (sym sound)

  pub layer_ids_fail : (fault : IndexFault) (members : ℕ) → word_at file at ≡ Ok members → None ≡ members_fault degree count words at members
      → Fails fault (layer_ids_at below file members (at + 4) 0 []) → Fails fault (layer_at start degree below count words file at)
  layer_ids_fail fault members word sound broken = fails_along fault _ the_layer (sym (listed members word sound)) (fails_before fault (the_ids members) (with_ids members) broken)

  started : (members : ℕ) (ids : List ℕ) → word_at file at ≡ Ok members → None ≡ members_fault degree count words at members → layer_ids_at below file members (at + 4) 0 [] ≡ Ok ids → the_layer ≡ with_ids members ids
  started members ids word sound step = listed members word sound ∙ ap (λ r. r >>= with_ids members) step

  pub layer_start : (fault : IndexFault) (members : ℕ) (ids : List ℕ) → word_at file at ≡ Ok members → None ≡ members_fault degree count words at members → layer_ids_at below file members (at + 4) 0 [] ≡ Ok ids
      → Some fault ≡ start_fault start at ids → Fails fault (layer_at start degree below count words file at)
  layer_start fault members ids word sound step broken = fails_with fault the_layer (started members ids word sound step ∙ ap (λ o. unless o (the_rows members ids) >>= with_rows ids) (sym broken))

  rowed : (members : ℕ) (ids : List ℕ) → word_at file at ≡ Ok members → None ≡ members_fault degree count words at members → layer_ids_at below file members (at + 4) 0 [] ≡ Ok ids
      → None ≡ start_fault start at ids → the_layer ≡ (the_rows members ids >>= with_rows ids)
  rowed members ids word sound step reached = started members ids word sound step ∙ ap (λ o. unless o (the_rows members ids) >>= with_rows ids) (sym reached)

  pub layer_rows_fail : (fault : IndexFault) (members : ℕ) (ids : List ℕ) → word_at file at ≡ Ok members → None ≡ members_fault degree count words at members → layer_ids_at below file members (at + 4) 0 [] ≡ Ok ids
      → None ≡ start_fault start at ids → Fails fault (rows_at (λ id. has ids id) degree file ids (at + 4 + 4 * members) []) → Fails fault (layer_at start degree below count words file at)
  layer_rows_fail fault members ids word sound step reached broken =
      fails_along fault _ the_layer (sym (rowed members ids word sound step reached)) (fails_before fault (the_rows members ids) (with_rows ids) broken)

  pub layer_is : (members : ℕ) (ids : List ℕ) (rows : List (List ℕ)) (end : ℕ) → word_at file at ≡ Ok members → None ≡ members_fault degree count words at members → layer_ids_at below file members (at + 4) 0 [] ≡ Ok ids
      → None ≡ start_fault start at ids → rows_at (λ id. has ids id) degree file ids (at + 4 + 4 * members) [] ≡ Ok (rows, end) → layer_at start degree below count words file at ≡ Ok (ids, rows, end)
  layer_is members ids rows end word sound step reached last = rowed members ids word sound step reached ∙ ap (λ r. r >>= with_rows ids) last

-- what a sound count and a sound start say
pub record IsCount (degree count words members : ℕ) : Type 0 where
  pub some : 1 ≤ members
  pub within : members ≤ count
  pub fits : words + members * (degree + 1) ≤ 134217728

pub sound_count : (degree count words at members : ℕ) → None ≡ members_fault degree count words at members → IsCount degree count words members
sound_count degree count words at members sound = record { some = grind (arith, nat_tests); within = grind (arith, nat_tests); fits = grind (arith, nat_tests) }

reached : (b : Bool) (at : ℕ) → None ≡ cond b None (Some (Malformed at LayerIds)) → b ≡ true
reached true at e = refl
reached false at e = absurd cc

pub sound_start : (start at : ℕ) (ids : List ℕ) → None ≡ start_fault start at ids → has ids start ≡ true
sound_start start at ids sound = reached (has ids start) at sound
