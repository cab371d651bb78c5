-- The layers of a file from their parts.
use Rattle.std.proofs.Common.{◌≡◌, ℕ, ◌-◌, List, [], ◌∷◌, length, drop, eqb, Bool, true, false, not, cond, Option, Some, None, Result, Ok, refl, sym, ap, subst, ◌∙◌, nat_lt}
use Rattle.std.specs.List.{range_with_len, enumerate_from}
use Rattle.graph_rows.specs.declared.stamp.Stamp.{Stamp}
use Rattle.graph_rows.specs.Index.{Contents}
use Rattle.graph_files.specs.declared.header.Header.{Header}
use Rattle.graph_files.specs.declared.fault.IndexFault.{IndexFault}
use Rattle.graph_files.specs.declared.fault.IndexFault.TheVariants.{Malformed}
use Rattle.graph_files.specs.declared.fault.IndexRule.TheVariants.{Trailing}
use Rattle.graph_rows.specs.WellFormed.{base_bound, layer_words}
use Rattle.graph_files.specs.Grammar.{◌>>=◌, unless, rows_at, layers_at, end_fault, stamp_at, layers_place, body_at, header_at, index_in}
use Rattle.graph_rows.specs.Stamps.{stamped}
use Rattle.graph_files.specs.Reading.{Fails, Gives}
use Rattle.graph_files.proofs.RowLoop.{fails_with, fails_before, fails_along}

module _ (h : Header) (file : List ℕ) (at : ℕ) where
  abbrev pub the_base : Result (List (List ℕ) × ℕ) IndexFault
  the_base = rows_at (λ id. nat_lt id h.count) (base_bound h.kind h.degree) file (range_with_len 0 h.count) at []

  abbrev pub the_upper : ℕ → Result (List (List (ℕ × List ℕ)) × ℕ) IndexFault
  the_upper place = layers_at h.start h.degree (λ id. nat_lt id h.count) h.count (layer_words h.count (base_bound h.kind h.degree)) file (h.layers - 1) place []

  abbrev pub made : List (List ℕ) → List (List (ℕ × List ℕ)) → Contents
  made base upper = record { kind = h.kind; count = h.count; dim = h.dim; degree = h.degree; start = h.start; layers = enumerate_from 0 base ∷ upper; stamp = None }

  abbrev with_upper : List (List ℕ) × ℕ → List (List (ℕ × List ℕ)) × ℕ → Result Contents IndexFault
  with_upper base upper = unless (end_fault file upper.1) (Ok (made base.0 upper.0))

  abbrev with_base : List (List ℕ) × ℕ → Result Contents IndexFault
  with_base base = the_upper base.1 >>= with_upper base

  whole : body_at h file at ≡ (the_base >>= with_base)
  unfolding body_at
  whole = refl

  pub body_base : (fault : IndexFault) → Fails fault the_base → Fails fault (body_at h file at)
  body_base fault broken = fails_along fault _ (body_at h file at) (sym whole) (fails_before fault the_base with_base broken)

  based : (base : List (List ℕ) × ℕ) → the_base ≡ Ok base → body_at h file at ≡ with_base base
  based base step = whole ∙ ap (λ r. r >>= with_base) step

  pub body_upper : (fault : IndexFault) (base : List (List ℕ) × ℕ) → the_base ≡ Ok base → Fails fault (the_upper base.1) → Fails fault (body_at h file at)
  body_upper fault base step broken = fails_along fault _ (body_at h file at) (sym (based base step)) (fails_before fault (the_upper base.1) (with_upper base) broken)

  all_read : (base : List (List ℕ) × ℕ) (upper : List (List (ℕ × List ℕ)) × ℕ) → the_base ≡ Ok base → the_upper base.1 ≡ Ok upper → body_at h file at ≡ with_upper base upper
  all_read base upper step next = based base step ∙ ap (λ r. r >>= with_upper base) next

  pub body_end : (fault : IndexFault) (base : List (List ℕ) × ℕ) (upper : List (List (ℕ × List ℕ)) × ℕ) → the_base ≡ Ok base → the_upper base.1 ≡ Ok upper → Some fault ≡ end_fault file upper.1 → Fails fault (body_at h file at)
  body_end fault base upper step next broken = fails_with fault (body_at h file at) (all_read base upper step next ∙ ap (λ o. unless o (Ok (made base.0 upper.0))) (sym broken))

  pub body_is : (base : List (List ℕ) × ℕ) (upper : List (List (ℕ × List ℕ)) × ℕ) → the_base ≡ Ok base → the_upper base.1 ≡ Ok upper → None ≡ end_fault file upper.1 → body_at h file at ≡ Ok (made base.0 upper.0)
  body_is base upper step next sound = all_read base upper step next ∙ ap (λ o. unless o (Ok (made base.0 upper.0))) (sym sound)

-- the steps after the header
abbrev pub after_stamp : Header → List ℕ → Option Stamp → Result Contents IndexFault
after_stamp h file s = body_at h file (layers_place h.version) >>= (λ i. Ok (stamped s i))

abbrev pub after_header : List ℕ → Header → Result Contents IndexFault
after_header file h = stamp_at h file >>= after_stamp h file

pub index_header : (fault : IndexFault) (file : List ℕ) → Fails fault (header_at file) → Fails fault (index_in file)
unfolding index_in
index_header fault file broken = fails_before fault (header_at file) (after_header file) broken

pub index_stamp : (fault : IndexFault) (file : List ℕ) (h : Header) → header_at file ≡ Ok h → Fails fault (stamp_at h file) → Fails fault (index_in file)
unfolding index_in
index_stamp fault file h step broken = fails_along fault _ (index_in file) (sym (ap (λ r. r >>= after_header file) step)) (fails_before fault (stamp_at h file) (after_stamp h file) broken)

-- where header and stamp are read
pub index_body : (file : List ℕ) (h : Header) (s : Option Stamp) → header_at file ≡ Ok h → stamp_at h file ≡ Ok s → index_in file ≡ (body_at h file (layers_place h.version) >>= (λ i. Ok (stamped s i)))
unfolding index_in
index_body file h s step next = ap (λ r. r >>= after_header file) step ∙ ap (λ r. r >>= after_stamp h file) next

pub no_layers : (start degree : ℕ) (below : ℕ → Bool) (count words : ℕ) (file : List ℕ) (more at : ℕ) → more ≡ 0 → layers_at start degree below count words file more at [] ≡ Ok ([], at)
unfolding layers_at
no_layers start degree below count words file more at is = rw is refl

end_chosen : (b : Bool) (fault : IndexFault) → true ≡ not b → Some fault ≡ cond b None (Some fault)
end_chosen true fault e = absurd cc
end_chosen false fault e = refl

end_none : (b : Bool) (fault : IndexFault) → false ≡ not b → None ≡ cond b None (Some fault)
end_none true fault e = refl
end_none false fault e = absurd cc

pub something : (file : List ℕ) (at : ℕ) (more : Bool) → more ≡ not (eqb (length (drop at file)) 0) → more ≡ true → Some (Malformed at Trailing) ≡ end_fault file at
something file at more is on = end_chosen (eqb (length (drop at file)) 0) (Malformed at Trailing) (sym on ∙ is)

pub nothing : (file : List ℕ) (at : ℕ) (more : Bool) → more ≡ not (eqb (length (drop at file)) 0) → more ≡ false → None ≡ end_fault file at
nothing file at more is off = end_none (eqb (length (drop at file)) 0) (Malformed at Trailing) (sym off ∙ is)

pub gives_along : {X Y : Type 0} (view : X → Y) (r : Result X IndexFault) (a b : Result Y IndexFault) → a ≡ b → Gives view r a → Gives view r b
gives_along view r a b e given = subst (Gives view r) e given
