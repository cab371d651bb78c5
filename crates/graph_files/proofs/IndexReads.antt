-- The text of a well-formed index within the limits is read as this index.
use Rattle.std.proofs.Common.{◌≡◌, ℕ, ◌+◌, ◌-◌, ◌^◌, ◌<◌, ◌≤◌, Bool, true, cond, nat_lt, eqb, List, [], ◌∷◌, ◌++◌, length, drop, Option, Some, None, Ok, Err, refl, sym, ap, ◌∙◌, arith, append_assoc, length-append}
use Rattle.std.specs.List.{range_with_len, enumerate_from, flat_map}
use Rattle.std.proofs.lemmas.Bool.{le-ltb, ltb-true}
use Rattle.std.proofs.lemmas.Bool.Decides.{nat_tests}
use Rattle.std.proofs.lemmas.List.{append-nil, length-map}
use Rattle.std.proofs.lemmas.List.FromFn.{length-range_with_len}
use Rattle.graph_files.specs.declared.header.Header.{Header}
use Rattle.graph_files.specs.declared.fault.IndexFault.TheVariants.{Malformed}
use Rattle.graph_files.specs.declared.fault.IndexRule.TheVariants.{ShortHeader, Trailing}
use Rattle.graph_files.specs.Grammar.{◌>>=◌, unless, rows_at, layers_at, end_fault, header_at, layers_place, body_at, index_in}
use Rattle.graph_rows.specs.Stamps.{stamped}
use Rattle.graph_files.specs.Header.{header_in, is_read, form_fault, limit_fault}
use Rattle.graph_rows.specs.declared.stamp.Stamp.{Stamp}
use Rattle.graph_rows.specs.Index.{Contents, words, layer_ids, layer_rows, rows_bytes, layer_bytes, layers_bytes, stamp_text, version_of, header_words, text_of}
use Rattle.graph_rows.specs.WellFormed.{base_bound, layer_words, IsWellFormed, IsWithinLimits}
use Rattle.graph_files.proofs.IndexBytes.{text_is}
use Rattle.graph_files.proofs.IndexLaws.{IsForm, IsSmall, none_of_form, none_of_small, layers_some, number, enumerate_is, bound_small, holds_below}
use Rattle.graph_files.proofs.BodyLaws.{after_stamp, after_header}
use Rattle.graph_files.proofs.StampReads.{version_small, version_read, place_is, stamp_of_text}
use Rattle.graph_files.proofs.ReadTexts.{ok_same}
use Rattle.graph_files.proofs.TextReads.{base_here, layers_here, behind, length-words}
use Rattle.graph_files.proofs.UpperLoop.{Entries}

module _ (kind count dim degree start : ℕ) (base : Entries) (upper : List Entries) (stamp : Option Stamp) where
  abbrev index : Contents
  index = record { kind = kind; count = count; dim = dim; degree = degree; start = start; layers = base ∷ upper; stamp = stamp }

  abbrev text : List ℕ
  text = words (header_words index) ++ stamp_text stamp ++ layers_bytes (base ∷ upper)

  abbrev head : Header
  head = record { magic = 1313751376; version = version_of stamp; kind = kind; count = count; dim = dim; degree = degree; start = start; layers = length (base ∷ upper) }

  module _ (formed : IsWellFormed index) (limits : IsWithinLimits index) (read : is_read kind ≡ true) where
    few : length (base ∷ upper) < 2 ^ 32
    few = let some = layers_some kind (length (base ∷ upper)) formed.layers in omega (arith, some.1)

    thin : degree < 2 ^ 32
    thin = formed.degree.1

    header_is : header_in text ≡ head
    header_is =
        let v = number (version_of stamp) (version_small stamp) in
        let k = number kind (omega (arith, formed.kind.1)) in
        let n = number count formed.count.1 in
        let d = number dim formed.dim.1 in
        let r = number degree formed.degree.1 in
        let s = number start (omega (arith, formed.start, formed.count.1)) in
        let l = number (length (base ∷ upper)) few in
        λ i. record { magic = 1313751376; version = v i; kind = k i; count = n i; dim = d i; degree = r i; start = s i; layers = l i }

    form : IsForm head
    form = record { magic = refl; version = version_read stamp; kind = read; count = formed.count.0; dim = formed.dim.0; degree = formed.degree.0; start = formed.start; layers = formed.layers }

    small : IsSmall head
    small = record { count = limits.count; dim = limits.dim; degree = limits.degree; words = omega (arith, limits.words) }

    long : 32 ≤ length text
    long = omega (arith, length-append (words (header_words index)) (stamp_text stamp ++ layers_bytes (base ∷ upper)), length-words (header_words index))

    header_here : header_at text ≡ Ok head
    unfolding header_at
    header_here =
        ap (λ b. cond b (Err (Malformed (length text) ShortHeader)) (unless (form_fault (header_in text)) (unless (limit_fault (header_in text)) (Ok (header_in text))))) (le-ltb (length text) 32 long)
        ∙ ap (λ (h : Header). unless (form_fault h) (unless (limit_fault h) (Ok h))) header_is
        ∙ ap (λ o. unless o (unless (limit_fault head) (Ok head))) (none_of_form head form)
        ∙ ap (λ o. unless o (Ok head)) (none_of_small head small)

    abbrev rows : List (List ℕ)
    rows = layer_rows base

    abbrev bound : ℕ
    bound = base_bound kind degree

    abbrev held : ℕ → Bool
    held id = nat_lt id count

    abbrev place : ℕ
    place = layers_place (version_of stamp)

    abbrev upper_place : ℕ
    upper_place = place + length (rows_bytes rows)

    abbrev end : ℕ
    end = upper_place + length (flat_map layer_bytes upper)

    before_layers : drop place text ≡ rows_bytes rows ++ flat_map layer_bytes upper
    before_layers =
        behind text (words (header_words index) ++ stamp_text stamp) (layers_bytes (base ∷ upper)) 0 place (sym (append_assoc (words (header_words index)) (stamp_text stamp) (layers_bytes (base ∷ upper))))
        (omega (arith, length-append (words (header_words index)) (stamp_text stamp), length-words (header_words index), place_is kind stamp formed.stamp))

    after_base : drop upper_place text ≡ flat_map layer_bytes upper ++ []
    after_base = behind text (rows_bytes rows) (flat_map layer_bytes upper) place upper_place before_layers refl ∙ sym (append-nil (flat_map layer_bytes upper))

    at_end : drop end text ≡ []
    at_end = behind text (flat_map layer_bytes upper) [] upper_place end after_base refl

    base_read : rows_at held bound text (range_with_len 0 count) place [] ≡ Ok (rows, upper_place)
    base_read =
        base_here text held bound base (range_with_len 0 count) place (flat_map layer_bytes upper) formed.rows formed.base (λ z m. let lt = ltb-true z count m in omega (arith, formed.count.1)) (bound_small kind degree limits.degree) before_layers

    upper_read : layers_at start degree held count (layer_words count bound) text (length (base ∷ upper) - 1) upper_place [] ≡ Ok (upper, end)
    upper_read =
        let more : length (base ∷ upper) - 1 ≡ length upper = omega arith in
        ap (λ k. layers_at start degree held count (layer_words count bound) text k upper_place []) more
        ∙ layers_here text start degree held count (layer_words count bound) upper [] upper_place [] (holds_below count limits.count) formed.count.1 thin formed.upper limits.words after_base

    abbrev made : List (List ℕ) → List Entries → Contents
    made base upper = record { kind = kind; count = count; dim = dim; degree = degree; start = start; layers = enumerate_from 0 base ∷ upper; stamp = None }

    ended : end_fault text end ≡ None
    ended = ap (λ xs. cond (eqb (length xs) 0) None (Some (Malformed end Trailing))) at_end

    whole : stamped stamp (made rows upper) ≡ index
    whole =
        let many : count ≡ length base = sym (length-range_with_len 0 count) ∙ ap length (sym formed.base) ∙ length-map base (λ (e : ℕ × List ℕ). e.0) in
        let listed : layer_ids base ≡ range_with_len 0 (length base) = formed.base ∙ ap (range_with_len 0) many in
        ap (λ (l : Entries). record { kind = kind; count = count; dim = dim; degree = degree; start = start; layers = l ∷ upper; stamp = stamp }) (enumerate_is 0 base listed)

    body_read : body_at head text place ≡ Ok (made rows upper)
    unfolding body_at
    body_read =
        ap (λ r. r >>= (λ b. layers_at start degree held count (layer_words count bound) text (length (base ∷ upper) - 1) b.1 [] >>= (λ u. unless (end_fault text u.1) (Ok (made b.0 u.0))))) base_read
        ∙ ap (λ r. r >>= (λ u. unless (end_fault text u.1) (Ok (made rows u.0)))) upper_read
        ∙ ap (λ o. unless o (Ok (made rows upper))) ended

    pub parts_read : index_in (text_of index) ≡ Ok index
    unfolding index_in
    parts_read =
        ap index_in (sym (text_is index))
        ∙ ap (λ r. r >>= after_header text) header_here
        ∙ ap (λ r. r >>= after_stamp head text) (stamp_of_text stamp head (layers_bytes (base ∷ upper)) formed.stamp refl)
        ∙ ap (λ r. r >>= (λ i. Ok (stamped stamp i))) body_read
        ∙ ap (λ i. Ok i) whole

abbrev as_index : ℕ → ℕ → ℕ → ℕ → ℕ → List Entries → Option Stamp → Contents
as_index kind count dim degree start layers stamp = record { kind = kind; count = count; dim = dim; degree = degree; start = start; layers = layers; stamp = stamp }

-- each kind of a well-formed index is read
read_of_kind : (kind : ℕ) → (1 ≤ kind) × (kind ≤ 3) → is_read kind ≡ true
read_of_kind kind is = let low = is.0 in let high = is.1 in grind (arith, nat_tests)

split : (kind count dim degree start : ℕ) (layers : List Entries) (stamp : Option Stamp) → IsWellFormed (as_index kind count dim degree start layers stamp)
    → IsWithinLimits (as_index kind count dim degree start layers stamp)
    → index_in (text_of (as_index kind count dim degree start layers stamp)) ≡ Ok (as_index kind count dim degree start layers stamp)
split kind count dim degree start [] stamp formed limits = let some = layers_some kind 0 formed.layers in absurd (omega (arith, some.0))
split kind count dim degree start (base ∷ upper) stamp formed limits = parts_read kind count dim degree start base upper stamp formed limits (read_of_kind kind formed.kind)

-- the text of a well-formed index is read as this index
pub index_read : (i : Contents) → IsWellFormed i → IsWithinLimits i → index_in (text_of i) ≡ Ok i
index_read i formed limits = split i.kind i.count i.dim i.degree i.start i.layers i.stamp formed limits

-- two indexes with one text are one
pub text_unique : (i j : Contents) → IsWellFormed i → IsWithinLimits i → IsWellFormed j → IsWithinLimits j → text_of i ≡ text_of j → i ≡ j
text_unique i j formed limits formed_too limits_too same = ok_same i j (sym (index_read i formed limits) ∙ ap index_in same ∙ index_read j formed_too limits_too)
