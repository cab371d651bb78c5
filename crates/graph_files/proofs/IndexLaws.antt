-- A file is read as an index exactly where it is the text of one that is well formed and within the limits.
use Rattle.std.proofs.Common.{◌≡◌, ℕ, zero, suc, ◌+◌, ◌-◌, ◌^◌, ◌<◌, ◌≤◌, Bool, true, false, not, cond, nat_lt, eqb, List, [], ◌∷◌, ◌++◌, length, drop, get_or, Some, None, Result, Ok, inl, inr, refl, sym, ap, ◌∙◌, arith}
use Rattle.std.specs.List.{range_with_len, enumerate_from, flat_map}
use Rattle.std.specs.Int.{w32, from_le_bytes}
use Rattle.std.proofs.lemmas.Bool.{cases_lt, le-ltb, lt-ltb, ltb-true, ltb-false, eqb-true, eqb-false, ne_eqb, eq-eqb}
use Rattle.std.proofs.lemmas.Bool.Decides.{nat_tests}
use Rattle.std.proofs.lemmas.List.{append-nil, get_or_past, nil_from_length}
use Rattle.std.proofs.lemmas.Map.Steps.{length-le_from_distinct_below}
use Rattle.std.proofs.lemmas.Nat.{from_le_bytes-to_le_bytes_4}
use Rattle.bin_files.specs.Points.{u32_at}
use Rattle.ann_defs.proofs.Members.{has_true}
use Rattle.graph_files.specs.declared.header.Header.{Header}
use Rattle.graph_files.specs.declared.fault.IndexFault.{IndexFault}
use Rattle.graph_files.specs.Grammar.{◌>>=◌, unless, rows_at, layers_at, end_fault, header_at, stamp_at, layers_place, body_at, index_in}
use Rattle.graph_rows.specs.Stamps.{stamped}
use Rattle.graph_files.specs.Header.{header_in, is_version, is_read, form_fault, limit_fault}
use Rattle.graph_rows.specs.Index.{Contents, word, words, layer_ids, layer_rows, rows_bytes, layer_bytes, layers_bytes, stamp_text, version_of, header_words, text_of}
use Rattle.graph_rows.specs.WellFormed.{layers_fit, base_bound, greatest_degree, layer_words}
use Rattle.graph_rows.proofs.LayerLists.{rows_enumerate}
use Rattle.graph_files.proofs.IndexBytes.{text_is}
use Rattle.bin_files.proofs.Turned.{AreBytes}
use Rattle.graph_files.proofs.ReadTexts.{bind_ok, unless_ok, cond_ok, ok_same, word_there, rows_told, layers_told}
use Rattle.graph_files.proofs.RowLoop.{member_is}
use Rattle.graph_files.proofs.StampLaws.{passed, negated}
use Rattle.graph_files.proofs.StampTexts.{stamp_told}
use Rattle.graph_files.proofs.BodyLaws.{after_stamp, after_header}
use Rattle.graph_files.proofs.TextReads.{Holds}
use Rattle.graph_files.proofs.UpperLoop.{Entries}

-- what a header without a broken rule says
pub record IsForm (h : Header) : Type 0 where
  pub magic : h.magic ≡ 1313751376
  pub version : is_version h.version ≡ true
  pub kind : is_read h.kind ≡ true
  pub count : 1 ≤ h.count
  pub dim : 1 ≤ h.dim
  pub degree : 1 ≤ h.degree
  pub start : h.start < h.count
  pub layers : layers_fit h.kind h.layers ≡ true

pub form_of_none : (h : Header) → form_fault h ≡ None → IsForm h
form_of_none h e =
    let a = passed (not (eqb h.magic 1313751376)) _ _ e in
    let b = passed (not (is_version h.version)) _ _ a.1 in
    let c = passed (not (is_read h.kind)) _ _ b.1 in
    let d = passed (eqb h.count 0) _ _ c.1 in
    let f = passed (eqb h.dim 0) _ _ d.1 in
    let g = passed (eqb h.degree 0) _ _ f.1 in
    let s = passed (not (nat_lt h.start h.count)) _ _ g.1 in
    let l = passed (not (layers_fit h.kind h.layers)) _ _ s.1 in
    record {
      magic = eqb-true h.magic 1313751376 (negated (eqb h.magic 1313751376) a.0);
      version = negated (is_version h.version) b.0;
      kind = negated (is_read h.kind) c.0;
      count = some h.count d.0;
      dim = some h.dim f.0;
      degree = some h.degree g.0;
      start = ltb-true h.start h.count (negated (nat_lt h.start h.count) s.0);
      layers = negated (layers_fit h.kind h.layers) l.0;
    }
  where
    some : (n : ℕ) → eqb n 0 ≡ false → 1 ≤ n
    some zero e = absurd (eqb-false 0 0 e refl)
    some (suc n) e = omega arith

pub none_of_form : (h : Header) → IsForm h → form_fault h ≡ None
none_of_form h is =
    rw (
      eq-eqb h.magic 1313751376 is.magic,
      is.version,
      is.kind,
      ne_eqb h.count 0 (λ e. absurd (omega (arith, is.count))),
      ne_eqb h.dim 0 (λ e. absurd (omega (arith, is.dim))),
      ne_eqb h.degree 0 (λ e. absurd (omega (arith, is.degree))),
      lt-ltb h.start h.count is.start,
      is.layers,
    ) refl

-- the limits of a header
pub record IsSmall (h : Header) : Type 0 where
  pub count : h.count ≤ 4194304
  pub dim : h.dim ≤ 2048
  pub degree : h.degree ≤ greatest_degree h.kind
  pub words : layer_words h.count (base_bound h.kind h.degree) ≤ 134217728

pub small_of_none : (h : Header) → limit_fault h ≡ None → IsSmall h
small_of_none h e =
    let a = passed (nat_lt 4194304 h.count) _ _ e in
    let b = passed (nat_lt 2048 h.dim) _ _ a.1 in
    let c = passed (nat_lt (greatest_degree h.kind) h.degree) _ _ b.1 in
    let d = passed (nat_lt 134217728 (layer_words h.count (base_bound h.kind h.degree))) _ _ c.1 in
    record {
      count = ltb-false 4194304 h.count a.0;
      dim = ltb-false 2048 h.dim b.0;
      degree = ltb-false (greatest_degree h.kind) h.degree c.0;
      words = ltb-false 134217728 (layer_words h.count (base_bound h.kind h.degree)) d.0;
    }

pub none_of_small : (h : Header) → IsSmall h → limit_fault h ≡ None
none_of_small h is =
    rw (le-ltb 4194304 h.count is.count, le-ltb 2048 h.dim is.dim, le-ltb (greatest_degree h.kind) h.degree is.degree, le-ltb 134217728 (layer_words h.count (base_bound h.kind h.degree)) is.words) refl

-- how many layers a kind may have
pub layers_some : (kind layers : ℕ) → layers_fit kind layers ≡ true → (1 ≤ layers) × (layers ≤ 16)
layers_some kind layers fit = (grind (arith, nat_tests), grind (arith, nat_tests))

-- eight words at the front of a file
front_words : (file : List ℕ) → 32 ≤ length file → AreBytes file
    → file ≡ words (u32_at file 0 ∷ u32_at file 4 ∷ u32_at file 8 ∷ u32_at file 12 ∷ u32_at file 16 ∷ u32_at file 20 ∷ u32_at file 24 ∷ u32_at file 28 ∷ []) ++ drop 32 file
front_words file long are =
    word_there file 0 (omega arith) are
    ∙ ap (λ xs. word (u32_at file 0) ++ xs) (word_there file 4 (omega arith) are
    ∙ ap (λ xs. word (u32_at file 4) ++ xs) (word_there file 8 (omega arith) are
    ∙ ap (λ xs. word (u32_at file 8) ++ xs) (word_there file 12 (omega arith) are
    ∙ ap (λ xs. word (u32_at file 12) ++ xs) (word_there file 16 (omega arith) are
    ∙ ap (λ xs. word (u32_at file 16) ++ xs) (word_there file 20 (omega arith) are
    ∙ ap (λ xs. word (u32_at file 20) ++ xs) (word_there file 24 (omega arith) are
    ∙ ap (λ xs. word (u32_at file 24) ++ xs) (word_there file 28 (omega arith) are)))))))

header_told : (file : List ℕ) (h : Header) → header_at file ≡ Ok h → (32 ≤ length file) × (h ≡ header_in file) × (form_fault h ≡ None) × (limit_fault h ≡ None)
unfolding header_at
header_told file h e =
    let c = cond_ok (nat_lt (length file) 32) _ (unless (form_fault (header_in file)) (unless (limit_fault (header_in file)) (Ok (header_in file)))) h e in
    let f = unless_ok (form_fault (header_in file)) (unless (limit_fault (header_in file)) (Ok (header_in file))) h c.1 in
    let l = unless_ok (limit_fault (header_in file)) (Ok (header_in file)) h f.1 in
    let is = sym (ok_same (header_in file) h l.1) in
    (ltb-false (length file) 32 c.0, is, ap form_fault is ∙ f.0, ap limit_fault is ∙ l.0)

abbrev made : Header → List (List ℕ) → List Entries → Contents
made h base upper = record { kind = h.kind; count = h.count; dim = h.dim; degree = h.degree; start = h.start; layers = enumerate_from 0 base ∷ upper; stamp = None }

-- what was read from bytes is what they say
pub index_text : (file : List ℕ) (i : Contents) → AreBytes file → index_in file ≡ Ok i → file ≡ text_of i
unfolding index_in body_at
index_text file i are e =
    let b = bind_ok (header_at file) (after_header file) i e in
    let h = b.0 in
    let head = header_told file h b.1 in
    let form = form_of_none h head.2 in
    let m = bind_ok (stamp_at h file) (after_stamp h file) i b.2 in
    let s = m.0 in
    let mark = stamp_told file h s are form.version m.1 in
    let at = layers_place h.version in
    let c = bind_ok (body_at h file at) (λ body. Ok (stamped s body)) i m.2 in
    let whole : stamped s c.0 ≡ i = ok_same (stamped s c.0) i c.2 in
    let Upper : ℕ → Result (List Entries × ℕ) IndexFault = λ at. layers_at h.start h.degree (λ id. nat_lt id h.count) h.count (layer_words h.count (base_bound h.kind h.degree)) file (h.layers - 1) at [] in
    let d = bind_ok (rows_at (λ id. nat_lt id h.count) (base_bound h.kind h.degree) file (range_with_len 0 h.count) at []) (λ base. Upper base.1 >>= (λ upper. unless (end_fault file upper.1) (Ok (made h base.0 upper.0)))) c.0 c.1 in
    let base = d.0 in
    let f = bind_ok (Upper base.1) (λ upper. unless (end_fault file upper.1) (Ok (made h base.0 upper.0))) c.0 d.2 in
    let upper = f.0 in
    let u = unless_ok (end_fault file upper.1) (Ok (made h base.0 upper.0)) c.0 f.2 in
    let is : made h base.0 upper.0 ≡ c.0 = ok_same (made h base.0 upper.0) c.0 u.1 in
    let rows = rows_told file are (λ id. nat_lt id h.count) (base_bound h.kind h.degree) (range_with_len 0 h.count) at [] base d.1 in
    let layers = layers_told file are h.start h.degree (λ id. nat_lt id h.count) h.count (layer_words h.count (base_bound h.kind h.degree)) (h.layers - 1) base.1 [] upper f.1 in
    let ended : drop upper.1 file ≡ [] = nil_from_length (drop upper.1 file) (at_end (length (drop upper.1 file)) _ u.0) in
    let many : h.layers ≡ length (enumerate_from 0 base.0 ∷ upper.0) = let some = layers_some h.kind h.layers form.layers in omega (arith, layers.2, ap (λ (ls : List Entries). length ls) layers.1) in
    let Words : Header → List ℕ = λ k. k.magic ∷ k.version ∷ k.kind ∷ k.count ∷ k.dim ∷ k.degree ∷ k.start ∷ k.layers ∷ [] in
    let fields : Words (header_in file) ≡ header_words (stamped s (made h base.0 upper.0)) =
    sym (ap Words head.1)
    ∙ ap (λ n. n ∷ h.version ∷ h.kind ∷ h.count ∷ h.dim ∷ h.degree ∷ h.start ∷ h.layers ∷ []) form.magic
    ∙ ap (λ n. 1313751376 ∷ n ∷ h.kind ∷ h.count ∷ h.dim ∷ h.degree ∷ h.start ∷ h.layers ∷ []) mark.0
    ∙ ap (λ n. 1313751376 ∷ version_of s ∷ h.kind ∷ h.count ∷ h.dim ∷ h.degree ∷ h.start ∷ n ∷ []) many in
    let body : drop at file ≡ layers_bytes (made h base.0 upper.0).layers =
    rows.3
    ∙ ap (λ xs. rows_bytes rows.0 ++ xs) (layers.3 ∙ ap (λ xs. flat_map layer_bytes layers.0 ++ xs) ended ∙ append-nil (flat_map layer_bytes layers.0))
    ∙ ap (λ (rs : List (List ℕ)). rows_bytes rs ++ flat_map layer_bytes layers.0) (sym rows.1 ∙ sym (rows_enumerate 0 base.0))
    ∙ ap (λ (ls : List Entries). rows_bytes (layer_rows (enumerate_from 0 base.0)) ++ flat_map layer_bytes ls) (sym layers.1) in
    front_words file head.0 are
    ∙ ap (λ ns. words ns ++ drop 32 file) fields
    ∙ ap (λ xs. words (header_words (stamped s (made h base.0 upper.0))) ++ xs) (mark.1 ∙ ap (λ xs. stamp_text s ++ xs) body)
    ∙ text_is (stamped s (made h base.0 upper.0))
    ∙ ap (λ (x : Contents). text_of (stamped s x)) is
    ∙ ap text_of whole
  where
    decided : (b : Bool) (fault : IndexFault) → cond b None (Some fault) ≡ None → b ≡ true
    decided true fault e = refl
    decided false fault e = absurd cc

    at_end : (n : ℕ) (fault : IndexFault) → cond (eqb n 0) None (Some fault) ≡ None → n ≡ 0
    at_end n fault e = eqb-true n 0 (decided (eqb n 0) fault e)

-- bytes up to the end are all that a file has
pub all_bytes : (file : List ℕ) (end : ℕ) → ((k : ℕ) → 0 ≤ k → k < end → get_or file k 0 < 256) → length file ≤ end → AreBytes file
all_bytes file end are fits k = elim (cases_lt k end) as (λ _. get_or file k 0 < 256) [ inl less ↦ are k (omega arith) less | inr more ↦ rw (get_or_past file k 0 (omega arith)) (omega arith) ]

-- the number whose bytes a word is
pub number : (n : ℕ) → n < 2 ^ 32 → from_le_bytes w32 (word n) ≡ n
number n small = from_le_bytes-to_le_bytes_4 n small

pub enumerate_is : (n : ℕ) (layer : Entries) → layer_ids layer ≡ range_with_len n (length layer) → enumerate_from n (layer_rows layer) ≡ layer
enumerate_is n [] e = refl
enumerate_is n (x ∷ layer) e =
    let own : x.0 ≡ n = ap (λ xs. get_or xs 0 0) e in
    let rest : layer_ids layer ≡ range_with_len (n + 1) (length layer) = ap (drop 1) e in
    ap (λ k. (k, x.1) ∷ enumerate_from (n + 1) (layer_rows layer)) (sym own) ∙ ap (λ xs. x ∷ xs) (enumerate_is (n + 1) layer rest)

pub bound_small : (kind degree : ℕ) → degree ≤ greatest_degree kind → base_bound kind degree < 2 ^ 32
bound_small kind degree le = grind (arith, nat_tests)

pub degree_small : (kind degree : ℕ) → degree ≤ greatest_degree kind → degree ≤ 128
degree_small kind degree le = grind (arith, nat_tests)

pub holds_below : (count : ℕ) → count ≤ 4194304 → Holds (λ v. nat_lt v count) count
holds_below count few = record {
  many = λ xs distinct inside. length-le_from_distinct_below xs count distinct (λ q m. ltb-true q count (inside q (has_true xs q (sym (member_is xs q) ∙ m))));
  small = λ z m. let lt = ltb-true z count m in omega arith;
}
