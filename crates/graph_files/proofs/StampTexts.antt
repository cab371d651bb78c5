-- The bytes of a stamp: what was read from bytes is what they say, and what is written is read.
use Rattle.std.proofs.Common.{◌≡◌, ◌≢◌, ℕ, suc, zero, ◌+◌, ◌*◌, ◌<◌, ◌≤◌, Bool, true, false, cond, eqb, List, ◌++◌, length, take, drop, get_or, Option, Some, None, Ok, refl, sym, ap, subst, ◌∙◌, arith, length-drop, inl, inr}
use Rattle.std.specs.Prelude.{◌⊎◌}
use Rattle.std.specs.Int.{w64, to_le_bytes}
use Rattle.std.proofs.lemmas.Bool.{eq-eqb, eqb-true}
use Rattle.std.proofs.lemmas.Bool.Decides.{nat_tests}
use Rattle.std.proofs.lemmas.List.{drop-append-le, drop-drop, length-take, take_all, take-append-drop}
use Rattle.std.proofs.lemmas.Nat.{le_bytes_8}
use Rattle.bin_files.specs.Points.{u32_at}
use Rattle.bin_files.proofs.Turned.{AreBytes}
use Rattle.graph_rows.specs.declared.stamp.Stamp.{Stamp}
use Rattle.graph_rows.specs.Index.{word, stamp_bytes, stamp_text, version_of}
use Rattle.graph_files.specs.declared.header.Header.{Header}
use Rattle.graph_files.specs.Header.{is_version}
use Rattle.graph_files.specs.Grammar.{stamp_at, layers_place}
use Rattle.graph_files.specs.Stamping.{u64_at, stamp_in, stamp_fault}
use Rattle.graph_files.proofs.ReadTexts.{unless_ok, ok_same, word_there}
use Rattle.graph_files.proofs.StampLaws.{no_stamp, some_stamp, stamp_whole, part_below}

-- eight bytes from a place on
long_there : (file : List ℕ) (at next : ℕ) → at + 8 ≤ length file → next ≡ at + 8 → AreBytes file → drop at file ≡ to_le_bytes w64 (u64_at file at) ++ drop next file
long_there file at next fits is are =
    let eight : length (take 8 (drop at file)) ≡ 8 = length-take 8 (drop at file) ∙ omega (arith, length-drop at file) in
    sym (take-append-drop 8 (drop at file))
    ∙ ap (λ xs. xs ++ drop 8 (drop at file)) (sym (le_bytes_8 (take 8 (drop at file)) (u64_at file at) eight (λ i. part_below file 8 at are i) refl))
    ∙ ap (λ xs. to_le_bytes w64 (u64_at file at) ++ xs) (drop-drop 8 at file ∙ ap (λ k. drop k file) (omega (arith, is)))

-- so many words from a place on, before more bytes
abbrev words_then : List ℕ → ℕ → ℕ → List ℕ → List ℕ
words_then file zero at rest = rest
words_then file (suc n) at rest = word (u32_at file at) ++ words_then file n (at + 4) rest

words_there : (file : List ℕ) (n at next : ℕ) → next ≤ length file → next ≡ at + 4 * n → AreBytes file → drop at file ≡ words_then file n at (drop next file)
words_there file zero at next fits is are = let same : at ≡ next = omega (arith, is) in ap (λ k. drop k file) same
words_there file (suc n) at next fits is are =
    word_there file at (omega (arith, fits, is)) are ∙ ap (λ xs. word (u32_at file at) ++ xs) (words_there file n (at + 4) next fits (omega (arith, is)) are)

-- the stamp in the first bytes of a file spells them
front_spelled : (front : List ℕ) → length front ≡ 136 → AreBytes front → drop 32 front ≡ stamp_bytes (stamp_in front)
front_spelled front whole are =
    words_there front 14 32 88 (omega (arith, whole)) refl are
    ∙ ap (words_then front 14 32) (long_there front 88 96 (omega (arith, whole)) (omega arith) are
    ∙ ap (λ xs. to_le_bytes w64 (u64_at front 88) ++ xs) (long_there front 96 104 (omega (arith, whole)) (omega arith) are
    ∙ ap (λ xs. to_le_bytes w64 (u64_at front 96) ++ xs) (sym (take_all 32 (drop 104 front) (omega (arith, whole, length-drop 104 front))))))

front_are : (file : List ℕ) → AreBytes file → AreBytes (take 136 file)
front_are file are i = subst (λ xs. get_or xs i 0 < 256) (ap (take 136) refl) (part_below file 136 0 are i)

second : (version : ℕ) → is_version version ≡ true → version ≢ 1 → version ≡ 2
second version is not_first = grind (arith, nat_tests)

-- what stands between header and layers is the text of the stamp that was read
pub stamp_told : (file : List ℕ) (h : Header) (s : Option Stamp) → AreBytes file → is_version h.version ≡ true → stamp_at h file ≡ Ok s
    → (h.version ≡ version_of s) × (drop 32 file ≡ stamp_text s ++ drop (layers_place h.version) file)
stamp_told file h s are read step = elim (decided (eqb h.version 1)) as (λ _. (h.version ≡ version_of s) × (drop 32 file ≡ stamp_text s ++ drop (layers_place h.version) file)) [
  | inl first ↦
      let one : h.version ≡ 1 = eqb-true h.version 1 first in
      let none : None ≡ s = ok_same None s (sym (no_stamp h file one) ∙ step) in
      (one ∙ ap version_of none, ap (λ k. drop k file) (sym (ap (λ b. cond b 32 136) first)) ∙ ap (λ x. stamp_text x ++ drop (layers_place h.version) file) none)
  | inr other ↦
      let apart : h.version ≢ 1 = λ e. false_true (sym other ∙ eq-eqb h.version 1 e) in
      let u = unless_ok (stamp_fault h.kind (take 136 file)) (Ok (Some (stamp_in (take 136 file)))) s (sym (some_stamp h file apart) ∙ step) in
      let some : Some (stamp_in (take 136 file)) ≡ s = ok_same (Some (stamp_in (take 136 file))) s u.1 in
      let whole = (stamp_whole h.kind (take 136 file) u.0).0 in
      let long : 136 ≤ length file = omega (arith, whole, length-take 136 file) in
      let place : layers_place h.version ≡ 136 = ap (λ b. cond b 32 136) other in
      let all : drop 32 file ≡ drop 32 (take 136 file) ++ drop 136 file =
      ap (drop 32) (sym (take-append-drop 136 file)) ∙ drop-append-le 32 (take 136 file) (drop 136 file) (omega (arith, whole)) in (
        second h.version read apart ∙ ap version_of some,
        all ∙ ap (λ xs. xs ++ drop 136 file) (front_spelled (take 136 file) (omega (arith, whole, length-take 136 file)) (front_are file are))
            ∙ ap (λ k. stamp_bytes (stamp_in (take 136 file)) ++ drop k file) (sym place)
            ∙ ap (λ x. stamp_text x ++ drop (layers_place h.version) file) some,
      )
]
  where
    decided : (b : Bool) → (b ≡ true) ⊎ (b ≡ false)
    decided true = inl refl
    decided false = inr refl

    false_true : false ≡ true → ⊥
    false_true e = absurd cc
