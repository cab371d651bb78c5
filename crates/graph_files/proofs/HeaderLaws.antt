-- A header that was read.
use Rattle.std.proofs.Common.{◌≡◌, ℕ, ◌<◌, ◌≤◌, List, length, Some, None, Ok, Err, refl, sym, ap, ◌∙◌, arith}
use Rattle.std.proofs.lemmas.Bool.{lt-ltb, le-ltb}
use Rattle.graph_files.specs.declared.header.Header.{Header}
use Rattle.graph_files.specs.declared.window.Window.{Window}
use Rattle.graph_files.specs.declared.fault.IndexFault.{IndexFault}
use Rattle.graph_files.specs.declared.fault.IndexFault.TheVariants.{Malformed}
use Rattle.graph_files.specs.declared.fault.IndexRule.TheVariants.{ShortHeader}
use Rattle.graph_files.specs.Header.{header_in, form_fault, limit_fault}
use Rattle.graph_files.specs.Grammar.{unless, header_at}
use Rattle.graph_files.specs.Reading.{Shows, Fails}
use Rattle.graph_files.proofs.Shown.{shown_u32}
use Rattle.graph_files.proofs.RowLoop.{fails_with}

pub shown_header : (file : List ℕ) (w : Window) → Shows file w → w.from ≡ 0 → 32 ≤ w.len → header_in w.bytes ≡ header_in file
shown_header file w shows front long =
    rw (
      shown_u32 file w 0 0 shows (omega arith) (omega arith),
      shown_u32 file w 4 4 shows (omega arith) (omega arith),
      shown_u32 file w 8 8 shows (omega arith) (omega arith),
      shown_u32 file w 12 12 shows (omega arith) (omega arith),
      shown_u32 file w 16 16 shows (omega arith) (omega arith),
      shown_u32 file w 20 20 shows (omega arith) (omega arith),
      shown_u32 file w 24 24 shows (omega arith) (omega arith),
      shown_u32 file w 28 28 shows (omega arith) (omega arith),
    ) refl

pub header_short : (file : List ℕ) (n : ℕ) → n < 32 → n ≡ length file → header_at file ≡ Err (Malformed n ShortHeader)
unfolding header_at
header_short file n short is = rw (lt-ltb (length file) 32 (omega arith), is) refl

pub header_long : (file : List ℕ) (h : Header) → 32 ≤ length file → h ≡ header_in file → header_at file ≡ unless (form_fault h) (unless (limit_fault h) (Ok h))
unfolding header_at
header_long file h long is = rw (le-ltb (length file) 32 long) (ap (λ (k : Header). unless (form_fault k) (unless (limit_fault k) (Ok k))) (sym is))

pub header_form : (file : List ℕ) (h : Header) (fault : IndexFault) → 32 ≤ length file → h ≡ header_in file → Some fault ≡ form_fault h → Fails fault (header_at file)
header_form file h fault long is broken = fails_with fault (header_at file) (header_long file h long is ∙ ap (λ o. unless o (unless (limit_fault h) (Ok h))) (sym broken))

pub header_limit : (file : List ℕ) (h : Header) (fault : IndexFault) → 32 ≤ length file → h ≡ header_in file → None ≡ form_fault h → Some fault ≡ limit_fault h → Fails fault (header_at file)
header_limit file h fault long is form broken =
    fails_with fault (header_at file) (header_long file h long is ∙ ap (λ o. unless o (unless (limit_fault h) (Ok h))) (sym form) ∙ ap (λ o. unless o (Ok h)) (sym broken))

pub header_sound : (file : List ℕ) (h : Header) → 32 ≤ length file → h ≡ header_in file → None ≡ form_fault h → None ≡ limit_fault h → header_at file ≡ Ok h
header_sound file h long is form limits = header_long file h long is ∙ ap (λ o. unless o (unless (limit_fault h) (Ok h))) (sym form) ∙ ap (λ o. unless o (Ok h)) (sym limits)
