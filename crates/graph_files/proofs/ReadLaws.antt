-- What a whole read returns.
use Rattle.std.proofs.Common.{◌≡◌, ℕ, ◌<◌, ◌≤◌, Some, None, Bool, true, false, not, eqb, List, length, drop, Option, IfSome, IfOk, Result, Ok, Err, refl, sym, ap, subst, ◌∙◌, arith, length-drop}
use Rattle.std.proofs.lemmas.Bool.{eqb-true}
use Rattle.ann_shelf.specs.Files.{Files, bytes_of}
use Rattle.bin_files.proofs.Pieces.{told_then, both_told}
use Rattle.graph_files.specs.declared.header.Header.{Header}
use Rattle.graph_rows.specs.declared.index.Index.{Index}
use Rattle.graph_files.specs.declared.fault.IndexFault.{IndexFault}
use Rattle.graph_rows.specs.declared.stamp.Stamp.{Stamp}
use Rattle.graph_files.specs.Grammar.{◌>>=◌, stamp_at, layers_place, header_at, body_at, index_in}
use Rattle.graph_rows.specs.Stamps.{stamped}
use Rattle.graph_rows.specs.Index.{Contents, text_of}
use Rattle.graph_files.specs.declared.window.Window.{Window}
use Rattle.graph_files.specs.Reading.{AreBytesIn, Gives, Shows}
use Rattle.graph_rows.specs.View.{contents}
use Rattle.graph_rows.specs.WellFormed.{IsWellFormed, IsWithinLimits}
use Rattle.graph_files.proofs.BodyLaws.{index_body, gives_along}
use Rattle.graph_files.proofs.IndexLaws.{index_text, all_bytes}
use Rattle.graph_files.proofs.IndexReads.{index_read}
use Rattle.graph_files.proofs.Shown.{bytes_on}

-- bytes up to the end of a file
abbrev pub BytesToEnd : List ℕ → ℕ → Type 0
BytesToEnd file at = (end : ℕ) × AreBytesIn file at end × (length file ≤ end)

none_left : (b : Bool) → not b ≡ false → b ≡ true
none_left true e = refl
none_left false e = absurd cc

zero_of : (n : ℕ) → eqb n 0 ≡ true → n ≡ 0
zero_of n e = eqb-true n 0 e

pub bytes_to_end : (file : List ℕ) (at mid to : ℕ) (more : Bool) → AreBytesIn file at mid → AreBytesIn file mid to → more ≡ not (eqb (length (drop to file)) 0) → more ≡ false → BytesToEnd file at
bytes_to_end file at mid to more first second is off =
    let none : length (drop to file) ≡ 0 = zero_of (length (drop to file)) (none_left (eqb (length (drop to file)) 0) (sym is ∙ off)) in
    (to, bytes_on file at mid to first second, omega (arith, length-drop to file))

-- what is known of a file once its header and its stamp are read
pub record Front (file : List ℕ) (h : Header) (stamp : Option Stamp) : Type 0 where
  pub header : header_at file ≡ Ok h
  pub stamp_is : stamp_at h file ≡ Ok stamp
  pub bytes : AreBytesIn file 0 (layers_place h.version)

-- it is known of the held file
pub fronted : (held : Option Files) (name : List ℕ) (w : Window) (h : Header) (stamp : Option Stamp) → IfSome held (λ files. header_at (bytes_of files name) ≡ Ok h) → IfSome held (λ files. Shows (bytes_of files name) w)
    → IfSome held (λ files. w.len < 16384 → w.len ≡ length (bytes_of files name)) → IfSome held (λ files. AreBytesIn (bytes_of files name) 0 32)
    → ((file : List ℕ) → Shows file w → (w.len < 16384 → w.len ≡ length file) → stamp_at h file ≡ Ok stamp)
    → ((file : List ℕ) → Shows file w → (w.len < 16384 → w.len ≡ length file) → AreBytesIn file 0 32 → AreBytesIn file 0 (layers_place h.version))
    → IfSome held (λ files. Front (bytes_of files name) h stamp)
fronted None name w h stamp header shows ends bytes step are = tt
fronted (Some files) name w h stamp header shows ends bytes step are = record {
  header = header;
  stamp_is = step (bytes_of files name) shows ends;
  bytes = are (bytes_of files name) shows ends bytes;
}

module _ (held now : Option Files) (name : List ℕ) (h : Header) (stamp : Option Stamp) (at : ℕ) (same : now ≡ held) (place : at ≡ layers_place h.version)
    (front : IfSome held (λ files. Front (bytes_of files name) h stamp)) where
  -- the file is the text of what was read
  pub text_read : (r : Result Index IndexFault) → IfSome now (λ files. Gives contents r (body_at h (bytes_of files name) at)) → IfOk r (λ _. IfSome now (λ files. BytesToEnd (bytes_of files name) at))
      → IfOk r (λ i. IfSome held (λ files. bytes_of files name ≡ text_of (stamped stamp (contents i))))
  text_read (Err fault) body bytes = tt
  text_read (Ok i) body bytes =
      let Both : Files → Type 0 = λ files. (body_at h (bytes_of files name) at ≡ Ok (contents i)) × BytesToEnd (bytes_of files name) at in
      let both : IfSome now Both = both_told {R = Both} now now refl body bytes (λ files b e. (b, e)) in
      both_told held now same front both (λ files low rest.
      let file = bytes_of files name in
      let are = all_bytes file rest.1.0 (bytes_on file 0 at rest.1.0 (subst (AreBytesIn file 0) (sym place) low.bytes) rest.1.1) rest.1.2 in
      index_text file (stamped stamp (contents i)) are
      (index_body file h stamp low.header low.stamp_is ∙ ap (λ r. r >>= (λ b. Ok (stamped stamp b))) (ap (body_at h file) (sym place) ∙ rest.0)))

-- a well-formed index within the limits whose text the file is
pub complete_read : (held : Option Files) (name : List ℕ) (r : Result Index IndexFault) → IfSome held (λ files. Gives contents r (index_in (bytes_of files name)))
    → IfSome held (λ files. (j : Contents) → IsWellFormed j → IsWithinLimits j → text_of j ≡ bytes_of files name → Gives contents r (Ok j))
complete_read held name r given = told_then held given (λ files g j formed limits text.
    gives_along contents r (index_in (bytes_of files name)) (Ok j) (ap index_in (sym text) ∙ index_read j formed limits) g)
