-- The bytes of an index, part by part.
use Rattle.std.proofs.Common.{◌≡◌, ℕ, List, [], ◌∷◌, ◌++◌, map, refl, sym, ap, ◌∙◌, Option, Some, append_assoc}
use Rattle.std.specs.List.{flat_map, enumerate_from}
use Rattle.std.proofs.lemmas.List.{append-nil}
use Rattle.std.proofs.lemmas.List.Folds.{flat_map-map}
use Rattle.ann_shelf.specs.Files.{Files, with_file, Grows}
use Rattle.graph_rows.specs.Index.{Contents, words, rows_bytes, layer_bytes, layers_bytes, stamp_text, header_words, text_of}
use Rattle.graph_rows.specs.Layers.{Layered}
use Rattle.graph_files.specs.Writing.{Adds}
use Rattle.graph_files.proofs.Grown.{adds_both, adds_along}
use Rattle.graph_rows.proofs.LayerLists.{rows_enumerate}
use Rattle.graph_rows.proofs.Totals.{entries_of}

abbrev pub upper_bytes : List Layered → List ℕ
upper_bytes upper = flat_map (λ (l : Layered). layer_bytes l.entries) upper

-- all layers of an index
pub body_bytes : (rows : List (List ℕ)) (upper : List Layered) → rows_bytes rows ++ upper_bytes upper ≡ layers_bytes (enumerate_from 0 rows ∷ map entries_of upper)
body_bytes rows upper =
    sym (ap (λ rs. rows_bytes rs ++ flat_map layer_bytes (map entries_of upper)) (rows_enumerate 0 rows) ∙ ap (λ bs. rows_bytes rows ++ bs) (flat_map-map layer_bytes entries_of upper))

pub body_added : (a b c : Option Files) (name p q r : List ℕ) (rows : List (List ℕ)) (upper : List Layered) → Adds a b name p q (rows_bytes rows) → Adds b c name q r (upper_bytes upper)
    → Adds a c name p r (layers_bytes (enumerate_from 0 rows ∷ map entries_of upper))
body_added a b c name p q r rows upper first second =
    adds_along a c name p r (rows_bytes rows ++ upper_bytes upper) (layers_bytes (enumerate_from 0 rows ∷ map entries_of upper)) (body_bytes rows upper)
    (adds_both a b c name p q r (rows_bytes rows) (upper_bytes upper) first second)

-- what is begun, where all was added and nothing is pending
pub adds_all : (a b c : Option Files) (name p q r piece text : List ℕ) → Adds a b name p q piece → Adds b c name q r [] → r ≡ [] → p ++ piece ≡ text → Grows a c name text
adds_all a b c name p q r piece text first second none is files x begun =
    let body = first files x begun in
    let end = second files body.0 body.1 in
    end.1 ∙ ap (λ w. Some (with_file files name w))
    (sym (append-nil end.0) ∙ ap (λ xs. end.0 ++ xs) (sym none) ∙ end.2 ∙ append-nil (body.0 ++ q) ∙ body.2 ∙ append_assoc x p piece ∙ ap (λ w. x ++ w) is)

pub text_is : (i : Contents) → words (header_words i) ++ stamp_text i.stamp ++ layers_bytes i.layers ≡ text_of i
unfolding text_of
text_is i = refl

-- the header in an empty buffer, the stamp, and the layers
pub text_from : (i : Contents) (p q r hs : List ℕ) → p ≡ q ++ words hs → q ≡ [] → hs ≡ header_words i → r ≡ p ++ stamp_text i.stamp → r ++ layers_bytes i.layers ≡ text_of i
text_from i p q r hs pushed empty header marked =
    ap (λ xs. xs ++ layers_bytes i.layers) (marked ∙ ap (λ xs. xs ++ stamp_text i.stamp) (pushed ∙ ap (λ xs. xs ++ words hs) empty ∙ ap (λ ns. words ns) header))
    ∙ append_assoc (words (header_words i)) (stamp_text i.stamp) (layers_bytes i.layers) ∙ text_is i

-- four pieces one after another
pub four_added : (p a b c d w x y z : List ℕ) → a ≡ p ++ w → b ≡ a ++ x → c ≡ b ++ y → d ≡ c ++ z → d ≡ p ++ (w ++ x ++ y ++ z)
four_added p a b c d w x y z first second third fourth =
    let two : b ≡ p ++ (w ++ x) = second ∙ ap (λ l. l ++ x) first ∙ append_assoc p w x in
    let three : c ≡ p ++ (w ++ x ++ y) = third ∙ ap (λ l. l ++ y) two ∙ append_assoc p (w ++ x) y in
    fourth ∙ ap (λ l. l ++ z) three ∙ append_assoc p (w ++ x ++ y) z
