-- Point sets that are the same have the same numbers in the same order.
use Rattle.std.proofs.Common.{◌≡◌, ℕ, ◌*◌, ◌≤◌, List, length, sym, ap, ◌∙◌, arith}
use Rattle.std.proofs.Math.Nat.{mul-le-mul_right}
use Rattle.ann_defs.specs.declared.kinds.Element.{Element}
use Rattle.ann_defs.specs.Distance.{PointSet, dim_of}
use Rattle.bin_files.specs.Rows.{rows, cells}
use Rattle.bin_files.proofs.RowLaws.{length-rows, dim_of-rows, cells-rows}

abbrev pub set_of : Element → ℕ → ℕ → List ℕ → PointSet
set_of element n d numbers = record { element = element; vectors = rows n d numbers }

module _ (e f : Element) (n d m k : ℕ) (a b : List ℕ) (same : set_of e n d a ≡ set_of f m k b) where
  pub same_element : e ≡ f
  same_element = ap (λ s. s.element) same

  pub same_count : n ≡ m
  same_count = sym (length-rows n d a) ∙ ap (λ s. length s.vectors) same ∙ length-rows m k b

  pub same_dim : 1 ≤ n → 1 ≤ m → length a ≡ n * d → length b ≡ m * k → d ≡ k
  same_dim p q long wide =
      let one : d ≤ length a = omega (arith, mul-le-mul_right {m = 1} {n = n} d p) in
      let two : k ≤ length b = omega (arith, mul-le-mul_right {m = 1} {n = m} k q) in
      sym (dim_of-rows n d a p one) ∙ ap (λ s. dim_of s.vectors) same ∙ dim_of-rows m k b q two

  pub same_numbers : length a ≡ n * d → length b ≡ m * k → a ≡ b
  same_numbers long wide = sym (cells-rows n d a long) ∙ ap (λ s. cells s.vectors) same ∙ cells-rows m k b wide

pub same_set : (e f : Element) (n d m k : ℕ) (a b : List ℕ) → e ≡ f → n ≡ m → d ≡ k → a ≡ b → set_of e n d a ≡ set_of f m k b
same_set e f n d m k a b element count dim numbers = λ i. set_of (element i) (count i) (dim i) (numbers i)

pub point_set : (p : PointSet) (e : Element) (v : List (List ℕ)) → p.element ≡ e → p.vectors ≡ v → p ≡ record { element = e; vectors = v }
point_set p e v same_element same_vectors = λ i. record { element = same_element i; vectors = same_vectors i }
