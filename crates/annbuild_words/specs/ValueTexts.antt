-- The values that texts write.
use Rattle.std.specs.Prelude.{ℕ, List, [], ◌∷◌, Option, Some, None}
use Rattle.std.specs.Option.{unwrap_or, option_map}
use Rattle.ann_defs.specs.declared.kinds.Element.TheVariants.{U8, I8}
use Rattle.ann_defs.specs.declared.kinds.Kind.TheVariants.{Vamana, Hnsw, Nnd}
use Rattle.ann_defs.specs.declared.kinds.OrderKind.TheVariants.{File, Seeded}
use Rattle.ann_defs.specs.declared.kinds.StartKind.TheVariants.{First, Medoid}
use Rattle.ann_defs.specs.declared.kinds.Way.TheVariants.{Serial, Shares, Stealing}
use Rattle.command_options.specs.declared.form.Form.{Form}
use Rattle.command_options.specs.declared.form.Form.TheVariants.{OfNumber, OfFraction, OfKind, OfPool, OfOrder, OfStart, OfElement}
use Rattle.command_options.specs.declared.value.Value.{Value}
use Rattle.command_options.specs.declared.value.Value.TheVariants.{Number, Fraction, KindIs, PoolIs, OrderIs, StartIs, ElementIs}
use Rattle.command_options.specs.Forms.{default_value}
use Rattle.command_options.specs.Names.{kind_name, pool_name, order_name, start_name, element_name, first_named}
use Rattle.annbuild_words.specs.Numbers.{number, fraction}

-- the value that a text writes
unfoldable pub value_in : Form → List ℕ → Option Value
value_in (OfNumber default range) text = option_map Number (number text)
value_in (OfFraction num den greatest) text = option_map (λ p. Fraction p.0 p.1) (fraction text)
value_in (OfKind kind greatest) text = option_map KindIs (first_named kind_name (Vamana ∷ Hnsw ∷ Nnd ∷ []) text)
value_in (OfPool way) text = option_map PoolIs (first_named pool_name (Serial ∷ Shares ∷ Stealing ∷ []) text)
value_in (OfOrder kind) text = option_map OrderIs (first_named order_name (File ∷ Seeded ∷ []) text)
value_in (OfStart kind) text = option_map StartIs (first_named start_name (First ∷ Medoid ∷ []) text)
value_in (OfElement element) text = option_map ElementIs (first_named element_name (U8 ∷ I8 ∷ []) text)

abbrev pub value_or_default : Form → Option (List ℕ) → Value
value_or_default form None = default_value form
value_or_default form (Some text) = unwrap_or (value_in form text) (default_value form)
