-- The canonical words of a command: its name, its options in the order of the table with their values spelled out, `--`,
-- and its file names.
use Rattle.std.specs.Prelude.{ℕ, cond, List, [], ◌∷◌, ◌++◌, length, take, Option, Some, None, codes, decimal}
use Rattle.std.specs.List.{filter_map}
use Rattle.std.specs.Option.{option_map}
use Rattle.command_options.specs.declared.option_name.OptionName.{OptionName}
use Rattle.command_options.specs.declared.value.Value.{Value}
use Rattle.command_options.specs.declared.value.Value.TheVariants.{ByRule, Number, Fraction, KindIs, PoolIs, OrderIs, StartIs, ElementIs}
use Rattle.annbuild_words.specs.Asked.{Command, names_of}
use Rattle.command_options.specs.Names.{kind_name, pool_name, order_name, start_name, element_name}
use Rattle.command_options.specs.Options.{option_name, every_option}
use Rattle.command_options.specs.Settings.{values_of}
use Rattle.command_options.specs.Verbs.{verb_name, roles_of}
use Rattle.command_options.specs.Shapes.{has_option}

-- the text of a value, if it has one
abbrev pub value_text : Value → Option (List ℕ)
value_text ByRule = None
value_text (Number n) = Some (decimal n)
value_text (Fraction num den) = Some (decimal num ++ codes "/" ++ decimal den)
value_text (KindIs kind) = Some (kind_name kind)
value_text (PoolIs way) = Some (pool_name way)
value_text (OrderIs kind) = Some (order_name kind)
value_text (StartIs kind) = Some (start_name kind)
value_text (ElementIs element) = Some (element_name element)

-- the word that sets an option, if its value has a text
abbrev pub word_of : OptionName → Value → Option (List ℕ)
word_of option value = option_map (λ text. option_name option ++ codes "=" ++ text) (value_text value)

-- the words that set those of these options that the command has
abbrev pub set_words : Command → List OptionName → List (List ℕ)
set_words c options = filter_map (λ o. cond (has_option c.verb c.settings.kind o) (word_of o (values_of c.settings o)) None) options

-- the canonical words
unfoldable pub canonical_words : Command → List (List ℕ)
canonical_words c = verb_name c.verb ∷ [] ++ set_words c every_option ++ codes "--" ∷ [] ++ take (length (roles_of c.verb)) (names_of c)
