-- The rules that words keep, which are cut into items; the values that they give to the settings, and the first setting out of its range.
use Rattle.std.specs.Prelude.{ℕ, ◌==◌, nat_le, Bool, true, false, cond, ◌&&◌, if◌then◌else◌, List, [], ◌∷◌, length, Option, Some, None, is_some, slice_get}
use Rattle.std.specs.List.{filter_map, list_all}
use Rattle.std.specs.Option.{option_or}
use Rattle.ann_defs.specs.declared.kinds.Kind.{Kind}
use Rattle.command_options.specs.declared.setting_name.SettingName.{SettingName}
use Rattle.command_options.specs.declared.setting_name.SettingName.TheVariants as settings
use Rattle.command_options.specs.declared.verb.Verb.{Verb}
use Rattle.command_options.specs.declared.option_name.OptionName.{OptionName}
use Rattle.command_options.specs.declared.option_name.OptionName.TheVariants.{Search}
use Rattle.command_options.specs.declared.form.Range.{Range}
use Rattle.command_options.specs.declared.form.Range.TheVariants.{Every, Within, ToSearch}
use Rattle.command_options.specs.declared.form.Form.{Form}
use Rattle.command_options.specs.declared.form.Form.TheVariants.{OfNumber, OfFraction, OfKind}
use Rattle.command_options.specs.declared.value.Value.{Value}
use Rattle.command_options.specs.declared.value.Value.TheVariants.{Number, Fraction, KindIs}
use Rattle.annbuild_words.specs.declared.range.OutOfRange.{OutOfRange}
use Rattle.annbuild_words.specs.Words.{Item, Sets, IsValue, Names, Wrong, values_for, files_of}
use Rattle.command_options.specs.Options.{option_name, every_option, is_named}
use Rattle.command_options.specs.Verbs.{roles_of}
use Rattle.command_options.specs.Shapes.{has_option}
use Rattle.command_options.specs.Forms.{option_form}
use Rattle.command_options.specs.Settings.{number_or, kind_code}
use Rattle.annbuild_words.specs.ValueTexts.{value_in, value_or_default}

-- an item that words may have: an option of the table with its value, or a file name that isn't empty
abbrev pub is_known : Item → Bool
is_known (Sets name value) = is_named name every_option
is_known IsValue = true
is_known (Names []) = false
is_known (Names (b ∷ bytes)) = true
is_known Wrong = false

-- no value; or one, where the option may stand and the value is of its kind
abbrev pub is_set_well : (allowed : Bool) → Form → List (List ℕ) → Bool
is_set_well allowed form [] = true
is_set_well allowed form (text ∷ []) = allowed && is_some (value_in form text)
is_set_well allowed form texts = false

-- words that keep the rules: each is known, each option stands at most once, is one of the command's and has a value of its kind, and there are as many file names as the command has
unfoldable pub keeps_rules : Verb → Kind → List Item → Bool
keeps_rules verb kind words = list_all is_known words && (list_all (λ o. is_set_well (has_option verb kind o) (option_form verb kind o) (values_for (option_name o) words)) every_option
    && length (files_of words) == length (roles_of verb))

-- the text that words give to an option of the command
abbrev pub given_text : Verb → Kind → List Item → OptionName → Option (List ℕ)
given_text verb kind words option = cond (has_option verb kind option) (slice_get (values_for (option_name option) words) 0) None

-- the value of a setting
unfoldable pub setting : Verb → Kind → List Item → OptionName → Value
setting verb kind words option = value_or_default (option_form verb kind option) (given_text verb kind words option)

-- a number that is out of its range
abbrev pub outside : SettingName → (value least greatest : ℕ) → Option OutOfRange
outside name value least greatest = if nat_le least value && nat_le value greatest then None else Some (record { name = name; value = value; least = least; greatest = greatest })

-- the same of a number of the table, where --search is `search`
abbrev pub outside_range : Range → (n search : ℕ) → Option OutOfRange
outside_range Every n search = None
outside_range (Within name least greatest) n search = outside name n least greatest
outside_range (ToSearch name least) n search = outside name n least search

-- the same of a value: of a fraction first the denominator, then the numerator; of a kind its code
abbrev pub outside_form : Form → Value → (search : ℕ) → Option OutOfRange
outside_form (OfNumber default range) (Number n) search = outside_range range n search
outside_form (OfFraction num den greatest) (Fraction n d) search = option_or (outside settings.AlphaDen d 1 greatest) (outside settings.AlphaNum n d greatest)
outside_form (OfKind default greatest) (KindIs kind) search = outside settings.Kind (kind_code kind) 1 greatest
outside_form form value search = None

abbrev pub outside_option : Verb → Kind → List Item → OptionName → Option OutOfRange
outside_option verb kind words option = outside_form (option_form verb kind option) (setting verb kind words option) (number_or 0 (setting verb kind words Search))

-- the first setting out of its range, in the order of the table
unfoldable pub first_outside : Verb → Kind → List Item → Option OutOfRange
first_outside verb kind words = slice_get (filter_map (outside_option verb kind words) every_option) 0
