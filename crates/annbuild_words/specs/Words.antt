-- What each word after the command is: an option with its value, the value of the option before it, or a file name.
use Rattle.std.specs.Prelude.{ℕ, zero, suc, ◌==◌, nat_lt, get_or, Bool, false, cond, not, ◌&&◌, List, [], ◌∷◌, length, Option, Some, None}
use Rattle.std.specs.List.{before_first, after_first, position_or_len, filter_map}
use Rattle.std.specs.Str.{bytes_eq}

-- a word that begins with `-`
abbrev pub is_dashed : List ℕ → Bool
is_dashed [] = false
is_dashed (a ∷ bytes) = a == 45

-- a word that begins with `--` and has a further character
abbrev pub is_option : List ℕ → Bool
is_option (a ∷ b ∷ c ∷ bytes) = a == 45 && b == 45
is_option bytes = false

abbrev pub is_equals : ℕ → Bool
is_equals b = b == 61

-- a word with a `=` in it
abbrev pub has_equals : List ℕ → Bool
has_equals word = nat_lt (position_or_len is_equals word) (length word)

-- an option whose value is the next word
abbrev pub is_bare : List ℕ → Bool
is_bare word = is_option word && not (has_equals word)

-- what a word is
pub data Item : Type 0 where
  -- an option's name, with its dashes, and its value
  Sets : (name value : List ℕ) → Item
  -- the value of the option before it
  IsValue : Item
  Names : (file : List ℕ) → Item
  Wrong : Item

-- a bare option takes the next word, if there is one that doesn't begin with `-`
abbrev pub bare_item : List ℕ → List (List ℕ) → Item
bare_item name [] = Wrong
bare_item name (next ∷ after) = cond (is_dashed next) Wrong (Sets name next)

-- an option is cut at its first `=`
abbrev pub option_item : List ℕ → List (List ℕ) → Item
option_item word after = cond (has_equals word) (Sets (before_first is_equals word) (after_first is_equals word)) (bare_item word after)

-- a word before the words after it, where `taken` says whether it is the value of a bare option before it
abbrev pub item : (taken : Bool) (word : List ℕ) (after : List (List ℕ)) → Item
item taken word after = cond (is_option word) (option_item word after) (cond (is_dashed word) Wrong (cond taken IsValue (Names word)))

abbrev pub items_after : Bool → List (List ℕ) → List Item
items_after taken [] = []
items_after taken (word ∷ words) = item taken word words ∷ items_after (is_bare word) words

-- what each of the words is
unfoldable pub items : List (List ℕ) → List Item
items words = items_after false words

-- whether the word at a place follows a bare option
abbrev pub is_taken : List (List ℕ) → ℕ → Bool
is_taken words zero = false
is_taken words (suc i) = is_bare (get_or words i [])

-- the value that an item sets for an option
abbrev pub value_for : List ℕ → Item → Option (List ℕ)
value_for name (Sets option value) = cond (bytes_eq option name) (Some value) None
value_for name item = None

-- the values that items set for an option, in order
abbrev pub values_for : List ℕ → List Item → List (List ℕ)
values_for name given = filter_map (value_for name) given

abbrev pub file_of : Item → Option (List ℕ)
file_of (Names file) = Some file
file_of item = None

-- the file names, in order
abbrev pub files_of : List Item → List (List ℕ)
files_of given = filter_map file_of given
