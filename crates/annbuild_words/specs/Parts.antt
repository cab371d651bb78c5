-- The words as texts, and the items that parts stand for.
use Rattle.std.specs.Prelude.{ℕ, List, map, String, string_bytes}
use Rattle.std.specs.declared.alloc.Global.{Global}
use Rattle.annbuild_words.specs.declared.item.Part.{Part}
use Rattle.annbuild_words.specs.declared.item.Part.TheVariants as parts
use Rattle.annbuild_words.specs.Words.{Item, Sets, IsValue, Names, Wrong}

-- the bytes of each word
abbrev pub texts : List (String Global) → List (List ℕ)
texts words = map (λ w. string_bytes w) words

-- the item that a part is
abbrev pub item_of : Part → Item
item_of (parts.Sets name value) = Sets name.now value.now
item_of parts.IsValue = IsValue
item_of (parts.Names file) = Names file.now
item_of parts.Wrong = Wrong

-- the items that parts are
abbrev pub items_of : List Part → List Item
items_of parts = map item_of parts
