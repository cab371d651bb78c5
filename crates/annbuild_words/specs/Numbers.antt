-- Numbers and fractions, as words write them.
use Rattle.std.specs.Prelude.{ℕ, ◌^◌, ◌==◌, nat_lt, Bool, ◌&&◌, if◌then◌else◌, List, length, Option, Some, None}
use Rattle.std.specs.List.{before_first, after_first}
use Rattle.std.specs.Str.{all_ascii_digits}
use Rattle.std.specs.Str.Parse.{digits_value}

-- one or more decimal digits, of a value that 64 bits hold
abbrev pub is_number : List ℕ → Bool
is_number text = all_ascii_digits text && nat_lt 0 (length text) && nat_lt (digits_value 10 text) (2 ^ 64)

unfoldable pub number : List ℕ → Option ℕ
number text = if is_number text then Some (digits_value 10 text) else None

abbrev pub is_slash : ℕ → Bool
is_slash b = b == 47

abbrev pub both : Option ℕ → Option ℕ → Option (ℕ × ℕ)
both (Some a) (Some b) = Some (a, b)
both a b = None

-- two numbers with one `/` between them
unfoldable pub fraction : List ℕ → Option (ℕ × ℕ)
fraction text = both (number (before_first is_slash text)) (number (after_first is_slash text))
