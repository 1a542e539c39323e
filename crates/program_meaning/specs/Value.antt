-- The value of an option: a number in decimal digits.
use Rattle.std.specs.Prelude.{ℕ, ◌+◌, ◌-◌, ◌*◌, Bool, ◌&&◌, List, [], ◌∷◌, length, nat_le, Option, Some, None, if◌then◌else◌}
use Rattle.std.specs.List.{list_all}

-- the byte is one of the characters 0 to 9
abbrev pub is_digit : ℕ → Bool
is_digit b = nat_le 48 b && nat_le b 57

-- the number that decimal digits say after digits that say n
abbrev pub number_after : ℕ → List ℕ → ℕ
number_after n [] = n
number_after n (d ∷ ds) = number_after (n * 10 + (d - 48)) ds

-- one to ten digits
abbrev pub are_digits : List ℕ → Bool
are_digits text = nat_le 1 (length text) && nat_le (length text) 10 && list_all is_digit text

-- the number that the text says, where it is one to ten digits and the number is from 1 to the greatest
unfoldable pub value_of : ℕ → List ℕ → Option ℕ
value_of greatest text =
    if are_digits text && (nat_le 1 (number_after 0 text) && nat_le (number_after 0 text) greatest) then Some (number_after 0 text)
    else None
