-- Letters, digits, words and variables: which texts a script can write as a name.
use Rattle.std.specs.Prelude.{◌≡◌, ℕ, ◌≤◌, Bool, true, false, ◌&&◌, ◌||◌, ◌==◌, List, [], ◌∷◌, length, take, drop, codes, bytes_eq, nat_lt, nat_le}
use Rattle.std.specs.List.{list_any, list_all}

-- an ASCII digit
abbrev pub is_digit : ℕ → Bool
is_digit b = nat_le 48 b && nat_le b 57

-- an ASCII letter
abbrev pub is_letter : ℕ → Bool
is_letter b = (nat_le 65 b && nat_le b 90) || (nat_le 97 b && nat_le b 122)

-- what a name may go on with: a letter, a digit or _
abbrev pub is_name_part : ℕ → Bool
is_name_part b = is_letter b || is_digit b || (b == 95)

-- the words, but for those with numbers
abbrev pub keywords : List (List ℕ)
keywords =
    codes "true" ∷ codes "false" ∷ codes "not" ∷ codes "and" ∷ codes "or" ∷ codes "impl" ∷ codes "repl" ∷ codes "equiv"
    ∷ codes "ex" ∷ codes "all" ∷ codes "cong" ∷ codes "ncong" ∷ codes "neq"
    ∷ codes "rlset" ∷ codes "rlnnf" ∷ codes "rlpnf" ∷ codes "rldnf" ∷ codes "rlcnf" ∷ codes "rlsimpl" ∷ codes "rlqe" ∷ codes "rlqea"
    ∷ codes "rlholds" ∷ codes "rlwitness" ∷ codes "rlassume" ∷ codes "rlretract" ∷ codes "rlgrid" ∷ codes "rlopt" ∷ codes "rlcert" ∷ codes "rlcheck"
    ∷ codes "load_package" ∷ codes "on" ∷ codes "off" ∷ codes "end" ∷ codes "bye" ∷ codes "quit" ∷ []

-- the text stands in the list, byte for byte
abbrev pub is_one_of : List ℕ → List (List ℕ) → Bool
is_one_of text = list_any (λ word. bytes_eq text word)

-- the text is this beginning and then one digit or more
abbrev pub is_numbered : List ℕ → List ℕ → Bool
is_numbered text beginning =
    nat_lt (length beginning) (length text) && bytes_eq (take (length beginning) text) beginning && list_all is_digit (drop (length beginning) text)

-- a name that stands for no variable
unfoldable pub is_word : List ℕ → Bool
is_word text = is_one_of text keywords || is_numbered text (codes "infinity") || is_numbered text (codes "epsilon")

-- the first byte is a letter
abbrev pub begins_with_letter : List ℕ → Bool
begins_with_letter [] = false
begins_with_letter (b ∷ bs) = is_letter b

-- A name of a variable, a bound formula or a bound variable, as a script can write it. It has at least the letter.
pub record IsVariable (name : List ℕ) : Type 0 where
  pub begins : begins_with_letter name ≡ true
  pub parts : list_all is_name_part name ≡ true
  pub few : length name ≤ 64
  pub free : is_word name ≡ false
