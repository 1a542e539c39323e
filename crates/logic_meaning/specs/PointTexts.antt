-- The text of a point.
use Rattle.std.specs.Prelude.{ℕ, pos, unsigned_abs, List, [], ◌++◌, codes, map, if◌then◌else◌}
use Rattle.std.specs.Fmt.{decimal}
use Rattle.std.specs.Ordering.{int_eq}
use Rattle.exact_numbers.specs.Frac.{Frac}
use Rattle.logic_meaning.specs.Text.{name_at, first_sign}
use Rattle.logic_meaning.specs.Values.{Value}
use Rattle.logic_meaning.specs.AnswerTexts.{separated}

-- the numerator over the denominator, which is not written where it is 1
abbrev pub fraction_text : Frac → List ℕ
fraction_text a = first_sign a.numerator ++ decimal (unsigned_abs a.numerator) ++ (if int_eq a.denominator (pos 1) then [] else codes "/" ++ decimal (unsigned_abs a.denominator))

-- the name, an equals sign, and its value as a fraction
abbrev pub value_text : List (List ℕ) → Value → List ℕ
value_text names v = name_at names v.name ++ codes " = " ++ fraction_text v.at

-- the values with commas between them, in braces
abbrev pub point_text : List (List ℕ) → List Value → List ℕ
point_text names values = codes "{" ++ separated [] (map (value_text names) values) ++ codes "}"
