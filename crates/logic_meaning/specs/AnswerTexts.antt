-- The text of a case list. Infinitesimals and infinities are numbered in each case, each from 1 on.
use Rattle.std.specs.Prelude.{ℕ, ◌+◌, ℤ, unsigned_abs, List, [], ◌∷◌, ◌++◌, codes, map, nat_eq, if◌then◌else◌}
use Rattle.std.specs.Fmt.{decimal}
use Rattle.logic_meaning.specs.Form.{Form, Term}
use Rattle.logic_meaning.specs.Answer.{Answer, Place, Exact, AboveBy, BelowBy, PlusInfinity, MinusInfinity, Periodic}
use Rattle.logic_meaning.specs.Cases.{Case}
use Rattle.logic_meaning.specs.Text.{name_at, later_sign, sum_text, form_text, tree_text}

-- the texts with commas between them, and something before the first
abbrev pub separated : List ℕ → List (List ℕ) → List ℕ
separated before [] = []
separated before (t ∷ ts) = before ++ t ++ separated (codes ",") ts

-- ---- places

-- a form in parentheses, and a number without them
abbrev pub dividend_text : List (List ℕ) → List Term → ℤ → List ℕ
dividend_text names [] c = sum_text names [] c
dividend_text names (t ∷ ts) c = codes "(" ++ sum_text names (t ∷ ts) c ++ codes ")"

-- the form over the denominator, which is not written where it is 1
abbrev pub quotient_text : List (List ℕ) → Form → ℕ → List ℕ
quotient_text names e d = if nat_eq d 1 then form_text names e else dividend_text names e.terms e.constant ++ codes "/" ++ decimal d

-- a multiple of an infinity behind a number; a factor 1 is not written
abbrev pub period_text : ℤ → ℕ → List ℕ
period_text q k = later_sign q ++ (if nat_eq (unsigned_abs q) 1 then [] else decimal (unsigned_abs q) ++ codes "*") ++ codes "infinity" ++ decimal k

-- where an answer puts its name, with the numbers that an infinitesimal and an infinity have there
abbrev pub place_text : List (List ℕ) → ℕ → ℕ → Place → List ℕ
place_text names m n (Exact e d) = quotient_text names e d
place_text names m n (AboveBy e d) = quotient_text names e d ++ codes " + epsilon" ++ decimal m
place_text names m n (BelowBy e d) = quotient_text names e d ++ codes " - epsilon" ++ decimal m
place_text names m n PlusInfinity = codes "infinity" ++ decimal n
place_text names m n MinusInfinity = codes "-infinity" ++ decimal n
place_text names m n (Periodic j q) = sum_text names [] j ++ period_text q n

-- ---- answers

-- the name, an equals sign, and the place where it is put
abbrev pub answer_text : List (List ℕ) → ℕ → ℕ → Answer → List ℕ
answer_text names m n a = name_at names a.name ++ codes " = " ++ place_text names m n a.place

-- the number of the next infinitesimal
abbrev pub next_epsilon : Place → ℕ → ℕ
next_epsilon (Exact e d) m = m
next_epsilon (AboveBy e d) m = m + 1
next_epsilon (BelowBy e d) m = m + 1
next_epsilon PlusInfinity m = m
next_epsilon MinusInfinity m = m
next_epsilon (Periodic j q) m = m

-- the number of the next infinity
abbrev pub next_infinity : Place → ℕ → ℕ
next_infinity (Exact e d) n = n
next_infinity (AboveBy e d) n = n
next_infinity (BelowBy e d) n = n
next_infinity PlusInfinity n = n + 1
next_infinity MinusInfinity n = n + 1
next_infinity (Periodic j q) n = n + 1

-- the texts of the answers in order, each with the next numbers of an infinitesimal and of an infinity
abbrev pub answer_texts : List (List ℕ) → ℕ → ℕ → List Answer → List (List ℕ)
answer_texts names m n [] = []
answer_texts names m n (a ∷ rest) = answer_text names m n a ∷ answer_texts names (next_epsilon a.place m) (next_infinity a.place n) rest

-- ---- cases

-- the guard, then the answers in braces, together in braces
abbrev pub case_text : List (List ℕ) → Case → List ℕ
case_text names k = codes "{" ++ tree_text names k.guard ++ codes ",{" ++ separated [] (answer_texts names 1 1 k.answers) ++ codes "}}"

-- the cases with commas between them, in braces
abbrev pub cases_text : List (List ℕ) → List Case → List ℕ
cases_text names cases = codes "{" ++ separated [] (map (case_text names) cases) ++ codes "}"
