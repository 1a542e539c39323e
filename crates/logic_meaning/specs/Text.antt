-- The text of a resolved formula, where the names of the list are numbered by their places.
use Rattle.std.specs.Prelude.{ℕ, ℤ, pos, negsuc, unsigned_abs, Bool, true, false, List, [], ◌∷◌, ◌++◌, codes, nat_eq, slice_get, unwrap_or, if◌then◌else◌}
use Rattle.std.specs.List.{flat_map}
use Rattle.std.specs.Fmt.{decimal}
use Rattle.std.specs.Ordering.{int_eq}
use Rattle.logic_meaning.specs.Formula.{Yes, No, One, Not, And, Or, Impl, Repl, Equiv, Ex, All, none, also}
use Rattle.logic_meaning.specs.Form.{Form, Term}
use Rattle.logic_meaning.specs.Atom.{Relation, Equals, Differs, Below, AtMost, Above, AtLeast, Atom, Compare, Congruent}
use Rattle.logic_meaning.specs.Tree.{Tree, Trees}

-- the name with the number
abbrev pub name_at : List (List ℕ) → ℕ → List ℕ
name_at names x = unwrap_or (slice_get names x) []

-- ---- linear forms

-- before the first part of a sum
abbrev pub first_sign : ℤ → List ℕ
first_sign (pos n) = []
first_sign (negsuc n) = codes "-"

-- before each later part
abbrev pub later_sign : ℤ → List ℕ
later_sign (pos n) = codes " + "
later_sign (negsuc n) = codes " - "

-- the multiple of a name without its sign; a factor 1 is not written
abbrev pub multiple_text : List (List ℕ) → Term → List ℕ
multiple_text names t = (if nat_eq (unsigned_abs t.times) 1 then [] else decimal (unsigned_abs t.times) ++ codes "*") ++ name_at names t.name

-- a multiple that is not the first
abbrev pub later_multiple : List (List ℕ) → Term → List ℕ
later_multiple names t = later_sign t.times ++ multiple_text names t

-- the constant after some multiples; 0 is not written
abbrev pub later_constant : ℤ → List ℕ
later_constant c = if int_eq c (pos 0) then [] else later_sign c ++ decimal (unsigned_abs c)

-- the multiples in the order of the list, and then the constant
abbrev pub sum_text : List (List ℕ) → List Term → ℤ → List ℕ
sum_text names [] c = first_sign c ++ decimal (unsigned_abs c)
sum_text names (t ∷ ts) c = first_sign t.times ++ multiple_text names t ++ flat_map (later_multiple names) ts ++ later_constant c

-- the text of a linear form: its multiples of names, and its constant
abbrev pub form_text : List (List ℕ) → Form → List ℕ
form_text names f = sum_text names f.terms f.constant

-- ---- atoms

-- what is written after the form that is compared with 0
abbrev pub relation_text : Relation → List ℕ
relation_text Equals = codes " = 0"
relation_text Differs = codes " <> 0"
relation_text Below = codes " < 0"
relation_text AtMost = codes " <= 0"
relation_text Above = codes " > 0"
relation_text AtLeast = codes " >= 0"

-- what a congruence begins with: one that is to hold, or one that is not to
abbrev pub congruence_text : Bool → List ℕ
congruence_text true = codes "cong("
congruence_text false = codes "ncong("

-- the text of an atom: a form compared with 0, or congruent to 0 by a modulus or not
abbrev pub atom_text : List (List ℕ) → Atom → List ℕ
atom_text names (Compare r f) = form_text names f ++ relation_text r
atom_text names (Congruent holds m f) = congruence_text holds ++ form_text names f ++ codes ",0," ++ decimal m ++ codes ")"

-- ---- formulas

-- it is put in parentheses where it is a member or an argument
abbrev pub is_compound : Tree → Bool
is_compound Yes = false
is_compound No = false
is_compound (One a) = false
is_compound (Not f) = true
is_compound (And fs) = true
is_compound (Or fs) = true
is_compound (Impl f g) = true
is_compound (Repl f g) = true
is_compound (Equiv f g) = true
is_compound (Ex x f) = false
is_compound (All x f) = false

-- the text, with parentheses around it where they are asked for
abbrev pub in_parentheses : Bool → List ℕ → List ℕ
in_parentheses true text = codes "(" ++ text ++ codes ")"
in_parentheses false text = text

abbrev mutual
  -- the text of a formula that stands alone
  pub tree_text : List (List ℕ) → Tree → List ℕ
  tree_text names Yes = codes "true"
  tree_text names No = codes "false"
  tree_text names (One a) = atom_text names a
  tree_text names (Not f) = codes "not " ++ in_parentheses (is_compound f) (tree_text names f)
  tree_text names (And fs) = members_text names (codes " and ") fs
  tree_text names (Or fs) = members_text names (codes " or ") fs
  tree_text names (Impl f g) = in_parentheses (is_compound f) (tree_text names f) ++ codes " impl " ++ in_parentheses (is_compound g) (tree_text names g)
  tree_text names (Repl f g) = in_parentheses (is_compound f) (tree_text names f) ++ codes " repl " ++ in_parentheses (is_compound g) (tree_text names g)
  tree_text names (Equiv f g) = in_parentheses (is_compound f) (tree_text names f) ++ codes " equiv " ++ in_parentheses (is_compound g) (tree_text names g)
  tree_text names (Ex x f) = codes "ex(" ++ name_at names x ++ codes "," ++ tree_text names f ++ codes ")"
  tree_text names (All x f) = codes "all(" ++ name_at names x ++ codes "," ++ tree_text names f ++ codes ")"

  -- the members with a word between each two
  pub members_text : List (List ℕ) → List ℕ → Trees → List ℕ
  members_text names word none = []
  members_text names word (also f fs) = in_parentheses (is_compound f) (tree_text names f) ++ more_text names word fs

  -- the word before each member
  pub more_text : List (List ℕ) → List ℕ → Trees → List ℕ
  more_text names word none = []
  more_text names word (also f fs) = word ++ in_parentheses (is_compound f) (tree_text names f) ++ more_text names word fs
