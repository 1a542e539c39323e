-- The written formula that the text of a tree spells.
use Rattle.std.specs.Prelude.{ℕ, ℤ, pos, negsuc, unsigned_abs, true, false, List, [], ◌∷◌, ◌++◌, map, nat_eq, if◌then◌else◌}
use Rattle.std.specs.Ordering.{int_eq}
use Rattle.logic_meaning.specs.Form.{Form, Term}
use Rattle.logic_meaning.specs.Formula.{One}
use Rattle.logic_meaning.specs.Atom as plain
use Rattle.logic_meaning.specs.Tree.{Tree}
use Rattle.logic_meaning.specs.Replaced.{replaced}
use Rattle.language_meaning.specs.declared.tree.Literal.TheVariants.{Fits}
use Rattle.language_meaning.specs.declared.tree.Relation.{Relation}
use Rattle.language_meaning.specs.declared.tree.Relation.TheVariants.{Equal, Differs, Less, AtMost, Greater, AtLeast}
use Rattle.language_meaning.specs.Trees.{TermTree, Number, Named, Product, Negative, terms_of, WrittenAtom, Compare, Cong, Ncong, FormulaTree}
use Rattle.language_meaning.specs.Grammar.{sum_of}
use Rattle.logic_meaning.specs.Text.{name_at}

-- ---- terms

abbrev pub number_term : ℕ → TermTree
number_term n = Number (Fits (pos n))

-- the term with the sign of the number
abbrev pub signed_term : ℤ → TermTree → TermTree
signed_term (pos n) t = t
signed_term (negsuc n) t = Negative t

-- the multiple of a name; a factor 1 is not written
abbrev pub factor_term : ℕ → List ℕ → TermTree
factor_term n x = if nat_eq n 1 then Named x else Product (terms_of (number_term n ∷ Named x ∷ []))

abbrev pub multiple_term : List (List ℕ) → Term → TermTree
multiple_term names t = signed_term t.times (factor_term (unsigned_abs t.times) (name_at names t.name))

abbrev pub constant_term : ℤ → TermTree
constant_term c = signed_term c (number_term (unsigned_abs c))

-- the constant behind some multiples; 0 is not written
abbrev pub later_constant_terms : ℤ → List TermTree
later_constant_terms c = if int_eq c (pos 0) then [] else constant_term c ∷ []

-- the members of the sum that a form is
abbrev pub member_terms : List (List ℕ) → List Term → ℤ → List TermTree
member_terms names [] c = constant_term c ∷ []
member_terms names (t ∷ ts) c = multiple_term names t ∷ (map (multiple_term names) ts ++ later_constant_terms c)

-- the sum, or its member where there is one alone
abbrev pub form_term : List (List ℕ) → Form → TermTree
form_term names f = sum_of (member_terms names f.terms f.constant)

-- ---- atoms

abbrev pub relation_sign : plain.Relation → Relation
relation_sign plain.Equals = Equal
relation_sign plain.Differs = Differs
relation_sign plain.Below = Less
relation_sign plain.AtMost = AtMost
relation_sign plain.Above = Greater
relation_sign plain.AtLeast = AtLeast

abbrev pub written_atom : List (List ℕ) → plain.Atom → WrittenAtom
written_atom names (plain.Compare r f) = Compare (relation_sign r) (form_term names f) (number_term 0)
written_atom names (plain.Congruent true m f) = Cong (form_term names f) (number_term 0) (number_term m)
written_atom names (plain.Congruent false m f) = Ncong (form_term names f) (number_term 0) (number_term m)

-- ---- formulas

-- the tree with the names of the list for their numbers
abbrev pub written_formula : List (List ℕ) → Tree → FormulaTree
written_formula names f = replaced (λ a. One (written_atom names a)) (name_at names) f
