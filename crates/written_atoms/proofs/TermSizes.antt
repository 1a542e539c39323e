-- How large terms are: parts are smaller than the whole.
use Rattle.std.proofs.Common.{◌≡◌, ◌<◌, ◌+◌, ℕ, suc, zero, List, [], ◌∷◌, length, get_or, map, ap, ◌∙◌, arith}
use Rattle.written_syntax.specs.declared.tree.Term as code
use Rattle.written_syntax.specs.declared.tree.Term.TheVariants as term
use Rattle.written_syntax.specs.declared.tree.Terms as codes
use Rattle.language_meaning.specs.declared.tree.Literal.{Literal}
use Rattle.written_syntax.proofs.TreeEquations.{tree-Sum, tree-Product, tree-Number, tree-Name}
use Rattle.language_meaning.specs.Trees.{TermTree, TermTrees, Number, Named, Sum, Product, Quotient, Power, Negative, none, also, terms_of}
use Rattle.written_syntax.specs.CodeTrees.{term_tree, term_trees}

abbrev mutual
  pub term_size : TermTree → ℕ
  term_size (Number n) = 1
  term_size (Named x) = 1
  term_size (Sum ts) = 1 + terms_size ts
  term_size (Product ts) = 1 + terms_size ts
  term_size (Quotient s t) = 1 + (term_size s + term_size t)
  term_size (Power t n) = 1 + term_size t
  term_size (Negative t) = 1 + term_size t

  pub terms_size : TermTrees → ℕ
  terms_size none = 1
  terms_size (also t ts) = 1 + (term_size t + terms_size ts)

-- a member is smaller than its list
pub member_smaller : (xs : List code.Term) (i : ℕ) (d : code.Term) → i < length xs → term_size (term_tree (get_or xs i d)) < terms_size (terms_of (map term_tree xs))
member_smaller [] i d h = absurd (omega arith)
member_smaller (x ∷ xs) zero d h = omega arith
member_smaller (x ∷ xs) (suc i) d h = let k = member_smaller xs i d (omega arith) in omega arith

-- ---- parts

pub sum_is : (t : code.Term) (ts : codes.Terms) (xs : List code.Term) → t ≡ term.Sum ts → term_trees ts ≡ terms_of (map term_tree xs) → term_tree t ≡ Sum (terms_of (map term_tree xs))
sum_is t ts xs is items = ap term_tree is ∙ tree-Sum ts ∙ ap Sum items

pub product_is : (t : code.Term) (ts : codes.Terms) (xs : List code.Term) → t ≡ term.Product ts → term_trees ts ≡ terms_of (map term_tree xs) → term_tree t ≡ Product (terms_of (map term_tree xs))
product_is t ts xs is items = ap term_tree is ∙ tree-Product ts ∙ ap Product items

pub number_literal : (t : code.Term) (n : Literal) → t ≡ term.Number n → term_tree t ≡ Number n
number_literal t n is = ap term_tree is ∙ tree-Number n

pub name_is : (t : code.Term) (x : List ℕ) → t ≡ term.Name x → term_tree t ≡ Named x
name_is t x is = ap term_tree is ∙ tree-Name x
