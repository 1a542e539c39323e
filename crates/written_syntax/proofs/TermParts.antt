-- What is said of a term, said of its parts.
use Rattle.std.proofs.Common.{◌≡◌, List, map, ap, sym, ◌∙◌}
use Rattle.std.specs.declared.boxed.Box.{Box}
use Rattle.std.specs.declared.alloc.Global.{Global}
use Rattle.written_syntax.specs.declared.tree.Term as code
use Rattle.written_syntax.specs.declared.tree.Term.TheVariants as term
use Rattle.written_syntax.specs.declared.tree.Terms as codes
use Rattle.language_meaning.specs.declared.tree.Literal.{Literal}
use Rattle.language_meaning.specs.Trees.{Sum, Product, Quotient, Power, Negative, terms_of}
use Rattle.written_syntax.specs.CodeTrees.{term_tree}
use Rattle.written_syntax.proofs.TreeEquations.{tree-Sum, tree-Product, tree-Quotient, tree-Power, tree-Negative, trees-out}

pub sum_is : (t : code.Term) (ts : codes.Terms) (xs : List code.Term) → t ≡ term.Sum ts → xs ≡ (codes.out-Terms ts).list.items → term_tree t ≡ Sum (terms_of (map term_tree xs))
sum_is t ts xs is items = ap term_tree is ∙ tree-Sum ts ∙ ap Sum (trees-out ts ∙ ap (λ ys. terms_of (map term_tree ys)) (sym items))

pub product_is : (t : code.Term) (ts : codes.Terms) (xs : List code.Term) → t ≡ term.Product ts → xs ≡ (codes.out-Terms ts).list.items → term_tree t ≡ Product (terms_of (map term_tree xs))
product_is t ts xs is items = ap term_tree is ∙ tree-Product ts ∙ ap Product (trees-out ts ∙ ap (λ ys. terms_of (map term_tree ys)) (sym items))

pub negative_is : (t : code.Term) (b : Box code.Term Global) (x : code.Term) → t ≡ term.Negative b → x ≡ b.value → term_tree t ≡ Negative (term_tree x)
negative_is t b x is inner = ap term_tree is ∙ tree-Negative b ∙ ap (λ y. Negative (term_tree y)) (sym inner)

pub quotient_is : (t : code.Term) (a b : Box code.Term Global) → t ≡ term.Quotient a b → term_tree t ≡ Quotient (term_tree a.value) (term_tree b.value)
quotient_is t a b is = ap term_tree is ∙ tree-Quotient a b

pub power_is : (t : code.Term) (b : Box code.Term Global) (n : Literal) → t ≡ term.Power b n → term_tree t ≡ Power (term_tree b.value) n
power_is t b n is = ap term_tree is ∙ tree-Power b n
