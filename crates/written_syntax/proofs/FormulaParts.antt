-- What is said of a formula, said of its parts.
use Rattle.std.proofs.Common.{◌≡◌, List, map, ap, sym, ◌∙◌}
use Rattle.std.specs.declared.boxed.Box.{Box}
use Rattle.std.specs.declared.alloc.Global.{Global}
use Rattle.logic_meaning.specs.Formula as plain
use Rattle.written_syntax.specs.declared.tree.Formula as written
use Rattle.written_syntax.specs.declared.tree.Formula.TheVariants as formula
use Rattle.written_syntax.specs.declared.tree.Formulas as writtens
use Rattle.language_meaning.specs.Trees.{formulas_of}
use Rattle.written_syntax.specs.CodeTrees.{formula_tree}
use Rattle.written_syntax.proofs.TreeEquations.{formula-Not, formula-And, formula-Or, formula-Impl, formula-Repl, formula-Equiv, formulas-out}

pub not_is : (f : written.Formula) (b : Box written.Formula Global) → f ≡ formula.Not b → formula_tree f ≡ plain.Not (formula_tree b.value)
not_is f b is = ap formula_tree is ∙ formula-Not b

pub impl_is : (f : written.Formula) (a b : Box written.Formula Global) → f ≡ formula.Impl a b → formula_tree f ≡ plain.Impl (formula_tree a.value) (formula_tree b.value)
impl_is f a b is = ap formula_tree is ∙ formula-Impl a b

pub repl_is : (f : written.Formula) (a b : Box written.Formula Global) → f ≡ formula.Repl a b → formula_tree f ≡ plain.Repl (formula_tree a.value) (formula_tree b.value)
repl_is f a b is = ap formula_tree is ∙ formula-Repl a b

pub equiv_is : (f : written.Formula) (a b : Box written.Formula Global) → f ≡ formula.Equiv a b → formula_tree f ≡ plain.Equiv (formula_tree a.value) (formula_tree b.value)
equiv_is f a b is = ap formula_tree is ∙ formula-Equiv a b

pub and_is : (f : written.Formula) (fs : writtens.Formulas) (xs : List written.Formula) → f ≡ formula.And fs → xs ≡ (writtens.out-Formulas fs).list.items → formula_tree f ≡ plain.And (formulas_of (map formula_tree xs))
and_is f fs xs is items = ap formula_tree is ∙ formula-And fs ∙ ap plain.And (formulas-out fs ∙ ap (λ ys. formulas_of (map formula_tree ys)) (sym items))

pub or_is : (f : written.Formula) (fs : writtens.Formulas) (xs : List written.Formula) → f ≡ formula.Or fs → xs ≡ (writtens.out-Formulas fs).list.items → formula_tree f ≡ plain.Or (formulas_of (map formula_tree xs))
or_is f fs xs is items = ap formula_tree is ∙ formula-Or fs ∙ ap plain.Or (formulas-out fs ∙ ap (λ ys. formulas_of (map formula_tree ys)) (sym items))
