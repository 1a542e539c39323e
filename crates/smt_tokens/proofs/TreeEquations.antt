-- The tree of a term or a formula, at each way to make one.
use Rattle.std.proofs.Common.{◌≡◌, ℕ, List, sym, ap, ◌∙◌}
use Rattle.std.specs.Prelude.{map}
use Rattle.std.specs.declared.boxed.Box.{Box}
use Rattle.std.specs.declared.alloc.Global.{Global}
use Rattle.std.specs.declared.vec.Vec.{Vec}
use Rattle.logic_meaning.specs.declared.quantifier.Quantifier.{Quantifier}
use Rattle.language_meaning.specs.declared.tree.Literal.{Literal}
use Rattle.smt_language.specs.declared.names.SortedName.{SortedName}
use Rattle.smt_language.specs.declared.expression.Operator.{Operator}
use Rattle.smt_tokens.specs.declared.expression.Expression as code
use Rattle.smt_tokens.specs.declared.expression.Expression.TheVariants as expression
use Rattle.smt_tokens.specs.declared.expression.Expression.TheOpen as layer
use Rattle.smt_tokens.specs.declared.expression.Expressions as codes
use Rattle.smt_tokens.specs.declared.expression.LocalValue as local
use Rattle.smt_tokens.specs.declared.expression.LocalValues as locals
use Rattle.smt_language.specs.Trees.{True, False, Numeral, Decimal, Named, Apply, Divisible, Quantified, Let}
use Rattle.smt_tokens.specs.TreeLists.{expressions_of, locals_of}
use Rattle.smt_tokens.specs.CodeTrees.{expression_step, expressions_step, local_step, locals_step, expression_tree, expression_trees, local_tree, local_trees}

pub tree-True : expression_tree expression.True ≡ True
unfolding expression_tree
tree-True = ap expression_tree (sym expression.rolls-True) ∙ code.fold-roll-Expression _ _ _ _ expression_step expressions_step local_step locals_step layer.True

pub tree-False : expression_tree expression.False ≡ False
unfolding expression_tree
tree-False = ap expression_tree (sym expression.rolls-False) ∙ code.fold-roll-Expression _ _ _ _ expression_step expressions_step local_step locals_step layer.False

pub tree-Numeral : (n : Literal) → expression_tree (expression.Numeral n) ≡ Numeral n
unfolding expression_tree
tree-Numeral n = ap expression_tree (sym (expression.rolls-Numeral n)) ∙ code.fold-roll-Expression _ _ _ _ expression_step expressions_step local_step locals_step (layer.Numeral n)

pub tree-Decimal : (n power : Literal) → expression_tree (expression.Decimal n power) ≡ Decimal n power
unfolding expression_tree
tree-Decimal n power = ap expression_tree (sym (expression.rolls-Decimal n power)) ∙ code.fold-roll-Expression _ _ _ _ expression_step expressions_step local_step locals_step (layer.Decimal n power)

pub tree-Named : (x : List ℕ) → expression_tree (expression.Named x) ≡ Named x
unfolding expression_tree
tree-Named x = ap expression_tree (sym (expression.rolls-Named x)) ∙ code.fold-roll-Expression _ _ _ _ expression_step expressions_step local_step locals_step (layer.Named x)

pub tree-Apply : (o : Operator) (es : codes.Expressions) → expression_tree (expression.Apply o es) ≡ Apply o (expression_trees es)
unfolding expression_tree expression_trees
tree-Apply o es = ap expression_tree (sym (expression.rolls-Apply o es)) ∙ code.fold-roll-Expression _ _ _ _ expression_step expressions_step local_step locals_step (layer.Apply o es)

pub tree-Divisible : (n : Literal) (e : Box code.Expression Global) → expression_tree (expression.Divisible n e) ≡ Divisible n (expression_tree e.value)
unfolding expression_tree
tree-Divisible n e = ap expression_tree (sym (expression.rolls-Divisible n e)) ∙ code.fold-roll-Expression _ _ _ _ expression_step expressions_step local_step locals_step (layer.Divisible n e)

pub tree-Quantified : (q : Quantifier) (xs : List SortedName) (e : Box code.Expression Global) → expression_tree (expression.Quantified q xs e) ≡ Quantified q xs (expression_tree e.value)
unfolding expression_tree
tree-Quantified q xs e = ap expression_tree (sym (expression.rolls-Quantified q xs e)) ∙ code.fold-roll-Expression _ _ _ _ expression_step expressions_step local_step locals_step (layer.Quantified q xs e)

pub tree-Let : (ls : locals.LocalValues) (e : Box code.Expression Global) → expression_tree (expression.Let ls e) ≡ Let (local_trees ls) (expression_tree e.value)
unfolding expression_tree local_trees
tree-Let ls e = ap expression_tree (sym (expression.rolls-Let ls e)) ∙ code.fold-roll-Expression _ _ _ _ expression_step expressions_step local_step locals_step (layer.Let ls e)

pub trees-list : (v : Vec code.Expression Global) → expression_trees (codes.roll-Expressions (record { list = v })) ≡ expressions_of (map expression_tree v.items)
unfolding expression_tree expression_trees
trees-list v = codes.fold-roll-Expressions _ _ _ _ expression_step expressions_step local_step locals_step (record { list = v })

pub trees-out : (es : codes.Expressions) → expression_trees es ≡ expressions_of (map expression_tree (codes.out-Expressions es).list.items)
unfolding expression_tree expression_trees
trees-out es = codes.fold_out-Expressions _ _ _ _ expression_step expressions_step local_step locals_step es

pub local-roll : (x : List ℕ) (e : code.Expression) → local_tree (local.roll-LocalValue (record { name = x; value = e })) ≡ record { name = x; value = expression_tree e }
unfolding expression_tree local_tree
local-roll x e = local.fold-roll-LocalValue _ _ _ _ expression_step expressions_step local_step locals_step (record { name = x; value = e })

pub local-out : (l : local.LocalValue) → local_tree l ≡ record { name = (local.out-LocalValue l).name; value = expression_tree (local.out-LocalValue l).value }
unfolding expression_tree local_tree
local-out l = local.fold_out-LocalValue _ _ _ _ expression_step expressions_step local_step locals_step l

pub locals-list : (v : Vec local.LocalValue Global) → local_trees (locals.roll-LocalValues (record { list = v })) ≡ locals_of (map local_tree v.items)
unfolding local_tree local_trees
locals-list v = locals.fold-roll-LocalValues _ _ _ _ expression_step expressions_step local_step locals_step (record { list = v })

pub locals-out : (ls : locals.LocalValues) → local_trees ls ≡ locals_of (map local_tree (locals.out-LocalValues ls).list.items)
unfolding local_tree local_trees
locals-out ls = locals.fold_out-LocalValues _ _ _ _ expression_step expressions_step local_step locals_step ls

-- the equations that make the trees of terms and formulas compute
pub ruleset trees = (
  tree-True,
  tree-False,
  tree-Numeral,
  tree-Decimal,
  tree-Named,
  tree-Apply,
  tree-Divisible,
  tree-Quantified,
  tree-Let,
  trees-list,
  trees-out,
  local-roll,
  local-out,
  locals-list,
  locals-out,
)
