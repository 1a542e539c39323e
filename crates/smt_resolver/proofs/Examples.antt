-- Examples worked by hand: which symbols of an assertion are undeclared, and how many levels its formula may need.
use Rattle.std.proofs.Common.{◌≡◌, List, [], ◌∷◌, ℕ, true, false, refl}
use Rattle.std.specs.Prelude.{codes}
use Rattle.logic_meaning.specs.declared.quantifier.Quantifier.TheVariants as quantifier
use Rattle.smt_language.specs.declared.names.SortedName.{SortedName}
use Rattle.smt_language.specs.Trees.{ExpressionTree, True, Named, Quantified, Let, no_local, also_local}
use Rattle.smt_language.specs.Levels.{level}
use Rattle.smt_language.specs.Asserted.{is_undeclared, assertion_levels}

x : List ℕ
x = codes "x"

y : List ℕ
y = codes "y"

-- (exists ((x Real)) body)
some : ExpressionTree → ExpressionTree
some body = Quantified quantifier.Exists ((record { name = x; sort = codes "Real" }) ∷ []) body

-- a symbol that is declared, and one that is not
declared : is_undeclared (x ∷ []) (Named x) ≡ false
unfolding x
declared = refl

undeclared : is_undeclared (x ∷ []) (Named y) ≡ true
unfolding x y
undeclared = refl

-- (let ((y y)) true): a name of a let is not known in its own values
own_value : is_undeclared [] (Let (also_local y (Named y) no_local) True) ≡ true
unfolding y
own_value = refl

-- (let ((y true)) y): it is known inside
inside : is_undeclared [] (Let (also_local y True no_local) (Named y)) ≡ false
unfolding y
inside = refl

-- (let ((y (exists ((x Real)) x))) x): a name of a quantifier is known nowhere else
outside : is_undeclared [] (Let (also_local y (some (Named x)) no_local) (Named x)) ≡ true
unfolding x y some
outside = refl

-- one declared name and one quantified name have the levels 0 and 1
two_levels : assertion_levels (x ∷ []) (some (Named x)) ≡ level 0 ∷ level 1 ∷ []
unfolding x some
two_levels = refl
