-- Formulas that may stand asserted, and that those of assertions are such.
use Rattle.std.proofs.Common.{◌≡◌, ◌≤◌, ◌<◌, ◌+◌, ℕ, List, [], Some, length, sym, subst, arith}
use Rattle.std.specs.Prelude.{position}
use Rattle.logic_meaning.specs.Context.{Context}
use Rattle.logic_meaning.specs.Tree.{Tree}
use Rattle.language_meaning.specs.Trees.{FormulaTree}
use Rattle.language_meaning.specs.Value.{same_name}
use Rattle.smt_language.specs.Trees.{ExpressionTree}
use Rattle.smt_meaning.specs.Atoms.{IsClosedBelow}
use Rattle.smt_language.specs.QuantifiedNames.{quantified_names}
use Rattle.smt_language.specs.Meaning.{meaning, declared_scope, variable}
use Rattle.smt_language.specs.Operators.{Meaning, Formula}
use Rattle.smt_meaning.specs.Proper.{IsProper}
use Rattle.smt_meaning.proofs.Captures.{nothing_is_captured}
use Rattle.smt_meaning.proofs.MeaningNames.{map_there, as_formula_there, levels_suffice}
use Rattle.std.proofs.lemmas.List.Quantifiers.{position-Some}
use Rattle.smt_resolver.specs.Outcomes.{IsAssertedAs}
use Rattle.smt_theorems.specs.Resolvable.{IsResolvable}

-- what may stand asserted may so where more names are declared
pub more_names : (c : Context) (n m : ℕ) (f : FormulaTree) → n ≤ m → IsResolvable c n f → IsResolvable c m f
more_names c n m f l h = record {
  atoms = h.atoms;
  most = h.most;
  below = h.below;
  closed = λ x i. let b = h.closed x i in let k : ℕ = b.0 in let d : k < n = b.1 in (k, omega arith, b.2);
  accepted = h.accepted;
}

-- the declared names stand for levels below their count
declared_closed : (names : List (List ℕ)) (x : List ℕ) (m : Meaning) → declared_scope names x ≡ Some m → IsClosedBelow (length names) m
declared_closed names x m e =
    let a = map_there (position (same_name x) names) variable m e in
    subst (IsClosedBelow (length names)) a.2 (λ y i. (a.0, (position-Some (same_name x) names a.0 [] a.1).0, sym i))

-- the formula of an assertion may stand asserted
pub asserted_resolvable : {Id : Type 0} (c : Context) (limit : ℕ) (declared : List (List ℕ)) (is_id : Id → Type 0) (tree : Id → Tree) (e : ExpressionTree) (f : FormulaTree) (id : Id) → IsProper e
    → IsAssertedAs c limit declared is_id tree e f id → IsResolvable c (length declared) f
asserted_resolvable c limit declared is_id tree e f id p a =
    let means : meaning c (declared_scope declared) (length declared) e ≡ Some (Formula f) = as_formula_there (meaning c (declared_scope declared) (length declared) e) f a.formula.formula.means in
    let below = levels_suffice c declared e (Formula f) p means in
    record {
      atoms = below.atoms;
      most = length declared + quantified_names e;
      below = below.names;
      closed = nothing_is_captured c (declared_scope declared) (length declared) e (Formula f) (declared_closed declared) means;
      accepted = a.accepted;
    }
