-- The values of steps over formulas of a store, one after the other.
use Rattle.std.proofs.Common.{◌≡◌, ℕ, suc, ◌<◌, List, [], ◌∷◌, ◌++◌, length, drop, Option, None, ap, ◌∙◌, ℤ}
use Rattle.exact_numbers.specs.declared.fraction.Fraction.{Fraction}
use Rattle.exact_numbers.specs.Frac.{Frac, ◌>>=◌}
use Rattle.logic_meaning.specs.Context.{Context}
use Rattle.logic_meaning.specs.Answers.{Step}
use Rattle.formula_tree.specs.declared.shape.Shape.{Shape}
use Rattle.formula_store.specs.declared.id.FormulaId.{FormulaId}
use Rattle.formula_store.specs.Nodes.{tree}
use Rattle.logic_meaning.specs.declared.form.VarId.{VarId}
use Rattle.test_points.specs.declared.points.TestPoint.{TestPoint}
use Rattle.test_points.specs.Points.{place_of}
use Rattle.logic_meaning.specs.Values.{common_denominator, point_over}
use Rattle.logic_meaning.specs.Calculated.{place_value, values_from}
use Rattle.sample_reference.specs.Seen.{values_of}
use Rattle.engine_answers.specs.Branches.{shared_steps}
use Rattle.engine_answers.proofs.Branching.{some_at}

-- no value of the step at a place without the numbers of the values before
pub place_lacks_point : (c : Context) (nodes : List (Shape FormulaId)) (ts : List TestPoint) (ids : List FormulaId) (i : ℕ) (found : List (VarId × Fraction)) → i < length ts → i < length ids → common_denominator (values_of found) ≡ None →
    values_from c (shared_steps nodes (drop i ts) (drop i ids)) (values_of found) ≡ None
place_lacks_point c nodes ts ids i found n m e =
    let t = some_at ts i n in
    let id = some_at ids i m in
    ap (λ (l : List TestPoint). values_from c (shared_steps nodes l (drop i ids)) (values_of found)) t.1
    ∙ ap (λ (l : List FormulaId). values_from c (shared_steps nodes (t.0 ∷ drop (suc i) ts) l) (values_of found)) id.1
    ∙ ap (λ o. (o >>= placed t.0 id.0) >>= λ a. values_from c (shared_steps nodes (drop (suc i) ts) (drop (suc i) ids)) (values_of found ++ (record { name = t.0.name.number; at = a } ∷ []))) e
  where
    placed : TestPoint → FormulaId → ℤ → Option Frac
    placed t id d = place_value c t.name.number (place_of t) (tree nodes id) (point_over d (values_of found))

-- values behind those given
pub record AreFound (c : Context) (steps rest : List Step) (given found : List (VarId × Fraction)) : Type 0 where
  pub more : List (VarId × Fraction)
  pub behind : found ≡ given ++ more
  pub left : values_from c rest (values_of found) ≡ values_from c steps (values_of given)
