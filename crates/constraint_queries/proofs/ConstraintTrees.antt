-- What a constraint is read as: a tree that is true where its constraint is met, and has the names of that.
use Rattle.std.proofs.Common.{◌≡◌, ◌↔◌, ℕ, ◌<◌, List, [], ◌∷◌, Bool, true, false, sym, ap, ◌∙◌, subst, refl, arith}
use Rattle.std.proofs.Math.IntN.{ℤ, pos, negsuc, ◌*ℤ◌}
use Rattle.std.proofs.lemmas.Bool.{false≢true}
use Rattle.std.proofs.lemmas.Int.{ints}
use Rattle.std.specs.Prelude.{Result, Ok, Err}
use Rattle.std.specs.Ordering.{int_cmp}
use Rattle.exact_numbers.proofs.Ring.{mul_zero, one_mul, zero_mul}
use Rattle.logic_meaning.specs.Atom.{Relation, Equals, Differs, Below, AtMost, Above, AtLeast, Compare, Congruent}
use Rattle.logic_meaning.specs.Context.{Context, Fields}
use Rattle.logic_meaning.specs.Form.{Form, Term, coefficient, scale, value}
use Rattle.logic_meaning.specs.Formula.{Yes, No, One, Not, And, Or, Impl, Repl, Equiv, Ex, All}
use Rattle.logic_meaning.specs.Point.{Point}
use Rattle.logic_meaning.specs.Sorted.{gathered}
use Rattle.logic_meaning.specs.Tree.{Tree, TrueAt, IsFree}
use Rattle.formula_laws.proofs.Coefficients.{coefficient_scale}
use Rattle.formula_laws.proofs.Values.{value_scale}
use Rattle.logic_meaning.specs.NormalForm.{constant_tree, holds, facing, compared_in_fields, normal_atom}
use Rattle.language_meaning.specs.declared.tree.Relation as syntax
use Rattle.language_meaning.specs.declared.tree.Relation.TheVariants as relation
use Rattle.language_meaning.specs.Trees.{FormulaTree}
use Rattle.language_meaning.specs.Value.{relation_of}
use Rattle.language_meaning.specs.Constraints.{bounds}
use Rattle.language_meaning.specs.RationalForms.{RationalForm, Missing, formed_difference}
use Rattle.language_meaning.specs.Resolving.{resolve, compared}
use Rattle.logic_meaning.specs.Names.{place}
use Rattle.linear_theory.specs.Meeting.{Meets}
use Rattle.logic_meaning.specs.Farkas.{nothing}
use Rattle.program_meaning.specs.Certificates.{tree_constraint}
use Rattle.program_meaning.specs.State.{State, known}
use Rattle.least_search.proofs.Constraints.{Bounds, IsBound}
use Rattle.constraint_queries.proofs.CauseSteps.{IsComparison}

-- ---- bounds

settled : (b : Bool) → IsBound (constant_tree b)
settled true = tt
settled false = tt

facing_bounds : (k : ℤ) (r : Relation) → Bounds r → Bounds (facing k r)
facing_bounds (pos n) r h = h
facing_bounds (negsuc n) Equals h = tt
facing_bounds (negsuc n) Differs h = h
facing_bounds (negsuc n) Below h = tt
facing_bounds (negsuc n) AtMost h = tt
facing_bounds (negsuc n) Above h = tt
facing_bounds (negsuc n) AtLeast h = tt

in_fields : (r : Relation) (ts : List Term) (k : ℤ) → Bounds r → IsBound (compared_in_fields r ts k)
in_fields r [] k h = settled (holds r (int_cmp k (pos 0)))
in_fields r (t ∷ ts) k h = facing_bounds t.times r h

normal_bound : (r : Relation) (f : Form) → Bounds r → IsBound (normal_atom Fields (Compare r f))
unfolding normal_atom
normal_bound r f h = in_fields r (gathered f).terms (gathered f).constant h

relation_bounds : (rel : syntax.Relation) → bounds rel ≡ true → Bounds (relation_of rel)
relation_bounds relation.Equal h = tt
relation_bounds relation.Differs h = absurd (false≢true h)
relation_bounds relation.Less h = tt
relation_bounds relation.AtMost h = tt
relation_bounds relation.Greater h = tt
relation_bounds relation.AtLeast h = tt

compared_bound : (rel : syntax.Relation) (r : Result RationalForm Missing) → bounds rel ≡ true → IsBound (compared Fields rel r)
compared_bound rel (Ok d) h = normal_bound (relation_of rel) d.form (relation_bounds rel h)
compared_bound rel (Err e) h = tt

-- a constraint is read as such a tree
pub resolved_bound : (s : State) (f : FormulaTree) → s.context ≡ Fields → IsComparison f → IsBound (resolve s.context (known s) s.names f)
resolved_bound s f fields h =
    subst (λ g. IsBound (resolve s.context (known s) s.names g)) (sym h.is)
    (subst (λ c. IsBound (compared c h.relation (formed_difference c (place s.names) h.left h.right))) (sym fields) (compared_bound h.relation (formed_difference Fields (place s.names) h.left h.right) h.bounds))

-- ---- names

coefficient_nothing : (y : ℕ) (k : ℤ) → coefficient y (record { terms = []; constant = k }) ≡ pos 0
unfolding coefficient
coefficient_nothing y k = refl

minus_named : (y : ℕ) (f : Form) → ¬ (coefficient y (scale (negsuc 0) f) ≡ pos 0) → ¬ (coefficient y f ≡ pos 0)
minus_named y f h e = h (coefficient_scale y (negsuc 0) f ∙ ap (λ z. negsuc 0 *ℤ z) e ∙ mul_zero (negsuc 0))

-- a name of the constraint is one of the comparison
pub constraint_named : (t : Tree) → IsBound t → (y : ℕ) → ¬ (coefficient y (tree_constraint t).form ≡ pos 0) → IsFree t y
constraint_named Yes h y k = absurd (k (coefficient_nothing y (pos 0)))
constraint_named No h y k = absurd (k (coefficient_nothing y (pos 1)))
constraint_named (One (Compare Equals f)) h y k = k
constraint_named (One (Compare Differs f)) h y k = absurd h
constraint_named (One (Compare Below f)) h y k = k
constraint_named (One (Compare AtMost f)) h y k = k
constraint_named (One (Compare Above f)) h y k = minus_named y f k
constraint_named (One (Compare AtLeast f)) h y k = minus_named y f k
constraint_named (One (Congruent holds n f)) h y k = absurd h
constraint_named (Not f) h y k = absurd h
constraint_named (And fs) h y k = absurd h
constraint_named (Or fs) h y k = absurd h
constraint_named (Impl f g) h y k = absurd h
constraint_named (Repl f g) h y k = absurd h
constraint_named (Equiv f g) h y k = absurd h
constraint_named (Ex x f) h y k = absurd h
constraint_named (All x f) h y k = absurd h
