-- Linear constraints as they are written: a point that meets them all, or multipliers by which none does.
use Rattle.std.specs.Prelude.{◌≡◌, ◌⊎◌, ◌↔◌, ℕ, ◌<◌, ℤ, pos, negsuc, List, [], ◌++◌, Bool, true, IsTrue, codes, length, map}
use Rattle.std.specs.List.{fold}
use Rattle.exact_numbers.specs.Frac.{whole_frac}
use Rattle.logic_meaning.specs.Atom.{Atom, Compare, Congruent, Equals, Differs, Below, AtMost, Above, AtLeast}
use Rattle.logic_meaning.specs.Context.{Fields}
use Rattle.logic_meaning.specs.Form.{Form, scale}
use Rattle.logic_meaning.specs.Formula.{No, One}
use Rattle.logic_meaning.specs.Measured.{Stop, done, stopped}
use Rattle.logic_meaning.specs.Point.{Point, Of}
use Rattle.logic_meaning.specs.Some.{SomeOf, EachOf}
use Rattle.logic_meaning.specs.Tree.{Tree}
use Rattle.language_meaning.specs.declared.tree.Literal.{Literal}
use Rattle.language_meaning.specs.declared.tree.Literal.TheVariants.{Past}
use Rattle.language_meaning.specs.Trees.{FormulaTrees}
use Rattle.language_meaning.specs.Value.{literal_number}
use Rattle.logic_meaning.specs.Names.{with_name, place}
use Rattle.language_meaning.specs.Resolving.{all_variables}
use Rattle.logic_meaning.specs.Values.{Value, value_names, with_values, IsValue, origin}
use Rattle.logic_meaning.specs.Constraints as farkas
use Rattle.logic_meaning.specs.Constraints.{Constraint}
use Rattle.logic_meaning.specs.Farkas.{nothing, AreAllowed, IsFarkas, SumPasses}
use Rattle.logic_meaning.specs.Search.{Certificate, At, Farkas, search}
use Rattle.logic_meaning.specs.AnswerTexts.{separated}
use Rattle.logic_meaning.specs.PointTexts.{fraction_text, point_text}
use Rattle.logic_meaning.specs.Writing.{text_limit}
use Rattle.program_meaning.specs.Assumptions.{resolved_all, AllTrueAt}
use Rattle.program_meaning.specs.Places.{by_names}
use Rattle.program_meaning.specs.State.{State}

-- ---- constraints

-- the form and what it is to be: 0, at most 0, or below 0. One that is to be above or at least 0 is negated. No constraint is by <>.
abbrev pub compared : farkas.Bound → Form → Constraint
compared bound f = record { form = f; bound = bound }

-- the constraint that a comparison with 0 is; for <> and a congruence, which are none, any will do
abbrev pub atom_constraint : Atom → Constraint
atom_constraint (Compare Equals f) = compared farkas.Equal f
atom_constraint (Compare Differs f) = compared farkas.Equal f
atom_constraint (Compare Below f) = compared farkas.Below f
atom_constraint (Compare AtMost f) = compared farkas.AtMost f
atom_constraint (Compare Above f) = compared farkas.Below (scale (negsuc 0) f)
atom_constraint (Compare AtLeast f) = compared farkas.AtMost (scale (negsuc 0) f)
atom_constraint (Congruent holds n f) = compared farkas.Equal f

-- The constraint that a resolved comparison is. One that is true by itself is that 0 is at most 0, and one that is false that 1 is.
abbrev pub tree_constraint : Tree → Constraint
tree_constraint (One a) = atom_constraint a
tree_constraint No = compared farkas.AtMost (record { terms = []; constant = pos 1 })
tree_constraint f = compared farkas.AtMost nothing

-- the constraints
abbrev pub constraints_of : State → FormulaTrees → List Constraint
constraints_of s written = map tree_constraint (resolved_all s written)

-- the numbers of their names, in the order of their first places in the text
abbrev pub constrained_names : State → FormulaTrees → List ℕ
constrained_names s written = map (place s.names) (fold with_name [] (all_variables written))

-- no point meets the constraints as they are written
abbrev pub AreInfeasible : State → FormulaTrees → Type 0
AreInfeasible s written = (p : Point ℕ) → Of Fields p → ¬ (AllTrueAt s written (by_names s.names p))

-- ---- the search

-- the elimination of the names one after the other, with the multipliers of each row (Fourier, Motzkin), under a limit of rows
abbrev pub Searches : State → ℕ → FormulaTrees → Certificate → Type 0
Searches s limit written found = search limit (constrained_names s written) (constraints_of s written) ≡ done found

-- the search stops: the count of its rows passes the limit, or a number passes the limit of numbers
abbrev pub SearchStops : FormulaTrees → Stop → State → ℕ → Type 0
SearchStops written e s limit = search limit (constrained_names s written) (constraints_of s written) ≡ stopped e

-- Values of all names, in the order of the text and in lowest terms, with which the constraints are met as they are written.
pub record IsSolution (s : State) (written : FormulaTrees) (values : List Value) : Type 0 where
  pub in_order : value_names values ≡ constrained_names s written
  pub each : EachOf (IsValue Fields) values
  pub meets : AllTrueAt s written (by_names s.names (with_values origin values))

-- multipliers by which no point meets the constraints
pub record IsRefutation (s : State) (written : FormulaTrees) (multipliers : List ℤ) : Type 0 where
  pub proves : IsFarkas (constraints_of s written) multipliers
  pub infeasible : AreInfeasible s written

-- what a certificate says
abbrev pub Certifies : State → FormulaTrees → Certificate → Type 0
Certifies s written (At values) = IsSolution s written values
Certifies s written (Farkas multipliers) = IsRefutation s written multipliers

-- what the search gives, which is a certificate
pub record IsCertificateAnswer (s : State) (limit : ℕ) (written : FormulaTrees) (found : Certificate) : Type 0 where
  pub searched : Searches s limit written found
  pub certifies : Certifies s written found

-- the line of a certificate
abbrev pub certificate_text : List (List ℕ) → Certificate → List ℕ
certificate_text names (At values) = codes "{point," ++ point_text names values ++ codes "}"
certificate_text names (Farkas multipliers) = codes "{farkas,{" ++ separated [] (map (λ m. fraction_text (whole_frac m)) multipliers) ++ codes "}}"

-- the line of the certificate passes the limit
abbrev pub HasLongCertificate : FormulaTrees → State → ℕ → Type 0
HasLongCertificate written s limit = (found : Certificate) × Searches s limit written found × (text_limit < length (certificate_text s.names found))

-- ---- the check

-- the numbers of the multipliers
abbrev pub multipliers_of : List Literal → List ℤ
multipliers_of ms = map literal_number ms

-- a multiplier is above the limit, or there is an allowed one for each constraint, and a number passes the limit where they are added up
abbrev pub CheckPasses : FormulaTrees → List Literal → State → ℕ → Type 0
CheckPasses written ms s limit = SomeOf (λ m. m ≡ Past) ms ⊎ (AreAllowed (constraints_of s written) (multipliers_of ms) × SumPasses nothing (constraints_of s written) (multipliers_of ms))

-- the answer is whether the multipliers prove that no point meets the constraints; where they do, none does
pub record IsCheckAnswer (s : State) (written : FormulaTrees) (ms : List Literal) (answer : Bool) : Type 0 where
  pub decides : IsTrue answer ↔ IsFarkas (constraints_of s written) (multipliers_of ms)
  pub infeasible : answer ≡ true → AreInfeasible s written
