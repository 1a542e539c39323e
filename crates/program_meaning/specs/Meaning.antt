-- What a command means: what it reads, why it may be refused, and what it answers with. `meaning`, at the end, has a line for each command, and `assumption_meaning`
-- is that of assumptions that are to stand; the causes of a refusal and the replies are stated once, of any meaning.
use Rattle.std.specs.Prelude.{◌≡◌, ◌⊎◌, ◌*◌, ◌<◌, ◌≤◌, ℕ, List, [], ◌∷◌, ◌++◌, Bool, Option, length, map}
use Rattle.logic_meaning.specs.declared.junction.Junction.{Junction}
use Rattle.logic_meaning.specs.declared.junction.Junction.TheVariants.{Conjunction, Disjunction}
use Rattle.logic_meaning.specs.Context.{Integers}
use Rattle.logic_meaning.specs.Every.{Every}
use Rattle.logic_meaning.specs.Formula.{none, also}
use Rattle.logic_meaning.specs.Numbers.{IsAtomInLimit}
use Rattle.logic_meaning.specs.Measured.{Stop, Overflow, Nodes, done, stopped}
use Rattle.logic_meaning.specs.Sizes.{nodes}
use Rattle.logic_meaning.specs.Tree.{Tree, tree_distinct}
use Rattle.logic_meaning.specs.Prenex.{prenex_of}
use Rattle.logic_meaning.specs.Cases.{Case, reference_cases}
use Rattle.logic_meaning.specs.Reference.{reference}
use Rattle.logic_meaning.specs.Sample.{reference_at}
use Rattle.logic_meaning.specs.ReferenceSample.{reference_sample}
use Rattle.logic_meaning.specs.Values.{Value}
use Rattle.language_meaning.specs.declared.entries.PointEntry.{PointEntry}
use Rattle.language_meaning.specs.Point.{PassesLimit, IsPointOf}
use Rattle.language_meaning.specs.Statements.{CommandTree, Echo, Nnf, Pnf, Dnf, Cnf, Simpl, Qe, Qea, Holds, Sample, Grid, Certify, Check, Least}
use Rattle.language_meaning.specs.Holes.{Nests}
use Rattle.language_meaning.specs.Texts.{written_out}
use Rattle.language_meaning.specs.Trees.{FormulaTree, FormulaTrees}
use Rattle.language_meaning.specs.Value.{NamedPoint}
use Rattle.logic_meaning.specs.Names.{place}
use Rattle.language_meaning.specs.Resolving.{all_variables, resolve, at_names}
use Rattle.logic_meaning.specs.PlainForms.{plain_form, literals}
use Rattle.language_meaning.specs.Forms.{OverflowsInRenaming}
use Rattle.logic_meaning.specs.Writing.{text_limit}
use Rattle.logic_meaning.specs.AnswerTexts.{cases_text}
use Rattle.program_meaning.specs.Words.{truth_text}
use Rattle.program_meaning.specs.Standing.{grown, standing_text}
use Rattle.program_meaning.specs.State.{State, known}
use Rattle.program_meaning.specs.Uses.{Use, IsDirectUse}
use Rattle.program_meaning.specs.FormulaAnswers.{negation_normal_of, IsPrenexAnswer, HasNewNames, IsSimplification, IsCleanAnswer, IsCondition}
use Rattle.program_meaning.specs.Points.{MeanNoPoint, HasUnvalued, IsQuantified, TruthPasses, IsTruth}
use Rattle.program_meaning.specs.Cases.{IsCaseAnswer}
use Rattle.logic_meaning.specs.Search.{Certificate}
use Rattle.program_meaning.specs.Samples.{IsSampleAnswer, sample_text}
use Rattle.program_meaning.specs.Grids.{lows, MeanNoGrid, PassesGrid, HasTooManyPoints, TruthsPass, IsGridAnswer, grid_text}
use Rattle.program_meaning.specs.Targets.{target_name, problem_of, TargetAnswer, SaysLeast, target_text, TargetStops}
use Rattle.program_meaning.specs.Certificates.{SearchStops, IsCertificateAnswer, certificate_text, HasLongCertificate, CheckPasses, IsCheckAnswer}

-- ---- meanings

-- what may hold of a state in which the variables of the command have their numbers, under a limit of nodes
abbrev pub Fact : Type 1
Fact = State → ℕ → Type 0

-- the causes of a refusal that are a command's own; `text` is one where the line is printed
pub record OwnCauses : Type 1 where
  pub context : Fact
  pub point : Fact
  pub unvalued : Fact
  pub quantified : Fact
  pub overflow : Fact
  pub nodes : Fact
  pub text : Fact

-- The formulas that a command may give. Where it determines one, that is the one; else there may be one that those it may give are measured by.
pub record FormulaAnswer : Type 1 where
  pub determined : State → Tree → Type 0
  pub measure : State → ℕ → Tree → Type 0
  pub allowed : State → ℕ → Tree → Type 0

-- what a command answers with: a formula, which may be bound, or a text
pub data Answer : Type 1 where
  OfFormula : FormulaAnswer → Answer
  OfText : (State → ℕ → List ℕ → Type 0) → Answer

-- The formulas that are read, in the order of the text; the names of variables behind them, which must not be bound; the causes that are answered wherever they apply
-- and no earlier one does, and those that may be answered there and need not be; the uses in which it is spared the latter, and a refusal for the size of what it gives; the
-- names after the answer; and the answer.
pub record Meaning : Type 1 where
  pub formulas : FormulaTrees
  pub further : List (List ℕ)
  pub must : OwnCauses
  pub may : OwnCauses
  pub spared : State → ℕ → Use → Type 0
  pub names : State → List (List ℕ) → Type 0
  pub answer : Answer

-- the same of the whole text, where these commands stand inside the formulas
abbrev pub text_variables : Nests → Meaning → List (List ℕ)
text_variables ns m = all_variables (written_out ns m.formulas) ++ m.further

-- ---- what an answer allows

-- the formula that it determines
abbrev pub Determines : Answer → State → Tree → Type 0
Determines (OfFormula a) s t = a.determined s t
Determines (OfText tells) s t = ⊥

-- the formula that a simpler one is measured by
abbrev pub IsMeasureOf : Answer → State → ℕ → Tree → Type 0
IsMeasureOf (OfFormula a) s limit t = a.measure s limit t
IsMeasureOf (OfText tells) s limit t = ⊥

-- a formula that is as the command asks
abbrev pub IsAllowed : Answer → State → ℕ → Tree → Type 0
IsAllowed (OfFormula a) s limit t = a.allowed s limit t
IsAllowed (OfText tells) s limit t = ⊥

-- a formula that it may give: such a one, each of whose numbers is within the limit of numbers
abbrev pub MayGive : Answer → State → ℕ → Tree → Type 0
MayGive a s limit t = IsAllowed a s limit t × Every IsAtomInLimit t

-- ---- the parts of meanings

-- what holds of no state, under no limit
abbrev pub never : Fact
never s limit = ⊥

-- the causes of a command that is never refused for one of its own
abbrev pub no_causes : OwnCauses
no_causes = record { context = never; point = never; unvalued = never; quantified = never; overflow = never; nodes = never; text = never }

-- a computation that stops
abbrev pub stops : (Stop → Fact) → OwnCauses
stops P = record no_causes { overflow = P Overflow; nodes = P Nodes }

-- more nodes are counted than the limit
abbrev pub counts : (State → ℕ) → OwnCauses
counts count = record no_causes { nodes = λ s limit. limit < count s }

-- this formula and no other
abbrev pub exactly : (State → Tree) → FormulaAnswer
exactly form = record { determined = λ s t. t ≡ form s; measure = λ s limit t. ⊥; allowed = λ s limit t. t ≡ form s }

-- one of several, which are measured by another
abbrev pub measured : (State → ℕ → Tree → Type 0) → (State → ℕ → Tree → Type 0) → FormulaAnswer
measured measure allowed = record { determined = λ s t. ⊥; measure = measure; allowed = allowed }

-- a command that reads a formula and its assumptions, has no cause of its own that must be answered, and adds no names
abbrev pub of_formula : FormulaTree → FormulaTrees → OwnCauses → Answer → Meaning
of_formula f given may answer = record { formulas = also f given; further = []; must = no_causes; may = may; spared = λ s limit u. ⊥; names = λ s names. names ≡ s.names; answer = answer }

-- a command that asks about a formula at a point, which has to value its free names
abbrev pub at_point : FormulaTree → List PointEntry → OwnCauses → (State → ℕ → List ℕ → Type 0) → Meaning
at_point f es may tells = record (of_formula f none may (OfText tells)) {
  further = map (λ (e : PointEntry). e.name) es;
  must = record no_causes {
    point = λ s limit. MeanNoPoint s.context es;
    unvalued = λ s limit. HasUnvalued (known s) (place s.names) f es;
    overflow = λ s limit. PassesLimit es;
  };
}

-- a command about linear constraints over the ordered fields
abbrev pub of_constraints : FormulaTrees → OwnCauses → (State → ℕ → List ℕ → Type 0) → Meaning
of_constraints written must tells = record {
  formulas = written;
  further = [];
  must = record must { context = λ s limit. s.context ≡ Integers };
  may = no_causes;
  spared = λ s limit u. ⊥;
  names = λ s names. names ≡ s.names;
  answer = OfText tells;
}

-- a command that gives a clean form: the places of atoms of the plain form are counted
abbrev pub clean : Junction → FormulaTree → Meaning
clean j f = record (of_formula f none (counts (λ s. literals j (negation_normal_of s f))) (OfFormula (measured (λ s limit t. t ≡ plain_form j (negation_normal_of s f)) (λ s limit t. IsCleanAnswer s j f t)))) {
  must = record no_causes { quantified = λ s limit. IsQuantified (known s) f };
}

-- the formula with its variables numbered, its bound names as their trees, and its atoms in normal form
abbrev pub resolved : FormulaTree → State → Tree
resolved f s = resolve s.context (known s) s.names f

-- the normal form of an atom whose names are chosen passes the limit of numbers, where the negation normal form has no more nodes than the limit
abbrev pub RenamingPasses : FormulaTree → Fact
RenamingPasses f s limit = (nodes (negation_normal_of s f) ≤ limit) × OverflowsInRenaming s.context (length s.names) (negation_normal_of s f)

-- the reference elimination stops
abbrev pub ReferenceStops : FormulaTree → Stop → Fact
ReferenceStops f e s limit = reference s.context limit (resolved f s) ≡ stopped e

-- the reference elimination gives this formula
abbrev pub IsReferenceAnswer : FormulaTree → State → ℕ → Tree → Type 0
IsReferenceAnswer f s limit t = (cost : ℕ) × (reference s.context limit (resolved f s) ≡ done (t, cost))

-- the reference elimination of a case list stops
abbrev pub CasesStop : FormulaTree → Stop → Fact
CasesStop f e s limit = reference_cases s.context limit (resolved f s) ≡ stopped e

-- the text of the case list that the reference elimination gives passes the limit
abbrev pub HasLongCases : FormulaTree → Fact
HasLongCases f s limit = (ks : List Case) × (cost : ℕ) × (reference_cases s.context limit (resolved f s) ≡ done (ks, cost)) × (text_limit < length (cases_text s.names ks))

-- The reference elimination of a formula with quantifiers stops at the point. Nodes are counted before the point is put in.
abbrev pub TruthStops : FormulaTree → List PointEntry → Stop → Fact
TruthStops f es e s limit = IsQuantified (known s) f × ((point : NamedPoint) × IsPointOf es point × (reference_at s.context limit (at_names s.names point) (resolved f s) ≡ stopped e))

-- a number passes the limit where a formula without quantifiers is evaluated at the point
abbrev pub ValuePasses : FormulaTree → List PointEntry → Fact
ValuePasses f es s limit = (¬ (IsQuantified (known s) f)) × TruthPasses s f es

-- the reference elimination of the formula of a sample stops at the point, or the sample that it leads to does
abbrev pub SampleStops : FormulaTree → List PointEntry → Stop → Fact
SampleStops f es e s limit = (point : NamedPoint) × IsPointOf es point × (reference_sample s.context limit (at_names s.names point) (resolved f s) ≡ stopped e)

-- ---- the table

-- what each command means
abbrev pub meaning : CommandTree → Meaning
meaning (Echo f) = of_formula f none no_causes (OfFormula (exactly (resolved f)))
meaning (Nnf f) = of_formula f none (counts (λ s. 6 * tree_distinct (resolved f s))) (OfFormula (exactly (λ s. negation_normal_of s f)))
meaning (Pnf f) = record (of_formula f none (counts (λ s. nodes (negation_normal_of s f))) (OfFormula (record (exactly (λ s. prenex_of s.context (length s.names) (negation_normal_of s f))) { allowed = λ s limit t. IsPrenexAnswer s limit f t }))) {
  must = record no_causes { overflow = RenamingPasses f };
  names = λ s names. HasNewNames s.names (resolved f s) names;
}
meaning (Dnf f) = clean Conjunction f
meaning (Cnf f) = clean Disjunction f
meaning (Simpl f given) = of_formula f given (counts (λ s. nodes (negation_normal_of s f))) (OfFormula (measured (λ s limit t. t ≡ negation_normal_of s f) (λ s limit t. IsSimplification s f given t)))
meaning (Qe f given) = record (of_formula f given (stops (ReferenceStops f)) (OfFormula (measured (IsReferenceAnswer f) (λ s limit t. IsCondition s limit f given t)))) { spared = IsDirectUse f }
meaning (Qea f given) = of_formula f given (record (stops (CasesStop f)) { text = HasLongCases f }) (OfText (λ s limit text. (ks : List Case) × IsCaseAnswer s f given ks × (text ≡ cases_text s.names ks)))
meaning (Holds f es) = at_point f es (record (stops (TruthStops f es)) { overflow = λ s limit. ValuePasses f es s limit ⊎ TruthStops f es Overflow s limit })
    (λ s limit text. (answer : Bool) × IsTruth s f es answer × (text ≡ truth_text answer))
meaning (Sample f es) = at_point f es (stops (SampleStops f es)) (λ s limit text. (sample : Option (List Value)) × IsSampleAnswer s f es sample × (text ≡ sample_text s.names sample))
meaning (Grid f axes) = record (of_formula f none (record no_causes { overflow = λ s limit. TruthsPass s f axes }) (OfText (λ s limit text. (truths : List Bool) × IsGridAnswer s f axes truths × (text ≡ grid_text truths)))) {
  further = map (λ (e : PointEntry). e.name) (lows axes);
  must = record no_causes {
    point = λ s limit. MeanNoGrid s.context axes;
    unvalued = λ s limit. HasUnvalued (known s) (place s.names) f (lows axes);
    quantified = λ s limit. IsQuantified (known s) f;
    overflow = λ s limit. PassesGrid (place s.names) axes;
    nodes = λ s limit. HasTooManyPoints (place s.names) axes;
  };
}
meaning (Certify written) = of_constraints written (record (stops (SearchStops written)) { text = HasLongCertificate written }) (λ s limit text. (found : Certificate) × IsCertificateAnswer s limit written found × (text ≡ certificate_text s.names found))
meaning (Check written ms) = of_constraints written (record no_causes { overflow = CheckPasses written ms }) (λ s limit text. (answer : Bool) × IsCheckAnswer s written ms answer × (text ≡ truth_text answer))
-- the target's name is the last one that the problem numbers, and is given back
meaning (Least written target) = record (of_constraints (also (problem_of written target) none) no_causes (λ s limit text. (found : TargetAnswer) × SaysLeast s written target found × (text ≡ target_text s.names found))) {
  may = stops (TargetStops written target);
  names = λ s names. s.names ≡ names ++ target_name ∷ [];
}

-- what assumptions mean that are to stand: the line has them behind those that stand already
abbrev pub assumption_meaning : FormulaTrees → Meaning
assumption_meaning given = record {
  formulas = given;
  further = [];
  must = record no_causes { text = λ s limit. text_limit < length (standing_text s.names (grown s given)) };
  may = no_causes;
  spared = λ s limit u. ⊥;
  names = λ s names. names ≡ s.names;
  answer = OfText (λ s limit text. text ≡ standing_text s.names (grown s given));
}
