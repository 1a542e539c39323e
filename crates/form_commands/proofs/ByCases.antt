-- What the cases of a case tree give: a condition, and cases that are left.
use Rattle.std.proofs.Common.{◌≡◌, ℕ, ◌<◌, ◌≤◌, List, [], ◌∷◌, All as Each, Bool, false, not, sym, ap, ◌∙◌, subst, refl, arith}
use Rattle.std.proofs.lemmas.List.Elements.{recursion_from_All}
use Rattle.std.specs.Prelude.{Result, Ok, Err, IfOk, IfErr, OnOk}
use Rattle.logic_meaning.specs.Answer.{Place}
use Rattle.logic_meaning.specs.Atom.{Atom}
use Rattle.logic_meaning.specs.Context.{Context, Fields}
use Rattle.logic_meaning.specs.Every.{Every}
use Rattle.logic_meaning.specs.Measured as stop
use Rattle.logic_meaning.specs.Sizes.{nodes}
use Rattle.logic_meaning.specs.Some.{EachOf}
use Rattle.logic_meaning.specs.Tree.{Tree, Trees, IsFree}
use Rattle.normal_atoms.specs.Atoms.{context_of}
use Rattle.logic_meaning.specs.NormalForm.{IsNormal}
use Rattle.normal_atoms.specs.declared.atoms.Context as code_context
use Rattle.normal_atoms.specs.declared.atoms.Context.TheVariants as theory
use Rattle.shape_theory.specs.Orderly.{IsOrderly}
use Rattle.logic_meaning.specs.Cases.{Case, case_names, reference_cases}
use Rattle.logic_meaning.specs.Over.{AreAnswersOver}
use Rattle.logic_meaning.specs.Reference.{normal_tree, reference}
use Rattle.elimination_theory.specs.Theorems.{IsTidy}
use Rattle.test_points.specs.Points.{IsTestPoint}
use Rattle.reference_engine.specs.declared.measured.Measured.{Measured}
use Rattle.reference_engine.specs.Told.{StopsWith}
use Rattle.reference_engine.specs.declared.measured.Measured.TheVariants as measured
use Rattle.formula_tree.specs.declared.shape.Shape.{Shape}
use Rattle.formula_store.specs.declared.id.FormulaId.{FormulaId}
use Rattle.formula_store.specs.Nodes.{tree}
use Rattle.case_theory.specs.CaseTree.{without_all, IsCaseUnder}
use Rattle.logic_meaning.specs.Direct.{IsDirect}
use Rattle.case_theory.proofs.Fallback.{stops_one}
use Rattle.engine_answers.specs.declared.answer.Answer.{Answer}
use Rattle.engine_answers.specs.declared.answer.Answer.TheVariants as answer
use Rattle.engine_answers.specs.declared.case_tree.Case as code
use Rattle.engine_answers.specs.declared.case_tree.CaseTree.{CaseTree}
use Rattle.engine_answers.specs.CaseTrees.{cases_seen, guards_together, IsCaseTreeOf}
use Rattle.engine_answers.specs.Direct.{IsDirectTree}
use Rattle.engine_answers.proofs.Stops.{stopped_so}
use Rattle.form_commands.specs.declared.error.FormsError.{FormsError}
use Rattle.form_commands.specs.declared.error.FormsError.TheVariants as error
use Rattle.form_commands.specs.Cases.{AreLeftOf, AreCasesFor}
use Rattle.form_commands.specs.Conditions.{IsAnswerFor, IsConditionByCases, IsNotDirect, said_of}
use Rattle.form_commands.specs.Faults.{measured_error, EliminationFault, SimplificationFault, ConditionFault, CasesFault}
use Rattle.form_commands.specs.Forms.{IsSimplifiedAs, IsSimplifiedAnswer}
use Rattle.form_commands.proofs.CaseLemmas.{guard_orderly, cases_fault}
use Rattle.form_commands.proofs.CasesFor.{points_over, tree_cases}
use Rattle.form_commands.proofs.ConditionsFor.{condition_for, worked_condition, guards_tidy, joined_names, together_orderly, said_condition}
use Rattle.form_commands.proofs.DirectConditions.{is_asked, joined_few, joined_no_larger}

-- ---- what stops an elimination

module _ (c : Context) (limit : ℕ) (f : Tree) where
  elimination_fault : (e : Measured) → StopsWith e (reference c limit f) → EliminationFault c limit f (measured_error e)
  elimination_fault measured.Overflow h = h
  elimination_fault measured.Nodes h = h
  elimination_fault measured.Memory h = tt

  -- what stops the elimination stops the cases
  cases_stop : (e : Measured) → StopsWith e (reference c limit f) → StopsWith e (reference_cases c limit f)
  cases_stop measured.Overflow h = stopped_so stop.Overflow (reference c limit f) (reference_cases c limit f) (sym (stops_one c limit f)) h
  cases_stop measured.Nodes h = stopped_so stop.Nodes (reference c limit f) (reference_cases c limit f) (sym (stops_one c limit f)) h
  cases_stop measured.Memory h = tt

  -- so there are no cases for the same reason
  pub cases_refused : (e : Measured) → StopsWith e (reference c limit f) → CasesFault c limit f (measured_error e)
  cases_refused e h = cases_fault c limit f e (cases_stop e h)

-- the program's theory of the fields
fields_are : (k : code_context.Context) → context_of k ≡ Fields → k ≡ theory.Fields
fields_are theory.Fields e = refl
fields_are theory.Integers e = cc (e)

-- ---- a case tree over the formulas of a store

module _ (k : code_context.Context) (ks : List Atom) (f : Tree) (normal : Every (IsNormal (context_of k)) f) (store : List (Shape FormulaId)) (t : CaseTree) (h : IsCaseTreeOf (context_of k) ks f store t) where
  abbrev c : Context
  c = context_of k

  abbrev seen : List Case
  seen = cases_seen store t.cases.items

  tidy : EachOf (λ (k : Case). IsTidy c k.guard) seen
  tidy = guards_tidy c (without_all (case_names f) ks) f (tree store t.matrix) (case_names f) seen h.cases.each

  pub seen_together_orderly : IsOrderly (IsNormal c) (guards_together seen)
  seen_together_orderly = together_orderly c seen tidy

  pub seen_orderly : EachOf (λ (k : Case). IsOrderly (IsNormal c) k.guard) seen
  seen_orderly = go seen tidy
    where
      go : (cases : List Case) → EachOf (λ (k : Case). IsTidy c k.guard) cases → EachOf (λ (k : Case). IsOrderly (IsNormal c) k.guard) cases
      go [] e = tt
      go (m ∷ cases) e = (guard_orderly c m.guard e.0, go cases e.1)

  seen_over : EachOf (λ (k : Case). AreAnswersOver c (IsFree f) k.answers) seen
  seen_over = go t.cases.items h.points h.cases.each
    where
      go : (items : List code.Case) → EachOf (λ (k : code.Case). Each IsTestPoint k.answers.items) items → EachOf (IsCaseUnder c (without_all (case_names f) ks) f (tree store t.matrix) (case_names f)) (cases_seen store items) →
          EachOf (λ (k : Case). AreAnswersOver c (IsFree f) k.answers) (cases_seen store items)
      go [] points each = tt
      go (m ∷ items) points each = (points_over c (IsFree f) m.answers.items (recursion_from_All IsTestPoint m.answers.items points.0) each.0.places each.0.over, go items points.1 each.1)

  pub seen_left : (left : List Case) → AreLeftOf c ks seen left → AreCasesFor c ks f left
  seen_left left l = tree_cases c ks f (tree store t.matrix) seen left h.cases seen_over l

  module _ (limit : ℕ) (direct : (x : ℕ) (fs : Trees) (s : Place) → k ≡ theory.Fields → IsDirect limit (normal_tree f) x fs s → IsDirectTree x fs s store t) where
    asked_itself : (x : ℕ) (fs : Trees) (s : Place) → Every (IsNormal Fields) f → IsDirect limit (normal_tree f) x fs s → t.universal ≡ false
    asked_itself x fs s n d = h.universal ∙ ap not (is_asked limit f n x fs s d)

    normal_here : c ≡ Fields → Every (IsNormal Fields) f
    normal_here e = subst (λ (u : Context). Every (IsNormal u) f) e normal

    -- what is said of a direct formula is within the limit
    said_few : (x : ℕ) (fs : Trees) (s : Place) → c ≡ Fields → IsDirect limit (normal_tree f) x fs s → nodes (said_of t.universal (guards_together seen)) ≤ limit
    said_few x fs s e d =
        let n = normal_here e in
        let one = direct x fs s (fields_are k e) d in
        subst (λ (b : Bool). nodes (said_of b (guards_together seen)) ≤ limit) (sym (asked_itself x fs s n d)) (joined_few limit f n x fs s d store t.cases.items one.few one.guards)

    pub by_cases : (g : Tree) → IsSimplifiedAs c ks (said_of t.universal (guards_together seen)) g → nodes (said_of t.universal (guards_together seen)) ≤ limit → IsConditionByCases c ks limit f g
    by_cases g l few = record {
      condition = said_condition c ks f (tree store t.matrix) normal seen h.cases limit t.universal g h.universal l few;
      direct = λ x fs s e d.
          let n = normal_here e in
          let one = direct x fs s (fields_are k e) d in
          let alone = subst (λ (b : Bool). IsSimplifiedAs c ks (said_of b (guards_together seen)) g) (asked_itself x fs s n d) l in
          joined_no_larger limit f n x fs s d store c ks t.cases.items g one.few one.guards tidy (joined_names c ks f (tree store t.matrix) normal seen h.cases) alone;
    }

    -- where what is said passes the limit the formula is not direct
    pub not_direct : limit < nodes (said_of t.universal (guards_together seen)) → IsNotDirect c limit f
    not_direct large x fs s e d = let few = said_few x fs s e d in omega (arith, large, few)

-- ---- by the reference elimination

module _ (c : Context) (ks : List Atom) (limit : ℕ) (f : Tree) (n : IsNotDirect c limit f) where
  pub by_reference : (g : Tree) → IsSimplifiedAnswer c ks limit f g → IsConditionByCases c ks limit f g
  by_reference g a = record { condition = condition_for c ks limit f g a; direct = λ x fs s e d. absurd (n x fs s e d) }

  pub reference_refused : (e : FormsError) → EliminationFault c limit f e → ConditionFault c limit f e
  reference_refused e a = record { stops = a; direct = λ x fs s i d. absurd (n x fs s i d) }

-- ---- a condition that is found

module _ (k : code_context.Context) (ks : List Atom) (limit : ℕ) (f : Tree) (store : List (Shape FormulaId)) (id : FormulaId) (h : IsAnswerFor k ks limit f store (answer.Condition id)) where
  pub found_orderly : IsOrderly (IsNormal (context_of k)) (tree store id)
  found_orderly = guard_orderly (context_of k) (tree store id) h.found.worked.tidy

  pub found_not_direct : IsNotDirect (context_of k) limit f
  found_not_direct x fs s e d = h.direct x fs s (fields_are k e) d

  pub by_condition : (g : Tree) → IsSimplifiedAs (context_of k) ks (tree store id) g → nodes (tree store id) ≤ limit → IsConditionByCases (context_of k) ks limit f g
  by_condition g s few = record {
    condition = worked_condition (context_of k) ks limit f (tree store id) g h.found.worked s few;
    direct = λ x fs at e d. absurd (found_not_direct x fs at e d);
  }

-- it is told of each formula that it is an answer for
pub condition_told : (k : code_context.Context) (ks : List Atom) (limit : ℕ) (store : List (Shape FormulaId)) (a : Answer) (id : FormulaId) → a ≡ answer.Condition id → (new : List (Shape FormulaId)) (r : Result FormulaId FormsError) →
    IfOk r (λ q. IsSimplifiedAs (context_of k) ks (tree store id) (tree new q)) → OnOk r (nodes (tree store id) ≤ limit) → IfOk r (λ q. (f : Tree) → IsAnswerFor k ks limit f store a → IsConditionByCases (context_of k) ks limit f (tree new q))
condition_told k ks limit store a id is new (Ok q) s few = λ f h. by_condition k ks limit f store id (subst (IsAnswerFor k ks limit f store) is h) (tree new q) s few
condition_told k ks limit store a id is new (Err e) s few = tt

-- ---- what is refused for its nodes

pub refused_not_direct : (k : code_context.Context) (ks : List Atom) (limit : ℕ) (store : List (Shape FormulaId)) (a : Answer) (r : Result FormulaId FormsError) (e : FormsError) →
    IfErr r (λ d. (f : Tree) → IsAnswerFor k ks limit f store a → d ≡ error.Nodes → IsNotDirect (context_of k) limit f) → r ≡ Err e → e ≡ error.Nodes → (f : Tree) → IsAnswerFor k ks limit f store a → IsNotDirect (context_of k) limit f
refused_not_direct k ks limit store a r e h i n f b =
    let at : (g : Tree) → IsAnswerFor k ks limit g store a → e ≡ error.Nodes → IsNotDirect (context_of k) limit g = subst (λ q. IfErr q (λ d. (g : Tree) → IsAnswerFor k ks limit g store a → d ≡ error.Nodes → IsNotDirect (context_of k) limit g)) i h in
    at f b n

-- what is said is refused for its nodes
pub large_at : (limit : ℕ) (g : Tree) (e : FormsError) → SimplificationFault limit g e → e ≡ error.Nodes → limit < nodes g
large_at limit g e h n = subst (SimplificationFault limit g) n h

-- want of memory is no more than that
pub memory_fault : (c : Context) (limit : ℕ) (f : Tree) → ConditionFault c limit f error.Memory
memory_fault c limit f = record { stops = tt; direct = λ x fs s e d. refl }

-- what stops the cases
pub engine_refused : (k : code_context.Context) (limit : ℕ) (f : Tree) (e : Measured) → StopsWith e (reference (context_of k) limit f) →
    ((x : ℕ) (fs : Trees) (s : Place) → k ≡ theory.Fields → IsDirect limit (normal_tree f) x fs s → e ≡ measured.Memory) → ConditionFault (context_of k) limit f (measured_error e)
engine_refused k limit f e h direct = record {
  stops = elimination_fault (context_of k) limit f e h;
  direct = λ x fs s i d. ap measured_error (direct x fs s (fields_are k i) d);
}
