-- What is read is a formula of the session, and its assumptions are normal atoms.
use Rattle.std.proofs.Common.{inl, inr, ℕ, List, [], ◌∷◌, subst, sym, ◌++◌, length, map}
use Rattle.logic_meaning.specs.Context.{Context}
use Rattle.logic_meaning.specs.Tree.{Tree}
use Rattle.normal_atoms.specs.declared.atoms.Context as atoms
use Rattle.language_meaning.specs.Trees.{FormulaTree, FormulaTrees, formulas_of}
use Rattle.language_meaning.specs.Resolving.{resolve, formula_variables, all_variables}
use Rattle.program_meaning.specs.State.{State, known}
use Rattle.program_meaning.specs.Assumptions.{atoms_alone, atoms_among, resolved_all, assumed}
use Rattle.form_commands.specs.Reading.{HasNumbers, IsReadable, AreNumbered, AreReadable}
use Rattle.std.specs.List.{fold, AllByRecursion}
use Rattle.logic_meaning.specs.Formula.{none, also}
use Rattle.written_syntax.specs.Proper.{IsProperFormula}
use Rattle.written_syntax.specs.Writable.{IsWritableFormula, AreWritableFormulas}
use Rattle.written_syntax.proofs.WritableLemmas.{writable_formula}
use Rattle.written_syntax.specs.Valued.{IsIn}
use Rattle.resolved_formulas.proofs.PlaceLaws.{after_has, in_either}
use Rattle.logic_meaning.specs.NormalForm.{IsNormal}
use Rattle.logic_meaning.specs.Some.{EachOf}
use Rattle.logic_meaning.specs.Names.{with_name}
use Rattle.session_state.specs.Keeping.{IsSessionFormula, IsSound}
use Rattle.session_state.proofs.NameLemmas.{kept_names}
use Rattle.session_state.proofs.KnownLemmas.{known_formulas}
use Rattle.session_state.proofs.SoundLemmas.{resolved_formula}
use Rattle.form_commands.proofs.AssumptionLemmas.{each_both, alone_has, among_both}
use Rattle.written_syntax.specs.declared.tree.Formula.{Formula}
use Rattle.written_syntax.specs.CodeTrees.{formula_tree}

pub numbered_in : (fs : FormulaTrees) (names : List (List ℕ)) → ((x : List ℕ) → IsIn x (all_variables fs) → IsIn x names) → AreNumbered names fs
numbered_in none names h = tt
numbered_in (also g gs) names h = (
  kept_names (formula_variables g) names (λ x i. h x (in_either x (formula_variables g) (all_variables gs) (inl i))),
  numbered_in gs names (λ x i. h x (in_either x (formula_variables g) (all_variables gs) (inr i))),
)

pub numbers_of : (f : FormulaTree) (gs : FormulaTrees) (names : List (List ℕ)) → AreNumbered (fold with_name names (formula_variables f ++ all_variables gs)) (also f gs)
numbers_of f gs names = numbered_in (also f gs) (fold with_name names (formula_variables f ++ all_variables gs)) (λ x i. after_has (formula_variables f ++ all_variables gs) names x (inr i))

-- the resolved formula is one of the session
pub readable_formula : (f : FormulaTree) (s : State) → HasNumbers s.names f → IsSound s → IsProperFormula f → IsReadable s f → IsSessionFormula s.context (length s.names) (resolve s.context (known s) s.names f)
readable_formula f s numbers sound proper h = resolved_formula s.context (known s) s.names f (known_formulas s sound) numbers proper h

-- the assumptions are normal atoms
each_normal : (s : State) → IsSound s → (gs : FormulaTrees) → AreNumbered s.names gs → AreReadable s gs → AreWritableFormulas gs → EachOf (IsNormal s.context) (atoms_among (resolved_all s gs))
each_normal s sound none numbers readable proper = tt
each_normal s sound (also g gs) numbers readable proper =
    each_both (IsNormal s.context) (atoms_alone (resolve s.context (known s) s.names g)) (atoms_among (resolved_all s gs))
    (alone_has (IsNormal s.context) (resolve s.context (known s) s.names g) (readable_formula g s numbers.0 sound (writable_formula g proper.0) readable.0).normal)
    (each_normal s sound gs numbers.1 readable.1 proper.1)

-- and so are the standing ones
standing_normal : (c : Context) (n : ℕ) (ts : List Tree) → EachOf (IsSessionFormula c n) ts → EachOf (IsNormal c) (atoms_among ts)
standing_normal c n [] h = tt
standing_normal c n (t ∷ ts) h = each_both (IsNormal c) (atoms_alone t) (atoms_among ts) (alone_has (IsNormal c) t h.0.normal) (standing_normal c n ts h.1)

pub assumed_normal : (s : State) → IsSound s → (f : FormulaTree) (gs : FormulaTrees) → AreNumbered s.names (also f gs) → AreReadable s (also f gs) → AreWritableFormulas gs → EachOf (IsNormal s.context) (assumed s gs)
assumed_normal s sound f gs numbers readable proper =
    subst (EachOf (IsNormal s.context)) (sym (among_both s.standing (resolved_all s gs)))
    (each_both (IsNormal s.context) (atoms_among s.standing) (atoms_among (resolved_all s gs)) (standing_normal s.context (length s.names) s.standing sound.standing) (each_normal s sound gs numbers.1 readable.1 proper))

-- the formulas are ones of the session
pub resolved_formulas : (s : State) → IsSound s → (gs : FormulaTrees) → AreNumbered s.names gs → AreReadable s gs → AreWritableFormulas gs → EachOf (IsSessionFormula s.context (length s.names)) (resolved_all s gs)
resolved_formulas s sound none numbers readable proper = tt
resolved_formulas s sound (also g gs) numbers readable proper = (readable_formula g s numbers.0 sound (writable_formula g proper.0) readable.0, resolved_formulas s sound gs numbers.1 readable.1 proper.1)

pub proper_items : (gs : List Formula) → AreWritableFormulas (formulas_of (map formula_tree gs)) → AllByRecursion (λ g. IsWritableFormula (formula_tree g)) gs
proper_items [] h = tt
proper_items (g ∷ gs) h = (h.0, proper_items gs h.1)
