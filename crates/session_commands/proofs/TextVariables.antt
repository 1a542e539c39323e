-- The variables of a text with commands inside it are ones that a script can write.
use Rattle.std.proofs.Common.{ℕ, suc, List, [], ◌∷◌, ◌++◌, map, Bool, true, false, Some, ◌≡◌, subst}
use Rattle.std.specs.Prelude.{if◌then◌else◌}
use Rattle.std.specs.List.{AllByRecursion}
use Rattle.logic_meaning.specs.Formula.{Yes, No, One, Not, And, Or, Impl, Repl, Equiv, Ex, All, none, also}
use Rattle.written_syntax.specs.declared.tree.Formula.{Formula}
use Rattle.language_meaning.specs.declared.entries.PointEntry.{PointEntry}
use Rattle.language_meaning.specs.Trees.{Compare, Cong, Ncong, Bound, FormulaTree, FormulaTrees}
use Rattle.language_meaning.specs.Value.{same_name}
use Rattle.language_meaning.specs.Holes.{InnerTree, Nest, Nests, nest, alone, beside, inner_name}
use Rattle.language_meaning.specs.Holes as inside
use Rattle.written_syntax.specs.CodeTrees.{inner_of, formula_trees}
use Rattle.written_syntax.specs.declared.statement.Command as code
use Rattle.written_syntax.specs.declared.statement.Command.TheVariants as command
use Rattle.language_meaning.specs.declared.grid.GridAxis.{GridAxis}
use Rattle.language_meaning.specs.Texts.{text_at, all_with_texts, formulas_in, text_of, texts_of, written_out}
use Rattle.formula_resolving.specs.Text.{with_texts}
use Rattle.written_syntax.specs.StatementSyntaxWritable.{IsFormulaBeside, IsInnerOver, IsWritableNest, AreWritableNests, AreWritableAxes}
use Rattle.written_syntax.specs.Writable.{AreWritableFormulas, AreWritableEntries}
use Rattle.language_meaning.specs.Resolving.{formula_variables, all_variables}
use Rattle.program_meaning.specs.Meaning.{Meaning, meaning, text_variables}
use Rattle.program_meaning.specs.Grids.{lows}
use Rattle.session_state.specs.Scripted.{answered_tree}
use Rattle.session_state.proofs.VariableLemmas.{AllVariables, both, variables_of_all}
use Rattle.session_state.proofs.BesideLemmas.{scripted_beside}
use Rattle.session_commands.specs.Asking.{asked_command, formula_asked, CanAskOf}
use Rattle.session_commands.specs.Inner.{IsWrittenFormula}

abbrev HasVariables : FormulaTree → Type 0
HasVariables f = AllVariables (formula_variables f)

-- the variables of each text can be written
abbrev pub AreTexts : List FormulaTree → Type 0
AreTexts texts = AllByRecursion HasVariables texts

first_part : (xs ys : List (List ℕ)) → AllVariables (xs ++ ys) → AllVariables xs × AllVariables ys
first_part [] ys h = (tt, h)
first_part (x ∷ xs) ys h = let r = first_part xs ys h.1 in ((h.0, r.0), r.1)

text_here : (k : ℕ) (fs : List FormulaTree) (x : List ℕ) → AreTexts fs → HasVariables (text_at k fs x)
text_here k [] x h = tt
text_here k (f ∷ fs) x h = go (same_name x (inner_name k)) (text_here (suc k) fs x h.1)
  where
    go : (b : Bool) → HasVariables (text_at (suc k) fs x) → HasVariables (if b then f else text_at (suc k) fs x)
    go true r = h.0
    go false r = r

module _ (texts : List FormulaTree) (each : AreTexts texts) where
  pair_placed : (f g : FormulaTree) → AllVariables (formula_variables f ++ formula_variables g) → (HasVariables f → HasVariables (with_texts texts f)) → (HasVariables g → HasVariables (with_texts texts g))
      → AllVariables (formula_variables (with_texts texts f) ++ formula_variables (with_texts texts g))
  pair_placed f g h p q =
      let r = first_part (formula_variables f) (formula_variables g) h in
      both (formula_variables (with_texts texts f)) (formula_variables (with_texts texts g)) (p r.0) (q r.1)

  mutual
    placed : (f : FormulaTree) → HasVariables f → HasVariables (with_texts texts f)
    placed Yes h = tt
    placed No h = tt
    placed (One (Compare rel s t)) h = h
    placed (One (Cong s t m)) h = h
    placed (One (Ncong s t m)) h = h
    placed (One (Bound x)) h = text_here 0 texts x each
    placed (Not f) h = placed f h
    placed (And fs) h = all_placed fs h
    placed (Or fs) h = all_placed fs h
    placed (Impl f g) h = pair_placed f g h (placed f) (placed g)
    placed (Repl f g) h = pair_placed f g h (placed f) (placed g)
    placed (Equiv f g) h = pair_placed f g h (placed f) (placed g)
    placed (Ex x f) h = (h.0, placed f h.1)
    placed (All x f) h = (h.0, placed f h.1)

    all_placed : (fs : FormulaTrees) → AllVariables (all_variables fs) → AllVariables (all_variables (all_with_texts texts fs))
    all_placed none h = tt
    all_placed (also f fs) h =
        let r = first_part (formula_variables f) (all_variables fs) h in
        both (formula_variables (with_texts texts f)) (all_variables (all_with_texts texts fs)) (placed f r.0) (all_placed fs r.1)

-- formulas with what these commands say inside them
pub out_variables : (ns : Nests) (fs : FormulaTrees) → AreTexts (texts_of ns) → AllVariables (all_variables fs) → AllVariables (all_variables (written_out ns fs))
out_variables alone fs texts h = h
out_variables (beside n ns) fs texts h = all_placed (text_of n ∷ texts_of ns) texts fs h

-- a formula, and what may be assumed with it
pub given_variables : (ns : Nests) (f : FormulaTree) (given : FormulaTrees) → IsFormulaBeside ns f → AreWritableFormulas given → AllVariables (all_variables (also f given))
given_variables ns f given h g = both (formula_variables f) (all_variables given) (scripted_beside ns f h).variables (variables_of_all given g)

inner_variables : (ns : Nests) (c : InnerTree) → IsInnerOver (IsFormulaBeside ns) c → AllVariables (all_variables (formulas_in c))
inner_variables ns (inside.Nnf f) h = given_variables ns f none h tt
inner_variables ns (inside.Pnf f) h = given_variables ns f none h tt
inner_variables ns (inside.Dnf f) h = given_variables ns f none h tt
inner_variables ns (inside.Cnf f) h = given_variables ns f none h tt
inner_variables ns (inside.Simpl f given) h = given_variables ns f given h.0 h.1
inner_variables ns (inside.Qe f given) h = given_variables ns f given h.0 h.1

mutual
  text_written : (n : Nest) → IsWritableNest n → HasVariables (text_of n)
  text_written (nest c ns) h = out_variables ns (formulas_in c) (texts_written ns h.1) (inner_variables ns c h.0)

  -- what commands say that can be written
  pub texts_written : (ns : Nests) → AreWritableNests ns → AreTexts (texts_of ns)
  texts_written alone h = tt
  texts_written (beside n ns) h = (text_written n h.0, texts_written ns h.1)

-- ---- a command of the code

entry_variables : (es : List PointEntry) → AreWritableEntries es → AllVariables (map (λ (e : PointEntry). e.name) es)
entry_variables [] h = tt
entry_variables (e ∷ es) h = (h.0.2, entry_variables es h.1)

axis_variables : (axes : List GridAxis) → AreWritableAxes axes → AllVariables (map (λ (e : PointEntry). e.name) (lows axes))
axis_variables [] h = tt
axis_variables (a ∷ axes) h = (h.0.name, axis_variables axes h.1)

-- the variables of the whole text of a command whose formula has commands inside it
module _ (f : Formula) (w : AreWritableNests (inner_of f)) where
  text_behind : (given : FormulaTrees) (xs : List (List ℕ)) → IsWrittenFormula f → AreWritableFormulas given → AllVariables xs → AllVariables (all_variables (written_out (inner_of f) (also (answered_tree f) given)) ++ xs)
  text_behind given xs h g k =
      let fs = also (answered_tree f) given in
      both (all_variables (written_out (inner_of f) fs)) xs (out_variables (inner_of f) fs (texts_written (inner_of f) w) (given_variables (inner_of f) (answered_tree f) given h g)) k

  plain_text : (xs : List (List ℕ)) → IsWrittenFormula f → AllVariables xs → AllVariables (all_variables (written_out (inner_of f) (also (answered_tree f) none)) ++ xs)
  plain_text xs h k = text_behind none xs h tt k

some_same : (f g : Formula) → Some f ≡ Some g → f ≡ g
some_same f g e = cc

module _ (f : Formula) (w : AreWritableNests (inner_of f)) where
  -- a fact about the formula that the command has
  of_other : (g : Formula) (M : Meaning) → Some g ≡ Some f → (AreWritableNests (inner_of g) → AllVariables (text_variables (inner_of g) M)) → AllVariables (text_variables (inner_of f) M)
  of_other g M e h = subst (λ k. AreWritableNests (inner_of k) → AllVariables (text_variables (inner_of k) M)) (some_same g f e) h w

  pub asked_variables : (c : code.Command) → formula_asked c ≡ Some f → CanAskOf IsWrittenFormula c → AllVariables (text_variables (inner_of f) (meaning (asked_command c)))
  asked_variables (command.Echo g) e h = of_other g (meaning (asked_command (command.Echo g))) e (λ v. plain_text g v [] h tt)
  asked_variables (command.Nnf g) e h = of_other g (meaning (asked_command (command.Nnf g))) e (λ v. plain_text g v [] h tt)
  asked_variables (command.Pnf g) e h = of_other g (meaning (asked_command (command.Pnf g))) e (λ v. plain_text g v [] h tt)
  asked_variables (command.Dnf g) e h = of_other g (meaning (asked_command (command.Dnf g))) e (λ v. plain_text g v [] h tt)
  asked_variables (command.Cnf g) e h = of_other g (meaning (asked_command (command.Cnf g))) e (λ v. plain_text g v [] h tt)
  asked_variables (command.Simpl g given) e h = of_other g (meaning (asked_command (command.Simpl g given))) e (λ v. text_behind g v (formula_trees given) [] h.0 h.1 tt)
  asked_variables (command.Qe g given) e h = of_other g (meaning (asked_command (command.Qe g given))) e (λ v. text_behind g v (formula_trees given) [] h.0 h.1 tt)
  asked_variables (command.Qea g given) e h = of_other g (meaning (asked_command (command.Qea g given))) e (λ v. text_behind g v (formula_trees given) [] h.0 h.1 tt)
  asked_variables (command.Holds g entries) e h = of_other g (meaning (asked_command (command.Holds g entries))) e (λ v. plain_text g v (map (λ (p : PointEntry). p.name) entries) h.0 (entry_variables entries h.1))
  asked_variables (command.Sample g entries) e h = of_other g (meaning (asked_command (command.Sample g entries))) e (λ v. plain_text g v (map (λ (p : PointEntry). p.name) entries) h.0 (entry_variables entries h.1))
  asked_variables (command.Grid g axes) e h = of_other g (meaning (asked_command (command.Grid g axes))) e (λ v. plain_text g v (map (λ (p : PointEntry). p.name) (lows axes)) h.0 (axis_variables axes h.1))
  asked_variables (command.Certify constraints) e h = absurd (cc)
  asked_variables (command.Check constraints multipliers) e h = absurd (cc)
  asked_variables (command.Least constraints target) e h = absurd (cc)
