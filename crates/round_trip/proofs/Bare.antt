-- The names of a state are ones that a script can write, after each statement.
use Rattle.std.proofs.Common.{◌≡◌, ℕ, List, [], ◌∷◌, ◌++◌, map, Bool, ap, sym, ◌∙◌, subst, append-nil}
use Rattle.std.proofs.lemmas.List.{append_cancel_right}
use Rattle.std.specs.List.{fold}
use Rattle.language_meaning.specs.Statements.{CommandTree, Echo, Nnf, Pnf, Dnf, Cnf, Simpl, Qe, Qea, Holds, Sample, Grid, Certify, Check, Least, ActionTree, Empty, Ignored, Finish, Choose, Say, Assign, Assume, Retract, StatementTree}
use Rattle.logic_meaning.specs.Tree.{Tree}
use Rattle.logic_meaning.specs.Formula.{none}
use Rattle.language_meaning.specs.Trees.{TermTree, FormulaTrees}
use Rattle.language_meaning.specs.Holes.{Nests, alone}
use Rattle.written_syntax.specs.Writable.{AreWritableFormulas}
use Rattle.language_meaning.specs.declared.entries.PointEntry.{PointEntry}
use Rattle.language_meaning.specs.declared.grid.GridAxis.{GridAxis}
use Rattle.language_meaning.specs.Texts.{texts_of, written_out}
use Rattle.written_syntax.specs.StatementSyntaxWritable.{AreWritableAxes, IsFormulaBeside, IsCommandOver, IsActionOver, IsWritableCommand, IsWritable}
use Rattle.logic_meaning.specs.Names.{with_name}
use Rattle.language_meaning.specs.Resolving.{formula_variables, all_variables}
use Rattle.language_meaning.specs.NamesAfter.{names_after}
use Rattle.resolved_formulas.proofs.PlaceLaws.{after_distinct}
use Rattle.language_meaning.specs.Statement.{Spells}
use Rattle.redlog_tokens.proofs.ProperTokens.{lexed_proper}
use Rattle.redlog_reader.proofs.Proper.{proper_statement}
use Rattle.round_trip.specs.Round.{AreVariables}
use Rattle.program_meaning.specs.declared.line.Line.{Line}
use Rattle.program_meaning.specs.State.{State, with_names, with_answers}
use Rattle.program_meaning.specs.Grids.{lows}
use Rattle.program_meaning.specs.Meaning.{text_variables, meaning, assumption_meaning}
use Rattle.session_state.specs.Numbered.{variables, numbered}
use Rattle.program_meaning.specs.Inside.{GivesAll}
use Rattle.session_state.specs.FormulaGiven.{GivesFormula}
use Rattle.program_meaning.specs.Targets.{target_name, problem_names, problem_of}
use Rattle.program_meaning.specs.Reply.{with_variables, Answers}
use Rattle.redlog_run.proofs.NamesAfter.{answer_names_distinct, answer_names_variables, names_of_entries, front, front_variables, last_is_target, AreTexts, out_variables, given_variables, texts_written}
use Rattle.session_state.proofs.VariableLemmas.{AllVariables, both, variables_of_all, all_put_in}
use Rattle.round_trip.specs.ReadBack.{NamesStayWritable}
use Rattle.round_trip.proofs.InnerNames.{after_all}
use Rattle.round_trip.proofs.LeastAlone.{IsLeastAlone, HasLeastAlone, least_alone}

-- what a formula command reads can be written
pub proper_formulas : (c : CommandTree) → GivesFormula (meaning c).answer → IsWritableCommand c → AreWritableFormulas (meaning c).formulas
proper_formulas (Echo f) b h = (h, tt)
proper_formulas (Nnf f) b h = (h, tt)
proper_formulas (Pnf f) b h = (h, tt)
proper_formulas (Dnf f) b h = (h, tt)
proper_formulas (Cnf f) b h = (h, tt)
proper_formulas (Simpl f given) b h = (h.0, h.1)
proper_formulas (Qe f given) b h = (h.0, h.1)
proper_formulas (Qea f given) b h = absurd b
proper_formulas (Holds f es) b h = absurd b
proper_formulas (Sample f es) b h = absurd b
proper_formulas (Grid f axes) b h = absurd b
proper_formulas (Certify written) b h = absurd b
proper_formulas (Check written ms) b h = absurd b
proper_formulas (Least written target) b h = absurd b

-- ---- the names after a command

-- of a command that reads formulas and names that can be written
plain_variables : (s : State) (c : CommandTree) (names : List (List ℕ)) → AreWritableFormulas (meaning c).formulas → AllVariables (meaning c).further → AreVariables s.names → (meaning c).names (numbered (meaning c) s) names → AreVariables names
plain_variables s c names formulas further v h =
    let read = both (all_variables (meaning c).formulas) (meaning c).further (variables_of_all (meaning c).formulas formulas) further in
    record {
      distinct = answer_names_distinct (numbered (meaning c) s) c names (after_distinct (variables (meaning c)) s.names v.distinct) h;
      variables = answer_names_variables (numbered (meaning c) s) c names (all_put_in s.names (variables (meaning c)) v.variables read) h;
    }

names_of_axes : (axes : List GridAxis) → AreWritableAxes axes → AllVariables (map (λ (e : PointEntry). e.name) (lows axes))
names_of_axes [] h = tt
names_of_axes (a ∷ axes) h = (h.0.name, names_of_axes axes h.1)

-- of a target, whose own name is given back
target_variables : (s : State) (written : FormulaTrees) (target : TermTree) (names : List (List ℕ)) → IsWritableCommand (Least written target) → AreVariables s.names
    → (meaning (Least written target)).names (numbered (meaning (Least written target)) s) names → AreVariables names
target_variables s written target names p v h =
    let f = problem_of written target in
    let read : fold with_name s.names (variables (meaning (Least written target))) ≡ names_after s.names f = ap (λ xs. fold with_name s.names xs) (append-nil (formula_variables f ++ []) ∙ append-nil (formula_variables f)) in
    let own = front s.names v.variables written target p.0.0 p.1 in
    let same : names ≡ own = append_cancel_right names own (target_name ∷ []) (sym h ∙ read ∙ last_is_target s.names v.variables written target p.0.0 p.1) in
    subst AreVariables (sym same) (record {
      distinct = after_distinct (problem_names written target) s.names v.distinct;
      variables = front_variables s.names v.variables written target p.0.0 p.1;
    })

pub said_variables : (s : State) (c : CommandTree) (names : List (List ℕ)) → IsWritableCommand c → AreVariables s.names → (meaning c).names (numbered (meaning c) s) names → AreVariables names
said_variables s (Echo f) names p v h = plain_variables s (Echo f) names (p, tt) tt v h
said_variables s (Nnf f) names p v h = plain_variables s (Nnf f) names (p, tt) tt v h
said_variables s (Pnf f) names p v h = plain_variables s (Pnf f) names (p, tt) tt v h
said_variables s (Dnf f) names p v h = plain_variables s (Dnf f) names (p, tt) tt v h
said_variables s (Cnf f) names p v h = plain_variables s (Cnf f) names (p, tt) tt v h
said_variables s (Simpl f given) names p v h = plain_variables s (Simpl f given) names (p.0, p.1) tt v h
said_variables s (Qe f given) names p v h = plain_variables s (Qe f given) names (p.0, p.1) tt v h
said_variables s (Qea f given) names p v h = plain_variables s (Qea f given) names (p.0, p.1) tt v h
said_variables s (Holds f es) names p v h = plain_variables s (Holds f es) names (p.0, tt) (names_of_entries es p.1) v h
said_variables s (Sample f es) names p v h = plain_variables s (Sample f es) names (p.0, tt) (names_of_entries es p.1) v h
said_variables s (Grid f axes) names p v h = plain_variables s (Grid f axes) names (p.0, tt) (names_of_axes axes p.1) v h
said_variables s (Certify written) names p v h = plain_variables s (Certify written) names p.0 tt v h
said_variables s (Check written ms) names p v h = plain_variables s (Check written ms) names p.0.0 tt v h
said_variables s (Least written target) names p v h = target_variables s written target names p v h

abbrev HasVariables : State → Type 0
HasVariables s = AreVariables s.names

-- ---- statements

-- what is spelled is proper
pub spelled_proper : {piece : List ℕ} {t : StatementTree} → Spells piece t → IsWritable t
spelled_proper h = proper_statement h.spelled (lexed_proper h.kinds h.tokens.lexes h.tokens.good)

-- a state where the commands inside a statement are answered
module _ (ns : Nests) (texts : AreTexts (texts_of ns)) (s : State) (v : AreVariables s.names) (limit : ℕ) (answers : List Tree) (names : List (List ℕ)) where
  abbrev reached : State
  reached = with_answers (with_names s names) answers

  -- the names with these variables, and after those commands
  numbered_names : (xs : List (List ℕ)) → AllVariables xs → GivesAll ns (with_names s (fold with_name s.names xs)) limit answers names → AreVariables names
  numbered_names xs h g =
      after_all ns (with_names s (fold with_name s.names xs)) limit answers names (record { distinct = after_distinct xs s.names v.distinct; variables = all_put_in s.names xs v.variables h }) g

  -- of a command all of whose variables can be written
  said_names : (c : CommandTree) (next : List (List ℕ)) → AllVariables (all_variables (meaning c).formulas) → AllVariables (meaning c).further
      → GivesAll ns (with_names s (fold with_name s.names (text_variables ns (meaning c)))) limit answers names → (meaning c).names reached next → AreVariables next
  said_names c next formulas further g h =
      let read = both (all_variables (written_out ns (meaning c).formulas)) (meaning c).further (out_variables ns (meaning c).formulas texts formulas) further in
      let w = numbered_names (text_variables ns (meaning c)) read g in
      record { distinct = answer_names_distinct reached c next w.distinct h; variables = answer_names_variables reached c next w.variables h }

  -- of one that asks for a least value, inside which none stands
  least_names : (written : FormulaTrees) (target : TermTree) (next : List (List ℕ)) → IsWritableCommand (Least written target) → ns ≡ alone
      → GivesAll ns (with_names s (fold with_name s.names (text_variables ns (meaning (Least written target))))) limit answers names → (meaning (Least written target)).names reached next → AreVariables next
  least_names written target next p plain g h =
      let m = meaning (Least written target) in
      let none = subst (λ (ms : Nests). GivesAll ms (with_names s (fold with_name s.names (text_variables ms m))) limit answers names) plain g in
      target_variables s written target next p v (sym none.1 ∙ h)

  after_said : (c : CommandTree) (next : List (List ℕ)) → IsCommandOver (IsFormulaBeside ns) c → IsLeastAlone c ns
      → GivesAll ns (with_names s (fold with_name s.names (text_variables ns (meaning c)))) limit answers names → (meaning c).names reached next → AreVariables next
  after_said (Echo f) next p l g h = said_names (Echo f) next (given_variables ns f none p tt) tt g h
  after_said (Nnf f) next p l g h = said_names (Nnf f) next (given_variables ns f none p tt) tt g h
  after_said (Pnf f) next p l g h = said_names (Pnf f) next (given_variables ns f none p tt) tt g h
  after_said (Dnf f) next p l g h = said_names (Dnf f) next (given_variables ns f none p tt) tt g h
  after_said (Cnf f) next p l g h = said_names (Cnf f) next (given_variables ns f none p tt) tt g h
  after_said (Simpl f given) next p l g h = said_names (Simpl f given) next (given_variables ns f given p.0 p.1) tt g h
  after_said (Qe f given) next p l g h = said_names (Qe f given) next (given_variables ns f given p.0 p.1) tt g h
  after_said (Qea f given) next p l g h = said_names (Qea f given) next (given_variables ns f given p.0 p.1) tt g h
  after_said (Holds f es) next p l g h = said_names (Holds f es) next (given_variables ns f none p.0 tt) (names_of_entries es p.1) g h
  after_said (Sample f es) next p l g h = said_names (Sample f es) next (given_variables ns f none p.0 tt) (names_of_entries es p.1) g h
  after_said (Grid f axes) next p l g h = said_names (Grid f axes) next (given_variables ns f none p.0 tt) (names_of_axes axes p.1) g h
  after_said (Certify written) next p l g h = said_names (Certify written) next (variables_of_all written p.0) tt g h
  after_said (Check written ms) next p l g h = said_names (Check written ms) next (variables_of_all written p.0.0) tt g h
  after_said (Least written target) next p l g h = least_names written target next p l g h

  after_action : (printed : Bool) (a : ActionTree) (answer : Line) (next : State) → IsActionOver (IsFormulaBeside ns) a → HasLeastAlone a ns
      → GivesAll ns (with_variables ns a s) limit answers names → Answers reached limit printed a answer next → AreVariables next.names
  after_action printed Empty answer next p l g h = subst HasVariables (sym h.1) (numbered_names [] tt g)
  after_action printed Ignored answer next p l g h = subst HasVariables (sym h.1) (numbered_names [] tt g)
  after_action printed Finish answer next p l g h = subst HasVariables (sym h.1) (numbered_names [] tt g)
  after_action printed (Choose setting) answer next p l g h = subst HasVariables (sym h.1) (numbered_names [] tt g)
  after_action printed (Say c) answer next p l g h = subst HasVariables (sym h.after) (after_said c h.names p l g h.named)
  after_action printed (Assign x c) answer next p l g h = subst HasVariables (sym h.binds) (after_said c h.names p.1 l g h.named)
  after_action printed (Assume given) answer next p l g h =
      let read = both (all_variables (written_out ns given)) [] (out_variables ns given texts (variables_of_all given p)) tt in
      subst HasVariables (sym h.after) (numbered_names (text_variables ns (assumption_meaning given)) read g)
  after_action printed Retract answer next p l g h = subst HasVariables (sym h.1) (numbered_names [] tt g)

pub names_stay_writable : NamesStayWritable
names_stay_writable s limit piece answer next v r =
    let t = r.statement in
    let w = spelled_proper r.spelled in
    let g = r.reached in
    let answered = subst (λ (z : State). Answers z limit t.printed t.action answer r.after) g.is r.answered in
    subst HasVariables (sym r.left)
    (after_action t.inner (texts_written t.inner w.inner) s v limit g.answers g.names t.printed t.action answer r.after w.action (least_alone r.spelled.spelled) g.given answered)
