-- What a formula command answers is the answer of its statement.
use Rattle.logic_meaning.specs.Tree.{Tree, tree_distinct}
use Rattle.std.proofs.Common.{⊎_elim, ap, ◌≡◌, ℕ, zero, suc, ◌<◌, ◌≤◌, arith, List, Bool, Some, None, Option, sym, subst, refl}
use Rattle.std.specs.Prelude.{Result, Ok, Err, IfOk, OnOk, IfErr, OnErr}
use Rattle.language_meaning.specs.Statements.{CommandTree, ActionTree, Empty, Ignored, Finish, Choose, Say, Assign, Assume, Retract, StatementTree, Echo}
use Rattle.written_syntax.specs.declared.statement.Statement as written
use Rattle.written_syntax.specs.StatementSyntaxCodeTrees.{statement_tree}
use Rattle.language_meaning.specs.Inner.{WithInner, about, command_in, command_of}
use Rattle.language_meaning.specs.Holes.{InnerTree, Nest, Nests, nest, alone, beside, command_alone}
use Rattle.language_meaning.specs.Holes as inside
use Rattle.language_meaning.specs.Grammar.{Written, SpellsResult, resulting, SpellsAction, assign, SpellsStatement, nothing, acting}
use Rattle.language_meaning.specs.declared.terminal.Terminal.{Terminal}
use Rattle.language_meaning.specs.Statement.{Spells}
use Rattle.program_meaning.specs.declared.limit.TheConstants.{MOST_SUBFORMULAS}
use Rattle.program_meaning.specs.declared.line.Line.{Line}
use Rattle.program_meaning.specs.State.{State, with_names, with_answers}
use Rattle.program_meaning.specs.Inside.{inner_use, inner_meaning, Stops, SomeStops}
use Rattle.form_commands.specs.Replies.{use_of, Refuses, IsStopped, IsFormulaAnswer, IsQueryAnswer, BindsFormula}
use Rattle.program_meaning.specs.Meaning.{Answer, OfFormula, OfText, meaning, assumption_meaning, Meaning, MayGive}
use Rattle.session_state.specs.Numbered.{numbered}
use Rattle.session_state.specs.FormulaGiven.{GivesFormula}
use Rattle.program_meaning.specs.Uses.{Use, formula_line}
use Rattle.program_meaning.specs.Causes.{IsFirst}
use Rattle.program_meaning.specs.Reply.{Tells, AnswersSaid, Answers, with_variables, RefusesAction, RefusesStatement, SpellsRefused, Reply}
use Rattle.session_commands.specs.Through.{IsStatementAnswer, IsStatementStopped}
use Rattle.program_meaning.specs.declared.line.StatementError.{StatementError}
use Rattle.program_meaning.specs.declared.line.StatementError.TheVariants as error

-- ---- statements bind formulas

inner_gives : (c : InnerTree) → GivesFormula (meaning (command_of c)).answer
inner_gives (inside.Nnf f) = tt
inner_gives (inside.Pnf f) = tt
inner_gives (inside.Dnf f) = tt
inner_gives (inside.Cnf f) = tt
inner_gives (inside.Simpl f given) = tt
inner_gives (inside.Qe f given) = tt

alone_gives : (f : Written) (o : Option Nest) → GivesFormula (meaning (elim o as (λ p. WithInner CommandTree) [ None ↦ about Echo f | Some n ↦ command_in n ]).tree).answer
alone_gives f None = tt
alone_gives f (Some (nest c ns)) = inner_gives c

result_gives : {ts rest : List Terminal} {c : WithInner CommandTree} → SpellsResult ts c rest → GivesFormula (meaning c.tree).answer
result_gives (resulting {f = f} p e) = subst (λ (c : WithInner CommandTree). GivesFormula (meaning c.tree).answer) (sym e) (alone_gives f (command_alone f.tree f.inner))

action_binds : {ts rest : List Terminal} {a : WithInner ActionTree} → SpellsAction ts a rest → BindsFormula a.tree
action_binds (assign r) = result_gives r
action_binds _ = tt

statement_binds : {ts : List Terminal} {t : StatementTree} → SpellsStatement ts t → BindsFormula t.action
statement_binds (nothing e) = subst (λ (u : StatementTree). BindsFormula u.action) (sym e) tt
statement_binds (acting a e) = subst (λ (u : StatementTree). BindsFormula u.action) (sym e) (action_binds a)

-- what a piece binds is a formula
pub spelled_binds : (piece : List ℕ) (t : StatementTree) → Spells piece t → BindsFormula t.action
spelled_binds piece t h = statement_binds h.spelled

-- ---- commands

-- a command that gives a formula is answered with its text
formula_text : (a : Answer) (s : State) (limit : ℕ) (names : List (List ℕ)) (t : Tree) → MayGive a s limit t → Tells a s limit names (formula_line None names t)
formula_text (OfFormula a) s limit names t h = (t, h, refl)
formula_text (OfText tells) s limit names t h = absurd h.0

pub formula_answered : {E : Type 0} (r : Result Line E) (c : CommandTree) (s next : State) (limit : ℕ) (printed : Bool) → IfOk r (λ answer. IsFormulaAnswer (numbered (meaning c) s) limit (use_of None printed) c answer next)
    → IfOk r (λ answer. AnswersSaid (meaning c) (numbered (meaning c) s) limit printed answer next)
formula_answered (Ok answer) c s next limit printed h = record {
  accepted = h.accepted;
  names = h.names;
  named = h.named;
  text = formula_line None h.names h.formula;
  told = formula_text (meaning c).answer (numbered (meaning c) s) limit h.names h.formula h.allowed;
  line = h.line;
  after = h.after;
}
formula_answered (Err e) c s next limit printed h = tt

at_most : (a b : ℕ) → ¬ (a < b) → b ≤ a
at_most a zero h = omega arith
at_most zero (suc b) h = absurd (h (omega arith))
at_most (suc a) (suc b) h = let k = at_most a b (λ l. h (omega (arith, l))) in omega (arith, k)

-- an assignment, for a command that is known to be this one
pub formula_assigned : {E : Type 0} (r : Result Line E) (a : ActionTree) (x : List ℕ) (c : CommandTree) (s next : State) (limit : ℕ) (printed : Bool) → a ≡ Assign x c
    → IfOk r (λ answer. IsFormulaAnswer (numbered (meaning c) s) limit (use_of (Some x) printed) c answer next) → IfOk r (λ answer. Answers (with_variables alone a s) limit printed a answer next)
formula_assigned (Ok answer) a x c s next limit printed e h =
    subst (λ b. Answers (with_variables alone b s) limit printed b answer next) (sym e)
    (record { accepted = h.accepted; formula = h.formula; allowed = h.allowed; names = h.names; named = h.named; line = h.line; small = at_most MOST_SUBFORMULAS (tree_distinct h.formula) h.small; binds = h.after })
formula_assigned (Err e) a x c s next limit printed p h = tt

-- a command that gives no formula
pub query_answered : {E : Type 0} (r : Result Line E) (d c : CommandTree) (s next : State) (limit : ℕ) (printed : Bool) → c ≡ d → (meaning d).names (numbered (meaning d) s) (numbered (meaning d) s).names
    → IfOk r (IsQueryAnswer (numbered (meaning d) s) limit printed d next.names) → OnOk r (next ≡ numbered (meaning d) s) → IfOk r (λ answer. AnswersSaid (meaning c) (numbered (meaning c) s) limit printed answer next)
query_answered (Ok answer) d c s next limit printed e same h k =
    subst (λ x. AnswersSaid (meaning x) (numbered (meaning x) s) limit printed answer next) (sym e) (record {
      accepted = h.accepted;
      names = next.names;
      named = subst (λ (ns : List (List ℕ)). (meaning d).names (numbered (meaning d) s) ns) (sym (ap (λ (u : State). u.names) k)) same;
      text = h.text;
      told = h.told;
      line = h.line;
      after = subst (λ (u : State). u ≡ with_names (numbered (meaning d) s) u.names) (sym k) refl;
    })
query_answered (Err e) d c s next limit printed p same h k = tt

-- the same of one that gives names back
pub query_given_back : {E : Type 0} (r : Result Line E) (d c : CommandTree) (s next : State) (limit : ℕ) (printed : Bool) → c ≡ d → OnOk r ((meaning d).names (numbered (meaning d) s) next.names)
    → IfOk r (IsQueryAnswer (numbered (meaning d) s) limit printed d next.names) → OnOk r (next ≡ with_names (numbered (meaning d) s) next.names) → IfOk r (λ answer. AnswersSaid (meaning c) (numbered (meaning c) s) limit printed answer next)
query_given_back (Ok answer) d c s next limit printed e named h k =
    subst (λ x. AnswersSaid (meaning x) (numbered (meaning x) s) limit printed answer next) (sym e)
    (record { accepted = h.accepted; names = next.names; named = named; text = h.text; told = h.told; line = h.line; after = k })
query_given_back (Err e) d c s next limit printed p named h k = tt

-- a command that is refused, which is known to be this one
pub refused_as : {T : Type 0} (r : Result T StatementError) (d c : CommandTree) (s : State) (limit : ℕ) (u : Use) → c ≡ d → IfErr r (Refuses (numbered (meaning d) s) limit u d)
    → IfErr r (Refuses (numbered (meaning c) s) limit u c)
refused_as r d c s limit u e h = subst (λ x. IfErr r (Refuses (numbered (meaning x) s) limit u x)) (sym e) h

-- a command that is the statement
pub say_answered : {E : Type 0} (r : Result Line E) (a : ActionTree) (c : CommandTree) (s next : State) (limit : ℕ) (printed : Bool) → a ≡ Say c → IfOk r (λ answer. AnswersSaid (meaning c) (numbered (meaning c) s) limit printed answer next)
    → IfOk r (λ answer. Answers (with_variables alone a s) limit printed a answer next)
say_answered r a c s next limit printed e h = subst (λ b. IfOk r (λ answer. Answers (with_variables alone b s) limit printed b answer next)) (sym e) h

-- and one that is refused
pub say_refused : {T : Type 0} (r : Result T StatementError) (a : ActionTree) (c : CommandTree) (s : State) (limit : ℕ) (printed : Bool) → a ≡ Say c → IfErr r (Refuses (numbered (meaning c) s) limit (use_of None printed) c)
    → IfErr r (IsStopped (with_variables alone a s) limit printed a)
say_refused (Ok answer) a c s limit printed e h = tt
say_refused (Err d) a c s limit printed e h = λ other. subst (λ b. RefusesAction (with_variables alone b s) limit printed b d) (sym e) (h other)

-- the same of an assignment
pub assign_refused : {T : Type 0} (r : Result T StatementError) (a : ActionTree) (x : List ℕ) (c : CommandTree) (s : State) (limit : ℕ) (printed : Bool) → a ≡ Assign x c → IfErr r (Refuses (numbered (meaning c) s) limit (use_of (Some x) printed) c)
    → IfErr r (IsStopped (with_variables alone a s) limit printed a)
assign_refused (Ok answer) a x c s limit printed e h = tt
assign_refused (Err d) a x c s limit printed e h = λ other. subst (λ b. RefusesAction (with_variables alone b s) limit printed b d) (sym e) (h other)

-- ---- the reply

-- the words of what is wrong with the text are no causes of a command
module _ (e : StatementError) (none : (m : Meaning) (s : State) (limit : ℕ) (u : Use) → ¬ (IsFirst m s limit u e)) (limit : ℕ) where
  no_word : (s : State) (printed : Bool) (a : ActionTree) → ¬ (RefusesAction s limit printed a e)
  no_word s printed Empty h = h
  no_word s printed Ignored h = h
  no_word s printed Finish h = h
  no_word s printed (Choose w) h = h
  no_word s printed (Say c) h = none (meaning c) s limit (use_of None printed) h
  no_word s printed (Assign x c) h = none (meaning c) s limit (use_of (Some x) printed) h
  no_word s printed (Assume given) h = none (assumption_meaning given) s limit (use_of None printed) h
  no_word s printed Retract h = h

  -- nor of one inside a formula
  mutual
    no_stop : (n : Nest) (s : State) → ¬ (Stops n s limit e)
    no_stop (nest c ns) s h = ⊎_elim (no_stops ns s) (λ k. none (inner_meaning c) (with_answers (with_names s k.1) k.0) limit inner_use k.3) h

    no_stops : (ns : Nests) (s : State) → ¬ (SomeStops ns s limit e)
    no_stops alone s h = h
    no_stops (beside n ns) s h = ⊎_elim (no_stop n s) (λ k. no_stops ns (with_names s k.1) k.3) h

  no_refusal : (s : State) (t : StatementTree) → ¬ (RefusesStatement s limit t e)
  no_refusal s t h = ⊎_elim (no_stops t.inner (with_variables t.inner t.action s)) (λ k. no_word k.0 t.printed t.action k.2) h

module _ (s next : State) (limit : ℕ) (piece : List ℕ) (t : written.Statement) (spelled : Spells piece (statement_tree t)) where
  spelled_refused : (e : StatementError) → RefusesStatement s limit (statement_tree t) e → SpellsRefused s limit piece e
  spelled_refused e h = record { statement = statement_tree t; spelled = spelled; refused = h }

  reply_to_stop : (e : StatementError) → next ≡ s → IsStatementStopped t s limit e → Reply s limit piece (Err e) next
  reply_to_stop error.Memory p h = tt
  reply_to_stop error.Syntax p h = absurd (no_refusal error.Syntax (λ m s l u k. ⊎_elim (λ x. x) (λ x. x) k.applies) limit s (statement_tree t) (h (λ q. absurd (cc (q)))))
  reply_to_stop error.Long p h = absurd (no_refusal error.Long (λ m s l u k. ⊎_elim (λ x. x) (λ x. x) k.applies) limit s (statement_tree t) (h (λ q. absurd (cc (q)))))
  reply_to_stop error.Lexical p h = absurd (no_refusal error.Lexical (λ m s l u k. ⊎_elim (λ x. x) (λ x. x) k.applies) limit s (statement_tree t) (h (λ q. absurd (cc (q)))))
  reply_to_stop error.Nesting p h = absurd (no_refusal error.Nesting (λ m s l u k. ⊎_elim (λ x. x) (λ x. x) k.applies) limit s (statement_tree t) (h (λ q. absurd (cc (q)))))
  reply_to_stop error.Unbound p h = (p, spelled_refused error.Unbound (h (λ q. absurd (cc (q)))))
  reply_to_stop error.FormulaAsTerm p h = (p, spelled_refused error.FormulaAsTerm (h (λ q. absurd (cc (q)))))
  reply_to_stop error.Nonlinear p h = (p, spelled_refused error.Nonlinear (h (λ q. absurd (cc (q)))))
  reply_to_stop error.Division p h = (p, spelled_refused error.Division (h (λ q. absurd (cc (q)))))
  reply_to_stop error.CongruenceContext p h = (p, spelled_refused error.CongruenceContext (h (λ q. absurd (cc (q)))))
  reply_to_stop error.Context p h = (p, spelled_refused error.Context (h (λ q. absurd (cc (q)))))
  reply_to_stop error.Modulus p h = (p, spelled_refused error.Modulus (h (λ q. absurd (cc (q)))))
  reply_to_stop error.Depth p h = (p, spelled_refused error.Depth (h (λ q. absurd (cc (q)))))
  reply_to_stop error.Point p h = (p, spelled_refused error.Point (h (λ q. absurd (cc (q)))))
  reply_to_stop error.Unvalued p h = (p, spelled_refused error.Unvalued (h (λ q. absurd (cc (q)))))
  reply_to_stop error.Quantified p h = (p, spelled_refused error.Quantified (h (λ q. absurd (cc (q)))))
  reply_to_stop error.Overflow p h = (p, spelled_refused error.Overflow (h (λ q. absurd (cc (q)))))
  reply_to_stop error.Nodes p h = (p, spelled_refused error.Nodes (h (λ q. absurd (cc (q)))))
  reply_to_stop error.Bindings p h = (p, spelled_refused error.Bindings (h (λ q. absurd (cc (q)))))
  reply_to_stop error.Text p h = (p, spelled_refused error.Text (h (λ q. absurd (cc (q)))))

  pub reply_to : (r : Result Line StatementError) → IfOk r (λ answer. IsStatementAnswer t s limit answer next) → IfErr r (IsStatementStopped t s limit) → OnErr r (next ≡ s) → Reply s limit piece r next
  reply_to (Ok answer) a b k = record {
    statement = statement_tree t;
    spelled = spelled;
    state = a.through.state;
    reached = a.through.reached;
    after = a.after;
    answered = a.through.answered;
    left = a.left;
  }
  reply_to (Err e) a b k = reply_to_stop e k b
