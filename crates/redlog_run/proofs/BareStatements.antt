-- No command stands inside a statement without a formula.
use Rattle.std.proofs.Common.{◌≡◌, ℕ, List, refl, ap, ◌∙◌, subst}
use Rattle.language_meaning.specs.Holes as inside
use Rattle.language_meaning.specs.Statements.{ActionTree, StatementTree}
use Rattle.language_meaning.specs.Inner.{WithInner}
use Rattle.language_meaning.specs.declared.terminal.Terminal.{Terminal}
use Rattle.language_meaning.specs.Grammar.{SpellsAction, assign, result, query, choose, load, on, off, assume, retract, end, bye, quit, SpellsStatement, nothing, acting}
use Rattle.language_meaning.specs.Statement.{Spells}
use Rattle.redlog_run.specs.WithoutFormulas.{IsWithoutFormula}

action_alone : {ts rest : List Terminal} {a : WithInner ActionTree} → SpellsAction ts a rest → IsWithoutFormula a.tree → a.inner ≡ inside.alone
action_alone (assign r) w = absurd w
action_alone (result r) w = absurd w
action_alone (query r) w = absurd w
action_alone (choose e) w = refl
action_alone (load r) w = refl
action_alone (on r) w = refl
action_alone (off r) w = refl
action_alone (assume r) w = absurd w
action_alone retract w = refl
action_alone end w = refl
action_alone bye w = refl
action_alone quit w = refl

statement_alone : {ts : List Terminal} {t : StatementTree} → SpellsStatement ts t → IsWithoutFormula t.action → t.inner ≡ inside.alone
statement_alone (nothing e) w = ap (λ (u : StatementTree). u.inner) e
statement_alone (acting a e) w = ap (λ (u : StatementTree). u.inner) e ∙ action_alone a (subst (λ (u : StatementTree). IsWithoutFormula u.action) e w)

pub spelled_alone : (piece : List ℕ) (t : StatementTree) → Spells piece t → IsWithoutFormula t.action → t.inner ≡ inside.alone
spelled_alone piece t h w = statement_alone h.spelled w
