-- No command stands inside a statement that asks for a least value.
use Rattle.std.proofs.Common.{◌≡◌, List, refl, sym, subst}
use Rattle.std.specs.Prelude.{Option, Some, None}
use Rattle.language_meaning.specs.Holes.{InnerTree, Nest, Nests, nest, all_of, command_alone}
use Rattle.language_meaning.specs.Holes as inside
use Rattle.written_syntax.proofs.Alone.{both_alone}
use Rattle.language_meaning.specs.Statements.{CommandTree, Echo, Nnf, Pnf, Dnf, Cnf, Simpl, Qe, Qea, Holds, Sample, Grid, Certify, Check, Least, ActionTree, Empty, Ignored, Finish, Choose, Say, Assign, Assume, Retract, StatementTree}
use Rattle.language_meaning.specs.Inner.{WithInner, about, command_in, command_of}
use Rattle.language_meaning.specs.declared.terminal.Terminal.{Terminal}
use Rattle.language_meaning.specs.Grammar.{Written, comparison, Listed, last_item, more_items, empty, listed, SpellsResult, resulting, SpellsWeak, weak, SpellsWeaks, SpellsQuery, qea, holds, witness, grid, certify, check, least, SpellsAction, assign, result, query, choose, load, on, off, assume, retract, end, bye, quit, SpellsStatement, nothing, acting}

-- where the command asks for a least value, no other stands inside it
abbrev pub IsLeastAlone : CommandTree → Nests → Type 0
IsLeastAlone (Echo f) ns = Unit {0}
IsLeastAlone (Nnf f) ns = Unit {0}
IsLeastAlone (Pnf f) ns = Unit {0}
IsLeastAlone (Dnf f) ns = Unit {0}
IsLeastAlone (Cnf f) ns = Unit {0}
IsLeastAlone (Simpl f given) ns = Unit {0}
IsLeastAlone (Qe f given) ns = Unit {0}
IsLeastAlone (Qea f given) ns = Unit {0}
IsLeastAlone (Holds f es) ns = Unit {0}
IsLeastAlone (Sample f es) ns = Unit {0}
IsLeastAlone (Grid f axes) ns = Unit {0}
IsLeastAlone (Certify written) ns = Unit {0}
IsLeastAlone (Check written ms) ns = Unit {0}
IsLeastAlone (Least written target) ns = ns ≡ inside.alone

-- the same of the command of an action
abbrev pub HasLeastAlone : ActionTree → Nests → Type 0
HasLeastAlone Empty ns = Unit {0}
HasLeastAlone Ignored ns = Unit {0}
HasLeastAlone Finish ns = Unit {0}
HasLeastAlone (Choose setting) ns = Unit {0}
HasLeastAlone (Say c) ns = IsLeastAlone c ns
HasLeastAlone (Assign x c) ns = IsLeastAlone c ns
HasLeastAlone (Assume given) ns = Unit {0}
HasLeastAlone Retract ns = Unit {0}

weak_alone : {ts rest : List Terminal} {f : Written} → SpellsWeak ts f rest → f.inner ≡ inside.alone
weak_alone (weak (comparison p is q) e) = refl

items_alone : {ts rest : List Terminal} {fs : List Written} → Listed SpellsWeak ts fs rest → (all_of fs).inner ≡ inside.alone
items_alone (last_item {x = x} p) = both_alone x.inner inside.alone (weak_alone p) refl
items_alone (more_items {x = x} {more = more} p m) = both_alone x.inner (all_of more).inner (weak_alone p) (items_alone m)

weaks_alone : {ts rest : List Terminal} {fs : List Written} → SpellsWeaks ts fs rest → (all_of fs).inner ≡ inside.alone
weaks_alone empty = refl
weaks_alone (listed m) = items_alone m

abbrev AtLeast : WithInner CommandTree → Type 0
AtLeast c = IsLeastAlone c.tree c.inner

query_alone : {ts rest : List Terminal} {c : WithInner CommandTree} → SpellsQuery ts c rest → AtLeast c
query_alone (qea p) = tt
query_alone (holds p q) = tt
query_alone (witness p q) = tt
query_alone (grid p q) = tt
query_alone (certify p) = tt
query_alone (check p q) = tt
query_alone (least p q) = weaks_alone p

command_alone_there : (c : InnerTree) (ns : Nests) → IsLeastAlone (command_of c) ns
command_alone_there (inside.Nnf f) ns = tt
command_alone_there (inside.Pnf f) ns = tt
command_alone_there (inside.Dnf f) ns = tt
command_alone_there (inside.Cnf f) ns = tt
command_alone_there (inside.Simpl f given) ns = tt
command_alone_there (inside.Qe f given) ns = tt

nest_alone : (n : Nest) → AtLeast (command_in n)
nest_alone (nest c ns) = command_alone_there c ns

formula_alone : (f : Written) (o : Option Nest) → AtLeast (elim o [ None ↦ about Echo f | Some n ↦ command_in n ])
formula_alone f None = tt
formula_alone f (Some n) = nest_alone n

result_alone : {ts rest : List Terminal} {c : WithInner CommandTree} → SpellsResult ts c rest → AtLeast c
result_alone (resulting {f = f} p is) = subst AtLeast (sym is) (formula_alone f (command_alone f.tree f.inner))

action_alone : {ts rest : List Terminal} {a : WithInner ActionTree} → SpellsAction ts a rest → HasLeastAlone a.tree a.inner
action_alone (assign p) = result_alone p
action_alone (result p) = result_alone p
action_alone (query p) = query_alone p
action_alone (choose e) = tt
action_alone (load p) = tt
action_alone (on p) = tt
action_alone (off p) = tt
action_alone (assume p) = tt
action_alone retract = tt
action_alone end = tt
action_alone bye = tt
action_alone quit = tt

pub least_alone : {ts : List Terminal} {t : StatementTree} → SpellsStatement ts t → HasLeastAlone t.action t.inner
least_alone (nothing e) = subst (λ (u : StatementTree). HasLeastAlone u.action u.inner) (sym e) tt
least_alone (acting a e) = subst (λ (u : StatementTree). HasLeastAlone u.action u.inner) (sym e) (action_alone a)
