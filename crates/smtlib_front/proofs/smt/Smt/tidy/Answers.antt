use Rattle.std.proofs.Common.{map, sym, subst}
use Rattle.std.specs.List.{AllByRecursion}
use Rattle.formula_tree.specs.Makers.{AreMade}
use Rattle.formula_store.specs.Nodes.{IsId, tree}
use Rattle.program_meaning.specs.SmtState.{State}
use Rattle.smtlib_front.specs.contracts.smt.Smt.{the_view}
use Rattle.smtlib_front.specs.Represents.{Represents}
use Rattle.smtlib_front.specs.Seen.{Seen}
use Rattle.smtlib_front.proofs.States.{ids_under, tidied_state}
use Rattle.smtlib_front.proofs.smt.Smt.tidy.Goals as goal

pub keep_only-requires : goal.keep_only-requires
keep_only-requires c =
    let m : Seen = the_view c.self.inside in
    let s : State = c.requires.state.0 in
    let r : Represents m s = subst (λ v. Represents v s) (sym c.self.view_is) c.requires.state.1 in
    subst (AllByRecursion (IsId c.self.inside.store)) (sym c.deref.ensures.value) (ids_under m s r s.logic r.asserted)

pub returns-clause-state : goal.returns-clause-state
returns-clause-state c =
    let m : Seen = the_view c.self.inside in
    let next : Seen = the_view (record c.self.inside { store = c.keep_only.new.self; asserted = c.in-Ok.ids }) in
    subst (λ v. (s : State) → Represents v s → Represents next s) c.self.view_is
    (λ s r. tidied_state m s r c.keep_only.new.self c.in-Ok.ids.items (subst (λ ids. AreMade (IsId c.keep_only.new.self) (tree c.keep_only.new.self) c.in-Ok.ids.items (map (tree m.formulas) ids)) c.deref.ensures.value c.in-Ok.ensures.kept))
