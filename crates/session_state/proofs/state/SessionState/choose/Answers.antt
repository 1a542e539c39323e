use Rattle.std.proofs.Common.{◌≡◌, false, sym, subst, length, rules}
use Rattle.program_meaning.specs.State.{is_same_theory}
use Rattle.logic_meaning.specs.Some.{EachOf}
use Rattle.normal_atoms.specs.Atoms.{context_of}
use Rattle.session_state.specs.Trees.{standing_trees}
use Rattle.session_state.specs.Keeping.{IsSessionFormula}
use Rattle.session_state.proofs.StateLemmas.{cleared_session, cleared_state}
use Rattle.session_state.proofs.state.SessionState.choose.Goals as goal

pub returns-then-ne-clause-session : goal.returns-then-ne-clause-session
returns-then-ne-clause-session c =
    let none = subst (λ ks. EachOf (IsSessionFormula (context_of c.args.context) (length c.args.self.now.names)) (standing_trees ks)) (sym c.clear-then-ne.ensures) tt in
    cleared_session c.args.self.now c.args.context c.clear.new.self c.clear-then-ne.new.self c.clear-then-ne-2.new.self c.args.self.now.store c.args.self.now.kept c.clear.ensures c.clear-then-ne-2.ensures.items none c.requires

pub returns-then-ne-clause-chosen : goal.returns-then-ne-clause-chosen
returns-then-ne-clause-chosen c =
    let other : is_same_theory (context_of c.args.self.now.context) (context_of c.args.context) ≡ false = search rules in
    cleared_state c.args.self.now c.args.context c.clear.new.self c.clear-then-ne.new.self c.clear-then-ne-2.new.self c.clear.ensures c.clear-then-ne.ensures c.clear-then-ne-2.ensures.items other
