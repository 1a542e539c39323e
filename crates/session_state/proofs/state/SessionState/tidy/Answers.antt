use Rattle.std.proofs.Common.{◌∙◌, sym, ap, subst, length, map}
use Rattle.std.proofs.lemmas.List.{length-map}
use Rattle.std.specs.List.{AllByRecursion}
use Rattle.formula_store.specs.Nodes.{tree, IsId}
use Rattle.formula_tree.specs.Makers.{AreMade}
use Rattle.session_state.proofs.BindingLemmas.{list_by_ids}
use Rattle.session_state.proofs.StateLemmas.{rebound_session, rebound_state, ids_as_many, cleared_session}
use Rattle.session_state.proofs.state.SessionState.tidy.Goals as goal

pub keep_only-requires : goal.keep_only-requires
keep_only-requires c =
    let state = c.args.self.now in
    subst (AllByRecursion (IsId state.store)) (sym (c.deref.ensures.value ∙ c.in_ok-roots.ensures.ids)) (list_by_ids (IsId state.store) state.bindings c.requires.session.ids.bound)

pub rebound-requires : goal.rebound-requires
rebound-requires c =
    let state = c.args.self.now in
    ap length c.deref-2.ensures.value ∙ ids_as_many (tree state.store) (tree c.keep_only.new.self) c.deref.result.now c.in-Ok.ids.items c.in-Ok.ensures.kept.same
    ∙ ap length (c.deref.ensures.value ∙ c.in_ok-roots.ensures.ids) ∙ length-map state.bindings (λ e. e.1)

pub returns-in-Ok-rebound-clause-session : goal.returns-in-Ok-rebound-clause-session
returns-in-Ok-rebound-clause-session c =
    let state = c.args.self.now in
    let made = subst (λ roots. AreMade (IsId c.keep_only.new.self) (tree c.keep_only.new.self) c.in-Ok.ids.items (map (tree state.store) roots)) (c.deref.ensures.value ∙ c.in_ok-roots.ensures.ids) c.in-Ok.ensures.kept in
    rebound_session state c.in-Ok-rebound.bindings c.keep_only.new.self c.len-self.result c.in-Ok.ids.items c.in-Ok-rebound.ensures.names (c.in-Ok-rebound.ensures.ids ∙ c.deref-2.ensures.value) made c.requires.settled c.requires.session

pub returns-in-Ok-rebound-clause-state : goal.returns-in-Ok-rebound-clause-state
returns-in-Ok-rebound-clause-state c =
    let state = c.args.self.now in
    let made = subst (λ roots. AreMade (IsId c.keep_only.new.self) (tree c.keep_only.new.self) c.in-Ok.ids.items (map (tree state.store) roots)) (c.deref.ensures.value ∙ c.in_ok-roots.ensures.ids) c.in-Ok.ensures.kept in
    rebound_state state c.in-Ok-rebound.bindings c.keep_only.new.self c.len-self.result c.in-Ok.ids.items c.in-Ok-rebound.ensures.names (c.in-Ok-rebound.ensures.ids ∙ c.deref-2.ensures.value) made c.requires.settled

pub returns-clause-session : goal.returns-clause-session
returns-clause-session c = cleared_session c.args.self.now c.args.self.now.context c.clear.new.self c.args.self.now.standing c.args.self.now.answers c.keep_only.new.self c.args.self.now.kept c.clear.ensures c.requires.settled c.requires.session.sound.standing c.requires.session
