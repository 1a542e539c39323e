use Rattle.std.proofs.Common.{◌≡◌, [], ◌∷◌, map, subst}
use Rattle.normal_atoms.specs.Atoms.{context_of, atom_of}
use Rattle.normal_atoms.proofs.Stepped.{ok_map}
use Rattle.logic_meaning.specs.Tree.{Tree}
use Rattle.formula_store.specs.Nodes.{tree}
use Rattle.formula_store.proofs.Makes.{keeps_then}
use Rattle.short_answers.specs.Asking.{NeverTogether}
use Rattle.short_answers.proofs.Keeping.{asking_kept, negation_tidy, tidy_kept}
use Rattle.short_answers.proofs.Licensed.{follows}
use Rattle.short_answers.proofs.asking.Asker.follows.Goals as goal

pub is_never-requires-clause-asking : goal.is_never-requires-clause-asking
is_never-requires-clause-asking g c κs within =
    let s = c.args.self.now in
    asking_kept s.work.now s.assumed.now s.names.now c.args.store.now c.negation.new.store c.negation.ensures.kept c.requires.asking

pub is_never-requires-clause-id : goal.is_never-requires-clause-id
is_never-requires-clause-id g c κs within = tidy_kept (context_of c.args.self.now.work.now.context) c.args.store.now c.negation.new.store c.negation.ensures.kept c.args.given c.requires.given

pub is_never-requires-clause-others : goal.is_never-requires-clause-others
is_never-requires-clause-others g c κs within =
    let o = context_of c.args.self.now.work.now.context in
    (negation_tidy o c.negation.new.store c.in_ok-not.not (tree c.args.store.now c.args.other) c.in_ok-not.ensures.made c.requires.other.tidy, tt)

pub returns-clause-follows : goal.returns-clause-follows
returns-clause-follows g c =
    let w = c.args.self.now.work.now in
    let o = context_of w.context in
    let ks = map atom_of w.assumed.now in
    let old = c.args.store.now in
    let new = c.negation.new.store in
    let given : tree new c.args.given ≡ tree old c.args.given = c.negation.ensures.kept.same c.args.given c.requires.given.is in
    ok_map c.is_never.result
    (λ b told yes_b. follows o ks (tree old c.args.given) (tree old c.args.other) c.requires.other.tidy
    (subst (λ (f : Tree). NeverTogether o ks (tree old c.args.given ∷ f ∷ [])) c.in_ok-not.ensures.made.same (subst (λ (f : Tree). NeverTogether o ks (f ∷ tree new c.in_ok-not.not ∷ [])) given (told yes_b))))
    c.is_never.ensures.never

pub returns-clause-kept : goal.returns-clause-kept
returns-clause-kept g c = keeps_then c.args.store.now c.negation.new.store c.is_never.new.store c.negation.ensures.kept c.is_never.ensures.kept
