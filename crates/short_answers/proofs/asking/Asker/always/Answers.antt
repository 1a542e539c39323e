use Rattle.std.proofs.Common.{subst, map, [], ◌∷◌}
use Rattle.logic_meaning.specs.Tree.{Tree}
use Rattle.normal_atoms.specs.Atoms.{context_of, atom_of}
use Rattle.formula_store.specs.Nodes.{tree}
use Rattle.formula_store.proofs.Makes.{keeps_then}
use Rattle.short_answers.specs.Asking.{NeverTogether}
use Rattle.short_answers.proofs.Constants.{everywhere_true}
use Rattle.short_answers.proofs.Keeping.{asking_kept, negation_tidy}
use Rattle.short_answers.proofs.asking.Asker.always.Goals as goal

pub is_nowhere-requires-clause-asking : goal.is_nowhere-requires-clause-asking
is_nowhere-requires-clause-asking g c κs within =
    let s = c.args.self.now in
    asking_kept s.work.now s.assumed.now s.names.now c.args.store.now c.negation.new.store c.negation.ensures.kept c.requires.asking

pub is_nowhere-requires-clause-id : goal.is_nowhere-requires-clause-id
is_nowhere-requires-clause-id g c κs within =
    negation_tidy (context_of c.args.self.now.work.now.context) c.negation.new.store c.in_ok-not.not (tree c.args.store.now c.args.id) c.in_ok-not.ensures.made c.requires.id.tidy

pub returns-in_err-is_nowhere-clause-kept : goal.returns-in_err-is_nowhere-clause-kept
returns-in_err-is_nowhere-clause-kept g c = keeps_then c.args.store.now c.negation.new.store c.is_nowhere.new.store c.negation.ensures.kept c.is_nowhere.ensures.kept

pub returns-then-not-branch-clause-kept : goal.returns-then-not-branch-clause-kept
returns-then-not-branch-clause-kept g c = keeps_then c.args.store.now c.negation.new.store c.is_nowhere.new.store c.negation.ensures.kept c.is_nowhere.ensures.kept

pub returns-in_err-yes-clause-kept : goal.returns-in_err-yes-clause-kept
returns-in_err-yes-clause-kept g c =
    keeps_then c.args.store.now c.is_nowhere.new.store c.make.new.self (keeps_then c.args.store.now c.negation.new.store c.is_nowhere.new.store c.negation.ensures.kept c.is_nowhere.ensures.kept) c.make.ensures.kept

pub returns-clause-constant : goal.returns-clause-constant
returns-clause-constant g c =
    let w = c.args.self.now.work.now in
    let f = tree c.args.store.now c.args.id in
    everywhere_true w f c.make.new.self c.in_ok-yes.yes c.requires.id.tidy
    (subst (λ (n : Tree). NeverTogether (context_of w.context) (map atom_of w.assumed.now) (n ∷ [])) c.in_ok-not.ensures.made.same (c.in_ok-is_nowhere.ensures.nowhere c.if-not-branch.false)) c.in_ok-yes.ensures.made

pub returns-clause-kept : goal.returns-clause-kept
returns-clause-kept g c =
    keeps_then c.args.store.now c.is_nowhere.new.store c.make.new.self (keeps_then c.args.store.now c.negation.new.store c.is_nowhere.new.store c.negation.ensures.kept c.is_nowhere.ensures.kept) c.make.ensures.kept
