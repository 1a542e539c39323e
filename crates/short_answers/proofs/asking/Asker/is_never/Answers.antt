use Rattle.std.proofs.Common.{sym, subst, ◌∙◌}
use Rattle.normal_atoms.specs.Atoms.{context_of}
use Rattle.short_answers.specs.Asking.{AreTidyIds}
use Rattle.short_answers.proofs.asking.Asker.is_never.Goals as goal

pub ask-requires-clause-members : goal.ask-requires-clause-members
ask-requires-clause-members g c κs within =
    subst (AreTidyIds (context_of c.args.self.now.work.now.context) c.args.store.now) (sym (c.deref.ensures.value ∙ c.in_ok-members.ensures)) (c.requires.id, c.requires.others)
