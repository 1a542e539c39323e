use Rattle.std.proofs.Common.{sym, subst}
use Rattle.normal_atoms.specs.Atoms.{context_of}
use Rattle.language_meaning.specs.Trees.{TermTree}
use Rattle.written_syntax.specs.CodeTrees.{term_tree}
use Rattle.logic_meaning.specs.Names.{place}
use Rattle.written_atoms.specs.declared.term.ReadTerm.{ReadTerm}
use Rattle.written_atoms.specs.Term.{IsTermRead, IsDifferenceRead}
use Rattle.written_atoms.proofs.Nothing.{nothing_taken}
use Rattle.written_atoms.proofs.term.read_difference.Goals as goal

pub returns-then-is_nothing-clause-read : goal.returns-then-is_nothing-clause-read
returns-then-is_nothing-clause-read c =
    let k = context_of c.args.context in
    let n = place c.args.names.now in
    let s = term_tree c.args.left.now in
    let read = subst (λ (r : ReadTerm). IsTermRead k n s r) (sym c.linear.ensures.same) c.in_ok-left.ensures in
    subst (λ (t : TermTree). IsDifferenceRead k n s t c.linear.result) (sym (c.is_nothing.ensures c.if-is_nothing.true)) (nothing_taken k n s c.linear.result read c.linear.ensures.linear)
