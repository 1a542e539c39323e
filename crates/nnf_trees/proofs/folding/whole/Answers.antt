use Rattle.std.proofs.Common.{rules, ◌<◌, length, sym, ap, ◌∙◌, subst}
use Rattle.logic_meaning.specs.Fold.{joined}
use Rattle.logic_meaning.specs.Every.{Every, EveryOf}
use Rattle.normal_atoms.specs.Atoms.{IsWellFormed}
use Rattle.nnf_trees.specs.Nnfs.{nnf_of}
use Rattle.nnf_trees.proofs.NnfEquations.{nnf-Joined, atoms-Joined}
use Rattle.nnf_trees.proofs.Pieces.{two_pieces}
use Rattle.nnf_trees.proofs.folding.whole.Goals as goal

pub returns-then-len-gt1-clause-joined : goal.returns-then-len-gt1-clause-joined
returns-then-len-gt1-clause-joined c =
    let more : 1 < length c.args.pieces.items = search rules in
    nnf-Joined c.args.junction c.of.result ∙ ap (joined c.args.junction) c.of.ensures.formulas ∙ two_pieces nnf_of c.args.junction c.args.pieces.items more

pub returns-then-len-gt1-clause-proper : goal.returns-then-len-gt1-clause-proper
returns-then-len-gt1-clause-proper c = subst (Every IsWellFormed) (sym (atoms-Joined c.args.junction c.of.result)) (subst (EveryOf IsWellFormed) (sym c.of.ensures.atoms) c.requires)
