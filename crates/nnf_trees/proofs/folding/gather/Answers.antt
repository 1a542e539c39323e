use Rattle.std.proofs.Common.{Some, [], ◌∷◌, ◌++◌, sym, ap, ◌∙◌, subst}
use Rattle.logic_meaning.specs.Fold.{pieces_of}
use Rattle.logic_meaning.specs.Every.{Every, EveryOf}
use Rattle.normal_atoms.specs.Atoms.{IsWellFormed}
use Rattle.nnf_trees.specs.declared.nnf.Nnf.{Nnf}
use Rattle.nnf_trees.specs.Nnfs.{nnf_of, nnf_atoms}
use Rattle.nnf_trees.proofs.NnfEquations.{nnf-Constant, nnf-One, nnf-Joined, nnf-Quantified, atoms-Joined}
use Rattle.nnf_trees.proofs.Pieces.{Formulas_of, constant_gives, atom_gives, quantified_gives, other_gives, same_gives, itself_put, members_put, itself_proper, members_proper}
use Rattle.nnf_trees.proofs.folding.gather.Goals as goal

pub returns-in-Constant-clause-pieces : goal.returns-in-Constant-clause-pieces
returns-in-Constant-clause-pieces c =
    rw (c.in-Constant.is, nnf-Constant, c.eq.ensures) (constant_gives c.args.junction c.in-Constant.truth (Formulas_of c.args.pieces.now.items))

pub returns-in_ok-push-in-One-clause-pieces : goal.returns-in_ok-push-in-One-clause-pieces
returns-in_ok-push-in-One-clause-pieces c =
    itself_put nnf_of c.args.junction c.args.member _ c.args.pieces.now.items c.push.new.self.items (ap nnf_of c.in-One.is ∙ nnf-One _) (atom_gives c.args.junction _)
    (c.in_ok-push-in-One.ensures.items ∙ ap (λ (f : Nnf). c.args.pieces.now.items ++ f ∷ []) (sym c.in-One.is))

pub returns-in_ok-push-in-One-clause-proper : goal.returns-in_ok-push-in-One-clause-proper
returns-in_ok-push-in-One-clause-proper c =
    itself_proper c.args.member c.args.pieces.now.items c.push.new.self.items c.requires.pieces c.requires.member
    (c.in_ok-push-in-One.ensures.items ∙ ap (λ (f : Nnf). c.args.pieces.now.items ++ f ∷ []) (sym c.in-One.is))

pub returns-in_ok-push-in-Quantified-clause-pieces : goal.returns-in_ok-push-in-Quantified-clause-pieces
returns-in_ok-push-in-Quantified-clause-pieces c =
    itself_put nnf_of c.args.junction c.args.member _ c.args.pieces.now.items c.push-in-Quantified.new.self.items (ap nnf_of c.in-Quantified.is ∙ nnf-Quantified _ _ _)
    (quantified_gives c.args.junction c.in-Quantified.quantifier _ _) (c.in_ok-push-in-Quantified.ensures.items ∙ ap (λ (f : Nnf). c.args.pieces.now.items ++ f ∷ []) (sym c.in-Quantified.is))

pub returns-in_ok-push-in-Quantified-clause-proper : goal.returns-in_ok-push-in-Quantified-clause-proper
returns-in_ok-push-in-Quantified-clause-proper c =
    itself_proper c.args.member c.args.pieces.now.items c.push-in-Quantified.new.self.items c.requires.pieces c.requires.member
    (c.in_ok-push-in-Quantified.ensures.items ∙ ap (λ (f : Nnf). c.args.pieces.now.items ++ f ∷ []) (sym c.in-Quantified.is))

pub returns-in_ok-append-in-Joined-clause-pieces : goal.returns-in_ok-append-in-Joined-clause-pieces
returns-in_ok-append-in-Joined-clause-pieces c =
    members_put nnf_of c.args.junction c.args.member c.into_items.result.items c.args.pieces.now.items c.append.new.self.items
    (ap (λ (f : Nnf). pieces_of c.args.junction (nnf_of f)) c.in-Joined.is ∙ ap (pieces_of c.args.junction) (nnf-Joined _ _)
    ∙ same_gives c.args.junction c.in-Joined.other _ (sym c.eq-in-Joined.ensures ∙ c.if-eq.true) ∙ ap Some c.into_items.ensures.formulas)
    c.in_ok-append-in-Joined.ensures.items

pub returns-in_ok-append-in-Joined-clause-proper : goal.returns-in_ok-append-in-Joined-clause-proper
returns-in_ok-append-in-Joined-clause-proper c =
    members_proper c.into_items.result.items c.args.pieces.now.items c.append.new.self.items c.requires.pieces
    (subst (EveryOf IsWellFormed) c.into_items.ensures.atoms (subst (Every IsWellFormed) (ap nnf_atoms c.in-Joined.is ∙ atoms-Joined _ _) c.requires.member))
    c.in_ok-append-in-Joined.ensures.items

pub returns-in_ok-push-in-Joined-clause-pieces : goal.returns-in_ok-push-in-Joined-clause-pieces
returns-in_ok-push-in-Joined-clause-pieces c =
    itself_put nnf_of c.args.junction c.args.member _ c.args.pieces.now.items c.push-else-eq.new.self.items (ap nnf_of c.in-Joined.is ∙ nnf-Joined _ _)
    (other_gives c.args.junction c.in-Joined.other _ (sym c.eq-in-Joined.ensures ∙ c.if-eq.false))
    (c.in_ok-push-in-Joined.ensures.items ∙ ap (λ (f : Nnf). c.args.pieces.now.items ++ f ∷ []) (sym c.in-Joined.is))

pub returns-in_ok-push-in-Joined-clause-proper : goal.returns-in_ok-push-in-Joined-clause-proper
returns-in_ok-push-in-Joined-clause-proper c =
    itself_proper c.args.member c.args.pieces.now.items c.push-else-eq.new.self.items c.requires.pieces c.requires.member
    (c.in_ok-push-in-Joined.ensures.items ∙ ap (λ (f : Nnf). c.args.pieces.now.items ++ f ∷ []) (sym c.in-Joined.is))
