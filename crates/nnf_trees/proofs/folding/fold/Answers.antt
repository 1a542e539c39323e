use Rattle.std.proofs.Common.{rules, ◌≡◌, true, false, [], ◌∷◌, sym, ap, ◌∙◌, subst, length}
use Rattle.logic_meaning.specs.Fold.{from_pieces, all_pieces}
use Rattle.logic_meaning.specs.NormalForm.{constant_tree}
use Rattle.nnf_trees.specs.Nnfs.{nnf_of, AreProper}
use Rattle.nnf_trees.proofs.NnfEquations.{nnf-Constant, atoms-Constant}
use Rattle.nnf_trees.proofs.Pieces.{Formulas_of, one_more, decided, all_put, absorbing_is, empty}
use Rattle.nnf_trees.proofs.folding.fold.Goals as goal

pub loop-member-preserved : goal.loop-member-preserved
loop-member-preserved c =
    let split : c.loop-member.member-iterator.rest.items ≡ c.in-Some.member ∷ c.next.new.self.rest.items = search rules in
    let goes : c.in_ok-gather.field-0 ≡ true = search rules in
    record {
      can = tt;
      finite = tt;
      left = one_more nnf_of c.args.junction c.in_ok-gather.field-0 c.in-Some.member c.loop-member.pieces.items c.gather.new.pieces.items c.next.new.self.rest.items c.loop-member.member-iterator.rest.items
          (all_pieces c.args.junction (Formulas_of c.args.list.items)) c.in_ok-gather.ensures.pieces split c.loop-member.invariant.left goes;
      pieces = c.in_ok-gather.ensures.proper;
      rest = (subst AreProper split c.loop-member.invariant.rest).1;
    }

pub returns-then-not-branch-clause-folded : goal.returns-then-not-branch-clause-folded
returns-then-not-branch-clause-folded c =
    let split : c.loop-member.member-iterator.rest.items ≡ c.in-Some.member ∷ c.next.new.self.rest.items = search rules in
    let stops : c.in_ok-gather.field-0 ≡ false = search rules in
    nnf-Constant c.eq.result ∙ ap constant_tree c.eq.ensures ∙ absorbing_is c.args.junction
    ∙ ap (from_pieces c.args.junction) (sym (decided nnf_of c.args.junction c.in_ok-gather.field-0 c.in-Some.member c.loop-member.pieces.items c.gather.new.pieces.items c.next.new.self.rest.items c.loop-member.member-iterator.rest.items
    (all_pieces c.args.junction (Formulas_of c.args.list.items)) c.in_ok-gather.ensures.pieces split c.loop-member.invariant.left stops))

pub returns-then-not-branch-clause-proper : goal.returns-then-not-branch-clause-proper
returns-then-not-branch-clause-proper c = rw (atoms-Constant c.eq.result) tt

pub returns-clause-folded : goal.returns-clause-folded
returns-clause-folded c =
    let none_left : length c.loop-member.member-iterator.rest.items ≡ 0 = search rules in
    let ended : c.loop-member.member-iterator.rest.items ≡ [] = empty c.loop-member.member-iterator.rest.items none_left in
    c.whole.ensures.joined ∙ ap (from_pieces c.args.junction) (all_put nnf_of c.args.junction c.loop-member.pieces.items c.loop-member.member-iterator.rest.items (all_pieces c.args.junction (Formulas_of c.args.list.items)) ended c.loop-member.invariant.left)
