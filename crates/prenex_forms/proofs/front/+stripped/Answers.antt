use Rattle.std.proofs.Common.{rules, arith, ◌≡◌, ◌≤◌, ◌+◌, ◌∷◌, ◌++◌, [], List, map, length, ap, ◌∙◌, subst, sym}
use Rattle.logic_meaning.specs.Formula.{also}
use Rattle.logic_meaning.specs.Sizes.{nodes, all_nodes}
use Rattle.formula_tree.specs.Trees.{members}
use Rattle.nnf_trees.specs.declared.nnf.Nnf.{Nnf}
use Rattle.nnf_trees.specs.Nnfs.{nnf_of, nnfs_of, AreProper}
use Rattle.nnf_trees.proofs.NnfEquations.{nnf-Constant, nnf-One, nnf-Quantified}
use Rattle.nnf_trees.proofs.Pieces.{empty, itself_proper, Formulas_of}
use Rattle.logic_meaning.specs.Blocks.{matrices}
use Rattle.prenex_forms.specs.Places.{level_behind, place_at, placed, placed_in}
use Rattle.prenex_forms.proofs.Lists.{one_pushed, all_pushed, on_ok_then}
use Rattle.prenex_forms.proofs.Fronts.{constant_placed, quantified_placed, nothing_more, one_more, members_more}
use Rattle.prenex_forms.proofs.front.+stripped.Goals as goal

pub all_stripped-loop-f-preserved : goal.all_stripped-loop-f-preserved
all_stripped-loop-f-preserved t c =
    let split : c.loop-f.f-iterator.rest.items ≡ c.in-Some.f ∷ c.next.new.self.rest.items = search rules in
    let before = c.loop-f.invariant in
    let rest = c.next.new.self.rest.items in
    let few : nodes (nnf_of c.in-Some.f) + all_nodes (members (map nnf_of rest)) ≤ all_nodes (nnfs_of c.args.fs)
    = subst (λ (xs : List Nnf). all_nodes (members (map nnf_of xs)) ≤ all_nodes (nnfs_of c.args.fs)) split before.small in
    let proper : AreProper (c.in-Some.f ∷ rest) = subst AreProper split before.rest in
    let q = c.args.kind in
    record {
      can = tt;
      finite = tt;
      left = one_pushed c.loop-f.made.items c.push.new.self.items c.in_ok-stripped.field-0 (matrices (Formulas_of c.loop-f.f-iterator.rest.items)) (matrices (Formulas_of rest)) (matrices (nnfs_of c.args.fs)) before.left
          (ap (λ (xs : List Nnf). matrices (Formulas_of xs)) split ∙ ap (λ f. also f (matrices (Formulas_of rest))) (sym c.in_ok-stripped.ensures.matrix)) c.in_ok-push.ensures.items;
      places = members_more c.loop-f.places.items c.stripped.new.places.items c.args.places.now.items (placed q c.args.level (nnf_of c.in-Some.f)) (placed_in q c.args.level (members (map nnf_of rest))) (c.args.places.now.items ++ placed_in q c.args.level (nnfs_of c.args.fs))
          (subst (λ (xs : List Nnf). c.loop-f.places.items ++ placed_in q c.args.level (members (map nnf_of xs)) ≡ c.args.places.now.items ++ placed_in q c.args.level (nnfs_of c.args.fs)) split before.places) c.in_ok-stripped.ensures.places;
      small = omega (arith, few);
      made = itself_proper c.in_ok-stripped.field-0 c.loop-f.made.items c.push.new.self.items before.made c.in_ok-stripped.ensures.proper c.in_ok-push.ensures.items;
      rest = proper.1;
    }

pub all_stripped-returns-clause-matrices : goal.all_stripped-returns-clause-matrices
all_stripped-returns-clause-matrices t c =
    let none_left : length c.loop-f.f-iterator.rest.items ≡ 0 = search rules in
    c.of.ensures.formulas ∙ all_pushed c.loop-f.made.items (matrices (Formulas_of c.loop-f.f-iterator.rest.items)) (matrices (nnfs_of c.args.fs)) c.loop-f.invariant.left
    (ap (λ (xs : List Nnf). matrices (Formulas_of xs)) (empty c.loop-f.f-iterator.rest.items none_left))

pub stripped-returns-in-Constant-clause-places : goal.stripped-returns-in-Constant-clause-places
stripped-returns-in-Constant-clause-places t c =
    nothing_more c.args.places.now.items c.args.places.now.items _ (λ i. c.args.places.now.items)
    (ap (placed c.args.kind c.args.level) (ap nnf_of c.in-Constant.is ∙ nnf-Constant c.in-Constant.truth) ∙ constant_placed c.in-Constant.truth c.args.kind c.args.level)

pub stripped-returns-in-One-clause-places : goal.stripped-returns-in-One-clause-places
stripped-returns-in-One-clause-places t c =
    nothing_more c.args.places.now.items c.args.places.now.items _ (λ i. c.args.places.now.items)
    (ap (placed c.args.kind c.args.level) (ap nnf_of c.in-One.is ∙ nnf-One c.in-One.atom))

pub stripped-returns-in_ok-push-in-Quantified-clause-places : goal.stripped-returns-in_ok-push-in-Quantified-clause-places
stripped-returns-in_ok-push-in-Quantified-clause-places t c =
    let q = c.args.kind in
    let r = c.in-Quantified.quantifier in
    let f = nnf_of c.in-Quantified.inner.value in
    let l = c.in_ok-level-in-Quantified.level in
    let at = level_behind q c.args.level r in
    let pushed : c.push.new.self.items ≡ c.args.places.now.items ++ place_at at c.in-Quantified.name.number ∷ [] =
    c.in_ok-push-in-Quantified.ensures.items ∙ ap (λ k. c.args.places.now.items ++ place_at k c.in-Quantified.name.number ∷ []) c.in_ok-level-in-Quantified.ensures in
    let same : placed q c.args.level (nnf_of c.args.f) ≡ place_at at c.in-Quantified.name.number ∷ placed r at f =
    ap (placed q c.args.level) (ap nnf_of c.in-Quantified.is ∙ nnf-Quantified r c.in-Quantified.name c.in-Quantified.inner) ∙ sym (quantified_placed r c.in-Quantified.name.number f q c.args.level) in
    on_ok_then c.stripped.result _ _ c.stripped.ensures.places (λ h.
    one_more c.args.places.now.items c.push.new.self.items c.stripped.new.places.items (placed r at f) (place_at at c.in-Quantified.name.number) pushed
    (h ∙ ap (λ g. c.push.new.self.items ++ placed r l (nnf_of g)) c.into_inner.ensures ∙ ap (λ k. c.push.new.self.items ++ placed r k f) c.in_ok-level-in-Quantified.ensures)
    ∙ ap (λ ps. c.args.places.now.items ++ ps) (sym same))
