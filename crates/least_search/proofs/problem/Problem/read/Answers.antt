use Rattle.std.proofs.Common.{◌≡◌, ◌++◌, ◌∷◌, [], map, ap, sym, ◌∙◌, subst, refl}
use Rattle.std.proofs.lemmas.Bool.{false≢true}
use Rattle.logic_meaning.specs.Formula.{Ex}
use Rattle.logic_meaning.specs.Some.{Among}
use Rattle.logic_meaning.specs.Tree.{Tree}
use Rattle.formula_laws.specs.StandsOnce.{StandsOnce}
use Rattle.linear_forms.specs.Values.{number_of}
use Rattle.linear_theory.specs.WeakTargets.{exs}
use Rattle.formula_tree.specs.Shapes.{tree_over, AllIds}
use Rattle.formula_store.specs.Nodes.{tree, IsId}
use Rattle.least_search.proofs.Checked.{some_is}
use Rattle.least_search.proofs.OneMore.{numbers, exs_more, apart_more, once_more}
use Rattle.least_search.proofs.problem.Problem.read.Goals as goal

pub loop-name-preserved : goal.loop-name-preserved
loop-name-preserved c =
    let nodes = c.args.store.now in
    let old = c.loop-name.names.items in
    let x = c.in-Ex.name in
    let behind = tree nodes c.in-Ex.inner in
    let invariant = c.loop-name.invariant in
    let items : c.push.new.self.items ≡ old ++ x ∷ [] = c.in_ok-push.ensures.items in
    let is : tree nodes c.loop-name.matrix ≡ Ex x.number behind = c.shape.ensures.tree ∙ ap (tree_over (tree nodes)) c.in-Ex.is in
    let new : ¬ (Among (numbers old) x.number) =
    λ m. false≢true (sym c.if-stands_in.false ∙ c.stands_in.ensures.1 (subst (λ vs. Among (map number_of vs) x.number) (sym c.deref.ensures.value) m)) in
    record {
      id = subst (AllIds (IsId nodes)) c.in-Ex.is c.shape.ensures.members;
      same = invariant.same ∙ ap (exs (numbers old)) is ∙ sym (exs_more old x behind) ∙ ap (λ vs. exs (numbers vs) behind) (sym items);
      once = subst (λ vs. StandsOnce (numbers vs)) (sym items) (once_more old x invariant.once new);
      apart = subst (λ vs. ¬ (Among (numbers vs) c.args.target.number)) (sym items) (apart_more old x c.args.target.number invariant.apart c.if-name-target.false);
    }

pub returns : goal.returns
returns c =
    let invariant = c.loop-name.invariant in
    record {
      is = record { id = invariant.id; once = invariant.once; apart = invariant.apart; rows = some_is _ c.in_ok-rows.field-0 c.in-Some.rows c.in-Some.is c.in_ok-rows.ensures };
      same = invariant.same;
      target = refl;
    }
