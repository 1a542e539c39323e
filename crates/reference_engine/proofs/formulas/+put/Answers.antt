use Rattle.std.proofs.Common.{rules, arith, ℕ, ◌≡◌, ◌≤◌, ◌+◌, ◌∷◌, ◌++◌, [], List, Err, drop, sym, ap, ◌∙◌, subst}
use Rattle.std.proofs.lemmas.List.{at_drop_all}
use Rattle.logic_meaning.specs.Shape.{quantified}
use Rattle.formula_laws.specs.TheoryAtoms.{AtomIn}
use Rattle.logic_meaning.specs.Every.{EveryOf}
use Rattle.logic_meaning.specs.Fold.{append}
use Rattle.logic_meaning.specs.Sizes.{nodes, all_nodes}
use Rattle.logic_meaning.specs.Tree.{Tree}
use Rattle.formula_laws.specs.Equivalence.{InContext}
use Rattle.logic_meaning.specs.PutIn.{trees_put, tree_put_within, trees_put_within}
use Rattle.normal_atoms.specs.Atoms.{context_of}
use Rattle.logic_meaning.specs.declared.form.VarId.{VarId}
use Rattle.linear_forms.specs.Values.{point_of}
use Rattle.nnf_trees.specs.declared.nnf.Nnf.{Nnf}
use Rattle.nnf_trees.specs.declared.nnf.Nnf.TheVariants as nnf
use Rattle.nnf_trees.specs.Nnfs.{nnf_of, nnfs_of, AreProper, HasModulus}
use Rattle.nnf_trees.proofs.Counting.{drop_at}
use Rattle.nnf_trees.proofs.NnfEquations.{nnf-Quantified}
use Rattle.nnf_trees.proofs.Pieces.{Formulas_of}
use Rattle.nnf_trees.specs.Placed.{Fails}
use Rattle.nnf_trees.proofs.PutLaws.{and_known}
use Rattle.reference_engine.specs.Put.{around, IsTreePut}
use Rattle.reference_engine.proofs.Parting.{refused}
use Rattle.reference_engine.proofs.TreePuts.{quantified_put, quantified_within, one_more_around, one_member_put, all_members_put, moduli_more}
use Rattle.reference_engine.proofs.formulas.+put.Goals as goal

pub formula_put-returns-in_err-put-in-Quantified-clause-put : goal.formula_put-returns-in_err-put-in-Quantified-clause-put
formula_put-returns-in_err-put-in-Quantified-clause-put t c =
    let o = context_of c.args.context in
    let p = point_of c.args.at.now in
    let q = c.in-Quantified in
    let e = c.in_err-put-in-Quantified.field-0.0 in
    let is : c.from_residual-in_err-put-in-Quantified.result ≡ Err e = search rules in
    let pushed : c.push.new.self.items ≡ c.args.names.now.items ++ q.x ∷ [] = search rules in
    let opened : c.deref-in-Quantified.result.now ≡ q.inner.value = search rules in
    let within : tree_put_within o p (around c.push.new.self.items) (nnf_of c.deref-in-Quantified.result.now) ≡ tree_put_within o p (around c.args.names.now.items) (nnf_of c.args.f.now)
    = ap (λ (g : Nnf). tree_put_within o p (around c.push.new.self.items) (nnf_of g)) opened
    ∙ ap (λ ns. tree_put_within o p ns (nnf_of q.inner.value)) (ap around pushed ∙ one_more_around c.args.names.now.items q.x)
    ∙ sym (ap (tree_put_within o p (around c.args.names.now.items)) (ap nnf_of q.is ∙ nnf-Quantified q.quantifier q.x q.inner) ∙ quantified_within o p (around c.args.names.now.items) q.quantifier q.x.number (nnf_of q.inner.value)) in
    refused c.from_residual-in_err-put-in-Quantified.result e _ _ is (subst (Fails e) within c.in_err-put-in-Quantified.ensures.put)

pub formula_put-returns-in_ok-boxed-in-Quantified-clause-put : goal.formula_put-returns-in_ok-boxed-in-Quantified-clause-put
formula_put-returns-in_ok-boxed-in-Quantified-clause-put t c =
    let o = context_of c.args.context in
    let p = point_of c.args.at.now in
    let q = c.in-Quantified in
    let ns = around c.args.names.now.items in
    let put = c.in_ok-put-in-Quantified.put in
    let boxed = c.in_ok-boxed-in-Quantified.boxed in
    let pushed : c.push.new.self.items ≡ c.args.names.now.items ++ q.x ∷ [] = search rules in
    let opened : c.deref-in-Quantified.result.now ≡ q.inner.value = search rules in
    let closed : boxed.value ≡ put = search rules in
    let around_it = ap around pushed ∙ one_more_around c.args.names.now.items q.x in
    let inner : IsTreePut o p (q.x.number ∷ ns) (nnf_of q.inner.value) (nnf_of boxed.value)
    = subst (λ (g : Nnf). IsTreePut o p (q.x.number ∷ ns) (nnf_of q.inner.value) (nnf_of g)) (sym closed)
    (subst (λ (g : Nnf). IsTreePut o p (q.x.number ∷ ns) (nnf_of g) (nnf_of put)) opened
    (subst (λ (xs : List ℕ). IsTreePut o p xs (nnf_of c.deref-in-Quantified.result.now) (nnf_of put)) around_it c.in_ok-put-in-Quantified.ensures.put)) in
    subst (λ (g : Tree). IsTreePut o p ns g (nnf_of (nnf.Quantified q.quantifier q.x boxed))) (sym (ap nnf_of q.is ∙ nnf-Quantified q.quantifier q.x q.inner))
    (subst (λ (g : Tree). IsTreePut o p ns (quantified q.quantifier q.x.number (nnf_of q.inner.value)) g) (sym (nnf-Quantified q.quantifier q.x boxed))
    (quantified_put o p ns q.quantifier q.x.number (nnf_of q.inner.value) (nnf_of boxed.value) inner))

pub members_put-loop-f-preserved : goal.members_put-loop-f-preserved
members_put-loop-f-preserved t c =
    let o = context_of c.args.context in
    let p = point_of c.args.at.now in
    let ns = around c.args.names.now.items in
    let all = nnfs_of c.args.fs.now in
    let f = c.f-item.result in
    let rest : List Nnf = drop (c.loop-f.f-index + 1) c.items-f-items.result.now in
    let split = drop_at c.items-f-items.result.now c.loop-f.f-index f c.loop-f-test.true c.f-item.is in
    let pushed : c.push.new.self.items ≡ c.loop-f.made.items ++ c.in_ok-put.put ∷ [] = search rules in
    let parts : AreProper (f ∷ rest) = subst AreProper split c.loop-f.invariant.rest in
    let few : nodes (nnf_of f) + all_nodes (Formulas_of rest) ≤ all_nodes all = subst (λ (xs : List Nnf). all_nodes (Formulas_of xs) ≤ all_nodes all) split c.loop-f.invariant.small in
    let inside : InContext o (nnf_of f) × EveryOf (AtomIn o) (Formulas_of rest) = subst (λ (xs : List Nnf). EveryOf (AtomIn o) (Formulas_of xs)) split c.loop-f.invariant.in_context in
    let put : IsTreePut o p ns (nnf_of f) (nnf_of c.in_ok-put.put) = subst (λ (xs : List VarId). IsTreePut o p (around xs) (nnf_of f) (nnf_of c.in_ok-put.put)) c.loop-f.invariant.names c.in_ok-put.ensures.put in
    record {
      left = one_member_put o p ns c.loop-f.made.items c.push.new.self.items c.in_ok-put.put (nnf_of f) (Formulas_of rest) (trees_put o p ns all)
          (subst (λ (xs : List Nnf). append (Formulas_of c.loop-f.made.items) (trees_put o p ns (Formulas_of xs)) ≡ trees_put o p ns all) split c.loop-f.invariant.left) put.formula pushed;
      within = sym (and_known (tree_put_within o p ns (nnf_of f)) (trees_put_within o p ns (Formulas_of rest)) put.within)
          ∙ subst (λ (xs : List Nnf). trees_put_within o p ns (Formulas_of xs) ≡ trees_put_within o p ns all) split c.loop-f.invariant.within;
      moduli = moduli_more c.loop-f.made.items c.push.new.self.items c.in_ok-put.put c.loop-f.invariant.moduli put.moduli pushed;
      small = omega (arith, few);
      rest = parts.1;
      in_context = inside.1;
      names = search rules;
    }

pub members_put-returns-clause-put : goal.members_put-returns-clause-put
members_put-returns-clause-put t c =
    let o = context_of c.args.context in
    let p = point_of c.args.at.now in
    let ns = around c.args.names.now.items in
    let over = at_drop_all Formulas_of c.items-f-items.result.now c.loop-f.f-index c.loop-f-test.false in
    record {
      formulas = c.of.ensures.formulas ∙ all_members_put o p ns c.loop-f.made.items (Formulas_of (drop c.loop-f.f-index c.items-f-items.result.now)) (trees_put o p ns (nnfs_of c.args.fs.now)) c.loop-f.invariant.left over;
      moduli = subst (EveryOf HasModulus) (sym c.of.ensures.formulas) c.loop-f.invariant.moduli;
      within = sym c.loop-f.invariant.within ∙ ap (trees_put_within o p ns) over;
    }
