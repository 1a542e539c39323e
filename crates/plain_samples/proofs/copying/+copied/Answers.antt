use Rattle.std.proofs.Common.{arith, ◌≡◌, ◌≤◌, ◌+◌, ◌∷◌, ◌++◌, [], List, map, drop, sym, ap, ◌∙◌, subst}
use Rattle.std.proofs.lemmas.List.{at_drop_all}
use Rattle.logic_meaning.specs.Every.{EveryOf}
use Rattle.logic_meaning.specs.Fold.{append}
use Rattle.logic_meaning.specs.Formula.{none, also}
use Rattle.logic_meaning.specs.Sizes.{nodes, all_nodes}
use Rattle.logic_meaning.specs.Tree.{Tree, Trees}
use Rattle.normal_atoms.specs.Atoms.{IsWellFormed}
use Rattle.formula_tree.specs.Trees.{members}
use Rattle.nnf_trees.specs.declared.nnf.Nnf.{Nnf}
use Rattle.nnf_trees.specs.Nnfs.{nnf_of, nnfs_of, AreProper}
use Rattle.nnf_trees.proofs.Counting.{drop_at}
use Rattle.nnf_trees.proofs.Pieces.{Formulas_of, lists_joined, append_none, append_thrice, itself_proper}
use Rattle.plain_samples.proofs.copying.+copied.Goals as goal

-- one copy more
one_more : (made made2 : List Nnf) (g : Nnf) (f : Tree) (rest all : Trees) → append (Formulas_of made) (also f rest) ≡ all → nnf_of g ≡ f → made2 ≡ made ++ g ∷ [] → append (Formulas_of made2) rest ≡ all
one_more made made2 g f rest all h e m =
    ap (λ xs. append (Formulas_of xs) rest) m ∙ ap (λ fs. append fs rest) (lists_joined made (g ∷ [])) ∙ append_thrice (Formulas_of made) (also (nnf_of g) none) rest
    ∙ ap (λ x. append (Formulas_of made) (also x rest)) e ∙ h

all_are_copied : (made : List Nnf) (rest all : Trees) → append (Formulas_of made) rest ≡ all → rest ≡ none → Formulas_of made ≡ all
all_are_copied made rest all h e = sym (append_none (Formulas_of made)) ∙ ap (append (Formulas_of made)) (sym e) ∙ h

pub all_copied-loop-f-init : goal.all_copied-loop-f-init
all_copied-loop-f-init t c = record {
  left = ap (λ (xs : List Nnf). append (Formulas_of xs) (members (map nnf_of c.items-f-items.result.now))) c.new-made.ensures.items ∙ sym c.items-f-items.ensures.formulas;
  small = subst (λ fs. all_nodes fs ≤ all_nodes (nnfs_of c.args.fs.now)) c.items-f-items.ensures.formulas (omega arith);
  made = subst AreProper (sym c.new-made.ensures.items) tt;
  rest = subst (EveryOf IsWellFormed) c.items-f-items.ensures.atoms c.requires;
}

pub all_copied-loop-f-preserved : goal.all_copied-loop-f-preserved
all_copied-loop-f-preserved t c =
    let split = drop_at c.items-f-items.result.now c.loop-f.f-index c.f-item.result c.loop-f-test.true c.f-item.is in
    let rest = drop (c.loop-f.f-index + 1) c.items-f-items.result.now in
    let parts : AreProper (c.f-item.result ∷ rest) = subst AreProper split c.loop-f.invariant.rest in
    let few : nodes (nnf_of c.f-item.result) + all_nodes (members (map nnf_of rest)) ≤ all_nodes (nnfs_of c.args.fs.now)
    = subst (λ (xs : List Nnf). all_nodes (members (map nnf_of xs)) ≤ all_nodes (nnfs_of c.args.fs.now)) split c.loop-f.invariant.small in
    record {
      left = one_more c.loop-f.made.items c.push.new.self.items c.in_ok-copied.field-0 (nnf_of c.f-item.result) (members (map nnf_of rest)) (nnfs_of c.args.fs.now)
          (subst (λ (xs : List Nnf). append (Formulas_of c.loop-f.made.items) (members (map nnf_of xs)) ≡ nnfs_of c.args.fs.now) split c.loop-f.invariant.left)
          c.in_ok-copied.ensures.formula c.in_ok-push.ensures.items;
      small = omega (arith, few);
      made = itself_proper c.in_ok-copied.field-0 c.loop-f.made.items c.push.new.self.items c.loop-f.invariant.made c.in_ok-copied.ensures.proper c.in_ok-push.ensures.items;
      rest = parts.1;
    }

pub all_copied-returns-clause-formulas : goal.all_copied-returns-clause-formulas
all_copied-returns-clause-formulas t c =
    c.of.ensures.formulas ∙ all_are_copied c.loop-f.made.items (members (map nnf_of (drop c.loop-f.f-index c.items-f-items.result.now))) (nnfs_of c.args.fs.now) c.loop-f.invariant.left
    (at_drop_all (λ (xs : List Nnf). members (map nnf_of xs)) c.items-f-items.result.now c.loop-f.f-index c.loop-f-test.false)
