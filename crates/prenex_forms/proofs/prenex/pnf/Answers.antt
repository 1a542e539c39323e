use Rattle.std.proofs.Common.{rules, ◌≡◌, ◌<◌, ℕ, length, sym, ◌∙◌, subst, nat_eq}
use Rattle.logic_meaning.specs.Shape.{is_in}
use Rattle.logic_meaning.specs.Tree.{Tree, IsFree, tree_names}
use Rattle.normal_atoms.specs.Atoms.{context_of}
use Rattle.formula_store.specs.Nodes.{tree}
use Rattle.formula_store.proofs.Makes.{keeps_then}
use Rattle.nnf_trees.specs.Nnfs.{nnf_of}
use Rattle.formula_laws.specs.Within.{IsTreeWithin}
use Rattle.logic_meaning.specs.NewNames.{AddsNewNames}
use Rattle.logic_meaning.specs.Renaming.{new_count}
use Rattle.shape_theory.proofs.Whole.{free_below}
use Rattle.prenex_forms.specs.Chosen.{flag, CanRename, IsRenamed, Overflows}
use Rattle.prenex_forms.specs.NegationForm.{negation_form}
use Rattle.prenex_forms.proofs.Finished.{has_prenex_form, ready, whole_is, new_names, fits_whole, overflows_whole, finished, length_more}
use Rattle.prenex_forms.proofs.prenex.pnf.Goals as goal

pub start-requires : goal.start-requires
start-requires c =
    let n = length c.args.names.now in
    let f = tree c.args.store.now c.args.id in
    let h = has_prenex_form (context_of c.args.context) n f c.requires.normal c.requires.named in
    λ x t. subst (λ (k : ℕ). x < k) (sym c.count.ensures) (free_below n (negation_form f) x h.named.atoms (subst (λ (g : Tree). IsFree g x) c.in_ok-form.ensures.form t))

pub renamed-requires-clause-ready : goal.renamed-requires-clause-ready
renamed-requires-clause-ready c =
    let o = context_of c.args.context in
    let n = length c.args.names.now in
    let f = tree c.args.store.now c.args.id in
    let s = c.in_ok-chooser.chooser in
    let e = c.in_ok-form.ensures.form in
    let h = has_prenex_form o n f c.requires.normal c.requires.named in
    let taken = subst (λ (g : Tree). (x : ℕ) → flag s.taken.items x ≡ is_in nat_eq x (tree_names g)) e c.in_ok-chooser.ensures.taken in
    subst (λ (g : Tree). CanRename o s g) (sym e) (ready o n (negation_form f) s h taken c.in_ok-chooser.ensures.made c.in_ok-chooser.ensures.now (c.in_ok-chooser.ensures.count ∙ c.count.ensures))

pub returns-in-Err-Overflow-clause-overflow : goal.returns-in-Err-Overflow-clause-overflow
returns-in-Err-Overflow-clause-overflow c =
    let o = context_of c.args.context in
    let n = length c.args.names.now in
    let f = tree c.args.store.now c.args.id in
    let s = c.in_ok-chooser.chooser in
    let e = c.in_ok-form.ensures.form in
    let h = has_prenex_form o n f c.requires.normal c.requires.named in
    let taken = subst (λ (g : Tree). (x : ℕ) → flag s.taken.items x ≡ is_in nat_eq x (tree_names g)) e c.in_ok-chooser.ensures.taken in
    let passes : Overflows o s (nnf_of c.in_ok-form.form) = search rules in
    λ _. (
      c.in_ok-form.ensures.small,
      overflows_whole o n (negation_form f) s h taken c.in_ok-chooser.ensures.made c.in_ok-chooser.ensures.now (c.in_ok-chooser.ensures.count ∙ c.count.ensures)
          (subst (λ (g : Tree). Overflows o s g) e passes),
    )

pub returns-in_err-made-clause-kept : goal.returns-in_err-made-clause-kept
returns-in_err-made-clause-kept c = keeps_then c.args.store.now c.unfolded_form.new.store c.in_front.new.store c.unfolded_form.ensures.kept c.in_front.ensures.kept

pub returns-in_err-add_new_names-clause-kept : goal.returns-in_err-add_new_names-clause-kept
returns-in_err-add_new_names-clause-kept c = keeps_then c.args.store.now c.unfolded_form.new.store c.in_front.new.store c.unfolded_form.ensures.kept c.in_front.ensures.kept

pub returns-clause-made : goal.returns-clause-made
returns-clause-made c =
    let o = context_of c.args.context in
    let n = length c.args.names.now in
    let f = tree c.args.store.now c.args.id in
    let s = c.in_ok-chooser.chooser in
    let e = c.in_ok-form.ensures.form in
    let h = has_prenex_form o n f c.requires.normal c.requires.named in
    let taken = subst (λ (g : Tree). (x : ℕ) → flag s.taken.items x ≡ is_in nat_eq x (tree_names g)) e c.in_ok-chooser.ensures.taken in
    let r = subst (λ (g : Tree). IsRenamed o s g (nnf_of c.in-Ok.named) c.renamed.new.chooser) e c.in-Ok.ensures.made in
    record {
      is = c.in_ok-made.ensures.made.is;
      same = c.in_ok-made.ensures.made.same ∙ whole_is o n (negation_form f) s h taken c.in_ok-chooser.ensures.made c.in_ok-chooser.ensures.now (c.in_ok-chooser.ensures.count ∙ c.count.ensures) (nnf_of c.in-Ok.named) c.renamed.new.chooser r;
    }

pub returns-clause-names : goal.returns-clause-names
returns-clause-names c =
    let o = context_of c.args.context in
    let n = length c.args.names.now in
    let f = tree c.args.store.now c.args.id in
    let s = c.in_ok-chooser.chooser in
    let e = c.in_ok-form.ensures.form in
    let h = has_prenex_form o n f c.requires.normal c.requires.named in
    let taken = subst (λ (g : Tree). (x : ℕ) → flag s.taken.items x ≡ is_in nat_eq x (tree_names g)) e c.in_ok-chooser.ensures.taken in
    let r = subst (λ (g : Tree). IsRenamed o s g (nnf_of c.in-Ok.named) c.renamed.new.chooser) e c.in-Ok.ensures.made in
    subst (λ (k : ℕ). AddsNewNames c.args.names.now k c.add_new_names.new.names)
    (new_names o n (negation_form f) s h taken c.in_ok-chooser.ensures.made c.in_ok-chooser.ensures.now (c.in_ok-chooser.ensures.count ∙ c.count.ensures) (nnf_of c.in-Ok.named) c.renamed.new.chooser r) c.in_ok-add_new_names.ensures.added

pub returns-clause-named : goal.returns-clause-named
returns-clause-named c =
    let o = context_of c.args.context in
    let n = length c.args.names.now in
    let f = tree c.args.store.now c.args.id in
    let m = returns-clause-made c in
    let added = returns-clause-names c in
    subst (λ (k : ℕ). IsTreeWithin k (tree c.in_front.new.store c.in_ok-made.made)) (sym (length_more (new_count n (negation_form f)) c.args.names.now c.add_new_names.new.names added))
    (finished o n f (tree c.in_front.new.store c.in_ok-made.made) c.requires.normal c.requires.named m.same).named

pub returns-clause-prenex : goal.returns-clause-prenex
returns-clause-prenex c =
    let m = returns-clause-made c in
    (finished (context_of c.args.context) (length c.args.names.now) (tree c.args.store.now c.args.id) (tree c.in_front.new.store c.in_ok-made.made) c.requires.normal c.requires.named m.same).prenex

pub returns-clause-fewest : goal.returns-clause-fewest
returns-clause-fewest c =
    let m = returns-clause-made c in
    (finished (context_of c.args.context) (length c.args.names.now) (tree c.args.store.now c.args.id) (tree c.in_front.new.store c.in_ok-made.made) c.requires.normal c.requires.named m.same).fewest

pub returns-clause-truth : goal.returns-clause-truth
returns-clause-truth c =
    let m = returns-clause-made c in
    (finished (context_of c.args.context) (length c.args.names.now) (tree c.args.store.now c.args.id) (tree c.in_front.new.store c.in_ok-made.made) c.requires.normal c.requires.named m.same).truth

pub returns-clause-free : goal.returns-clause-free
returns-clause-free c =
    let m = returns-clause-made c in
    (finished (context_of c.args.context) (length c.args.names.now) (tree c.args.store.now c.args.id) (tree c.in_front.new.store c.in_ok-made.made) c.requires.normal c.requires.named m.same).free

pub returns-clause-normal : goal.returns-clause-normal
returns-clause-normal c =
    let m = returns-clause-made c in
    (finished (context_of c.args.context) (length c.args.names.now) (tree c.args.store.now c.args.id) (tree c.in_front.new.store c.in_ok-made.made) c.requires.normal c.requires.named m.same).normal

pub returns-clause-fits : goal.returns-clause-fits
returns-clause-fits c =
    let o = context_of c.args.context in
    let n = length c.args.names.now in
    let f = tree c.args.store.now c.args.id in
    let s = c.in_ok-chooser.chooser in
    let e = c.in_ok-form.ensures.form in
    let h = has_prenex_form o n f c.requires.normal c.requires.named in
    let taken = subst (λ (g : Tree). (x : ℕ) → flag s.taken.items x ≡ is_in nat_eq x (tree_names g)) e c.in_ok-chooser.ensures.taken in
    let r = subst (λ (g : Tree). IsRenamed o s g (nnf_of c.in-Ok.named) c.renamed.new.chooser) e c.in-Ok.ensures.made in
    fits_whole o n (negation_form f) s h taken c.in_ok-chooser.ensures.made c.in_ok-chooser.ensures.now (c.in_ok-chooser.ensures.count ∙ c.count.ensures) (nnf_of c.in-Ok.named) c.renamed.new.chooser r

pub returns-clause-kept : goal.returns-clause-kept
returns-clause-kept c = keeps_then c.args.store.now c.unfolded_form.new.store c.in_front.new.store c.unfolded_form.ensures.kept c.in_front.ensures.kept
