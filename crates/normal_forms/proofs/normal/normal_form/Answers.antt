use Rattle.std.proofs.Common.{◌≤◌, ℕ, ◌∙◌, sym, subst}
use Rattle.logic_meaning.specs.Sizes.{nodes}
use Rattle.logic_meaning.specs.Tree.{Tree, IsFree}
use Rattle.formula_laws.specs.Equivalence.{Equivalent}
use Rattle.normal_atoms.specs.Atoms.{context_of}
use Rattle.formula_store.specs.Nodes.{tree}
use Rattle.shape_theory.specs.Simplifiable.{IsSimplifiable}
use Rattle.shape_theory.proofs.Limited.{simplifiable}
use Rattle.formula_store.proofs.Numbers.{numbers_are_within}
use Rattle.logic_meaning.specs.PlainForms.{plain_form}
use Rattle.logic_meaning.specs.Clean.{IsCleanForm}
use Rattle.shape_theory.specs.CleanFormsLaws.{IsDistributable, IsNoLonger}
use Rattle.shape_theory.proofs.CleanFormsTreeLaws.{is_clean, keeps_truth, keeps_shape, brings_no_name, brings_no_node, lengthens_no_text}
use Rattle.normal_forms.proofs.Grown.{keeps_then}
use Rattle.normal_forms.proofs.Formed.{free_told, clean_made, few_places}
use Rattle.normal_forms.proofs.normal.normal_form.Goals as goal

pub formula_lines-requires-clause-distributable : goal.formula_lines-requires-clause-distributable
formula_lines-requires-clause-distributable c = record { orderly = simplifiable (context_of c.args.context) (tree c.args.store.now c.args.id) c.requires.orderly (numbers_are_within c.args.store.now c.args.id c.requires.id); free = free_told (tree c.args.store.now c.args.id) (sym c.facts.ensures.facts.quantified_is ∙ c.if-facts.false) }

pub returns-then-limit-places-clause-nodes : goal.returns-then-limit-places-clause-nodes
returns-then-limit-places-clause-nodes c e =
    let f : Tree = tree c.args.store.now c.args.id in
    let d : IsDistributable (context_of c.args.context) f = record { orderly = simplifiable (context_of c.args.context) (tree c.args.store.now c.args.id) c.requires.orderly (numbers_are_within c.args.store.now c.args.id c.requires.id); free = free_told f (sym c.facts.ensures.facts.quantified_is ∙ c.if-facts.false) } in
    let same = c.table_sizes-places.ensures ∙ c.in_ok-table.ensures.told.told c.args.id c.in_ok-table.ensures.there in
    (few_places (context_of c.args.context) c.args.inner f c.table_sizes-places.result d same c.args.limit).0 c.if-limit-places.true

pub returns-clause-limited : goal.returns-clause-limited
returns-clause-limited c =
    let f : Tree = tree c.args.store.now c.args.id in
    let d : IsDistributable (context_of c.args.context) f = record { orderly = simplifiable (context_of c.args.context) (tree c.args.store.now c.args.id) c.requires.orderly (numbers_are_within c.args.store.now c.args.id c.requires.id); free = free_told f (sym c.facts.ensures.facts.quantified_is ∙ c.if-facts.false) } in
    let same = c.table_sizes-places.ensures ∙ c.in_ok-table.ensures.told.told c.args.id c.in_ok-table.ensures.there in
    (few_places (context_of c.args.context) c.args.inner f c.table_sizes-places.result d same c.args.limit).1 c.if-limit-places.false c.if-places.false

pub returns-clause-kept : goal.returns-clause-kept
returns-clause-kept c = keeps_then c.args.store.now c.formula_lines.new.store c.lines_form.new.store c.formula_lines.ensures.kept c.lines_form.ensures.kept

pub returns-clause-clean : goal.returns-clause-clean
returns-clause-clean c =
    let ctx = context_of c.args.context in
    let j = c.args.inner in
    let f : Tree = tree c.args.store.now c.args.id in
    let new = c.lines_form.new.store in
    let mid = c.formula_lines.new.store in
    let d : IsDistributable (context_of c.args.context) (tree c.args.store.now c.args.id) = record { orderly = simplifiable (context_of c.args.context) (tree c.args.store.now c.args.id) c.requires.orderly (numbers_are_within c.args.store.now c.args.id c.requires.id); free = free_told (tree c.args.store.now c.args.id) (sym c.facts.ensures.facts.quantified_is ∙ c.if-facts.false) } in
    subst (λ (g : Tree). IsCleanForm ctx j g) (clean_made ctx j f mid new c.in_ok-lines.lines.items c.in_ok-lines_form.field-0 c.in_ok-lines.ensures.lines c.in_ok-lines_form.ensures.made) (is_clean ctx j f d)

pub returns-clause-truth : goal.returns-clause-truth
returns-clause-truth c =
    let ctx = context_of c.args.context in
    let j = c.args.inner in
    let f : Tree = tree c.args.store.now c.args.id in
    let new = c.lines_form.new.store in
    let mid = c.formula_lines.new.store in
    let d : IsDistributable (context_of c.args.context) (tree c.args.store.now c.args.id) = record { orderly = simplifiable (context_of c.args.context) (tree c.args.store.now c.args.id) c.requires.orderly (numbers_are_within c.args.store.now c.args.id c.requires.id); free = free_told (tree c.args.store.now c.args.id) (sym c.facts.ensures.facts.quantified_is ∙ c.if-facts.false) } in
    subst (λ (g : Tree). Equivalent ctx g f) (clean_made ctx j f mid new c.in_ok-lines.lines.items c.in_ok-lines_form.field-0 c.in_ok-lines.ensures.lines c.in_ok-lines_form.ensures.made) (keeps_truth ctx j f d)

pub returns-clause-names : goal.returns-clause-names
returns-clause-names c =
    let ctx = context_of c.args.context in
    let j = c.args.inner in
    let f : Tree = tree c.args.store.now c.args.id in
    let new = c.lines_form.new.store in
    let mid = c.formula_lines.new.store in
    let d : IsDistributable (context_of c.args.context) (tree c.args.store.now c.args.id) = record { orderly = simplifiable (context_of c.args.context) (tree c.args.store.now c.args.id) c.requires.orderly (numbers_are_within c.args.store.now c.args.id c.requires.id); free = free_told (tree c.args.store.now c.args.id) (sym c.facts.ensures.facts.quantified_is ∙ c.if-facts.false) } in
    subst (λ (g : Tree). (x : ℕ) → IsFree g x → IsFree f x) (clean_made ctx j f mid new c.in_ok-lines.lines.items c.in_ok-lines_form.field-0 c.in_ok-lines.ensures.lines c.in_ok-lines_form.ensures.made) (brings_no_name ctx j f d)

pub returns-clause-orderly : goal.returns-clause-orderly
returns-clause-orderly c =
    let ctx = context_of c.args.context in
    let j = c.args.inner in
    let f : Tree = tree c.args.store.now c.args.id in
    let new = c.lines_form.new.store in
    let mid = c.formula_lines.new.store in
    let d : IsDistributable (context_of c.args.context) (tree c.args.store.now c.args.id) = record { orderly = simplifiable (context_of c.args.context) (tree c.args.store.now c.args.id) c.requires.orderly (numbers_are_within c.args.store.now c.args.id c.requires.id); free = free_told (tree c.args.store.now c.args.id) (sym c.facts.ensures.facts.quantified_is ∙ c.if-facts.false) } in
    subst (λ (g : Tree). IsSimplifiable ctx g) (clean_made ctx j f mid new c.in_ok-lines.lines.items c.in_ok-lines_form.field-0 c.in_ok-lines.ensures.lines c.in_ok-lines_form.ensures.made) ((keeps_shape ctx j f d).orderly)

pub returns-clause-nodes_within : goal.returns-clause-nodes_within
returns-clause-nodes_within c =
    let ctx = context_of c.args.context in
    let j = c.args.inner in
    let f : Tree = tree c.args.store.now c.args.id in
    let new = c.lines_form.new.store in
    let mid = c.formula_lines.new.store in
    let d : IsDistributable (context_of c.args.context) (tree c.args.store.now c.args.id) = record { orderly = simplifiable (context_of c.args.context) (tree c.args.store.now c.args.id) c.requires.orderly (numbers_are_within c.args.store.now c.args.id c.requires.id); free = free_told (tree c.args.store.now c.args.id) (sym c.facts.ensures.facts.quantified_is ∙ c.if-facts.false) } in
    subst (λ (g : Tree). nodes g ≤ nodes (plain_form j f)) (clean_made ctx j f mid new c.in_ok-lines.lines.items c.in_ok-lines_form.field-0 c.in_ok-lines.ensures.lines c.in_ok-lines_form.ensures.made) (brings_no_node ctx j f d)

pub returns-clause-text_within : goal.returns-clause-text_within
returns-clause-text_within c =
    let ctx = context_of c.args.context in
    let j = c.args.inner in
    let f : Tree = tree c.args.store.now c.args.id in
    let new = c.lines_form.new.store in
    let mid = c.formula_lines.new.store in
    let d : IsDistributable (context_of c.args.context) (tree c.args.store.now c.args.id) = record { orderly = simplifiable (context_of c.args.context) (tree c.args.store.now c.args.id) c.requires.orderly (numbers_are_within c.args.store.now c.args.id c.requires.id); free = free_told (tree c.args.store.now c.args.id) (sym c.facts.ensures.facts.quantified_is ∙ c.if-facts.false) } in
    subst (λ (g : Tree). IsNoLonger g (plain_form j f) f) (clean_made ctx j f mid new c.in_ok-lines.lines.items c.in_ok-lines_form.field-0 c.in_ok-lines.ensures.lines c.in_ok-lines_form.ensures.made) (lengthens_no_text ctx j f d)

pub returns-in_err-lines_form-clause-kept : goal.returns-in_err-lines_form-clause-kept
returns-in_err-lines_form-clause-kept c = keeps_then c.args.store.now c.formula_lines.new.store c.lines_form.new.store c.formula_lines.ensures.kept c.lines_form.ensures.kept
