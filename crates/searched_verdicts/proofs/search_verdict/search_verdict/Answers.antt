use Rattle.std.proofs.Common.{◌≡◌, map, Option, IfSome, sym, ◌∙◌, subst}
use Rattle.std.specs.declared.vec.Vec.{Vec}
use Rattle.std.specs.declared.alloc.Global.{Global}
use Rattle.exact_numbers.specs.Fraction.{frac_of}
use Rattle.exact_numbers.specs.declared.fraction.Fraction.{Fraction}
use Rattle.logic_meaning.specs.Tree.{Tree, TrueAt}
use Rattle.normal_atoms.specs.Atoms.{context_of}
use Rattle.formula_tree.specs.FromLinearForms.{point_of}
use Rattle.formula_store.specs.Nodes.{tree}
use Rattle.clause_search.specs.Found.{IsFound}
use Rattle.searched_verdicts.specs.Witnesses.{lowest_from}
use Rattle.searched_verdicts.proofs.Settling.{form_free, form_whole, nowhere_settles, point_settles}
use Rattle.searched_verdicts.proofs.search_verdict.search_verdict.Goals as goal

pub search-requires-clause-free : goal.search-requires-clause-free
search-requires-clause-free c =
    let s = c.args.store.now in
    form_free (context_of c.args.context) c.args.count (tree s c.args.id) (tree s c.in-Some.matrix) c.requires.normal c.in-Some.ensures.under (tree c.normal_form.new.store c.in_ok-form.form) c.in_ok-form.ensures.made.same
    (sym c.facts.ensures.facts.quantified_is ∙ c.if-facts.false)

pub search-requires-clause-whole : goal.search-requires-clause-whole
search-requires-clause-whole c =
    let s = c.args.store.now in
    form_whole (context_of c.args.context) c.args.count (tree s c.args.id) (tree s c.in-Some.matrix) c.requires.normal c.in-Some.ensures.under (tree c.normal_form.new.store c.in_ok-form.form) c.in_ok-form.ensures.made.same
    c.requires.leading.0 c.requires.leading.1

pub returns-in-Some-2-clause-settles : goal.returns-in-Some-2-clause-settles
returns-in-Some-2-clause-settles c =
    let o = context_of c.args.context in
    let s = c.args.store.now in
    let g = tree c.normal_form.new.store c.in_ok-form.form in
    let at = c.in-Point.values in
    let found = subst (IsFound o g) c.in-Point.is c.in_ok-values.ensures in
    point_settles o c.args.count (tree s c.args.id) (tree s c.in-Some.matrix) c.requires.normal c.in-Some.ensures.under c.requires.closed at c.in_ok-witnesses-in-Point.ensures.positive found.0
    (subst (λ (h : Tree). TrueAt o h (point_of at)) c.in_ok-form.ensures.made.same found.1) c.in-Some-2.witnesses
    (subst (λ (w : Option (Vec Fraction Global)). IfSome w (λ v. map frac_of v.items ≡ lowest_from at 0 c.args.count)) c.in-Some-2.is c.in_ok-witnesses-in-Point.ensures.values)

pub returns-in-Nowhere-clause-settles : goal.returns-in-Nowhere-clause-settles
returns-in-Nowhere-clause-settles c =
    let o = context_of c.args.context in
    let s = c.args.store.now in
    let g = tree c.normal_form.new.store c.in_ok-form.form in
    let found = subst (IsFound o g) c.in-Nowhere.is c.in_ok-values.ensures in
    nowhere_settles o c.args.count (tree s c.args.id) (tree s c.in-Some.matrix) c.requires.normal c.in-Some.ensures.under (λ p of t. found p of (subst (λ (h : Tree). TrueAt o h p) (sym c.in_ok-form.ensures.made.same) t))
