use Rattle.std.proofs.Common.{◌≡◌, ◌-◌, suc, ◌∷◌, drop, get_or, sym, ap, ◌∙◌, arith}
use Rattle.logic_meaning.specs.Front.{block, quantified}
use Rattle.formula_store.specs.Nodes.{tree}
use Rattle.formula_tree.specs.Shapes.{tree_over}
use Rattle.formula_store.proofs.Makes.{keeps_then}
use Rattle.prenex_forms.specs.declared.front.Place.{Place}
use Rattle.prenex_forms.specs.Places.{level_names}
use Rattle.prenex_forms.proofs.Gathered.{names_from, quantified_tree}
use Rattle.prenex_forms.proofs.prefix.with_block.Goals as goal

pub loop-left-preserved-then-place-level : goal.loop-left-preserved-then-place-level
loop-left-preserved-then-place-level c =
    let i = c.loop-left.left - 1 in
    let ps = c.args.places.now in
    let d : Place = record { level = 0; name = record { number = 0 } } in
    let before = c.loop-left.invariant in
    let within = before.within in
    let l = c.args.level in
    let q = c.args.quantifier in
    let p = get_or ps i d in
    let base = tree c.args.store.now c.args.id in
    let up : suc i ≡ c.loop-left.left = omega arith in
    let names : level_names l (drop i ps) ≡ p.name.number ∷ level_names l (drop c.loop-left.left ps) =
    names_from l i ps d (omega arith) c.if-place-level.true ∙ ap (λ k. p.name.number ∷ level_names l (drop k ps)) up in
    record {
      within = omega arith;
      is = c.in_ok-id.ensures.made.is;
      same = c.in_ok-id.ensures.made.same ∙ ap (tree_over (tree c.loop-left.store)) c.quantified.ensures ∙ quantified_tree (tree c.loop-left.store) c.args.quantifier p.name c.loop-left.id
          ∙ ap (quantified q p.name.number) before.same ∙ ap (λ xs. block q xs base) (sym names);
      kept = keeps_then c.args.store.now c.loop-left.store c.make.new.self before.kept c.in_ok-id.ensures.kept;
    }
