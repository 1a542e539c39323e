use Rattle.std.proofs.Common.{◌++◌, map, ap, ◌∙◌}
use Rattle.formula_store.specs.Nodes.{tree}
use Rattle.formula_store.proofs.Makes.{keeps_then}
use Rattle.engine_answers.proofs.Leading.{sign, names, turned_matrix}
use Rattle.engine_answers.proofs.block.leading_block.Goals as goal

pub returns-in_err-matrix-clause-kept : goal.returns-in_err-matrix-clause-kept
returns-in_err-matrix-clause-kept c = keeps_then c.args.store.now c.normal.new.store c.asked.new.store c.normal.ensures.kept c.asked.ensures.kept

pub returns-clause-block : goal.returns-clause-block
returns-clause-block c =
    let f = tree c.args.store.now c.args.id in
    let now = c.normal.new.store in
    let g = tree now c.in_ok-form.form in
    let q = c.leading-quantifier.result in
    let e = c.in_ok-form.ensures.made.same in
    let s = c.in_ok-chain.ensures.split in
    let m = c.in_ok-matrix.ensures.made in
    record {
      quantifier = sign f g e q c.leading-quantifier.ensures;
      names = names f g e q c.leading-quantifier.ensures (map (λ x. x.number) c.extend_from_slice.new.self.items) (ap (map (λ x. x.number)) (c.in_ok-extend_from_slice.ensures.items ∙ ap (λ xs. xs ++ c.as_slice.result.now) c.new-names.ensures.items ∙ c.as_slice.ensures.keys) ∙ s.chain);
      matrix = record { is = m.is; same = m.same ∙ turned_matrix f g e q c.leading-quantifier.ensures (tree now c.in_ok-chain.inner) s.matrix };
    }

pub returns-clause-kept : goal.returns-clause-kept
returns-clause-kept c = keeps_then c.args.store.now c.normal.new.store c.asked.new.store c.normal.ensures.kept c.asked.ensures.kept
