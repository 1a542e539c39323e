use Rattle.std.proofs.Common.{length, arith, ap, ◌∙◌}
use Rattle.formula_store.specs.Nodes.{tree}
use Rattle.engine_answers.proofs.Chains.{next_length, next_block, next_matrix, last_length, last_block, last_matrix, end_block, end_matrix, numbers}
use Rattle.engine_answers.proofs.chain.split.Goals.{in-Some+in_ok-insert+then-not-branch, in_default}
use Rattle.engine_answers.proofs.chain.split.Goals as goal

pub loop-name-preserved : goal.loop-name-preserved
loop-name-preserved c =
    let t = tree c.args.store.now in
    let e = c.in_ok-insert.ensures in
    record {
      is = c.in-Some.ensures.is;
      below = (let longer = next_length c.args.quantifier c.in-Some.name c.loop-name.names.keys c.insert.new.self.keys (t c.loop-name.inner) (t c.in-Some.body) c.in-Some.ensures.same c.in_ok-insert.field-0 e.keys e.added c.if-not-branch.false in
          let under = c.in-Some.ensures.below in let before = c.loop-name.invariant.below in omega (arith, longer, under, before));
      chain = next_block c.args.quantifier c.in-Some.name c.loop-name.names.keys c.insert.new.self.keys (t c.loop-name.inner) (t c.in-Some.body) c.in-Some.ensures.same c.in_ok-insert.field-0 e.keys e.added c.if-not-branch.false
          ∙ c.loop-name.invariant.chain;
      matrix = next_matrix c.args.quantifier c.in-Some.name c.loop-name.names.keys c.insert.new.self.keys (t c.loop-name.inner) (t c.in-Some.body) c.in-Some.ensures.same c.in_ok-insert.field-0 e.keys e.added c.if-not-branch.false
          ∙ c.loop-name.invariant.matrix;
    }

pub returns-clause-below : goal.returns-clause-below
returns-clause-below c =
    let q = c.args.quantifier in
    let keys = c.loop-name.names.keys in
    let inner = tree c.args.store.now c.loop-name.inner in
    let i = c.loop-name.invariant.below in
    elim c.match-under.branch [
      | in-Some+in_ok-insert+then-not-branch w ↦
          let e = w.in_ok-insert.ensures in
          let same = last_length q w.in-Some.name keys w.insert.new.self.keys inner (tree c.args.store.now w.in-Some.body) w.in-Some.ensures.same w.in_ok-insert.field-0 e.keys e.added w.if-not-branch.true in
          let now = ap (λ s. length s.keys) w.names-is in
          omega (arith, i, same, now)
      | in_default w ↦ let now = ap (λ s. length s.keys) w.names-is in omega (arith, i, now)
    ]

pub returns-clause-split : goal.returns-clause-split
returns-clause-split c =
    let q = c.args.quantifier in
    let keys = c.loop-name.names.keys in
    let inner = tree c.args.store.now c.loop-name.inner in
    let i = c.loop-name.invariant in
    elim c.match-under.branch [
      | in-Some+in_ok-insert+then-not-branch w ↦
          let e = w.in_ok-insert.ensures in
          let new = w.insert.new.self.keys in
          let body = tree c.args.store.now w.in-Some.body in
          record {
            chain = ap (λ s. numbers s.keys) w.names-is ∙ last_block q w.in-Some.name keys new inner body w.in-Some.ensures.same w.in_ok-insert.field-0 e.keys e.added w.if-not-branch.true ∙ i.chain;
            is = i.is;
            matrix = last_matrix q w.in-Some.name keys new inner body w.in-Some.ensures.same w.in_ok-insert.field-0 e.keys e.added w.if-not-branch.true ∙ i.matrix;
          }
      | in_default w ↦ record {
        chain = ap (λ s. numbers s.keys) w.names-is ∙ end_block q keys inner w.in_default.ensures ∙ i.chain;
        is = i.is;
        matrix = end_matrix q keys inner w.in_default.ensures ∙ i.matrix;
      }
    ]
