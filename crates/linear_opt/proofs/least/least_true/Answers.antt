use Rattle.std.proofs.Common.{[], ◌∷◌, refl, arith}
use Rattle.std.specs.Prelude.{option_map}
use Rattle.exact_numbers.specs.Fraction.{frac_of}
use Rattle.formula_store.proofs.Before.{each_id}
use Rattle.linear_opt.proofs.Listed.{found_more, found_last}
use Rattle.linear_opt.proofs.least.least_true.Goals as goal

pub shape-shape-requires : goal.shape-shape-requires
shape-shape-requires c =
    let f = c.args.formula.now in
    each_id f.store.now c.requires.id.are (f.root ∷ []) f.ids.now c.requires.order (c.requires.id, tt) c.loop-id.id-index (record { number = 0 }) c.loop-id-test.true

pub loop-id-init : goal.loop-id-init
loop-id-init c = refl

pub loop-id-preserved : goal.loop-id-preserved
loop-id-preserved c =
    let f = c.args.formula.now in
    found_more f.store.now f.root f.ids.now c.requires.id c.requires.order c.args.z.number c.loop-id.id-index (record { number = 0 }) c.shape-shape.result.now (option_map frac_of c.loop-id.least) (option_map frac_of c.in_ok-least.least) c.loop-id-test.true
    c.shape-shape.ensures.tree c.in_ok-least.ensures c.loop-id.invariant

pub returns : goal.returns
returns c =
    let f = c.args.formula.now in
    found_last f.store.now f.root f.ids.now c.requires.id c.requires.order c.args.z.number c.loop-id.id-index (option_map frac_of c.loop-id.least) (omega arith) c.loop-id.invariant
