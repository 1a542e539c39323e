use Rattle.std.proofs.Common.{Option, sym, subst}
use Rattle.std.specs.declared.vec.Vec.{Vec}
use Rattle.std.specs.declared.alloc.Global.{Global}
use Rattle.exact_numbers.specs.declared.fraction.Fraction.{Fraction}
use Rattle.logic_meaning.specs.Every.{Every}
use Rattle.normal_atoms.specs.Atoms.{context_of}
use Rattle.logic_meaning.specs.NormalForm.{IsNormal}
use Rattle.normal_atoms.proofs.Stepped.{ok_map}
use Rattle.elimination_theory.proofs.Sound.{normal_normal_tree}
use Rattle.logic_meaning.specs.declared.form.VarId.{VarId}
use Rattle.linear_forms.specs.Values.{point_of}
use Rattle.sample_reference.specs.Seen.{sample_of}
use Rattle.formula_tree.specs.Trees.{tree_of}
use Rattle.formula_store.specs.Nodes.{tree}
use Rattle.reference_engine.proofs.Seen.{stops_along}
use Rattle.engine_answers.proofs.Stops.{err_map}
use Rattle.engine_answers.proofs.EngineAnswersSampled.{true_along, sample_along, paid_stops}
use Rattle.engine_answers.proofs.reference_samples.plain_sample.Goals as goal

pub sample_at-requires-clause-normal : goal.sample_at-requires-clause-normal
sample_at-requires-clause-normal c =
    let o = context_of c.args.context in
    subst (Every (IsNormal o)) (sym c.in-Ok.ensures.form) (normal_normal_tree o c.args.limit (tree c.args.store.now c.args.id) c.requires.normal)

pub returns-in-Ok-clause-truth : goal.returns-in-Ok-clause-truth
returns-in-Ok-clause-truth c =
    ok_map c.sample_at.result
    (λ (o : Option (Vec (VarId × Fraction) Global)) h. true_along (context_of c.args.context) (point_of c.args.at.now) (tree c.args.store.now c.args.id) (tree_of c.in-Ok.form) c.in-Ok.ensures.form (sample_of o) h) c.sample_at.ensures.truth

pub returns-in-Ok-clause-stops : goal.returns-in-Ok-clause-stops
returns-in-Ok-clause-stops c =
    let along = sample_along (context_of c.args.context) c.args.limit (point_of c.args.at.now) (tree c.args.store.now c.args.id) (tree_of c.in-Ok.form) c.in-Ok.ensures.form in
    err_map c.sample_at.result (λ e h. stops_along e _ _ along h) c.sample_at.ensures.stops

pub returns-in-Err-clause-stops : goal.returns-in-Err-clause-stops
returns-in-Err-clause-stops c = paid_stops (context_of c.args.context) c.args.limit (point_of c.args.at.now) (tree c.args.store.now c.args.id) c.in-Err.error c.in-Err.ensures.stops
