use Rattle.std.proofs.Common.{rules, ◌≡◌, Bool, Vec, Global, ap, ◌∙◌, ℕ}
use Rattle.std.specs.Prelude.{IfOk, flat_map}
use Rattle.std.specs.Int.{div_ceil}
use Rattle.std.proofs.lemmas.Result.{IfOk-weaker}
use Rattle.formula_store.specs.Nodes.{tree}
use Rattle.program_meaning.specs.Scales.{size}
use Rattle.program_meaning.specs.Frames.{points_of}
use Rattle.point_grid.specs.Truths.{Task, IsTruthList}
use Rattle.point_grid.proofs.Pieces.{all_truths}
use Rattle.point_grid.proofs.truths.grid_truth.Goals as goal

as_many : (n len all : ℕ) → n ≡ div_ceil len 1000 → len ≡ all → n ≡ div_ceil all 1000
as_many n len all e f = e ∙ ap (λ (m : ℕ). div_ceil m 1000) f

pub returns-in-Ok-clause-truths : goal.returns-in-Ok-clause-truths
returns-in-Ok-clause-truths g c =
    let task : Task = record { nodes = c.args.store.now; root = c.args.id; grid = c.args.grid.now } in
    let runs = c.in-Ok.runs.items in
    let count = as_many c.div_ceil.result c.len.result (size c.args.grid.now.scales) c.div_ceil.ensures c.len.ensures in
    let h : IfOk c.map_err.result (λ truths. truths.items ≡ flat_map (λ run. run.items) runs) = search rules in
    IfOk-weaker c.map_err.result (λ (truths : Vec Bool Global). truths.items ≡ flat_map (λ (run : Vec Bool Global). run.items) runs) (λ (truths : Vec Bool Global). IsTruthList (tree task.nodes task.root) (points_of task.grid) truths.items)
    (λ truths e. all_truths task runs c.div_ceil.result truths.items count c.in-Ok.ensures e) h
