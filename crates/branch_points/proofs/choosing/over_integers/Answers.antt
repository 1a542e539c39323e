use Rattle.std.proofs.Common.{rules, ◌≡◌, ℕ, ◌<◌, ◌≤◌, false, Err, map, ap, refl, inl, inr}
use Rattle.std.specs.Prelude.{IsTrue}
use Rattle.logic_meaning.specs.Limits.{each, place_within}
use Rattle.formula_laws.proofs.Listed.{among_some}
use Rattle.logic_meaning.specs.declared.side.Side.{Side}
use Rattle.logic_meaning.specs.IntegersPoints.{integer_points_of, integer_count_of}
use Rattle.logic_meaning.specs.declared.form.VarId.{VarId}
use Rattle.normal_atoms.specs.declared.atoms.Context.TheVariants.{Integers}
use Rattle.normal_atoms.specs.Atoms.{atom_of}
use Rattle.branch_points.specs.declared.error.ChoiceError.TheVariants.{Overflow}
use Rattle.branch_points.proofs.FewestPoints.{all_pass, each_count}
use Rattle.branch_points.proofs.choosing.over_integers.Goals as goal

pub returns-in_default-clause-overflow : goal.returns-in_default-clause-overflow
returns-in_default-clause-overflow c e =
    let atoms = map atom_of c.args.atoms.now in
    let passes = all_pass Integers atoms c.args.left.now c.in_default.ensures.least in
    record { integers = refl; passes = inl passes }

pub returns-then-not-is_within-clause-nodes : goal.returns-then-not-is_within-clause-nodes
returns-then-not-is_within-clause-nodes c e =
    let beyond : ¬ (IsTrue c.is_within.result) = search rules in
    each_count Integers (map atom_of c.args.atoms.now) (λ n. c.args.most < n) c.in-Some.fewest c.args.left.now (λ n h. c.is_within.ensures.beyond n beyond h) c.in-Some.ensures.least

pub returns-in-Ok-clause-chosen : goal.returns-in-Ok-clause-chosen
returns-in-Ok-clause-chosen c =
    let atoms = map atom_of c.args.atoms.now in
    let k = c.in-Some.fewest in
    let n : ℕ = integer_count_of k.side k.name.number atoms in
    let within : IsTrue c.is_within.result = search rules in
    record {
      listed = c.in-Some.ensures.found.0;
      points = c.in-Ok.ensures.well_formed;
      side = k.side;
      places = c.in-Ok.ensures.points;
      few = c.is_within.ensures.within n within c.in-Some.ensures.found.1.count;
      fewest = each_count Integers atoms (λ m. n ≤ m) k c.args.left.now (λ m h. c.is_within.ensures.exact n m within c.in-Some.ensures.found.1.count h) c.in-Some.ensures.least;
    }

pub returns-in-Err-clause-overflow : goal.returns-in-Err-clause-overflow
returns-in-Err-clause-overflow c e =
    let atoms = map atom_of c.args.atoms.now in
    let k = c.in-Some.fewest in
    let same : c.in-Err.error ≡ Overflow = (cc) in
    let o = c.in-Err.ensures.overflow (ap Err same) in
    let P : VarId → Type 0 = λ x. (side : Side) × (each place_within (integer_points_of side x.number atoms) ≡ false) in
    record { integers = refl; passes = inr (among_some P c.args.left.now k.name c.in-Some.ensures.found.0 (k.side, o)) }
