use Rattle.std.proofs.Common.{◌≡◌, ℕ, [], nat_eq, if◌then◌else◌}
use Rattle.std.proofs.lemmas.Int.{to_z-of_z}
use Rattle.exact_numbers.proofs.Casts.{fits}
use Rattle.exact_numbers.specs.Fraction.{frac_of}
use Rattle.formula_store.specs.Nodes.{tree}
use Rattle.linear_forms.specs.Values.{number_at, point_of}
use Rattle.constraint_queries.proofs.FoundSteps.{value_point, value_there, sample_found, sample_is_there, sample_stops}
use Rattle.constraint_queries.proofs.found.attained.Goals as goal

pub sample-requires-clause-point : goal.sample-requires-clause-point
sample-requires-clause-point g c _ _ =
    let fn = fits c.args.least.numerator c.args.least.numerator_within in
    let fd = fits c.args.least.denominator c.args.least.denominator_within in
    let start : c.new-values.result ≡ record { entries = []; denominator = c.args.least.denominator } = simp to_z-of_z at c.new-values.ensures in
    let put : (x : ℕ) → number_at c.put.new.self x ≡ (if nat_eq c.args.target.number x then c.args.least.numerator else number_at c.new-values.result x) = simp to_z-of_z at c.in_default.ensures.put in
    let same = value_point c.args.target.number (frac_of c.args.least) c.new-values.result c.put.new.self start put c.in_default.ensures.denominator in
    value_there c.args.target.number (tree c.args.state.now.store c.args.problem) (frac_of c.args.least) c.requires.least (point_of c.put.new.self) same c.args.state.now.context c.engine-engine.result.context c.engine-engine.ensures.context c.requires.theory

pub returns-in-Ok-Some-clause-found : goal.returns-in-Ok-Some-clause-found
returns-in-Ok-Some-clause-found g c =
    let fn = fits c.args.least.numerator c.args.least.numerator_within in
    let fd = fits c.args.least.denominator c.args.least.denominator_within in
    let start : c.new-values.result ≡ record { entries = []; denominator = c.args.least.denominator } = simp to_z-of_z at c.new-values.ensures in
    let put : (x : ℕ) → number_at c.put.new.self x ≡ (if nat_eq c.args.target.number x then c.args.least.numerator else number_at c.new-values.result x) = simp to_z-of_z at c.in_default.ensures.put in
    let same = value_point c.args.target.number (frac_of c.args.least) c.new-values.result c.put.new.self start put c.in_default.ensures.denominator in
    sample_found c.args.target.number (tree c.args.state.now.store c.args.problem) (frac_of c.args.least) c.requires.least (point_of c.put.new.self) same c.args.state.now.context c.engine-engine.result.context c.engine-engine.ensures.context c.requires.theory
    c.in-Ok-Some.field-0 c.in-Ok-Some.sample c.in-Ok-Some.field-0-is c.in-Ok-Some.ensures.truth

pub unreachable-requires : goal.unreachable-requires
unreachable-requires g c =
    let fn = fits c.args.least.numerator c.args.least.numerator_within in
    let fd = fits c.args.least.denominator c.args.least.denominator_within in
    let start : c.new-values.result ≡ record { entries = []; denominator = c.args.least.denominator } = simp to_z-of_z at c.new-values.ensures in
    let put : (x : ℕ) → number_at c.put.new.self x ≡ (if nat_eq c.args.target.number x then c.args.least.numerator else number_at c.new-values.result x) = simp to_z-of_z at c.in_default.ensures.put in
    let same = value_point c.args.target.number (frac_of c.args.least) c.new-values.result c.put.new.self start put c.in_default.ensures.denominator in
    sample_is_there c.args.target.number (tree c.args.state.now.store c.args.problem) (frac_of c.args.least) c.requires.least (point_of c.put.new.self) same c.args.state.now.context c.engine-engine.result.context c.engine-engine.ensures.context c.requires.theory
    c.requires.weak c.requires.normal c.in-Ok-None.field-0 c.in-Ok-None.field-0-is c.in-Ok-None.ensures.truth

pub returns-clause-stopped : goal.returns-clause-stopped
returns-clause-stopped g c =
    let fn = fits c.args.least.numerator c.args.least.numerator_within in
    let fd = fits c.args.least.denominator c.args.least.denominator_within in
    let start : c.new-values.result ≡ record { entries = []; denominator = c.args.least.denominator } = simp to_z-of_z at c.new-values.ensures in
    let put : (x : ℕ) → number_at c.put.new.self x ≡ (if nat_eq c.args.target.number x then c.args.least.numerator else number_at c.new-values.result x) = simp to_z-of_z at c.in_default.ensures.put in
    let same = value_point c.args.target.number (frac_of c.args.least) c.new-values.result c.put.new.self start put c.in_default.ensures.denominator in
    sample_stops c.args.target.number (tree c.args.state.now.store c.args.problem) (frac_of c.args.least) c.requires.least (point_of c.put.new.self) same c.args.state.now.context c.engine-engine.result.context c.engine-engine.ensures.context c.requires.theory
    c.args.workshop.now.limits c.engine-engine.result.limits c.engine-engine.ensures.limits c.in-Err-sample.error c.in-Err-sample.ensures.stops c.measured_refusal.result c.measured_refusal.ensures
