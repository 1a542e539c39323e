use Rattle.std.proofs.Common.{◌≡◌, ℕ, Bool, true, Ok, subst, sym, ◌≤◌, length}
use Rattle.std.specs.Prelude.{IfOk}
use Rattle.std.specs.Bool.{MatchBool}
use Rattle.std.specs.List.{AllByRecursion}
use Rattle.formula_store.specs.Nodes.{tree, IsId}
use Rattle.formula_resolving.specs.BoundIds.{answered_trees}
use Rattle.logic_meaning.specs.Names.{place}
use Rattle.language_meaning.specs.Holes.{command_count}
use Rattle.written_syntax.specs.CodeTrees.{inner_of}
use Rattle.language_meaning.specs.Resolving.{IsFreeInPlace}
use Rattle.language_meaning.specs.Entries.{HasEntryAt}
use Rattle.program_meaning.specs.Points.{HasUnvalued}
use Rattle.program_meaning.specs.State.{known}
use Rattle.session_state.specs.Keeping.{state_of}
use Rattle.session_state.specs.Scripted.{answered_tree}
use Rattle.point_queries.proofs.points.check_valued.Goals as goal

pub is_valued-requires-clause-ids : goal.is_valued-requires-clause-ids
is_valued-requires-clause-ids c = c.requires.ids.bound

pub is_valued-requires-clause-answers : goal.is_valued-requires-clause-answers
is_valued-requires-clause-answers c = subst (AllByRecursion (IsId c.args.state.now.store)) (sym c.deref.ensures.value) c.requires.ids.answers

pub is_valued-requires-clause-places : goal.is_valued-requires-clause-places
is_valued-requires-clause-places c = subst (λ ids. command_count (inner_of c.args.formula.now) ≤ length ids) (sym c.deref.ensures.value) c.requires.answers.places

-- each free name has an entry, so none has none
pub returns-in-Ok-true-clause-valued : goal.returns-in-Ok-true-clause-valued
returns-in-Ok-true-clause-valued c =
    let d = c.args.state.now in
    let number = place d.names in
    let f = answered_tree c.args.formula.now in
    let es = c.args.entries.now in
    let bound = known (state_of d) in
    let yes : c.is_valued.result ≡ Ok true = cc in
    let told : IfOk c.is_valued.result (λ (b : Bool). MatchBool b ((n : ℕ) → IsFreeInPlace bound number f n → HasEntryAt number es n) (HasUnvalued bound number f es)) =
    subst
    (λ ids. IfOk c.is_valued.result (λ (b : Bool). MatchBool b ((n : ℕ) → IsFreeInPlace (answered_trees (tree d.store) ids d.bindings) number f n → HasEntryAt number es n)
    (HasUnvalued (answered_trees (tree d.store) ids d.bindings) number f es)))
    c.deref.ensures.value c.is_valued.ensures in
    let each : (n : ℕ) → IsFreeInPlace bound number f n → HasEntryAt number es n =
    subst (λ r. IfOk r (λ (b : Bool). MatchBool b ((n : ℕ) → IsFreeInPlace bound number f n → HasEntryAt number es n) (HasUnvalued bound number f es))) yes told in
    λ h. h.2 (each h.0 h.1)
