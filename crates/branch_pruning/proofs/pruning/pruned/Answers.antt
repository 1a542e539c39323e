use Rattle.std.proofs.Common.{map, ◌∙◌}
use Rattle.formula_store.proofs.Makes.{keeps_then}
use Rattle.normal_atoms.specs.Atoms.{context_of, atom_of}
use Rattle.normal_atoms.proofs.Meaning.{all_within}
use Rattle.shape_theory.proofs.Limited.{assumable}
use Rattle.theory_simplifier.proofs.Keeping.{if_ok_map}
use Rattle.branch_pruning.proofs.Simplifying.{orderly_first, once, orderly_cut, twice}
use Rattle.branch_pruning.proofs.pruning.pruned.Goals as goal

pub simplified-requires-clause-formula : goal.simplified-requires-clause-formula
simplified-requires-clause-formula c =
    let o = context_of c.args.context in
    let ks = map atom_of c.args.assumed.now in
    orderly_first o ks (assumable o ks c.requires.normal (all_within c.args.assumed.now c.requires.well_formed)) c.args.store.now c.args.id c.requires.id c.requires.tidy

pub returns-then-effort-eq0-clause-pruned : goal.returns-then-effort-eq0-clause-pruned
returns-then-effort-eq0-clause-pruned c =
    let o = context_of c.args.context in
    let ks = map atom_of c.args.assumed.now in
    once o ks (assumable o ks c.requires.normal (all_within c.args.assumed.now c.requires.well_formed)) c.args.store.now c.args.id c.requires.id c.requires.tidy c.simplified.new.store c.in_ok-first.first c.in_ok-first.ensures.made

pub returns-in_err-cut-clause-kept : goal.returns-in_err-cut-clause-kept
returns-in_err-cut-clause-kept c = keeps_then c.args.store.now c.simplified.new.store c.cut.new.store c.simplified.ensures.kept c.cut.ensures.kept

-- ---- nothing was cut

pub returns-then-eq-2-clause-pruned : goal.returns-then-eq-2-clause-pruned
returns-then-eq-2-clause-pruned c =
    let o = context_of c.args.context in
    let ks = map atom_of c.args.assumed.now in
    let m = c.in_ok-first.ensures.made in
    once o ks (assumable o ks c.requires.normal (all_within c.args.assumed.now c.requires.well_formed)) c.args.store.now c.args.id c.requires.id c.requires.tidy c.cut.new.store c.in_ok-first.first
    (record { is = c.cut.ensures.kept.is c.in_ok-first.first m.is; same = c.cut.ensures.kept.same c.in_ok-first.first m.is ∙ m.same })

pub returns-then-eq-2-clause-kept : goal.returns-then-eq-2-clause-kept
returns-then-eq-2-clause-kept c = keeps_then c.args.store.now c.simplified.new.store c.cut.new.store c.simplified.ensures.kept c.cut.ensures.kept

-- ---- something was

pub simplified-requires-2-clause-formula : goal.simplified-requires-2-clause-formula
simplified-requires-2-clause-formula c =
    let o = context_of c.args.context in
    let ks = map atom_of c.args.assumed.now in
    orderly_cut o ks (assumable o ks c.requires.normal (all_within c.args.assumed.now c.requires.well_formed)) c.args.store.now c.args.id c.requires.id c.requires.tidy
    c.simplified.new.store c.cut.new.store c.in_ok-first.first c.in_ok-cut.cut c.in_ok-rows_of_atoms.field-0.items c.in_ok-first.ensures.made c.in_ok-cut.ensures.cut

pub returns-clause-pruned : goal.returns-clause-pruned
returns-clause-pruned c =
    let o = context_of c.args.context in
    let ks = map atom_of c.args.assumed.now in
    if_ok_map c.simplified-2.result _ _ (λ r m.
    twice o ks (assumable o ks c.requires.normal (all_within c.args.assumed.now c.requires.well_formed)) c.args.store.now c.args.id c.requires.id c.requires.tidy
    c.simplified.new.store c.cut.new.store c.in_ok-first.first c.in_ok-cut.cut c.in_ok-rows_of_atoms.field-0.items c.in_ok-first.ensures.made c.in_ok-cut.ensures.cut c.in_ok-rows_of_atoms.ensures c.simplified-2.new.store r m)
    c.simplified-2.ensures.made

pub returns-clause-kept : goal.returns-clause-kept
returns-clause-kept c =
    keeps_then c.args.store.now c.cut.new.store c.simplified-2.new.store (keeps_then c.args.store.now c.simplified.new.store c.cut.new.store c.simplified.ensures.kept c.cut.ensures.kept) c.simplified-2.ensures.kept
