use Rattle.std.proofs.Common.{inl, inr, map, refl, sym, subst}
use Rattle.logic_meaning.specs.Formula.{also}
use Rattle.written_syntax.specs.Writable.{AreWritableFormulas}
use Rattle.language_meaning.specs.Trees.{formulas_of}
use Rattle.written_syntax.specs.CodeTrees.{formula_tree}
use Rattle.session_state.specs.Keeping.{state_of}
use Rattle.session_state.specs.Scripted.{answered_tree}
use Rattle.session_commands.specs.Steps.{given_trees, HasUnwantedQuantifier}
use Rattle.form_commands.specs.Reading.{AreReadable, AreUnread, AreRead}
use Rattle.program_meaning.specs.declared.line.StatementError.TheVariants as error
use Rattle.form_commands.proofs.AssumptionLemmas.{early_readable, early_overflow}
use Rattle.form_commands.proofs.ReadLemmas.{proper_items}
use Rattle.session_state.proofs.StateLemmas.{kept_ids, same_state}
use Rattle.session_commands.proofs.formulas.read_wanted.Goals as goal

pub read_parts-requires-clause-proper_given : goal.read_parts-requires-clause-proper_given
read_parts-requires-clause-proper_given c = proper_items c.assumptions.result.now (subst AreWritableFormulas (sym c.assumptions.ensures) c.requires.given)

pub has_unwanted_quantifier-requires-clause-ids : goal.has_unwanted_quantifier-requires-clause-ids
has_unwanted_quantifier-requires-clause-ids c = kept_ids c.args.state.now c.read_parts.new.state c.requires.ids c.read_parts.ensures.kept

pub has_unwanted_quantifier-requires-in-Err-Overflow-clause-ids : goal.has_unwanted_quantifier-requires-in-Err-Overflow-clause-ids
has_unwanted_quantifier-requires-in-Err-Overflow-clause-ids c = kept_ids c.args.state.now c.read_parts.new.state c.requires.ids c.read_parts.ensures.kept

pub returns-then-has_unwanted_quantifier-clause-unready : goal.returns-then-has_unwanted_quantifier-clause-unready
returns-then-has_unwanted_quantifier-clause-unready c =
    let s = state_of c.args.state.now in
    let f = answered_tree c.args.formula.now in
    inl (record {
      word = refl;
      quantified = subst (λ t. HasUnwantedQuantifier t c.args.wanted f) (same_state c.args.state.now c.read_parts.new.state c.requires.ids c.read_parts.ensures.kept) (c.has_unwanted_quantifier.ensures.0 c.if-has_unwanted_quantifier.true);
      first = early_readable s f (given_trees c.args.wanted) (subst (λ gs. AreReadable s (also f gs)) c.assumptions.ensures c.in-Ok.ensures.read.readable);
    })

pub returns-else-has_unwanted_quantifier-clause-ready : goal.returns-else-has_unwanted_quantifier-clause-ready
returns-else-has_unwanted_quantifier-clause-ready c =
    let f = answered_tree c.args.formula.now in
    record {
      readable = subst (λ gs. AreReadable (state_of c.args.state.now) (also f gs)) c.assumptions.ensures c.in-Ok.ensures.read.readable;
      plain = λ h. absurd (cc (
        c.if-has_unwanted_quantifier.false,
        c.has_unwanted_quantifier.ensures.1
            (subst (λ t. HasUnwantedQuantifier t c.args.wanted f) (sym (same_state c.args.state.now c.read_parts.new.state c.requires.ids c.read_parts.ensures.kept)) h),
      ));
    }

pub returns-then-has_unwanted_quantifier-2-clause-unready : goal.returns-then-has_unwanted_quantifier-2-clause-unready
returns-then-has_unwanted_quantifier-2-clause-unready c =
    let s = state_of c.args.state.now in
    let f = answered_tree c.args.formula.now in
    inl (record {
      word = refl;
      quantified = subst (λ t. HasUnwantedQuantifier t c.args.wanted f) (same_state c.args.state.now c.read_parts.new.state c.requires.ids c.read_parts.ensures.kept) (c.has_unwanted_quantifier-in-Err-Overflow.ensures.0 c.if-has_unwanted_quantifier-2.true);
      first = early_overflow s f (given_trees c.args.wanted)
          (subst (λ gs. AreUnread s (also f gs) error.Overflow) c.assumptions.ensures (subst (λ e. AreUnread s (also f (formulas_of (map formula_tree c.assumptions.result.now))) e) c.in-Err-Overflow.field-0-is c.in-Err-Overflow.ensures.unread));
    })

pub returns-else-has_unwanted_quantifier-2-clause-unready : goal.returns-else-has_unwanted_quantifier-2-clause-unready
returns-else-has_unwanted_quantifier-2-clause-unready c =
    let s = state_of c.args.state.now in
    let f = answered_tree c.args.formula.now in
    inr (record {
      unread = subst (λ gs. AreUnread s (also f gs) error.Overflow) c.assumptions.ensures (subst (λ e. AreUnread s (also f (formulas_of (map formula_tree c.assumptions.result.now))) e) c.in-Err-Overflow.field-0-is c.in-Err-Overflow.ensures.unread);
      plain = λ e h. absurd (cc (
        c.if-has_unwanted_quantifier-2.false,
        c.has_unwanted_quantifier-in-Err-Overflow.ensures.1
            (subst (λ t. HasUnwantedQuantifier t c.args.wanted f) (sym (same_state c.args.state.now c.read_parts.new.state c.requires.ids c.read_parts.ensures.kept)) h),
      ));
    })

pub returns-else-has_unwanted_quantifier-clause-read : goal.returns-else-has_unwanted_quantifier-clause-read
returns-else-has_unwanted_quantifier-clause-read c =
    subst (λ gs. AreRead (state_of c.args.state.now) (answered_tree c.args.formula.now) gs c.read_parts.new.state c.in-Ok.read) c.assumptions.ensures c.in-Ok.ensures.read
