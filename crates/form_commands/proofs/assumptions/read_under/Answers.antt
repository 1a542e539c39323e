use Rattle.std.proofs.Common.{inr, sym, Some, None}
use Rattle.session_state.specs.Keeping.{state_of}
use Rattle.session_state.specs.Scripted.{answered_tree}
use Rattle.form_commands.proofs.AssumptionLemmas.{first_unread}
use Rattle.form_commands.proofs.CauseLemmas.{readable_none}
use Rattle.form_commands.proofs.MadeLemmas.{still_ids, under_read, under_unread}
use Rattle.form_commands.proofs.assumptions.read_under.Goals as goal

pub premised-requires : goal.premised-requires
premised-requires c = still_ids c.args.state.now c.resolved_part.new.state c.resolved_part.ensures.kept c.args.ids.now (c.requires.given c.in-None.is)

pub returns-in-None-clause-read : goal.returns-in-None-clause-read
returns-in-None-clause-read c =
    under_read (state_of c.args.state.now) (answered_tree c.args.formula.now) c.args.stop c.args.ids.now c.resolved_part.new.state c.in-Ok.formula c.premised.result
    c.in-Ok.ensures.made c.in-Ok.ensures.readable c.in-None.is c.premised.ensures.formula c.premised.ensures.atoms c.premised.ensures.well_formed

pub returns-in-None-clause-unread : goal.returns-in-None-clause-unread
returns-in-None-clause-unread c = under_unread (state_of c.args.state.now) (answered_tree c.args.formula.now) c.args.stop c.premised.result c.premised.ensures.memory

pub returns-in-Some-clause-unread : goal.returns-in-Some-clause-unread
returns-in-Some-clause-unread c =
    inr (
      c.in-Some.error,
      c.static_refusal.ensures,
      record {
        cause = None;
        first = readable_none (state_of c.args.state.now) (answered_tree c.args.formula.now) c.in-Ok.ensures.readable;
        joined = sym c.in-Some.is;
      },
    )

pub returns-in_ok-error-in-Err-clause-unread : goal.returns-in_ok-error-in-Err-clause-unread
returns-in_ok-error-in-Err-clause-unread c =
    inr (
      c.in_ok-error-in-Err.error,
      c.static_refusal-in-Err.ensures,
      record {
        cause = Some c.in-Err.error;
        first = first_unread (state_of c.args.state.now) (answered_tree c.args.formula.now) c.in-Err.error c.in_ok-error-in-Err.ensures.cause c.in-Err.ensures.unread;
        joined = c.in_ok-error-in-Err.ensures.earlier;
      },
    )
