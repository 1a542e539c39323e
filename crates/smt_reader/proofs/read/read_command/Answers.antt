use Rattle.std.proofs.Common.{sym, ◌∙◌}
use Rattle.std.proofs.lemmas.Result.{err_from_is_err_and}
use Rattle.smt_language.specs.Faults.{kinds}
use Rattle.smt_reader.proofs.Spelling.{are_kinds, unread_as}
use Rattle.smt_reader.proofs.read.read_command.Goals as goal

pub returns-then-has_bad-clause-unread : goal.returns-then-has_bad-clause-unread
returns-then-has_bad-clause-unread c = record {
  tokens = kinds c.as_slice-tokens.result.now;
  are = are_kinds c.args.bytes.now c.in_ok-list.list.items _ c.in_ok-list.ensures c.as_slice-tokens.ensures.value;
  bad = sym c.has_bad.ensures ∙ c.if-has_bad.true;
}

pub returns-then-is_deep-clause-unread : goal.returns-then-is_deep-clause-unread
returns-then-is_deep-clause-unread c =
    let are = are_kinds c.args.bytes.now c.in_ok-list.list.items _ c.in_ok-list.ensures c.as_slice-tokens.ensures.value in
    record {
      tokens = kinds c.as_slice-tokens.result.now;
      good = record { are = are; good = sym c.has_bad.ensures ∙ c.if-has_bad.false };
      deep = sym c.is_deep.ensures ∙ c.if-is_deep.true;
    }

pub returns-in_err-command-clause-unread : goal.returns-in_err-command-clause-unread
returns-in_err-command-clause-unread c =
    let are = are_kinds c.args.bytes.now c.in_ok-list.list.items _ c.in_ok-list.ensures c.as_slice-tokens.ensures.value in
    let p = err_from_is_err_and c.from_residual-in_err-command.result c.from_residual-in_err-command.ensures.1 in
    rw (p.1, p.2) (unread_as c.args.bytes.now (kinds c.as_slice-tokens.result.now) (record { are = are; good = sym c.has_bad.ensures ∙ c.if-has_bad.false }) (sym c.is_deep.ensures ∙ c.if-is_deep.false) _ c.in_err-command.ensures.refused)

pub returns-clause-read : goal.returns-clause-read
returns-clause-read c =
    let are = are_kinds c.args.bytes.now c.in_ok-list.list.items _ c.in_ok-list.ensures c.as_slice-tokens.ensures.value in
    record {
      tokens = kinds c.as_slice-tokens.result.now;
      good = record { are = are; good = sym c.has_bad.ensures ∙ c.if-has_bad.false };
      shallow = sym c.is_deep.ensures ∙ c.if-is_deep.false;
      says = c.in_ok-command.ensures.read;
    }
