use Rattle.std.proofs.Common.{◌≡◌, ◌≤◌, sym, subst, rules, arith, length, List, [], ◌∙◌}
use Rattle.language_meaning.specs.declared.terminal.Terminal.{Terminal}
use Rattle.language_meaning.specs.declared.level.TheConstants.{LEVEL_LIMIT}
use Rattle.redlog_tokens.specs.Ahead.{AreTerminals}
use Rattle.language_meaning.specs.Levels.{Passes}
use Rattle.written_syntax.specs.StatementSyntaxCodeTrees.{statement_tree}
use Rattle.std.specs.Prelude.{Some, None}
use Rattle.language_meaning.specs.declared.limit.TheConstants.{BYTE_LIMIT}
use Rattle.redlog_reader.specs.Reader.{statement_read}
use Rattle.redlog_reader.specs.Reading.{Refuses}
use Rattle.redlog_reader.proofs.Whole.{deep_unread, statement_unread, spells, read_proper}
use Rattle.redlog_reader.proofs.read.read_statement.Goals as goal

pub returns-then-deep-clause-refused : goal.returns-then-deep-clause-refused
returns-then-deep-clause-refused c =
    let come : AreTerminals c.args.bytes.now c.deref.result.now = subst (AreTerminals c.args.bytes.now) (sym c.deref.ensures.value) c.in_ok-terminals.ensures.terminals in
    let short : length c.args.bytes.now ≤ BYTE_LIMIT = omega (arith, c.if-bytes-gt-BYTE_LIMIT.false) in
    let deep = rw c.if-deep.true at c.in_ok-deep.ensures in
    deep_unread c.args.bytes.now come.tokens come.spelled short (subst (Passes LEVEL_LIMIT []) (sym come.are) deep)

pub returns-in_err-statement-clause-refused : goal.returns-in_err-statement-clause-refused
returns-in_err-statement-clause-refused c =
    let come : AreTerminals c.args.bytes.now c.deref-2.result.now = subst (AreTerminals c.args.bytes.now) (sym c.deref-2.ensures.value) c.in_ok-terminals.ensures.terminals in
    let short : length c.args.bytes.now ≤ BYTE_LIMIT = omega (arith, c.if-bytes-gt-BYTE_LIMIT.false) in
    let shallow = subst (λ (ts : List Terminal). Passes LEVEL_LIMIT [] ts → ⊥) (c.deref.ensures.value ∙ sym c.deref-2.ensures.value ∙ sym come.are) (rw c.if-deep.false at c.in_ok-deep.ensures) in
    let refused = subst (λ (ts : List Terminal). Refuses c.in_err-statement.field-0.0 (statement_read ts ≡ None)) (sym come.are) c.in_err-statement.ensures.refused in
    let none = statement_unread c.args.bytes.now come.tokens come.spelled short shallow c.in_err-statement.field-0.0 refused in
    search (rules, none)

pub returns-clause-spelled : goal.returns-clause-spelled
returns-clause-spelled c =
    let come : AreTerminals c.args.bytes.now c.deref-2.result.now = subst (AreTerminals c.args.bytes.now) (sym c.deref-2.ensures.value) c.in_ok-terminals.ensures.terminals in
    let short : length c.args.bytes.now ≤ BYTE_LIMIT = omega (arith, c.if-bytes-gt-BYTE_LIMIT.false) in
    let shallow = subst (λ (ts : List Terminal). Passes LEVEL_LIMIT [] ts → ⊥) (c.deref.ensures.value ∙ sym c.deref-2.ensures.value ∙ sym come.are) (rw c.if-deep.false at c.in_ok-deep.ensures) in
    spells c.args.bytes.now come.tokens come.spelled short shallow _ (subst (λ (ts : List Terminal). statement_read ts ≡ Some (statement_tree c.in_ok-statement.statement)) (sym come.are) c.in_ok-statement.ensures.read)

pub returns-clause-writable : goal.returns-clause-writable
returns-clause-writable c =
    let come : AreTerminals c.args.bytes.now c.deref-2.result.now = subst (AreTerminals c.args.bytes.now) (sym c.deref-2.ensures.value) c.in_ok-terminals.ensures.terminals in
    let short : length c.args.bytes.now ≤ BYTE_LIMIT = omega (arith, c.if-bytes-gt-BYTE_LIMIT.false) in
    read_proper c.args.bytes.now come.tokens come.spelled short _ (subst (λ (ts : List Terminal). statement_read ts ≡ Some (statement_tree c.in_ok-statement.statement)) (sym come.are) c.in_ok-statement.ensures.read)
