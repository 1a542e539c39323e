use Rattle.smt_tokens.proofs.Places.{space_step, token_step, at_end}
use Rattle.smt_tokens.proofs.lexer.next_lexeme.Goals as goal

pub spaces-preserved : goal.spaces-preserved
spaces-preserved c =
    let before = c.spaces.invariant in
    space_step c.args.bytes.now c.args.from c.spaces.start c.in-Space.length c.in-Some.found c.in-Some.ensures.front c.in-Some.ensures.within before.0 before.1 before.2 c.in-Space.is

pub returns-in-Token : goal.returns-in-Token
returns-in-Token c =
    let before = c.spaces.invariant in
    token_step c.args.bytes.now c.args.from c.spaces.start c.in-Token.length c.in-Some.found c.in-Some.ensures.front c.in-Some.ensures.within before.0 before.1 before.2 c.in-Token.is c.in-Some.ensures.some

pub returns : goal.returns
returns c = c.spaces.invariant.2 _ (at_end c.args.bytes.now c.spaces.start c.in_default.ensures.front)
