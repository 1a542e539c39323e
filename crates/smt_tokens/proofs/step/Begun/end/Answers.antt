use Rattle.smt_tokens.proofs.Begun.{end_of_nothing, end_of_run, end_of_group, begun_is}
use Rattle.smt_tokens.proofs.step.Begun.end.Goals as goal

pub returns-in-Nothing : goal.returns-in-Nothing
returns-in-Nothing c = begun_is _ _ _ _ _ c.in-Nothing.is (end_of_nothing c.args.total)

pub returns-in-Loose : goal.returns-in-Loose
returns-in-Loose c = begun_is _ _ _ _ _ c.in-Loose.is (end_of_run c.args.total c.in-Loose.cut)

pub returns-in-Group : goal.returns-in-Group
returns-in-Group c = begun_is _ _ _ _ _ c.in-Group.is (end_of_group c.args.total c.in-Group.start c.in-Group.depth)
