-- What the crates above name of `engine_answers`.
pub use Rattle.engine_answers.specs.CaseTrees.{IsCaseTreeOf}
pub use Rattle.engine_answers.specs.CaseTrees.{cases_seen}
pub use Rattle.engine_answers.specs.CaseTrees.{guards_together}
pub use Rattle.engine_answers.specs.declared.case_tree.CaseTree.{CaseTree}
pub use Rattle.engine_answers.specs.declared.limits.Limits.{Limits}
