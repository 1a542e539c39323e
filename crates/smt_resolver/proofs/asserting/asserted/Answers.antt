use Rattle.std.proofs.Common.{[], Some, sym, ap, ◌∙◌}
use Rattle.normal_atoms.specs.Atoms.{context_of}
use Rattle.smt_tokens.specs.CodeTrees.{expression_tree}
use Rattle.smt_resolver.specs.declared.sized.Sized.TheVariants.{Within, TooLarge}
use Rattle.smt_resolver.specs.declared.value.Value.TheVariants as value
use Rattle.smt_language.specs.Known.{declared_known}
use Rattle.smt_resolver.proofs.KnownLaws.{known_stay}
use Rattle.smt_resolver.proofs.Assertions.{known_first, first_reading, too_many, left_out, accepted_as, refused_for, is_told}
use Rattle.smt_resolver.proofs.asserting.asserted.Goals as goal

pub returns-in_default-formula-clause-refused : goal.returns-in_default-formula-clause-refused
returns-in_default-formula-clause-refused g c = too_many (context_of c.args.setting.now.context) c.args.setting.now.limit c.args.setting.now.declared.now (g.M.Maker.is_id c.args.maker.now) (g.M.Maker.tree c.args.maker.now) (g.M.Maker.is_id c.read.new.maker) (g.M.Maker.tree c.read.new.maker) c.read.new.symbols (expression_tree c.args.expression.now) (sym (c.in_ok-has_unknown.ensures.found (declared_known c.args.setting.now.declared.now) (known_stay c.args.setting.now.declared.now [] c.new-bound.result (declared_known c.args.setting.now.declared.now) c.new-bound.ensures (known_first c.args.setting.now.declared.now))) ∙ c.if-branch.false)
    (first_reading (context_of c.args.setting.now.context) c.args.setting.now.limit c.args.setting.now.declared.now (g.M.Maker.is_id c.args.maker.now) (g.M.Maker.tree c.args.maker.now) (g.M.Maker.is_id c.read.new.maker) (g.M.Maker.tree c.read.new.maker) c.read.new.symbols (expression_tree c.args.expression.now) c.new-symbols.result c.count-level.result c.in_ok-value.value (Some (value.Formula TooLarge)) c.in_ok-value.ensures.read c.new-symbols.ensures c.count-level.ensures (c.in-Some.is ∙ ap Some (c.in-Formula.is ∙ ap value.Formula (c.in_default-formula.is))))

pub accepted-requires : goal.accepted-requires
accepted-requires g c = left_out (context_of c.args.setting.now.context) c.args.setting.now.limit c.args.setting.now.declared.now (g.M.Maker.is_id c.args.maker.now) (g.M.Maker.tree c.args.maker.now) (g.M.Maker.is_id c.read.new.maker) (g.M.Maker.tree c.read.new.maker) c.read.new.symbols (expression_tree c.args.expression.now) c.requires.proper (sym (c.in_ok-has_unknown.ensures.found (declared_known c.args.setting.now.declared.now) (known_stay c.args.setting.now.declared.now [] c.new-bound.result (declared_known c.args.setting.now.declared.now) c.new-bound.ensures (known_first c.args.setting.now.declared.now))) ∙ c.if-branch.false) c.in-Within.nodes c.in-Within.part (first_reading (context_of c.args.setting.now.context) c.args.setting.now.limit c.args.setting.now.declared.now (g.M.Maker.is_id c.args.maker.now) (g.M.Maker.tree c.args.maker.now) (g.M.Maker.is_id c.read.new.maker) (g.M.Maker.tree c.read.new.maker) c.read.new.symbols (expression_tree c.args.expression.now) c.new-symbols.result c.count-level.result c.in_ok-value.value (Some (value.Formula (Within c.in-Within.nodes c.in-Within.part))) c.in_ok-value.ensures.read c.new-symbols.ensures c.count-level.ensures (c.in-Some.is ∙ ap Some (c.in-Formula.is ∙ ap value.Formula (c.in-Within.is))))

pub returns-in-Ok-clause-asserted : goal.returns-in-Ok-clause-asserted
returns-in-Ok-clause-asserted g c =
    accepted_as (context_of c.args.setting.now.context) c.args.setting.now.limit c.args.setting.now.declared.now (g.M.Maker.is_id c.args.maker.now) (g.M.Maker.tree c.args.maker.now) (g.M.Maker.is_id c.read.new.maker) (g.M.Maker.tree c.read.new.maker) c.read.new.symbols (expression_tree c.args.expression.now) c.requires.proper (sym (c.in_ok-has_unknown.ensures.found (declared_known c.args.setting.now.declared.now) (known_stay c.args.setting.now.declared.now [] c.new-bound.result (declared_known c.args.setting.now.declared.now) c.new-bound.ensures (known_first c.args.setting.now.declared.now))) ∙ c.if-branch.false) c.in-Within.nodes c.in-Within.part (first_reading (context_of c.args.setting.now.context) c.args.setting.now.limit c.args.setting.now.declared.now (g.M.Maker.is_id c.args.maker.now) (g.M.Maker.tree c.args.maker.now) (g.M.Maker.is_id c.read.new.maker) (g.M.Maker.tree c.read.new.maker) c.read.new.symbols (expression_tree c.args.expression.now) c.new-symbols.result c.count-level.result c.in_ok-value.value (Some (value.Formula (Within c.in-Within.nodes c.in-Within.part))) c.in_ok-value.ensures.read c.new-symbols.ensures c.count-level.ensures (c.in-Some.is ∙ ap Some (c.in-Formula.is ∙ ap value.Formula (c.in-Within.is))))
    c.in-Ok.id c.in-Ok.ensures.id c.in-Ok.ensures.accepted

pub told-requires : goal.told-requires
told-requires g c =
    is_told (context_of c.args.setting.now.context) c.args.setting.now.limit c.args.setting.now.declared.now (g.M.Maker.is_id c.args.maker.now) (g.M.Maker.tree c.args.maker.now) (g.M.Maker.is_id c.read.new.maker) (g.M.Maker.tree c.read.new.maker) c.read.new.symbols (expression_tree c.args.expression.now) c.requires.proper (sym (c.in_ok-has_unknown.ensures.found (declared_known c.args.setting.now.declared.now) (known_stay c.args.setting.now.declared.now [] c.new-bound.result (declared_known c.args.setting.now.declared.now) c.new-bound.ensures (known_first c.args.setting.now.declared.now))) ∙ c.if-branch.false) c.in-Within.nodes c.in-Within.part (first_reading (context_of c.args.setting.now.context) c.args.setting.now.limit c.args.setting.now.declared.now (g.M.Maker.is_id c.args.maker.now) (g.M.Maker.tree c.args.maker.now) (g.M.Maker.is_id c.read.new.maker) (g.M.Maker.tree c.read.new.maker) c.read.new.symbols (expression_tree c.args.expression.now) c.new-symbols.result c.count-level.result c.in_ok-value.value (Some (value.Formula (Within c.in-Within.nodes c.in-Within.part))) c.in_ok-value.ensures.read c.new-symbols.ensures c.count-level.ensures (c.in-Some.is ∙ ap Some (c.in-Formula.is ∙ ap value.Formula (c.in-Within.is))))
    c.in-Err.cause c.in-Err.ensures.refused

pub returns-clause-refused : goal.returns-clause-refused
returns-clause-refused g c =
    refused_for (context_of c.args.setting.now.context) c.args.setting.now.limit c.args.setting.now.declared.now (g.M.Maker.is_id c.args.maker.now) (g.M.Maker.tree c.args.maker.now) (g.M.Maker.is_id c.read.new.maker) (g.M.Maker.tree c.read.new.maker) c.read.new.symbols (expression_tree c.args.expression.now) c.requires.proper (sym (c.in_ok-has_unknown.ensures.found (declared_known c.args.setting.now.declared.now) (known_stay c.args.setting.now.declared.now [] c.new-bound.result (declared_known c.args.setting.now.declared.now) c.new-bound.ensures (known_first c.args.setting.now.declared.now))) ∙ c.if-branch.false) c.in-Within.nodes c.in-Within.part (first_reading (context_of c.args.setting.now.context) c.args.setting.now.limit c.args.setting.now.declared.now (g.M.Maker.is_id c.args.maker.now) (g.M.Maker.tree c.args.maker.now) (g.M.Maker.is_id c.read.new.maker) (g.M.Maker.tree c.read.new.maker) c.read.new.symbols (expression_tree c.args.expression.now) c.new-symbols.result c.count-level.result c.in_ok-value.value (Some (value.Formula (Within c.in-Within.nodes c.in-Within.part))) c.in_ok-value.ensures.read c.new-symbols.ensures c.count-level.ensures (c.in-Some.is ∙ ap Some (c.in-Formula.is ∙ ap value.Formula (c.in-Within.is))))
    c.in-Err.cause c.told.result c.told.ensures c.in-Err.ensures.refused
