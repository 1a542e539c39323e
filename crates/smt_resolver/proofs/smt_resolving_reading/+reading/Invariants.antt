use Rattle.std.proofs.Common.{◌≡◌, ◌+◌, ◌*◌, map, drop}
use Rattle.normal_atoms.specs.Atoms.{context_of}
use Rattle.formula_tree.specs.Makers.{Keeps}
use Rattle.smt_tokens.specs.CodeTrees.{expression_tree, local_tree}
use Rattle.smt_tokens.specs.TreeLists.{expressions_of, locals_of}
use Rattle.smt_language.specs.Meaning.{Scope}
use Rattle.smt_resolver.specs.Readings.{IsScope, HaveMemberIds, HaveFrameIds}
use Rattle.smt_resolver.proofs.MemberLaws.{MemberState, LocalState}
use Rattle.smt_resolver.proofs.Sizes.{expression_size, expressions_size, locals_size}
use Rattle.smt_resolver.proofs.smt_resolving_reading.+reading.Given as goal

-- what was read of the first members, in each scope that the symbols make
abbrev pub invariant-read_members-loop-expression : goal.invariant-read_members-loop-expression
invariant-read_members-loop-expression g l = record {
  state : (s : Scope) → IsScope (context_of l.setting.context) l.setting.limit l.setting.declared.now (g.M.Maker.is_id l.initial.maker) (g.M.Maker.tree l.initial.maker) l.initial.symbols s
      → MemberState (context_of l.setting.context) l.setting.limit s l.level (expressions_of (map expression_tree l.expressions)) (g.M.Maker.is_id l.maker) (g.M.Maker.tree l.maker) (expressions_of (map expression_tree (drop l.expression-index l.expressions))) l.members;
  ids : HaveMemberIds (g.M.Maker.is_id l.maker) l.members;
  symbols : l.symbols ≡ l.initial.symbols;
  kept : Keeps (g.M.Maker.is_id l.initial.maker) (g.M.Maker.tree l.initial.maker) (g.M.Maker.is_id l.maker) (g.M.Maker.tree l.maker);
}

-- what was read of the first values
abbrev pub invariant-read_locals-loop-local : goal.invariant-read_locals-loop-local
invariant-read_locals-loop-local g l = record {
  state : (s : Scope) → IsScope (context_of l.setting.context) l.setting.limit l.setting.declared.now (g.M.Maker.is_id l.initial.maker) (g.M.Maker.tree l.initial.maker) l.initial.symbols s
      → LocalState (context_of l.setting.context) l.setting.limit s l.level (locals_of (map local_tree l.locals)) (g.M.Maker.is_id l.maker) (g.M.Maker.tree l.maker) (locals_of (map local_tree (drop l.local-index l.locals))) l.frame;
  ids : HaveFrameIds (g.M.Maker.is_id l.maker) l.frame;
  symbols : l.symbols ≡ l.initial.symbols;
  kept : Keeps (g.M.Maker.is_id l.initial.maker) (g.M.Maker.tree l.initial.maker) (g.M.Maker.is_id l.maker) (g.M.Maker.tree l.maker);
}

-- the size of what is read, with the order of the functions at one size
abbrev pub decreases-read : goal.decreases-read
decreases-read g l = 3 * expression_size (expression_tree l.expression.now) + 1

abbrev pub decreases-read_quantified : goal.decreases-read_quantified
decreases-read_quantified g l = 3 * expression_size (expression_tree l.body.now) + 2

abbrev pub decreases-read_members : goal.decreases-read_members
decreases-read_members g l = 3 * expressions_size (expressions_of (map expression_tree l.expressions.now)) + 2

abbrev pub decreases-read_locals : goal.decreases-read_locals
decreases-read_locals g l = 3 * locals_size (locals_of (map local_tree l.locals.now)) + 2
