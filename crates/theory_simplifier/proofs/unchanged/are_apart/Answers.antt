use Rattle.std.proofs.Common.{rules, ◌≡◌, ◌+◌, ℕ, nat_eq, IsTrue, None, List, [], ◌∷◌, ◌++◌, take, map, get_or, sym, ap, ◌∙◌, subst}
use Rattle.std.specs.HashMap.{get}
use Rattle.std.specs.HashSet.{contains}
use Rattle.std.proofs.lemmas.List.{take_more}
use Rattle.logic_meaning.specs.Tree.{Tree}
use Rattle.normal_atoms.specs.Atoms.{context_of}
use Rattle.normal_atoms.specs.Computed.{IsNormalWithin}
use Rattle.formula_store.specs.declared.id.FormulaId.{FormulaId}
use Rattle.formula_store.specs.Nodes.{tree}
use Rattle.theory_simplifier.specs.Unchanged.{AreSeen}
use Rattle.theory_simplifier.proofs.Entries.{map_append}
use Rattle.theory_simplifier.proofs.Members.{orderly_at}
use Rattle.theory_simplifier.proofs.Staying.{none_seen}
use Rattle.theory_simplifier.proofs.unchanged.are_apart.Goals as goal

pub loop-id-init : goal.loop-id-init
loop-id-init c =
    let empty : (k : ℕ) → get nat_eq c.in_ok-firsts.firsts k ≡ None = λ k. search rules in
    none_seen (context_of c.args.context) c.args.junction c.args.store.now (get nat_eq c.in_ok-firsts.firsts) (contains nat_eq c.new-seconds.result) empty

pub joins-requires-clause-formula : goal.joins-requires-clause-formula
joins-requires-clause-formula c =
    orderly_at (IsNormalWithin (context_of c.args.context)) (tree c.args.store.now) c.args.ids.now c.loop-id.id-index (record { number = 0 }) c.loop-id-test.true c.requires.formulas

pub loop-id-preserved : goal.loop-id-preserved
loop-id-preserved c =
    let o = context_of c.args.context in
    let t = tree c.args.store.now in
    let ids = c.args.ids.now in
    let i = c.loop-id.id-index in
    let d : FormulaId = record { number = 0 } in
    let joins : IsTrue c.in_ok-joins.field-0 = search rules in
    let more : map t (take (i + 1) ids) ≡ map t (take i ids) ++ t (get_or ids i d) ∷ [] = ap (map t) (take_more ids i d c.loop-id-test.true) ∙ map_append t (take i ids) (get_or ids i d ∷ []) in
    subst (λ (fs : List Tree). AreSeen o c.args.junction c.args.store.now fs (get nat_eq c.joins.new.firsts) (contains nat_eq c.joins.new.seconds)) (sym more)
    (c.in_ok-joins.ensures joins (map t (take i ids)) c.loop-id.invariant)
