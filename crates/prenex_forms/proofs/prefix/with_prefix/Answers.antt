use Rattle.std.proofs.Common.{◌≡◌, ◌-◌, suc, ◌+◌, ◌∷◌, sym, ap, ◌∙◌, arith}
use Rattle.formula_store.specs.Nodes.{tree}
use Rattle.formula_store.proofs.Makes.{keeps_then}
use Rattle.logic_meaning.specs.Front.{block, prefixed}
use Rattle.prenex_forms.specs.Places.{kind_at, level_names, levels_of}
use Rattle.prenex_forms.proofs.Gathered.{kind_next}
use Rattle.prenex_forms.proofs.prefix.with_prefix.Goals as goal

pub returns-in_err-id-clause-kept : goal.returns-in_err-id-clause-kept
returns-in_err-id-clause-kept c = keeps_then c.args.store.now c.loop-level.store c.with_block.new.store c.loop-level.invariant.kept c.with_block.ensures.kept

pub loop-level-preserved : goal.loop-level-preserved
loop-level-preserved c =
    let l = c.loop-level.level - 1 in
    let q = c.args.kind in
    let ps = c.args.places.now in
    let base = tree c.args.store.now c.args.id in
    let left : c.args.blocks - l ≡ suc (c.args.blocks - c.loop-level.level) = omega arith in
    let up : l + 1 ≡ c.loop-level.level = omega arith in
    let rest = levels_of c.loop-level.level (c.args.blocks - c.loop-level.level) ps in
    let parts : levels_of l (c.args.blocks - l) ps ≡ level_names l ps ∷ rest =
    ap (λ n. levels_of l n ps) left ∙ ap (λ k. level_names l ps ∷ levels_of k (c.args.blocks - c.loop-level.level) ps) up in
    record {
      within = omega arith;
      is = c.in_ok-id.ensures.made.is;
      same = c.in_ok-id.ensures.made.same ∙ ap (λ k. block k (level_names l ps) (tree c.loop-level.store c.loop-level.id)) c.kind_at.ensures
          ∙ ap (block (kind_at q l) (level_names l ps)) (c.loop-level.invariant.same ∙ ap (λ k. prefixed k rest base) (ap (kind_at q) (sym up) ∙ sym (kind_next q l)))
          ∙ ap (λ bs. prefixed (kind_at q l) bs base) (sym parts);
      kept = keeps_then c.args.store.now c.loop-level.store c.with_block.new.store c.loop-level.invariant.kept c.with_block.ensures.kept;
    }
