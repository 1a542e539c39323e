use Rattle.std.proofs.Common.{◌≡◌, length, sym, refl, ap, ◌∙◌, rules, vec_len}
use Rattle.std.specs.Prelude.{◌==◌}
use Rattle.smt_language.specs.SpelledShapes.{is_void}
use Rattle.smt_reader.proofs.Lists.{none_is}
use Rattle.smt_reader.proofs.Readings.{group_tree}
use Rattle.smt_reader.proofs.sexpr.SExpr.is_void.Goals as goal

pub returns-in-Group : goal.returns-in-Group
returns-in-Group c =
    let list = c.in-Group.members.list in
    let e : vec_len list ≡ length list.items = search rules in
    c.is_empty.ensures ∙ ap (λ n. n == 0) e ∙ sym (none_is list.items) ∙ ap is_void (sym (group_tree c.args.self.now _ _ c.in-Group.is refl))
