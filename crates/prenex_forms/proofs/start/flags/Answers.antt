use Rattle.std.proofs.Common.{◌≡◌, ◌<◌, ◌↔◌, inr, ⊎_elim, ℕ, Bool, IsTrue, List, length, drop, sym, ap, ◌∙◌, subst}
use Rattle.std.proofs.lemmas.Bool.{false≢true}
use Rattle.logic_meaning.specs.Tree.{IsFree}
use Rattle.nnf_trees.specs.Nnfs.{nnf_of}
use Rattle.prenex_forms.specs.Chosen.{flag}
use Rattle.prenex_forms.proofs.Starts.{told_free, flag_all, front_whole}
use Rattle.prenex_forms.proofs.start.flags.Goals as goal

pub returns-clause-flags : goal.returns-clause-flags
returns-clause-flags c =
    let f = nnf_of c.args.f.now in
    let new = c.mark_free.new.marks in
    let made = c.mark_free.ensures.marks in
    let old = c.deref_mut-2.ensures in
    let size : length c.deref_mut-2.result.now ≡ c.args.count = old.len ∙ c.in_ok-marks.ensures.count in
    let count : length new ≡ c.args.count = made.same ∙ size in
    let told : (x : ℕ) → x < c.args.count → IsTrue (flag new x) ↔ IsFree f x = λ x l.
    let i = made.each x (subst (λ (n : ℕ). x < n) (sym size) l) in
    let clear = ap (λ (bs : List Bool). flag bs x) old.value ∙ c.in_ok-marks.ensures.none x in
    let shown = ap (λ (bs : List Bool). flag bs x) c.deref_mut.ensures.value ∙ c.in_ok-hidden.ensures.none x in
    (λ t. ⊎_elim (λ o. absurd (false≢true (sym clear ∙ o))) (λ p. p.0) (i.0 t), λ m. i.1 (inr (m, shown))) in
    let whole = front_whole c.in_ok-marks.marks.len new (drop (length new) c.in_ok-marks.marks.items) (sym (made.same ∙ old.len)) in
    λ x. ap (λ (bs : List Bool). flag bs x) whole ∙ flag_all f new c.args.count c.requires (λ x l. told_free (flag new x) f x (told x l)) count x
