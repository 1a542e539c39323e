-- A condition for a formula, found of its leading block.
use Rattle.std.proofs.Common.{◌≡◌, Bool, List, sym, subst}
use Rattle.logic_meaning.specs.Atom.{Atom}
use Rattle.logic_meaning.specs.Cases.{case_sign, case_matrix, case_names}
use Rattle.logic_meaning.specs.Context.{Context}
use Rattle.logic_meaning.specs.Every.{Every}
use Rattle.logic_meaning.specs.NormalForm.{IsNormal}
use Rattle.logic_meaning.specs.Reference.{normal_tree, turned}
use Rattle.logic_meaning.specs.Tree.{Tree}
use Rattle.formula_laws.proofs.Iff.{both_ways}
use Rattle.elimination_theory.proofs.Sound.{normal_normal_tree}
use Rattle.elimination_theory.proofs.Turning.{normal_inside, normal_truths, turned_brings}
use Rattle.case_theory.specs.Block.{ex_all}
use Rattle.case_theory.specs.Worked.{IsWorked}
use Rattle.case_theory.proofs.Leading.{leading_split}
use Rattle.engine_answers.proofs.Closing.{back}

-- what the block whose cases are asked is worked on to, or its negation, is what the formula is worked on to
pub asked_worked : (c : Context) (ks : List Atom) (f : Tree) (sign : Bool) (s : Tree) → Every (IsNormal c) f → sign ≡ case_sign (normal_tree f) → IsWorked c ks (ex_all (case_names f) (case_matrix f)) s → IsWorked c ks f (turned sign s)
asked_worked c ks f sign s n e w =
    let g = normal_tree f in
    let whole : IsWorked c ks (turned (case_sign g) g) s = subst (λ t. IsWorked c ks t s) (leading_split f).whole w in
    let there = back c ks sign g s (normal_normal_tree c 0 f n) (subst (λ b. IsWorked c ks (turned b g) s) (sym e) whole) in
    record {
      equivalent = λ p o t. both_ways (normal_truths c f p (normal_inside c f n) o).0 (there.equivalent p o t);
      tidy = there.tidy;
      names = λ y u. (turned_brings c f y).0 (there.names y u);
    }
