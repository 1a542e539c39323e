-- The tree of a term or a formula, at each way to make one.
use Rattle.std.proofs.Common.{◌≡◌, ℕ, ◌+◌, List, [], ◌∷◌, sym, ap, ◌∙◌, refl}
use Rattle.std.specs.Prelude.{map}
use Rattle.std.specs.declared.boxed.Box.{Box}
use Rattle.std.specs.declared.alloc.Global.{Global}
use Rattle.std.specs.declared.vec.Vec.{Vec}
use Rattle.logic_meaning.specs.Formula as plain
use Rattle.language_meaning.specs.declared.tree.Literal.{Literal}
use Rattle.language_meaning.specs.declared.tree.Relation.{Relation}
use Rattle.written_syntax.specs.declared.tree.Term as code
use Rattle.written_syntax.specs.declared.tree.Term.TheVariants as term
use Rattle.written_syntax.specs.declared.tree.Term.TheOpen as layer
use Rattle.written_syntax.specs.declared.tree.Terms as codes
use Rattle.written_syntax.specs.declared.tree.Formula as written
use Rattle.written_syntax.specs.declared.tree.Formula.TheVariants as formula
use Rattle.written_syntax.specs.declared.tree.Formula.TheOpen as open_formula
use Rattle.written_syntax.specs.declared.tree.Formulas as writtens
use Rattle.written_syntax.specs.declared.tree.InnerCommand as commands
use Rattle.written_syntax.specs.declared.tree.InnerCommand.TheVariants as inner
use Rattle.language_meaning.specs.Trees.{Compare, Cong, Ncong, Bound, formulas_of, FormulaTree, FormulaTrees, Number, Named, Sum, Product, Quotient, Power, Negative, terms_of}
use Rattle.language_meaning.specs.Holes.{Nnf, Pnf, Dnf, Cnf, Simpl, Qe, alone, beside, together, command_count, inner_name, hole, whole, over, over_both, all_of, nested, nested_under, computed, Holed}
use Rattle.written_syntax.specs.CodeTrees.{formula_step, formulas_step, command_step, whole_formula, whole_formulas, whole_command, formula_tree, formula_trees, inner_of, inners_of, named_tree, named_trees, term_step, terms_step, term_tree, term_trees}

pub tree-Number : (n : Literal) → term_tree (term.Number n) ≡ Number n
unfolding term_tree
tree-Number n = ap term_tree (sym (term.rolls-Number n)) ∙ code.fold-roll-Term _ _ term_step terms_step (layer.Number n)

pub tree-Name : (x : List ℕ) → term_tree (term.Name x) ≡ Named x
unfolding term_tree
tree-Name x = ap term_tree (sym (term.rolls-Name x)) ∙ code.fold-roll-Term _ _ term_step terms_step (layer.Name x)

pub tree-Sum : (ts : codes.Terms) → term_tree (term.Sum ts) ≡ Sum (term_trees ts)
unfolding term_tree term_trees
tree-Sum ts = ap term_tree (sym (term.rolls-Sum ts)) ∙ code.fold-roll-Term _ _ term_step terms_step (layer.Sum ts)

pub tree-Product : (ts : codes.Terms) → term_tree (term.Product ts) ≡ Product (term_trees ts)
unfolding term_tree term_trees
tree-Product ts = ap term_tree (sym (term.rolls-Product ts)) ∙ code.fold-roll-Term _ _ term_step terms_step (layer.Product ts)

pub tree-Quotient : (s t : Box code.Term Global) → term_tree (term.Quotient s t) ≡ Quotient (term_tree s.value) (term_tree t.value)
unfolding term_tree
tree-Quotient s t = ap term_tree (sym (term.rolls-Quotient s t)) ∙ code.fold-roll-Term _ _ term_step terms_step (layer.Quotient s t)

pub tree-Power : (t : Box code.Term Global) (n : Literal) → term_tree (term.Power t n) ≡ Power (term_tree t.value) n
unfolding term_tree
tree-Power t n = ap term_tree (sym (term.rolls-Power t n)) ∙ code.fold-roll-Term _ _ term_step terms_step (layer.Power t n)

pub tree-Negative : (t : Box code.Term Global) → term_tree (term.Negative t) ≡ Negative (term_tree t.value)
unfolding term_tree
tree-Negative t = ap term_tree (sym (term.rolls-Negative t)) ∙ code.fold-roll-Term _ _ term_step terms_step (layer.Negative t)

pub trees-list : (v : Vec code.Term Global) → term_trees (codes.roll-Terms (record { list = v })) ≡ terms_of (map term_tree v.items)
unfolding term_tree term_trees
trees-list v = codes.fold-roll-Terms _ _ term_step terms_step (record { list = v })

pub trees-out : (ts : codes.Terms) → term_trees ts ≡ terms_of (map term_tree (codes.out-Terms ts).list.items)
unfolding term_tree term_trees
trees-out ts = codes.fold_out-Terms _ _ term_step terms_step ts

pub whole-True : whole_formula formula.True ≡ whole plain.Yes
unfolding whole_formula whole_formulas whole_command
whole-True = ap whole_formula (sym ((formula.rolls-True))) ∙ written.fold-roll-Formula _ _ _ formula_step command_step formulas_step open_formula.True

pub formula-True : formula_tree formula.True ≡ plain.Yes
unfolding formula_tree formula_trees inner_of inners_of named_tree named_trees
formula-True = ap (λ (h : Holed FormulaTree). h.tree) (whole-True)

pub inner-True : inner_of formula.True ≡ alone
unfolding formula_tree formula_trees inner_of inners_of named_tree named_trees
inner-True = ap (λ (h : Holed FormulaTree). h.inner) (whole-True)

pub named-True : (k : ℕ) → named_tree k formula.True ≡ plain.Yes
unfolding formula_tree formula_trees inner_of inners_of named_tree named_trees
named-True k = ap (λ (h : Holed FormulaTree). h.named k) (whole-True)

pub whole-False : whole_formula formula.False ≡ whole plain.No
unfolding whole_formula whole_formulas whole_command
whole-False = ap whole_formula (sym ((formula.rolls-False))) ∙ written.fold-roll-Formula _ _ _ formula_step command_step formulas_step open_formula.False

pub formula-False : formula_tree formula.False ≡ plain.No
unfolding formula_tree formula_trees inner_of inners_of named_tree named_trees
formula-False = ap (λ (h : Holed FormulaTree). h.tree) (whole-False)

pub inner-False : inner_of formula.False ≡ alone
unfolding formula_tree formula_trees inner_of inners_of named_tree named_trees
inner-False = ap (λ (h : Holed FormulaTree). h.inner) (whole-False)

pub named-False : (k : ℕ) → named_tree k formula.False ≡ plain.No
unfolding formula_tree formula_trees inner_of inners_of named_tree named_trees
named-False k = ap (λ (h : Holed FormulaTree). h.named k) (whole-False)

pub whole-Compare : (rel : Relation) (s t : Box code.Term Global) → whole_formula (formula.Compare rel s t) ≡ whole (plain.One (Compare rel (term_tree s.value) (term_tree t.value)))
unfolding whole_formula whole_formulas whole_command
whole-Compare rel s t = ap whole_formula (sym (formula.rolls-Compare rel s t)) ∙ written.fold-roll-Formula _ _ _ formula_step command_step formulas_step (open_formula.Compare rel s t)

pub formula-Compare : (rel : Relation) (s t : Box code.Term Global) → formula_tree (formula.Compare rel s t) ≡ plain.One (Compare rel (term_tree s.value) (term_tree t.value))
unfolding formula_tree formula_trees inner_of inners_of named_tree named_trees
formula-Compare rel s t = ap (λ (h : Holed FormulaTree). h.tree) (whole-Compare rel s t)

pub inner-Compare : (rel : Relation) (s t : Box code.Term Global) → inner_of (formula.Compare rel s t) ≡ alone
unfolding formula_tree formula_trees inner_of inners_of named_tree named_trees
inner-Compare rel s t = ap (λ (h : Holed FormulaTree). h.inner) (whole-Compare rel s t)

pub named-Compare : (k : ℕ) (rel : Relation) (s t : Box code.Term Global) → named_tree k (formula.Compare rel s t) ≡ plain.One (Compare rel (term_tree s.value) (term_tree t.value))
unfolding formula_tree formula_trees inner_of inners_of named_tree named_trees
named-Compare k rel s t = ap (λ (h : Holed FormulaTree). h.named k) (whole-Compare rel s t)

pub whole-Cong : (s t m : Box code.Term Global) → whole_formula (formula.Cong s t m) ≡ whole (plain.One (Cong (term_tree s.value) (term_tree t.value) (term_tree m.value)))
unfolding whole_formula whole_formulas whole_command
whole-Cong s t m = ap whole_formula (sym (formula.rolls-Cong s t m)) ∙ written.fold-roll-Formula _ _ _ formula_step command_step formulas_step (open_formula.Cong s t m)

pub formula-Cong : (s t m : Box code.Term Global) → formula_tree (formula.Cong s t m) ≡ plain.One (Cong (term_tree s.value) (term_tree t.value) (term_tree m.value))
unfolding formula_tree formula_trees inner_of inners_of named_tree named_trees
formula-Cong s t m = ap (λ (h : Holed FormulaTree). h.tree) (whole-Cong s t m)

pub inner-Cong : (s t m : Box code.Term Global) → inner_of (formula.Cong s t m) ≡ alone
unfolding formula_tree formula_trees inner_of inners_of named_tree named_trees
inner-Cong s t m = ap (λ (h : Holed FormulaTree). h.inner) (whole-Cong s t m)

pub named-Cong : (k : ℕ) (s t m : Box code.Term Global) → named_tree k (formula.Cong s t m) ≡ plain.One (Cong (term_tree s.value) (term_tree t.value) (term_tree m.value))
unfolding formula_tree formula_trees inner_of inners_of named_tree named_trees
named-Cong k s t m = ap (λ (h : Holed FormulaTree). h.named k) (whole-Cong s t m)

pub whole-Ncong : (s t m : Box code.Term Global) → whole_formula (formula.Ncong s t m) ≡ whole (plain.One (Ncong (term_tree s.value) (term_tree t.value) (term_tree m.value)))
unfolding whole_formula whole_formulas whole_command
whole-Ncong s t m = ap whole_formula (sym (formula.rolls-Ncong s t m)) ∙ written.fold-roll-Formula _ _ _ formula_step command_step formulas_step (open_formula.Ncong s t m)

pub formula-Ncong : (s t m : Box code.Term Global) → formula_tree (formula.Ncong s t m) ≡ plain.One (Ncong (term_tree s.value) (term_tree t.value) (term_tree m.value))
unfolding formula_tree formula_trees inner_of inners_of named_tree named_trees
formula-Ncong s t m = ap (λ (h : Holed FormulaTree). h.tree) (whole-Ncong s t m)

pub inner-Ncong : (s t m : Box code.Term Global) → inner_of (formula.Ncong s t m) ≡ alone
unfolding formula_tree formula_trees inner_of inners_of named_tree named_trees
inner-Ncong s t m = ap (λ (h : Holed FormulaTree). h.inner) (whole-Ncong s t m)

pub named-Ncong : (k : ℕ) (s t m : Box code.Term Global) → named_tree k (formula.Ncong s t m) ≡ plain.One (Ncong (term_tree s.value) (term_tree t.value) (term_tree m.value))
unfolding formula_tree formula_trees inner_of inners_of named_tree named_trees
named-Ncong k s t m = ap (λ (h : Holed FormulaTree). h.named k) (whole-Ncong s t m)

pub whole-Not : (f : Box written.Formula Global) → whole_formula (formula.Not f) ≡ over plain.Not (whole_formula f.value)
unfolding whole_formula whole_formulas whole_command
whole-Not f = ap whole_formula (sym (formula.rolls-Not f)) ∙ written.fold-roll-Formula _ _ _ formula_step command_step formulas_step (open_formula.Not f)

pub formula-Not : (f : Box written.Formula Global) → formula_tree (formula.Not f) ≡ plain.Not (formula_tree f.value)
unfolding formula_tree formula_trees inner_of inners_of named_tree named_trees
formula-Not f = ap (λ (h : Holed FormulaTree). h.tree) (whole-Not f)

pub inner-Not : (f : Box written.Formula Global) → inner_of (formula.Not f) ≡ inner_of f.value
unfolding formula_tree formula_trees inner_of inners_of named_tree named_trees
inner-Not f = ap (λ (h : Holed FormulaTree). h.inner) (whole-Not f)

pub named-Not : (k : ℕ) (f : Box written.Formula Global) → named_tree k (formula.Not f) ≡ plain.Not (named_tree k f.value)
unfolding formula_tree formula_trees inner_of inners_of named_tree named_trees
named-Not k f = ap (λ (h : Holed FormulaTree). h.named k) (whole-Not f)

pub whole-And : (fs : writtens.Formulas) → whole_formula (formula.And fs) ≡ over plain.And (whole_formulas fs)
unfolding whole_formula whole_formulas whole_command
whole-And fs = ap whole_formula (sym (formula.rolls-And fs)) ∙ written.fold-roll-Formula _ _ _ formula_step command_step formulas_step (open_formula.And fs)

pub formula-And : (fs : writtens.Formulas) → formula_tree (formula.And fs) ≡ plain.And (formula_trees fs)
unfolding formula_tree formula_trees inner_of inners_of named_tree named_trees
formula-And fs = ap (λ (h : Holed FormulaTree). h.tree) (whole-And fs)

pub inner-And : (fs : writtens.Formulas) → inner_of (formula.And fs) ≡ inners_of fs
unfolding formula_tree formula_trees inner_of inners_of named_tree named_trees
inner-And fs = ap (λ (h : Holed FormulaTree). h.inner) (whole-And fs)

pub named-And : (k : ℕ) (fs : writtens.Formulas) → named_tree k (formula.And fs) ≡ plain.And (named_trees k fs)
unfolding formula_tree formula_trees inner_of inners_of named_tree named_trees
named-And k fs = ap (λ (h : Holed FormulaTree). h.named k) (whole-And fs)

pub whole-Or : (fs : writtens.Formulas) → whole_formula (formula.Or fs) ≡ over plain.Or (whole_formulas fs)
unfolding whole_formula whole_formulas whole_command
whole-Or fs = ap whole_formula (sym (formula.rolls-Or fs)) ∙ written.fold-roll-Formula _ _ _ formula_step command_step formulas_step (open_formula.Or fs)

pub formula-Or : (fs : writtens.Formulas) → formula_tree (formula.Or fs) ≡ plain.Or (formula_trees fs)
unfolding formula_tree formula_trees inner_of inners_of named_tree named_trees
formula-Or fs = ap (λ (h : Holed FormulaTree). h.tree) (whole-Or fs)

pub inner-Or : (fs : writtens.Formulas) → inner_of (formula.Or fs) ≡ inners_of fs
unfolding formula_tree formula_trees inner_of inners_of named_tree named_trees
inner-Or fs = ap (λ (h : Holed FormulaTree). h.inner) (whole-Or fs)

pub named-Or : (k : ℕ) (fs : writtens.Formulas) → named_tree k (formula.Or fs) ≡ plain.Or (named_trees k fs)
unfolding formula_tree formula_trees inner_of inners_of named_tree named_trees
named-Or k fs = ap (λ (h : Holed FormulaTree). h.named k) (whole-Or fs)

pub whole-Impl : (f : Box written.Formula Global) (g : Box written.Formula Global) → whole_formula (formula.Impl f g) ≡ over_both plain.Impl (whole_formula f.value) (whole_formula g.value)
unfolding whole_formula whole_formulas whole_command
whole-Impl f g = ap whole_formula (sym (formula.rolls-Impl f g)) ∙ written.fold-roll-Formula _ _ _ formula_step command_step formulas_step (open_formula.Impl f g)

pub formula-Impl : (f : Box written.Formula Global) (g : Box written.Formula Global) → formula_tree (formula.Impl f g) ≡ plain.Impl (formula_tree f.value) (formula_tree g.value)
unfolding formula_tree formula_trees inner_of inners_of named_tree named_trees
formula-Impl f g = ap (λ (h : Holed FormulaTree). h.tree) (whole-Impl f g)

pub inner-Impl : (f : Box written.Formula Global) (g : Box written.Formula Global) → inner_of (formula.Impl f g) ≡ together (inner_of f.value) (inner_of g.value)
unfolding formula_tree formula_trees inner_of inners_of named_tree named_trees
inner-Impl f g = ap (λ (h : Holed FormulaTree). h.inner) (whole-Impl f g)

pub named-Impl : (k : ℕ) (f : Box written.Formula Global) (g : Box written.Formula Global) → named_tree k (formula.Impl f g) ≡ plain.Impl (named_tree k f.value) (named_tree (k + command_count (inner_of f.value)) g.value)
unfolding formula_tree formula_trees inner_of inners_of named_tree named_trees
named-Impl k f g = ap (λ (h : Holed FormulaTree). h.named k) (whole-Impl f g)

pub whole-Repl : (f : Box written.Formula Global) (g : Box written.Formula Global) → whole_formula (formula.Repl f g) ≡ over_both plain.Repl (whole_formula f.value) (whole_formula g.value)
unfolding whole_formula whole_formulas whole_command
whole-Repl f g = ap whole_formula (sym (formula.rolls-Repl f g)) ∙ written.fold-roll-Formula _ _ _ formula_step command_step formulas_step (open_formula.Repl f g)

pub formula-Repl : (f : Box written.Formula Global) (g : Box written.Formula Global) → formula_tree (formula.Repl f g) ≡ plain.Repl (formula_tree f.value) (formula_tree g.value)
unfolding formula_tree formula_trees inner_of inners_of named_tree named_trees
formula-Repl f g = ap (λ (h : Holed FormulaTree). h.tree) (whole-Repl f g)

pub inner-Repl : (f : Box written.Formula Global) (g : Box written.Formula Global) → inner_of (formula.Repl f g) ≡ together (inner_of f.value) (inner_of g.value)
unfolding formula_tree formula_trees inner_of inners_of named_tree named_trees
inner-Repl f g = ap (λ (h : Holed FormulaTree). h.inner) (whole-Repl f g)

pub named-Repl : (k : ℕ) (f : Box written.Formula Global) (g : Box written.Formula Global) → named_tree k (formula.Repl f g) ≡ plain.Repl (named_tree k f.value) (named_tree (k + command_count (inner_of f.value)) g.value)
unfolding formula_tree formula_trees inner_of inners_of named_tree named_trees
named-Repl k f g = ap (λ (h : Holed FormulaTree). h.named k) (whole-Repl f g)

pub whole-Equiv : (f : Box written.Formula Global) (g : Box written.Formula Global) → whole_formula (formula.Equiv f g) ≡ over_both plain.Equiv (whole_formula f.value) (whole_formula g.value)
unfolding whole_formula whole_formulas whole_command
whole-Equiv f g = ap whole_formula (sym (formula.rolls-Equiv f g)) ∙ written.fold-roll-Formula _ _ _ formula_step command_step formulas_step (open_formula.Equiv f g)

pub formula-Equiv : (f : Box written.Formula Global) (g : Box written.Formula Global) → formula_tree (formula.Equiv f g) ≡ plain.Equiv (formula_tree f.value) (formula_tree g.value)
unfolding formula_tree formula_trees inner_of inners_of named_tree named_trees
formula-Equiv f g = ap (λ (h : Holed FormulaTree). h.tree) (whole-Equiv f g)

pub inner-Equiv : (f : Box written.Formula Global) (g : Box written.Formula Global) → inner_of (formula.Equiv f g) ≡ together (inner_of f.value) (inner_of g.value)
unfolding formula_tree formula_trees inner_of inners_of named_tree named_trees
inner-Equiv f g = ap (λ (h : Holed FormulaTree). h.inner) (whole-Equiv f g)

pub named-Equiv : (k : ℕ) (f : Box written.Formula Global) (g : Box written.Formula Global) → named_tree k (formula.Equiv f g) ≡ plain.Equiv (named_tree k f.value) (named_tree (k + command_count (inner_of f.value)) g.value)
unfolding formula_tree formula_trees inner_of inners_of named_tree named_trees
named-Equiv k f g = ap (λ (h : Holed FormulaTree). h.named k) (whole-Equiv f g)

pub whole-Ex : (x : List ℕ) (f : Box written.Formula Global) → whole_formula (formula.Ex x f) ≡ over (plain.Ex x) (whole_formula f.value)
unfolding whole_formula whole_formulas whole_command
whole-Ex x f = ap whole_formula (sym (formula.rolls-Ex x f)) ∙ written.fold-roll-Formula _ _ _ formula_step command_step formulas_step (open_formula.Ex x f)

pub formula-Ex : (x : List ℕ) (f : Box written.Formula Global) → formula_tree (formula.Ex x f) ≡ plain.Ex x (formula_tree f.value)
unfolding formula_tree formula_trees inner_of inners_of named_tree named_trees
formula-Ex x f = ap (λ (h : Holed FormulaTree). h.tree) (whole-Ex x f)

pub inner-Ex : (x : List ℕ) (f : Box written.Formula Global) → inner_of (formula.Ex x f) ≡ inner_of f.value
unfolding formula_tree formula_trees inner_of inners_of named_tree named_trees
inner-Ex x f = ap (λ (h : Holed FormulaTree). h.inner) (whole-Ex x f)

pub named-Ex : (k : ℕ) (x : List ℕ) (f : Box written.Formula Global) → named_tree k (formula.Ex x f) ≡ plain.Ex x (named_tree k f.value)
unfolding formula_tree formula_trees inner_of inners_of named_tree named_trees
named-Ex k x f = ap (λ (h : Holed FormulaTree). h.named k) (whole-Ex x f)

pub whole-All : (x : List ℕ) (f : Box written.Formula Global) → whole_formula (formula.All x f) ≡ over (plain.All x) (whole_formula f.value)
unfolding whole_formula whole_formulas whole_command
whole-All x f = ap whole_formula (sym (formula.rolls-All x f)) ∙ written.fold-roll-Formula _ _ _ formula_step command_step formulas_step (open_formula.All x f)

pub formula-All : (x : List ℕ) (f : Box written.Formula Global) → formula_tree (formula.All x f) ≡ plain.All x (formula_tree f.value)
unfolding formula_tree formula_trees inner_of inners_of named_tree named_trees
formula-All x f = ap (λ (h : Holed FormulaTree). h.tree) (whole-All x f)

pub inner-All : (x : List ℕ) (f : Box written.Formula Global) → inner_of (formula.All x f) ≡ inner_of f.value
unfolding formula_tree formula_trees inner_of inners_of named_tree named_trees
inner-All x f = ap (λ (h : Holed FormulaTree). h.inner) (whole-All x f)

pub named-All : (k : ℕ) (x : List ℕ) (f : Box written.Formula Global) → named_tree k (formula.All x f) ≡ plain.All x (named_tree k f.value)
unfolding formula_tree formula_trees inner_of inners_of named_tree named_trees
named-All k x f = ap (λ (h : Holed FormulaTree). h.named k) (whole-All x f)

pub whole-Named : (x : List ℕ) → whole_formula (formula.Named x) ≡ whole (plain.One (Bound x))
unfolding whole_formula whole_formulas whole_command
whole-Named x = ap whole_formula (sym (formula.rolls-Named x)) ∙ written.fold-roll-Formula _ _ _ formula_step command_step formulas_step (open_formula.Named x)

pub formula-Named : (x : List ℕ) → formula_tree (formula.Named x) ≡ plain.One (Bound x)
unfolding formula_tree formula_trees inner_of inners_of named_tree named_trees
formula-Named x = ap (λ (h : Holed FormulaTree). h.tree) (whole-Named x)

pub inner-Named : (x : List ℕ) → inner_of (formula.Named x) ≡ alone
unfolding formula_tree formula_trees inner_of inners_of named_tree named_trees
inner-Named x = ap (λ (h : Holed FormulaTree). h.inner) (whole-Named x)

pub named-Named : (k : ℕ) (x : List ℕ) → named_tree k (formula.Named x) ≡ plain.One (Bound x)
unfolding formula_tree formula_trees inner_of inners_of named_tree named_trees
named-Named k x = ap (λ (h : Holed FormulaTree). h.named k) (whole-Named x)

pub whole-Computed : (c : Box commands.InnerCommand Global) → whole_formula (formula.Computed c) ≡ computed (whole_command c.value)
unfolding whole_formula whole_formulas whole_command
whole-Computed c = ap whole_formula (sym (formula.rolls-Computed c)) ∙ written.fold-roll-Formula _ _ _ formula_step command_step formulas_step (open_formula.Computed c)

pub formula-Computed : (c : Box commands.InnerCommand Global) → formula_tree (formula.Computed c) ≡ hole
unfolding formula_tree formula_trees inner_of inners_of named_tree named_trees
formula-Computed c = ap (λ (h : Holed FormulaTree). h.tree) (whole-Computed c)

pub inner-Computed : (c : Box commands.InnerCommand Global) → inner_of (formula.Computed c) ≡ beside (whole_command c.value) alone
unfolding formula_tree formula_trees inner_of inners_of named_tree named_trees
inner-Computed c = ap (λ (h : Holed FormulaTree). h.inner) (whole-Computed c)

pub named-Computed : (k : ℕ) (c : Box commands.InnerCommand Global) → named_tree k (formula.Computed c) ≡ plain.One (Bound (inner_name k))
unfolding formula_tree formula_trees inner_of inners_of named_tree named_trees
named-Computed k c = ap (λ (h : Holed FormulaTree). h.named k) (whole-Computed c)

pub wholes-list : (v : Vec written.Formula Global) → whole_formulas (writtens.roll-Formulas (record { list = v })) ≡ all_of (map whole_formula v.items)
unfolding whole_formula whole_formulas whole_command
wholes-list v = writtens.fold-roll-Formulas _ _ _ formula_step command_step formulas_step (record { list = v })

pub wholes-out : (fs : writtens.Formulas) → whole_formulas fs ≡ all_of (map whole_formula (writtens.out-Formulas fs).list.items)
unfolding whole_formula whole_formulas whole_command
wholes-out fs = writtens.fold_out-Formulas _ _ _ formula_step command_step formulas_step fs

-- the trees of formulas are those of what they are
trees_of_all : (fs : List written.Formula) → (all_of (map whole_formula fs)).tree ≡ formulas_of (map formula_tree fs)
unfolding formula_tree
trees_of_all [] = refl
trees_of_all (f ∷ fs) = ap (plain.also (whole_formula f).tree) (trees_of_all fs)

pub formulas-list : (v : Vec written.Formula Global) → formula_trees (writtens.roll-Formulas (record { list = v })) ≡ formulas_of (map formula_tree v.items)
unfolding formula_trees
formulas-list v = ap (λ (h : Holed FormulaTrees). h.tree) (wholes-list v) ∙ trees_of_all v.items

pub formulas-out : (fs : writtens.Formulas) → formula_trees fs ≡ formulas_of (map formula_tree (writtens.out-Formulas fs).list.items)
unfolding formula_trees
formulas-out fs = ap (λ (h : Holed FormulaTrees). h.tree) (wholes-out fs) ∙ trees_of_all (writtens.out-Formulas fs).list.items

pub command-Nnf : (f : written.Formula) → whole_command (inner.Nnf f) ≡ nested Nnf (whole_formula f)
unfolding whole_formula whole_formulas whole_command
command-Nnf f = ap whole_command (sym (inner.rolls-Nnf f)) ∙ commands.fold-roll-InnerCommand _ _ _ formula_step command_step formulas_step (open_formula.Nnf f)

pub command-Pnf : (f : written.Formula) → whole_command (inner.Pnf f) ≡ nested Pnf (whole_formula f)
unfolding whole_formula whole_formulas whole_command
command-Pnf f = ap whole_command (sym (inner.rolls-Pnf f)) ∙ commands.fold-roll-InnerCommand _ _ _ formula_step command_step formulas_step (open_formula.Pnf f)

pub command-Dnf : (f : written.Formula) → whole_command (inner.Dnf f) ≡ nested Dnf (whole_formula f)
unfolding whole_formula whole_formulas whole_command
command-Dnf f = ap whole_command (sym (inner.rolls-Dnf f)) ∙ commands.fold-roll-InnerCommand _ _ _ formula_step command_step formulas_step (open_formula.Dnf f)

pub command-Cnf : (f : written.Formula) → whole_command (inner.Cnf f) ≡ nested Cnf (whole_formula f)
unfolding whole_formula whole_formulas whole_command
command-Cnf f = ap whole_command (sym (inner.rolls-Cnf f)) ∙ commands.fold-roll-InnerCommand _ _ _ formula_step command_step formulas_step (open_formula.Cnf f)

pub command-Simpl : (f : written.Formula) (given : writtens.Formulas) → whole_command (inner.Simpl f given) ≡ nested_under Simpl (whole_formula f) (whole_formulas given)
unfolding whole_formula whole_formulas whole_command
command-Simpl f given = ap whole_command (sym (inner.rolls-Simpl f given)) ∙ commands.fold-roll-InnerCommand _ _ _ formula_step command_step formulas_step (open_formula.Simpl f given)

pub command-Qe : (f : written.Formula) (given : writtens.Formulas) → whole_command (inner.Qe f given) ≡ nested_under Qe (whole_formula f) (whole_formulas given)
unfolding whole_formula whole_formulas whole_command
command-Qe f given = ap whole_command (sym (inner.rolls-Qe f given)) ∙ commands.fold-roll-InnerCommand _ _ _ formula_step command_step formulas_step (open_formula.Qe f given)

-- the equations that make the trees of terms and formulas compute
pub ruleset trees = (
  tree-Number,
  tree-Name,
  tree-Sum,
  tree-Product,
  tree-Quotient,
  tree-Power,
  tree-Negative,
  trees-list,
  trees-out,
  formula-True,
  formula-False,
  formula-Compare,
  formula-Cong,
  formula-Ncong,
  formula-Not,
  formula-And,
  formula-Or,
  formula-Impl,
  formula-Repl,
  formula-Equiv,
  formula-Ex,
  formula-All,
  formula-Named,
  formula-Computed,
  formulas-list,
  formulas-out,
)

-- those that make what formulas and commands are compute
pub ruleset wholes = (
  whole-True,
  whole-False,
  whole-Compare,
  whole-Cong,
  whole-Ncong,
  whole-Not,
  whole-And,
  whole-Or,
  whole-Impl,
  whole-Repl,
  whole-Equiv,
  whole-Ex,
  whole-All,
  whole-Named,
  whole-Computed,
  wholes-list,
  wholes-out,
  command-Nnf,
  command-Pnf,
  command-Dnf,
  command-Cnf,
  command-Simpl,
  command-Qe,
)

-- those that make the commands inside formulas compute
pub ruleset inners = (
  inner-True,
  inner-False,
  inner-Compare,
  inner-Cong,
  inner-Ncong,
  inner-Not,
  inner-And,
  inner-Or,
  inner-Impl,
  inner-Repl,
  inner-Equiv,
  inner-Ex,
  inner-All,
  inner-Named,
  inner-Computed,
)

-- those that make the trees with names in their holes compute
pub ruleset nameds = (
  named-True,
  named-False,
  named-Compare,
  named-Cong,
  named-Ncong,
  named-Not,
  named-And,
  named-Or,
  named-Impl,
  named-Repl,
  named-Equiv,
  named-Ex,
  named-All,
  named-Named,
  named-Computed,
)
