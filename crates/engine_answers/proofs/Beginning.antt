-- A leading block that is begun, in a store that grows.
use Rattle.std.proofs.Common.{◌≡◌, ◌≤◌, ◌+◌, ◌*◌, ℕ, Bool, true, false, List, length, map, sym, ap, ◌∙◌, subst}
use Rattle.std.specs.Prelude.{IsTrue}
use Rattle.std.specs.List.{AllByRecursion}
use Rattle.logic_meaning.specs.Atom as meant
use Rattle.logic_meaning.specs.Answer.{Place}
use Rattle.logic_meaning.specs.Cases.{case_matrix}
use Rattle.logic_meaning.specs.Direct.{IsDirect}
use Rattle.logic_meaning.specs.Every.{Every}
use Rattle.logic_meaning.specs.Fold.{folded}
use Rattle.logic_meaning.specs.NormalForm.{IsNormal}
use Rattle.logic_meaning.specs.Reference.{normal_tree, turned}
use Rattle.logic_meaning.specs.Shape.{IsQuantifierFree}
use Rattle.logic_meaning.specs.Sizes as size
use Rattle.logic_meaning.specs.Some.{EachOf}
use Rattle.logic_meaning.specs.Tree.{Tree, Trees}
use Rattle.logic_meaning.specs.declared.form.VarId.{VarId}
use Rattle.formula_laws.specs.StandsOnce.{StandsOnce}
use Rattle.normal_atoms.specs.declared.atoms.Atom.{Atom}
use Rattle.normal_atoms.specs.declared.atoms.Context.TheVariants as code
use Rattle.normal_atoms.specs.Atoms.{context_of, atom_of, IsWellFormed}
use Rattle.elimination_theory.specs.Theorems.{IsTidy}
use Rattle.elimination_theory.proofs.Branches.{true_is_not_false}
use Rattle.formula_tree.specs.declared.shape.Shape.{Shape}
use Rattle.formula_tree.specs.Makers.{IsMade, Keeps}
use Rattle.formula_store.specs.declared.id.FormulaId.{FormulaId}
use Rattle.formula_store.specs.Nodes.{tree, IsId}
use Rattle.case_theory.specs.Block.{ex_all}
use Rattle.case_theory.specs.Worked.{IsWorked}
use Rattle.case_theory.proofs.Leading.{names_once}
use Rattle.branch_rounds.specs.declared.work.Work.{Work}
use Rattle.branch_rounds.specs.Branches.{numbers}
use Rattle.branch_rounds.specs.Rounds.{IsDirectAt}
use Rattle.branch_rounds.specs.Worked.{IsWork, IsWorkedTo}
use Rattle.engine_answers.specs.declared.block.LeadingBlock.{LeadingBlock}
use Rattle.engine_answers.specs.declared.branched.Begun.{Begun}
use Rattle.engine_answers.specs.declared.task.Task.{Task}
use Rattle.engine_answers.specs.Assumed.{lacking}
use Rattle.engine_answers.specs.Begun.{IsBegun, IsUnpaid}
use Rattle.engine_answers.specs.Blocks.{is_asked, IsLeadingBlock}
use Rattle.engine_answers.specs.InnerBlocksBlocks.{IsUnder}
use Rattle.engine_answers.specs.Tasks.{IsTask}
use Rattle.engine_answers.proofs.Conditions.{asked_worked}
use Rattle.engine_answers.proofs.DirectTrees.{block_name, block_free, block_few, block_direct}
use Rattle.engine_answers.proofs.Under.{is_under}
use Rattle.engine_answers.proofs.WorkingFacts.{whole_work, is_whole_work}

-- the same of the matrix
record IsUnpaidAt (t : Task) (g : Tree) (new : List (Shape FormulaId)) (b : Begun) : Type 0 where
  pub plain : size.nodes g + length b.block.names.items ≤ t.limits.nodes → IsQuantifierFree g → tree new b.matrix ≡ folded g
  pub budget : IsQuantifierFree g → 2 * t.limits.nodes + 8 ≤ b.budget.nodes

module _ (old new : List (Shape FormulaId)) (kept : Keeps (IsId old) (tree old) (IsId new) (tree new)) where
  pub leading_kept : (f : Tree) (b : LeadingBlock) → IsLeadingBlock f old b → IsLeadingBlock f new b
  leading_kept f b h = record { quantifier = h.quantifier; names = h.names; matrix = record { is = kept.is b.matrix h.matrix.is; same = kept.same b.matrix h.matrix.is ∙ h.matrix.same } }

  -- one whose matrix is worked on
  pub begun_now : (t : Task) (f : Tree) (b : Begun) (w : Work) → Every (IsNormal (context_of t.context)) f → IsLeadingBlock f old b.block → b.assumed.items ≡ lacking b.block.names.items t.theory.now →
      w.context ≡ t.context → w.assumed.now ≡ b.assumed.items → IsWorkedTo (context_of w.context) (map atom_of w.assumed.now) (tree old b.block.matrix) new b.matrix → IsBegun t f new b
  begun_now t f b w normal h assumed same now worked = record {
    normal = normal;
    block = leading_kept f b.block h;
    assumed = assumed;
    worked = subst (λ c. IsWorkedTo c (map atom_of b.assumed.items) (tree new b.block.matrix) new b.matrix) (ap context_of same)
        (subst (λ (ks : List meant.Atom). IsWorkedTo (context_of w.context) ks (tree new b.block.matrix) new b.matrix) (ap (map atom_of) now)
        (subst (λ g. IsWorkedTo (context_of w.context) (map atom_of w.assumed.now) g new b.matrix) (sym (kept.same b.block.matrix h.matrix.is)) worked));
  }

  -- and stays so where the budget alone changes
  pub begun_kept : (t : Task) (f : Tree) (b d : Begun) → d.block ≡ b.block → d.assumed ≡ b.assumed → d.matrix ≡ b.matrix → IsBegun t f old b → IsBegun t f new d
  begun_kept t f b d block assumed matrix h =
      let here : IsBegun t f new (record { block = b.block; assumed = b.assumed; matrix = b.matrix; budget = d.budget }) = record {
        normal = h.normal;
        block = leading_kept f b.block h.block;
        assumed = h.assumed;
        worked = record {
          is = kept.is b.matrix h.worked.is;
          worked = subst (λ g. IsWorked (context_of t.context) (map atom_of b.assumed.items) g (tree new b.matrix)) (sym (kept.same b.block.matrix h.block.matrix.is))
              (subst (λ g. IsWorked (context_of t.context) (map atom_of b.assumed.items) (tree old b.block.matrix) g) (sym (kept.same b.matrix h.worked.is)) h.worked.worked);
        };
      } in
      subst (λ (k : LeadingBlock). IsBegun t f new (record { block = k; assumed = d.assumed; matrix = d.matrix; budget = d.budget })) (sym block)
      (subst (λ a. IsBegun t f new (record { block = b.block; assumed = a; matrix = d.matrix; budget = d.budget })) (sym assumed)
      (subst (λ m. IsBegun t f new (record { block = b.block; assumed = b.assumed; matrix = m; budget = d.budget })) (sym matrix) here))

  -- without quantifiers in its matrix nothing was paid
  pub unpaid_now : (t : Task) (f : Tree) (b : Begun) → IsLeadingBlock f old b.block →
      (size.nodes (tree old b.block.matrix) + length b.block.names.items ≤ t.limits.nodes → IsQuantifierFree (tree old b.block.matrix) → tree new b.matrix ≡ folded (tree old b.block.matrix)) →
      (IsQuantifierFree (tree old b.block.matrix) → 2 * t.limits.nodes + 8 ≤ b.budget.nodes) → IsUnpaid t new b
  unpaid_now t f b h plain budget =
      let same = sym (kept.same b.block.matrix h.matrix.is) in
      let here : IsUnpaidAt t (tree old b.block.matrix) new b = record { plain = plain; budget = budget } in
      let there = subst (λ g. IsUnpaidAt t g new b) same here in
      record { plain = there.plain; budget = there.budget }

-- ---- what is worked on under its assumptions

module _ (t : Task) (task : IsTask t) (f : Tree) (nodes : List (Shape FormulaId)) (b : Begun) (h : IsBegun t f nodes b) (w : Work) (same : w.context ≡ t.context) (workers : w.workers ≡ t.limits.workers) (now : w.assumed.now ≡ b.assumed.items) where
  pub begun_under : IsUnder (whole_work t) (numbers b.block.names.items) w
  begun_under = is_under (whole_work t) w b.block.names.items (is_whole_work t task) same workers (now ∙ h.assumed)

  pub begun_worked : IsWorkedTo (context_of w.context) (map atom_of w.assumed.now) (tree nodes b.block.matrix) nodes b.matrix
  begun_worked =
      subst (λ c. IsWorkedTo c (map atom_of w.assumed.now) (tree nodes b.block.matrix) nodes b.matrix) (sym (ap context_of same))
      (subst (λ (ks : List meant.Atom). IsWorkedTo (context_of t.context) ks (tree nodes b.block.matrix) nodes b.matrix) (sym (ap (map atom_of) now)) h.worked)

-- ---- the block, with what is worked on outside of it and under it

module _ (t : Task) (task : IsTask t) (w : Work) (same : w.context ≡ t.context) (workers : w.workers ≡ t.limits.workers) (now : w.assumed.now ≡ t.theory.now) where
  pub theory_work : IsWork w
  theory_work = record {
    well_formed = subst (AllByRecursion IsWellFormed) (sym now) task.well_formed;
    normal = subst (λ d. EachOf (IsNormal (context_of d)) (map atom_of w.assumed.now)) (sym same) (subst (λ (xs : List Atom). EachOf (IsNormal (context_of t.context)) (map atom_of xs)) (sym now) task.normal);
    workers = subst (λ n. 1 ≤ n) (sym workers) task.workers;
  }

  module _ (f : Tree) (nodes : List (Shape FormulaId)) (b : Begun) (h : IsBegun t f nodes b) (u : Work) (also_same : u.context ≡ t.context) (also_workers : u.workers ≡ t.limits.workers) (under : u.assumed.now ≡ b.assumed.items) where
    pub begun_outside : (names : List VarId) → names ≡ b.block.names.items → IsUnder w (numbers names) u
    begun_outside names e =
        subst (λ (ns : List VarId). IsUnder w (numbers ns) u) (sym e)
        (is_under w u b.block.names.items theory_work (also_same ∙ sym same) (also_workers ∙ sym workers) (under ∙ h.assumed ∙ ap (lacking b.block.names.items) (sym now)))

    pub begun_once : (names : List VarId) → names ≡ b.block.names.items → StandsOnce (numbers names)
    begun_once names e = subst StandsOnce (sym (ap numbers e ∙ h.block.names)) (names_once f)

    -- its matrix is tidy
    pub begun_tidy : IsTidy (context_of w.context) (tree nodes b.matrix)
    begun_tidy = subst (λ d. IsTidy (context_of d) (tree nodes b.matrix)) (sym same) h.worked.worked.tidy

    matrix_there : IsWorked (context_of w.context) (map atom_of u.assumed.now) (case_matrix f) (tree nodes b.matrix)
    matrix_there =
        subst (λ d. IsWorked (context_of d) (map atom_of u.assumed.now) (case_matrix f) (tree nodes b.matrix)) (sym same)
        (subst (λ (xs : List Atom). IsWorked (context_of t.context) (map atom_of xs) (case_matrix f) (tree nodes b.matrix)) (sym under)
        (subst (λ g. IsWorked (context_of t.context) (map atom_of b.assumed.items) g (tree nodes b.matrix)) h.block.matrix.same h.worked.worked))

    -- what its block of ex is worked on to, or its negation, is what the formula is worked on to
    pub begun_condition : (names : List VarId) → names ≡ b.block.names.items → (new : List (Shape FormulaId)) (s r : FormulaId) →
        (IsWorked (context_of w.context) (map atom_of u.assumed.now) (case_matrix f) (tree nodes b.matrix) → IsWorkedTo (context_of w.context) (map atom_of w.assumed.now) (ex_all (numbers names) (case_matrix f)) new s) →
        (last : List (Shape FormulaId)) → IsMade (IsId last) (tree last) r (turned (is_asked b.block.quantifier) (tree new s)) → IsWorkedTo (context_of t.context) (map atom_of t.theory.now) f last r
    begun_condition names e new s r short last made =
        let c = context_of t.context in
        let ks = map atom_of t.theory.now in
        let whole = (short matrix_there).worked in
        let there = subst (λ d. IsWorked (context_of d) (map atom_of w.assumed.now) (ex_all (numbers names) (case_matrix f)) (tree new s)) same whole in
        let under_theory = subst (λ (xs : List Atom). IsWorked c (map atom_of xs) (ex_all (numbers names) (case_matrix f)) (tree new s)) now there in
        let named = subst (λ xs. IsWorked c ks (ex_all xs (case_matrix f)) (tree new s)) (ap numbers e ∙ h.block.names) under_theory in
        record { is = made.is; worked = subst (IsWorked c ks f) (sym made.same) (asked_worked c ks f (is_asked b.block.quantifier) (tree new s) h.normal h.block.quantifier named) }

-- ---- a direct formula

-- its one name is put at one point
pub begun_direct : (t : Task) (f : Tree) (nodes : List (Shape FormulaId)) (b : Begun) → IsBegun t f nodes b → IsUnpaid t nodes b → (x : ℕ) (fs : Trees) (s : Place) → t.context ≡ code.Fields → IsDirect t.limits.nodes (normal_tree f) x fs s →
    (y : VarId) × IsDirectAt (context_of t.context) (2 * t.limits.nodes + 8) (tree nodes b.matrix) b.block.names.items y s
begun_direct t f nodes b h u x fs s e d =
    let plain = u.plain (block_few t f h.normal x fs s e d nodes b.block h.block) (block_free t f h.normal x fs s e d nodes b.block h.block) in
    (block_name t f h.normal x fs s e d nodes b.block h.block, block_direct t f h.normal x fs s e d nodes b.block h.block nodes b.matrix plain)

-- what is so is not otherwise
pub not_otherwise : (b : Bool) → IsTrue b → b ≡ false → ⊥
not_otherwise true t n = true_is_not_false n
not_otherwise false t n = true_is_not_false (sym t)
