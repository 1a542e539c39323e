use Rattle.std.proofs.Common.{rules, arith, ◌≡◌, ◌≤◌, ◌<◌, ◌+◌, suc, length, [], ◌∷◌, ◌++◌, List, map, drop, inl, sym, ap, ◌∙◌, subst}
use Rattle.std.specs.Prelude.{slice_set}
use Rattle.std.specs.declared.result.Result.TheVariants.{Err}
use Rattle.std.proofs.lemmas.List.{at_drop_all}
use Rattle.logic_meaning.specs.Shape.{quantified}
use Rattle.logic_meaning.specs.Every.{Every, EveryOf}
use Rattle.logic_meaning.specs.Sizes.{nodes, all_nodes}
use Rattle.logic_meaning.specs.Formula.{One}
use Rattle.logic_meaning.specs.Tree.{Tree}
use Rattle.normal_atoms.specs.declared.error.AtomError.TheVariants as error
use Rattle.normal_atoms.specs.Atoms.{context_of, atom_of, IsWellFormed}
use Rattle.formula_tree.specs.Trees.{members}
use Rattle.nnf_trees.specs.declared.nnf.Nnf.{Nnf}
use Rattle.nnf_trees.specs.Nnfs.{nnf_of, nnfs_of, nnf_atoms, AreProper}
use Rattle.nnf_trees.specs.declared.nnf.Nnf.TheVariants as nnf
use Rattle.nnf_trees.proofs.Counting.{drop_at}
use Rattle.nnf_trees.proofs.FormLaws.{quantified_nodes}
use Rattle.nnf_trees.proofs.NnfEquations.{nnf-One, nnf-Quantified, atoms-Quantified}
use Rattle.nnf_trees.proofs.Pieces.{itself_proper}
use Rattle.prenex_forms.proofs.Lists.{if_ok_both}
use Rattle.prenex_forms.proofs.RenamedParts.{IsGoing, going_first, going_on, going_last, first_ready, one_renamed, one_overflows, IsInside, quantified_ready, quantified_overflows, quantified_renamed, now_set, set_back}
use Rattle.prenex_forms.specs.Named.{now_of}
use Rattle.prenex_forms.specs.Chosen.{CanRename, IsRenamed, Overflows}
use Rattle.prenex_forms.proofs.renaming.+renamed.Goals as goal

pub all_renamed-loop-f-init : goal.all_renamed-loop-f-init
all_renamed-loop-f-init t c = record {
  going = going_first (context_of c.args.context) c.args.chooser.now (nnfs_of c.args.fs.now) (members (map nnf_of c.items-f-items.result.now)) c.new-made.result.items c.requires.ready c.items-f-items.ensures.formulas c.new-made.ensures.items;
  small = subst (λ fs. all_nodes fs ≤ all_nodes (nnfs_of c.args.fs.now)) c.items-f-items.ensures.formulas (omega arith);
  made = subst AreProper (sym c.new-made.ensures.items) tt;
  rest = subst (EveryOf IsWellFormed) c.items-f-items.ensures.atoms c.requires.proper;
}

pub all_renamed-loop-f-preserved : goal.all_renamed-loop-f-preserved
all_renamed-loop-f-preserved t c =
    let split = drop_at c.items-f-items.result.now c.loop-f.f-index c.f-item.result c.loop-f-test.true c.f-item.is in
    let rest = drop (c.loop-f.f-index + 1) c.items-f-items.result.now in
    let o = context_of c.args.context in
    let before = c.loop-f.invariant in
    let parts : AreProper (c.f-item.result ∷ rest) = subst AreProper split before.rest in
    let few : nodes (nnf_of c.f-item.result) + all_nodes (members (map nnf_of rest)) ≤ all_nodes (nnfs_of c.args.fs.now)
    = subst (λ (xs : List Nnf). all_nodes (members (map nnf_of xs)) ≤ all_nodes (nnfs_of c.args.fs.now)) split before.small in
    let pushed : c.push.new.self.items ≡ c.loop-f.made.items ++ c.in_ok-member.member ∷ [] = search rules in
    record {
      going = going_on o c.args.chooser.now (nnfs_of c.args.fs.now) c.loop-f.made.items c.push.new.self.items c.loop-f.chooser (nnf_of c.f-item.result) (members (map nnf_of rest)) c.in_ok-member.member c.renamed.new.chooser
          (subst (λ (xs : List Nnf). IsGoing o c.args.chooser.now (nnfs_of c.args.fs.now) c.loop-f.made.items c.loop-f.chooser (members (map nnf_of xs))) split before.going) c.in_ok-member.ensures.made pushed;
      small = omega (arith, few);
      made = itself_proper c.in_ok-member.member c.loop-f.made.items c.push.new.self.items before.made c.in_ok-member.ensures.proper pushed;
      rest = parts.1;
    }

pub all_renamed-renamed-requires : goal.all_renamed-renamed-requires
all_renamed-renamed-requires t c =
    let split = drop_at c.items-f-items.result.now c.loop-f.f-index c.f-item.result c.loop-f-test.true c.f-item.is in
    let rest = drop (c.loop-f.f-index + 1) c.items-f-items.result.now in
    let o = context_of c.args.context in
    let before = c.loop-f.invariant in
    let parts : AreProper (c.f-item.result ∷ rest) = subst AreProper split before.rest in
    let few : nodes (nnf_of c.f-item.result) + all_nodes (members (map nnf_of rest)) ≤ all_nodes (nnfs_of c.args.fs.now)
    = subst (λ (xs : List Nnf). all_nodes (members (map nnf_of xs)) ≤ all_nodes (nnfs_of c.args.fs.now)) split before.small in
    let going = subst (λ (xs : List Nnf). IsGoing o c.args.chooser.now (nnfs_of c.args.fs.now) c.loop-f.made.items c.loop-f.chooser (members (map nnf_of xs))) split before.going in
    (omega (arith, few), (parts.0, first_ready o c.loop-f.chooser (nnf_of c.f-item.result) (members (map nnf_of rest)) going.ready))

pub all_renamed-returns-in_err-member-clause-overflow : goal.all_renamed-returns-in_err-member-clause-overflow
all_renamed-returns-in_err-member-clause-overflow t c =
    let split = drop_at c.items-f-items.result.now c.loop-f.f-index c.f-item.result c.loop-f-test.true c.f-item.is in
    let o = context_of c.args.context in
    let going = subst (λ (xs : List Nnf). IsGoing o c.args.chooser.now (nnfs_of c.args.fs.now) c.loop-f.made.items c.loop-f.chooser (members (map nnf_of xs))) split c.loop-f.invariant.going in
    let is : c.from_residual.result ≡ Err c.in_err-member.field-0.0 = search rules in
    λ h. let p : c.in_err-member.field-0.0 ≡ error.Overflow = cc (is, h) in going.back (inl (c.in_err-member.ensures.overflow (ap Err p)))

pub all_renamed-returns-clause-made : goal.all_renamed-returns-clause-made
all_renamed-returns-clause-made t c =
    going_last (context_of c.args.context) c.args.chooser.now (nnfs_of c.args.fs.now) c.loop-f.made.items c.loop-f.chooser (members (map nnf_of (drop c.loop-f.f-index c.items-f-items.result.now))) (nnfs_of c.of.result) c.loop-f.invariant.going
    (at_drop_all (λ (xs : List Nnf). members (map nnf_of xs)) c.items-f-items.result.now c.loop-f.f-index c.loop-f-test.false) c.of.ensures.formulas

pub renamed-returns-in-One-clause-made : goal.renamed-returns-in-One-clause-made
renamed-returns-in-One-clause-made t c =
    let o = context_of c.args.context in
    let e : nnf_of c.args.f.now ≡ One (atom_of c.in-One.atom) = ap nnf_of c.in-One.is ∙ nnf-One c.in-One.atom in
    if_ok_both c.renamed_atom.result _ _ _ c.renamed_atom.ensures.made c.renamed_atom.ensures.fits
    (λ r m n. one_renamed o (atom_of c.in-One.atom) c.args.chooser.now (nnf_of c.args.f.now) (nnf_of r) c.deref.result.now e c.deref.ensures.value m n)

pub renamed-returns-in-One-clause-overflow : goal.renamed-returns-in-One-clause-overflow
renamed-returns-in-One-clause-overflow t c =
    let e : nnf_of c.args.f.now ≡ One (atom_of c.in-One.atom) = ap nnf_of c.in-One.is ∙ nnf-One c.in-One.atom in
    λ h. one_overflows (context_of c.args.context) (atom_of c.in-One.atom) c.args.chooser.now (nnf_of c.args.f.now) c.deref.result.now e c.deref.ensures.value (c.renamed_atom.ensures.overflow h)

pub renamed-renamed-requires : goal.renamed-renamed-requires
renamed-renamed-requires t c =
    let o = context_of c.args.context in
    let old = c.args.chooser.now in
    let q = c.in-Quantified.quantifier in
    let x = c.in-Quantified.name.number in
    let g = nnf_of c.in-Quantified.inner.value in
    let d : nnf_of c.deref-in-Quantified.result.now ≡ g = ap nnf_of c.deref-in-Quantified.ensures in
    let same : nnf_of c.args.f.now ≡ quantified q x g = ap nnf_of c.in-Quantified.is ∙ nnf-Quantified q c.in-Quantified.name c.in-Quantified.inner in
    let e : nodes (nnf_of c.args.f.now) ≡ suc (nodes g) = ap nodes same ∙ quantified_nodes q x g in
    let n : nodes (nnf_of c.deref-in-Quantified.result.now) ≡ nodes g = ap nodes d in
    let ready = subst (λ (h : Tree). CanRename o old h) same c.requires.ready in
    let lt : x < length old.now.items = search rules in
    let inside : IsInside o old x c.in_ok-number-in-Quantified.number c.rename.new.self = record {
      name = c.in_ok-number-in-Quantified.ensures.name;
      now = ap now_of (c.rename.ensures.now ∙ ap (λ xs. slice_set xs x c.in_ok-number-in-Quantified.number) c.in_ok-number-in-Quantified.ensures.now) ∙ now_set old.now.items x c.in_ok-number-in-Quantified.number lt;
      chosen = c.rename.ensures.chosen ∙ c.in_ok-number-in-Quantified.ensures.chosen;
      count = c.rename.ensures.count ∙ c.in_ok-number-in-Quantified.ensures.count;
    } in (
      omega (arith, e, n),
      (
        subst (Every IsWellFormed) (ap nnf_atoms c.in-Quantified.is ∙ atoms-Quantified q c.in-Quantified.name c.in-Quantified.inner ∙ ap nnf_atoms (sym c.deref-in-Quantified.ensures)) c.requires.proper,
        subst (λ (h : Tree). CanRename o c.rename.new.self h) (sym d) (quantified_ready o q old x c.in_ok-number-in-Quantified.number c.rename.new.self g inside ready),
      ),
    )

pub renamed-returns-in_err-inner-in-Quantified-clause-overflow : goal.renamed-returns-in_err-inner-in-Quantified-clause-overflow
renamed-returns-in_err-inner-in-Quantified-clause-overflow t c =
    let o = context_of c.args.context in
    let old = c.args.chooser.now in
    let q = c.in-Quantified.quantifier in
    let x = c.in-Quantified.name.number in
    let g = nnf_of c.in-Quantified.inner.value in
    let d : nnf_of c.deref-in-Quantified.result.now ≡ g = ap nnf_of c.deref-in-Quantified.ensures in
    let same : nnf_of c.args.f.now ≡ quantified q x g = ap nnf_of c.in-Quantified.is ∙ nnf-Quantified q c.in-Quantified.name c.in-Quantified.inner in
    let lt : x < length old.now.items = search rules in
    let inside : IsInside o old x c.in_ok-number-in-Quantified.number c.rename.new.self = record {
      name = c.in_ok-number-in-Quantified.ensures.name;
      now = ap now_of (c.rename.ensures.now ∙ ap (λ xs. slice_set xs x c.in_ok-number-in-Quantified.number) c.in_ok-number-in-Quantified.ensures.now) ∙ now_set old.now.items x c.in_ok-number-in-Quantified.number lt;
      chosen = c.rename.ensures.chosen ∙ c.in_ok-number-in-Quantified.ensures.chosen;
      count = c.rename.ensures.count ∙ c.in_ok-number-in-Quantified.ensures.count;
    } in
    let is : c.from_residual-in_err-inner-in-Quantified.result ≡ Err c.in_err-inner-in-Quantified.field-0.0 = search rules in
    λ h.
    let p : c.in_err-inner-in-Quantified.field-0.0 ≡ error.Overflow = cc (is, h) in
    subst (λ (k : Tree). Overflows o old k) (sym same) (quantified_overflows o q old x c.in_ok-number-in-Quantified.number c.rename.new.self g inside
    (subst (λ (k : Tree). Overflows o c.rename.new.self k) d (c.in_err-inner-in-Quantified.ensures.overflow (ap Err p))))

pub renamed-returns-in_ok-inner-in-Quantified-2-clause-made : goal.renamed-returns-in_ok-inner-in-Quantified-2-clause-made
renamed-returns-in_ok-inner-in-Quantified-2-clause-made t c =
    let o = context_of c.args.context in
    let old = c.args.chooser.now in
    let q = c.in-Quantified.quantifier in
    let x = c.in-Quantified.name.number in
    let y = c.in_ok-number-in-Quantified.number in
    let g = nnf_of c.in-Quantified.inner.value in
    let r = nnf_of c.in_ok-inner-in-Quantified.inner in
    let out = c.renamed.new.chooser in
    let new = c.rename-in-Quantified.new.self in
    let d : nnf_of c.deref-in-Quantified.result.now ≡ g = ap nnf_of c.deref-in-Quantified.ensures in
    let same : nnf_of c.args.f.now ≡ quantified q x g = ap nnf_of c.in-Quantified.is ∙ nnf-Quantified q c.in-Quantified.name c.in-Quantified.inner in
    let lt : x < length old.now.items = search rules in
    let inside : IsInside o old x y c.rename.new.self = record {
      name = c.in_ok-number-in-Quantified.ensures.name;
      now = ap now_of (c.rename.ensures.now ∙ ap (λ xs. slice_set xs x y) c.in_ok-number-in-Quantified.ensures.now) ∙ now_set old.now.items x y lt;
      chosen = c.rename.ensures.chosen ∙ c.in_ok-number-in-Quantified.ensures.chosen;
      count = c.rename.ensures.count ∙ c.in_ok-number-in-Quantified.ensures.count;
    } in
    let inner : IsRenamed o c.rename.new.self g r out = subst (λ (k : Tree). IsRenamed o c.rename.new.self k r out) d c.in_ok-inner-in-Quantified.ensures.made in
    let start = c.choose.new.self.now.items in
    let kept : new.now.items ≡ old.now.items =
    c.rename-in-Quantified.ensures.now ∙ ap (slice_set out.now.items x) c.index-before.ensures
    ∙ set_back start out.now.items x y c.index-before.result.now (inner.now ∙ c.rename.ensures.now) ∙ c.in_ok-number-in-Quantified.ensures.now in
    let held : c.in_ok-inner-in-Quantified-2.inner.value ≡ c.in_ok-inner-in-Quantified.inner = search rules in
    let made : nnf_of (nnf.Quantified q (record { number = y }) c.in_ok-inner-in-Quantified-2.inner) ≡ quantified q y r = nnf-Quantified q (record { number = y }) c.in_ok-inner-in-Quantified-2.inner ∙ ap (λ k. quantified q y (nnf_of k)) held in
    subst (λ (k : Tree). IsRenamed o old (nnf_of c.args.f.now) k new) (sym made) (subst (λ (k : Tree). IsRenamed o old k (quantified q y r) new) (sym same)
    (quantified_renamed o q old x y c.rename.new.self g r out new inside inner c.rename-in-Quantified.ensures.chosen c.rename-in-Quantified.ensures.count kept))
