-- What the lists of a formula of the store are made of.
use Rattle.std.proofs.Common.{◌≡◌, ℕ, ◌+◌, ◌≤◌, ◌<◌, nat_eq, eqb-true, is_some, min, Bool, true, false, not, zero, suc, List, [], ◌∷◌, ◌++◌, map, take, length, get_or, Some, refl, sym, ap, ◌∙◌, subst, arith}
use Rattle.std.specs.HashMap.{get}
use Rattle.std.specs.List.{AllByRecursion}
use Rattle.std.proofs.lemmas.List.{take_more, map-append}
use Rattle.std.specs.Prelude.{Result, Ok, Err, IfOk}
use Rattle.logic_meaning.specs.Context.{Context}
use Rattle.logic_meaning.specs.Formula.{And, Or}
use Rattle.logic_meaning.specs.Atom.{Atom}
use Rattle.logic_meaning.specs.declared.junction.Junction.{Junction}
use Rattle.logic_meaning.specs.declared.junction.Junction.TheVariants.{Conjunction, Disjunction}
use Rattle.logic_meaning.specs.Shape.{AreQuantifierFree}
use Rattle.logic_meaning.specs.Tree.{Tree}
use Rattle.normal_atoms.specs.Computed.{IsNormalWithin}
use Rattle.formula_tree.specs.declared.shape.Shape.{Shape}
use Rattle.formula_tree.specs.Trees.{members}
use Rattle.formula_tree.specs.Makers.{Keeps}
use Rattle.formula_store.specs.declared.id.FormulaId.{FormulaId}
use Rattle.formula_store.specs.Nodes.{tree, IsId}
use Rattle.shape_theory.specs.Orderly.{AreOrderly}
use Rattle.shape_theory.specs.AtomKit.{atom_kit}
use Rattle.logic_meaning.specs.Ways.{is_same}
use Rattle.logic_meaning.specs.PlainForms.{of_none}
use Rattle.shape_theory.specs.Lines.{joined_lines, clean_lines, more_clean_lines}
use Rattle.shape_theory.specs.Counts.{sizes}
use Rattle.shape_theory.specs.CleanFormsLaws.{IsDistributable}
use Rattle.shape_theory.proofs.Counts.{few_decide}
use Rattle.normal_forms.specs.declared.sizes.Sizes.{Sizes}
use Rattle.normal_forms.specs.Atoms.{same_id, lines, AreLines}
use Rattle.normal_forms.specs.Sizes.{most, capped, Table, or_nothing, IsTold}
use Rattle.normal_forms.specs.Parts.{AreMembers}
use Rattle.normal_forms.proofs.Grown.{lines_stay}

-- what holds of a result that is there
pub if_ok : {T E : Type 0} (P Q : T → Type 0) (r : Result T E) → IfOk r P → ((v : T) → P v → Q v) → IfOk r Q
if_ok P Q (Ok v) h f = f v h
if_ok P Q (Err e) h f = tt

-- where there is no place of an atom the lists are those of a constant
pub constant_part : (c : Context) (j : Junction) (nodes : List (Shape FormulaId)) (table : Table) (id : FormulaId) (x : Sizes) → IsTold j nodes table → IsDistributable c (tree nodes id) → get same_id table id ≡ Some x → x.places ≡ 0
    → clean_lines (atom_kit c) j (tree nodes id) ≡ of_none (not (nat_eq x.lines 0))
constant_part c j nodes table id x h d e p = split (nat_eq x.lines 0) refl
  where
    told : x ≡ capped (sizes j (tree nodes id))
    told = sym (ap or_nothing e) ∙ h.told id (ap is_some e)

    no_places : (sizes j (tree nodes id)).places ≡ 0
    no_places = let k : x.places ≡ min (sizes j (tree nodes id)).places most = ap (λ (y : Sizes). y.places) told in omega arith

    split : (b : Bool) → nat_eq x.lines 0 ≡ b → clean_lines (atom_kit c) j (tree nodes id) ≡ of_none (not b)
    split true f =
        let k : x.lines ≡ min (sizes j (tree nodes id)).lines most = ap (λ (y : Sizes). y.lines) told in
        let l = eqb-true x.lines 0 f in
        (few_decide c j (tree nodes id) d).none (omega arith)
    split false f =
        let k : x.lines ≡ min (sizes j (tree nodes id)).lines most = ap (λ (y : Sizes). y.lines) told in
        (few_decide c j (tree nodes id) d).bare no_places (some x.lines (sizes j (tree nodes id)).lines k f)
      where
        some : (n m : ℕ) → n ≡ min m most → nat_eq n 0 ≡ false → 1 ≤ m
        some zero zero k f = absurd (cc (f))
        some (suc n) zero k f = absurd (omega arith)
        some n (suc m) k f = omega arith

each_distributable : (c : Context) (t : FormulaId → Tree) (ids : List FormulaId) → AreOrderly (IsNormalWithin c) (members (map t ids)) → AreQuantifierFree (members (map t ids)) → AllByRecursion (λ (m : FormulaId). IsDistributable c (t m)) ids
each_distributable c t [] h k = tt
each_distributable c t (m ∷ ids) h k = (record { orderly = h.0; free = k.0 }, each_distributable c t ids h.1 k.1)

module _ (c : Context) (j : Junction) (nodes : List (Shape FormulaId)) (id : FormulaId) (ids : List FormulaId) (below : AllByRecursion (λ (m : FormulaId). m.number < id.number) ids) (d : IsDistributable c (tree nodes id)) (b : Bool) where
  pub and_part : tree nodes id ≡ And (members (map (tree nodes) ids)) → b ≡ is_same j Conjunction → AreMembers c j nodes id b ids
  and_part e s =
      let h = subst (IsDistributable c) e d in
      record {
        below = below;
        distributable = each_distributable c (tree nodes) ids h.orderly.1 h.free;
        same = ap (clean_lines (atom_kit c) j) e ∙ ap (λ x. more_clean_lines (atom_kit c) j x (of_none x) (members (map (tree nodes) ids))) (sym s);
      }

  pub or_part : tree nodes id ≡ Or (members (map (tree nodes) ids)) → b ≡ is_same j Disjunction → AreMembers c j nodes id b ids
  or_part e s =
      let h = subst (IsDistributable c) e d in
      record {
        below = below;
        distributable = each_distributable c (tree nodes) ids h.orderly.1 h.free;
        same = ap (clean_lines (atom_kit c) j) e ∙ ap (λ x. more_clean_lines (atom_kit c) j x (of_none x) (members (map (tree nodes) ids))) (sym s);
      }

-- ---- one member after another

members_then : (c : Context) (j : Junction) (b : Bool) (ls : List (List Atom)) (fs : List Tree) (f : Tree) → more_clean_lines (atom_kit c) j b ls (members (fs ++ f ∷ [])) ≡ joined_lines (atom_kit c) j b (more_clean_lines (atom_kit c) j b ls (members fs)) (clean_lines (atom_kit c) j f)
members_then c j b ls [] f = refl
members_then c j b ls (g ∷ fs) f = members_then c j b (joined_lines (atom_kit c) j b ls (clean_lines (atom_kit c) j g)) fs f

pub member_step : (c : Context) (j : Junction) (b : Bool) (old nodes mid new : List (Shape FormulaId)) (ids : List FormulaId) (i : ℕ) (d : FormulaId) (ls more all : List (List FormulaId)) → i < length ids
    → Keeps (IsId old) (tree old) (IsId nodes) (tree nodes) → IsId old (get_or ids i d) → Keeps (IsId nodes) (tree nodes) (IsId mid) (tree mid)
    → AreLines c nodes (more_clean_lines (atom_kit c) j b (of_none b) (members (map (tree old) (take i ids)))) ls
    → AreLines c mid (clean_lines (atom_kit c) j (tree nodes (get_or ids i d))) more
    → AreLines c new (joined_lines (atom_kit c) j b (lines mid ls) (lines mid more)) all
    → AreLines c new (more_clean_lines (atom_kit c) j b (of_none b) (members (map (tree old) (take (i + 1) ids)))) all
member_step c j b old nodes mid new ids i d ls more all l k is m s t u =
    let one_more : map (tree old) (take (i + 1) ids) ≡ map (tree old) (take i ids) ++ tree old (get_or ids i d) ∷ [] =
    ap (map (tree old)) (take_more ids i d l) ∙ map-append (tree old) (take i ids) (get_or ids i d ∷ []) in
    let e : more_clean_lines (atom_kit c) j b (of_none b) (members (map (tree old) (take (i + 1) ids))) ≡ joined_lines (atom_kit c) j b (lines mid ls) (lines mid more) =
    ap (λ fs. more_clean_lines (atom_kit c) j b (of_none b) (members fs)) one_more ∙ members_then c j b (of_none b) (map (tree old) (take i ids)) (tree old (get_or ids i d))
    ∙ ap (λ f. joined_lines (atom_kit c) j b (more_clean_lines (atom_kit c) j b (of_none b) (members (map (tree old) (take i ids)))) (clean_lines (atom_kit c) j f)) (sym (k.same (get_or ids i d) is))
    ∙ ap (λ hs. joined_lines (atom_kit c) j b hs (clean_lines (atom_kit c) j (tree nodes (get_or ids i d)))) (sym s.same ∙ sym (lines_stay c nodes mid m ls s.are))
    ∙ ap (λ hs. joined_lines (atom_kit c) j b (lines mid ls) hs) (sym t.same) in
    subst (λ hs. AreLines c new hs all) (sym e) u
