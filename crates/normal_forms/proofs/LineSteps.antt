-- Lists of ids are added as the lists of their atoms are.
use Rattle.std.proofs.Common.{◌≡◌, ℕ, zero, suc, ◌+◌, ◌<◌, eqb-true, eq-eqb, Bool, true, false, Option, None, Some, Result, Ok, Err, OnOk, List, [], ◌∷◌, ◌++◌, length, take, get_or, refl, sym, ap, ◌∙◌, subst, arith}
use Rattle.std.specs.Prelude.{◌||◌, ◌&&◌, if◌then◌else◌}
use Rattle.std.specs.List.{AllByRecursion}
use Rattle.std.proofs.lemmas.List.{map-append, take_more}
use Rattle.logic_meaning.specs.Context.{Context}
use Rattle.logic_meaning.specs.Formula.{One}
use Rattle.logic_meaning.specs.Atom.{Atom}
use Rattle.logic_meaning.specs.Same.{same_atom}
use Rattle.logic_meaning.specs.declared.junction.Junction.{Junction}
use Rattle.logic_meaning.specs.declared.junction.Junction.TheVariants.{Conjunction}
use Rattle.formula_laws.proofs.Same.{atom_same, atom_alike}
use Rattle.formula_tree.specs.declared.shape.Shape.{Shape}
use Rattle.formula_tree.specs.Makers.{Keeps}
use Rattle.formula_store.specs.declared.id.FormulaId.{FormulaId}
use Rattle.formula_store.specs.Nodes.{tree, IsId}
use Rattle.formula_store.proofs.Ordered.{same_id as same_number}
use Rattle.formula_store.proofs.Same.{same_tree}
use Rattle.shape_theory.specs.Kit.{Kit}
use Rattle.shape_theory.specs.AtomKit.{atom_kit}
use Rattle.shape_theory.specs.Lines as clean
use Rattle.shape_theory.specs.Lines.{insert_all, add_if, add_line_products, add_products, joined_lines}
use Rattle.normal_forms.specs.Atoms.{atom_at, IsAtomId, AreAtomIds, atoms, AreLineIds, lines, IsLineIf, AreLines, same_id, id_kit, is_within, some_within, not_above, add, add_all}
use Rattle.normal_forms.proofs.Grown.{atoms_stay, line_ids_stay, lines_stay}
use Rattle.normal_forms.proofs.Inserted.{some_of, none_of}

module _ (c : Context) (j : Junction) (nodes : List (Shape FormulaId)) where
  -- ids of atoms are equal where the atoms are
  same_told : (a b : FormulaId) → IsAtomId c nodes a → IsAtomId c nodes b → same_id a b ≡ same_atom (atom_at nodes a) (atom_at nodes b)
  same_told a b h k = split (same_id a b) refl (same_atom (atom_at nodes a) (atom_at nodes b)) refl
    where
      split : (x : Bool) → same_id a b ≡ x → (y : Bool) → same_atom (atom_at nodes a) (atom_at nodes b) ≡ y → x ≡ y
      split true e true f = refl
      split true e false f =
          let i : a ≡ b = same_number a b (eqb-true a.number b.number e) in
          let w : true ≡ false = sym (atom_alike (atom_at nodes a)) ∙ ap (λ (x : FormulaId). same_atom (atom_at nodes a) (atom_at nodes x)) i ∙ f in
          absurd (cc (w))
      split false e true f =
          let t : tree nodes a ≡ tree nodes b = h.one ∙ ap One (atom_same (atom_at nodes a) (atom_at nodes b) f) ∙ sym k.one in
          let i : a ≡ b = same_tree nodes a b h.is k.is t in
          let n : a.number ≡ b.number = ap (λ (x : FormulaId). x.number) i in
          let w : false ≡ true = sym e ∙ eq-eqb a.number b.number n in
          absurd (cc (w))
      split false e false f = refl

  among_told : (vs : List FormulaId) (u : FormulaId) → AreAtomIds c nodes vs → IsAtomId c nodes u → clean.is_among id_kit Conjunction vs u ≡ clean.is_among (atom_kit c) j (atoms nodes vs) (atom_at nodes u)
  among_told [] u h k = refl
  among_told (v ∷ vs) u h k =
      ap (λ b. b || clean.is_among id_kit Conjunction vs u) (same_told v u h.0 k) ∙ ap (λ b. same_atom (atom_at nodes v) (atom_at nodes u) || b) (among_told vs u h.1 k)

  within_told : (us vs : List FormulaId) → AreAtomIds c nodes us → AreAtomIds c nodes vs → is_within us vs ≡ clean.is_within (atom_kit c) j (atoms nodes us) (atoms nodes vs)
  within_told [] vs h k = refl
  within_told (u ∷ us) vs h k =
      ap (λ b. b && is_within us vs) (among_told vs u k h.0) ∙ ap (λ b. clean.is_among (atom_kit c) j (atoms nodes vs) (atom_at nodes u) && b) (within_told us vs h.1 k)

  some_told : (ls : List (List FormulaId)) (vs : List FormulaId) → AreLineIds c nodes ls → AreAtomIds c nodes vs → some_within ls vs ≡ clean.some_within (atom_kit c) j (lines nodes ls) (atoms nodes vs)
  some_told [] vs h k = refl
  some_told (us ∷ ls) vs h k =
      ap (λ b. b || some_within ls vs) (within_told us vs h.0 k) ∙ ap (λ b. clean.is_within (atom_kit c) j (atoms nodes us) (atoms nodes vs) || b) (some_told ls vs h.1 k)

  above_told : (ls : List (List FormulaId)) (vs : List FormulaId) → AreLineIds c nodes ls → AreAtomIds c nodes vs → AreLines c nodes (clean.not_above (atom_kit c) j (lines nodes ls) (atoms nodes vs)) (not_above ls vs)
  above_told [] vs h k = record { are = tt; same = refl }
  above_told (us ∷ ls) vs h k = subst (λ b. AreLines c nodes (if b then clean.not_above (atom_kit c) j (lines nodes ls) (atoms nodes vs) else atoms nodes us ∷ clean.not_above (atom_kit c) j (lines nodes ls) (atoms nodes vs)) (not_above (us ∷ ls) vs)) (within_told vs us k h.0)
      (split (is_within vs us) (above_told ls vs h.1 k))
    where
      split : (b : Bool) → AreLines c nodes (clean.not_above (atom_kit c) j (lines nodes ls) (atoms nodes vs)) (not_above ls vs)
          → AreLines c nodes (if b then clean.not_above (atom_kit c) j (lines nodes ls) (atoms nodes vs) else atoms nodes us ∷ clean.not_above (atom_kit c) j (lines nodes ls) (atoms nodes vs)) (if b then not_above ls vs else us ∷ not_above ls vs)
      split true i = i
      split false i = record { are = (h.0, i.are); same = ap (λ t. atoms nodes us ∷ t) i.same }

  all_append : (ls ks : List (List FormulaId)) → AreLineIds c nodes ls → AreLineIds c nodes ks → AreLineIds c nodes (ls ++ ks)
  all_append [] ks h k = k
  all_append (us ∷ ls) ks h k = (h.0, all_append ls ks h.1 k)

  pub added : (ls : List (List FormulaId)) (vs : List FormulaId) → AreLineIds c nodes ls → AreAtomIds c nodes vs → AreLines c nodes (clean.add (atom_kit c) j (lines nodes ls) (atoms nodes vs)) (add ls vs)
  added ls vs h k = subst (λ b. AreLines c nodes (if b then lines nodes ls else clean.not_above (atom_kit c) j (lines nodes ls) (atoms nodes vs) ++ atoms nodes vs ∷ []) (add ls vs)) (some_told ls vs h k) (split (some_within ls vs))
    where
      split : (b : Bool) → AreLines c nodes (if b then lines nodes ls else clean.not_above (atom_kit c) j (lines nodes ls) (atoms nodes vs) ++ atoms nodes vs ∷ []) (if b then ls else not_above ls vs ++ vs ∷ [])
      split true = record { are = h; same = refl }
      split false =
          let i = above_told ls vs h k in
          record { are = all_append (not_above ls vs) (vs ∷ []) i.are (k, tt); same = map-append (atoms nodes) (not_above ls vs) (vs ∷ []) ∙ ap (λ t. t ++ atoms nodes vs ∷ []) i.same }

  pub all_added : (ls ks : List (List FormulaId)) → AreLineIds c nodes ls → AreLineIds c nodes ks → AreLines c nodes (clean.add_all (atom_kit c) j (lines nodes ls) (lines nodes ks)) (add_all ls ks)
  all_added ls [] h k = record { are = h; same = refl }
  all_added ls (vs ∷ ks) h k =
      let i = added ls vs h k.0 in
      subst (λ t. AreLines c nodes (clean.add_all (atom_kit c) j t (lines nodes ks)) (add_all (add ls vs) ks)) i.same (all_added (add ls vs) ks i.are k.1)

module _ (c : Context) (j : Junction) (old new : List (Shape FormulaId)) (k : Keeps (IsId old) (tree old) (IsId new) (tree new)) where
  -- a settled product adds nothing
  pub nothing_added : (ls : List (List FormulaId)) (o : Option (List Atom)) → AreLineIds c old ls → IsLineIf c new o None → AreLines c new (add_if (atom_kit c) j (lines old ls) o) ls
  nothing_added ls o h n = subst (λ p. AreLines c new (add_if (atom_kit c) j (lines old ls) p) ls) (sym (none_of c j new o n)) (record { are = line_ids_stay c old new k ls h; same = lines_stay c old new k ls h })

  pub something_added : (ls : List (List FormulaId)) (o : Option (List Atom)) (vs : List FormulaId) → AreLineIds c old ls → IsLineIf c new o (Some vs) → AreLines c new (add_if (atom_kit c) j (lines old ls) o) (add ls vs)
  something_added ls o vs h n =
      subst (λ p. AreLines c new (add_if (atom_kit c) j (lines old ls) p) (add ls vs)) (sym (some_of c j new o vs n))
      (subst (λ ks. AreLines c new (clean.add (atom_kit c) j ks (atoms new vs)) (add ls vs)) (lines_stay c old new k ls h) (added c j new ls vs (line_ids_stay c old new k ls h) (line_are o n)))
    where
      line_are : (p : Option (List Atom)) → IsLineIf c new p (Some vs) → AreAtomIds c new vs
      line_are None m = absurd m
      line_are (Some us) m = m.are

-- ---- one list after another

module _ {A : Type 0} (kit : Kit A) (j : Junction) where
  pub line_then : (ls : List (List A)) (us : List A) (ks hs : List (List A)) → add_line_products kit j ls us (ks ++ hs) ≡ add_line_products kit j (add_line_products kit j ls us ks) us hs
  line_then ls us [] hs = refl
  line_then ls us (vs ∷ ks) hs = line_then (add_if kit j ls (insert_all kit j (Some us) vs)) us ks hs

  pub products_then : (ls hs gs ks : List (List A)) → add_products kit j ls (hs ++ gs) ks ≡ add_products kit j (add_products kit j ls hs ks) gs ks
  products_then ls [] gs ks = refl
  products_then ls (us ∷ hs) gs ks = products_then (add_line_products kit j ls us ks) hs gs ks

  pub all_then : (ls ks hs : List (List A)) → clean.add_all kit j ls (ks ++ hs) ≡ clean.add_all kit j (clean.add_all kit j ls ks) hs
  all_then ls [] hs = refl
  all_then ls (vs ∷ ks) hs = all_then (clean.add kit j ls vs) ks hs

pub all_get : {X : Type 0} (P : X → Type 0) (xs : List X) (i : ℕ) (d : X) → i < length xs → AllByRecursion P xs → P (get_or xs i d)
all_get P [] i d l h = absurd (omega arith)
all_get P (x ∷ xs) zero d l h = h.0
all_get P (x ∷ xs) (suc i) d l h = all_get P xs i d (omega arith) h.1

-- what holds where a call succeeded
pub on_ok : {T E : Type 0} (P Q : Type 0) (r : Result T E) → OnOk r P → (P → Q) → OnOk r Q
on_ok P Q (Ok t) h f = f h
on_ok P Q (Err e) h f = tt

module _ (c : Context) (j : Junction) (old nodes new : List (Shape FormulaId)) (k : Keeps (IsId old) (tree old) (IsId nodes) (tree nodes)) where
  pub line_step : (start : List (List Atom)) (line : List FormulaId) (items : List (List FormulaId)) (i : ℕ) (d : List FormulaId) (ls ls2 : List (List FormulaId)) → i < length items → AreAtomIds c old line → AreLineIds c old items
      → AreLines c nodes (add_line_products (atom_kit c) j start (atoms old line) (lines old (take i items))) ls
      → AreLines c new (add_if (atom_kit c) j (lines nodes ls) (insert_all (atom_kit c) j (Some (atoms nodes line)) (atoms nodes (get_or items i d)))) ls2
      → AreLines c new (add_line_products (atom_kit c) j start (atoms old line) (lines old (take (i + 1) items))) ls2
  line_step start line items i d ls ls2 l h g s t =
      let one_more : lines old (take (i + 1) items) ≡ lines old (take i items) ++ atoms old (get_or items i d) ∷ [] =
      ap (lines old) (take_more items i d l) ∙ map-append (atoms old) (take i items) (get_or items i d ∷ []) in
      let e : add_line_products (atom_kit c) j start (atoms old line) (lines old (take (i + 1) items)) ≡ add_if (atom_kit c) j (lines nodes ls) (insert_all (atom_kit c) j (Some (atoms nodes line)) (atoms nodes (get_or items i d))) =
      ap (add_line_products (atom_kit c) j start (atoms old line)) one_more ∙ line_then (atom_kit c) j start (atoms old line) (lines old (take i items)) (atoms old (get_or items i d) ∷ [])
      ∙ ap (λ ks. add_if (atom_kit c) j ks (insert_all (atom_kit c) j (Some (atoms old line)) (atoms old (get_or items i d)))) (sym s.same)
      ∙ ap (λ us. add_if (atom_kit c) j (lines nodes ls) (insert_all (atom_kit c) j (Some us) (atoms old (get_or items i d)))) (sym (atoms_stay c old nodes k line h))
      ∙ ap (λ us. add_if (atom_kit c) j (lines nodes ls) (insert_all (atom_kit c) j (Some (atoms nodes line)) us)) (sym (atoms_stay c old nodes k (get_or items i d) (all_get (AreAtomIds c old) items i d l g))) in
      subst (λ ks. AreLines c new ks ls2) (sym e) t

  pub products_step : (firsts others : List (List FormulaId)) (i : ℕ) (d : List FormulaId) (ls ls2 : List (List FormulaId)) → i < length firsts → AreLineIds c old firsts → AreLineIds c old others
      → AreLines c nodes (add_products (atom_kit c) j [] (lines old (take i firsts)) (lines old others)) ls
      → AreLines c new (add_line_products (atom_kit c) j (lines nodes ls) (atoms nodes (get_or firsts i d)) (lines nodes others)) ls2
      → AreLines c new (add_products (atom_kit c) j [] (lines old (take (i + 1) firsts)) (lines old others)) ls2
  products_step firsts others i d ls ls2 l h g s t =
      let one_more : lines old (take (i + 1) firsts) ≡ lines old (take i firsts) ++ atoms old (get_or firsts i d) ∷ [] =
      ap (lines old) (take_more firsts i d l) ∙ map-append (atoms old) (take i firsts) (get_or firsts i d ∷ []) in
      let e : add_products (atom_kit c) j [] (lines old (take (i + 1) firsts)) (lines old others) ≡ add_line_products (atom_kit c) j (lines nodes ls) (atoms nodes (get_or firsts i d)) (lines nodes others) =
      ap (λ ks. add_products (atom_kit c) j [] ks (lines old others)) one_more ∙ products_then (atom_kit c) j [] (lines old (take i firsts)) (atoms old (get_or firsts i d) ∷ []) (lines old others)
      ∙ ap (λ ks. add_line_products (atom_kit c) j ks (atoms old (get_or firsts i d)) (lines old others)) (sym s.same)
      ∙ ap (λ us. add_line_products (atom_kit c) j (lines nodes ls) us (lines old others)) (sym (atoms_stay c old nodes k (get_or firsts i d) (all_get (AreAtomIds c old) firsts i d l h)))
      ∙ ap (λ ks. add_line_products (atom_kit c) j (lines nodes ls) (atoms nodes (get_or firsts i d)) ks) (sym (lines_stay c old nodes k others g)) in
      subst (λ ks. AreLines c new ks ls2) (sym e) t
