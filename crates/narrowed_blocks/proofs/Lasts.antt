-- One element more of a list: the rows of its atoms, the names that are left, those that may go, and the formulas that are made.
use Rattle.std.proofs.Common.{◌≡◌, ℕ, zero, suc, arith, ◌+◌, ◌<◌, List, [], ◌∷◌, ◌++◌, length, get_or, take, sym, ap, subst, ◌∙◌, refl, ⊎_elim, map}
use Rattle.std.specs.List.{AllByRecursion}
use Rattle.std.proofs.lemmas.List.{take_more, map-append}
use Rattle.logic_meaning.specs.Context.{Context}
use Rattle.logic_meaning.specs.Every.{FreeInSome}
use Rattle.logic_meaning.specs.Formula.{One, also}
use Rattle.logic_meaning.specs.Some.{Among, EachOf}
use Rattle.logic_meaning.specs.Atom as meant
use Rattle.logic_meaning.specs.Atom.{Mentions}
use Rattle.logic_meaning.specs.Tree.{Tree, IsFree}
use Rattle.logic_meaning.specs.declared.form.VarId.{VarId}
use Rattle.elimination_theory.proofs.SomeListed.{each_among, each_map}
use Rattle.normal_atoms.specs.declared.atoms.Atom.{Atom}
use Rattle.normal_atoms.specs.Atoms.{atom_of}
use Rattle.formula_tree.specs.declared.shape.Shape.{Shape}
use Rattle.formula_tree.specs.Makers.{AreMade, IsMade, Keeps}
use Rattle.formula_tree.specs.Trees.{members}
use Rattle.formula_store.specs.declared.id.FormulaId.{FormulaId}
use Rattle.formula_store.specs.Nodes.{tree, IsId}
use Rattle.atom_pruning.specs.declared.rows.AtomRows.{AtomRows}
use Rattle.atom_pruning.specs.Rows.{AreRowsOf, AreRows}
use Rattle.case_theory.proofs.Lists.{each_from}
use Rattle.narrowed_blocks.specs.Narrowing.{listed}
use Rattle.narrowed_blocks.proofs.Members.{free_last}

-- ---- lists

-- the mapped list of one element more
pub mapped_more : {X Y : Type 0} (f : X → Y) (xs : List X) (i : ℕ) (x : X) → i < length xs → x ≡ get_or xs i x → map f (take (i + 1) xs) ≡ map f (take i xs) ++ f x ∷ []
mapped_more f xs i x l e = ap (map f) (take_more xs i x l ∙ ap (λ v. take i xs ++ v ∷ []) (sym e)) ∙ map-append f (take i xs) (x ∷ [])

-- what each has, one has
pub each_at : {X : Type 0} (P : X → Type 0) (xs : List X) (i : ℕ) (d : X) → i < length xs → EachOf P xs → P (get_or xs i d)
each_at P [] i d l h = absurd (omega arith)
each_at P (x ∷ xs) zero d l h = h.0
each_at P (x ∷ xs) (suc i) d l h = each_at P xs i d (omega arith) h.1

-- a list of no length has no elements
pub empty : {X : Type 0} (xs : List X) → length xs ≡ 0 → xs ≡ []
empty [] e = refl
empty (x ∷ xs) e = cc

-- ---- rows

-- the rows of two lists of atoms, one after the other
rows_joined : (c : Context) (us vs : List meant.Atom) (rows more : List AtomRows) → AreRows c us rows → AreRows c vs more → AreRows c (us ++ vs) (rows ++ more)
rows_joined c [] vs [] more h k = k
rows_joined c (u ∷ us) vs (r ∷ rows) more h k = (h.0, rows_joined c us vs rows more h.1 k)
rows_joined c [] vs (r ∷ rows) more h k = absurd h
rows_joined c (u ∷ us) vs [] more h k = absurd h

-- the rows of one atom more
pub rows_more : (c : Context) (us : List Atom) (i : ℕ) (u : Atom) (rows : List AtomRows) (r : AtomRows) → i < length us → u ≡ get_or us i u → AreRows c (map atom_of (take i us)) rows → AreRowsOf c (atom_of u) r → AreRows c (map atom_of (take (i + 1) us)) (rows ++ r ∷ [])
rows_more c us i u rows r l e h k = subst (λ vs. AreRows c vs (rows ++ r ∷ [])) (sym (mapped_more atom_of us i u l e)) (rows_joined c (map atom_of (take i us)) (atom_of u ∷ []) rows (r ∷ []) h (k, tt))

-- ---- names

-- the name is one of these and stands in none of the formulas
abbrev pub Movable : List VarId → List Tree → VarId → Type 0
Movable names ts x = Among names x × ¬ (FreeInSome Mentions (members ts) x.number)

-- those that stand in one more formula go
pub movable_more : (names : List VarId) (ts : List Tree) (t : Tree) (old new : List VarId) → EachOf (Movable names ts) old → EachOf (λ (x : VarId). Among old x × ¬ (IsFree t x.number)) new → EachOf (Movable names (ts ++ t ∷ [])) new
movable_more names ts t old new h k = each_map (λ (x : VarId). Among old x × ¬ (IsFree t x.number)) (Movable names (ts ++ t ∷ [])) (λ x m. let r = each_among (Movable names ts) old x h m.0 in (r.0, λ s. ⊎_elim r.1 m.1 (free_last ts t x.number s))) new k

-- before the first formula each name may go
pub movable_first : (names : List VarId) → EachOf (Movable names []) names
movable_first names = each_from (Movable names []) names (λ x m. (m, λ s. s))

-- ---- formulas

-- each formula stays
abbrev pub KeepsAll : List (Shape FormulaId) → List (Shape FormulaId) → Type 0
KeepsAll a b = Keeps (IsId a) (tree a) (IsId b) (tree b)

-- what is made stays made
pub made_kept : (a b : List (Shape FormulaId)) → KeepsAll a b → (ids : List FormulaId) (fs : List Tree) → AreMade (IsId a) (tree a) ids fs → AreMade (IsId b) (tree b) ids fs
made_kept a b k ids fs h = record { are = are ids h.are; same = same ids h.are ∙ h.same }
  where
    are : (xs : List FormulaId) → AllByRecursion (IsId a) xs → AllByRecursion (IsId b) xs
    are [] n = tt
    are (x ∷ xs) n = (k.is x n.0, are xs n.1)

    same : (xs : List FormulaId) → AllByRecursion (IsId a) xs → map (tree b) xs ≡ map (tree a) xs
    same [] n = refl
    same (x ∷ xs) n = λ i. k.same x n.0 i ∷ same xs n.1 i

-- two lists of them, one after the other
pub made_joined : (n : List (Shape FormulaId)) (xs ys : List FormulaId) (fs gs : List Tree) → AreMade (IsId n) (tree n) xs fs → AreMade (IsId n) (tree n) ys gs → AreMade (IsId n) (tree n) (xs ++ ys) (fs ++ gs)
made_joined n xs ys fs gs h k = record { are = are xs h.are; same = map-append (tree n) xs ys ∙ (λ i. h.same i ++ k.same i) }
  where
    are : (zs : List FormulaId) → AllByRecursion (IsId n) zs → AllByRecursion (IsId n) (zs ++ ys)
    are [] m = k.are
    are (z ∷ zs) m = (m.0, are zs m.1)

-- one formula more is made
pub made_more : (a b : List (Shape FormulaId)) → KeepsAll a b → (ids : List FormulaId) (fs : List Tree) → AreMade (IsId a) (tree a) ids fs → (id : FormulaId) (f : Tree) → IsMade (IsId b) (tree b) id f → AreMade (IsId b) (tree b) (ids ++ id ∷ []) (fs ++ f ∷ [])
made_more a b k ids fs h id f m = made_joined b ids (id ∷ []) fs (f ∷ []) (made_kept a b k ids fs h) (record { are = (m.is, tt); same = λ i. m.same i ∷ [] })

-- an atom as a formula
abbrev pub one_of : Atom → Tree
one_of a = One (atom_of a)

-- each id is one: by recursion
all_ids : (n : List (Shape FormulaId)) (ids : List FormulaId) → EachOf (IsId n) ids → AllByRecursion (IsId n) ids
all_ids n [] h = tt
all_ids n (id ∷ ids) h = (h.0, all_ids n ids h.1)

-- the formulas of the atoms, and the others behind them
pub all_made : (a b : List (Shape FormulaId)) → KeepsAll a b → (atoms : List Atom) (ids others : List FormulaId) → AreMade (IsId b) (tree b) ids (map one_of atoms) → EachOf (IsId a) others → AreMade (IsId b) (tree b) (ids ++ others) (map one_of atoms ++ map (tree a) others)
all_made a b k atoms ids others h each = made_joined b ids others (map one_of atoms) (map (tree a) others) h (made_kept a b k others (map (tree a) others) (record { are = all_ids a others each; same = refl }))

-- atoms as formulas, and others, are the listed members
pub members_listed : (atoms : List Atom) (ts : List Tree) → members (map one_of atoms ++ ts) ≡ listed (map atom_of atoms) (members ts)
members_listed [] ts = refl
members_listed (a ∷ atoms) ts = ap (also (one_of a)) (members_listed atoms ts)
