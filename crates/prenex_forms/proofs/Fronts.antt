-- Blocks and places at each way to make a formula in negation normal form.
use Rattle.std.proofs.Common.{◌≡◌, ◌++◌, ◌∷◌, [], List, ℕ, Bool, true, false, max, refl, sym, ap, ◌∙◌, append_assoc}
use Rattle.std.proofs.lemmas.List.{append-nil}
use Rattle.logic_meaning.specs.declared.quantifier.Quantifier.TheVariants.{Exists, ForAll}
use Rattle.logic_meaning.specs.declared.junction.Junction.TheVariants.{Conjunction, Disjunction}
use Rattle.logic_meaning.specs.Fold.{joined}
use Rattle.logic_meaning.specs.Shape.{blocks_from, most_blocks, quantified}
use Rattle.logic_meaning.specs.declared.quantifier.Quantifier.{Quantifier}
use Rattle.logic_meaning.specs.Tree.{Tree, Trees}
use Rattle.logic_meaning.specs.NormalForm.{constant_tree}
use Rattle.logic_meaning.specs.declared.junction.Junction.{Junction}
use Rattle.logic_meaning.specs.Blocks.{matrix, matrices}
use Rattle.prenex_forms.specs.declared.front.Place.{Place}
use Rattle.prenex_forms.specs.Places.{level_behind, place_at, placed, placed_in}

pub constant_blocks : (b : Bool) (q : Quantifier) → 0 ≡ blocks_from (constant_tree b) q
constant_blocks true q = refl
constant_blocks false q = refl

pub joined_blocks : (j : Junction) (fs : Trees) (q : Quantifier) → most_blocks fs q ≡ blocks_from (joined j fs) q
joined_blocks Conjunction fs q = refl
joined_blocks Disjunction fs q = refl

pub own_blocks : (q : Quantifier) (x : ℕ) (f : Tree) → max 1 (blocks_from f q) ≡ blocks_from (quantified q x f) q
own_blocks Exists x f = refl
own_blocks ForAll x f = refl

pub constant_matrix : (b : Bool) → constant_tree b ≡ matrix (constant_tree b)
constant_matrix true = refl
constant_matrix false = refl

pub joined_matrix : (j : Junction) (fs : Trees) → joined j (matrices fs) ≡ matrix (joined j fs)
joined_matrix Conjunction fs = refl
joined_matrix Disjunction fs = refl

pub quantified_matrix : (q : Quantifier) (x : ℕ) (f : Tree) → matrix f ≡ matrix (quantified q x f)
quantified_matrix Exists x f = refl
quantified_matrix ForAll x f = refl

pub constant_placed : (b : Bool) (q : Quantifier) (l : ℕ) → placed q l (constant_tree b) ≡ []
constant_placed true q l = refl
constant_placed false q l = refl

pub joined_placed : (j : Junction) (fs : Trees) (q : Quantifier) (l : ℕ) → placed_in q l fs ≡ placed q l (joined j fs)
joined_placed Conjunction fs q l = refl
joined_placed Disjunction fs q l = refl

pub quantified_placed : (r : Quantifier) (x : ℕ) (f : Tree) (q : Quantifier) (l : ℕ) → place_at (level_behind q l r) x ∷ placed r (level_behind q l r) f ≡ placed q l (quantified r x f)
quantified_placed Exists x f q l = refl
quantified_placed ForAll x f q l = refl

-- what a formula in negation normal form gives
pub ruleset fronts = (constant_blocks, joined_blocks, own_blocks, constant_matrix, joined_matrix, quantified_matrix, constant_placed, joined_placed, quantified_placed)

-- nothing more at the end
pub nothing_more : (ps qs rs : List Place) → qs ≡ ps → rs ≡ [] → qs ≡ ps ++ rs
nothing_more ps qs rs e z = e ∙ sym (append-nil ps) ∙ ap (λ xs. ps ++ xs) (sym z)

-- places behind one more
pub one_more : (ps qs rs ss : List Place) (p : Place) → qs ≡ ps ++ p ∷ [] → rs ≡ qs ++ ss → rs ≡ ps ++ p ∷ ss
one_more ps qs rs ss p e h = h ∙ ap (λ xs. xs ++ ss) e ∙ append_assoc ps (p ∷ []) ss

-- one member's places more
pub members_more : (ps qs start new rest all : List Place) → ps ++ (new ++ rest) ≡ all → qs ≡ ps ++ new → qs ++ rest ≡ all
members_more ps qs start new rest all h e = ap (λ xs. xs ++ rest) e ∙ append_assoc ps new rest ∙ h
