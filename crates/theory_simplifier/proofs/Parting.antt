-- Atoms of one variable part have the same names, so an atom says nothing of one with other names.
use Rattle.std.proofs.Common.{◌≡◌, ℕ, Bool, true, false, refl, sym, ap, ◌∙◌, Option, Some, None, List, [], ◌∷◌, arith}
use Rattle.std.proofs.Math.IntN.{pos, ◌*ℤ◌}
use Rattle.std.proofs.lemmas.Int.{ints}
use Rattle.std.specs.Prelude.{if◌then◌else◌}
use Rattle.exact_numbers.proofs.Ring.{mul_zero}
use Rattle.exact_numbers.proofs.Order.{cancel}
use Rattle.exact_numbers.proofs.Contents.{content_is}
use Rattle.logic_meaning.specs.Context.{Context}
use Rattle.logic_meaning.specs.Some.{EachOf}
use Rattle.logic_meaning.specs.Form.{Form, multiple, coefficient}
use Rattle.logic_meaning.specs.Atom.{Relation, Atom, Compare, Congruent, Mentions}
use Rattle.logic_meaning.specs.Terms.{coefficients}
use Rattle.linear_forms.proofs.Quotients.{multiple_quotients}
use Rattle.logic_meaning.specs.NormalForm.{IsNormal}
use Rattle.logic_meaning.specs.Merging.{variable_part, SamePart}
use Rattle.normal_atoms.specs.Merged.{IsDecision}
use Rattle.normal_atoms.specs.Computed.{IsNormalWithin, decided_by}
use Rattle.normal_atoms.proofs.Thresholds.{content_positive_in}
use Rattle.normal_atoms.proofs.JoinedComparisons.{content, normal_content}
use Rattle.normal_atoms.proofs.Computed.{decided_right}
use Rattle.logic_meaning.specs.AtomKit.{without}
use Rattle.shape_theory.specs.AtomKit.{atom_kit}
use Rattle.logic_meaning.specs.Contained.{contains}
use Rattle.shape_theory.specs.Pass.{first_answer, decided}
use Rattle.shape_theory.proofs.AtomLaws.{names_told}

pub content_nonzero : (c : Context) (r : Relation) (f : Form) → IsNormal c (Compare r f) → ¬ (content f ≡ pos 0)
content_nonzero c r f n = let p = content_positive_in c (content f) (normal_content c r f n) in λ (e : content f ≡ pos 0). omega (arith, ints)

names_along : (c : Context) (a b : Atom) (x : ℕ) → IsNormal c a → IsNormal c b → SamePart a b → Mentions b x → Mentions a x
unfolding coefficient
names_along c (Compare r f) (Compare s g) x n m h k e =
    let u = content_nonzero c r f n in
    let v = content_nonzero c s g m in
    let p = multiple_quotients (content f) u x f.terms (content_is (coefficients f.terms)).divides in
    let q = multiple_quotients (content g) v x g.terms (content_is (coefficients g.terms)).divides in
    let z : multiple x (variable_part f.terms) ≡ pos 0 = cancel (content f) u (p ∙ e ∙ sym (mul_zero (content f))) in
    k (sym q ∙ ap (λ w. content g *ℤ w) (sym (ap (multiple x) h) ∙ z) ∙ mul_zero (content g))
names_along c (Congruent b m f) (Congruent d o g) x n i h k e = k (sym (ap (multiple x) h.1) ∙ e)
names_along c (Compare r f) (Congruent d o g) x n i h k e = absurd h
names_along c (Congruent b m f) (Compare s g) x n i h k e = absurd h

part_back : (a b : Atom) → SamePart a b → SamePart b a
part_back (Compare r f) (Compare s g) h = sym h
part_back (Congruent b m f) (Congruent d n g) h = (sym h.0, sym h.1)
part_back (Compare r f) (Congruent d n g) h = absurd h
part_back (Congruent b m f) (Compare s g) h = absurd h

told_along : (c : Context) (a b : Atom) (x : ℕ) → IsNormal c a → IsNormal c b → SamePart a b → contains b x ≡ true → contains a x ≡ true
told_along c a b x n m h e = (names_told c).absent a x (names_along c a b x n m h ((names_told c).there b x e))

pub same_test : (s t : Bool) → (s ≡ true → t ≡ true) → (t ≡ true → s ≡ true) → s ≡ t
same_test true t h k = sym (h refl)
same_test false true h k = k refl
same_test false false h k = refl

same_names : (c : Context) (a b : Atom) (x : ℕ) → IsNormal c a → IsNormal c b → SamePart a b → contains a x ≡ contains b x
same_names c a b x n m h = same_test (contains a x) (contains b x) (told_along c b a x m n (part_back a b h)) (told_along c a b x n m h)

-- an atom with a name decides none without it, and none the other way round
pub says_nothing : (c : Context) (k a : Atom) (x : ℕ) → IsNormal c k → IsNormal c a → ¬ (contains k x ≡ contains a x) → decided_by c k a ≡ None
says_nothing c k a x n m d = split (decided_by c k a) (decided_right c k a n m)
  where
    split : (o : Option Bool) → IsDecision c k a o → o ≡ None
    split None h = refl
    split (Some true) h = absurd (d (same_names c k a x n m h.same_part))
    split (Some false) h = absurd (d (same_names c k a x n m h.same_part))

module _ (c : Context) (a : Atom) (x : ℕ) (m : IsNormal c a) where
  -- under the quantifier of a name that the atom has, nothing that is known outside decides it
  pub none_without : contains a x ≡ true → (ks : List Atom) → EachOf (IsNormalWithin c) ks → decided (atom_kit c) (without contains x ks) a ≡ None
  none_without e [] h = refl
  none_without e (k ∷ ks) h = split (contains k x) refl (none_without e ks h.1)
    where
      split : (b : Bool) → contains k x ≡ b → decided (atom_kit c) (without contains x ks) a ≡ None → decided (atom_kit c) (if b then without contains x ks else k ∷ without contains x ks) a ≡ None
      split true q i = i
      split false q i =
          ap (λ o. first_answer o (decided (atom_kit c) (without contains x ks) a)) (says_nothing c k a x h.0.normal m (λ s. let w : false ≡ true = sym q ∙ s ∙ e in absurd (cc (w)))) ∙ i

  -- under that of a name that it has not, the same decide it
  pub same_without : contains a x ≡ false → (ks : List Atom) → EachOf (IsNormalWithin c) ks → decided (atom_kit c) (without contains x ks) a ≡ decided (atom_kit c) ks a
  same_without e [] h = refl
  same_without e (k ∷ ks) h = split (contains k x) refl (same_without e ks h.1)
    where
      split : (b : Bool) → contains k x ≡ b → decided (atom_kit c) (without contains x ks) a ≡ decided (atom_kit c) ks a → decided (atom_kit c) (if b then without contains x ks else k ∷ without contains x ks) a ≡ first_answer (decided_by c k a) (decided (atom_kit c) ks a)
      split true q i = i ∙ ap (λ o. first_answer o (decided (atom_kit c) ks a)) (sym (says_nothing c k a x h.0.normal m (λ s. let w : true ≡ false = sym q ∙ s ∙ e in absurd (cc (w)))))
      split false q i = ap (first_answer (decided_by c k a)) i
