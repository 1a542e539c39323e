-- The words of one length are all that a text of that length can be.
use Rattle.std.proofs.Common.{◌≡◌, ℕ, Bool, true, false, List, [], ◌∷◌, length, map, sym, refl, ap, ◌∙◌, subst, arith}
use Rattle.std.specs.Prelude.{◌==◌, ◌||◌, Option, Some, is_some, filter, bytes_eq, if◌then◌else◌}
use Rattle.std.proofs.lemmas.Slice.Eq.{bytes_eq-Decides}
use Rattle.language_meaning.specs.Names.{is_one_of, keywords}
use Rattle.language_meaning.specs.declared.terminal.Word.{Word}
use Rattle.language_meaning.specs.Terminals.{words, known}

is_same : (n : ℕ) → (n == n) ≡ true
is_same n = grind arith

same_length : (text word : List ℕ) → bytes_eq text word ≡ true → (length word == length text) ≡ true
same_length text word e = let same = (bytes_eq-Decides text word).0 e in subst (λ t. (length word == length t) ≡ true) (sym same) (is_same (length word))

one_more : (text : List ℕ) (w : List ℕ × Word) (ws rest : List (List ℕ × Word)) (is kept : Bool) → (is ≡ true → kept ≡ true) → known text ws ≡ known text rest → bytes_eq text w.0 ≡ is
    → known text (w ∷ ws) ≡ known text (if kept then w ∷ rest else rest)
one_more text w ws rest is true same e f = ap (λ o. if bytes_eq text w.0 then Some w.1 else o) e
one_more text w ws rest true false same e f = absurd (let h = same refl in cc)
one_more text w ws rest false false same e f = ap (λ b. if b then Some w.1 else known text ws) f ∙ e

-- a text is one of these words exactly if it is one of those that have its length
pub known_filter : (text : List ℕ) (ws : List (List ℕ × Word)) → known text ws ≡ known text (filter (λ w. length w.0 == length text) ws)
known_filter text [] = refl
known_filter text (w ∷ ws) = one_more text w ws (filter (λ w. length w.0 == length text) ws) (bytes_eq text w.0) (length w.0 == length text) (same_length text w.0) (known_filter text ws) refl

some_if : (b c : Bool) (x : Word) (o : Option Word) → is_some o ≡ c → is_some (if b then Some x else o) ≡ (b || c)
some_if true c x o e = refl
some_if false c x o e = e

some_known : (text : List ℕ) (ws : List (List ℕ × Word)) → is_some (known text ws) ≡ is_one_of text (map (λ w. w.0) ws)
some_known text [] = refl
some_known text (w ∷ ws) = some_if (bytes_eq text w.0) _ w.1 (known text ws) (some_known text ws)

pub keyword_known : (text : List ℕ) → is_some (known text words) ≡ is_one_of text keywords
keyword_known text = some_known text words

-- no word has another length than these
pub no_word : (n : ℕ) → (2 == n) ≡ false → (3 == n) ≡ false → (4 == n) ≡ false → (5 == n) ≡ false → (6 == n) ≡ false → (7 == n) ≡ false → (8 == n) ≡ false → (9 == n) ≡ false → (12 == n) ≡ false
    → filter (λ w. length w.0 == n) words ≡ []
no_word n e2 e3 e4 e5 e6 e7 e8 e9 e12 = simp (e2, e3, e4, e5, e6, e7, e8, e9, e12)
