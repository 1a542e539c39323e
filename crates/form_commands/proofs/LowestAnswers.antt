-- Lists of answers in lowest terms.
use Rattle.std.proofs.Common.{◌≡◌, ℕ, ◌+◌, ◌<◌, List, [], ◌∷◌, ◌++◌, map, take, get_or, length, ap, ap₂, sym, ◌∙◌}
use Rattle.std.proofs.lemmas.List.{map-append, map_more}
use Rattle.test_points.specs.declared.points.TestPoint.{TestPoint}
use Rattle.test_points.specs.Points.{answer_of}
use Rattle.form_commands.specs.Lowest.{lowest_answer}

-- one answer more
pub answers_more : (us made made2 : List TestPoint) (i : ℕ) (t u : TestPoint) → i < length us → map answer_of made ≡ map lowest_answer (map answer_of (take i us)) → made2 ≡ made ++ t ∷ [] → u ≡ get_or us i u →
    answer_of t ≡ lowest_answer (answer_of u) → map answer_of made2 ≡ map lowest_answer (map answer_of (take (i + 1) us))
answers_more us made made2 i t u inside so_far pushed here is =
    ap (map answer_of) pushed ∙ map-append answer_of made (t ∷ []) ∙ ap₂ (λ xs a. xs ++ a ∷ []) so_far (is ∙ ap (λ v. lowest_answer (answer_of v)) here)
    ∙ sym (ap (map lowest_answer) (map_more answer_of us i u inside) ∙ map-append lowest_answer (map answer_of (take i us)) (answer_of (get_or us i u) ∷ []))
