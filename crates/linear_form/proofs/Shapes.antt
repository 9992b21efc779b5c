-- Terms by their nodes: how many arguments they have.
use Rattle.std.proofs.Common.{◌≡◌, ℕ, List, map, length, sym, ap, ◌∙◌}
use Rattle.std.proofs.lemmas.List.{length-map}
use Rattle.spec_sorts.specs.Terms.{Head, Term, app, of, list_of}
use Rattle.spec_sorts.proofs.General.{list_of-terms_of}
use Rattle.term_core.specs.Tables.{TableView, Shape, head_meant, term_at, shape_term}

-- how many arguments a term has
abbrev count : Term → ℕ
count (app h ts) = length (list_of ts)

counted : (h : Head) (ts : List Term) → count (of h ts) ≡ length ts
counted h ts = ap (λ (us : List Term). length us) (list_of-terms_of ts)

-- a term has as many arguments as its node
pub as_many : (t : TableView) (s : Shape) (e : Term) (h : Head) (us : List Term) → e ≡ shape_term t s → e ≡ of h us → length s.arguments ≡ length us
as_many t s e h us means is =
    sym (length-map s.arguments (term_at t)) ∙ sym (counted (head_meant t s.head) (map (term_at t) s.arguments)) ∙ ap count (sym means ∙ is) ∙ counted h us
