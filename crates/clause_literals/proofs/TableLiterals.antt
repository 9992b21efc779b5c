-- Literals of the table of terms: what they mean, and those of a clause.
use Rattle.std.proofs.Common.{◌≡◌, ℕ, ◌+◌, ◌<◌, Bool, List, [], ◌∷◌, ◌++◌, map, length, get_or, take, sym, ap, ◌∙◌, subst}
use Rattle.std.proofs.lemmas.List.{map-append, map_more}
use Rattle.std.proofs.lemmas.List.Elements.{All-push}
use Rattle.spec_sorts.specs.Literals.{Literal, literal_of, literals_of}
use Rattle.term_core.specs.declared.ids.TermId.{TermId}
use Rattle.term_core.specs.declared.ids.Lit.{Lit}
use Rattle.term_core.specs.Tables.{TableView, term_at, IsIn, AreDifferent, literal_at, clause_at}
use Rattle.clause_literals.specs.Literals.{AreLiteralsIn, LiteralsMean}

-- different literals of the table mean different ones
pub literals_apart : (t : TableView) → AreDifferent t.terms → (l m : Lit) → IsIn t l.term → IsIn t m.term → literal_at t l ≡ literal_at t m → l ≡ m
literals_apart t differ l m l_in m_in e =
    let make : ℕ → Bool → Lit = λ n p. record { term = record { 0 = n }; positive = p } in
    let numbers = differ l.term.0 m.term.0 l_in m_in (ap (λ (x : Literal). x.atom) e) in
    λ j. make (numbers j) (ap (λ (x : Literal). x.positive) e j)

-- a clause with one more literal
pub means_more : (t : TableView) (ids : List TermId) (i : ℕ) (d : TermId) (ls new : List Lit) (l : Lit) → i < length ids → new ≡ ls ++ l ∷ []
    → literal_at t l ≡ literal_of (term_at t (get_or ids i d)) → IsIn t l.term → LiteralsMean t ls (clause_at t (take i ids)) → LiteralsMean t new (clause_at t (take (i + 1) ids))
means_more t ids i d ls new l lt n e l_in h = record {
  same = ap (map (literal_at t)) n ∙ map-append (literal_at t) ls (l ∷ []) ∙ (λ j. h.same j ++ e j ∷ [])
      ∙ sym (map-append literal_of (clause_at t (take i ids)) (term_at t (get_or ids i d) ∷ [])) ∙ sym (ap literals_of (map_more (term_at t) ids i d lt));
  there = subst (λ (xs : List Lit). AreLiteralsIn t xs) (sym n) (All-push (λ m. IsIn t m.term) ls l h.there l_in);
}
