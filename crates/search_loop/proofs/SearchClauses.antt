-- Literals of the terms of a clause, one after the other.
use Rattle.std.proofs.Common.{◌≡◌, ◌≢◌, ℕ, ◌+◌, ◌<◌, List, length, get_or, take, Contains, inl, inr, sym, ◌∙◌, subst}
use Rattle.std.proofs.lemmas.List.Elements.{Contains-push_cases}
use Rattle.spec_sorts.specs.Literals.{Literal, literal_of, literals_of}
use Rattle.term_core.specs.declared.ids.TermId.{TermId}
use Rattle.term_core.specs.declared.ids.Lit.{Lit}
use Rattle.term_core.specs.Tables.{TableView, term_at, IsIn, AreDifferent, clause_at, literal_at}
use Rattle.clause_literals.specs.Literals.{lit_complement}
use Rattle.clause_literals.proofs.TableLiterals.{literals_apart}
use Rattle.conflict_learn.proofs.Meanings.{literals_more, literal_in}
use Rattle.search_loop.specs.Implying.{IsLitOf, AreFalseBut}

-- the literal of a place
module _ (t : TableView) (ids : List TermId) (i : ℕ) (d : TermId) (lt : i < length ids) (m : Lit) (in_table : IsIn t m.term) (means : literal_at t m ≡ literal_of (term_at t (get_or ids i d))) where
  -- the clause has it
  pub lit_at : IsLitOf t ids m
  lit_at = record { in_table = in_table; there = subst (Contains (literals_of (clause_at t ids))) (sym means) (literal_in t ids i d lt) }

  -- where it is false, or the one, so are all up to it
  pub false_more : AreDifferent t.terms → (held : List Lit) (one : Lit) → AreFalseBut t held (take i ids) one → (m ≢ one → Contains held (lit_complement m)) → AreFalseBut t held (take (i + 1) ids) one
  false_more differ held one before now k has other =
      let there : Contains _ (literal_at t k) = subst (λ (ls : List Literal). Contains ls (literal_at t k)) (literals_more t ids i d lt) has.there in
      elim (Contains-push_cases (literals_of (clause_at t (take i ids))) (literal_of (term_at t (get_or ids i d))) (literal_at t k) there) [
        | inl was ↦ before k (record { in_table = has.in_table; there = was }) other
        | inr is ↦
            let same : m ≡ k = literals_apart t differ m k in_table has.in_table (means ∙ is) in
            subst (λ (z : Lit). Contains held (lit_complement z)) same (now (λ e. other (sym same ∙ e)))
      ]
