-- The empty clause among those of names.
use Rattle.std.proofs.Common.{◌≡◌, ℕ, subst, zero, suc, Bool, true, false, cond, ◌==◌, ◌⊎◌, inl, inr, List, [], ◌∷◌, length, get_or, ◌<◌, refl, ap, ◌∙◌, arith}
use Rattle.std.specs.Prelude.{Any, MatchBool}
use Rattle.std.proofs.lemmas.Bool.{eqb-true}
use Rattle.std.proofs.lemmas.Bool.Decides.{nat_tests}
use Rattle.spec_text.specs.Bytes.{Name}
use Rattle.spec_checking.specs.Commands.{NamedClause, Known}
use Rattle.spec_checking.specs.Judging.{HasEmptyClause}
use Rattle.term_core.specs.declared.ids.TermId.{TermId}
use Rattle.term_core.specs.Tables.{TableView, clause_at}
use Rattle.alethe_reader.specs.declared.proof_state.ProofState.{ProofState}
use Rattle.alethe_reader.specs.Holding.{entries_of, IsKnown}
use Rattle.alethe_check.specs.Judging.{some_empty}

abbrev pub IsEmpty : NamedClause → Type 0
IsEmpty e = e.clause ≡ []

any_here : (e : NamedClause) (es : List NamedClause) → IsEmpty e → Any IsEmpty (e ∷ es)
any_here e es p = (zero, e, omega arith, refl, p)

any_later : (e : NamedClause) (es : List NamedClause) → Any IsEmpty es → Any IsEmpty (e ∷ es)
any_later e es a = (suc a.0, a.1, omega (arith, a.2), a.3, a.4)

any_cases : (e : NamedClause) (es : List NamedClause) → Any IsEmpty (e ∷ es) → IsEmpty e ⊎ Any IsEmpty es
any_cases e es a = go a.0 a.2 a.3
  where
    go : (k : ℕ) → k < length (e ∷ es) → get_or (e ∷ es) k a.1 ≡ a.1 → IsEmpty e ⊎ Any IsEmpty es
    go zero l s = inl (ap (λ (x : NamedClause). x.clause) s ∙ a.4)
    go (suc k) l s = inr (k, a.1, omega (arith, l), s, a.4)

none_left : (t : TableView) (c : List TermId) → clause_at t c ≡ [] → length c ≡ 0
none_left t [] e = refl
none_left t (x ∷ c) e = cc

nothing_left : (t : TableView) (c : List TermId) → length c ≡ 0 → clause_at t c ≡ []
nothing_left t [] e = refl
nothing_left t (x ∷ c) e = absurd (omega arith)

empty_exact : (t : TableView) (ns : List Name) (cs : List (List TermId)) (b : Bool) → length ns ≡ length cs → b ≡ some_empty cs → MatchBool b (Any IsEmpty (entries_of t ns cs)) (Any IsEmpty (entries_of t ns cs) → ⊥)
empty_exact t [] [] b l e = rw e (λ a. absurd (omega (arith, a.2)))
empty_exact t [] (c ∷ cs) b l e = absurd (omega arith)
empty_exact t (n ∷ ns) [] b l e = absurd (omega arith)
empty_exact t (n ∷ ns) (c ∷ cs) b l e = go (length c == 0) refl b e (empty_exact t ns cs (some_empty cs) (omega arith) refl)
  where
    entry : NamedClause
    entry = record { name = n; clause = clause_at t c }

    rest : List NamedClause
    rest = entries_of t ns cs

    later : (b : Bool) → (length c ≡ 0 → ⊥) → MatchBool b (Any IsEmpty rest) (Any IsEmpty rest → ⊥) → MatchBool b (Any IsEmpty (entry ∷ rest)) (Any IsEmpty (entry ∷ rest) → ⊥)
    later true filled h = any_later entry rest h
    later false filled h = λ a. elim (any_cases entry rest a) [ inl p ↦ filled (none_left t c p) | inr q ↦ h q ]

    go : (z : Bool) → (length c == 0) ≡ z → (b : Bool) → b ≡ cond z true (some_empty cs) → MatchBool (some_empty cs) (Any IsEmpty rest) (Any IsEmpty rest → ⊥) → MatchBool b (Any IsEmpty (entry ∷ rest)) (Any IsEmpty (entry ∷ rest) → ⊥)
    go true q b e h = rw e (any_here entry rest (nothing_left t c (eqb-true (length c) 0 q)))
    go false q b e h = rw e (later (some_empty cs) (λ z. grind (arith, nat_tests)) h)

-- whether a command that is known has the empty clause
pub empty_known : (h : ProofState) (k : Known) (b : Bool) → IsKnown h k → b ≡ some_empty h.clauses.items → MatchBool b (HasEmptyClause k) (HasEmptyClause k → ⊥)
empty_known h k b known e = subst (λ (es : List NamedClause). MatchBool b (Any IsEmpty es) (Any IsEmpty es → ⊥)) known.entries (empty_exact h.table h.names h.clauses.items b known.paired e)
