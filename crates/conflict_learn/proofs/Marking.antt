-- One mark more, one level more.
use Rattle.std.proofs.Common.{◌≡◌, ℕ, ◌<◌, ◌≤◌, Bool, true, false, List, [], ◌∷◌, ◌++◌, length, set, ◌⊎◌, inl, inr, refl, sym, ◌∙◌, subst, arith}
use Rattle.std.proofs.lemmas.Bool.{cases_eq}
use Rattle.std.proofs.lemmas.List.{length-set, get_or-set_same, get_or-set_other}
use Rattle.std.proofs.lemmas.List.Elements.{Contains-push, Contains-push_cases, Contains-append_left}
use Rattle.spec_text.proofs.Members.{none}
use Rattle.spec_sorts.specs.Literals.{Literal}
use Rattle.term_core.specs.declared.ids.Lit.{Lit}
use Rattle.term_core.specs.Tables.{TableView, IsIn, AreDifferent, literal_at}
use Rattle.clause_literals.proofs.TableLiterals.{literals_apart}
use Rattle.sat_trail.specs.Trails.{TrailView, VariablesAreApart}
use Rattle.proof_log.specs.Clashes.{literals_in}
use Rattle.conflict_learn.specs.Conflicts.{Conflict, IsFalseAt, IsConflictLevel}
use Rattle.conflict_learn.specs.Analyses.{IsGreatestOf, IsVariableMarked, MarksVariables}
use Rattle.conflict_learn.proofs.Places.{one_level}

-- no level is reached by no literals
pub greatest_none : (t : TableView) (v : TrailView) → IsGreatestOf t v [] 0
greatest_none t v = record { greatest = λ m k there i f. absurd (none (literal_at t m) i); reached = inl refl }

-- one literal more
pub greatest_more : (t : TableView) (v : TrailView) (ls : List Literal) (old own new : ℕ) (m : Lit) → AreDifferent t.terms → VariablesAreApart v.literals → IsIn t m.term → IsFalseAt v m own
    → old ≤ new → own ≤ new → (new ≡ old) ⊎ (new ≡ own) → IsGreatestOf t v ls old → IsGreatestOf t v (ls ++ literal_at t m ∷ []) new
greatest_more t v ls old own new m differ once there f old_le own_le one g = record {
  greatest = λ n k n_in i h. elim (Contains-push_cases ls (literal_at t m) (literal_at t n) i) [
    | inl was ↦ let le = g.greatest n k n_in was h in omega (arith, le, old_le)
    | inr e ↦
        let same : m ≡ n = literals_apart t differ m n there n_in e in
        let level : own ≡ k = one_level v once n own k (subst (λ (x : Lit). IsFalseAt v x own) same f) h in
        omega (arith, level, own_le)
  ];
  reached = elim one [
    | inl e ↦ elim g.reached [
      | inl z ↦ inl (e ∙ z)
      | inr h ↦ inr (h.0, h.1, Contains-append_left ls (literal_at t m ∷ []) (literal_at t h.0) h.2, subst (IsFalseAt v h.0) (sym e) h.3)
    ]
    | inr e ↦ inr (m, there, Contains-push ls (literal_at t m), subst (IsFalseAt v m) (sym e) f)
  ];
}

-- nothing is marked for nothing
pub marks_none : (t : TableView) (old : List Bool) → MarksVariables t [] old old
marks_none t old = record { size = refl; kept = λ n h. h; added = λ x i. absurd (none x i); only = λ n h. inl h }

-- one variable more
pub marks_more : (t : TableView) (ls : List Literal) (old mid : List Bool) (l : Lit) → IsIn t l.term → l.term.0 < length mid → MarksVariables t ls old mid → MarksVariables t (ls ++ literal_at t l ∷ []) old (set mid l.term.0 true)
marks_more t ls old mid l there lt h = record {
  size = length-set mid l.term.0 true ∙ h.size;
  kept = λ n m. stays n (h.kept n m);
  added = λ x i. elim (Contains-push_cases ls (literal_at t l) x i) [
    | inl was ↦ let a = h.added x was in (a.0, a.1, a.2, stays a.0.term.0 a.3)
    | inr e ↦ (l, there, e, here)
  ];
  only = λ n m. elim (cases_eq l.term.0 n) [
    | inl e ↦ inr (l, there, Contains-push ls (literal_at t l), e)
    | inr ne ↦ elim (h.only n (sym (get_or-set_other mid l.term.0 n true false (λ e. ne (sym e))) ∙ m)) [
      | inl was ↦ inl was
      | inr a ↦ inr (a.0, a.1, Contains-append_left ls (literal_at t l ∷ []) (literal_at t a.0) a.2, a.3)
    ]
  ];
}
  where
    here : IsVariableMarked (set mid l.term.0 true) l.term.0
    here = get_or-set_same mid l.term.0 true false lt

    stays : (n : ℕ) → IsVariableMarked mid n → IsVariableMarked (set mid l.term.0 true) n
    stays n m = elim (cases_eq l.term.0 n) [
      | inl e ↦ subst (IsVariableMarked (set mid l.term.0 true)) e here
      | inr ne ↦ get_or-set_other mid l.term.0 n true false (λ e. ne (sym e)) ∙ m
    ]

-- one that was marked
pub marks_again : (t : TableView) (ls : List Literal) (old mid : List Bool) (l : Lit) → IsIn t l.term → IsVariableMarked mid l.term.0 → MarksVariables t ls old mid → MarksVariables t (ls ++ literal_at t l ∷ []) old mid
marks_again t ls old mid l there m h = record {
  size = h.size;
  kept = h.kept;
  added = λ x i. elim (Contains-push_cases ls (literal_at t l) x i) [ inl was ↦ h.added x was | inr e ↦ (l, there, e, m) ];
  only = λ n is. elim (h.only n is) [
    | inl was ↦ inl was
    | inr a ↦ inr (a.0, a.1, Contains-append_left ls (literal_at t l ∷ []) (literal_at t a.0) a.2, a.3)
  ];
}

-- of the literals of the conflict the greatest level is the conflict's
pub greatest_level : (c : Conflict) (n : ℕ) → IsGreatestOf c.table c.trail (literals_in c.table c.log c.clash) n → IsConflictLevel c n
greatest_level c n g = record {
  greatest = λ m k has f. g.greatest m k has.in_table has.there f;
  reached = elim g.reached [ inl z ↦ inl z | inr h ↦ inr (h.0, record { in_table = h.1; there = h.2 }, h.3) ];
}
