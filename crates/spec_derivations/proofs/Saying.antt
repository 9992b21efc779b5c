-- What a new clause says, and each of a list of new ones.
use Rattle.std.proofs.Common.{◌≡◌, ◌≢◌, Bool, true, false, not, List, [], ◌∷◌, ◌++◌, Contains, inl, inr, sym, ap, ◌∙◌, subst}
use Rattle.std.proofs.lemmas.List.{append_assoc, append-nil}
use Rattle.spec_text.proofs.Members.{cases, none}
use Rattle.spec_sorts.specs.Literals.{Literal, complement}
use Rattle.spec_sorts.proofs.General.{complement-twice}
use Rattle.spec_proofs.specs.Resolution.{given, both_ways}
use Rattle.spec_derivations.specs.Learned.{others, IsNew, AreNew}
use Rattle.spec_derivations.proofs.Learned.{decide_literals, others_there}

-- a complement is another literal, and its complement is the first again
differs : (l : Literal) → complement l ≢ l
differs l e = go l.positive (ap (λ (x : Literal). x.positive) e)
  where
    go : (p : Bool) → not p ≡ p → ⊥
    go true f = cc
    go false f = cc

-- a literal and its complement are given to each other
pub no_tautology : (premises : List (List Literal)) (clause : List Literal) (l : Literal) → IsNew premises clause → Contains clause l → Contains clause (complement l) → ⊥
no_tautology premises clause l new l_in other_in =
    let k = new.0 in
    elim (decide_literals l k) [
      | inl same ↦ new.1.not_given (given k (subst (λ (x : Literal). Contains (others clause k) x) (complement-twice l ∙ same) (others_there clause k (complement l) other_in (λ e. differs l (e ∙ sym same)))))
      | inr apart ↦ elim (decide_literals (complement l) k) [
        | inl same ↦ new.1.not_given (given k (subst (λ (x : Literal). Contains (others clause k) x) same (others_there clause k l l_in apart)))
        | inr away ↦ new.1.no_conflict (both_ways (complement l) (given (complement l) (others_there clause k l l_in apart)) (given (complement (complement l)) (others_there clause k (complement l) other_in away)))
      ]
    ]

-- a new clause has a literal
pub not_empty : (premises : List (List Literal)) (clause : List Literal) → IsNew premises clause → clause ≢ []
not_empty premises clause new e = none new.0 (subst (λ c. Contains c new.0) e new.1.there)

-- one of a list is new over the premises and those before it
pub new_after : (premises before after : List (List Literal)) (c : List Literal) → AreNew premises (before ++ c ∷ after) → IsNew (premises ++ before) c
new_after premises [] after c new = subst (λ ps. IsNew ps c) (sym (append-nil premises)) new.0
new_after premises (b ∷ before) after c new = subst (λ ps. IsNew ps c) (append_assoc premises (b ∷ []) before) (new_after (premises ++ b ∷ []) before after c new.1)

-- so each is new over premises which have these
pub new_over : (premises clauses : List (List Literal)) (c : List Literal) → AreNew premises clauses → Contains clauses c → (before : List (List Literal)) × IsNew (premises ++ before) c
new_over premises [] c new c_in = absurd (none c c_in)
new_over premises (d ∷ clauses) c new c_in = elim (cases d clauses c c_in) [
  | inl same ↦ ([], subst (λ ps. IsNew ps c) (sym (append-nil premises)) (subst (λ x. IsNew premises x) same new.0))
  | inr rest ↦
      let r = new_over (premises ++ d ∷ []) clauses c new.1 rest in
      (d ∷ r.0, subst (λ ps. IsNew ps c) (append_assoc premises (d ∷ []) r.0) r.1)
]
