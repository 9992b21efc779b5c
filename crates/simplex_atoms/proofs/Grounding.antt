-- Rows keep a solution for all values of terms, as variables and rows come.
use Rattle.std.proofs.Common.{◌≡◌, ℕ, suc, ◌<◌, ◌≤◌, List, [], ◌∷◌, ◌++◌, length, Option, None, sym, ◌∙◌, ap, subst, arith}
use Rattle.std.proofs.Math.ListN.{get_or-append}
use Rattle.spec_tableaux.specs.Rows.{Entry, Row}
use Rattle.spec_tableaux.specs.SolvedForms.{AllVariables}
use Rattle.spec_tableaux.specs.Numbers.{Number}
use Rattle.term_core.specs.declared.ids.TermId.{TermId}
use Rattle.simplex_check.specs.Assignments.{AssignmentView, assignment_with_variable, assignment_with_sum}
use Rattle.simplex_atoms.specs.Owners.{owner_at}
use Rattle.simplex_atoms.specs.Grounded.{AreGrounded}
use Rattle.simplex_atoms.specs.Atoms.{ground_of, AreCounted, IsGrounded}
use Rattle.simplex_atoms.proofs.Owning.{owner_last}

-- the last number is not before the first one
reaches : (os : List (Option TermId)) (from : ℕ) (rs : List (Row Number)) (to : ℕ) → AreGrounded os from rs to → from ≤ to
reaches os from [] to h = h
reaches os from (r ∷ rs) to h = let rest : suc r.basic ≤ to = reaches os (suc r.basic) rs to h.3 in omega (arith, h.0, rest)

-- a variable that was there stands for what it stood for
represents : (os : List (Option TermId)) (o : Option TermId) (n from : ℕ) (r : Row Number) (rs : List (Row Number)) → length os ≡ n → AreGrounded os from (r ∷ rs) n → owner_at (os ++ o ∷ []) r.basic ≡ None
represents os o n from r rs e h =
    let rest : suc r.basic ≤ n = reaches os (suc r.basic) rs n h.3 in
    get_or-append os (o ∷ []) None r.basic (omega (arith, e, rest)) ∙ h.1

-- a variable more
variable_more : (os : List (Option TermId)) (o : Option TermId) (n from : ℕ) (rs : List (Row Number)) → length os ≡ n → AreGrounded os from rs n → AreGrounded (os ++ o ∷ []) from rs (suc n)
variable_more os o n from [] e h = omega (arith, h)
variable_more os o n from (r ∷ rs) e h = (h.0, represents os o n from r rs e h, h.2, variable_more os o n (suc r.basic) rs e h.3)

-- a row more, which is over variables that were there
row_more : (os : List (Option TermId)) (n from : ℕ) (rs : List (Row Number)) (es : List (Entry Number)) → length os ≡ n → AllVariables (λ y. y < n) es → AreGrounded os from rs n
    → AreGrounded (os ++ None ∷ []) from (rs ++ record { basic = n; entries = es } ∷ []) (suc n)
row_more os n from [] es e over h = (h, ap (owner_at (os ++ None ∷ [])) (sym e) ∙ owner_last os None, over, omega arith)
row_more os n from (r ∷ rs) es e over h = (h.0, represents os None n from r rs e h, h.2, row_more os n (suc r.basic) rs es e over h.3)

-- on assignments

pub grounded_same : (os us : List (Option TermId)) (b c : AssignmentView) → us ≡ os → c ≡ b → IsGrounded (ground_of os b) → IsGrounded (ground_of us c)
grounded_same os us b c e f h = subst (λ (l : List (Option TermId)). IsGrounded (ground_of l c)) (sym e) (subst (λ (x : AssignmentView). IsGrounded (ground_of os x)) (sym f) h)

pub grounded_variable : (os us : List (Option TermId)) (o : Option TermId) (b c : AssignmentView) → AreCounted (ground_of os b) → us ≡ os ++ o ∷ [] → c ≡ assignment_with_variable b → IsGrounded (ground_of os b)
    → IsGrounded (ground_of us c)
grounded_variable os us o b c count e f h =
    grounded_same (os ++ o ∷ []) us (assignment_with_variable b) c e f (variable_more os o b.tableau.variables 0 b.tableau.listed count h)

pub grounded_row : (os us : List (Option TermId)) (b c : AssignmentView) (es : List (Entry Number)) → AreCounted (ground_of os b) → AllVariables (λ y. y < b.tableau.variables) es → us ≡ os ++ None ∷ [] → c ≡ assignment_with_sum b es
    → IsGrounded (ground_of os b) → IsGrounded (ground_of us c)
grounded_row os us b c es count over e f h =
    grounded_same (os ++ None ∷ []) us (assignment_with_sum b es) c e f (row_more os b.tableau.variables 0 b.tableau.listed es count over h)
