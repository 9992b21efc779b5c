-- What the rounds of a search keep, and what its answers show.
use Rattle.std.specs.Prelude.{◌≡◌, ◌⊎◌, ◌+◌, ◌≤◌, ℕ, true, List, [], ◌∷◌, ◌++◌, length, take, map, All, Contains}
use Rattle.spec_sorts.specs.Terms.{Term}
use Rattle.spec_sorts.specs.Literals.{Clause, Literal, complement, literals_of}
use Rattle.spec_proofs.specs.Resolution.{Derives, IsWithin}
use Rattle.spec_proofs.specs.declared.Rule.TheVariants.{Resolution}
use Rattle.spec_derivations.specs.Problems.{Problem, terms_of_problem, subterms_in, known_terms}
use Rattle.search_loop.specs.Answered.{AreAnswered}
use Rattle.spec_derivations.specs.Derivations.{Inference, «assumption», by_rule, Derivation, conclusion}
use Rattle.spec_derivations.specs.Derivations.{AssumesAmong, IsDerivedFrom}
use Rattle.spec_derivations.specs.Orders.{whole_terms, whole_clauses}
use Rattle.spec_derivations.specs.Lemmas.{IsLemma, HasLemma}
use Rattle.spec_derivations.specs.Inputs.{IsInput}
use Rattle.spec_derivations.specs.ExactChains.{IsExactFrom, AreExactResolvents}
use Rattle.spec_derivations.specs.Learned.{AreNew}
use Rattle.spec_derivations.specs.Spent.{IsLearnedFrom, IsOverAtoms, at_start, AreLearned, IsConflictBudgetSpent}
use Rattle.spec_derivations.specs.Spent.{CanLearnMore}
use Rattle.spec_interfaces.specs.Interfaces.{IsElementEquality, AreInterfaceEqualities, StandsApart}
use Rattle.term_core.specs.declared.ids.TermId.{TermId}
use Rattle.term_core.specs.declared.ids.Lit.{Lit}
use Rattle.term_core.specs.Tables.{TableView, declared_in, Extends}
use Rattle.proof_log.specs.declared.premises.StepId.{StepId}
use Rattle.proof_log.specs.Logs.{Logged, inference_of, derivation_in, stated, AreFormulasIn}
use Rattle.term_clauses.specs.SpokenTerms.{problem_in}
use Rattle.clausify.specs.SearchTerms.{AreSearchTerms}
use Rattle.clause_store.specs.Stores.{IsAdded}
use Rattle.sat_budget.specs.Budgets.{BudgetView}
use Rattle.sat_budget.specs.declared.limits.Limits.{Limits}
use Rattle.sat_budget.specs.declared.limits.Reason.TheVariants.{Overflow, Conflicts}
use Rattle.conflict_learn.specs.Conflicts.{Conflict}
use Rattle.conflict_learn.specs.Learned.{IsLogged, IsLearned}
use Rattle.conflict_learn.specs.declared.learned.Learned.{Learned}
use Rattle.search_loop.specs.declared.search.Search.{Search}
use Rattle.search_loop.specs.declared.cdcl.Answer.{Answer}
use Rattle.search_loop.specs.declared.cdcl.Answer.TheVariants.{Sat, Unsat, Unknown}
use Rattle.search_loop.specs.Search.{images, SearchFits}
use Rattle.search_loop.specs.Appending.{Appends}
use Rattle.search_loop.specs.Stops.{HasExchanged, IsOverflowed}
use Rattle.search_model.specs.Models.{IsModel}

-- it follows from other clauses by resolution
abbrev pub IsByResolution : Inference → Type 0
IsByResolution («assumption» u) = ⊥
IsByResolution (by_rule r ps arguments c) = r ≡ Resolution

-- it gives what a chain of resolutions does, and no more; or nothing is left
abbrev pub IsNoWeaker : Derivation → Inference → Type 0
IsNoWeaker earlier x = IsExactFrom earlier x ⊎ (conclusion x ≡ [])

-- The inferences of a search of a problem, and the clauses that were learned in them, oldest first.
pub data AreSteps (p : Problem) : Derivation → List (List Literal) → Type 0 where
  -- none yet
  nothing : AreSteps p [] []
  -- a clause is stated with which a search of the problem begins
  stating : (xs : Derivation) (x : Inference) (cs : List (List Literal)) → AreSteps p xs cs
      → Contains (whole_clauses p) (conclusion x) → AreSteps p (xs ++ x ∷ []) cs
  -- lemmas of a theory come, which depend on each other alone
  lemmas : (xs ys : Derivation) (cs : List (List Literal)) → AreSteps p xs cs
      → All (IsLemma (whole_terms p) (xs ++ ys) (length xs)) ys → AreSteps p (xs ++ ys) cs
  -- a clause is learned, by resolution
  learning : (xs : Derivation) (x : Inference) (cs : List (List Literal)) → AreSteps p xs cs → IsByResolution x
      → IsNoWeaker xs x → AreSteps p (xs ++ x ∷ []) (cs ++ literals_of (conclusion x) ∷ [])

-- The derivation states the clauses with which a search of a problem begins, and these clauses, in order, by
-- resolution, with lemmas of a theory in between.
pub record HasSteps (p : Problem) (d : Derivation) (clauses : List (List Literal)) : Type 0 where
  -- each clause with which it begins is stated
  pub each : IsWithin (whole_clauses p) (map conclusion d)
  -- and all that is stated is such a one, a lemma, or one of these clauses
  pub steps : AreSteps p d clauses

-- a search begins with the clause, or learned it, or it is that of a lemma
abbrev pub ComesFrom : Problem → Derivation → List (List Literal) → List Literal → Type 0
ComesFrom p d learned c = Contains (map literals_of (whole_clauses p) ++ learned) c ⊎ HasLemma (whole_terms p) d c

-- What was derived of a problem: the clauses by their literals, and those that were learned in earlier checks and in
-- this one.
pub record HasDerived (p : Problem) (d : Derivation) (clauses earlier learned : List (List Literal)) : Type 0 where
  -- the derivation assumes the problem's terms alone
  pub assumes : All (AssumesAmong (terms_of_problem p)) d
  -- each clause is one with which a search begins, or was learned, or is that of a lemma
  pub only : (c : List Literal) → Contains clauses c → ComesFrom p d (earlier ++ learned) c
  -- what was learned is among the clauses
  pub kept : IsWithin (earlier ++ learned) clauses
  -- each learned clause is derived from the problem's terms
  pub derived : All (IsLearnedFrom p d) (earlier ++ learned)
  -- it is over its atoms
  pub atoms : All (IsOverAtoms p) (earlier ++ learned)
  -- what this check learned was new
  pub new : AreNew (at_start p earlier) learned
  -- each is what a chain of resolutions gives, and no more
  pub exact : AreExactResolvents complement (IsInput p d) (earlier ++ learned)
  -- the derivation states clauses with which a search begins, lemmas, and what was learned
  pub steps : AreSteps p d (earlier ++ learned)

-- A check began after so many steps of a derivation: the clauses that were learned in these are the earlier ones.
pub record BeganAfter (p : Problem) (since : ℕ) (d : Derivation) (earlier : List (List Literal)) : Type 0 where
  -- there are so many steps
  pub there : since ≤ length d
  -- the steps are those of a search of the problem, which learned these
  pub steps : AreSteps p (take since d) earlier

-- All clauses with which a search of a problem begins are derived, and among these.
pub record HasWholeClauses (p : Problem) (d : Derivation) (clauses : List (List Literal)) : Type 0 where
  -- each is one of the clauses
  pub base : (c : Clause) → Contains (whole_clauses p) c → Contains clauses (literals_of c)
  -- and is stated
  pub stated : IsWithin (whole_clauses p) (map conclusion d)

-- What is in hand is that of a search that is asked a problem, where earlier checks learned clauses.
pub record IsSearch (t : TableView) (p : Problem) (earlier : List (List Literal)) (x : Search) : Type 0 where
  -- its terms are formulas of the table, by their numbers
  pub roots : List TermId
  pub roots_in : AreFormulasIn t roots
  -- and so are the interface equalities
  pub interface : List TermId
  pub interface_in : AreFormulasIn t interface
  -- its terms are asserted, and nothing else is asked
  pub meant : problem_in t roots interface ≡ p
  -- the search answers for both
  pub answered : AreAnswered (known_terms p)
  -- its terms are those that a search of the problem speaks of
  pub listed : AreSearchTerms t p x.terms.items
  -- so much is derived of it
  pub derived : HasDerived p (derivation_in t x.log) (images t x.store.clauses) earlier (images t x.budget.learned)
  -- the earlier clauses are those that were learned before the check began
  pub began : BeganAfter p x.since (derivation_in t x.log) earlier
  -- and all with which it begins
  pub whole : HasWholeClauses p (derivation_in t x.log) (images t x.store.clauses)

-- the term follows from clauses by unit propagation alone
abbrev pub IsFact : List (List Literal) → Term → Type 0
IsFact clauses t = Derives complement clauses [] (record { atom = t; positive = true })

-- Of the interface equalities of a search's problem those of elements are facts, of which no learned clause speaks.
pub record HoldsApart (t : TableView) (p : Problem) (earlier : List (List Literal)) (x : Search) : Type 0 where
  -- each is an equality of shared numbers, or of elements
  pub equalities : AreInterfaceEqualities p
  -- the latter follow from the clauses
  pub facts : (e : Term) → Contains p.interface e → IsElementEquality (subterms_in p) e
      → IsFact (images t x.store.clauses) e
  -- and what was learned is over other atoms
  pub apart : All (StandsApart p) (earlier ++ images t x.budget.learned)

-- the budget has the limit of a search on conflicts
abbrev pub HasLimit : Limits → BudgetView → Type 0
HasLimit l b = b.limit ≡ l.conflicts

-- the limit of a budget is as it was
abbrev pub KeepsLimit : BudgetView → BudgetView → Type 0
KeepsLimit old new = new.limit ≡ old.limit

-- the clauses that a search adds to a log: those that it learned, and after them at unsat the answer's, which has no
-- literals
abbrev pub added_by : Answer → List (List Literal) → List (List Literal)
added_by (Unsat step) learned = learned ++ [] ∷ []
added_by (Sat interp) learned = learned
added_by (Unknown reason) learned = learned

-- what an answer shows of a problem, where earlier checks learned clauses: tables under which its terms are true; a
-- clause without literals that is derived from them; that an operation leaves the bound on fractions; or that the
-- budget is spent at a further conflict
abbrev pub HasEvidence : TableView → Problem → List Logged → List (List Literal) → BudgetView → Answer → Type 0
HasEvidence t p log earlier budget (Sat interp) = IsModel t (terms_of_problem p) interp
HasEvidence t p log earlier budget (Unsat step) = (stated t log step ≡ [])
    × IsDerivedFrom (terms_of_problem p) (derivation_in t log) step.0
HasEvidence t p log earlier budget (Unknown (Overflow s)) = IsOverflowed p (length budget.learned) budget.exchanges s
HasEvidence t p log earlier budget (Unknown (Conflicts n)) =
    IsConflictBudgetSpent p (derivation_in t log) budget.limit n earlier (images t budget.learned)
    × ((more : CanLearnMore p (derivation_in t log) earlier (images t budget.learned)) × StandsApart p more.clause)

-- where an answer is no overflow, whose evidence names them, the exchanges of the budget were made, in few runs
abbrev pub HasMade : Problem → BudgetView → Answer → Type 0
HasMade p budget (Unknown (Overflow s)) = Unit {0}
HasMade p budget a = HasExchanged (whole_terms p) (length budget.learned) budget.exchanges

-- what came into a log: the clauses with which a search begins, all of them but where an operation left the bound, and
-- those that it added
abbrev pub HasLogged : Problem → Derivation → Answer → List (List Literal) → Type 0
HasLogged p d (Unknown (Overflow s)) learned = AreSteps p d learned
HasLogged p d a learned = HasSteps p d (added_by a learned)

-- What goes with each answer: the log assumes the problem's terms alone, what was learned may be, and with what earlier
-- checks learned is what the search added to the log.
pub record IsLearning (t : TableView) (p : Problem) (log : List Logged) (earlier : List (List Literal)) (a : Answer)
    (learned : List (List Lit)) : Type 0 where
  -- the log assumes the problem's terms alone
  pub assumes : All (λ l. AssumesAmong (terms_of_problem p) (inference_of t l)) log
  -- the clauses may be learned
  pub learns : AreLearned p (derivation_in t log) earlier (images t learned)
  -- and speak of no equality of elements that is beside the terms
  pub apart : All (StandsApart p) (earlier ++ images t learned)
  -- they are what came into the log beside first clauses and lemmas, but for the answer's own
  pub logged : HasLogged p (derivation_in t log) a (earlier ++ images t learned)

-- the clause is learned last
abbrev pub IsNoted : List Lit → BudgetView → BudgetView → Type 0
IsNoted clause old new = new ≡ record old { learned = old.learned ++ clause ∷ [] }

-- the log grew by the step of a clause that is learned from the conflict
abbrev pub IsStep : Conflict → TableView → List Logged → Type 0
IsStep c u log = (d : Learned) × IsLearned c u log d

-- the log grew by the step of a clause without literals
abbrev pub LogsEmptyClause : Conflict → List Logged → StepId → Type 0
LogsEmptyClause c log id = IsLogged c c.table log [] id

-- A search went on: what it has is of the same problem, over a table that has all that it had.
pub record Continues (t u : TableView) (old new : Search) : Type 0 where
  -- the table has all that it had
  pub table : Extends t u
  -- the sorts and symbols are the same
  pub declared : declared_in u ≡ declared_in t
  -- the limit is the same, and what was learned stays
  pub limit : KeepsLimit old.budget new.budget
  pub more : List (List Lit)
  pub learned : new.budget.learned ≡ old.budget.learned ++ more
  -- there are as many variables
  pub vars : new.trail.vars ≡ old.trail.vars
  -- it speaks of the same terms
  pub terms : new.terms ≡ old.terms
  -- what came into its log and its store came last
  pub appended : Appends old new
  -- it is asked the same
  pub search : (p : Problem) (earlier : List (List Literal)) → IsSearch t p earlier old → IsSearch u p earlier new
  -- and its facts stay
  pub apart : (p : Problem) (earlier : List (List Literal)) → IsSearch t p earlier old → HoldsApart t p earlier old
      → HoldsApart u p earlier new

-- the clause of a step of the log came into the store, and all else is as it was
abbrev pub HasKept : TableView → StepId → Search → Search → Type 0
HasKept t step old new = (new ≡ record old { store = new.store }) × IsAdded t old.log step old.store new.store

-- A clause was learned, and the search goes on.
pub record HasLearned (t u : TableView) (old new : Search) : Type 0 where
  -- it fits together
  pub ready : SearchFits u new
  -- it is asked the same
  pub continues : Continues t u old new
  -- a clause more is learned
  pub learned : length new.budget.learned ≡ length old.budget.learned + 1

-- the answer shows what it should of the problem that the search is asked, after what earlier checks learned
abbrev pub ShowsAnswer : TableView → TableView → Search → Search → Answer → Type 0
ShowsAnswer t u old new a = (p : Problem) (earlier : List (List Literal)) → IsSearch t p earlier old
    → HoldsApart t p earlier old
    → HasEvidence u p new.log earlier new.budget a × IsLearning u p new.log earlier a new.budget.learned
