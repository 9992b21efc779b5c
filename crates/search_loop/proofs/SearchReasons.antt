-- Clashes and reasons of the store are those of the log.
use Rattle.std.proofs.Common.{◌≡◌, ℕ, ◌<◌, List, [], length, get_or, take, Contains, sym, ap, subst}
use Rattle.std.specs.Prelude.{Option, Some, None}
use Rattle.term_core.specs.declared.ids.Lit.{Lit}
use Rattle.term_core.specs.Tables.{TableView, AreDifferent, clause_at}
use Rattle.proof_log.specs.declared.premises.StepId.{StepId}
use Rattle.proof_log.specs.Logs.{Logged, named, logged_at}
use Rattle.sat_trail.specs.Trails.{TrailView, no_lit}
use Rattle.clause_store.specs.Stores.{StoreView, no_step}
use Rattle.clause_store.specs.Propagating.{IsClash as StoreClash, AreImplied}
use Rattle.proof_log.specs.Clashes.{HasLit, IsClash}
use Rattle.conflict_learn.specs.Conflicts.{IsTrailReason, AreTrailReasons, step_of}
use Rattle.search_loop.specs.Search.{DerivesClauses}
use Rattle.search_loop.proofs.SearchLists.{in_table, meant, only_meant}

-- the number that an option has
abbrev number_in : Option ℕ → ℕ
number_in None = 0
number_in (Some n) = n

-- a reason is the step of its number
step_is : (r : ℕ) (s : StepId) → Some r ≡ Some s.0 → step_of r ≡ s
step_is r s e = ap (λ (o : Option ℕ). step_of (number_in o)) e

module _ (t : TableView) (differ : AreDifferent t.terms) (log : List Logged) (s : StoreView) (h : DerivesClauses t log s) (n : ℕ) (lt : n < length s.clauses) where
  -- a literal of the clause is one of its step's
  pub lit_there : (l : Lit) → Contains (get_or s.clauses n []) l → HasLit t log (get_or s.steps n no_step) l
  lit_there l i = record {
    in_table = in_table t (get_or s.clauses n []) (clause_at t (named (logged_at log (get_or s.steps n no_step)))) (h.same n lt) l i;
    there = meant t (get_or s.clauses n []) (clause_at t (named (logged_at log (get_or s.steps n no_step)))) (h.same n lt) l i;
  }

  -- and no other is
  pub lit_back : (m : Lit) → HasLit t log (get_or s.steps n no_step) m → Contains (get_or s.clauses n []) m
  lit_back m x = only_meant t (get_or s.clauses n []) (clause_at t (named (logged_at log (get_or s.steps n no_step)))) (h.same n lt) differ m x.in_table x.there

module _ (t : TableView) (differ : AreDifferent t.terms) (log : List Logged) (s : StoreView) (h : DerivesClauses t log s) where
  pub clash_is : (held : List Lit) (step : StepId) → StoreClash s held step → IsClash t log held step
  clash_is held step c = subst (λ (x : StepId). IsClash t log held x) (sym c.step_is) (record {
    in_log = h.there c.number c.there;
    fails = λ m x. c.fails m (lit_back t differ log s h c.number c.there m x);
  })

  pub reasons_are : (v : TrailView) → AreImplied s v → AreTrailReasons t log v
  reasons_are v a k r lt e =
      let i = a.implied k r lt e in
      subst (λ (x : StepId). IsTrailReason t log (take k v.literals) (get_or v.literals k no_lit) x) (sym (step_is r (get_or s.steps i.number no_step) i.reason_is)) (record {
        in_log = h.there i.number i.there;
        has_it = lit_there t differ log s h i.number i.there (get_or v.literals k no_lit) i.has_it;
        others_false = λ m x d. i.others_false m (lit_back t differ log s h i.number i.there m x) d;
      })
