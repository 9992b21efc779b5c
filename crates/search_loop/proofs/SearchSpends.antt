-- That a search is the same where a theory made exchanges of its budget, and what is shown of a theory's stop.
use Rattle.std.specs.Prelude.{◌≡◌, Result, Ok, Err, IfErr, IsErrAnd}
use Rattle.std.proofs.Common.{ℕ, List, [], refl, sym, ap, ◌∙◌, subst}
use Rattle.std.proofs.lemmas.List.{append-nil}
use Rattle.term_core.specs.declared.ids.Lit.{Lit}
use Rattle.term_core.specs.Tables.{TableView}
use Rattle.term_core.proofs.TermsExtend.{Extends-self}
use Rattle.sat_budget.specs.declared.limits.Stop.{Stop}
use Rattle.sat_budget.specs.declared.limits.Stop.TheVariants.{Strained, Memory}
use Rattle.search_loop.specs.Asking.{OnStop}
use Rattle.sat_budget.specs.Budgets.{BudgetView, Spends}
use Rattle.proof_log.specs.Logs.{derivation_in}
use Rattle.proof_log.specs.Theories.{CameTo}
use Rattle.search_loop.specs.declared.search.Search.{Search}
use Rattle.search_loop.specs.Search.{images, AreAllOf, SearchFits}
use Rattle.search_loop.specs.Rounds.{HasDerived, Continues}
use Rattle.search_loop.proofs.SearchApart.{apart_on}
use Rattle.search_loop.proofs.SearchAppends.{appends_same}

-- where none were made
pub spends_nothing : (b : BudgetView) → Spends b b
spends_nothing b = ([], ap (λ (xs : List (ℕ × ℕ)). record b { exchanges = xs }) (sym (append-nil b.exchanges)))

module _ (t : TableView) (x : Search) (b : BudgetView) (spends : Spends x.budget b) where
  -- it fits together
  pub ready_spent : SearchFits t x → SearchFits t (record x { budget = b })
  ready_spent r = record {
    right = r.right;
    derives = r.derives;
    known = r.known;
    seen = r.seen;
    implied = r.implied;
    decided = r.decided;
    atoms_are = r.atoms_are;
    variables = r.variables;
    covered = r.covered;
    waiting = r.waiting;
    sized = r.sized;
    learned = subst (AreAllOf t) (sym (ap (λ (y : BudgetView). y.learned) spends.1)) r.learned;
  }

  -- and is for the same terms
  pub continues_spent : Continues t t x (record x { budget = b })
  continues_spent = record {
    table = Extends-self t;
    declared = refl;
    limit = ap (λ (y : BudgetView). y.limit) spends.1;
    more = [];
    learned = ap (λ (y : BudgetView). y.learned) spends.1 ∙ sym (append-nil x.budget.learned);
    vars = refl;
    terms = refl;
    appended = appends_same x (record x { budget = b }) refl (record { clauses = refl; steps = refl }) refl refl;
    search = λ problem earlier s. record {
      roots = s.roots;
      roots_in = s.roots_in;
      interface = s.interface;
      interface_in = s.interface_in;
      meant = s.meant;
      answered = s.answered;
      listed = s.listed;
      derived = subst (λ (ls : List (List Lit)). HasDerived problem (derivation_in t x.log) (images t x.store.clauses) earlier (images t ls))
          (sym (ap (λ (y : BudgetView). y.learned) spends.1)) s.derived;
      began = s.began;
      whole = s.whole;
    };
    apart = λ problem earlier s a. apart_on t t x (record x { budget = b }) (λ c i. i) problem earlier a (ap (λ (y : BudgetView). images t y.learned) spends.1);
  }

-- what is shown of a stop is shown of a result that hands it on
pub handed_on : {A : Type 0} (P : Stop → Type 0) (r : Result A Stop) (e : Stop) → IsErrAnd r (λ s. s ≡ e) → P e → IfErr r P
handed_on P (Ok x) e is h = absurd is
handed_on P (Err s) e is h = subst P (sym is) h

-- so is what follows of what it came to
pub came_handed_on : {A B : Type 0} (P : A → Type 0) (Q : B → Type 0) (S T : Type 0) (r : Result B Stop) (e : Stop) → IsErrAnd r (λ s. s ≡ e) → (S → T)
    → CameTo (let q : Result A Stop = Err e in q) P S → CameTo r Q T
came_handed_on P Q S T (Ok x) e is f h = absurd is
came_handed_on P Q S T (Err s) e is f h = subst (λ (stop : Stop). CameTo (let q : Result _ Stop = Err stop in q) Q T) (sym is) (by e h)
  where
    by : (e : Stop) → CameTo (let q : Result _ Stop = Err e in q) P S → CameTo (let q : Result _ Stop = Err e in q) Q T
    by (Strained s) h = f h
    by Memory h = tt

-- and what follows of what is so where a theory stopped
pub came_on_stop : {A B : Type 0} (P : A → Type 0) (Q : B → Type 0) (S T H : Type 0) (r : Result B Stop) (e : Stop) → IsErrAnd r (λ s. s ≡ e) → OnStop H e → (H → S → T)
    → CameTo (let q : Result A Stop = Err e in q) P S → CameTo r Q T
came_on_stop P Q S T H (Ok x) e is so f h = absurd is
came_on_stop P Q S T H (Err s) e is so f h = subst (λ (stop : Stop). CameTo (let q : Result _ Stop = Err stop in q) Q T) (sym is) (by e so h)
  where
    by : (e : Stop) → OnStop H e → CameTo (let q : Result _ Stop = Err e in q) P S → CameTo (let q : Result _ Stop = Err e in q) Q T
    by (Strained s) so h = f so h
    by Memory so h = tt

-- and where memory runs out nothing is stated of it
pub came_at_memory : {A : Type 0} (P : A → Type 0) (S : Type 0) (r : Result A Stop) → IsErrAnd r (λ s. s ≡ Memory) → CameTo r P S
came_at_memory P S (Ok x) is = absurd is
came_at_memory P S (Err s) is = subst (λ (stop : Stop). CameTo (let q : Result _ Stop = Err stop in q) P S) (sym is) tt

-- what is so is so where a theory stopped
pub on_stop : (P : Type 0) → P → (stop : Stop) → OnStop P stop
on_stop P h (Strained s) = h
on_stop P h Memory = tt

-- what follows of it follows there
pub on_stop_weaker : (P Q : Type 0) → (P → Q) → (stop : Stop) → OnStop P stop → OnStop Q stop
on_stop_weaker P Q f (Strained s) h = f h
on_stop_weaker P Q f Memory h = tt
