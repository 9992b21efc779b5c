-- That the runs of exchanges of a search are few, which it pays for, and what its answers show of them.
use Rattle.std.proofs.Common.{◌≡◌, ◌≢◌, ◌+◌, ◌≤◌, ℕ, true, List, [], length, inl, inr, sym, subst, arith}
use Rattle.std.proofs.lemmas.List.Elements.{All-weaker, All-contains, filter_passes}
use Rattle.std.proofs.lemmas.List.Kept.{AllPairs-filter}
use Rattle.spec_text.proofs.Members.{none}
use Rattle.spec_sorts.specs.Terms.{Term}
use Rattle.spec_sorts.specs.Subsets.{AreAmong}
use Rattle.spec_derivations.specs.Problems.{Problem}
use Rattle.spec_derivations.specs.Orders.{whole_terms}
use Rattle.spec_causes.specs.TermTableau.{nothing_yet}
use Rattle.spec_causes.specs.Reached.{IsReached, beginning, between}
use Rattle.spec_causes.specs.Counts.{is_arithmetic, arithmetic_in, most_runs, AreFewRuns}
use Rattle.term_core.specs.Tables.{TableView, AreDifferent, IsIn, clause_at}
use Rattle.sat_budget.specs.declared.limits.Reason.TheVariants.{Overflow, Conflicts}
use Rattle.sat_budget.specs.Budgets.{BudgetView}
use Rattle.proof_log.specs.Theories.{IsTermIn}
use Rattle.simplex.specs.Views.{SimplexView}
use Rattle.simplex.specs.Coming.{term_tableau_of, CameBy, StoppedBy}
use Rattle.search_loop.specs.declared.search.Search.{Search}
use Rattle.search_loop.specs.declared.cdcl.Answer.{Answer}
use Rattle.search_loop.specs.declared.cdcl.Answer.TheVariants.{Sat, Unsat, Unknown}
use Rattle.search_loop.specs.declared.cdcl.End.{End}
use Rattle.search_loop.specs.declared.cdcl.End.TheVariants.{Saturated, Refuted, Stopped}
use Rattle.search_loop.specs.Stops.{HasExchanged}
use Rattle.search_loop.specs.Search.{SearchFits}
use Rattle.search_loop.specs.Paying.{atoms_of, paid, paid_by, paid_at, IsPaid}
use Rattle.search_loop.specs.Rounds.{HasMade}
use Rattle.search_loop.proofs.SearchPays.{from_filter, terms_once, paid_few}

-- few runs led simplex to where it came
pub runs_within : (t : TableView) (ts : List Term) (n m : ℕ) (es : List (ℕ × ℕ)) (v : SimplexView) → n ≤ m → (c : CameBy t ts n es v) → c.runs ≤ m
runs_within t ts n m es v le c = elim c.few [ inl kept ↦ omega (arith, kept.1, le) | inr fewer ↦ omega (arith, fewer, le) ]

-- what it came to is a place where it can be stopped
pub stopped_there : (t : TableView) (ts : List Term) (m : ℕ) (es : List (ℕ × ℕ)) (v : SimplexView) → IsPaid (λ n. CameBy t ts n es v) m → IsPaid (λ n. StoppedBy t ts n es v) m
stopped_there t ts m es v (n, le, c) = (m, omega arith, record { runs = c.runs; stopped = between c.runs es (term_tableau_of t v) c.reached; few = runs_within t ts n m es v le c })

-- an answer of another kind than an overflow shows the exchanges
pub made : (p : Problem) (b : BudgetView) (a : Answer) → HasExchanged (whole_terms p) (length b.learned) b.exchanges → HasMade p b a
made p b (Sat i) h = h
made p b (Unsat step) h = h
made p b (Unknown (Overflow s)) h = tt
made p b (Unknown (Conflicts n)) h = h

-- none were made
pub exchanged_none : (ts : List Term) (l : ℕ) (es : List (ℕ × ℕ)) → es ≡ [] → HasExchanged ts l es
exchanged_none ts l es is = record {
  tableau = nothing_yet;
  runs = 0;
  reached = subst (λ (xs : List (ℕ × ℕ)). IsReached ts 0 xs nothing_yet) (sym is) beginning;
  few = record {
    atoms = [];
    different = λ i j d before within. absurd (omega (arith, within));
    among = λ u c. absurd (none u c);
    few = omega arith;
  };
}

-- what is paid where a search ends
pub paid_ended : (t : TableView) (x : Search) (r : ℕ) (end : End) → paid_at t x r end ≤ 1 + paid_by t x r (atoms_of t x)
paid_ended t x r Saturated = omega arith
paid_ended t x r (Refuted step) = omega arith
paid_ended t x r (Stopped reason) = omega arith

module _ (t : TableView) (differ : AreDifferent t.terms) (x : Search) (ready : SearchFits t x) (us : List Term) (spoken : AreAmong (clause_at t x.terms.items) us) where
  -- runs for which there is room are few
  are_few : (l runs : ℕ) → runs ≤ most_runs l (atoms_of t x) → AreFewRuns us l runs
  are_few l runs le =
      let terms = clause_at t x.terms.items in
      let there = All-weaker (IsTermIn t) (IsIn t) (λ id k. k.0) x.terms.items ready.atoms_are.there in
      record {
        atoms = arithmetic_in terms;
        different = AllPairs-filter (λ (u v : Term). u ≢ v) is_arithmetic terms (terms_once t differ x.terms.items ready.atoms_are.once there);
        among = λ u c. (
          spoken u (from_filter is_arithmetic terms u c),
          All-contains (λ (v : Term). is_arithmetic v ≡ true) (arithmetic_in terms) u (filter_passes is_arithmetic terms) c,
        );
        few = le;
      }

  -- which grew so many times, no more than it has atoms
  module _ (r : ℕ) (grew : r ≤ atoms_of t x) where
    -- so much is paid at most
    abbrev pub most_paid : ℕ → ℕ
    most_paid l = 1 + paid (atoms_of t x) l r (atoms_of t x)

    pub few_paid : (l runs : ℕ) → runs ≤ most_paid l → AreFewRuns us l runs
    few_paid l runs le = are_few l runs (omega (arith, le, paid_few (atoms_of t x) l r grew))

    -- where simplex came to, exchanges were made in few runs
    pub exchanged : (w : TableView) (v : SimplexView) (l : ℕ) (es : List (ℕ × ℕ)) → IsPaid (λ n. CameBy w us n es v) (most_paid l) → HasExchanged us l es
    exchanged w v l es (n, le, c) = record { tableau = term_tableau_of w v; runs = c.runs; reached = c.reached; few = few_paid l c.runs (runs_within w us n (most_paid l) es v le c) }
