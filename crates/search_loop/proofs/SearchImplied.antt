-- That a search goes on where the clause of a step implies a literal.
use Rattle.std.proofs.Common.{◌≡◌, ℕ, ◌<◌, List, [], ◌∷◌, ◌++◌, length, get_or, take, Contains, inl, inr, refl, sym, ap, ◌∙◌, subst, arith}
use Rattle.std.specs.Prelude.{Some, None}
use Rattle.std.proofs.lemmas.List.{length-append}
use Rattle.std.proofs.lemmas.List.Elements.{Contains-push, Contains-push_cases, Contains-append_left}
use Rattle.spec_sorts.specs.Literals.{Clause}
use Rattle.term_core.specs.declared.ids.Lit.{Lit}
use Rattle.term_core.specs.Tables.{TableView, AreDifferent, clause_at}
use Rattle.clause_literals.specs.Literals.{lit_complement}
use Rattle.clause_literals.specs.Statuses.{PropagatesNothing}
use Rattle.clause_literals.proofs.LiteralLists.{decide}
use Rattle.proof_log.specs.declared.premises.StepId.{StepId}
use Rattle.proof_log.specs.Logs.{named, logged_at}
use Rattle.proof_log.specs.Clashes.{IsClash}
use Rattle.sat_trail.specs.Trails.{TrailView, VariablesAreApart, IsLeveled, IsPushed}
use Rattle.clause_store.specs.Stores.{StoreView, HasSeen, IsAdded}
use Rattle.clause_store.specs.Propagating.{AreImplied, AddsImplied}
use Rattle.clause_store.proofs.Adding.{adds_one}
use Rattle.search_loop.specs.declared.search.Search.{Search}
use Rattle.search_loop.specs.Waiting.{AreOfAtoms}
use Rattle.search_loop.specs.Search.{SearchFits}
use Rattle.search_loop.specs.Implying.{IsLitOf, IsImplying, HasImplied}
use Rattle.search_loop.proofs.SearchLists.{in_table, meant, only_meant}
use Rattle.search_loop.proofs.SearchLevels.{undecided, late_before}
use Rattle.search_loop.proofs.SearchStored.{last_step, last_clause}
use Rattle.search_loop.proofs.SearchReady.{ready_propagated, all_of_atoms}
use Rattle.search_loop.proofs.SearchRounds.{continues_same, continues_on}
use Rattle.search_loop.proofs.SearchTheories.{keeps_propagated}
use Rattle.search_loop.proofs.SearchKept.{ready_kept, continues_kept}

-- a clause of the log implies a literal of an atom
module _ (t : TableView) (differ : AreDifferent t.terms) (x : Search) (r : SearchFits t x) (step : StepId) (in_log : step.0 < length x.log) (l : Lit)
    (implying : IsImplying t x.trail (named (logged_at x.log step)) l) (atom : Contains x.atoms.items l.term) where
  -- it would be false, if the complement of that literal held, too
  abbrev held : List Lit
  held = x.trail.literals ++ lit_complement l ∷ []

  clash : IsClash t x.log held step
  clash = record {
    in_log = in_log;
    fails = λ m h. elim (decide m l) [
      | inl is ↦ subst (λ (k : Lit). Contains held (lit_complement k)) (sym is) (Contains-push x.trail.literals (lit_complement l))
      | inr other ↦ Contains-append_left x.trail.literals (lit_complement l ∷ []) (lit_complement m) (implying.others_false m (record { in_table = h.in_table; there = h.there }) other)
    ];
  }

  of_atoms : AreOfAtoms x.atoms.items held
  of_atoms m i = elim (Contains-push_cases x.trail.literals (lit_complement l) m i) [
    | inl was ↦ all_of_atoms t x r m was
    | inr is ↦ subst (λ (k : Lit). Contains x.atoms.items k.term) is atom
  ]

  -- the clause comes into the store
  module _ (once : VariablesAreApart x.trail.literals) (leveled : IsLeveled x.trail) (s : StoreView) (a : IsAdded t x.log step x.store s) (seen : HasSeen s x.trail) (implied : AreImplied s x.trail) where
    abbrev terms : Clause
    terms = clause_at t (named (logged_at x.log step))

    has : (m : Lit) → IsLitOf t (named (logged_at x.log step)) m → Contains a.clause m
    has m h = only_meant t a.clause terms a.means differ m h.in_table h.there

    stays_quiet : (p : ℕ) → p < length x.trail.literals → get_or x.trail.reasons p None ≡ None → PropagatesNothing (take p x.trail.literals) a.clause
    stays_quiet p lt none = elim implying.late [
      | inl zero ↦ absurd (undecided x.trail once leveled zero p lt none)
      | inr m ↦ late_before x.trail once leveled p lt none a.clause l m.0 (has l implying.has_it) (has m.0 m.1) m.2 implying.is_open.unassigned.not_false m.3
    ]

    abbrev stored : Search
    stored = record x { store = s }

    ready_stored : SearchFits t stored
    ready_stored = ready_kept t x r step held clash of_atoms s a stays_quiet seen implied

    -- and the literal holds
    module _ (v : TrailView) (pushed : IsPushed x.trail l (Some step.0) x.trail.level v) where
      abbrev after : Search
      after = record x { store = s; trail = v }

      clause_is : a.clause ≡ get_or s.clauses (length x.store.clauses) []
      clause_is = last_clause t x.log step x.store s r.derives a in_log (length x.store.clauses) refl

      pub adds : AddsImplied s x.trail v
      adds = adds_one s x.trail v (length x.store.clauses) l step (omega (arith, ap length a.clauses, length-append x.store.clauses (a.clause ∷ [])))
          (subst (λ (c : List Lit). Contains c l) clause_is (has l implying.has_it))
          (λ m i other. let j = subst (λ (c : List Lit). Contains c m) (sym clause_is) i in implying.others_false m (record { in_table = in_table t a.clause terms a.means m j; there = meant t a.clause terms a.means m j }) other)
          (last_step t x.log step x.store s r.derives a in_log (length x.store.clauses) refl) pushed

      pub has_implied : HasSeen s v → AreImplied s v → HasImplied t step x after
      has_implied seen_on implied_on = record {
        same = refl;
        added = a;
        adds = adds;
        more = ap length pushed.literals ∙ length-append x.trail.literals (l ∷ []);
        ready = ready_propagated t stored after ready_stored refl refl refl refl refl (record { clauses = refl; steps = refl }) seen_on implied_on adds;
        continues = continues_on t t t x stored after (continues_kept t x r step held clash of_atoms s a) (continues_same t stored after refl refl refl pushed.vars refl refl refl refl);
        asked = λ w asked. record { keeps = keeps_propagated w s x.trail v leveled.levels_paired leveled.reasons_paired adds asked.keeps; terms = asked.terms; fed = asked.fed };
      }
