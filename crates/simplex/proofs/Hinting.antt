-- Literals of watched atoms are reasons by the watched terms.
use Rattle.std.proofs.Common.{◌≡◌, ℕ, ◌<◌, true, List, length, get_or, Option, Some, None, Contains, refl, sym, subst}
use Rattle.std.specs.Prelude.{IfSome, IsSome, IfOk, Result, Ok, Err, Vec}
use Rattle.std.specs.declared.alloc.Global.{Global}
use Rattle.std.proofs.lemmas.List.Elements.{All-contains, All-weaker}
use Rattle.spec_text.proofs.Members.{to_image}
use Rattle.spec_sorts.specs.Terms.{Truth, Less, AtMost, Equal, Term, app, nil, cons, sort_of}
use Rattle.spec_sorts.specs.Literals.{literal_of}
use Rattle.spec_causes.specs.Reached.{IsReached}
use Rattle.spec_simplex.specs.Constraints.{Constraint, constraint_by, constraint_of}
use Rattle.term_core.specs.declared.ids.TermId.{TermId}
use Rattle.term_core.specs.declared.ids.Lit.{Lit}
use Rattle.term_core.specs.Tables.{TableView, term_at, positive_literal, IsIn, Extends}
use Rattle.term_core.proofs.TermsExtend.{IsIn-kept}
use Rattle.no_memory.specs.declared.NoMemory.{NoMemory}
use Rattle.proof_log.specs.declared.premises.StepId.{StepId}
use Rattle.proof_log.specs.Logs.{Logged, IsLogOf, AreStepsOf}
use Rattle.proof_log.specs.Meanings.{Meaning, AddsLemmas, Implies}
use Rattle.proof_log.specs.Theories.{IsTermIn, IsAtomIn, IsTheoryOver, terms_watched, Derived, DerivesLemmas, derived}
use Rattle.proof_log.proofs.Composed.{lemmas_none, watched_lemmas_after, over_after, steps_after}
use Rattle.held_literals.specs.Room.{AreOverWatched}
use Rattle.simplex_bounds.specs.declared.bounds.Bound.{Bound}
use Rattle.simplex_bounds.specs.declared.bounds.Side.{Side}
use Rattle.simplex_bounds.specs.Held.{strongest}
use Rattle.simplex_bounds.proofs.Keeping.{strongest_is_held}
use Rattle.simplex_atoms.specs.declared.slack.Slack.{Slack}
use Rattle.simplex_atoms.specs.Slacks.{slack_in}
use Rattle.simplex_atoms.specs.Watching.{IsWatched}
use Rattle.simplex_explain.specs.declared.weighted.Weighted.{Weighted}
use Rattle.simplex_explain.specs.Reasons.{AreAtomReasons}
use Rattle.simplex_explain.specs.Stated.{IsKnownIn}
use Rattle.simplex_explain.proofs.StatedBounds.{all_from, literals_held}
use Rattle.simplex_explain.proofs.TermTableauViews.{term_tableau_kept, among_kept, atoms_kept}
use Rattle.simplex.specs.Views.{SimplexView, SimplexFits, IsOf}
use Rattle.simplex.specs.Checks.{Suits}
use Rattle.simplex.specs.Coming.{CameBy}
use Rattle.simplex.specs.Hints.{IsOfAtom, AreOfAtoms}
use Rattle.simplex.proofs.Judging.{table_grows}

-- what has a place says something
says : (o : Option Slack) (c : Option Constraint) → IsSome o → IsWatched o c → IsSome c
says (Some slack) c there is = is
says None c there is = cc

-- and what says something is of sort Bool
truth : (u : Term) → IsSome (constraint_by true u) → sort_of u ≡ Truth
unfolding constraint_by sort_of
truth (app Less (cons s (cons u nil))) h = refl
truth (app AtMost (cons s (cons u nil))) h = refl
truth (app Equal (cons s (cons u nil))) h = refl
truth u h = cc

-- and no negation
plain : (u : Term) → IsSome (constraint_by true u) → literal_of u ≡ positive_literal u
unfolding constraint_by literal_of
plain (app Less (cons s (cons u nil))) h = refl
plain (app AtMost (cons s (cons u nil))) h = refl
plain (app Equal (cons s (cons u nil))) h = refl
plain u h = cc

-- the strongest bound on a side is held
pub stop_held : (s : Side) (y : ℕ) (held : List Bound) (o : Option Bound) → o ≡ strongest s y held → IfSome o (λ (b : Bound). Contains held b)
stop_held s y held (Some b) e = (strongest_is_held s y held b (sym e)).0
stop_held s y held None e = tt

-- where table and log are as they were, no lemma came
pub nothing_came : (ts : List Term) (t u : TableView) (old new : List Logged) → IsLogOf t old → u ≡ t → new ≡ old → DerivesLemmas ts (derived t old) (derived u new)
nothing_came ts t u old new right e f = subst (λ (d : Derived). DerivesLemmas ts (derived t old) d) (λ i. derived (sym e i) (sym f i)) (lemmas_none ts (derived t old) right)

module _ (v : SimplexView) (fits : SimplexFits v) (apart : AreOverWatched v.theory.held v.theory.watched) where
  -- the literal of a bound that is held is of a watched atom, if it has a place
  pub bound_of_atom : (b : Bound) (w : Weighted) → Contains v.bounds.held b → w.literal ≡ b.literal → IsSome (slack_in v.atoms.slack_list b.literal.term) → IsOfAtom v w
  bound_of_atom b w held same there =
      let own : Contains v.theory.held b.literal = literals_held v.atoms.slack_list v.theory.held v.bounds.held fits.bounds_are b held in
      record {
        watched = subst (λ (l : Lit). Contains v.theory.watched l.term) (sym same) (All-contains (λ (l : Lit). Contains v.theory.watched l.term) v.theory.held b.literal apart own);
        there = subst (λ (l : Lit). IsSome (slack_in v.atoms.slack_list l.term)) (sym same) there;
      }

-- and so is a literal of the watched term of a number
pub denied_of_atom : (v : SimplexView) (n : ℕ) (l : Lit) (w : Weighted) → n < length v.theory.watched → l.term ≡ get_or v.theory.watched n l.term → w.literal ≡ l → IsSome (slack_in v.atoms.slack_list l.term) → IsOfAtom v w
denied_of_atom v n l w lt is same there = record {
  watched = subst (λ (m : Lit). Contains v.theory.watched m.term) (sym same) (n, lt, sym is);
  there = subst (λ (m : Lit). IsSome (slack_in v.atoms.slack_list m.term)) (sym same) there;
}

module _ (t : TableView) (v : SimplexView) (over : IsTheoryOver t v.theory) (is : IsOf v t) where
  atom : (id : TermId) → Contains v.theory.watched id → IsSome (slack_in v.atoms.slack_list id) → IsAtomIn t id
  atom id watched there =
      let term : IsTermIn t id = All-contains (IsTermIn t) v.theory.watched id over.terms watched in
      let known : IsKnownIn t v.atoms.slack_list id = All-contains (IsKnownIn t v.atoms.slack_list) v.theory.watched id is.known watched in
      let h : IsSome (constraint_of (positive_literal (term_at t id))) = says (slack_in v.atoms.slack_list id) (constraint_of (positive_literal (term_at t id))) there known in (
        (term.0, record { term = term.1; sort = truth (term_at t id) h }),
        plain (term_at t id) h,
      )

  pub atom_reasons : (ws : List Weighted) → AreOfAtoms v ws → AreAtomReasons (terms_watched t v.theory) t ws
  atom_reasons ws of = all_from (λ (w : Weighted). IsAtomIn t w.literal.term × Contains (terms_watched t v.theory) (term_at t w.literal.term)) ws by
    where
      by : (w : Weighted) → Contains ws w → IsAtomIn t w.literal.term × Contains (terms_watched t v.theory) (term_at t w.literal.term)
      by w c =
          let own = All-contains (IsOfAtom v) ws w of c in
          (atom w.literal.term own.watched own.there, to_image (term_at t) v.theory.watched w.literal.term own.watched)

-- a literal that is given with its weight is of a watched atom
pub some_of_atom : (v : SimplexView) (l : Lit) (o : Option Weighted) → (IsSome (slack_in v.atoms.slack_list l.term) → (w : Weighted) → w.literal ≡ l → IsOfAtom v w)
    → IfSome o (λ (w : Weighted). (w.literal ≡ l) × IsSome (slack_in v.atoms.slack_list l.term)) → IfSome o (IsOfAtom v)
some_of_atom v l (Some w) f h = f h.1 w h.0
some_of_atom v l None f h = tt

-- over a table that grew, what is kept goes with it
pub suits_after : (t u : TableView) (v : SimplexView) → Extends t u → Suits v t → Suits v u
suits_after t u v more s = record {
  is = table_grows t u v more s.there s.is;
  there = All-weaker (IsIn t) (IsIn u) (λ id within. IsIn-kept t u more id within) v.theory.watched s.there;
  held = All-weaker (λ (l : Lit). IsIn t l.term) (λ (l : Lit). IsIn u l.term) (λ l within. IsIn-kept t u more l.term within) v.theory.held s.held;
}

-- and came as it did
pub came_after : (t u : TableView) (v : SimplexView) → Extends t u → Suits v t → (ts : List Term) (n : ℕ) (es : List (ℕ × ℕ)) → CameBy t ts n es v → CameBy u ts n es v
came_after t u v more s ts n es came = record {
  watched = among_kept t u more ts v.theory.watched s.there came.watched;
  held = atoms_kept t u more ts v.theory.held s.held came.held;
  runs = came.runs;
  reached = subst (IsReached ts came.runs es) (sym (term_tableau_kept t u more v.atoms.owners v.assignment s.is.right.owners_in)) came.reached;
  few = came.few;
}

-- Lemmas came, and steps are of some of them.
module _ (t u : TableView) (v : SimplexView) (old log : List Logged) (steps : List StepId) (over : IsTheoryOver t v.theory) (is : IsOf v t)
    (state : DerivesLemmas (terms_watched t v.theory) (derived t old) (derived u log) × AreStepsOf log steps) where
  -- so over the table that grew there is what a lemma needs
  pub ready : IsTheoryOver u v.theory × (IsOf v u × IsLogOf u log)
  ready = (
    over_after t u state.0.table v.theory over,
    (table_grows t u v state.0.table (λ k d lt. (over.terms k d lt).0) is, state.0.right),
  )

  module _ (w : TableView) (more : List Logged) (second : DerivesLemmas (terms_watched u v.theory) (derived u log) (derived w more)) where
    -- and with what comes next they are lemmas
    pub next_derives : DerivesLemmas (terms_watched t v.theory) (derived t old) (derived w more)
    next_derives = watched_lemmas_after v.theory (derived t old) (derived u log) (derived w more) over state.0 second

    -- of which the steps are
    pub next_steps : AreStepsOf more steps
    next_steps = steps_after (terms_watched u v.theory) (derived u log) (derived w more) second steps state.1

-- lemmas that came, with the steps of some of them
pub implies : (old new : Meaning) (before after : Derived) (r : Result (Vec StepId Global) NoMemory) → AddsLemmas old new before after → IfOk r (λ (steps : Vec StepId Global). AreStepsOf after.log steps.items)
    → Implies old new before after r
implies old new before after (Ok steps) adds are = (adds, are)
implies old new before after (Err no_memory) adds are = (adds.same, adds.derives.table, adds.derives.declared)
