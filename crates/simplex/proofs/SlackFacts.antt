-- The parts of simplex fit together as a term gets its place, room for bounds is taken, and the term is watched.
use Rattle.std.proofs.Common.{◌≡◌, ◌*◌, ◌≤◌, ℕ, List, [], ◌∷◌, ◌++◌, length, map, take, get_or, All, Contains, Some, Result, Ok, Err, sym, ap, ◌∙◌, subst, arith}
use Rattle.std.specs.Prelude.{IfErr, IsErrAnd}
use Rattle.std.proofs.lemmas.List.Elements.{All-take, All-push, Contains-get_or, Contains-push}
use Rattle.std.proofs.lemmas.List.{take-append-le}
use Rattle.spec_text.proofs.Members.{to_image}
use Rattle.spec_numbers.specs.Bounds.{Overflow}
use Rattle.spec_sorts.specs.Terms.{Term}
use Rattle.spec_causes.specs.Reached.{IsFormAmong}
use Rattle.spec_causes.specs.Causes.{OverflowsAt, forming, bounding, adding_row}
use Rattle.term_core.specs.declared.ids.TermId.{TermId}
use Rattle.term_core.specs.declared.ids.Lit.{Lit}
use Rattle.term_core.specs.Tables.{TableView, term_at}
use Rattle.proof_log.specs.Theories.{TheoryView, no_mark, with_watched, terms_watched}
use Rattle.held_literals.specs.Room.{AreHeldMarks, AreOverWatched}
use Rattle.simplex_check.specs.Assignments.{AssignmentView, IsBasisOf}
use Rattle.simplex_atoms.specs.declared.slack.Slack.{Slack}
use Rattle.simplex_atoms.specs.Slacks.{slack_in}
use Rattle.simplex_atoms.specs.Limits.{limit_of}
use Rattle.simplex_atoms.specs.Atoms.{AtomsView, AtomsFit, KeepBounds}
use Rattle.simplex_atoms.specs.Watching.{OverflowsForm, bound, row, OverflowsAtom, in_form, in_place}
use Rattle.ratio128.specs.declared.wide.Wide.{Wide}
use Rattle.ratio128.specs.Meant.{overflow}
use Rattle.sat_budget.specs.declared.limits.Stop.{Stop}
use Rattle.sat_budget.specs.declared.limits.Stop.TheVariants.{Strained}
use Rattle.sat_budget.specs.declared.limits.Stop.TheVariants as stops
use Rattle.sat_budget.specs.Budgets.{StopsBy}
use Rattle.simplex_explain.specs.Stated.{all_stated, IsKnownIn}
use Rattle.simplex.specs.Views.{SimplexView, SimplexFits, IsOf, start_of, slack_count}
use Rattle.simplex.specs.Coming.{term_tableau_of, IsOverflowAt}
use Rattle.simplex.proofs.Stated.{stated_same, count_same}
use Rattle.simplex.proofs.Fitting.{each_mark, right_with}

-- What comes of a term that is not watched where it may get a place.
pub record GivesSlack (t : TableView) (v : SimplexView) (id : TermId) (w : SimplexView) : Type 0 where
  pub theory : w.theory ≡ v.theory
  pub starts : w.starts ≡ v.starts
  pub right : AtomsFit t w.atoms w.assignment w.bounds
  pub bounds : KeepBounds v.bounds w.bounds
  pub others : (other : TermId) → (id.0 ≡ other.0 → ⊥) → slack_in w.atoms.slack_list other ≡ slack_in v.atoms.slack_list other

module _ (t : TableView) (v : SimplexView) (id : TermId) (new : Contains v.theory.watched id → ⊥) (w : SimplexView) (g : GivesSlack t v id w) where
  abbrev p : List (ℕ × Slack)
  p = v.atoms.slack_list

  abbrev q : List (ℕ × Slack)
  q = w.atoms.slack_list

  unwatched : (other : TermId) → Contains v.theory.watched other → slack_in q other ≡ slack_in p other
  unwatched other c = g.others other (λ e. let same : id ≡ other = λ i. record { 0 = e i } in new (subst (Contains v.theory.watched) (sym same) c))

  pub watched_stay : All (λ other. slack_in q other ≡ slack_in p other) v.theory.watched
  watched_stay k d lt = unwatched _ (Contains-get_or v.theory.watched k d lt)

  pub count_stays : slack_count q v.theory.watched ≡ slack_count p v.theory.watched
  count_stays = count_same p q v.theory.watched watched_stay

  pub fits_slacked : SimplexFits v → AreOverWatched v.theory.held v.theory.watched → SimplexFits w
  fits_slacked f over =
      let held : All (λ (l : Lit). slack_in q l.term ≡ slack_in p l.term) v.theory.held = λ k d lt. unwatched _ (over k d lt) in
      record {
        bounds_are = ap (map limit_of) g.bounds.held ∙ f.bounds_are ∙ sym (stated_same p q v.theory.held held)
            ∙ ap (λ (x : TheoryView). all_stated q x.held) (sym g.theory);
        starts_are = g.starts ∙ f.starts_are ∙ each_mark (start_of p v.theory) (start_of q v.theory) v.theory.marks (λ k lt. sym (λ i. record {
          bounds = length (stated_same p q (take (get_or v.theory.marks k no_mark).held v.theory.held)
              (All-take (λ (l : Lit). slack_in q l.term ≡ slack_in p l.term) (get_or v.theory.marks k no_mark).held v.theory.held held) i);
          slack_list = count_same p q (take (get_or v.theory.marks k no_mark).watched v.theory.watched)
              (All-take (λ other. slack_in q other ≡ slack_in p other) (get_or v.theory.marks k no_mark).watched v.theory.watched watched_stay) i;
        })) ∙ ap (λ (x : TheoryView). map (start_of q x) x.marks) (sym g.theory);
        room = omega (
          arith,
          f.room,
          count_stays,
          ap (λ (x : TheoryView). slack_count q x.watched) g.theory,
          ap length g.bounds.held,
          g.bounds.room,
        );
        reached = λ other slack at. (g.right.are_slacked other slack at).reached;
      }

-- with a term more, for which there is room
pub fits_watched : (v w : SimplexView) (id : TermId) → AreHeldMarks v.theory.held v.theory.watched v.theory.marks → w.theory ≡ with_watched v.theory id
    → (w.atoms.slack_list ≡ v.atoms.slack_list) × (w.starts ≡ v.starts) × (w.bounds.held ≡ v.bounds.held) × (w.bounds.variables ≡ v.bounds.variables)
    → 4 * slack_count v.atoms.slack_list (v.theory.watched ++ id ∷ []) ≤ w.bounds.room → SimplexFits v → SimplexFits w
fits_watched v w id m th (at, st, held, variables) room f =
    let counts : slack_count w.atoms.slack_list w.theory.watched ≡ slack_count v.atoms.slack_list (v.theory.watched ++ id ∷ []) = λ i. slack_count (at i) (th i).watched in
    record {
      bounds_are = ap (map limit_of) held ∙ f.bounds_are ∙ sym (λ i. all_stated (at i) (th i).held);
      starts_are = st ∙ f.starts_are
          ∙ each_mark (start_of v.atoms.slack_list v.theory) (start_of v.atoms.slack_list (with_watched v.theory id)) v.theory.marks (λ k lt. sym (λ i. record {
            bounds = length (all_stated v.atoms.slack_list (take (get_or v.theory.marks k no_mark).held v.theory.held));
            slack_list = slack_count v.atoms.slack_list (take-append-le (get_or v.theory.marks k no_mark).watched v.theory.watched (id ∷ []) (m.watched_in k lt) i);
          }))
          ∙ sym (λ i. map (start_of (at i) (th i)) (th i).marks);
      room = omega (arith, room, counts);
      reached = λ other slack is. omega (arith, variables, f.reached other slack (subst (λ ps. slack_in ps other ≡ Some slack) at is));
    }

pub of_watched : (t : TableView) (v w : SimplexView) (id : TermId) → w.atoms ≡ v.atoms → w.assignment ≡ v.assignment → w.bounds.variables ≡ v.bounds.variables
    → w.theory.watched ≡ v.theory.watched ++ id ∷ [] → IsOf v t × IsKnownIn t v.atoms.slack_list id → IsOf w t
of_watched t v w id a b e is (o, known) = record {
  right = subst (λ (x : AtomsView). AtomsFit t x w.assignment w.bounds) (sym a)
      (subst (λ (x : AssignmentView). AtomsFit t v.atoms x w.bounds) (sym b) (right_with t v.atoms v.assignment v.bounds w.bounds (sym e) o.right));
  known = subst (λ (x : AtomsView). All (IsKnownIn t x.slack_list) w.theory.watched) (sym a)
      (subst (All (IsKnownIn t v.atoms.slack_list)) (sym is) (All-push (IsKnownIn t v.atoms.slack_list) v.theory.watched id o.known known));
}

-- the overflow of an atom's place is one over terms among which it is
atom_overflows : (t : TableView) (v : SimplexView) (id : TermId) (ts : List Term) → Contains ts (term_at t id) → (o : Overflow) → OverflowsAtom t v.atoms.owners v.assignment id o → OverflowsAt ts (term_tableau_of t v) o
atom_overflows t v id ts there o (in_form c says e fails is) =
    forming (record { atom = term_at t id; there = there; constraint = c; says = says; fault = e; fails = fails; is = is })
atom_overflows t v id ts there o (in_place c says f has w) = by (record { atom = term_at t id; there = there; constraint = c; says = says; has = has }) w
  where
    by : IsFormAmong ts f → OverflowsForm t v.atoms.owners v.assignment f o → OverflowsAt ts (term_tableau_of t v) o
    by among (bound u k one d) = bounding f among u k one d
    by among (row gs are d) = adding_row f among gs are d

-- its stop, with the assignment's basis
pub stop_of : (t : TableView) (v : SimplexView) (id : TermId) (w : Wide) → OverflowsAtom t v.atoms.owners v.assignment id (overflow w) → (stop : Stop)
    → StopsBy (λ s. (s.wide ≡ w) × IsBasisOf v.assignment s.basis) stop → StopsBy (λ s. (ts : List Term) → Contains ts (term_at t id) → IsOverflowAt t ts s v) stop
stop_of t v id w cause (Strained s) h = λ ts there. (atom_overflows t v id ts there (overflow s.wide) (subst (λ x. OverflowsAtom t v.atoms.owners v.assignment id (overflow x)) (sym h.0) cause), h.1)
stop_of t v id w cause stops.Memory h = h

-- it is one over the watched terms with the new one
stop_watching : (t : TableView) (v : SimplexView) (old : TheoryView) (id : TermId) (stop : Stop) → StopsBy (λ s. (ts : List Term) → Contains ts (term_at t id) → IsOverflowAt t ts s v) stop
    → StopsBy (λ s. IsOverflowAt t (terms_watched t (with_watched old id)) s v) stop
stop_watching t v old id (Strained s) h = h (terms_watched t (with_watched old id)) (to_image (term_at t) (old.watched ++ id ∷ []) id (Contains-push old.watched id))
stop_watching t v old id stops.Memory h = h

pub stops_watching : (t : TableView) (v : SimplexView) (old : TheoryView) (id : TermId) (r : Result (Unit {0}) Stop) (stop : Stop) → IsErrAnd r (λ e. e ≡ stop)
    → StopsBy (λ s. (ts : List Term) → Contains ts (term_at t id) → IsOverflowAt t ts s v) stop → IfErr r (StopsBy (λ s. IsOverflowAt t (terms_watched t (with_watched old id)) s v))
stops_watching t v old id (Ok x) stop is h = tt
stops_watching t v old id (Err e) stop is h = stop_watching t v old id e (subst (StopsBy (λ s. (ts : List Term) → Contains ts (term_at t id) → IsOverflowAt t ts s v)) (sym is) h)
