-- The bounds that a literal states can be held, and a check that finds a conflict ends where nonbasic variables keep their bounds.
use Rattle.std.proofs.Common.{◌≡◌, ℕ, ◌<◌, false, List, [], ◌∷◌, ◌++◌, Option, Some, None, map, refl, sym, ◌∙◌, ap, subst}
use Rattle.std.specs.Prelude.{Contains}
use Rattle.std.proofs.lemmas.List.Elements.{All-push, Contains-push}
use Rattle.spec_text.proofs.Members.{first, to_image}
use Rattle.spec_tableaux.specs.Ranges.{is_crossed}
use Rattle.spec_tableaux.specs.LeastVariable.{MakesPivots, IsNonbasicFeasible}
use Rattle.spec_tableaux.proofs.UpdatingNonbasic.{updates_updated}
use Rattle.spec_tableaux.proofs.Steps.{exchange_updated}
use Rattle.term_core.specs.declared.ids.Lit.{Lit}
use Rattle.simplex_bounds.specs.declared.bounds.Bound.{Bound}
use Rattle.spec_tableaux.specs.Points.{deltas, AssignmentState, Ranges}
use Rattle.spec_tableaux.specs.Runs.{Ran}
use Rattle.simplex_check.proofs.Points.{deltas_are_ordered}
use Rattle.simplex_atoms.specs.declared.slack.Slack.{Slack}
use Rattle.simplex_atoms.specs.Slacks.{slack_in}
use Rattle.simplex_atoms.specs.Limits.{limit_of, limits_by, one_of, limits_meant}
use Rattle.simplex_explain.specs.Stops.{IsStatedBound, AreStated}
use Rattle.simplex_explain.specs.Held.{AreReached, IsUnder, IsBoundStated}
use Rattle.simplex_explain.proofs.Pieces.{LimitLaws}

makes_updated : (ranges : Ranges) (t : AssignmentState) (es : List (ℕ × ℕ)) (u : AssignmentState) → IsNonbasicFeasible deltas ranges t → MakesPivots deltas ranges t es u → IsNonbasicFeasible deltas ranges u
makes_updated ranges t [] u s m = subst (IsNonbasicFeasible deltas ranges) m s
makes_updated ranges t (e ∷ es) u s m = makes_updated ranges m.1.0 es u (exchange_updated deltas deltas_are_ordered ranges t m.1.0 e.0 e.1 s m.0 m.1.1) m.1.2

-- where no bounds cross, nonbasic variables keep theirs after the exchanges
pub ran_updated : (ranges : Ranges) (t u : AssignmentState) (old new : List (ℕ × ℕ)) → ((y : ℕ) → is_crossed deltas ranges y ≡ false) → Ran ranges t u old new → IsNonbasicFeasible deltas ranges u
ran_updated ranges t u old new n r = makes_updated ranges r.start r.made u (updates_updated deltas deltas_are_ordered ranges t r.start n r.updates_nonbasic) r.makes

-- each of the bounds that a literal states can be held

module _ (laws : LimitLaws) (slack_list : List (ℕ × Slack)) (n : ℕ) (l : Lit) (slack : Slack) (reach : AreReached slack_list n) (there : slack_in slack_list l.term ≡ Some slack) where
  fits_of : (o : Option Bound) → ((b : Bound) → o ≡ Some b → Contains (limits_by slack l) (limit_of b)) → IsBoundStated slack_list o
  fits_of None h = tt
  fits_of (Some b) h =
      let own = laws.states slack l (limit_of b) (h b refl) in
      record { slack = slack; there = ap (λ (k : Lit). slack_in slack_list k.term) own.1 ∙ there; states = subst (λ k. Contains (limits_by slack k) (limit_of b)) (sym own.1) (h b refl) }

  under_of : (o : Option Bound) → ((b : Bound) → o ≡ Some b → Contains (limits_by slack l) (limit_of b)) → IsUnder n o
  under_of None h = tt
  under_of (Some b) h = subst (λ y. y < n) (sym (laws.states slack l (limit_of b) (h b refl)).0) (reach l.term slack there)

  module _ (a b : Option Bound) (e : limits_meant (a, b) ≡ limits_by slack l) where
    first_stated : (x : Bound) → a ≡ Some x → Contains (limits_by slack l) (limit_of x)
    first_stated x is = subst (λ ls. Contains ls (limit_of x)) (ap (λ o. limits_meant (o, b)) (sym is) ∙ e) (first (limit_of x) (map limit_of (one_of b)))

    second_stated : (x : Bound) → b ≡ Some x → Contains (limits_by slack l) (limit_of x)
    second_stated x is = subst (λ ls. Contains ls (limit_of x)) (ap (λ o. limits_meant (a, o)) (sym is) ∙ e) (to_image limit_of (one_of a ++ x ∷ []) x (Contains-push (one_of a) x))

    pub first_fits : IsBoundStated slack_list a × IsUnder n a
    first_fits = (fits_of a first_stated, under_of a first_stated)

    pub second_fits : IsBoundStated slack_list b × IsUnder n b
    second_fits = (fits_of b second_stated, under_of b second_stated)

pub stated_more : (slack_list : List (ℕ × Slack)) (held : List Bound) (o : Option Bound) (b : Bound) → o ≡ Some b → IsBoundStated slack_list o → AreStated slack_list held → AreStated slack_list (held ++ b ∷ [])
stated_more slack_list held o b is fits stated = All-push (IsStatedBound slack_list) held b stated (subst (IsBoundStated slack_list) is fits)
