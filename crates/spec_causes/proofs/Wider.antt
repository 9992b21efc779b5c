-- What simplex comes to over terms it comes to over more of them.
use Rattle.std.proofs.Common.{ℕ, List, Contains}
use Rattle.std.proofs.lemmas.List.Elements.{All-weaker}
use Rattle.spec_numbers.specs.Bounds.{Overflow}
use Rattle.spec_sorts.specs.Terms.{Apply, Term, app}
use Rattle.spec_sorts.specs.Literals.{Literal}
use Rattle.spec_sorts.specs.Subsets.{AreAmong}
use Rattle.spec_arithmetic.specs.Forms.{Form}
use Rattle.spec_tableaux.specs.Spaces.{Pair}
use Rattle.spec_tableaux.specs.Numbers.{Number}
use Rattle.spec_tableaux.specs.Points.{Ranges}
use Rattle.spec_causes.specs.TermTableau.{TermTableau}
use Rattle.spec_causes.specs.Shared.{IsSharedAmong, argument, value, IsSharedValue, AreSharedValues}
use Rattle.spec_causes.specs.Bounds.{AreBounds}
use Rattle.spec_causes.specs.Reached.{IsFormAmong, IsReached, beginning, naming, summing, idling, checking}
use Rattle.spec_causes.specs.Causes.{OverflowsAt, forming, bounding, adding_row, explaining, valuing, finding, evaluating, evaluating_shared}
use Rattle.spec_causes.specs.Causes as causes

module _ (ts us : List Term) (more : AreAmong ts us) where
  form_among_more : (f : Form) → IsFormAmong ts f → IsFormAmong us f
  form_among_more f h = record { atom = h.atom; there = more h.atom h.there; constraint = h.constraint; says = h.says; has = h.has }

  abbrev bounds_among_more : (s : TermTableau) (ranges : Ranges) → AreBounds ts s ranges → AreBounds us s ranges
  bounds_among_more s ranges h = record {
    literals = h.literals;
    atoms = All-weaker (λ (l : Literal). Contains ts l.atom) (λ (l : Literal). Contains us l.atom) (λ l there. more l.atom there) h.literals h.atoms;
    stated = h.stated;
  }

  pub reached_over_more : (n : ℕ) (es : List (ℕ × ℕ)) (s : TermTableau) → IsReached ts n es s → IsReached us n es s
  reached_over_more _ _ _ beginning = beginning
  reached_over_more _ _ _ (naming n es s0 h f among u k has new) =
      naming n es s0 (reached_over_more n es s0 h) f (form_among_more f among) u k has new
  reached_over_more _ _ _ (summing n es s0 h f among gs are longer is_new) =
      summing n es s0 (reached_over_more n es s0 h) f (form_among_more f among) gs are longer is_new
  reached_over_more _ _ _ (idling n es s0 h ranges bounds rs vs many ran) =
      idling n es s0 (reached_over_more n es s0 h) ranges (bounds_among_more s0 ranges bounds) rs vs many ran
  reached_over_more _ _ _ (checking n old new s0 h ranges bounds rs vs many ran) =
      checking n old new s0 (reached_over_more n old s0 h) ranges (bounds_among_more s0 ranges bounds) rs vs many ran

  pub shared_among_more : (u : Term) → IsSharedAmong ts u → IsSharedAmong us u
  shared_among_more _ (argument f vs there u has real) = argument f vs (more (app (Apply f) vs) there) u has real
  shared_among_more _ (value f vs there some real) = value f vs (more (app (Apply f) vs) there) some real

  value_over_more : (s : TermTableau) (p : Pair Number) → IsSharedValue ts s p → IsSharedValue us s p
  value_over_more s p h = record { term = h.term; shared = shared_among_more h.term h.shared; value = h.value }

  values_over_more : (s : TermTableau) (ps : List (Pair Number)) → AreSharedValues ts s ps → AreSharedValues us s ps
  values_over_more s ps h p there = value_over_more s p (h p there)

  pub overflows_over_more : (s : TermTableau) (o : Overflow) → OverflowsAt ts s o → OverflowsAt us s o
  overflows_over_more s o (forming w) = forming (record {
    atom = w.atom;
    there = more w.atom w.there;
    constraint = w.constraint;
    says = w.says;
    fault = w.fault;
    fails = w.fails;
    is = w.is;
  })
  overflows_over_more s o (bounding f among u k is w) = bounding f (form_among_more f among) u k is w
  overflows_over_more s o (adding_row f among gs are w) = adding_row f (form_among_more f among) gs are w
  overflows_over_more s o (causes.checking ranges bounds w) = causes.checking ranges (bounds_among_more s ranges bounds) w
  overflows_over_more s o (explaining ranges bounds up es conflict w) = explaining ranges (bounds_among_more s ranges bounds) up es conflict w
  overflows_over_more s o (valuing u shared w) = valuing u (shared_among_more u shared) w
  overflows_over_more s o (finding ranges bounds within apart values w) =
      finding ranges (bounds_among_more s ranges bounds) within apart (values_over_more s apart values) w
  overflows_over_more s o (evaluating ranges bounds within apart values e is w) =
      evaluating ranges (bounds_among_more s ranges bounds) within apart (values_over_more s apart values) e is w
  overflows_over_more s o (evaluating_shared ranges bounds within apart values e is p shared w) =
      evaluating_shared ranges (bounds_among_more s ranges bounds) within apart (values_over_more s apart values) e is p (value_over_more s p shared) w
