-- Equal terms have one number, by numbers and over a table.
use Rattle.std.proofs.Common.{◌≡◌, ◌↔◌, ℕ, true, List, map, get_or, sym, subst}
use Rattle.std.specs.Prelude.{Vec, IfOk}
use Rattle.std.specs.declared.alloc.Global.{Global}
use Rattle.std.proofs.lemmas.Result.{IfOk-weaker}
use Rattle.spec_sorts.specs.Terms.{Term}
use Rattle.spec_equality.specs.Congruence.{IsCongruent as AreEqual}
use Rattle.term_core.specs.Tables.{term_at, literal_at}
use Rattle.congruence_relation.specs.Relation.{IsCongruentIn}
use Rattle.congruence_closure.specs.Closure.{ClosureView, TellClasses}
use Rattle.congruence_closure.specs.Listed.{no_term_id}
use Rattle.congruence.specs.Views.{theory_of, AreEqualBy}
use Rattle.congruence.proofs.Terms.{watched_are_listed}
use Rattle.congruence.proofs.congruence.Congruence.classes.Goals as goal

pub returns-clause-exact : goal.returns-clause-exact
returns-clause-exact c t different declared of_table there saturated =
    let v = c.args.self.now in
    let terms = c.args.terms.now in
    let by_numbers : Vec ℕ Global → Type 0 = λ x. TellClasses (IsCongruentIn v.now.facts) terms x.items in
    let exact : IfOk c.classes.result by_numbers = subst (λ (w : ClosureView). w.now.saturated ≡ true → IfOk c.classes.result (λ x. TellClasses (IsCongruentIn w.now.facts) terms x.items)) c.self.view_is c.classes.ensures.exact saturated in
    IfOk-weaker c.classes.result by_numbers (λ x. TellClasses (AreEqualBy t (theory_of v)) terms x.items) (λ x tell i j i_low j_low.
    let a = get_or terms i no_term_id in
    let b = get_or terms j no_term_id in
    let agree = c.numbers_and_terms_agree.ensures t v.now.facts different declared of_table a b (there i no_term_id i_low) (there j no_term_id j_low) in
    let over : IsCongruentIn v.now.facts a b ↔ AreEqualBy t (theory_of v) a b =
    subst (λ (ts : List Term). IsCongruentIn v.now.facts a b ↔ AreEqual ts (map (literal_at t) v.now.facts.held) (term_at t a) (term_at t b)) (sym (watched_are_listed t v)) agree in
    (λ e. over.0 ((tell i j i_low j_low).0 e), λ h. (tell i j i_low j_low).1 (over.1 h))) exact
