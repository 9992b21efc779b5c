-- The numbers tell which terms are linked, and so which are congruent.
use Rattle.std.proofs.Common.{◌≡◌, ◌∙◌, ℕ, ◌<◌, ap, get_or, length, map, subst}
use Rattle.std.specs.Prelude.{Vec, IfOk}
use Rattle.std.specs.declared.alloc.Global.{Global}
use Rattle.std.proofs.lemmas.Result.{IfOk-weaker}
use Rattle.congruence_relation.specs.Relation.{IsCongruentIn}
use Rattle.congruence_closure.specs.Closure.{ClosureView, TellClasses}
use Rattle.congruence_closure.specs.Listed.{no_term_id}
use Rattle.congruence_closure.specs.Whole.{closure_of}
use Rattle.congruence_closure.specs.State.{class_number}
use Rattle.congruence_closure.proofs.SaturatedClosure.{saturated_closed}
use Rattle.congruence_closure.proofs.Numbering.{numbers_sound, numbers_exact}
use Rattle.congruence_closure.proofs.closure.Closure.classes.Goals as goal

pub returns-clause-sound : goal.returns-clause-sound
returns-clause-sound c =
    let terms = c.args.terms.now in
    let s = c.self.inside.parts.now in
    let kept = c.are_kept.ensures.kept in
    let are : Vec ℕ Global → Type 0 = λ v. v.items ≡ map (class_number s.numbers) terms in
    let sound : ClosureView → Vec ℕ Global → Type 0 = λ w v. (i j : ℕ) → i < length terms → j < length terms → get_or v.items i 0 ≡ get_or v.items j 0 → IsCongruentIn w.now.facts (get_or terms i no_term_id) (get_or terms j no_term_id) in
    subst (λ (w : ClosureView). IfOk c.classes.result (sound w)) c.self.view_is
    (IfOk-weaker c.classes.result are (sound (closure_of c.self.inside)) (λ v is. numbers_sound s.facts s.numbers s.edges kept.joint kept.reasons terms v.items is) c.classes.ensures)

pub returns-clause-exact : goal.returns-clause-exact
returns-clause-exact c saturated =
    let terms = c.args.terms.now in
    let s = c.self.inside.parts.now in
    let kept = c.are_kept.ensures.kept in
    let done = c.self.invariant.done (ap (λ (w : ClosureView). w.now.saturated) c.self.view_is ∙ saturated) in
    let are : Vec ℕ Global → Type 0 = λ v. v.items ≡ map (class_number s.numbers) terms in
    let exact : ClosureView → Vec ℕ Global → Type 0 = λ w v. TellClasses (IsCongruentIn w.now.facts) terms v.items in
    subst (λ (w : ClosureView). IfOk c.classes.result (exact w)) c.self.view_is
    (IfOk-weaker c.classes.result are (exact (closure_of c.self.inside)) (λ v is. numbers_exact s.facts s.numbers s.edges kept.joint kept.reasons terms v.items is (saturated_closed s kept done)) c.classes.ensures)
