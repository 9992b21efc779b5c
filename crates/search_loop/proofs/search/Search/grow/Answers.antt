-- How all parts grew.
use Rattle.std.proofs.Common.{◌≡◌, ◌∙◌, ◌++◌, List, Bool, length, refl, sym, ap, subst}
use Rattle.spec_sorts.specs.Literals.{Literal}
use Rattle.spec_derivations.specs.Problems.{Problem}
use Rattle.term_core.specs.declared.ids.TermId.{TermId}
use Rattle.term_core.specs.Tables.{clause_at}
use Rattle.proof_log.specs.declared.premises.StepId.{StepId}
use Rattle.term_clauses.specs.SpokenTerms.{problem_in}
use Rattle.clausify.specs.Overflows.{IsOrderOverflow}
use Rattle.clausify.specs.SearchTerms.{AreNewTerms}
use Rattle.clausify.proofs.Overflowing.{passed_on}
use Rattle.conflict_learn.proofs.Stating.{extends_back}
use Rattle.search_loop.specs.declared.search.Search.{Search}
use Rattle.search_loop.specs.Waiting.{AreWaiting}
use Rattle.search_loop.specs.Search.{AreAtomsAmong}
use Rattle.search_loop.specs.Growing.{GrowsTo, StoresAll}
use Rattle.search_loop.proofs.SearchGrows.{Came, fits_grown, apart_wider, apart_with_more, search_grown}
use Rattle.search_loop.proofs.SearchParts.{part_of, wide_of}
use Rattle.search_loop.proofs.search.Search.grow.Goals as goal

pub returns-in_err-steps-clause-grown : goal.returns-in_err-steps-clause-grown
returns-in_err-steps-clause-grown c = extends_back c.args.table.now c.clauses_of_new.new.table c.in_err-steps.ensures.same.0

pub returns-in_err-steps-clause-wide : goal.returns-in_err-steps-clause-wide
returns-in_err-steps-clause-wide c =
    let t = c.args.table.now in
    let x = c.args.self.now in
    let roots = c.args.roots.now in
    let interface = c.args.interface.now in
    passed_on (IsOrderOverflow (problem_in t roots interface)) (λ o. (p : Problem) (earlier : List (List Literal)) → GrowsTo t x roots interface earlier p → IsOrderOverflow p o) c.from_residual.result c.in_err-steps.field-0.0 c.from_residual.ensures.1
    (wide_of t x roots interface c.requires.roots c.requires.interface c.requires.answered c.requires.answered_interface) c.in_err-steps.ensures.wide

pub returns-clause-grows : goal.returns-clause-grows
returns-clause-grows c =
    let t = c.args.table.now in
    let u = c.clauses_of_new.new.table in
    let x = c.args.self.now in
    let roots = c.args.roots.now in
    let interface = c.args.interface.now in
    let log = c.clauses_of_new.new.log in
    let store = c.store_all.new.store in
    let made = c.in_ok-steps.ensures in
    let steps = c.in_ok-steps.field-0.steps in
    let terms = c.in_ok-steps.field-0.terms.items in
    let atoms = c.in_ok-atoms.atoms.items in
    let y : Search = record { alloc = x.alloc; log = log; store = store; trail = c.reach.new.trail; terms = c.extend_from_slice.new.self; atoms = c.extend_from_slice-2.new.self; decider = c.affirm.new.self; restarts = x.restarts; budget = x.budget; fed = x.fed; since = x.since } in
    let new : AreNewTerms u (problem_in t roots interface) x.terms.items terms = subst (λ (ids : List TermId). AreNewTerms u (problem_in t roots interface) ids terms) c.deref.ensures.value made.terms in
    let chosen : AreAtomsAmong u terms atoms = subst (λ (ids : List TermId). AreAtomsAmong u ids atoms) c.deref-2.ensures.value c.in_ok-atoms.ensures in
    let stored : StoresAll u log steps x.store store = subst (λ (ss : List StepId). StoresAll u log ss x.store store) c.as_slice-2.ensures c.in_ok-store_all.ensures in
    let terms_are : y.terms.items ≡ x.terms.items ++ terms = c.in_ok-extend_from_slice.ensures.items ∙ ap (λ (ids : List TermId). x.terms.items ++ ids) c.deref-6.ensures.value in
    let atoms_are : y.atoms.items ≡ x.atoms.items ++ atoms = c.in_ok-extend_from_slice-2.ensures.items ∙ ap (λ (ids : List TermId). x.atoms.items ++ ids) c.deref-7.ensures.value in
    let waits : AreWaiting (x.atoms.items ++ atoms) x.trail.literals y.decider =
    subst (λ (ws : List Bool). AreWaiting (x.atoms.items ++ atoms) x.trail.literals ws) (sym (c.affirm.ensures ∙ c.lean.ensures))
    (subst (λ (ids : List TermId). AreWaiting (x.atoms.items ++ ids) x.trail.literals c.wait_for.new.self) c.deref-3.ensures.value
    (c.in_ok-wait_for.ensures.waiting x.atoms.items x.trail.literals c.requires.ready.waiting)) in
    let came : Came t u x y roots interface = record {
      ready = c.requires.ready;
      roots_in = c.requires.roots;
      interface_in = c.requires.interface;
      differ = c.ids_are_unique.ensures;
      terms = terms;
      steps = steps;
      new = new;
      states = made.clauses;
      made = made.made;
      grows = made.grown;
      stores = stored;
      terms_are = terms_are;
      learned = refl;
      since = refl;
    } in
    record {
      table = made.grown.table;
      declared = made.grown.declared;
      ready = fits_grown t u x y roots interface came c.what_is_marked_was_seen.ensures.grown c.reasons_stay_right.ensures.grown atoms chosen atoms_are c.in_ok-reach.ensures c.is_sound.ensures.leveled c.requires.level waits
          (ap length (c.affirm.ensures ∙ c.lean.ensures) ∙ c.in_ok-wait_for.ensures.size ∙ c.vars.ensures);
      trail = c.in_ok-reach.ensures.same;
      fed = refl;
      budget = refl;
      logged = made.grown.more;
      log = made.grown.log;
      more = terms;
      terms = terms_are;
      appended = record { log = (made.grown.more, made.grown.log); clauses = (stored.more, stored.clauses); steps = (steps, stored.steps_are); terms = (terms, terms_are); atoms = (atoms, atoms_are) };
      search = λ p earlier grows. search_grown t u x y roots interface came p earlier (part_of t x roots interface c.requires.roots c.requires.interface c.requires.answered c.requires.answered_interface p earlier grows);
      apart = λ q earlier s holds none shared. apart_wider t u x y roots interface came q earlier holds (clause_at t interface) shared;
      apart_from_roots = λ q earlier s holds shared. apart_with_more t u x y roots interface came q earlier holds (clause_at t roots) (clause_at t interface) shared;
    }
