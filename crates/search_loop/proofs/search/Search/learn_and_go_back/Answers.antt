-- That what the search has fits together with the clause that was learned, and that the theory keeps up.
use Rattle.std.proofs.Common.{◌≡◌, ◌<◌, ◌∙◌, ℕ, ap, subst, sym, refl, arith, length, List, ◌∷◌, []}
use Rattle.std.proofs.lemmas.List.{length-append}
use Rattle.std.proofs.lemmas.List.Elements.{All-contains}
use Rattle.spec_proofs.specs.declared.Rule.TheVariants.{Resolution}
use Rattle.term_core.specs.declared.ids.Lit.{Lit}
use Rattle.proof_log.specs.Logs.{stepped}
use Rattle.sat_budget.specs.Budgets.{BudgetView}
use Rattle.search_loop.specs.declared.search.Search.{Search}
use Rattle.search_loop.specs.Waiting.{AreWaiting}
use Rattle.search_loop.specs.Rounds.{IsNoted}
use Rattle.search_loop.proofs.SearchReasons.{reasons_are}
use Rattle.search_loop.proofs.SearchLevels.{level_below}
use Rattle.search_loop.proofs.SearchReady.{all_of_atoms, ready_learned}
use Rattle.search_loop.proofs.SearchAppends.{appends_stored}
use Rattle.search_loop.proofs.SearchGrown.{atoms_kept}
use Rattle.search_loop.proofs.SearchShows.{search_learned, apart_learned}
use Rattle.search_loop.proofs.search.Search.learn_and_go_back.Goals as goal

pub learn-requires-clause-reasons : goal.learn-requires-clause-reasons
learn-requires-clause-reasons g c =
    let x = c.args.self.now in
    reasons_are c.args.table.now c.ids_are_unique.ensures x.log x.store c.requires.going.ready.derives x.trail c.requires.going.ready.implied

pub learnt-requires-clause-step : goal.learnt-requires-clause-step
learnt-requires-clause-step g c =
    let l = c.in_ok-learned.ensures.learned.logged in
    omega (arith, l.number, ap length l.last, length-append c.args.self.now.log (stepped Resolution l.premises [] l.terms ∷ []))

pub learnt-requires-clause-vars : goal.learnt-requires-clause-vars
learnt-requires-clause-vars g c = c.requires.going.ready.sized

pub go_back-requires-clause-below : goal.go_back-requires-clause-below
go_back-requires-clause-below g c =
    let d = c.in_ok-learned.learned in
    let l = c.in_ok-learned.ensures.learned in
    omega (arith, c.level_after-level.ensures, level_below c.args.self.now.trail c.is_sound.ensures.once c.is_sound.ensures.leveled d.clause l.level d.level l.one l.above)

pub go_back-requires-clause-keeps : goal.go_back-requires-clause-keeps
go_back-requires-clause-keeps g c = c.requires.going.asked.keeps

pub returns-clause-learns : goal.returns-clause-learns
returns-clause-learns g c =
    let t = c.args.table.now in
    let u = c.learn.new.table in
    let x = c.args.self.now in
    let d = c.in_ok-learned.learned in
    let l = c.in_ok-learned.ensures.learned in
    let store = c.add.new.self in
    let trail = c.go_back.new.trail in
    let ws = c.put_back.new.self in
    let n = c.level_after-level.result in
    let added = c.in_ok-add.ensures in
    let cut = c.go_back.ensures.cut in
    let noted : IsNoted d.clause x.budget c.note.new.budget = subst (λ (ls : List Lit). IsNoted ls x.budget c.note.new.budget) c.as_slice.ensures c.in_ok-note.ensures in
    let y : Search = record { alloc = x.alloc; log = c.learn.new.log; store = store; trail = trail; terms = x.terms; atoms = x.atoms; decider = ws; restarts = c.level_after-level.new.self; budget = c.note.new.budget; fed = c.len-self.result; since = x.since } in
    let r = c.requires.going.ready in
    let once = c.is_sound.ensures.once in
    let leveled = c.is_sound.ensures.leveled in
    let seen = c.what_is_marked_was_seen.ensures in
    let implied = c.reasons_stay_right.ensures in
    let waiting : AreWaiting x.atoms.items trail.literals ws = c.put_back.ensures.waiting x.atoms.items trail (all_of_atoms t x r) cut (subst (AreWaiting x.atoms.items x.trail.literals) (sym c.learnt.ensures) r.waiting) in
    let size : length ws ≡ length x.decider = c.put_back.ensures.size ∙ ap length c.learnt.ensures in
    let back = c.go_back.ensures.back in
    let lawful = g.met.T.Theory.lawful c.args.theory.now in
    let grown = c.learn.ensures.grown in
    record {
      with = back.runs.with u (lawful.grown t u grown c.requires.going.with);
      came = λ ts n h. subst (λ (es : List (ℕ × ℕ)). (g.T.Theory.meaning c.go_back.new.theory).running.came_by u ts n es) (sym (ap (λ (b : BudgetView). b.exchanges) noted))
          (back.runs.came u ts n x.budget.exchanges (lawful.came_grown t u grown c.requires.going.with ts n x.budget.exchanges h));
      step = (d, l);
      asked = record {
        keeps = back.keeps;
        terms = back.watched ∙ c.requires.going.asked.terms;
        fed = c.len-self.ensures ∙ ap length (sym back.holds);
      };
      learned = record {
        ready = ready_learned t u c.learn.ensures.grown c.ids_are_unique-2.ensures x y r c.args.clash d l noted added n c.level_after-level.ensures cut once leveled
            (λ m i. All-contains (λ (z : Lit). z.term.0 < x.trail.vars) x.trail.literals m c.is_sound.ensures.known i)
            (seen.cut store x.trail trail n (seen.added u c.learn.new.log d.step x.store store x.trail r.seen added) cut)
            (implied.cut store x.trail trail n (implied.added u c.learn.new.log d.step x.store store x.trail c.steps_are_paired.ensures r.implied added) cut)
            refl refl (atoms_kept t u c.learn.ensures.grown c.learn.ensures.declared x.terms.items x.atoms.items r.atoms_are) waiting size;
        continues = record {
          table = c.learn.ensures.grown;
          declared = c.learn.ensures.declared;
          limit = ap (λ (b : BudgetView). b.limit) noted;
          more = d.clause ∷ [];
          learned = ap (λ (b : BudgetView). b.learned) noted;
          vars = cut.vars;
          terms = refl;
          appended = appends_stored u c.learn.new.log d.step x y (stepped Resolution l.logged.premises [] l.logged.terms ∷ [], l.logged.last) added refl refl;
          search = search_learned t u c.learn.ensures.grown c.ids_are_unique.ensures c.ids_are_unique-2.ensures c.learn.ensures.declared x y r once leveled c.is_sound.ensures.consistent
              (c.logs_hold_in_grown_tables.ensures.same t u x.log r.right c.learn.ensures.grown) c.args.clash d l noted added refl refl;
          apart = apart_learned t u c.learn.ensures.grown c.ids_are_unique.ensures c.ids_are_unique-2.ensures c.learn.ensures.declared x y r once leveled c.is_sound.ensures.consistent
              (c.logs_hold_in_grown_tables.ensures.same t u x.log r.right c.learn.ensures.grown) c.args.clash d l noted added refl refl;
        };
        learned = ap (λ (b : BudgetView). length b.learned) noted ∙ length-append x.budget.learned (d.clause ∷ []);
      };
    }
