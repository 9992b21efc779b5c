-- That a literal is decided whose variable waits, and what comes of it.
use Rattle.std.proofs.Common.{◌+◌, ◌∙◌, ◌∷◌, [], ◌++◌, length, refl, sym, ap, subst}
use Rattle.std.specs.Prelude.{None}
use Rattle.std.proofs.lemmas.List.Elements.{Contains-append_left}
use Rattle.term_core.proofs.TermsExtend.{Extends-self}
use Rattle.sat_budget.specs.declared.limits.Stop.TheVariants.{Memory}
use Rattle.proof_log.specs.Theories.{TheoryView}
use Rattle.search_loop.specs.Asking.{KeepsUp}
use Rattle.search_loop.specs.Paying.{counted_held}
use Rattle.search_loop.specs.Loops.{loop_state, TriesAll}
use Rattle.search_loop.proofs.SearchPays.{few_asked}
use Rattle.search_loop.proofs.SearchReady.{ready_decided}
use Rattle.search_loop.proofs.SearchRounds.{continues_same}
use Rattle.search_loop.proofs.SearchTheories.{keeps_decided}
use Rattle.search_loop.proofs.SearchTries.{goes_as, tried_rested, tries_after, tried_memory, handed_same}
use Rattle.search_loop.proofs.SearchWaiting.{waiting_held}
use Rattle.search_loop.proofs.search.Search.try_at_quiet.Goals as goal

pub returns-then-not-can_try : goal.returns-then-not-can_try
returns-then-not-can_try g c =
    let t = c.args.table.now in
    let x = c.args.self.now in
    let m = g.T.Theory.meaning c.args.theory.now in
    let a = loop_state t x m in
    let h = counted_held t m.view.held in
    let on = continues_same t x x refl refl refl refl refl refl refl refl in
    let rests = c.rest.ensures in
    let going = c.requires.going in
    tried_rested h a a (goes_as a x m on (record { with = λ t h. h; came = λ t ts n es h. h }) refl refl)
    (λ ts n h. few_asked t x going.ready m.view going.asked c.ids_are_unique.ensures c.is_sound.ensures.once) going c.rest.new.self (g.T.Theory.meaning c.rest.new.theory) rests.level rests.budget
    (rests.ready t going.ready) (rests.continues t) rests.asked rests.keeps

pub returns-in_err-mark : goal.returns-in_err-mark
returns-in_err-mark g c =
    let t = c.args.table.now in
    let x = c.args.self.now in
    let m = g.T.Theory.meaning c.args.theory.now in
    let a = loop_state t x m in
    let b = loop_state t x (g.T.Theory.meaning c.mark.new.self) in
    let h = counted_held t m.view.held in
    subst (TriesAll 1 h a b) (sym (handed_same c.from_residual.result Memory c.from_residual.ensures.1)) (tried_memory h 1 a b (Extends-self t) refl)

pub settle-requires : goal.settle-requires
settle-requires g c =
    let t = c.args.table.now in
    let x = c.args.self.now in
    let v = (g.T.Theory.meaning c.args.theory.now).view in
    let going = c.requires.going in
    let r = going.ready in
    let d = c.args.l in
    let w = c.decide.new.self in
    let n = x.trail.level + 1 in
    let pushed = c.decide.ensures in
    let marks = c.in_ok-mark.ensures.marks in
    let can = c.can_try.ensures c.if-not-can_try.false in
    record {
      ready = ready_decided t x w x.decider d n r pushed
          (c.what_is_marked_was_seen.ensures.pushed x.store x.trail w d None n c.is_sound.ensures.propagated r.seen pushed)
          (c.reasons_stay_right.ensures.decided x.store x.trail w d n r.implied pushed) c.requires.quiet (r.waiting.only d.term can.1)
          (waiting_held x.atoms.items x.trail.literals (x.trail.literals ++ d ∷ []) x.decider (λ l i. Contains-append_left x.trail.literals (d ∷ []) l i) r.waiting) refl;
      asked = record {
        keeps = subst (λ (v : TheoryView). KeepsUp v w) (sym marks) (keeps_decided v x.trail w d c.is_sound.ensures.leveled pushed going.asked.keeps c.requires.held);
        terms = ap (λ (v : TheoryView). v.watched) marks ∙ going.asked.terms;
        fed = going.asked.fed ∙ ap (λ (v : TheoryView). length v.held) (sym marks);
      };
      with = c.mark.ensures.keeps.with t going.with;
    }

pub returns : goal.returns
returns g c =
    let t = c.args.table.now in
    let x = c.args.self.now in
    let z = record x { trail = c.decide.new.self } in
    let m = g.T.Theory.meaning c.args.theory.now in
    let marked = g.T.Theory.meaning c.mark.new.self in
    let a = loop_state t x m in
    let b = loop_state t z marked in
    let d = loop_state c.settle.new.table c.settle.new.self (g.T.Theory.meaning c.settle.new.theory) in
    let on = continues_same t x z refl refl refl c.decide.ensures.vars refl refl refl refl in
    tries_after 0 (counted_held t m.view.held) 1 (counted_held t marked.view.held) a b d
    (goes_as a z marked on c.mark.ensures.keeps (ap (λ (v : TheoryView). v.held) c.in_ok-mark.ensures.marks) refl) c.settle.result c.settle.ensures
