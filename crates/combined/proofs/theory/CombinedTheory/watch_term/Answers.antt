-- A term is watched in both, or simplex is as it was.
use Rattle.std.proofs.Common.{rules, ◌≡◌, ◌++◌, ◌∷◌, [], Result, Err, ap, sym, ◌∙◌, subst}
use Rattle.std.proofs.lemmas.List.Elements.{All-push}
use Rattle.spec_causes.specs.Counts.{counted}
use Rattle.term_core.specs.Tables.{IsIn, term_at}
use Rattle.sat_budget.specs.Budgets.{StopsBy}
use Rattle.sat_budget.specs.declared.limits.Stop.{Stop}
use Rattle.proof_log.specs.Theories.{TheoryView, with_watched, with_mark, gone_back, terms_watched, CameTo}
use Rattle.congruence.specs.Views.{theory_of}
use Rattle.held_literals.specs.Room.{without_mark}
use Rattle.simplex.specs.Checks.{Suits}
use Rattle.simplex.specs.Coming.{CameBy, StoppedBy, IsOverflowAt}
use Rattle.simplex.proofs.Suiting.{suits_same}
use Rattle.simplex.proofs.Coming.{came_marked, came_onward, stopped_same}
use Rattle.combined.specs.Views.{CombinedView}
use Rattle.combined.proofs.Marks.{unwatched, unmarked_watched}
use Rattle.combined.proofs.Watching.{same_stop, unmarked_came}
use Rattle.combined.proofs.theory.CombinedTheory.watch_term.Goals as goal

pub returns-in-Err : goal.returns-in-Err
returns-in-Err c =
    let t = c.args.table.now in
    let s = c.self.inside.simplex in
    let x = theory_of c.args.self.now.congruence in
    let w = c.watch_term.new.self in
    let u = c.forget_mark.new.self in
    let m = counted (term_at t c.args.id) in
    let view : c.mark.new.self.theory ≡ with_mark x = c.in_ok-mark.ensures.marks ∙ ap with_mark (sym c.self.invariant ∙ ap (λ (y : CombinedView). theory_of y.congruence) c.self.view_is) in
    record {
      with = search rules;
      watches = search rules;
      came = λ ts n es there came.
          let marked : CameBy t ts n es c.mark.new.self =
          came_marked t ts n es s c.mark.new.self (subst (λ (v : CombinedView). CameBy t ts n es v.simplex) (sym c.self.view_is) came) c.mark.result c.mark.ensures.atoms c.mark.ensures.assignment c.mark.ensures.bounds c.mark.ensures.marks in
          came_onward (Err c.in-Err.stop) (λ _. CameBy t ts (m n) es w) (λ _. CameBy t ts (m n) es u) (StoppedBy t ts n es w) (StoppedBy t ts n es u)
          (λ x on. unmarked_came t ts (m n) es w u on c.forget_mark.ensures.atoms c.forget_mark.ensures.assignment c.forget_mark.ensures.bounds c.forget_mark.ensures.forgets)
          (stopped_same t ts n es w u c.forget_mark.ensures.atoms c.forget_mark.ensures.assignment)
          (c.in-Err.ensures.came ts n es there marked);
      stops = same_stop t (terms_watched t (with_watched x c.args.id)) w u c.in-Err.stop c.forget_mark.ensures.atoms c.forget_mark.ensures.assignment
          (subst (λ (x : TheoryView). StopsBy (λ e. IsOverflowAt t (terms_watched t (with_watched x c.args.id)) e w) c.in-Err.stop) view c.in-Err.ensures.stops);
    }

pub returns-in-Err-watch_term : goal.returns-in-Err-watch_term
returns-in-Err-watch_term c =
    let t = c.args.table.now in
    let s = c.self.inside.simplex in
    let v = c.back.new.self in
    let suits : Suits s t = subst (λ (v : CombinedView). Suits v.simplex t) (sym c.self.view_is) c.requires.with.1 in
    let view : v.theory ≡ s.theory =
    c.back.ensures.back ∙ ap (gone_back 1) (c.in_default.ensures.watches ∙ ap (λ (v : TheoryView). with_watched v c.args.id) c.in_ok-mark.ensures.marks) ∙ unwatched s.theory c.args.id in
    record {
      with = (
        c.watch_term-2.ensures.with,
        suits_same t v s.theory.watched s.theory.held (ap (λ (v : TheoryView). v.watched) view) (ap (λ (v : TheoryView). v.held) view) suits.there suits.held (c.back.ensures.with t c.watch_term.ensures.with),
      );
      watches = search rules;
      came = λ ts n es there came.
          subst (λ stop. (let r : Result (Unit {0}) Stop = Err stop in CameTo r (λ _. CameBy t ts (counted (term_at t c.args.id) n) es v) (StoppedBy t ts n es v)))
          (sym c.in-Err-watch_term.ensures.memory) tt;
      stops = search rules;
    }

pub returns : goal.returns
returns c =
    let t = c.args.table.now in
    let s = c.self.inside.simplex in
    let f = c.forget_mark-2.ensures in
    let u = c.forget_mark-2.new.self in
    let suits : Suits s t = subst (λ (v : CombinedView). Suits v.simplex t) (sym c.self.view_is) c.requires.with.1 in
    let view : u.theory ≡ with_watched s.theory c.args.id =
    f.forgets ∙ ap without_mark (c.in_default.ensures.watches ∙ ap (λ (v : TheoryView). with_watched v c.args.id) c.in_ok-mark.ensures.marks) ∙ unmarked_watched s.theory c.args.id in
    record {
      with = (
        c.watch_term-2.ensures.with,
        suits_same t u (s.theory.watched ++ c.args.id ∷ []) s.theory.held (ap (λ (v : TheoryView). v.watched) view) (ap (λ (v : TheoryView). v.held) view)
            (All-push (IsIn t) s.theory.watched c.args.id suits.there c.requires.term.0) suits.held
            (f.with t c.watch_term.ensures.with),
      );
      watches = search rules;
      came = λ ts n es there came.
          let marked : CameBy t ts n es c.mark.new.self =
          came_marked t ts n es s c.mark.new.self (subst (λ (v : CombinedView). CameBy t ts n es v.simplex) (sym c.self.view_is) came) c.mark.result c.mark.ensures.atoms c.mark.ensures.assignment c.mark.ensures.bounds c.mark.ensures.marks in
          let m = counted (term_at t c.args.id) n in
          unmarked_came t ts m es c.watch_term.new.self u (c.in_default.ensures.came ts n es there marked) f.atoms f.assignment f.bounds f.forgets;
      stops = tt;
    }
