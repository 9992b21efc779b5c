-- That the rounds end in an answer with its evidence.
use Rattle.std.proofs.Common.{rules, ◌≡◌, ◌<◌, ◌≤◌, ◌-◌, ◌∙◌, ◌∷◌, ◌++◌, [], ℕ, List, length, ap, ◌+◌, refl, sym, subst, arith}
use Rattle.std.specs.Prelude.{None, Some}
use Rattle.std.proofs.lemmas.List.{length-append}
use Rattle.sat_budget.specs.declared.limits.Strain.{Strain}
use Rattle.sat_budget.specs.Budgets.{BudgetView, StopsBy}
use Rattle.term_core.specs.declared.ids.Lit.{Lit}
use Rattle.proof_log.specs.Theories.{TheoryView, terms_watched, paid_after}
use Rattle.search_loop.specs.declared.search.Search.{Search}
use Rattle.search_loop.specs.declared.cdcl.End.{End}
use Rattle.search_loop.specs.Rounds.{Continues}
use Rattle.search_loop.specs.Asking.{KeepsUp, HasStopped, OnStop, state, ResolvesConflict}
use Rattle.search_loop.specs.Paying.{counted_held, atoms_of, paid_by, paid_at, IsPaid}
use Rattle.search_loop.proofs.SearchPays.{paid_begun, paid_more, paid_learned, paid_quiet, paid_clash, paid_where, atoms_stay}
use Rattle.search_loop.proofs.SearchSpends.{handed_on, came_on_stop, on_stop_weaker}
use Rattle.search_loop.proofs.SearchLooks.{stopped_on}
use Rattle.search_loop.proofs.SearchReady.{ready_waiting, ready_decided}
use Rattle.term_core.proofs.TermsExtend.{Extends-trans}
use Rattle.search_loop.proofs.SearchAppends.{appends_same, appends_on}
use Rattle.search_loop.proofs.SearchRounds.{continues_same, continues_on, ends_on, less_learned}
use Rattle.search_loop.proofs.SearchTheories.{keeps_decided}
use Rattle.search_loop.proofs.SearchWaiting.{satisfied_by}
use Rattle.search_loop.proofs.SearchTaken.{quiet_still, all_held, held_since, less_by}
use Rattle.search_loop.proofs.search.Search.run.Goals as goal

pub rounds-init : goal.rounds-init
rounds-init g c = record {
  ready = c.requires.ready;
  asked = c.requires.asked;
  with = c.requires.with;
  came = λ ts r h.
      let a = atoms_of c.args.table.now c.args.self.now in
      (h.0, paid_begun a (length c.args.self.now.budget.learned) r (counted_held c.args.table.now (g.T.Theory.meaning c.args.theory.now).view.held) h.0 h.1, h.2);
  continues = continues_same c.args.table.now c.args.self.now c.args.self.now refl refl refl refl refl refl refl refl;
}

-- the theory may imply literals
pub take_implied-requires-clause-going : goal.take_implied-requires-clause-going
take_implied-requires-clause-going g c =
    let l = (rw c.in-Fine.is at c.in_ok-look.ensures.looks).0 in
    record { ready = l.ready; asked = l.asked; with = c.in_ok-look.ensures.with }

pub take_implied-requires-clause-held : goal.take_implied-requires-clause-held
take_implied-requires-clause-held g c = (rw c.in-Fine.is at c.in_ok-look.ensures.looks).2

pub rounds-preserved-in-Fine : goal.rounds-preserved-in-Fine
rounds-preserved-in-Fine g c =
    let t = c.args.table.now in
    let x = c.rounds.self in
    let u = c.look.new.table in
    let y = c.look.new.self in
    let q = c.take_implied.new.table in
    let s = c.take_implied.new.self in
    let looks = rw c.in-Fine.is at c.in_ok-look.ensures.looks in
    let l = looks.0 in
    let k = c.in_ok-take_implied-in-Fine.ensures.takes in
    let is = rw c.if-branch.false at k.holds in
    let r = k.goes_on.ready in
    let d = c.in-Some.l in
    let ws = c.next.new.self in
    let w = c.decide.new.self in
    let pushed = c.decide.ensures in
    let chosen = rw c.in-Some.is at c.next.ensures.choice s.atoms.items r.waiting in
    let n = s.trail.level + 1 in
    let z = record s { trail = w; decider = ws } in
    let v = (g.T.Theory.meaning c.look.new.theory).view in
    let after = (g.T.Theory.meaning c.take_implied.new.theory).view in
    let marked = (g.T.Theory.meaning c.mark.new.self).view in
    let on : Continues c.rounds.table q x s = continues_on c.rounds.table u q x y s l.continues k.continues in
    record {
      ready = ready_decided q s w ws d n r pushed
          (c.what_is_marked_was_seen.ensures.pushed s.store s.trail w d None n c.is_sound-in-Fine.ensures.propagated r.seen pushed)
          (c.reasons_stay_right.ensures.decided s.store s.trail w d n r.implied pushed) (quiet_still y s is looks.1) chosen.0 chosen.1 c.next.ensures.size;
      asked = record {
        keeps = subst (λ (v : TheoryView). KeepsUp v w) (sym c.in_ok-mark-in-Fine.ensures.marks) (keeps_decided after s.trail w d c.is_sound-in-Fine.ensures.leveled pushed k.goes_on.asked.keeps (all_held y s is v after k.same looks.2));
        terms = ap (λ (v : TheoryView). v.watched) c.in_ok-mark-in-Fine.ensures.marks ∙ k.goes_on.asked.terms;
        fed = k.goes_on.asked.fed ∙ ap (λ (v : TheoryView). length v.held) (sym c.in_ok-mark-in-Fine.ensures.marks);
      };
      with = c.mark.ensures.keeps.with q k.goes_on.with;
      came = λ ts r h.
          let n = c.rounds.invariant.came ts r h in
          let m = rw c.in-Fine.is at (c.in_ok-look.ensures.came ts n.0 n.2) in
          let p = m.3 in
          let same : marked.held ≡ v.held = ap (λ (v : TheoryView). v.held) c.in_ok-mark-in-Fine.ensures.marks ∙ ap (λ (v : TheoryView). v.held) k.same in (
            p.0,
            paid_more (atoms_of t c.args.self.now) (length x.budget.learned) (length s.budget.learned) r
                (counted_held c.rounds.table (g.T.Theory.meaning c.rounds.theory).view.held) (counted_held c.rounds.table v.held) (counted_held q marked.held)
                n.0 m.0 p.0 n.1 m.1 p.1 (ap (λ (b : BudgetView). length b.learned) k.budget ∙ ap length c.look.ensures.learned)
                (held_since c.rounds.table q x c.rounds.invariant.ready on.table u y l.ready v l.asked l.continues.terms marked.held same),
            c.mark.ensures.keeps.came q ts p.0 s.budget.exchanges (k.came ts p.0 p.2),
          );
      continues = continues_on t q q c.args.self.now s z (continues_on t c.rounds.table q c.args.self.now x s c.rounds.invariant.continues on) (continues_same q s z refl refl refl pushed.vars refl refl refl refl);
    }

pub rounds-preserved-then-branch : goal.rounds-preserved-then-branch
rounds-preserved-then-branch g c =
    let t = c.args.table.now in
    let x = c.rounds.self in
    let u = c.look.new.table in
    let y = c.look.new.self in
    let q = c.take_implied.new.table in
    let s = c.take_implied.new.self in
    let l = (rw c.in-Fine.is at c.in_ok-look.ensures.looks).0 in
    let k = c.in_ok-take_implied-in-Fine.ensures.takes in
    let v = (g.T.Theory.meaning c.look.new.theory).view in
    let after = (g.T.Theory.meaning c.take_implied.new.theory).view in
    let on : Continues c.rounds.table q x s = continues_on c.rounds.table u q x y s l.continues k.continues in
    record {
      ready = k.goes_on.ready;
      asked = k.goes_on.asked;
      with = k.goes_on.with;
      came = λ ts r h.
          let n = c.rounds.invariant.came ts r h in
          let m = rw c.in-Fine.is at (c.in_ok-look.ensures.came ts n.0 n.2) in
          let p = m.3 in (
            p.0,
            paid_more (atoms_of t c.args.self.now) (length x.budget.learned) (length s.budget.learned) r
                (counted_held c.rounds.table (g.T.Theory.meaning c.rounds.theory).view.held) (counted_held c.rounds.table v.held) (counted_held q after.held)
                n.0 m.0 p.0 n.1 m.1 p.1 (ap (λ (b : BudgetView). length b.learned) k.budget ∙ ap length c.look.ensures.learned)
                (held_since c.rounds.table q x c.rounds.invariant.ready on.table u y l.ready v l.asked l.continues.terms after.held (ap (λ (v : TheoryView). v.held) k.same)),
            k.came ts p.0 p.2,
          );
      continues = continues_on t c.rounds.table q c.args.self.now x s c.rounds.invariant.continues on;
    }

pub rounds-smaller-then-branch : goal.rounds-smaller-then-branch
rounds-smaller-then-branch g c =
    let x = c.rounds.self in
    let s = c.take_implied.new.self in
    let l = (rw c.in-Fine.is at c.in_ok-look.ensures.looks).0 in
    let k = c.in_ok-take_implied-in-Fine.ensures.takes in
    let holds = rw c.if-branch.true at k.holds in
    less_by x.budget s.budget (x.budget.exchanges ++ l.budget.0) x.trail.vars s.trail.vars (length x.trail.literals) (length s.trail.literals) (k.budget ∙ l.budget.1)
    (k.continues.vars ∙ l.continues.vars) (omega (arith, l.literals, holds)) c.is_sound.ensures.within

pub rounds-smaller-in-Fine : goal.rounds-smaller-in-Fine
rounds-smaller-in-Fine g c =
    let x = c.rounds.self in
    let y = c.look.new.self in
    let s = c.take_implied.new.self in
    let w = c.decide.new.self in
    let l = (rw c.in-Fine.is at c.in_ok-look.ensures.looks).0 in
    let k = c.in_ok-take_implied-in-Fine.ensures.takes in
    let is = rw c.if-branch.false at k.holds in
    let pushed = c.decide.ensures in
    let same : length s.trail.literals ≡ length y.trail.literals = ap (λ (z : Search). length z.trail.literals) is in
    let more : length x.trail.literals < length w.literals = omega (arith, same, l.literals, ap length pushed.literals, length-append s.trail.literals (c.in-Some.l ∷ [])) in
    less_by x.budget s.budget (x.budget.exchanges ++ l.budget.0) x.trail.vars w.vars (length x.trail.literals) (length w.literals) (k.budget ∙ l.budget.1)
    (pushed.vars ∙ k.continues.vars ∙ l.continues.vars) more c.is_sound-in-Fine-2.ensures.within

pub rounds-preserved : goal.rounds-preserved
rounds-preserved g c =
    let t = c.args.table.now in
    let u = c.look.new.table in
    let y = c.look.new.self in
    let looks = rw c.in-Clash.is at c.in_ok-look.ensures.looks in
    let resolves_conflict = rw c.in_default-2.is at c.in_ok-end-in-Clash.ensures.resolves_conflict in
    record {
      ready = resolves_conflict.0.ready;
      asked = resolves_conflict.1;
      with = c.in_ok-end-in-Clash.ensures.with;
      came = λ ts r h.
          let n = c.rounds.invariant.came ts r h in
          let m = rw c.in-Clash.is at (c.in_ok-look.ensures.came ts n.0 n.2) in
          let k = m.3 in (
            k.0,
            paid_learned (atoms_of t c.args.self.now) (length c.rounds.self.budget.learned) (length c.resolve_conflict.new.self.budget.learned) r
                (counted_held c.rounds.table (g.T.Theory.meaning c.rounds.theory).view.held) (counted_held c.rounds.table (g.T.Theory.meaning c.look.new.theory).view.held)
                (counted_held c.resolve_conflict.new.table (g.T.Theory.meaning c.resolve_conflict.new.theory).view.held) n.0 m.0 k.0 n.1 m.1 (subst (λ a. counted_held c.rounds.table (g.T.Theory.meaning c.look.new.theory).view.held ≤ a) (atoms_stay t c.args.self.now c.requires.ready c.rounds.table c.rounds.invariant.continues.table c.rounds.self c.rounds.invariant.continues.terms) m.2) k.1
                (resolves_conflict.0.learned ∙ ap (λ (xs : List (List Lit)). length xs + 1) c.look.ensures.learned),
            c.in_ok-end-in-Clash.ensures.came ts k.0 k.2,
          );
      continues = continues_on t u c.resolve_conflict.new.table c.args.self.now y c.resolve_conflict.new.self (continues_on t c.rounds.table u c.args.self.now c.rounds.self y c.rounds.invariant.continues looks.0.continues) resolves_conflict.0.continues;
    }

pub rounds-smaller : goal.rounds-smaller
rounds-smaller g c =
    let x = c.rounds.self in
    let y = c.look.new.self in
    let z = c.resolve_conflict.new.self in
    let looks = rw c.in-Clash.is at c.in_ok-look.ensures.looks in
    let resolves_conflict = rw c.in_default-2.is at c.in_ok-end-in-Clash.ensures.resolves_conflict in
    let l = resolves_conflict.0 in
    let size : z.trail.vars ≡ x.trail.vars = l.continues.vars ∙ looks.0.continues.vars in
    let b = looks.0.budget.1 in
    less_learned x.budget.limit z.budget.limit x.trail.vars z.trail.vars (length x.budget.learned) (length z.budget.learned) (x.trail.vars - length x.trail.literals) (z.trail.vars - length z.trail.literals)
    (l.continues.limit ∙ looks.0.continues.limit) size (subst (λ (y : BudgetView). length y.learned < y.limit) b resolves_conflict.2) (l.learned ∙ ap (λ (y : BudgetView). length y.learned + 1) b) (omega (arith, size))

pub returns-in_default : goal.returns-in_default
returns-in_default g c =
    let t = c.args.table.now in
    let x = c.args.self.now in
    let u = c.rounds.table in
    let y = c.rounds.self in
    let a = c.look.new.table in
    let b = c.look.new.self in
    let q = c.take_implied.new.table in
    let s = c.take_implied.new.self in
    let v = (g.T.Theory.meaning c.rounds.theory).view in
    let w = (g.T.Theory.meaning c.look.new.theory).view in
    let after = (g.T.Theory.meaning c.take_implied.new.theory).view in
    let looks = rw c.in-Fine.is at c.in_ok-look.ensures.looks in
    let l = looks.0 in
    let k = c.in_ok-take_implied-in-Fine.ensures.takes in
    let is = rw c.if-branch.false at k.holds in
    let r = k.goes_on.ready in
    let chosen = rw c.in_default.is at c.next.ensures.choice s.atoms.items r.waiting in
    let end = record s { decider = c.next.new.self } in
    let on = continues_on t u q x y s c.rounds.invariant.continues (continues_on u a q y b s l.continues k.continues) in
    record {
      grown = on.table;
      declared = on.declared;
      right = r.right;
      ready = ready_waiting q s c.next.new.self r chosen.1 c.next.ensures.size;
      appended = appends_on x s end on.appended (appends_same s end refl (record { clauses = refl; steps = refl }) refl refl);
      limit = on.limit;
      terms = on.terms;
      with = k.goes_on.with;
      ends = (
        record {
          ready = ready_waiting q s c.next.new.self r chosen.1 c.next.ensures.size;
          held = all_held b s is w after k.same looks.2;
          asked = record { keeps = k.goes_on.asked.keeps; terms = k.goes_on.asked.terms; fed = k.goes_on.asked.fed };
          assigned = chosen.0;
          satisfied = satisfied_by s.atoms.items s.store.clauses s.trail.literals r.covered (quiet_still b s is looks.1) chosen.0;
          agrees = k.agrees looks.3;
        },
        continues_on t q q x s end on (continues_same q s end refl refl refl refl refl refl refl refl),
      );
      came = λ ts r h.
          let n = c.rounds.invariant.came ts r h in
          let m = rw c.in-Fine.is at (c.in_ok-look.ensures.came ts n.0 n.2) in
          let p = m.3 in (
            p.0,
            paid_quiet (atoms_of t x) (atoms_of q s) (length y.budget.learned) (length s.budget.learned) r (counted_held u v.held) (counted_held u w.held) n.0 m.0 p.0 n.1 m.1
                (subst (λ a. counted_held u w.held ≤ a) (atoms_stay t x c.requires.ready u c.rounds.invariant.continues.table y c.rounds.invariant.continues.terms) m.2) p.1
                (ap (λ (b : BudgetView). length b.learned) k.budget ∙ ap length c.look.ensures.learned) (atoms_stay t x c.requires.ready q on.table s on.terms),
            k.came ts p.0 p.2,
          );
      stops = tt;
      stopped = tt;
    }

pub returns-in-Some-2 : goal.returns-in-Some-2
returns-in-Some-2 g c =
    let t = c.args.table.now in
    let x = c.args.self.now in
    let u = c.rounds.table in
    let y = c.rounds.self in
    let q = c.look.new.table in
    let z = c.look.new.self in
    let s = c.resolve_conflict.new.table in
    let e = c.resolve_conflict.new.self in
    let v = (g.T.Theory.meaning c.rounds.theory).view in
    let w = (g.T.Theory.meaning c.look.new.theory).view in
    let after = (g.T.Theory.meaning c.resolve_conflict.new.theory).view in
    let end = c.in-Some-2.end in
    let resolved = c.in_ok-end-in-Clash.ensures in
    let looks = rw c.in-Clash.is at c.in_ok-look.ensures.looks in
    let on = continues_on t u q x y z c.rounds.invariant.continues looks.0.continues in
    let grown = Extends-trans t q s on.table resolved.grown in
    let resolves = rw c.in-Some-2.is at resolved.resolves_conflict in
    let ended = rw c.in-Some-2.is at resolved.ended in
    record {
      grown = grown;
      declared = resolved.declared ∙ on.declared;
      right = resolved.right;
      ready = resolved.ready;
      appended = appends_on x z e on.appended resolved.appended;
      limit = resolved.limit ∙ on.limit;
      terms = ended.0 ∙ on.terms;
      with = resolved.with;
      ends = ends_on t q s x z e after _ end on resolves;
      came = λ ts r h.
          let n = c.rounds.invariant.came ts r h in
          let m = rw c.in-Clash.is at (c.in_ok-look.ensures.came ts n.0 n.2) in
          let k = m.3 in
          let learned : length e.budget.learned ≡ length y.budget.learned = ap (λ (b : BudgetView). length b.learned) ended.1 ∙ ap length c.look.ensures.learned in
          let same : atoms_of s e ≡ atoms_of t x = atoms_stay t x c.requires.ready s grown e (ended.0 ∙ on.terms) in (
            k.0,
            paid_where s e r k.0 end
                (λ f. subst (λ (b : End). ResolvesConflict (state q z) (state s e) after (Some b)) f resolves)
                (paid_clash (atoms_of t x) (atoms_of s e) (length y.budget.learned) (length e.budget.learned) r (counted_held u v.held) (counted_held u w.held) n.0 m.0 k.0 n.1 m.1
                (subst (λ a. counted_held u w.held ≤ a) (atoms_stay t x c.requires.ready u c.rounds.invariant.continues.table y c.rounds.invariant.continues.terms) m.2) k.1
                learned same),
            resolved.came ts k.0 k.2,
          );
      stops = tt;
      stopped = tt;
    }

pub returns-in_err-look : goal.returns-in_err-look
returns-in_err-look g c =
    let t = c.args.table.now in
    let x = c.args.self.now in
    let u = c.rounds.table in
    let y = c.rounds.self in
    let s = c.look.new.table in
    let z = c.look.new.self in
    let v = (g.T.Theory.meaning c.rounds.theory).view in
    let after = g.T.Theory.meaning c.look.new.theory in
    let w = after.view in
    let stop = c.in_err-look.field-0.0 in
    let shown : Type 0 = after.goes_with s × HasStopped (state u y) (state s z) w in
    let may_overflow : Strain → Type 0 = after.running.may_overflow s (terms_watched s w) in
    record {
      grown = Extends-trans t u s c.rounds.invariant.continues.table c.look.ensures.grown;
      declared = c.look.ensures.declared ∙ c.rounds.invariant.continues.declared;
      right = search rules;
      ready = search rules;
      appended = search rules;
      limit = search rules;
      terms = search rules;
      with = search rules;
      ends = search rules;
      came = λ ts r h.
          let n = c.rounds.invariant.came ts r h in
          let m = c.in_err-look.ensures.came ts n.0 n.2 in
          let es = z.budget.exchanges in
          let came : ℕ → Type 0 = λ k. after.running.came_by s ts k es in
          let stopped : ℕ → Type 0 = λ k. after.running.stopped_by s ts k es in
          came_on_stop (λ verdict. IsPaid came (paid_after verdict m.0)) (λ (end : End). IsPaid came (paid_at s z r end)) (stopped m.0) (IsPaid stopped (paid_by s z r (atoms_of s z))) shown
          c.from_residual.result stop c.from_residual.ensures.1 c.in_err-look.ensures.stopped
          (λ q p.
          let on = continues_on t u s x y z c.rounds.invariant.continues q.1.continues in (
            m.0,
            paid_quiet (atoms_of t x) (atoms_of s z) (length y.budget.learned) (length z.budget.learned) r (counted_held u v.held) (counted_held u w.held) n.0 m.0 m.0 n.1 m.1
                (subst (λ a. counted_held u w.held ≤ a) (atoms_stay t x c.requires.ready u c.rounds.invariant.continues.table y c.rounds.invariant.continues.terms) m.2) (omega arith)
                (ap length c.look.ensures.learned) (atoms_stay t x c.requires.ready s on.table z on.terms),
            p,
          )) m.3;
      stops = handed_on (StopsBy may_overflow) c.from_residual.result stop c.from_residual.ensures.1 c.in_err-look.ensures.stops;
      stopped = handed_on (OnStop (after.goes_with s × HasStopped (state t x) (state s z) w)) c.from_residual.result stop c.from_residual.ensures.1
          (on_stop_weaker shown (after.goes_with s × HasStopped (state t x) (state s z) w) (λ h. (h.0, stopped_on t u s x y z w c.rounds.invariant.continues h.1)) stop c.in_err-look.ensures.stopped);
    }

pub returns-in_err-take_implied-in-Fine : goal.returns-in_err-take_implied-in-Fine
returns-in_err-take_implied-in-Fine g c =
    let t = c.args.table.now in
    let u = c.look.new.table in
    let q = c.take_implied.new.table in
    record {
      grown = Extends-trans t u q (Extends-trans t c.rounds.table u c.rounds.invariant.continues.table c.look.ensures.grown) c.take_implied.ensures.grown;
      declared = c.take_implied.ensures.declared ∙ c.look.ensures.declared ∙ c.rounds.invariant.continues.declared;
      right = search rules;
      ready = search rules;
      appended = search rules;
      limit = search rules;
      terms = search rules;
      with = search rules;
      ends = search rules;
      came = search rules;
      stops = search rules;
      stopped = search rules;
    }

pub returns-in_err-mark-in-Fine : goal.returns-in_err-mark-in-Fine
returns-in_err-mark-in-Fine g c =
    let t = c.args.table.now in
    let u = c.look.new.table in
    let q = c.take_implied.new.table in
    record {
      grown = Extends-trans t u q (Extends-trans t c.rounds.table u c.rounds.invariant.continues.table c.look.ensures.grown) c.take_implied.ensures.grown;
      declared = c.take_implied.ensures.declared ∙ c.look.ensures.declared ∙ c.rounds.invariant.continues.declared;
      right = search rules;
      ready = search rules;
      appended = search rules;
      limit = search rules;
      terms = search rules;
      with = search rules;
      ends = search rules;
      came = search rules;
      stops = search rules;
      stopped = search rules;
    }

pub returns-in_err-end-in-Clash : goal.returns-in_err-end-in-Clash
returns-in_err-end-in-Clash g c =
    let t = c.args.table.now in
    let s = c.resolve_conflict.new.table in
    record {
      grown = Extends-trans t c.look.new.table s (Extends-trans t c.rounds.table c.look.new.table c.rounds.invariant.continues.table c.look.ensures.grown) c.resolve_conflict.ensures.grown;
      declared = c.resolve_conflict.ensures.declared ∙ c.look.ensures.declared ∙ c.rounds.invariant.continues.declared;
      right = search rules;
      ready = search rules;
      appended = search rules;
      limit = search rules;
      terms = search rules;
      with = search rules;
      ends = search rules;
      came = search rules;
      stops = search rules;
      stopped = search rules;
    }
