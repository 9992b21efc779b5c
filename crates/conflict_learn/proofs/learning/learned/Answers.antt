-- That the clause is learned.
use Rattle.std.proofs.Common.{List, map, All, sym, subst}
use Rattle.term_core.specs.declared.ids.Lit.{Lit}
use Rattle.term_core.specs.Tables.{literal_at, clause_at}
use Rattle.term_core.proofs.TermsExtend.{Extends-self}
use Rattle.clause_literals.specs.Literals.{LiteralsMean}
use Rattle.conflict_learn.specs.Conflicts.{Conflict}
use Rattle.conflict_learn.specs.Points.{IsUip}
use Rattle.conflict_learn.specs.Learned.{HasOneAt}
use Rattle.conflict_learn.specs.Analyses.{IsBare, StateAll}
use Rattle.conflict_learn.proofs.Uip.{used_premise, one_at}
use Rattle.conflict_learn.proofs.Concluding.{above_zero, uip_follows, uip_exact, uip_bare, means_kept}
use Rattle.conflict_learn.proofs.learning.learned.Goals as goal

pub find-requires-clause-above : goal.find-requires-clause-above
find-requires-clause-above c =
    let x : Conflict = record { table = c.args.table.now; log = c.args.log.now; trail = c.args.trail.now; clash = c.args.clash } in
    above_zero x c.conflict_level-level.result c.conflict_level-level.ensures c.requires.above

pub returns-in_err-found-clause-grown : goal.returns-in_err-found-clause-grown
returns-in_err-found-clause-grown c = Extends-self c.args.table.now

pub terms_of-requires : goal.terms_of-requires
terms_of-requires c =
    let x : Conflict = record { table = c.args.table.now; log = c.args.log.now; trail = c.args.trail.now; clash = c.args.clash } in
    let f = c.in_ok-found.found in
    let bare = uip_bare x c.is_sound.ensures.once c.is_sound.ensures.leveled c.requires.clash c.requires.reasons c.requires.log c.conflict_level-level.result f.clause.items f.premises.items c.in_ok-found.ensures.0 in
    subst (λ (ls : List Lit). All (IsBare c.args.table.now) ls) (sym c.deref.ensures.value) bare

pub log_step-requires-clause-log : goal.log_step-requires-clause-log
log_step-requires-clause-log c = c.logs_hold_in_grown_tables.ensures.right c.args.table.now c.terms_of.new.table c.args.log.now c.requires.log c.terms_of.ensures.grown

pub log_step-requires-clause-follows : goal.log_step-requires-clause-follows
log_step-requires-clause-follows c =
    let t = c.args.table.now in
    let u = c.terms_of.new.table in
    let x : Conflict = record { table = t; log = c.args.log.now; trail = c.args.trail.now; clash = c.args.clash } in
    let f = c.in_ok-found.found in
    let states = subst (λ (ls : List Lit). StateAll u (map (literal_at t) ls) c.in_ok-terms.terms.items) c.deref.ensures.value c.in_ok-terms.ensures.states in
    uip_follows x c.is_sound.ensures.once c.is_sound.ensures.leveled c.requires.clash c.requires.reasons c.requires.log c.terms_are_closed.ensures c.conflict_level-level.result c.conflict_level-level.ensures
    f.clause.items f.premises.items c.in_ok-found.ensures.0 u c.in_ok-terms.terms.items states
    (c.logs_hold_in_grown_tables.ensures.same t u c.args.log.now c.requires.log c.terms_of.ensures.grown)

pub returns-clause-learned : goal.returns-clause-learned
returns-clause-learned c =
    let t = c.args.table.now in
    let v = c.args.trail.now in
    let u = c.terms_of.new.table in
    let n = c.conflict_level-level.result in
    let f = c.in_ok-found.found in
    let x : Conflict = record { table = t; log = c.args.log.now; trail = v; clash = c.args.clash } in
    let once = c.is_sound.ensures.once in
    let leveled = c.is_sound.ensures.leveled in
    let uip = c.in_ok-found.ensures.0 in
    let above = above_zero x n c.conflict_level-level.ensures c.requires.above in
    let bare = uip_bare x once leveled c.requires.clash c.requires.reasons c.requires.log n f.clause.items f.premises.items uip in
    let states = subst (λ (ls : List Lit). StateAll u (map (literal_at t) ls) c.in_ok-terms.terms.items) c.deref.ensures.value c.in_ok-terms.ensures.states in
    let means = means_kept t u c.terms_of.ensures.grown f.clause.items bare c.in_ok-terms.terms.items states in
    let same = sym c.from.ensures in
    record {
      level = n;
      level_is = c.conflict_level-level.ensures;
      above = above;
      one = subst (λ (ls : List Lit). HasOneAt v ls n f.back) same (one_at x once leveled c.requires.clash c.requires.reasons n c.conflict_level-level.ensures above f.clause.items uip.from f.back uip.point uip.left c.in_ok-found.ensures.1);
      logged = record {
        number = c.in_ok-step.ensures.number;
        premises = f.premises.items;
        terms = c.in_ok-terms.terms.items;
        last = c.in_ok-step.ensures.last;
        right = c.in_ok-step.ensures.right;
        means = subst (λ (ls : List Lit). LiteralsMean u ls (clause_at u c.in_ok-terms.terms.items)) same means;
        no_others = λ s i. used_premise x once leveled c.requires.clash c.requires.reasons uip.from s ((uip.used s).0 i);
      };
      uip = subst (λ (ls : List Lit). IsUip x n ls f.premises.items) same uip;
      exact = uip_exact x once leveled c.requires.clash c.requires.reasons c.ids_are_unique.ensures c.requires.log c.terms_are_closed.ensures n c.conflict_level-level.ensures f.clause.items f.premises.items uip u
          c.in_ok-terms.terms.items states (c.logs_hold_in_grown_tables.ensures.same t u c.args.log.now c.requires.log c.terms_of.ensures.grown);
    }
