-- The reason of an entry comes after those of the entries before it.
use Rattle.std.proofs.Common.{◌≡◌, [], ◌∷◌, ◌++◌, List, rules, ap, sym, ◌∙◌, subst}
use Rattle.std.proofs.lemmas.List.{nil_from_length}
use Rattle.spec_text.proofs.AnswerLaws.{told}
use Rattle.spec_tableaux.specs.Numbers.{Number, numbers}
use Rattle.ratio128.specs.Meant.{overflow}
use Rattle.tableau.specs.Numbers.{number_of}
use Rattle.tableau.specs.Entries.{entry_of, entries_of}
use Rattle.simplex_explain.specs.declared.weighted.Weighted.{Weighted}
use Rattle.simplex_explain.specs.declared.reason_stop.ReasonStop.TheVariants as stops
use Rattle.spec_causes.specs.Reasons.{with_basic}
use Rattle.simplex_explain.specs.BoundReasons.{footing, IsBoundReason, OverflowsReason, OverflowsReasons, OnReasonOverflow}
use Rattle.simplex_explain.proofs.Telling.{Told, told_first, told_more, told_all, told_overflow, first_overflowing}
use Rattle.simplex_explain.proofs.sums.reasons_for.Goals as goal

pub returns-in_err-first-clause-wide : goal.returns-in_err-first-clause-wide
returns-in_err-first-clause-wide c =
    let f = footing c.args.atoms.now c.args.bounds.now in
    let own : number_of c.negative.result ≡ numbers.opposite numbers.one = c.negative.ensures ∙ ap numbers.opposite c.one.ensures in
    told (OnReasonOverflow (OverflowsReasons f c.args.up (with_basic c.args.basic (entries_of c.args.entries.now)))) c.from_residual.result (stops.Wide c.in_err-first.field-0.0) c.from_residual.ensures.1
    (first_overflowing f c.args.up (record { variable = c.args.basic; coefficient = numbers.opposite numbers.one }) (entries_of c.args.entries.now) (overflow c.in_err-first.field-0.0)
    (subst (λ (k : Number). OverflowsReason f c.args.up (record { variable = c.args.basic; coefficient = k }) (overflow c.in_err-first.field-0.0)) own c.in_err-first.ensures.wide))

pub loop-e-init : goal.loop-e-init
loop-e-init c =
    let f = footing c.args.atoms.now c.args.bounds.now in
    let own : number_of c.negative.result ≡ numbers.opposite numbers.one = c.negative.ensures ∙ ap numbers.opposite c.one.ensures in
    let items : c.push.new.self.items ≡ c.in_ok-first.first ∷ [] = c.in_ok-push.ensures.items ∙ ap (λ (xs : List Weighted). xs ++ c.in_ok-first.first ∷ []) c.new-reasons.ensures.items in
    subst (Told f c.args.up (with_basic c.args.basic (entries_of c.args.entries.now)) (entries_of c.args.entries.now)) (sym items)
    (told_first f c.args.up (record { variable = c.args.basic; coefficient = numbers.opposite numbers.one }) (entries_of c.args.entries.now) c.in_ok-first.first c.requires.stopped
    (subst (λ (k : Number). IsBoundReason f c.args.up (record { variable = c.args.basic; coefficient = k }) c.in_ok-first.first) own c.in_ok-first.ensures.reason))

pub returns-in_err-reason-clause-wide : goal.returns-in_err-reason-clause-wide
returns-in_err-reason-clause-wide c =
    let f = footing c.args.atoms.now c.args.bounds.now in
    let some : c.loop-e.rest.now ≡ c.in-Some.e.now ∷ c.in-Some.more.now = search rules in
    told (OnReasonOverflow (OverflowsReasons f c.args.up (with_basic c.args.basic (entries_of c.args.entries.now)))) c.from_residual-in_err-reason.result (stops.Wide c.in_err-reason.field-0.0) c.from_residual-in_err-reason.ensures.1
    (told_overflow f c.args.up (with_basic c.args.basic (entries_of c.args.entries.now)) (entries_of c.loop-e.rest.now) (entry_of c.in-Some.e.now) (entries_of c.in-Some.more.now) c.loop-e.reasons.items (overflow c.in_err-reason.field-0.0)
    (ap entries_of some) c.loop-e.invariant c.in_err-reason.ensures.wide)

pub loop-e-preserved : goal.loop-e-preserved
loop-e-preserved c =
    let f = footing c.args.atoms.now c.args.bounds.now in
    let whole = with_basic c.args.basic (entries_of c.args.entries.now) in
    let some : c.loop-e.rest.now ≡ c.in-Some.e.now ∷ c.in-Some.more.now = search rules in
    subst (Told f c.args.up whole (entries_of c.in-Some.more.now)) (sym c.in_ok-push-2.ensures.items)
    (told_more f c.args.up whole (entries_of c.loop-e.rest.now) (entry_of c.in-Some.e.now) (entries_of c.in-Some.more.now) c.loop-e.reasons.items c.in_ok-reason.reason (ap entries_of some) c.loop-e.invariant c.in_ok-reason.ensures.reason)

pub returns-clause-reasons : goal.returns-clause-reasons
returns-clause-reasons c =
    told_all (footing c.args.atoms.now c.args.bounds.now) c.args.up (with_basic c.args.basic (entries_of c.args.entries.now)) (entries_of c.loop-e.rest.now) c.loop-e.reasons.items
    (ap entries_of (nil_from_length c.loop-e.rest.now c.in_default.ensures.cases)) c.loop-e.invariant
