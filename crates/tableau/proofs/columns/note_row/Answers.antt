use Rattle.std.proofs.Common.{rules, ◌≡◌, ◌<◌, ◌∷◌, length, ap, sym, ◌∙◌, subst}
use Rattle.spec_tableaux.specs.SolvedForms.{AllVariables}
use Rattle.tableau.specs.Entries.{entry_of, entries_of}
use Rattle.tableau.proofs.Noting.{grown_then, noted_more, one_so_far}
use Rattle.tableau.proofs.columns.note_row.Goals as goal

pub returns-in_err-note_unless-clause-grown : goal.returns-in_err-note_unless-clause-grown
returns-in_err-note_unless-clause-grown c = grown_then (λ k. k ≡ c.args.number) (λ k. k ≡ c.args.number) c.args.columns.now.items c.loop-e.columns.items c.note_unless.new.columns.items (λ k h. h) c.loop-e.invariant.grown c.note_unless.ensures.grown

pub loop-e-preserved : goal.loop-e-preserved
loop-e-preserved c =
    let some : c.loop-e.rest.now ≡ c.in-Some.e.now ∷ c.in-Some.more.now = search rules in
    let i = c.loop-e.invariant in
    let low : AllVariables (λ y. y < length c.loop-e.columns.items) (entry_of c.in-Some.e.now ∷ entries_of c.in-Some.more.now) = subst (AllVariables (λ y. y < length c.loop-e.columns.items)) (ap entries_of some) i.low in
    record {
      low = subst (λ n. AllVariables (λ y. y < n) (entries_of c.in-Some.more.now)) (sym c.note_unless.ensures.grown.count) low.1;
      known = noted_more (λ k. k ≡ c.args.number) c.loop-e.columns.items c.note_unless.new.columns.items c.args.number (entries_of c.from_variable-known.result.now) c.note_unless.ensures.grown (c.from_variable-known.ensures c.loop-e.columns.items c.args.number i.known);
      len = c.note_unless.ensures.len ∙ i.len;
      capacity = c.note_unless.ensures.capacity ∙ i.capacity;
      grown = grown_then (λ k. k ≡ c.args.number) (λ k. k ≡ c.args.number) c.args.columns.now.items c.loop-e.columns.items c.note_unless.new.columns.items (λ k h. h) i.grown c.note_unless.ensures.grown;
      noted = one_so_far (λ k. k ≡ c.args.number) c.loop-e.columns.items c.note_unless.new.columns.items c.args.number (entries_of c.args.entries.now) (entries_of c.loop-e.rest.now) (entries_of c.in-Some.more.now) (entry_of c.in-Some.e.now)
          (ap entries_of some) c.note_unless.ensures.grown c.in_ok-note_unless.ensures.noted i.noted;
    }

pub note_unless-requires-clause-known : goal.note_unless-requires-clause-known
note_unless-requires-clause-known c = c.from_variable-known.ensures c.loop-e.columns.items c.args.number c.loop-e.invariant.known
