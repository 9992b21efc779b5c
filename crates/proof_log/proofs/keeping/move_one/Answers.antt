-- What was taken out is put in with new numbers.
use Rattle.std.proofs.Common.{inr, ◌≡◌, ◌<◌, length, set, refl, sym, ap, ◌∙◌, arith}
use Rattle.std.proofs.lemmas.List.{map-set, get_or-map, get_or_default}
use Rattle.proof_log.specs.Logs.{no_logged, logged_at}
use Rattle.proof_log.specs.Entries.{logged_of, log_of}
use Rattle.proof_log.specs.Keeping.{step_of}
use Rattle.proof_log.specs.Moving.{IsMarked, renumbered}
use Rattle.proof_log.proofs.keeping.move_one.Goals as goal

pub returns : goal.returns
returns c =
    let es = c.args.entries.now.items in
    let here : c.args.k < length c.args.marks.now.items = omega (arith, c.requires.there, c.requires.size) in
    let one : c.index.result.now ≡ 1 = c.if-index-ne1.false in
    let marked : IsMarked c.args.marks.now.items (step_of c.args.k) = get_or_default c.args.marks.now.items c.args.k 0 c.index.result.now here ∙ sym c.index.ensures ∙ one in
    let out : logged_of c.replace-entry.result ≡ logged_at (log_of es) (step_of c.args.k) =
    ap logged_of (c.replace-entry.ensures.value ∙ c.index_mut.ensures.value) ∙ sym (get_or-map logged_of es c.args.k c.index_mut.result.now no_logged c.requires.there) in
    let moved : logged_of c.with_new_numbers.result ≡ renumbered c.args.from c.args.marks.now.items (logged_at (log_of es) (step_of c.args.k)) =
    c.with_new_numbers.ensures ∙ ap (renumbered c.args.from c.args.marks.now.items) out in
    let dummy : logged_of c.replace-entry.new.dest ≡ no_logged = ap logged_of c.replace-entry.ensures.after in
    let next : log_of (set (set es c.args.k c.replace-entry.new.dest) c.args.to c.with_new_numbers.result) ≡ set (set (log_of es) c.args.k no_logged) c.args.to (renumbered c.args.from c.args.marks.now.items (logged_at (log_of es) (step_of c.args.k))) =
    map-set logged_of (set es c.args.k c.replace-entry.new.dest) c.args.to c.with_new_numbers.result
    ∙ ap (λ l. set l c.args.to (logged_of c.with_new_numbers.result)) (map-set logged_of es c.args.k c.replace-entry.new.dest ∙ ap (λ x. set (log_of es) c.args.k x) dummy)
    ∙ ap (λ x. set (set (log_of es) c.args.k no_logged) c.args.to x) moved in
    inr (marked, next, refl, omega arith)
