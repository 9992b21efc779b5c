-- By the laws of the table, and of what can be printed.
use Rattle.std.proofs.Common.{◌<◌, [], sym, subst}
use Rattle.spec_sorts.specs.Signatures.{symbols_in}
use Rattle.spec_sorts.proofs.WellSorted.{sorted_over}
use Rattle.proof_log.specs.Logs.{derivation_in}
use Rattle.alethe_writer.proofs.Listing.{all_printable}
use Rattle.alethe_writer.proofs.Logging.{clauses_sorted}
use Rattle.alethe_writer.proofs.WellSorted.{printed_sorted}
use Rattle.std.proofs.lemmas.List.{length-map}
use Rattle.spec_derivations.proofs.Spending.{depends_there}
use Rattle.proof_log.specs.Logs.{inference_of}
use Rattle.alethe_writer.proofs.printable.terms_are_printable.Goals as goal

pub returns : goal.returns
returns c = λ g log n own within right lt readable.
    let t = c.args.table.now in
    let d = derivation_in t log in
    all_printable t c.ids_are_unique.ensures c.arguments_come_first.ensures g d n (λ u p.
    c.well_sorted_terms_are_printable.ensures g u own
    (sorted_over t.symbols (symbols_in g) within [] u (printed_sorted t.symbols d n (λ m v on b. clauses_sorted t log right m v (subst (λ k. m < k) (length-map log (inference_of t)) (depends_there d right.right n m (subst (λ k. n < k) (sym (length-map log (inference_of t))) lt) on)) b) u p))
    (readable u p))
