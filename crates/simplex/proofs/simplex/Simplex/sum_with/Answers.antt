-- The variable means the term.
use Rattle.std.proofs.Common.{subst}
use Rattle.ratio128.specs.Meant.{overflow}
use Rattle.tableau.specs.Numbers.{number_of}
use Rattle.simplex_bounds.specs.Deltas.{pair_of}
use Rattle.spec_text.proofs.AnswerLaws.{told}
use Rattle.simplex_atoms.specs.Owners.{IsNumberOf}
use Rattle.simplex.specs.Views.{SimplexView}
use Rattle.simplex.specs.Values.{OverflowsNextSum}
use Rattle.simplex.proofs.SharedTerms.{product_overflowing, next_overflows}
use Rattle.simplex.proofs.simplex.Simplex.sum_with.Goals as goal

pub returns-in_err-product-in-Some-clause-wide : goal.returns-in_err-product-in-Some-clause-wide
returns-in_err-product-in-Some-clause-wide c =
    let s = c.self.inside in
    let v : SimplexView = record { theory = s.literals; atoms = s.atoms; assignment = s.assignment; bounds = s.bounds; starts = s.starts.items } in
    let represents = subst (IsNumberOf s.atoms.owners c.args.id) c.in-Some.is c.var.ensures in
    told (λ w. OverflowsNextSum c.args.self.now c.args.id (number_of c.args.k) (pair_of c.args.sum) (overflow w)) c.from_residual.result c.in_err-product-in-Some.field-0.0 c.from_residual.ensures.1
    (subst (λ (x : SimplexView). OverflowsNextSum x c.args.id (number_of c.args.k) (pair_of c.args.sum) (overflow c.in_err-product-in-Some.field-0.0)) c.self.view_is
    (product_overflowing v c.args.id c.in-Some.y c.args.k c.args.sum c.value.result c.value.result represents c.value.ensures (overflow c.in_err-product-in-Some.field-0.0) c.in_err-product-in-Some.ensures.wide))

pub returns-in_err-next-in-Some-clause-wide : goal.returns-in_err-next-in-Some-clause-wide
returns-in_err-next-in-Some-clause-wide c =
    let s = c.self.inside in
    let v : SimplexView = record { theory = s.literals; atoms = s.atoms; assignment = s.assignment; bounds = s.bounds; starts = s.starts.items } in
    let represents = subst (IsNumberOf s.atoms.owners c.args.id) c.in-Some.is c.var.ensures in
    told (λ w. OverflowsNextSum c.args.self.now c.args.id (number_of c.args.k) (pair_of c.args.sum) (overflow w)) c.from_residual-in_err-next-in-Some.result c.in_err-next-in-Some.field-0.0 c.from_residual-in_err-next-in-Some.ensures.1
    (subst (λ (x : SimplexView). OverflowsNextSum x c.args.id (number_of c.args.k) (pair_of c.args.sum) (overflow c.in_err-next-in-Some.field-0.0)) c.self.view_is
    (next_overflows v c.args.id c.in-Some.y c.args.k c.args.sum c.value.result c.in_ok-product-in-Some.product represents c.value.ensures (overflow c.in_err-next-in-Some.field-0.0) c.in_ok-product-in-Some.ensures.exact c.in_err-next-in-Some.ensures.wide))
