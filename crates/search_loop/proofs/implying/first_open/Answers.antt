-- That it is one of the clause's, and has no value.
use Rattle.std.proofs.Common.{◌≡◌, ◌<◌, ◌∙◌, Bool, false, not, List, Option, Some, None, sym, ap, subst}
use Rattle.std.specs.Option.{is_some}
use Rattle.std.proofs.lemmas.Bool.{false≢true}
use Rattle.term_core.specs.declared.ids.Lit.{Lit}
use Rattle.sat_trail.specs.Trails.{IsUnassigned, HasValue}
use Rattle.search_loop.proofs.SearchClauses.{lit_at}
use Rattle.search_loop.proofs.implying.first_open.Goals as goal

no_value : (held : List Lit) (l : Lit) (o : Option Bool) → is_some o ≡ false → HasValue held l o → IsUnassigned held l
no_value held l None e h = h
no_value held l (Some b) e h = absurd (false≢true (sym e))

pub returns-then-is_none : goal.returns-then-is_none
returns-then-is_none c = (
  lit_at c.args.table.now c.args.clause.now c.loop-id.id-index _ c.loop-id-test.true c.literal-l.result c.literal-l.ensures.there c.literal-l.ensures.means,
  record {
    known = subst (λ n. c.literal-l.result.term.0 < n) c.vars.ensures c.if-l-vars.false;
    unassigned = no_value c.args.trail.now.literals c.literal-l.result c.value.result (c.is_none.ensures ∙ ap not c.if-is_none.true) c.value.ensures;
  },
)
