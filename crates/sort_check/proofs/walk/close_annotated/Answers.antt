-- A term with attributes is read.
use Rattle.std.proofs.Common.{◌∷◌, [], ◌++◌, take, get_or, sym, subst, arith}
use Rattle.smt_sexpr.specs.Items.{trees_meant, tree_meant}
use Rattle.term_core.specs.Tables.{IsIn}
use Rattle.term_reader.specs.Names.{setting_meant}
use Rattle.spec_sorts.specs.Forms.{a_keyword, named_words}
use Rattle.spec_reading.specs.Reading.{made_by}
use Rattle.sort_check.specs.Naming.{HasNamed}
use Rattle.sort_check.specs.Reads.{HasFault}
use Rattle.sort_check.specs.Walks.{here}
use Rattle.sort_check.proofs.Widening.{widens_same}
use Rattle.sort_check.proofs.Walking.{ends_by, less_by, on_along, frames_push}
use Rattle.sort_check.proofs.Annotating.{annotated_value, known, names_mean, meant, annotated_closes, annotated_stops}
use Rattle.sort_check.proofs.walk.close_annotated.Goals as goal

pub index-id-requires : goal.index-id-requires
index-id-requires c =
    let w = setting_meant c.args.setting in
    let e = c.requires.walk in
    let h = here c.args.table.now c.args.scope.now c.args.walk.now in
    omega (arith, (annotated_value w e.0 h c.args.frame e.1 c.args.at c.args.text c.args.attributes c.requires.opened (record { 0 = 0 })).0, c.args.walk.now.values.ok.0)

pub returns-in_default-clause-widens : goal.returns-in_default-clause-widens
returns-in_default-clause-widens c = widens_same c.args.scope.now

pub name_term-requires : goal.name_term-requires
name_term-requires c =
    let w = setting_meant c.args.setting in
    let e = c.requires.walk in
    let h = here c.args.table.now c.args.scope.now c.args.walk.now in
    subst (IsIn c.args.table.now) (sym c.index-id.ensures) (annotated_value w e.0 h c.args.frame e.1 c.args.at c.args.text c.args.attributes c.requires.opened c.index-id.result.now).1.0

pub returns-in-Ok-name_term-clause-goes : goal.returns-in-Ok-name_term-clause-goes
returns-in-Ok-name_term-clause-goes c =
    let w = setting_meant c.args.setting in
    let t = c.args.table.now in
    let v = c.name_term.new.scope in
    let h = here t c.args.scope.now c.args.walk.now in
    let f = c.args.frame in
    let id = c.index-id.result.now in
    let nums = c.name_term.new.named.items in
    λ root k.
    let a = c.in-Ok-name_term.ensures.ends (known w root h f k c.args.at c.args.text c.args.attributes c.requires.opened) (tree_meant c.args.text) (names_mean w root h f k c.args.at c.args.text c.args.attributes c.requires.opened) in
    let same = meant w root h f k c.args.at c.args.text c.args.attributes c.requires.opened id id c.in-Ok.may_name c.index-id.ensures c.in-Ok.ensures in
    ends_by w root (here t v c.replace.new.walk) (record h { scope = v; values = take f.from h.values ++ get_or h.values f.from id ∷ []; named = nums; rest = trees_meant f.after }) c.replace.result
    (on_along c.replace.result (here t v c.replace.new.walk) (record h { scope = v; values = take f.from h.values ++ id ∷ []; named = nums; rest = trees_meant f.after }) (record h { scope = v; values = take f.from h.values ++ get_or h.values f.from id ∷ []; named = nums; rest = trees_meant f.after }) (c.replace.ensures.replaced t v)
    (λ i. record h { scope = v; values = take f.from h.values ++ c.index-id.ensures i ∷ []; named = nums; rest = trees_meant f.after })) c.replace.ensures.memory
    (annotated_closes w root h f k c.args.at c.args.text c.args.attributes c.requires.opened id v nums
    (subst (λ x. HasNamed t (known w root h f k c.args.at c.args.text c.args.attributes c.requires.opened) v (h.named, nums) (made_by w (known w root h f k c.args.at c.args.text c.args.attributes c.requires.opened) x (named_words a_keyword (trees_meant c.args.attributes)))) same a))

pub returns-in-Ok-name_term-clause-less : goal.returns-in-Ok-name_term-clause-less
returns-in-Ok-name_term-clause-less c =
    let t = c.args.table.now in
    let v = c.name_term.new.scope in
    let h = here t c.args.scope.now c.args.walk.now in
    let f = c.args.frame in
    let id = c.index-id.result.now in
    less_by (here t v c.replace.new.walk) (record h { scope = v; values = take f.from h.values ++ id ∷ []; named = c.name_term.new.named.items; rest = trees_meant f.after }) c.replace.result _ (c.replace.ensures.replaced t v) (omega (arith, frames_push h.frames f))

pub returns-in-Err-clause-goes : goal.returns-in-Err-clause-goes
returns-in-Err-clause-goes c =
    let w = setting_meant c.args.setting in
    let t = c.args.table.now in
    let h = here t c.args.scope.now c.args.walk.now in
    let f = c.args.frame in
    let id = c.index-id.result.now in
    λ root k.
    let a = c.in-Err.ensures.ends (known w root h f k c.args.at c.args.text c.args.attributes c.requires.opened) (tree_meant c.args.text) (names_mean w root h f k c.args.at c.args.text c.args.attributes c.requires.opened) in
    let same = meant w root h f k c.args.at c.args.text c.args.attributes c.requires.opened id id c.in-Ok.may_name c.index-id.ensures c.in-Ok.ensures in
    annotated_stops w root h f k c.args.at c.args.text c.args.attributes c.requires.opened c.in-Err.stop
    (subst (λ x. HasFault (made_by w (known w root h f k c.args.at c.args.text c.args.attributes c.requires.opened) x (named_words a_keyword (trees_meant c.args.attributes))) c.in-Err.stop) same a)
