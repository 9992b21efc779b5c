-- Names less.
use Rattle.std.proofs.Common.{[], ◌∷◌, length, take, sym, ap, ◌∙◌, arith}
use Rattle.std.proofs.lemmas.List.{take-append-le, take_all, length-append}
use Rattle.term_reader.specs.NameStacks.{names_at}
use Rattle.term_reader.proofs.NameStacks.{stack_popped, names_front}
use Rattle.term_reader.proofs.name_stack.NameStack.back.Goals as goal

pub names-preserved-in-Some : goal.names-preserved-in-Some
names-preserved-in-Some c =
    let places = c.names.self-inside.places.items in
    let es = c.pop.new.self.items in
    let e = c.in-Some.last in
    let is = c.in-Some.ensures.items in (
      stack_popped c.names.self-inside.met c.names.self-inside.latest.items places c.names.invariant.0 es e is,
      c.names.invariant.1,
      sym (take-append-le c.args.len es (e ∷ []) (omega (arith, c.names-test.true, c.len.ensures, ap length is, length-append es (e ∷ []), c.names.self-inside.places.ok.0))) ∙ ap (take c.args.len) (sym is) ∙ c.names.invariant.2,
    )

pub returns : goal.returns
returns c =
    let places = c.names.self-inside.places.items in
    let short = take_all c.args.len places (omega (arith, c.names-test.false, c.len.ensures, c.names.self-inside.places.ok.0)) in
    ap (names_at c.names.self-inside.met) (sym short ∙ c.names.invariant.2)
    ∙ ap (λ met. names_at met (take c.args.len c.self.inside.places.items)) c.names.invariant.1
    ∙ names_front c.self.inside.met c.self.inside.places.items c.args.len
    ∙ ap (take c.args.len) c.self.view_is
