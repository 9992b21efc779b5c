-- One value after the other is taken.
use Rattle.std.proofs.Common.{sym, ◌∙◌, arith}
use Rattle.ratio128.specs.Meant.{overflow}
use Rattle.term_walks.specs.Valuations.{IsNamed}
use Rattle.term_walks.proofs.Named.{no_number}
use Rattle.term_walks.proofs.Taking.{take_more, take_wide, take_end, all_push}
use Rattle.term_walks.proofs.valuation.take_values.Goals as goal

pub known_at-requires-clause-there : goal.known_at-requires-clause-there
known_at-requires-clause-there c = c.requires.there c.arguments.id-index no_number c.arguments-test.true

pub returns-in-Wide-clause-exact : goal.returns-in-Wide-clause-exact
returns-in-Wide-clause-exact c t i are =
    sym (take_wide t i c.args.arguments.now c.arguments.id-index no_number c.arguments-test.true c.arguments.taken.items (overflow c.in-Wide.wide) (c.in-Wide.ensures.exact t i are)) ∙ c.arguments.invariant.same t i are

pub arguments-preserved : goal.arguments-preserved
arguments-preserved c = record {
  same = λ t i are.
      sym (take_more t i c.args.arguments.now c.arguments.id-index no_number c.arguments-test.true c.arguments.taken.items c.push.new.self.items c.in-Value.value (c.in-Value.ensures.exact t i are) c.in_ok-push-in-Value.ensures.items)
      ∙ c.arguments.invariant.same t i are;
  named = λ sorts h. all_push (IsNamed sorts) c.arguments.taken.items c.push.new.self.items c.in-Value.value c.in_ok-push-in-Value.ensures.items (c.arguments.invariant.named sorts h) (c.in-Value.ensures.named sorts h);
}

pub returns-clause-exact : goal.returns-clause-exact
returns-clause-exact c t i are = sym (take_end t i c.args.arguments.now c.arguments.id-index c.arguments.taken.items (omega (arith, c.arguments-test.false))) ∙ c.arguments.invariant.same t i are
