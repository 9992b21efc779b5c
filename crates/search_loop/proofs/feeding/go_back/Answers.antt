-- That a theory keeps up with a trail whose levels are taken back.
use Rattle.std.proofs.Common.{◌-◌, ◌∙◌, ℕ, sym, ap, subst, arith}
use Rattle.proof_log.specs.Theories.{TheoryView}
use Rattle.search_loop.specs.Asking.{KeepsUp}
use Rattle.search_loop.proofs.SearchTheories.{rising, went_back, held_back, watched_back, keeps_back}
use Rattle.search_loop.proofs.feeding.go_back.Goals as goal

pub back-requires-clause-there : goal.back-requires-clause-there
back-requires-clause-there g c = omega (arith, c.requires.keeps.marked, c.level.ensures)

pub back-requires-clause-rising : goal.back-requires-clause-rising
back-requires-clause-rising g c = rising (g.T.Theory.meaning c.args.theory.now).view c.args.trail.now c.requires.keeps c.is_sound.ensures.leveled

pub returns-clause-back : goal.returns-clause-back
returns-clause-back g c =
    let before = g.T.Theory.meaning c.args.theory.now in
    let trail = c.args.trail.now in
    let cut = c.back_to.ensures in
    let went = went_back before.view (g.T.Theory.meaning c.back.new.theory).view trail c.args.level (c.level.result - c.args.level) c.requires.keeps c.requires.below (ap (λ (k : ℕ). k - c.args.level) c.level.ensures) c.back.ensures.back in
    record {
      runs = c.back.ensures.keeps;
      keeps = subst (λ (v : TheoryView). KeepsUp v c.back_to.new.self) (sym went) (keeps_back before.view trail c.requires.keeps c.is_sound.ensures.leveled c.args.level c.requires.below c.back_to.new.self cut);
      holds = ap (λ (v : TheoryView). v.held) went ∙ held_back before.view trail c.requires.keeps c.is_sound.ensures.leveled c.args.level c.requires.below c.back_to.new.self cut;
      watched = ap (λ (v : TheoryView). v.watched) went ∙ watched_back before.view trail c.requires.keeps c.is_sound.ensures.leveled c.args.level c.requires.below c.back_to.new.self cut;
    }
