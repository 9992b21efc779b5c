-- One declaration more.
use Rattle.gen_script.specs.Scripts.{declaration}
use Rattle.gen_script.proofs.Lines.{one_more}
use Rattle.gen_script.proofs.script.add_declarations.Goals as goal

pub loop-i-preserved : goal.loop-i-preserved
loop-i-preserved c = one_more declaration c.loop-i.i c.args.text.now.items c.loop-i.text.items c.add_declaration.new.text.items c.loop-i.invariant c.in_ok-add_declaration.ensures
