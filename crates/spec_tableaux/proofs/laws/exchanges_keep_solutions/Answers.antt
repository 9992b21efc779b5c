use Rattle.spec_tableaux.proofs.Exchanges.{exchange_keeps}
use Rattle.spec_tableaux.proofs.SolvedForms.{exchange_solved}
use Rattle.spec_tableaux.proofs.laws.exchanges_keep_solutions.Goals as goal

pub returns : goal.returns
returns c d = record {
  solutions = λ s l rs b x i h v. exchange_keeps s l v b x rs i.distinct h.basic h.entry;
  solved = λ s l rs b x i h. exchange_solved s l b x rs i h.basic h.nonbasic h.entry;
}
