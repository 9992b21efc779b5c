-- Each step keeps its number, and each term is there still.
use Rattle.spec_derivations.proofs.Onward.{has_lemma_onward, input_onward}
use Rattle.spec_derivations.proofs.Grown.{has_lemma_more, inputs_more, whole_inputs, whole_is_input}
use Rattle.spec_derivations.proofs.growing.inputs_stay_inputs.Goals as goal

pub returns-clause-longer : goal.returns-clause-longer
returns-clause-longer c p d more x h = input_onward d more p x h

pub returns-clause-wider : goal.returns-clause-wider
returns-clause-wider c p q d x terms known h = inputs_more p q known terms d x h

pub returns-clause-whole : goal.returns-clause-whole
returns-clause-whole c p x i = whole_inputs p x i

pub returns-clause-begins : goal.returns-clause-begins
returns-clause-begins c p d x i = whole_is_input p d x i

pub returns-clause-lemma_longer : goal.returns-clause-lemma_longer
returns-clause-lemma_longer c ts d more x h = has_lemma_onward d more ts x h

pub returns-clause-lemma_wider : goal.returns-clause-lemma_wider
returns-clause-lemma_wider c ts us d x among h = has_lemma_more ts us among d x h
