-- Texts with one list, and others.
use Rattle.spec_model_files.specs.FileExamples.{nothing_there, word_alone, other_word, atom_there, listed_verdict, two_lists}
use Rattle.spec_model_files.proofs.examples.model_files_are_one_list.Goals as goal

pub returns-clause-listed : goal.returns-clause-listed
returns-clause-listed c = listed_verdict

pub returns-clause-nothing : goal.returns-clause-nothing
returns-clause-nothing c = nothing_there

pub returns-clause-word : goal.returns-clause-word
returns-clause-word c = word_alone

pub returns-clause-other_word : goal.returns-clause-other_word
returns-clause-other_word c = other_word

pub returns-clause-atom : goal.returns-clause-atom
returns-clause-atom c = atom_there

pub returns-clause-two : goal.returns-clause-two
returns-clause-two c = two_lists
