-- That a transcript needs a prefix alone.
use Rattle.std.proofs.Common.{◌≡◌, List, ◌++◌, ℕ, subst, ◌⊎◌}
use Rattle.spec_text.specs.Readings.{text_limit}
use Rattle.spec_proofs.proofs.Prefixes.{same_kept, read_by}
use Rattle.spec_sessions.specs.States.{first_state}
use Rattle.spec_sessions.specs.Transcripts.{Runs, answers_text, closing, closing_text}
use Rattle.spec_sessions.proofs.laws.transcripts_need_a_prefix_alone.Goals as goal

pub returns-clause-whole : goal.returns-clause-whole
returns-clause-whole c = λ limits mode text out refused t. record {
  commands = t.commands;
  end = t.end;
  read = read_by text t.commands t.end t.read;
  answers = t.answers;
  runs = t.runs;
  written = subst (λ (b : List ℕ). out ≡ answers_text mode b t.answers ++ closing_text b (closing t.answers t.end)) (same_kept text_limit text) t.written;
  told = t.told;
}

pub returns-clause-begun : goal.returns-clause-begun
returns-clause-begun c = λ limits mode text out t. record {
  commands = t.commands;
  end = t.end;
  read = read_by text t.commands t.end t.read;
  answers = t.answers;
  begins = t.begins;
  written = subst (λ (b : List ℕ). (out ≡ answers_text mode b t.answers) ⊎ (Runs limits first_state t.commands t.answers × (out ≡ answers_text mode b t.answers ++ closing_text b (closing t.answers t.end)))) (same_kept text_limit text) t.written;
}
