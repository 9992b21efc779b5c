-- That no script with a good proof has a model.
use Rattle.std.proofs.Common.{ℕ, List, None, All, sym, ap, ◌∙◌, subst}
use Rattle.std.proofs.lemmas.List.Elements.{All-nil, All-map}
use Rattle.spec_text.specs.Trees.{Trees}
use Rattle.spec_sorts.specs.Values.{is_true, Interprets}
use Rattle.spec_sorts.specs.Signatures.{symbols_in}
use Rattle.spec_commands.specs.Stack.{Assertion, signature_of}
use Rattle.spec_commands.specs.Checks.{Check, asked, IsCurrent, IsTrueAssertion, HasNoModel}
use Rattle.spec_commands.proofs.Kept.{sound_here}
use Rattle.spec_checking.specs.Commands.{known_at}
use Rattle.spec_checking.specs.Good.{AreGood}
use Rattle.spec_checking.proofs.Good.{no_fault}
use Rattle.spec_checking.proofs.Sound.{sound, EntryTrue, TermTrue, IsTruly}
use Rattle.spec_checking.proofs.laws.good_proofs_are_sound.Goals as goal

pub returns : goal.returns
returns c = record {
  commands = refutes;
  whole = λ limit script proof k g. refutes limit script k g.check g.commands g.current g.good;
}
  where
    refutes : (limit : ℕ) (script : List ℕ) (k : ℕ) (here : Check) (ts : Trees) → IsCurrent limit script k here → AreGood None (known_at here) ts → HasNoModel limit script k
    refutes limit script k here ts current good i model =
        let same = c.texts_have_one_check_of_a_number.ensures.one limit script k model.here here model.current current in
        let texts = subst (λ (x : Check). All (IsTrueAssertion i (signature_of x.stack)) (asked x)) same model.each in
        let values = c.what_is_asked_has_its_texts_value.ensures.value limit script k here current i in
        let kept = sound_here limit here.stack (c.assertions_have_their_texts_value.ensures.kept limit script k here current) in
        let all : IsTruly i (known_at here) = record {
          names = kept.sorts;
          interprets = subst (λ (x : Check). Interprets i (symbols_in (signature_of x.stack))) same model.interprets;
          entries = All-nil (EntryTrue i);
          asserted = All-map (TermTrue i) (λ (a : Assertion). a.term) (asked here) (λ n d h. ap is_true (sym (values n d h) ∙ texts n d h));
        } in
        sound i (λ symbols rule premises arguments clause. c.rules_are_sound.ensures symbols rule premises arguments clause i) None (known_at here) 0 ts all (no_fault None 0 (known_at here) ts good)
