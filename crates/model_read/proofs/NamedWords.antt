-- Words that are the name of a parameter, or none.
use Rattle.std.proofs.Common.{◌≡◌, ◌<◌, ℕ, Bool, true, false, List, [], length, get_or, refl, sym, ap, ◌∙◌}
use Rattle.std.specs.Prelude.{Ok, Err}
use Rattle.spec_text.specs.declared.Kind.{Kind}
use Rattle.spec_text.specs.Bytes.{Name, among}
use Rattle.spec_text.specs.Trees.{Tree, atom}
use Rattle.spec_model_files.specs.declared.ModelKind.TheVariants.{BadShape}
use Rattle.spec_model_files.specs.Faults.{model_fault, require}
use Rattle.spec_model_files.specs.Values.{is_named}
use Rattle.spec_model_files.specs.Bodies.{parameter_named}
use Rattle.term_core.proofs.NamesApart.{not_there}
use Rattle.model_read.specs.declared.errors.LocatedFault.{LocatedFault}
use Rattle.model_read.specs.Answers.{located_view}

-- the name
pub parameter_is : (n : Name) (t : Tree) (at : ℕ) (k : Kind) (m : Name) → atom at k m ≡ t → is_named n k m ≡ true → Ok tt ≡ parameter_named n t
unfolding require
parameter_is n t at k m e h = sym (ap (λ b. require b at BadShape) h) ∙ ap (parameter_named n) e

-- another
pub parameter_is_none : (n : Name) (t : Tree) (at a : ℕ) (k : Kind) (m : Name) (f : LocatedFault) → atom at k m ≡ t → is_named n k m ≡ false → a ≡ at → f ≡ record { offset = a; kind = BadShape }
    → Err (located_view f) ≡ parameter_named n t
unfolding require
parameter_is_none n t at a k m f e h same is =
    ap (λ (g : LocatedFault). Err (located_view g)) is
    ∙ ap (λ (o : ℕ). Err (model_fault o BadShape)) same
    ∙ sym (ap (λ b. require b at BadShape) h)
    ∙ ap (parameter_named n) e

-- a name that has a number is among them
pub is_among : (ns : List Name) (n : Name) (k : ℕ) → k < length ns → get_or ns k [] ≡ n → among ns n ≡ true
is_among ns n k lt e = go (among ns n) refl
  where
    go : (b : Bool) → among ns n ≡ b → b ≡ true
    go true q = refl
    go false q = absurd (not_there ns n k q lt e)
