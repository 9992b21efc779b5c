-- The sorts that texts name.
use Rattle.std.proofs.Common.{◌≡◌, true, false, sym, ap, ◌∙◌}
use Rattle.std.specs.Prelude.{Ok, Err}
use Rattle.spec_text.specs.declared.Kind.TheVariants.{Numeral, Decimal, Text, Simple, Quoted, Reserved, Keyword}
use Rattle.spec_text.specs.Answers.{◌>>=◌}
use Rattle.spec_text.specs.Shapes.{Word}
use Rattle.spec_text.specs.Trees.{Tree, atom, list}
use Rattle.spec_sorts.specs.Terms.{Sort}
use Rattle.spec_sorts.specs.Signatures.{Signature}
use Rattle.spec_reading.specs.Sorts.{sort_in, sort_named}
use Rattle.spec_model_files.specs.declared.ModelKind.TheVariants.{WrongSort}
use Rattle.spec_model_files.specs.Faults.{ModelFault, ReadModel, require}
use Rattle.spec_model_files.specs.Values.{symbol_read, names_sort, sort_read}
use Rattle.model_read.specs.declared.errors.LocatedFault.{LocatedFault}
use Rattle.model_read.specs.Answers.{located_view}

-- a symbol that is read is the one that is there
word_is : (u w : Word) → (let r : ReadModel Word = Ok u in r) ≡ Ok w → u ≡ w
word_is u w e = cc

-- the sort of a symbol is that of its name
pub symbol_sort : (g : Signature) (t : Tree) (w : Word) → symbol_read t ≡ Ok w → sort_in g t ≡ sort_named g w.at w.bytes
symbol_sort g (atom at Simple n) w e = ap (λ (v : Word). sort_named g v.at v.bytes) (word_is _ w e)
symbol_sort g (atom at Quoted n) w e = ap (λ (v : Word). sort_named g v.at v.bytes) (word_is _ w e)
symbol_sort g (atom at Numeral n) w e = cc
symbol_sort g (atom at Decimal n) w e = cc
symbol_sort g (atom at Text n) w e = cc
symbol_sort g (atom at Reserved n) w e = cc
symbol_sort g (atom at Keyword n) w e = cc
symbol_sort g (list at ts end) w e = cc

module _ (g : Signature) (s : Sort) (t : Tree) where
  -- a text names the sort
  pub sort_is : (w : Word) → symbol_read t ≡ Ok w → names_sort g s w ≡ true → Ok tt ≡ sort_read g s t
  unfolding sort_read require ◌>>=◌
  sort_is w e h = sym (ap (λ r. r >>= λ v. require (names_sort g s v) v.at WrongSort) e ∙ ap (λ b. require b w.at WrongSort) h)

  -- another
  pub sort_other : (w : Word) (f : LocatedFault) → symbol_read t ≡ Ok w → names_sort g s w ≡ false → f ≡ record { offset = w.at; kind = WrongSort } → Err (located_view f) ≡ sort_read g s t
  unfolding sort_read require ◌>>=◌
  sort_other w f e h is = ap (λ (x : LocatedFault). Err (located_view x)) is ∙ sym (ap (λ r. r >>= λ v. require (names_sort g s v) v.at WrongSort) e ∙ ap (λ b. require b w.at WrongSort) h)

  -- or none
  pub sort_fails : (f : ModelFault) → symbol_read t ≡ Err f → Err f ≡ sort_read g s t
  unfolding sort_read ◌>>=◌
  sort_fails f e = sym (ap (λ r. r >>= λ v. require (names_sort g s v) v.at WrongSort) e)
