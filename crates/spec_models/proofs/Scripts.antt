-- What has no element in it has the value that it has in a script.
use Rattle.std.proofs.Common.{◌≡◌, false, List, ◌∷◌, ◌++◌, refl, ap, ap₂, ◌∙◌}
use Rattle.spec_text.specs.Trees.{Tree, Trees, atom, list, none, more}
use Rattle.spec_sorts.specs.Values.{Value, truth}
use Rattle.spec_sorts.specs.Forms.{Form, malformed, reserved, applies, binds, annotates, form}
use Rattle.spec_sorts.specs.Meaning.{Meaning, Bindings, name_value, value_of, values_of, let_value, bound_values, first_value}
use Rattle.spec_models.specs.Meaning.{element_or, model_value, model_values, model_let, bound_in_model, first_model_value, HasNoElement, HaveNoElement}
use Rattle.spec_reading.proofs.Values.{form_value}

-- the cases of a list in the text of a model
abbrev model_form_value : Meaning → Bindings → Trees → Form → Value
model_form_value m b us f = elim f [ applies place n ↦ name_value m b n (model_values m b us) | binds ↦ model_let m b us | annotates ↦ first_model_value m b us | _ ↦ truth false ]

mutual
  unfolding model_value model_values model_let bound_in_model first_model_value value_of values_of let_value bound_values first_value

  pub tree_same : (m : Meaning) (b : Bindings) (t : Tree) → HasNoElement t → model_value m b t ≡ value_of m b t
  tree_same m b (atom at k n) h = refl
  tree_same m b (list at none end) h = refl
  tree_same m b (list at (more head us) end) h =
      ap (λ o. element_or o (model_form_value m b us (form head us))) h.0 ∙ go (form head us) (trees_same m b us h.1.1) (let_same m b us h.1.1) (first_same m b us h.1.1)
    where
      go : (f : Form) → model_values m b us ≡ values_of m b us → model_let m b us ≡ let_value m b us → first_model_value m b us ≡ first_value m b us → model_form_value m b us f ≡ form_value m b us f
      go malformed all one two = refl
      go (reserved place) all one two = refl
      go (applies place n) all one two = ap (name_value m b n) all
      go binds all one two = one
      go annotates all one two = two

  trees_same : (m : Meaning) (b : Bindings) (ts : Trees) → HaveNoElement ts → model_values m b ts ≡ values_of m b ts
  trees_same m b none h = refl
  trees_same m b (more t ts) h = ap₂ (λ (v : Value) (vs : List Value). v ∷ vs) (tree_same m b t h.0) (trees_same m b ts h.1)

  let_same : (m : Meaning) (b : Bindings) (ts : Trees) → HaveNoElement ts → model_let m b ts ≡ let_value m b ts
  let_same m b (more (list at bindings end) (more body none)) h =
      ap (λ bs. model_value m (bs ++ b) body) (bound_same m b bindings h.0.1) ∙ tree_same m (bound_values m b bindings ++ b) body h.1.0
  let_same m b _ h = refl

  bound_same : (m : Meaning) (b : Bindings) (ts : Trees) → HaveNoElement ts → bound_in_model m b ts ≡ bound_values m b ts
  bound_same m b (more (list at (more (atom x k n) (more t none)) end) rest) h =
      ap₂ (λ (v : Value) (bs : Bindings). (n, v) ∷ bs) (tree_same m b t h.0.1.1.0) (bound_same m b rest h.1)
  bound_same m b _ h = refl

  first_same : (m : Meaning) (b : Bindings) (ts : Trees) → HaveNoElement ts → first_model_value m b ts ≡ first_value m b ts
  first_same m b none h = refl
  first_same m b (more t ts) h = tree_same m b t h.0
