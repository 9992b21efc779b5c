-- Lists by the rows that open in them.
use Rattle.std.proofs.Common.{◌≡◌, ℕ, List, [], ◌∷◌, ◌++◌, refl, ap, sym, ◌∙◌}
use Rattle.std.specs.Prelude.{Ok, Err}
use Rattle.spec_text.specs.declared.Fault.TheVariants.{BadShape, Reserved}
use Rattle.spec_text.specs.Answers.{Answer, ◌>>=◌, refused}
use Rattle.spec_text.specs.Trees.{Tree, Trees, list, none, more}
use Rattle.spec_sorts.specs.Terms.{Term}
use Rattle.spec_sorts.specs.Signatures.{Signature, with_definitions}
use Rattle.spec_sorts.specs.Forms.{malformed, reserved, applies, binds, annotates, form, a_keyword, named_words}
use Rattle.spec_reading.specs.Names.{Setting}
use Rattle.spec_reading.specs.Reading.{Bound, Reading, applied, made_by, annotated_as, reading, readings, let_reading, annotated_reading}
use Rattle.spec_reading.proofs.Values.{by_form}
use Rattle.smt_sexpr.specs.declared.items.Trees.{Trees as Cursor}
use Rattle.smt_sexpr.specs.Items.{trees_meant, tree_meant}
use Rattle.sort_check.specs.declared.applied.Called.{Called}
use Rattle.sort_check.specs.declared.frames.Opened.TheVariants.{Applies, Annotates}
use Rattle.sort_check.specs.Walks.{Level, closes}
use Rattle.sort_check.proofs.Rows.{one_text}

module _ (w : Setting) (s : Signature) (b : Bound) where
  -- a row that opens at a place
  abbrev pub at_place : List Term → Bound → Trees → Level
  at_place below waiting texts = record { base = record { signature = s; bound = b; texts = texts }; below = below; waiting = waiting }

  pub nothing_annotated : (at : ℕ) → annotated_reading w s b at none ≡ refused at BadShape
  unfolding annotated_reading
  nothing_annotated at = refl

  -- a term with attributes
  pub annotated_opens : (at : ℕ) (text attributes : Cursor) → trees_meant text ≡ more (tree_meant text) none → (below : List Term) (waiting : Bound)
      → annotated_reading w s b at (more (tree_meant text) (trees_meant attributes)) ≡ (readings w s b (trees_meant text) >>= λ r. closes w (Annotates at text attributes) (at_place below waiting (trees_meant text)) r)
  unfolding ◌>>=◌ annotated_reading
  annotated_opens at text attributes alone below waiting =
      go (reading w s b (tree_meant text))
      ∙ ap (λ a. a >>= λ r. closes w (Annotates at text attributes) (at_place below waiting (trees_meant text)) r) (sym (one_text w s b (tree_meant text)) ∙ ap (readings w s b) (sym alone))
    where
      go : (a : Answer Reading) → (a >>= λ r. made_by w (with_definitions s r.made) (annotated_as w b at (tree_meant text) r.term) (named_words a_keyword (trees_meant attributes)) >>= λ ds. Ok (record { made = r.made ++ ds; term = r.term }))
          ≡ ((a >>= λ r. Ok (record { made = r.made; terms = r.term ∷ [] })) >>= λ r. closes w (Annotates at text attributes) (at_place below waiting (trees_meant text)) r)
      go (Ok r) = refl
      go (Err e) = refl

  -- a list by its form
  pub list_is : (at end : ℕ) (head : Tree) (us : Trees) → reading w s b (list at (more head us) end) ≡ by_form w s b at us (form head us)
  unfolding reading
  list_is at end head us = refl

  pub empty_is : (at end : ℕ) → reading w s b (list at none end) ≡ refused at BadShape
  unfolding reading
  empty_is at end = refl

  -- a name before arguments
  pub applied_opens : (at end : ℕ) (head : Tree) (us : Trees) (c : Called) → c.at ≡ at → form head us ≡ applies c.place c.name.now → (below : List Term) (waiting : Bound)
      → reading w s b (list at (more head us) end) ≡ (readings w s b us >>= λ r. closes w (Applies c) (at_place below waiting us) r)
  applied_opens at end head us c at_is is below waiting =
      list_is at end head us ∙ ap (by_form w s b at us) is
      ∙ ap (λ n. readings w s b us >>= λ r. applied (with_definitions s r.made) b c.place c.name.now n r.terms >>= λ t. Ok (record { made = r.made; term = t })) (sym at_is)

  pub malformed_is : (at end : ℕ) (head : Tree) (us : Trees) → form head us ≡ malformed → reading w s b (list at (more head us) end) ≡ refused at BadShape
  malformed_is at end head us is = list_is at end head us ∙ ap (by_form w s b at us) is

  pub reserved_is : (at end place : ℕ) (head : Tree) (us : Trees) → form head us ≡ reserved place → reading w s b (list at (more head us) end) ≡ refused place Reserved
  reserved_is at end place head us is = list_is at end head us ∙ ap (by_form w s b at us) is

  pub let_is : (at end : ℕ) (head : Tree) (us : Trees) → form head us ≡ binds → reading w s b (list at (more head us) end) ≡ let_reading w s b at us
  let_is at end head us is = list_is at end head us ∙ ap (by_form w s b at us) is

  pub annotated_is : (at end : ℕ) (head : Tree) (us : Trees) → form head us ≡ annotates → reading w s b (list at (more head us) end) ≡ annotated_reading w s b at us
  annotated_is at end head us is = list_is at end head us ∙ ap (by_form w s b at us) is
