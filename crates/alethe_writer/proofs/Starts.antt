-- The pieces of which texts are written, before the first of them and one by one.
use Rattle.std.proofs.Common.{◌≡◌, ◌≢◌, Bool, false, ◌==◌, ℕ, ◌+◌, ◌≤◌, ◌<◌, List, [], ◌∷◌, ◌++◌, length, drop, map, flat_map, get_or, Some, codes, refl, sym, ap, ◌∙◌}
use Rattle.std.proofs.lemmas.Bool.{false≢true}
use Rattle.std.proofs.lemmas.List.{drop_more, drop_all}
use Rattle.spec_text.specs.Printed.{printed}
use Rattle.spec_numbers.specs.Fractions.{Fraction}
use Rattle.spec_sorts.specs.Terms.{Sort, of, sort_of}
use Rattle.spec_proofs.specs.RuleNames.{rule_name}
use Rattle.spec_models.specs.Values.{numeral, sort_tree, fraction_tree}
use Rattle.spec_proof_texts.specs.Lines.{proof_text, line_text}
use Rattle.spec_proof_texts.specs.Plans.{Plan, definition_lines, inference_lines, lines_of}
use Rattle.term_core.specs.declared.ids.TermId.{TermId}
use Rattle.term_core.specs.Tables.{TableView, Shape, shape_term, term_at, clause_at, head_meant}
use Rattle.ratio128.specs.declared.ratio.Ratio.{Ratio}
use Rattle.ratio128.specs.Meant.{fraction}
use Rattle.rule_bool.specs.Arguments.{fractions_of}
use Rattle.proof_log.specs.declared.premises.StepId.{StepId}
use Rattle.proof_log.specs.declared.step.Step.{Step}
use Rattle.proof_log.specs.Logs.{Logged, derivation_in}
use Rattle.world_io.specs.Writing.{SinkView}
use Rattle.world_io.proofs.Chains.{IsSending, start, split, skip}
use Rattle.alethe_writer.specs.Printing.{spaced, in_place_for, in_place_text, name_by, logged_reference, term_number, clause_number, clause_text, argument_text, arguments_text, references_text, reference_text, premises_listed, fractions_spaced, given_listed, head_text, definition_text, assume_text, step_text, definitions_text, clauses_text, refer_by}
use Rattle.alethe_writer.proofs.Texts.{assume_pieces, step_pieces, in_place_pieces}
use Rattle.alethe_writer.proofs.Wholes.{definition_whole, definitions_more, definitions_done, inferences_more, inferences_ended, proof_whole}

-- the definitions from a term on
abbrev pub definitions_from : TableView → Plan → ℕ → List ℕ
definitions_from t plan k = flat_map line_text (definition_lines (name_by t plan) (drop k t.terms) (drop k plan.terms))

-- the lines of clauses from one on
abbrev pub clauses_from : TableView → List Logged → Plan → ℕ → List ℕ
clauses_from t log plan k = flat_map line_text (inference_lines (name_by t plan) (refer_by t log plan) (drop k (derivation_in t log)) (drop k plan.inferences))

-- texts before their first pieces
pub definition_start : (t : TableView) (plan : Plan) (id : TermId) (n : ℕ) (s : Shape) (r : Sort) (a : SinkView) → term_at t id ≡ shape_term t s → r ≡ sort_of (term_at t id)
    → IsSending (definition_text t plan id (Some n)) ((codes "(define-fun @p" ++ numeral n) ∷ (codes " () " ++ printed (sort_tree r)) ∷ (codes " (" ++ head_text t s.head) ∷ arguments_text t plan s.arguments ∷ codes "))\n" ∷ []) a a
definition_start t plan id n s r a e f =
    start _ _ a (ap (λ (x : Sort). (codes "(define-fun @p" ++ numeral n) ++ ((codes " () " ++ printed (sort_tree x)) ++ ((codes " (" ++ head_text t s.head) ++ (arguments_text t plan s.arguments ++ codes "))\n")))) f ∙ sym (definition_whole t (name_by t plan) n s (term_at t id) e))

-- a row that is not empty
pub some_ids : (ids : List TermId) (b : Bool) → b ≡ (length ids == 0) → b ≡ false → ids ≢ []
some_ids [] b is false_is = absurd (false≢true (sym false_is ∙ is))
some_ids (i ∷ ids) b is false_is = λ e. cc

-- a term in place, where its node has arguments
pub in_place_start : (t : TableView) (plan : Plan) (id : TermId) (s : Shape) (a : SinkView) → term_at t id ≡ shape_term t s → s.arguments ≢ [] → IsSending (in_place_text t plan id) ((codes " (" ++ head_text t s.head) ∷ arguments_text t plan s.arguments ∷ codes ")" ∷ []) a a
in_place_start t plan id s a e some = go s.arguments some refl
  where
    go : (ids : List TermId) → ids ≢ [] → s.arguments ≡ ids → IsSending (in_place_text t plan id) ((codes " (" ++ head_text t s.head) ∷ arguments_text t plan s.arguments ∷ codes ")" ∷ []) a a
    go [] some is = absurd (some refl)
    go (i ∷ ids) some is =
        let whole : in_place_text t plan id ≡ spaced (in_place_for t.terms plan.terms (of (head_meant t s.head) (clause_at t (i ∷ ids)))) = ap (λ u. spaced (in_place_for t.terms plan.terms u)) e ∙ ap (λ js. spaced (in_place_for t.terms plan.terms (of (head_meant t s.head) (clause_at t js)))) is in
        let pieces = in_place_pieces t.terms plan.terms (head_meant t s.head) (term_at t i) (clause_at t ids) in
        start _ _ a (ap (λ js. (codes " (" ++ head_text t s.head) ++ (arguments_text t plan js ++ codes ")")) is ∙ sym (whole ∙ pieces))

pub assume_start : (t : TableView) (plan : Plan) (id : TermId) (n : ℕ) (a : SinkView) → IsSending (assume_text t plan id n) ((codes "(assume h" ++ numeral n) ∷ argument_text t plan id ∷ codes ")\n" ∷ []) a a
assume_start t plan id n a = start _ _ a (sym (assume_pieces n (name_by t plan (term_at t id))))

pub step_start : (t : TableView) (log : List Logged) (plan : Plan) (s : Step) (n : ℕ) (a : SinkView) → IsSending (step_text t log plan s n) ((codes "(step t" ++ numeral n) ∷ codes " (cl" ∷ arguments_text t plan s.clause ∷ (codes ") :rule " ++ rule_name s.rule) ∷ premises_listed log plan s.premises ∷ given_listed s.arguments ∷ codes ")\n" ∷ []) a a
step_start t log plan s n a = start _ _ a (sym (step_pieces n (map (name_by t plan) (clause_at t s.clause)) s.rule (map (logged_reference log plan.inferences) s.premises) s.arguments))

pub given_start : (qs : List Fraction) (first : Fraction) (others : List Fraction) (a : SinkView) → qs ≡ first ∷ others → IsSending (given_listed qs) ((codes " :args (" ++ printed (fraction_tree first)) ∷ fractions_spaced others ∷ codes ")" ∷ []) a a
given_start qs first others a e = start _ _ a (ap given_listed (sym e))

pub premises_start : (log : List Logged) (plan : Plan) (ids : List StepId) (first : StepId) (others : List StepId) (a : SinkView) → ids ≡ first ∷ others → IsSending (premises_listed log plan ids) ((codes " :premises (" ++ reference_text log plan first) ∷ references_text log plan others ∷ codes ")" ∷ []) a a
premises_start log plan ids first others a e = start _ _ a (ap (premises_listed log plan) (sym e))

pub proof_start : (t : TableView) (log : List Logged) (plan : Plan) (a : SinkView) → IsSending (proof_text (lines_of t.terms (derivation_in t log) plan)) (codes "(\n" ∷ definitions_text t plan ∷ clauses_text t log plan ∷ codes ")\n" ∷ []) a a
proof_start t log plan a = start _ _ a (sym (proof_whole t.terms (derivation_in t log) plan))

module _ {whole : List ℕ} {a b : SinkView} where
  -- one term more
  pub next_argument : (t : TableView) (plan : Plan) (ids : List TermId) (k : ℕ) → k < length ids → IsSending whole (arguments_text t plan (drop k ids) ∷ []) a b → IsSending whole (argument_text t plan (get_or ids k (record { 0 = 0 })) ∷ arguments_text t plan (drop (k + 1) ids) ∷ []) a b
  next_argument t plan ids k l = split _ _ _ (ap (arguments_text t plan) (drop_more ids k (record { 0 = 0 }) l))

  pub no_argument : (t : TableView) (plan : Plan) (ids : List TermId) (k : ℕ) → length ids ≤ k → IsSending whole (arguments_text t plan (drop k ids) ∷ []) a b → IsSending whole [] a b
  no_argument t plan ids k l = skip _ (ap (arguments_text t plan) (drop_all k ids l))

  -- one premise more
  pub next_reference : (log : List Logged) (plan : Plan) (ids : List StepId) (k : ℕ) → k < length ids → IsSending whole (references_text log plan (drop k ids) ∷ []) a b → IsSending whole ((32 ∷ reference_text log plan (get_or ids k (record { 0 = 0 }))) ∷ references_text log plan (drop (k + 1) ids) ∷ []) a b
  next_reference log plan ids k l = split _ _ _ (ap (references_text log plan) (drop_more ids k (record { 0 = 0 }) l))

  pub no_reference : (log : List Logged) (plan : Plan) (ids : List StepId) (k : ℕ) → length ids ≤ k → IsSending whole (references_text log plan (drop k ids) ∷ []) a b → IsSending whole [] a b
  no_reference log plan ids k l = skip _ (ap (references_text log plan) (drop_all k ids l))

  -- one definition more
  pub next_definition : (t : TableView) (plan : Plan) (k : ℕ) → k < length plan.terms → length plan.terms ≤ length t.terms → IsSending whole (definitions_from t plan k ∷ []) a b → IsSending whole (definition_text t plan (record { 0 = k }) (term_number plan (record { 0 = k })) ∷ definitions_from t plan (k + 1) ∷ []) a b
  next_definition t plan k l m = split _ _ _ (definitions_more (name_by t plan) t.terms plan.terms k l m)

  pub no_definition : (t : TableView) (plan : Plan) (k : ℕ) → length plan.terms ≤ k → IsSending whole (definitions_from t plan k ∷ []) a b → IsSending whole [] a b
  no_definition t plan k l = skip _ (definitions_done (name_by t plan) t.terms plan.terms k l)

  -- one line of a clause more
  pub next_clause : (t : TableView) (log : List Logged) (plan : Plan) (k : ℕ) → k < length plan.inferences → length plan.inferences ≤ length log → IsSending whole (clauses_from t log plan k ∷ []) a b → IsSending whole (clause_text t log plan (record { 0 = k }) (clause_number plan (record { 0 = k })) ∷ clauses_from t log plan (k + 1) ∷ []) a b
  next_clause t log plan k l m = split _ _ _ (inferences_more t log (name_by t plan) (refer_by t log plan) plan.inferences k l m)

  pub no_clause : (t : TableView) (log : List Logged) (plan : Plan) (k : ℕ) → length plan.inferences ≤ k → IsSending whole (clauses_from t log plan k ∷ []) a b → IsSending whole [] a b
  no_clause t log plan k l = skip _ (inferences_ended (name_by t plan) (refer_by t log plan) (derivation_in t log) plan.inferences k l)

  -- one argument of a rule more
  pub next_fraction : (qs : List Ratio) (k : ℕ) (d q : Ratio) → k < length qs → q ≡ get_or qs k d → IsSending whole (fractions_spaced (fractions_of (drop k qs)) ∷ []) a b → IsSending whole ((32 ∷ printed (fraction_tree (fraction q))) ∷ fractions_spaced (fractions_of (drop (k + 1) qs)) ∷ []) a b
  next_fraction qs k d q l e = split _ _ _ (ap (λ (rs : List Ratio). fractions_spaced (fractions_of rs)) (drop_more qs k d l ∙ ap (λ (r : Ratio). r ∷ drop (k + 1) qs) (sym e)))

  pub no_fraction : (qs : List Ratio) (k : ℕ) → length qs ≤ k → IsSending whole (fractions_spaced (fractions_of (drop k qs)) ∷ []) a b → IsSending whole [] a b
  no_fraction qs k l = skip _ (ap (λ (rs : List Ratio). fractions_spaced (fractions_of rs)) (drop_all k qs l))
