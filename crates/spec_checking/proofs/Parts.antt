-- The parts of a proof's command is in its text.
use Rattle.std.proofs.Common.{ℕ, Bool, true, false, cond, Option, Some, None}
use Rattle.std.specs.Prelude.{codes}
use Rattle.std.specs.Str.{bytes_eq}
use Rattle.spec_text.specs.Bytes.{Name}
use Rattle.spec_text.specs.Shapes.{◌>>=◌, Word, passes, first_word, first_list, only_tree, is_symbol, is_keyword, is_word, wanted}
use Rattle.spec_text.specs.Trees.{Tree, Trees, atom, list, none, more}
use Rattle.spec_text.specs.Offsets.{AllOffsets, AllOffsetsOf}
use Rattle.spec_text.proofs.ShapeLaws.{Holds, holds_in_turn, tree_is_within, PrefixWithin, word_is_within}
use Rattle.spec_reading.proofs.Offsets.{DefinitionWithin}
use Rattle.spec_commands.specs.Commands as scripts
use Rattle.spec_commands.specs.Commands.{DefineFun, defines_fun, define_fun}
use Rattle.spec_commands.proofs.Parts.{PartsWithin, parts_within}
use Rattle.spec_checking.specs.Commands.{Shape, assumes, steps, defines, Keywords, no_keywords, symbol_in, list_in, are_symbols, symbols_in, is_new, with_rule, with_premises, with_arguments, with_discharged, with_keyword, keywords_in, or_none, assume_shape, step_shape, definition_of, define_shape, is_definition, shape_of}

-- anything
abbrev Anything : {A : Type 0} → A → Type 0
Anything a = Unit {0}

any_holds : {A : Type 0} (o : Option A) → Holds Anything o
any_holds None = tt
any_holds (Some a) = tt

either : {A : Type 0} (Q : A → Type 0) (c : Bool) (o p : Option A) → Holds Q o → Holds Q p → Holds Q (cond c o p)
either Q true o p h k = h
either Q false o p h k = k

-- what follows a test
tested : {A : Type 0} (Q : A → Type 0) (b : Bool) (f : Unit {0} → Option A) → ((u : Unit {0}) → Holds Q (f u)) → Holds Q (passes b >>= f)
tested Q b f g = holds_in_turn Anything Q (passes b) f (any_holds (passes b)) (λ u _. g u)

module _ (P : ℕ → Type 0) where
  -- the word's offset has the property
  abbrev WordWithin : Word → Type 0
  WordWithin w = P w.at

  -- a list and what follows it
  abbrev ListWithin : Trees × Trees → Type 0
  ListWithin x = AllOffsetsOf P x.0 × AllOffsetsOf P x.1

  list_within : (ts : Trees) → AllOffsetsOf P ts → Holds ListWithin (first_list ts)
  list_within none h = tt
  list_within (more (atom at k bytes) ts) h = tt
  list_within (more (list at us end) ts) h = (h.0.1, h.1)

  -- what the keywords of a step say is at offsets with the property
  record KeywordsWithin (p : Keywords) : Type 0 where
    rule : Holds WordWithin p.rule
    premises : Holds (AllOffsetsOf P) p.premises

  symbol_within : (t : Tree) → AllOffsets P t → Holds WordWithin (symbol_in t)
  symbol_within (atom at k n) h = either WordWithin (is_symbol k) _ _ h tt
  symbol_within (list at ts end) h = tt

  inner_within : (t : Tree) → AllOffsets P t → Holds (AllOffsetsOf P) (list_in t)
  inner_within (atom at k n) h = tt
  inner_within (list at ts end) h = h.1

  symbols_within : (t : Tree) → AllOffsets P t → Holds (AllOffsetsOf P) (symbols_in t)
  symbols_within t h =
      holds_in_turn (AllOffsetsOf P) (AllOffsetsOf P) (list_in t) _ (inner_within t h) λ ts k.
      tested (AllOffsetsOf P) (are_symbols ts) _ λ each. k

  module _ (p : Keywords) (t : Tree) (h : AllOffsets P t) (s : KeywordsWithin p) where
    rule_within : Holds KeywordsWithin (with_rule p t)
    rule_within =
        tested KeywordsWithin (is_new p.rule) _ λ new.
        holds_in_turn WordWithin KeywordsWithin (symbol_in t) _ (symbol_within t h) λ r k. record { rule = k; premises = s.premises }

    premises_are_within : Holds KeywordsWithin (with_premises p t)
    premises_are_within =
        tested KeywordsWithin (is_new p.premises) _ λ new.
        holds_in_turn (AllOffsetsOf P) KeywordsWithin (symbols_in t) _ (symbols_within t h) λ ps k. record { rule = s.rule; premises = k }

    arguments_within : Holds KeywordsWithin (with_arguments p t)
    arguments_within =
        tested KeywordsWithin (is_new p.arguments) _ λ new.
        holds_in_turn Anything KeywordsWithin (list_in t) _ (any_holds (list_in t)) λ as_list _. record { rule = s.rule; premises = s.premises }

    discharged_within : Holds KeywordsWithin (with_discharged p t)
    discharged_within =
        tested KeywordsWithin (is_new p.discharged) _ λ new.
        holds_in_turn Anything KeywordsWithin (symbols_in t) _ (any_holds (symbols_in t)) λ ds _. record { rule = s.rule; premises = s.premises }

    keyword_within : (n : Name) → Holds KeywordsWithin (with_keyword p n t)
    keyword_within n =
        either KeywordsWithin (bytes_eq n (codes "rule")) _ _ rule_within (
        either KeywordsWithin (bytes_eq n (codes "premises")) _ _ premises_are_within (
        either KeywordsWithin (bytes_eq n (codes "args")) _ _ arguments_within (
        either KeywordsWithin (bytes_eq n (codes "discharge")) _ _ discharged_within tt)))

  keywords_within : (p : Keywords) (ts : Trees) → AllOffsetsOf P ts → KeywordsWithin p → Holds KeywordsWithin (keywords_in p ts)
  unfolding keywords_in
  keywords_within p none h s = s
  keywords_within p (more key none) h s = tt
  keywords_within p (more (list at us end) (more t ts)) h s = tt
  keywords_within p (more (atom at k n) (more t ts)) h s =
      tested KeywordsWithin (is_keyword k) _ λ key.
      holds_in_turn KeywordsWithin KeywordsWithin (with_keyword p n t) _ (keyword_within p t h.1.0 s n) λ q r. keywords_within q ts h.1.1 r

  -- the parts of a command are at offsets with the property
  abbrev pub ShapeWithin : Shape → Type 0
  ShapeWithin (assumes h t) = P h.at × AllOffsets P t
  ShapeWithin (steps p) = P p.name.at × AllOffsetsOf P p.literals × P p.rule.at × AllOffsetsOf P p.premises
  ShapeWithin (defines d) = DefinitionWithin P d

  given_within : (o : Option Trees) → Holds (AllOffsetsOf P) o → AllOffsetsOf P (or_none o)
  given_within None h = tt
  given_within (Some ts) h = h

  assume_within : (ts : Trees) → AllOffsetsOf P ts → Holds ShapeWithin (assume_shape ts)
  unfolding assume_shape
  assume_within ts h =
      holds_in_turn (PrefixWithin P) ShapeWithin (first_word ts) _ (word_is_within P ts h) λ w front.
      tested ShapeWithin (is_symbol w.0.kind) _ λ named.
      holds_in_turn (AllOffsets P) ShapeWithin (only_tree w.1) _ (tree_is_within P w.1 front.1) λ t k. (front.0, k)

  step_within : (ts : Trees) → AllOffsetsOf P ts → Holds ShapeWithin (step_shape ts)
  unfolding step_shape
  step_within ts h =
      holds_in_turn (PrefixWithin P) ShapeWithin (first_word ts) _ (word_is_within P ts h) λ i front.
      tested ShapeWithin (is_symbol i.0.kind) _ λ named.
      holds_in_turn ListWithin ShapeWithin (first_list i.1) _ (list_within i.1 front.1) λ c inside.
      holds_in_turn (PrefixWithin P) ShapeWithin (first_word c.0) _ (word_is_within P c.0 inside.0) λ cl literals.
      holds_in_turn Anything ShapeWithin (wanted (codes "cl") cl.0) _ (any_holds (wanted (codes "cl") cl.0)) λ is_cl _.
      holds_in_turn KeywordsWithin ShapeWithin (keywords_in no_keywords c.1) _ (keywords_within no_keywords c.1 inside.1 (record { rule = tt; premises = tt })) λ p parts.
      holds_in_turn WordWithin ShapeWithin p.rule _ parts.rule λ r k. (front.0, literals.1, k, given_within p.premises parts.premises)

  definition_within : (c : scripts.Command) → PartsWithin P c → Holds ShapeWithin (definition_of c)
  definition_within (DefineFun d) h = h
  definition_within _ h = tt

  define_within : (ts : Trees) (at : ℕ) → P at → AllOffsetsOf P ts → Holds ShapeWithin (define_shape ts)
  define_within ts at here h = holds_in_turn (PartsWithin P) ShapeWithin (define_fun ts) definition_of (parts_within P defines_fun at ts here h) definition_within

  pub shape_within : (ts : Trees) → AllOffsetsOf P ts → Holds ShapeWithin (shape_of ts)
  unfolding shape_of
  shape_within ts h =
      holds_in_turn (PrefixWithin P) ShapeWithin (first_word ts) _ (word_is_within P ts h) λ w front.
      either ShapeWithin (is_word (codes "assume") w.0) _ _ (assume_within w.1 front.1) (
      either ShapeWithin (is_word (codes "step") w.0) _ _ (step_within w.1 front.1) (
      either ShapeWithin (is_definition w.0) _ _ (define_within w.1 w.0.at front.0 front.1) tt))
