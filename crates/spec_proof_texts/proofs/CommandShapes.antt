-- Lines are read as commands.
use Rattle.std.proofs.Common.{◌≡◌, ℕ, true, false, cond, [], ◌∷◌, ◌++◌, Option, Some, refl, sym, ap, ◌∙◌, append-nil}
use Rattle.std.specs.Prelude.{Ok, codes, not}
use Rattle.spec_text.specs.declared.Kind.TheVariants.{Simple, Reserved as word_kind, Keyword}
use Rattle.spec_text.specs.declared.Fault.TheVariants.{Twice, WrongSort}
use Rattle.spec_text.specs.Bytes.{Name, among}
use Rattle.spec_text.specs.Answers.{◌>>=◌, require}
use Rattle.spec_text.specs.Shapes.{Word}
use Rattle.spec_text.specs.Trees.{Tree, Trees, atom, list, none, more, offset_of}
use Rattle.spec_text.proofs.AnswerLaws.{joined}
use Rattle.spec_sorts.specs.Terms.{Sort, Truth, Term, same_sort, sort_of}
use Rattle.spec_sorts.specs.Signatures.{Definition, Signature, definition, with_definitions}
use Rattle.spec_sorts.proofs.WellSorted.{same_sort_itself}
use Rattle.spec_reading.specs.Names.{proof, new_name, is_function}
use Rattle.spec_reading.specs.Sorts.{sort_in}
use Rattle.spec_reading.specs.Reading.{Readings, plain_reading, reading, reading_of_sort}
use Rattle.spec_reading.specs.Definitions as definitions
use Rattle.spec_reading.specs.Definitions.{parameters_in, definitions_in}
use Rattle.spec_commands.specs.Commands.{first_name, define_fun}
use Rattle.spec_proofs.specs.declared.ProofKind.TheVariants.{TwiceName}
use Rattle.spec_proofs.specs.Faults.{wrong}
use Rattle.spec_proofs.specs.RuleNames.{rule_named}
use Rattle.spec_checking.specs.Commands.{Known, assumed, stepped, nothing, Step, Command, StepParts, steps, are_symbols, keywords_in, assume_shape, step_shape, shape_of}
use Rattle.spec_checking.specs.Reading.{entry_names, fresh_name, named_in, named_in_all, in_proof, room, literals_in, roomy_literals, roomy_formula, roomy_definitions, rule_at, premises_of, read_shape, shaped, command_of}

-- a name that no earlier command has
fresh_read : (k : Known) (w : Word) → among (entry_names k.entries) w.bytes ≡ false → fresh_name k w ≡ Ok w.bytes
unfolding fresh_name
fresh_read k w e = ap (λ b. cond b (wrong w.at TwiceName) (Ok w.bytes)) e

-- a name at an offset
abbrev pub word : ℕ → Name → Word
word at n = record { at = at; kind = Simple; bytes = n }

-- a text of a sort
pub sorted_read : (s : Signature) (t : Tree) (u : Term) (r : Sort) → reading proof s [] t ≡ Ok (plain_reading u) → sort_of u ≡ r → reading_of_sort proof s [] r t ≡ Ok (plain_reading u)
unfolding require ◌>>=◌
sorted_read s t u r e is =
    joined (reading proof s [] t) _ (plain_reading u) (plain_reading u) e
    (ap (λ x. require (same_sort r x) (offset_of t) WrongSort >>= λ fits. Ok (plain_reading u)) is ∙ ap (λ b. require b (offset_of t) WrongSort >>= λ fits. Ok (plain_reading u)) (same_sort_itself r))

-- the keywords of a step: a rule, and perhaps premises and arguments
abbrev pub keywords : ℕ → ℕ → Name → Trees → Trees
keywords g i r rest = more (atom g Keyword (codes "rule")) (more (atom i Simple r) rest)

abbrev pub premises_part : ℕ → ℕ → Trees → ℕ → Trees → Trees
premises_part j l ps m rest = more (atom j Keyword (codes "premises")) (more (list l ps m) rest)

abbrev pub arguments_part : ℕ → ℕ → Trees → ℕ → Trees
arguments_part j l ts m = more (atom j Keyword (codes "args")) (more (list l ts m) none)

-- a step before its keywords
abbrev pub step_front : ℕ → ℕ → Name → ℕ → ℕ → Trees → ℕ → Trees → Trees
step_front b c n d e ls f rest = more (atom b Simple (codes "step")) (more (atom c Simple n) (more (list d (more (atom e Simple (codes "cl")) ls) f) rest))

-- the parts of a step
abbrev pub parts : ℕ → Name → Trees → ℕ → Name → Trees → Trees → StepParts
parts c n ls i r ps given = record { name = word c n; literals = ls; rule = word i r; premises = ps; arguments = given }

pub bare_step : (b c d e f g i : ℕ) (n : Name) (ls : Trees) (r : Name)
    → shape_of (step_front b c n d e ls f (keywords g i r none)) ≡ Some (steps (parts c n ls i r none none))
unfolding shape_of step_shape keywords_in
bare_step b c d e f g i n ls r = refl

pub given_step : (b c d e f g i j l m : ℕ) (n : Name) (ls : Trees) (r : Name) (ts : Trees)
    → shape_of (step_front b c n d e ls f (keywords g i r (arguments_part j l ts m))) ≡ Some (steps (parts c n ls i r none ts))
unfolding shape_of step_shape keywords_in
given_step b c d e f g i j l m n ls r ts = refl

pub full_step : (b c d e f g i j l m : ℕ) (n : Name) (ls : Trees) (r : Name) (ps : Trees) → are_symbols ps ≡ true
    → shape_of (step_front b c n d e ls f (keywords g i r (premises_part j l ps m none))) ≡ Some (steps (parts c n ls i r ps none))
unfolding shape_of step_shape keywords_in
full_step b c d e f g i j l m n ls r ps h = rw h refl

pub both_step : (b c d e f g i j l m o p q : ℕ) (n : Name) (ls : Trees) (r : Name) (ps ts : Trees) → are_symbols ps ≡ true
    → shape_of (step_front b c n d e ls f (keywords g i r (premises_part j l ps m (arguments_part o p ts q)))) ≡ Some (steps (parts c n ls i r ps ts))
unfolding shape_of step_shape keywords_in
both_step b c d e f g i j l m o p q n ls r ps ts h = rw h refl

-- A step by its parts, as it is read.
pub record ReadsStep (limit : Option ℕ) (k : Known) (at : ℕ) (p : StepParts) (s : Step) : Type 0 where
  pub place : s.at ≡ at
  pub name : s.name ≡ p.name.bytes
  pub arguments : s.arguments ≡ p.arguments
  pub fresh : among (entry_names k.entries) p.name.bytes ≡ false
  pub literals : literals_in k.scope p.literals ≡ Ok (record { made = []; terms = s.clause })
  pub fits : room limit at k.scope s.clause ≡ Ok tt
  pub named : rule_named p.rule.bytes ≡ Some s.rule
  pub premises : premises_of k p.premises ≡ Ok s.premises

-- a step by its shape
pub step_read : (limit : Option ℕ) (k : Known) (at end : ℕ) (ts : Trees) (p : StepParts) (s : Step) → shape_of ts ≡ Some (steps p) → ReadsStep limit k at p s → command_of limit k (list at ts end) ≡ Ok (record { made = []; statement = stepped s })
unfolding command_of read_shape in_proof roomy_literals ◌>>=◌
step_read limit k at end ts p s shape r =
    let read : Readings = record { made = []; terms = s.clause } in
    let out : Command = record { made = []; statement = stepped (record { at = at; name = p.name.bytes; clause = s.clause; rule = s.rule; premises = s.premises; arguments = p.arguments }) } in
    let roomy : roomy_literals limit at k.scope p.literals ≡ Ok read =
    joined (literals_in k.scope p.literals) _ read read r.literals
    (joined (room limit at (k.scope ++ []) s.clause) _ tt read (ap (λ x. room limit at x s.clause) (append-nil k.scope) ∙ r.fits) refl) in
    ap (λ o. shaped at o >>= λ x. read_shape limit k at x) shape
    ∙ joined (fresh_name k p.name) _ p.name.bytes out (fresh_read k p.name r.fresh)
    (joined (in_proof (named_in_all p.literals) (roomy_literals limit at k.scope p.literals)) _ read out (ap (in_proof (named_in_all p.literals)) roomy)
    (joined (rule_at p.rule.at (rule_named p.rule.bytes)) _ s.rule out (ap (rule_at p.rule.at) r.named)
    (joined (premises_of k p.premises) _ s.premises out r.premises refl)))
    ∙ (λ i. Ok (record { made = []; statement = stepped (record { at = sym r.place i; name = sym r.name i; clause = s.clause; rule = s.rule; premises = s.premises; arguments = sym r.arguments i }) }))

pub assume_read : (limit : Option ℕ) (k : Known) (at b c end : ℕ) (n : Name) (t : Tree) (u : Term)
    → among (entry_names k.entries) n ≡ false → reading_of_sort proof k.scope [] Truth t ≡ Ok (plain_reading u) → room limit at k.scope (u ∷ []) ≡ Ok tt
    → command_of limit k (list at (more (atom b Simple (codes "assume")) (more (atom c Simple n) (more t none))) end) ≡ Ok (record { made = []; statement = assumed (offset_of t) n u })
unfolding command_of shape_of assume_shape read_shape in_proof roomy_formula ◌>>=◌
assume_read limit k at b c end n t u fresh read fits =
    let out : Command = record { made = []; statement = assumed (offset_of t) n u } in
    let roomy : roomy_formula limit at k.scope t ≡ Ok (plain_reading u) =
    joined (reading_of_sort proof k.scope [] Truth t) _ (plain_reading u) (plain_reading u) read
    (joined (room limit at (k.scope ++ []) (u ∷ [])) _ tt (plain_reading u) (ap (λ x. room limit at x (u ∷ [])) (append-nil k.scope) ∙ fits) refl) in
    joined (fresh_name k (word c n)) _ n out (fresh_read k (word c n) fresh)
    (joined (in_proof (named_in t) (roomy_formula limit at k.scope t)) _ (plain_reading u) out (ap (in_proof (named_in t)) roomy) refl)

-- a definition without parameters
abbrev pub defining : Name → Sort → Tree → Term → Definition
defining n r t u = record { name = n; parameters = []; result = r; body = t; term = u }

-- A definition, as it is read.
pub record ReadsDefinition (limit : Option ℕ) (k : Known) (at : ℕ) (d : Definition) (sort : Tree) : Type 0 where
  pub new : is_function k.scope d.name ≡ false
  pub sort_read : sort_in k.scope sort ≡ Ok d.result
  pub read : reading (record proof { own = Some d.name }) k.scope [] d.body ≡ Ok (plain_reading d.term)
  pub sort_is : sort_of d.term ≡ d.result
  pub fits : room limit at (k.scope ++ definition d ∷ []) (d.term ∷ []) ≡ Ok tt

pub define_read : (limit : Option ℕ) (k : Known) (at b c e f end : ℕ) (n : Name) (r : Sort) (sort t : Tree) (u : Term)
    → ReadsDefinition limit k at (defining n r t u) sort
    → command_of limit k (list at (more (atom b word_kind (codes "define-fun")) (more (atom c Simple n) (more (list e none f) (more sort (more t none))))) end) ≡ Ok (record { made = defining n r t u ∷ []; statement = nothing at })
unfolding command_of shape_of define_fun first_name read_shape in_proof roomy_definitions definitions_in parameters_in require ◌>>=◌
define_read limit k at b c e f end n r sort t u h =
    let d = defining n r t u in
    let out : Command = record { made = d ∷ []; statement = nothing at } in
    let p : definitions.Parts = record { name = word c n; parameters = none; result = sort; body = t } in
    let named : new_name proof (is_function k.scope) (word c n) ≡ Ok n = ap (λ b. require (not b) c Twice >>= λ x. Ok n) h.new in
    let body : reading_of_sort (record proof { own = Some n }) k.scope [] r t ≡ Ok (plain_reading u) =
    joined (reading (record proof { own = Some n }) k.scope [] t) _ (plain_reading u) (plain_reading u) h.read
    (ap (λ x. require (same_sort r x) (offset_of t) WrongSort >>= λ fits. Ok (plain_reading u)) h.sort_is ∙ ap (λ b. require b (offset_of t) WrongSort >>= λ fits. Ok (plain_reading u)) (same_sort_itself r)) in
    let made : definitions_in proof k.scope p ≡ Ok (d ∷ []) =
    joined (new_name proof (is_function k.scope) (word c n)) _ n (d ∷ []) named
    (joined (sort_in k.scope sort) _ r (d ∷ []) h.sort_read
    (joined (reading_of_sort (record proof { own = Some n }) k.scope [] r t) _ (plain_reading u) (d ∷ []) body refl)) in
    let roomy : roomy_definitions limit at k.scope p ≡ Ok (d ∷ []) =
    joined (definitions_in proof k.scope p) _ (d ∷ []) (d ∷ []) made
    (joined (room limit at (with_definitions k.scope (d ∷ [])) (u ∷ [])) _ tt (d ∷ []) h.fits refl) in
    joined (in_proof (word c n ∷ named_in t) (roomy_definitions limit at k.scope p)) _ (d ∷ []) out (ap (in_proof (word c n ∷ named_in t)) roomy) refl
