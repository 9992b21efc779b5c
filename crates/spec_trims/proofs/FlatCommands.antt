-- Commands are read, and are good, without their offsets and bars.
use Rattle.std.proofs.Common.{◌≡◌, ℕ, Bool, true, false, ◌&&◌, List, [], ◌∷◌, length, nat_le, Option, Some, None, cond, codes, refl, sym, ap, ap₂, ◌∙◌, subst, Contains, Any}
use Rattle.std.specs.Prelude.{Result, Ok, Err, option_map, if◌then◌else◌}
use Rattle.std.specs.Str.{bytes_eq}
use Rattle.std.proofs.lemmas.List.{map-append, length-map}
use Rattle.spec_text.specs.declared.Kind.{Kind as WordKind}
use Rattle.spec_text.specs.declared.Kind.TheVariants as kinds
use Rattle.spec_text.specs.declared.Fault.TheVariants as faults
use Rattle.spec_text.specs.Bytes.{Name, among}
use Rattle.spec_text.specs.Shapes.{Word}
use Rattle.spec_text.specs.Answers.{Answer}
use Rattle.spec_text.specs.Trees.{Tree, Trees, atom, list, none, more, offset_of}
use Rattle.spec_text.specs.Printed.{without_bars, SameTree, SameTrees}
use Rattle.spec_text.proofs.AnswerLaws.{answer, went}
use Rattle.spec_sorts.specs.Terms.{Truth, Term}
use Rattle.spec_sorts.specs.Signatures.{Definition, Signature, with_definitions}
use Rattle.spec_sorts.specs.Subterms.{subterms_of}
use Rattle.spec_sorts.specs.Literals.{Clause}
use Rattle.spec_arithmetic.specs.declared.ArithmeticRule.{ArithmeticRule}
use Rattle.spec_arithmetic.specs.declared.ArithmeticRule.TheVariants as rules
use Rattle.spec_arithmetic.specs.Contradictions.{malformed, la_generic}
use Rattle.spec_arithmetic.specs.Coefficients.{atom_coefficient, opposite_coefficient, quotient_coefficient, coefficient_of, coefficients_of}
use Rattle.spec_arithmetic.specs.ArithmeticRules.{IsArithmetic}
use Rattle.spec_reading.specs.Names.{proof}
use Rattle.spec_reading.specs.Definitions.{Parts}
use Rattle.spec_commands.specs.Stack.{terms_defined}
use Rattle.spec_rules.specs.Rules.{IsBy}
use Rattle.spec_rules.specs.Schemes.{Kind, opens, keeps, resolves, states, turns, equates, calculates, kind_of}
use Rattle.spec_proofs.specs.declared.Rule.{Rule}
use Rattle.spec_proofs.specs.declared.ProofKind.TheVariants.{TwiceName}
use Rattle.spec_proofs.specs.RuleNames.{rule_named}
use Rattle.spec_proofs.specs.Faults.{wrong}
use Rattle.spec_checking.specs.Commands.{NamedClause, Known, Statement, assumed, stepped, nothing, Command, Shape, assumes, steps, defines, shape_of}
use Rattle.spec_checking.specs.Reading.{clause_of, entry_names, fresh_name, named_in, named_in_all, in_proof, room, literals_in, roomy_literals, roomy_formula, roomy_definitions, rule_at, clause_at, premise_of, premises_of, read_shape, shaped, command_of}
use Rattle.spec_checking.specs.Judging.{with_statement, with_command, IsRightAfter, HasEmptyClause}
use Rattle.spec_checking.specs.Good.{commands_in, known_after, AreRight, AreGood}
use Rattle.spec_checking.proofs.Good.{good_end, good_step}
use Rattle.spec_trims.proofs.Flat.{flat, flat_all, same_flat, symbol_flat, flat_word}
use Rattle.spec_trims.proofs.FlatReading.{shown, Alike, in_steps, require_alike, flat_definition, flat_definitions, flat_declaration, flat_signature, with_flat, flat_reading, flat_readings, of_sort_flat, flat_parts, definitions_flat}
use Rattle.spec_trims.proofs.FlatShapes.{flat_shape, shape_flat}

-- what is known, and what is read, without offsets and bars
abbrev pub flat_known : Known → Known
flat_known k = record { scope = flat_signature k.scope; asserted = k.asserted; entries = k.entries }

abbrev pub flat_statement : Statement → Statement
flat_statement (assumed at n t) = assumed 0 n t
flat_statement (stepped s) = stepped (record { at = 0; name = s.name; clause = s.clause; rule = s.rule; premises = s.premises; arguments = flat_all s.arguments })
flat_statement (nothing at) = nothing 0

abbrev pub flat_command : Command → Command
flat_command c = record { made = flat_definitions c.made; statement = flat_statement c.statement }

fresh_flat : (k : Known) (w : Word) → Alike (λ x. x) (fresh_name k w) (fresh_name (flat_known k) (flat_word w))
unfolding fresh_name
fresh_flat k w = by (among (entry_names k.entries) w.bytes)
  where
    by : (b : Bool) → Alike (λ x. x) (cond b (wrong w.at TwiceName) (Ok w.bytes)) (cond b (wrong 0 TwiceName) (Ok w.bytes))
    by true = refl
    by false = refl

shown_in : {A : Type 0} (words : List Word) (a : Answer A) → shown (in_proof words a) ≡ shown a
unfolding in_proof
shown_in words (Ok x) = refl
shown_in words (Err f) = refl

in_flat : {A B : Type 0} (p : A → B) (ws xs : List Word) (a : Answer A) (b : Answer B) → Alike p a b → Alike p (in_proof ws a) (in_proof xs b)
in_flat p ws xs a b h = ap (option_map p) (shown_in ws a) ∙ h ∙ sym (shown_in xs b)

-- there is as much room
room_flat : (limit : Option ℕ) (at : ℕ) (s : Signature) (ts : List Term) → Alike (λ x. x) (room limit at s ts) (room limit 0 (flat_signature s) ts)
room_flat None at s ts = refl
room_flat (Some limit) at s ts = require_alike _ _ at 0 faults.Full (ap (λ n. nat_le n limit && nat_le (length (subterms_of ts)) limit) (length-map s flat_declaration))

room_after : (limit : Option ℕ) (at : ℕ) (s : Signature) (ds : List Definition) (ts : List Term) → Alike (λ x. x) (room limit at (with_definitions s ds) ts) (room limit 0 (with_definitions (flat_signature s) (flat_definitions ds)) ts)
room_after limit at s ds ts = room_flat limit at (with_definitions s ds) ts ∙ ap (λ z. shown (room limit 0 z ts)) (with_flat s ds)

literals_flat : (s : Signature) (ts : Trees) → Alike flat_readings (literals_in s ts) (literals_in (flat_signature s) (flat_all ts))
unfolding literals_in
literals_flat s none = refl
literals_flat s (more t ts) =
    in_steps flat_reading flat_readings _ _ _ _ (of_sort_flat proof s [] Truth t) λ r.
    in_steps flat_readings flat_readings _ _ _ _ (literals_flat (with_definitions s r.made) ts ∙ ap (λ z. shown (literals_in z (flat_all ts))) (with_flat s r.made)) λ rs.
    ap (λ (ds : List Definition). Some (record { made = ds; terms = r.term ∷ rs.terms })) (map-append flat_definition r.made rs.made)

module _ (limit : Option ℕ) (at : ℕ) (s : Signature) where
  roomy_literals_flat : (ts : Trees) → Alike flat_readings (roomy_literals limit at s ts) (roomy_literals limit 0 (flat_signature s) (flat_all ts))
  unfolding roomy_literals
  roomy_literals_flat ts =
      in_steps flat_readings flat_readings _ _ _ _ (literals_flat s ts) λ r.
      in_steps (λ x. x) flat_readings _ _ _ _ (room_after limit at s r.made r.terms) λ fits. refl

  roomy_formula_flat : (t : Tree) → Alike flat_reading (roomy_formula limit at s t) (roomy_formula limit 0 (flat_signature s) (flat t))
  unfolding roomy_formula
  roomy_formula_flat t =
      in_steps flat_reading flat_reading _ _ _ _ (of_sort_flat proof s [] Truth t) λ r.
      in_steps (λ x. x) flat_reading _ _ _ _ (room_after limit at s r.made (r.term ∷ [])) λ fits. refl

  same_defined : (ds : List Definition) → terms_defined (flat_definitions ds) ≡ terms_defined ds
  same_defined [] = refl
  same_defined (d ∷ ds) = ap (λ (ts : List Term). d.term ∷ ts) (same_defined ds)

  roomy_definitions_flat : (d : Parts) → Alike flat_definitions (roomy_definitions limit at s d) (roomy_definitions limit 0 (flat_signature s) (flat_parts d))
  unfolding roomy_definitions
  roomy_definitions_flat d =
      in_steps flat_definitions flat_definitions _ _ _ _ (definitions_flat proof s d) λ ds.
      in_steps (λ x. x) flat_definitions _ _ _ _ (room_after limit at s ds (terms_defined ds) ∙ ap (λ z. shown (room limit 0 (with_definitions (flat_signature s) (flat_definitions ds)) z)) (sym (same_defined ds))) λ fits. refl

rule_at_flat : (at : ℕ) (o : Option Rule) → Alike (λ x. x) (rule_at at o) (rule_at 0 o)
rule_at_flat at (Some r) = refl
rule_at_flat at None = refl

clause_at_flat : (at : ℕ) (o : Option Clause) → Alike (λ x. x) (clause_at at o) (clause_at 0 o)
clause_at_flat at (Some r) = refl
clause_at_flat at None = refl

premise_flat : (k : Known) (t : Tree) → Alike (λ x. x) (premise_of k t) (premise_of (flat_known k) (flat t))
premise_flat k (atom at kind n) = clause_at_flat at (clause_of k.entries n)
premise_flat k (list at ts end) = refl

premises_flat : (k : Known) (ts : Trees) → Alike (λ x. x) (premises_of k ts) (premises_of (flat_known k) (flat_all ts))
unfolding premises_of
premises_flat k none = refl
premises_flat k (more t ts) =
    in_steps (λ x. x) (λ x. x) _ _ _ _ (premise_flat k t) λ c.
    in_steps (λ x. x) (λ x. x) _ _ _ _ (premises_flat k ts) λ cs. refl

offset_flat : (t : Tree) → offset_of (flat t) ≡ 0
offset_flat (atom at k n) = refl
offset_flat (list at ts end) = refl

shape_read_flat : (limit : Option ℕ) (k : Known) (at : ℕ) (s : Shape) → Alike flat_command (read_shape limit k at s) (read_shape limit (flat_known k) 0 (flat_shape s))
unfolding read_shape
shape_read_flat limit k at (assumes h t) =
    in_steps (λ x. x) flat_command _ _ _ _ (fresh_flat k h) λ n.
    in_steps flat_reading flat_command _ _ _ _ (in_flat flat_reading (named_in t) (named_in (flat t)) _ _ (roomy_formula_flat limit at k.scope t)) λ r.
    ap (λ m. Some (record { made = flat_definitions r.made; statement = assumed m n r.term })) (sym (offset_flat t))
shape_read_flat limit k at (steps p) =
    in_steps (λ x. x) flat_command _ _ _ _ (fresh_flat k p.name) λ n.
    in_steps flat_readings flat_command _ _ _ _ (in_flat flat_readings (named_in_all p.literals) (named_in_all (flat_all p.literals)) _ _ (roomy_literals_flat limit at k.scope p.literals)) λ r.
    in_steps (λ x. x) flat_command _ _ _ _ (rule_at_flat p.rule.at (rule_named p.rule.bytes)) λ rule.
    in_steps (λ x. x) flat_command _ _ _ _ (premises_flat k p.premises) λ qs. refl
shape_read_flat limit k at (defines d) =
    in_steps flat_definitions flat_command _ _ _ _ (in_flat flat_definitions (d.name ∷ named_in d.body) (flat_word d.name ∷ named_in (flat d.body)) _ _ (roomy_definitions_flat limit at k.scope d)) λ ds. refl

shaped_flat : (at : ℕ) (o : Option Shape) → Alike flat_shape (shaped at o) (shaped 0 (option_map flat_shape o))
shaped_flat at (Some s) = refl
shaped_flat at None = refl

command_flat : (limit : Option ℕ) (k : Known) (t : Tree) → Alike flat_command (command_of limit k t) (command_of limit (flat_known k) (flat t))
unfolding command_of
command_flat limit k (atom at kind n) = refl
command_flat limit k (list at ts end) =
    in_steps flat_shape flat_command _ _ _ _ (shaped_flat at (shape_of ts) ∙ ap (λ o. shown (shaped 0 o)) (shape_flat ts)) λ s. shape_read_flat limit k at s

-- the numbers that arguments write
atom_number : (k : WordKind) (w : Name) → atom_coefficient (without_bars k) w ≡ atom_coefficient k w
atom_number kinds.Numeral w = refl
atom_number kinds.Decimal w = refl
atom_number kinds.Text w = refl
atom_number kinds.Simple w = refl
atom_number kinds.Quoted w = refl
atom_number kinds.Reserved w = refl
atom_number kinds.Keyword w = refl

number_flat : (t : Tree) → coefficient_of (flat t) ≡ coefficient_of t
unfolding coefficient_of
number_flat (atom at k w) = atom_number k w
number_flat (list at none end) = refl
number_flat (list at (more (list x us e) ts) end) = refl
number_flat (list at (more (atom x k w) none) end) = refl
number_flat (list at (more (atom x k w) (more c none)) end) = (λ i. if symbol_flat k i && bytes_eq w (codes "-") then opposite_coefficient (number_flat c i) else malformed)
number_flat (list at (more (atom x k w) (more c (more d none))) end) = (λ i. if symbol_flat k i && bytes_eq w (codes "/") then quotient_coefficient (number_flat c i) (number_flat d i) else malformed)
number_flat (list at (more (atom x k w) (more c (more d (more t ts)))) end) = refl

numbers_flat : (ts : Trees) → coefficients_of (flat_all ts) ≡ coefficients_of ts
unfolding coefficients_of
numbers_flat none = refl
numbers_flat (more t ts) = ap₂ (λ v vs. v ∷ vs) (number_flat t) (numbers_flat ts)

-- so a step is right by the arguments without them, and the other way round
arithmetic_by : (rule : ArithmeticRule) (ps : List Clause) (xs ys : Trees) (c : Clause) → coefficients_of xs ≡ coefficients_of ys → IsArithmetic rule ps xs c → IsArithmetic rule ps ys c
arithmetic_by rules.LaGeneric [] xs ys c e h = subst (λ ns. la_generic c ns ≡ Ok tt) e h
arithmetic_by rules.LaDisequality [] xs ys c e h = h
arithmetic_by rules.LaTotality [] xs ys c e h = h
arithmetic_by rules.LaGeneric (p ∷ ps) xs ys c e h = h
arithmetic_by rules.LaDisequality (p ∷ ps) xs ys c e h = h
arithmetic_by rules.LaTotality (p ∷ ps) xs ys c e h = h

right_by : (kind : Kind) (ps : List Clause) (xs ys : Trees) (c : Clause) → coefficients_of xs ≡ coefficients_of ys → IsBy kind ps xs c → IsBy kind ps ys c
right_by opens ps xs ys c e h = h
right_by keeps ps xs ys c e h = h
right_by resolves ps xs ys c e h = h
right_by (states s) ps xs ys c e h = h
right_by (turns s) ps xs ys c e h = h
right_by (equates rule) ps xs ys c e h = h
right_by (calculates rule) ps xs ys c e h = arithmetic_by rule ps xs ys c e h

module _ (k u : Known) (e : k.asserted ≡ u.asserted) where
  to_flat : (s : Statement) → IsRightAfter k s → IsRightAfter u (flat_statement s)
  to_flat (assumed at n t) h = subst (λ ts. Contains ts t) e h
  to_flat (stepped s) h = right_by (kind_of s.rule) s.premises s.arguments (flat_all s.arguments) s.clause (sym (numbers_flat s.arguments)) h
  to_flat (nothing at) h = h

  from_flat : (s : Statement) → IsRightAfter k (flat_statement s) → IsRightAfter u s
  from_flat (assumed at n t) h = subst (λ ts. Contains ts t) e h
  from_flat (stepped s) h = right_by (kind_of s.rule) s.premises (flat_all s.arguments) s.arguments s.clause (numbers_flat s.arguments) h
  from_flat (nothing at) h = h

stated_flat : (es : List NamedClause) (s : Statement) → with_statement es (flat_statement s) ≡ with_statement es s
stated_flat es (assumed at n t) = refl
stated_flat es (stepped s) = refl
stated_flat es (nothing at) = refl

after_flat : (k : Known) (c : Command) → flat_known (with_command k c) ≡ with_command (flat_known k) (flat_command c)
after_flat k c = λ i. record { scope = with_flat k.scope c.made i; asserted = k.asserted; entries = sym (stated_flat k.entries c.statement) i }

-- what another text of a command is read as
other_of : {A B E : Type 0} (p : A → B) (a b : Result A E) (x : A) → option_map p (shown a) ≡ option_map p (shown b) → a ≡ Ok x → (y : A) × (b ≡ Ok y) × (p x ≡ p y)
other_of p a (Ok y) x h e = (y, refl, (let both : Some (p x) ≡ Some (p y) = ap (λ z. option_map p (shown z)) (sym e) ∙ h in cc))
other_of p a (Err f) x h e = (let both : Some (p x) ≡ None = ap (λ z. option_map p (shown z)) (sym e) ∙ h in cc)

other_read : (limit : Option ℕ) (k l : Known) (t u : Tree) (c : Command) → flat_known k ≡ flat_known l → SameTree t u → command_of limit k t ≡ Ok c → (d : Command) × (command_of limit l u ≡ Ok d) × (flat_command c ≡ flat_command d)
other_read limit k l t u c e same was = other_of flat_command (command_of limit k t) (command_of limit l u) c
    (command_flat limit k t ∙ (λ i. shown (command_of limit (e i) (same_flat t u same i))) ∙ sym (command_flat limit l u)) was

-- commands that are equal but for offsets and bars are good alike
pub good_alike : (limit : Option ℕ) (k l : Known) (ts us : Trees) (cs : List Command) → flat_known k ≡ flat_known l → SameTrees ts us → commands_in limit k ts ≡ Ok cs → AreRight k cs → HasEmptyClause (known_after k cs) → AreGood limit l us
unfolding commands_in
good_alike limit k l none none cs e same read right empty =
    good_end limit l (subst (λ es. Any (λ (x : NamedClause). x.clause ≡ []) es) (ap (λ (x : Known). x.entries) e) (subst (λ x. HasEmptyClause (known_after k x)) (sym (answer (Ok []) cs read)) empty))
good_alike limit k l (more t ts) (more u us) cs e same read right empty =
    let a = went (command_of limit k t) _ cs read in
    let b = went (commands_in limit (with_command k a.first) ts) _ cs a.then in
    let is : a.first ∷ b.first ≡ cs = answer (Ok (a.first ∷ b.first)) cs b.then in
    let all = subst (AreRight k) (sym is) right in
    let d = other_read limit k l t u a.first e same.0 a.was in
    let here : IsRightAfter (flat_known k) (flat_statement a.first.statement) = to_flat k (flat_known k) refl a.first.statement (all [] a.first b.first refl) in
    let there : IsRightAfter (flat_known k) (flat_statement d.0.statement) = subst (λ (x : Command). IsRightAfter (flat_known k) x.statement) d.2 here in
    let next : flat_known (with_command k a.first) ≡ flat_known (with_command l d.0) = after_flat k a.first ∙ ap₂ with_command e d.2 ∙ sym (after_flat l d.0) in
    good_step limit l u us d.0 d.1 (from_flat (flat_known k) l (ap (λ (x : Known). x.asserted) e) d.0.statement there)
    (good_alike limit (with_command k a.first) (with_command l d.0) ts us b.first next same.1 b.was
    (λ before c after s. all (a.first ∷ before) c after (ap (λ xs. a.first ∷ xs) s)) (subst (λ x. HasEmptyClause (known_after k x)) (sym is) empty))
good_alike limit k l none (more u us) cs e same read right empty = absurd same
good_alike limit k l (more t ts) none cs e same read right empty = absurd same
