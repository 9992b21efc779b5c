-- The names that the commands of a script leave, and how many they are.
use Rattle.std.proofs.Common.{◌≡◌, ◌≤◌, ℕ, ◌+◌, ◌*◌, Bool, true, false, ◌||◌, cond, All, List, [], ◌∷◌, ◌++◌, length, map, Option, Some, None, refl, sym, ap, ◌∙◌, subst, length-append, arith}
use Rattle.std.specs.Prelude.{Ok, Err, codes}
use Rattle.std.specs.Str.{bytes_eq}
use Rattle.std.proofs.lemmas.Bool.{false≢true, or_parts}
use Rattle.std.proofs.lemmas.List.{length-map}
use Rattle.std.proofs.lemmas.List.Elements.{All-nil, All-cons, All-head, All-tail, All-from_recursion}
use Rattle.std.proofs.lemmas.Slice.Eq.{bytes_eq-Decides}
use Rattle.spec_text.specs.declared.Kind.{Kind}
use Rattle.spec_text.specs.declared.Kind.TheVariants.{Numeral, Decimal, Text, Simple, Quoted, Reserved as word_kind, Keyword}
use Rattle.spec_text.specs.declared.Fault.TheVariants.{BadShape, UnknownCommand, UnknownSort, Reserved, WrongSort}
use Rattle.spec_text.specs.Bytes.{Name, among}
use Rattle.spec_text.proofs.General.{bytes_itself}
use Rattle.spec_text.specs.Lexicon.{simple_symbol, quoted_symbol}
use Rattle.spec_text.specs.Answers.{Answer, refused, require}
use Rattle.spec_text.specs.Shapes.{◌>>=◌, Word, passes, first_word, first_list, only_tree, no_tree, is_symbol, is_reserved, is_keyword}
use Rattle.spec_text.specs.Trees.{Tree, Trees, atom, list, none, more, offset_of}
use Rattle.spec_text.proofs.Tests.{symbol_bytes_in_bars}
use Rattle.spec_text.proofs.Words.{IsWord, HasWords, HaveWords}
use Rattle.spec_text.proofs.AnswerLaws.{answer, went}
use Rattle.spec_text.proofs.ShapeLaws.{Holds, holds_in_turn}
use Rattle.spec_sorts.specs.Terms.{Sort, Truth, Number, Declared, same_sort, sort_of}
use Rattle.spec_sorts.specs.Theory.{look_up}
use Rattle.spec_sorts.specs.Signatures.{Definition, Declaration, of_sort, of_function, declared, Signature, sort_as, is_some, symbols_in, definition}
use Rattle.spec_sorts.specs.Signatures as signatures
use Rattle.spec_sorts.specs.Forms.{is_name, are_named}
use Rattle.spec_reading.specs.Names.{Setting, script, new_name, is_sort, is_function}
use Rattle.spec_reading.specs.Sorts.{sort_found, atom_sort, sort_in, sorts_in}
use Rattle.spec_reading.specs.Reading.{Bound, Reading, reading, reading_of_sort}
use Rattle.spec_reading.specs.Definitions.{Parts, bound_parameters, parameters_in, definitions_in}
use Rattle.spec_reading.proofs.Values.{with_both}
use Rattle.spec_reading.proofs.Sound.{not_taken, unknown}
use Rattle.spec_commands.specs.Commands.{Command, DeclareSort, DefineSort, DeclareFun, DefineFun, Assert, CheckSat, ResetAssertions, Reset, Exit, Verb, sets_logic, sets_option, sets_info, declares_sort, defines_sort, declares_const, declares_fun, defines_fun, asserts, pushes, pops, checks, checks_assuming, resets_assertions, resets, echoes, exits, verbs, is_numeral, one_at_most, first_name, first_tree, set_logic, set_option, set_info, declare_sort, define_sort, declare_const, declare_fun, define_fun, assertion, levels_in, push, pop, check_assuming, echo, alone, command_by, shaped, verb_of, command_as, command_of}
use Rattle.spec_commands.specs.Stack.{Stack, Taken, empty_stack, step}
use Rattle.spec_commands.specs.Checks.{Check, after_command, current_at}
use Rattle.spec_commands.specs.Kept.{AtEachLevel}
use Rattle.spec_commands.proofs.Carried.{Property, each_weaker, each_empty, IsCarried, performed_carried, effect_carried}
use Rattle.spec_models.specs.Values.{IsName}
use Rattle.spec_models.specs.Meaning.{IsSortIn}
use Rattle.spec_proof_texts.specs.ReadBack.{AreScriptNames}
use Rattle.spec_proof_texts.proofs.Weights.{weight, weight_all}
use Rattle.spec_proof_texts.proofs.Made.{IsScriptName, symbols_push, symbols_same, fresh_name, function_name, definition_named, symbol_named, sort_in_more, sort_push_sort, sort_named_new, nothing_named, text_named, text_few}
use Rattle.spec_proof_texts.proofs.Lookups.{extended}

-- a symbol's name can be printed
word_writable : (k : Kind) (n : Name) → IsWord k n → is_symbol k ≡ true → IsName n
word_writable _ _ (_, simple_symbol b bs no_number run simple) e = symbol_bytes_in_bars (b ∷ bs) run
word_writable _ _ (_, quoted_symbol bs run) e = run
word_writable Numeral n w e = absurd (false≢true e)
word_writable Decimal n w e = absurd (false≢true e)
word_writable Text n w e = absurd (false≢true e)
word_writable word_kind n w e = absurd (false≢true e)
word_writable Keyword n w e = absurd (false≢true e)

symbol_kind : (k : Kind) → is_name k ≡ true → is_reserved k ≡ false → is_symbol k ≡ true
symbol_kind Simple e f = refl
symbol_kind Quoted e f = refl
symbol_kind word_kind e f = absurd (false≢true (sym f))
symbol_kind Numeral e f = absurd (false≢true e)
symbol_kind Decimal e f = absurd (false≢true e)
symbol_kind Text e f = absurd (false≢true e)
symbol_kind Keyword e f = absurd (false≢true e)

-- what holds of what follows a step, a test, or an end
in_turn : {A B : Type 0} (R : B → Type 0) (o : Option A) (f : A → Option B) → ((a : A) → Holds R (f a)) → Holds R (o >>= f)
in_turn R None f g = tt
in_turn R (Some a) f g = g a

tested : {B : Type 0} (R : B → Type 0) (b : Bool) (f : Unit {0} → Option B) → (b ≡ true → Holds R (f tt)) → Holds R (passes b >>= f)
tested R true f g = g refl
tested R false f g = tt

-- A word that may be a name, and what follows it, in trees of so many bytes.
record NameFits (size : ℕ) (x : Word × Trees) : Type 0 where
  word : IsWord x.0.kind x.0.bytes
  name : is_name x.0.kind ≡ true
  rest : weight_all x.1 ≤ size

name_fits : (ts : Trees) → HaveWords ts → Holds (NameFits (weight_all ts)) (first_name ts)
unfolding first_name
name_fits none h = tt
name_fits (more (list at us end) ts) h = tt
name_fits (more (atom at k n) ts) h = tested (NameFits (length n + weight_all ts)) (is_name k) _ (λ e. record { word = h.0; name = e; rest = omega arith })

-- a list, or a tree, and what follows it, and an only tree
list_light : (ts : Trees) → Holds (λ (x : Trees × Trees). weight_all x.1 ≤ weight_all ts) (first_list ts)
list_light none = tt
list_light (more (atom at k n) ts) = tt
list_light (more (list at us end) ts) = omega arith

tree_light : (ts : Trees) → Holds (λ (x : Tree × Trees). weight_all x.1 ≤ weight_all ts) (first_tree ts)
tree_light none = tt
tree_light (more t ts) = omega arith

only_light : (ts : Trees) → Holds (λ (t : Tree). weight t ≤ weight_all ts) (only_tree ts)
only_light none = tt
only_light (more t none) = omega arith
only_light (more t (more u us)) = tt

-- a new name as it is written
abbrev IsNewName : Word → Type 0
IsNewName x = IsWord x.kind x.bytes × (is_name x.kind ≡ true)

-- What a command of so many bytes has: a new name is a word of it, and its text has no more bytes.
abbrev Prints : ℕ → Command → Type 0
Prints size (DeclareSort x) = IsNewName x × (5 ≤ size)
Prints size (DefineSort x t) = 5 ≤ size
Prints size (DeclareFun x ts t) = IsNewName x × (11 ≤ size)
Prints size (DefineFun d) = weight d.body + 5 ≤ size
Prints size (Assert t) = weight t ≤ size
Prints size c = Unit {0}

-- the bytes of a command's word that are counted
abbrev least : Verb → ℕ
least declares_sort = 5
least defines_sort = 5
least declares_const = 11
least declares_fun = 11
least defines_fun = 5
least v = 0

logic_prints : (size : ℕ) (us : Trees) → Holds (Prints size) (set_logic us)
unfolding set_logic
logic_prints size us = in_turn (Prints size) (first_name us) _ λ x. in_turn (Prints size) (no_tree x.1) _ λ end. tt

option_prints : (size : ℕ) (us : Trees) → Holds (Prints size) (set_option us)
unfolding set_option
option_prints size us = in_turn (Prints size) (first_word us) _ λ key. tested (Prints size) (is_keyword key.0.kind) _ λ is_key. in_turn (Prints size) (only_tree key.1) _ λ value. tt

info_prints : (size : ℕ) (us : Trees) → Holds (Prints size) (set_info us)
unfolding set_info
info_prints size us = in_turn (Prints size) (first_word us) _ λ key. tested (Prints size) (is_keyword key.0.kind) _ λ is_key. in_turn (Prints size) (one_at_most key.1) _ λ value. tt

sort_prints : (us : Trees) → HaveWords us → Holds (Prints (weight_all us + 5)) (declare_sort us)
unfolding declare_sort
sort_prints us h =
    holds_in_turn (NameFits (weight_all us)) (Prints (weight_all us + 5)) (first_name us) _ (name_fits us h) λ x k.
    in_turn (Prints (weight_all us + 5)) (first_word x.1) _ λ n. tested (Prints (weight_all us + 5)) (is_numeral n.0.kind) _ λ is_number. tested (Prints (weight_all us + 5)) (bytes_eq n.0.bytes (codes "0")) _ λ is_zero. in_turn (Prints (weight_all us + 5)) (no_tree n.1) _ λ end. ((k.word, k.name), omega arith)

defined_sort_prints : (us : Trees) → Holds (Prints (weight_all us + 5)) (define_sort us)
unfolding define_sort
defined_sort_prints us =
    in_turn (Prints (weight_all us + 5)) (first_name us) _ λ x. in_turn (Prints (weight_all us + 5)) (first_list x.1) _ λ ps. in_turn (Prints (weight_all us + 5)) (no_tree ps.0) _ λ none_there. in_turn (Prints (weight_all us + 5)) (only_tree ps.1) _ λ sort. omega arith

constant_prints : (us : Trees) → HaveWords us → Holds (Prints (weight_all us + 11)) (declare_const us)
unfolding declare_const
constant_prints us h =
    holds_in_turn (NameFits (weight_all us)) (Prints (weight_all us + 11)) (first_name us) _ (name_fits us h) λ x k. in_turn (Prints (weight_all us + 11)) (only_tree x.1) _ λ sort. ((k.word, k.name), omega arith)

function_prints : (us : Trees) → HaveWords us → Holds (Prints (weight_all us + 11)) (declare_fun us)
unfolding declare_fun
function_prints us h =
    holds_in_turn (NameFits (weight_all us)) (Prints (weight_all us + 11)) (first_name us) _ (name_fits us h) λ x k. in_turn (Prints (weight_all us + 11)) (first_list x.1) _ λ ps. in_turn (Prints (weight_all us + 11)) (only_tree ps.1) _ λ sort. ((k.word, k.name), omega arith)

definition_prints : (us : Trees) → HaveWords us → Holds (Prints (weight_all us + 5)) (define_fun us)
unfolding define_fun
definition_prints us h =
    holds_in_turn (NameFits (weight_all us)) (Prints (weight_all us + 5)) (first_name us) _ (name_fits us h) λ x k.
    holds_in_turn (λ (y : Trees × Trees). weight_all y.1 ≤ weight_all x.1) (Prints (weight_all us + 5)) (first_list x.1) _ (list_light x.1) λ ps a.
    tested (Prints (weight_all us + 5)) (are_named ps.0) _ λ named.
    holds_in_turn (λ (y : Tree × Trees). weight_all y.1 ≤ weight_all ps.1) (Prints (weight_all us + 5)) (first_tree ps.1) _ (tree_light ps.1) λ sort b.
    holds_in_turn (λ (y : Tree). weight y ≤ weight_all sort.1) (Prints (weight_all us + 5)) (only_tree sort.1) _ (only_light sort.1) λ body c. omega (arith, k.rest, a, b, c)

assertion_prints : (us : Trees) → Holds (Prints (weight_all us)) (assertion us)
unfolding assertion
assertion_prints us = holds_in_turn (λ (t : Tree). weight t ≤ weight_all us) (Prints (weight_all us)) (only_tree us) _ (only_light us) λ t a. a

push_prints : (size : ℕ) (us : Trees) → Holds (Prints size) (push us)
unfolding push
push_prints size us = in_turn (Prints size) (levels_in us) _ λ n. tt

pop_prints : (size : ℕ) (us : Trees) → Holds (Prints size) (pop us)
unfolding pop
pop_prints size us = in_turn (Prints size) (levels_in us) _ λ n. tt

assuming_prints : (size place : ℕ) (us : Trees) → Holds (Prints size) (check_assuming place us)
unfolding check_assuming
assuming_prints size place us = in_turn (Prints size) (first_list us) _ λ ls. in_turn (Prints size) (no_tree ls.1) _ λ end. tt

echo_prints : (size : ℕ) (us : Trees) → Holds (Prints size) (echo us)
unfolding echo
echo_prints size us = in_turn (Prints size) (first_word us) _ λ s. in_turn (Prints size) (passes _) _ λ is_text. in_turn (Prints size) (no_tree s.1) _ λ end. tt

alone_prints : (size : ℕ) (c : Command) (us : Trees) → Prints size c → Holds (Prints size) (alone c us)
alone_prints size c none h = h
alone_prints size c (more t us) h = tt

parts_print : (v : Verb) (place : ℕ) (us : Trees) → HaveWords us → Holds (Prints (weight_all us + least v)) (command_by v place us)
parts_print sets_logic place us h = logic_prints (weight_all us + 0) us
parts_print sets_option place us h = option_prints (weight_all us + 0) us
parts_print sets_info place us h = info_prints (weight_all us + 0) us
parts_print declares_sort place us h = sort_prints us h
parts_print defines_sort place us h = defined_sort_prints us
parts_print declares_const place us h = constant_prints us h
parts_print declares_fun place us h = function_prints us h
parts_print defines_fun place us h = definition_prints us h
parts_print asserts place us h = subst (λ n. Holds (Prints n) (assertion us)) (omega arith) (assertion_prints us)
parts_print pushes place us h = push_prints (weight_all us + 0) us
parts_print pops place us h = pop_prints (weight_all us + 0) us
parts_print checks place us h = alone_prints (weight_all us + 0) (CheckSat place) us tt
parts_print checks_assuming place us h = assuming_prints (weight_all us + 0) place us
parts_print resets_assertions place us h = alone_prints (weight_all us + 0) ResetAssertions us tt
parts_print resets place us h = alone_prints (weight_all us + 0) Reset us tt
parts_print echoes place us h = echo_prints (weight_all us + 0) us
parts_print exits place us h = alone_prints (weight_all us + 0) Exit us tt

-- a command's word has as many bytes
word_long : (es : List (Name × Verb)) → All (λ (e : Name × Verb). least e.1 ≤ length e.0) es → (n : Name) (v : Verb) → look_up es n ≡ Some v → least v ≤ length n
word_long [] h n v e = cc
word_long (x ∷ es) h n v e = go (bytes_eq x.0 n) (bytes_eq-Decides x.0 n).0 e (word_long es (All-tail (λ (e : Name × Verb). least e.1 ≤ length e.0) x es h) n v)
  where
    go : (b : Bool) → (b ≡ true → x.0 ≡ n) → cond b (Some x.1) (look_up es n) ≡ Some v → (look_up es n ≡ Some v → least v ≤ length n) → least v ≤ length n
    go true same e rest =
        let is : x.1 ≡ v = cc in
        subst (λ (m : Name). least v ≤ length m) (same refl) (subst (λ (u : Verb). least u ≤ length x.0) is (All-head (λ (e : Name × Verb). least e.1 ≤ length e.0) x es h))
    go false same e rest = rest e

verbs_long : All (λ (e : Name × Verb). least e.1 ≤ length e.0) verbs
verbs_long = All-from_recursion (λ (e : Name × Verb). least e.1 ≤ length e.0) verbs (omega arith, (omega arith, (omega arith, (omega arith, (omega arith, (omega arith, (omega arith, (omega arith, (omega arith, (omega arith, (omega arith, (omega arith, (omega arith, (omega arith, (omega arith, (omega arith, (omega arith, tt)))))))))))))))))

head_long : (head : Tree) (v : Verb) → verb_of head ≡ Some v → least v ≤ weight head
head_long (list at ts end) v e = cc
head_long (atom at word_kind n) v e = word_long verbs verbs_long n v e
head_long (atom at Numeral n) v e = cc
head_long (atom at Decimal n) v e = cc
head_long (atom at Text n) v e = cc
head_long (atom at Simple n) v e = cc
head_long (atom at Quoted n) v e = cc
head_long (atom at Keyword n) v e = cc

-- of a command that is read
command_prints : (t : Tree) (c : Command) → HasWords t → command_of t ≡ Ok c → (size : ℕ) × (size ≤ weight t) × Prints size c
unfolding command_of
command_prints (atom at k n) c h e = absurd (answer (refused at BadShape) c e)
command_prints (list at none end) c h e = absurd (answer (refused at BadShape) c e)
command_prints (list at (more head us) end) c h e = go (verb_of head) (head_long head) e
  where
    by : (size : ℕ) (o : Option Command) → Holds (Prints size) o → shaped at o ≡ Ok c → Prints size c
    by size (Some d) p e = subst (Prints size) (answer (Ok d) c e) p
    by size None p e = absurd (answer (refused at BadShape) c e)

    go : (o : Option Verb) → ((v : Verb) → o ≡ Some v → least v ≤ weight head) → command_as at (offset_of head) o us ≡ Ok c → (size : ℕ) × (size ≤ weight head + weight_all us) × Prints size c
    go None long e = absurd (answer (refused (offset_of head) UnknownCommand) c e)
    go (Some v) long e = (weight_all us + least v, omega (arith, long v refl), by (weight_all us + least v) (command_by v (offset_of head) us) (parts_print v (offset_of head) us h.1) e)

-- the sort of a text is one of the signature
sort_is : (g : Signature) (t : Tree) (s : Sort) → AreScriptNames g → sort_in g t ≡ Ok s → IsSortIn g s
sort_is g (list at ts end) s h e = absurd (answer (refused at UnknownSort) s e)
sort_is g (atom at k n) s h e = by k e
  where
    named : (a b : Bool) (o : Option Sort) → sort_as g n ≡ o → cond a (Ok Truth) (cond b (Ok Number) (sort_found at o)) ≡ Ok s → IsSortIn g s
    named true b o is e = subst (IsSortIn g) (answer (Ok Truth) s e) tt
    named false true o is e = subst (IsSortIn g) (answer (Ok Number) s e) tt
    named false false None is e = absurd (answer (sort_found at None) s e)
    named false false (Some r) is e = subst (IsSortIn g) (answer (sort_found at (Some r)) s e) (h.sorts n r is)

    by : (k : Kind) → atom_sort g at k n ≡ Ok s → IsSortIn g s
    by Simple e = named (bytes_eq n (codes "Bool")) (bytes_eq n (codes "Real")) (sort_as g n) refl e
    by Quoted e = named (bytes_eq n (codes "Bool")) (bytes_eq n (codes "Real")) (sort_as g n) refl e
    by word_kind e = absurd (answer (refused at Reserved) s e)
    by Numeral e = absurd (answer (refused at BadShape) s e)
    by Decimal e = absurd (answer (refused at BadShape) s e)
    by Text e = absurd (answer (refused at BadShape) s e)
    by Keyword e = absurd (answer (refused at BadShape) s e)

sorts_are : (g : Signature) (ts : Trees) (ss : List Sort) → AreScriptNames g → sorts_in g ts ≡ Ok ss → All (IsSortIn g) ss
unfolding sorts_in
sorts_are g none ss h e = subst (All (IsSortIn g)) (answer (Ok []) ss e) (All-nil (IsSortIn g))
sorts_are g (more t ts) ss h e =
    let a = went _ _ _ e in
    let b = went _ _ _ a.then in
    subst (All (IsSortIn g)) (answer (Ok (a.first ∷ b.first)) ss b.then) (All-cons (IsSortIn g) a.first b.first (sort_is g t a.first h a.was) (sorts_are g ts b.first h b.was))

-- What is declared after commands of so many bytes.
pub record IsNamed (size : ℕ) (g : Signature) : Type 0 where
  pub names : AreScriptNames g
  pub few : 5 * length g ≤ size
  -- a symbol takes a longer keyword than other names
  pub symbols : 11 * length (symbols_in g) ≤ size

-- and so it is up to each level
abbrev pub Named : ℕ → Property
Named size g assertions = IsNamed size g

more_named : (size extra : ℕ) (g : Signature) → IsNamed size g → IsNamed (size + extra) g
more_named size extra g h = record { names = h.names; few = omega (arith, h.few); symbols = omega (arith, h.symbols) }

pub each_more_named : (size extra : ℕ) (s : Stack) → AtEachLevel (Named size) s → AtEachLevel (Named (size + extra)) s
each_more_named size extra s h = each_weaker (Named size) (Named (size + extra)) (λ g assertions k. more_named size extra g k) s h

-- a declaration more
one_more : (size extra : ℕ) (g : Signature) (d : Declaration) → 5 ≤ extra → 11 * length (symbols_in (d ∷ [])) ≤ extra → AreScriptNames (g ++ d ∷ []) → IsNamed size g → IsNamed (size + extra) (g ++ d ∷ [])
one_more size extra g d some long names h = record {
  names = names;
  few = omega (arith, h.few, some, length-append g (d ∷ []));
  symbols = omega (arith, h.symbols, long, ap length (symbols_push g d), length-append (symbols_in g) (symbols_in (d ∷ [])));
}

-- definitions more
several_more : (size extra : ℕ) (g : Signature) (ds : List Definition) → 5 * length ds ≤ extra → AreScriptNames (signatures.with_definitions g ds) → IsNamed size g → IsNamed (size + extra) (signatures.with_definitions g ds)
several_more size extra g ds few names h = record {
  names = names;
  few = omega (arith, h.few, few, length-append g (map definition ds), length-map ds definition);
  symbols = omega (arith, h.symbols, ap length (symbols_same g ds));
}

-- the name that a command declares
name_of : (taken : Name → Bool) (x : Word) (n : Name) → IsNewName x → new_name script taken x ≡ Ok n → IsName n
name_of taken x n is e =
    let f = fresh_name script taken x n refl e in
    subst IsName f.0 (word_writable x.kind x.bytes is.0 (symbol_kind x.kind is.1 f.2))

-- a sort that a command declares
declared_sort : (g : Signature) (n : Name) → IsName n → is_sort g n ≡ false → IsSortIn (g ++ of_sort n (Declared n) ∷ []) (Declared n)
declared_sort g n name e =
    let parts = or_parts (among (codes "Bool" ∷ codes "Real" ∷ []) n) (is_some (sort_as g n)) e in
    let two = or_parts (bytes_eq (codes "Bool") n) (bytes_eq (codes "Real") n || false) parts.0 in
    let no_bool : bytes_eq n (codes "Bool") ≡ false = turned (codes "Bool") two.0 in
    let no_real : bytes_eq n (codes "Real") ≡ false = turned (codes "Real") (or_parts (bytes_eq (codes "Real") n) false two.1).0 in
    let found : sort_as (g ++ of_sort n (Declared n) ∷ []) n ≡ Some (Declared n) = sort_push_sort g n (Declared n) n ∙ added (sort_as g n) (bytes_eq n n) parts.1 (bytes_itself n) in
    record { name = name; sort = λ at. (λ i. cond (no_bool i) (Ok Truth) (cond (no_real i) (Ok Number) (sort_found at (found i)))) }
  where
    turned : (m : Name) → bytes_eq m n ≡ false → bytes_eq n m ≡ false
    turned m e = go (bytes_eq n m) (bytes_eq-Decides n m).0 (bytes_eq-Decides m n).1
      where
        go : (b : Bool) → (b ≡ true → n ≡ m) → (m ≡ n → bytes_eq m n ≡ true) → b ≡ false
        go true same back = absurd (false≢true (sym e ∙ back (sym (same refl))))
        go false same back = refl

    added : (o : Option Sort) (b : Bool) → is_some o ≡ false → b ≡ true → extended o b (Declared n) ≡ Some (Declared n)
    added None true e t = refl
    added None false e t = absurd (false≢true t)
    added (Some x) b e t = absurd (false≢true (sym e))

-- the definitions that a body makes, and one more
with_own : (w : Setting) (g : Signature) (b : Bound) (body : Tree) (r : Reading) (d : Definition) (ds : List Definition) → w.kept_names ≡ false → reading w g b body ≡ Ok r → IsScriptName d.name → r.made ++ d ∷ [] ≡ ds → (AreScriptNames g → AreScriptNames (signatures.with_definitions g ds)) × (5 * length ds ≤ weight body + 5)
with_own w g b body r d ds bare read name is = (
  λ h. subst (λ z. AreScriptNames (signatures.with_definitions g z)) is (subst AreScriptNames (sym (with_both g r.made (d ∷ []))) (definition_named (signatures.with_definitions g r.made) d name (text_named w g b body r bare read h))),
  omega (arith, ap length is, length-append r.made (d ∷ []), text_few w g b body r read),
)

-- the definitions that a definition makes
definitions_both : (g : Signature) (q : Parts) (ds : List Definition) → definitions_in script g q ≡ Ok ds → (AreScriptNames g → AreScriptNames (signatures.with_definitions g ds)) × (5 * length ds ≤ weight q.body + 5)
unfolding definitions_in
definitions_both g q ds e =
    let a = went (new_name script (is_function g) q.name) _ ds e in
    let b = went (parameters_in script g [] q.parameters) _ ds a.then in
    let c = went (sort_in g q.result) _ ds b.then in
    let w : Setting = record script { own = Some a.first } in
    let k = went (reading_of_sort w g (bound_parameters 0 b.first) c.first q.body) _ ds c.then in
    let r : Reading = k.first in
    let x = went (reading w g (bound_parameters 0 b.first) q.body) _ r k.was in
    let y = went (require (same_sort c.first (sort_of x.first.term)) (offset_of q.body) WrongSort) _ r x.then in
    let read = subst (λ (z : Reading). reading w g (bound_parameters 0 b.first) q.body ≡ Ok z) (answer (Ok x.first) r y.then) x.was in
    let d : Definition = record { name = a.first; parameters = b.first; result = c.first; body = q.body; term = r.term } in
    with_own w g (bound_parameters 0 b.first) q.body r d ds refl read (function_name script g (is_function g) q.name a.first refl a.was (not_taken script (is_function g) q.name a.first a.was)) (answer (Ok (r.made ++ d ∷ [])) ds k.then)

module _ (limit size extra : ℕ) where
  -- each command adds such names
  command_named : (parts : ℕ) → parts ≤ extra → (c : Command) → Prints parts c → IsCarried limit (Named size) (Named (size + extra)) c
  command_named parts le (DeclareSort x) p = λ g assertions n e h.
      one_more size extra g (of_sort n (Declared n)) (omega (arith, p.1, le)) (omega arith) (sort_named_new g n (Declared n) (declared_sort g n (name_of (is_sort g) x n p.0 e) (not_taken script (is_sort g) x n e)) h.names) h
  command_named parts le (DefineSort x t) p = λ g assertions n sort e f h.
      one_more size extra g (of_sort n sort) (omega (arith, p, le)) (omega arith) (sort_named_new g n sort (sort_in_more g (of_sort n sort ∷ []) sort (sort_is g t sort h.names f)) h.names) h
  command_named parts le (DeclareFun x ts t) p = λ g assertions f e is_parameters is_result h.
      one_more size extra g (of_function (declared f)) (omega (arith, p.1, le)) (omega (arith, p.1, le))
      (symbol_named g f (function_name script g (is_function g) x f.name refl e (not_taken script (is_function g) x f.name e)) (unknown g f.name (not_taken script (is_function g) x f.name e)) (record { name = name_of (is_function g) x f.name p.0 e; parameters = sorts_are g ts f.parameters h.names is_parameters; result = sort_is g t f.result h.names is_result }) h.names) h
  command_named parts le (DefineFun q) p = λ g assertions ds e h.
      several_more size extra g ds (omega (arith, (definitions_both g q ds e).1, p, le)) ((definitions_both g q ds e).0 h.names) h
  command_named parts le (Assert t) p = λ g assertions r read sorted room h.
      several_more size extra g r.made (omega (arith, text_few script g [] t r read, p, le)) (text_named script g [] t r refl read h.names) h
  command_named parts le c p = tt

-- nothing is declared at first
none_named : (size : ℕ) → IsNamed size []
none_named size = record { names = nothing_named; few = omega arith; symbols = omega arith }

pub empty_named : AtEachLevel (Named 0) empty_stack
empty_named = each_empty (Named 0) (none_named 0)

module _ (limit : ℕ) where
  pub step_named : (size : ℕ) (s : Stack) (t : Tree) (d : Taken) → HasWords t → step limit s t ≡ Ok d → AtEachLevel (Named size) s → AtEachLevel (Named (size + weight t)) d.stack
  unfolding step
  step_named size s t d words e h =
      let a = went (command_of t) _ d e in
      let p = command_prints t a.first words a.was in
      performed_carried limit (Named size) (Named (size + weight t)) (λ g assertions k. more_named size (weight t) g k) (λ g front more k. k) (none_named (size + weight t)) (offset_of t) s a.first d (command_named limit size (weight t) p.0 p.1 a.first p.2) a.then h

  -- and so is what is at a check
  pub current_named : (size : ℕ) (s : Stack) (k : ℕ) (ts : Trees) (c : Check) → HaveWords ts → current_at limit s k ts ≡ Some c → AtEachLevel (Named size) s → AtEachLevel (Named (size + weight_all ts)) c.stack
  unfolding current_at
  current_named size s k none c words e h = cc
  current_named size s k (more t ts) c words e h =
      subst (λ n. AtEachLevel (Named n) c.stack) (omega arith)
      (go (step limit s t) (λ d f. step_named size s t d words.0 f h) e (λ next n later named. current_named (size + weight t) next n ts c words.1 later named))
    where
      total : ℕ
      total = size + weight t + weight_all ts

      go : (o : Answer Taken) → ((d : Taken) → o ≡ Ok d → AtEachLevel (Named (size + weight t)) d.stack) → after_command s k o (λ next n. current_at limit next n ts) ≡ Some c
          → ((next : Stack) (n : ℕ) → current_at limit next n ts ≡ Some c → AtEachLevel (Named (size + weight t)) next → AtEachLevel (Named total) c.stack) → AtEachLevel (Named total) c.stack
      go (Ok d) kept e later =
          let now = kept d refl in
          effect_carried (AtEachLevel (Named total)) d.effect d.stack k _ c (each_more_named (size + weight t) (weight_all ts) d.stack now) e (λ n x. later d.stack n x now)
      go (Err f) kept e later = later s k e (each_more_named size (weight t) s h)
