-- The shape of a command without offsets and bars, and what it rests on.
use Rattle.std.proofs.Common.{◌≡◌, Bool, true, false, ◌&&◌, ◌||◌, List, [], ◌∷◌, ◌++◌, Option, Some, None, cond, codes, refl, sym, ap, ap₂, ◌∙◌}
use Rattle.std.specs.Prelude.{option_map, if◌then◌else◌}
use Rattle.std.specs.Str.{bytes_eq}
use Rattle.spec_text.specs.Bytes.{Name, among}
use Rattle.spec_text.specs.Shapes.{◌>>=◌, Word, passes, first_word, first_list, only_tree, is_symbol, is_word, wanted}
use Rattle.spec_text.specs.Trees.{Tree, Trees, atom, list, none, more}
use Rattle.spec_text.specs.Printed.{without_bars}
use Rattle.spec_reading.specs.Names.{names_bound, without, mentions}
use Rattle.spec_commands.specs.Commands as scripts
use Rattle.spec_commands.specs.Commands.{first_name, first_tree, define_fun, DefineFun}
use Rattle.spec_checking.specs.Commands.{Shape, assumes, steps, defines, Keywords, no_keywords, symbol_in, list_in, are_symbols, symbols_in, is_new, with_rule, with_premises, with_arguments, with_discharged, with_keyword, keywords_in, or_none, assume_shape, step_shape, definition_of, define_shape, is_definition, shape_by, shape_of}
use Rattle.spec_trims.specs.Trims.{steps_made, terms_made, has_premise, uses_step, uses_term, command_shape, shape_rests_on, rests_on, some_rests_on, is_empty_shape, is_empty_step}
use Rattle.spec_trims.proofs.Flat.{flat, flat_all, symbol_flat, keyword_flat, reserved_flat, name_flat, named_flat, flat_word, bound_flat, mentions_flat, any_flat, made_flat, made_in_flat}
use Rattle.spec_trims.proofs.FlatReading.{flat_parts}

-- both steps of two options
steps_of : {A A' B B' : Type 0} (p : A → A') (q : B → B') (o : Option A) (o' : Option A') (f : A → Option B) (f' : A' → Option B')
    → option_map p o ≡ o' → ((x : A) → option_map q (f x) ≡ f' (p x)) → option_map q (o >>= f) ≡ (o' >>= f')
steps_of p q (Some x) o' f f' h g = g x ∙ ap (λ z. z >>= f') h
steps_of p q None o' f f' h g = ap (λ z. z >>= f') h

passes_alike : (b c : Bool) → c ≡ b → option_map (λ x. x) (passes b) ≡ passes c
passes_alike b c e = by b ∙ ap passes (sym e)
  where
    by : (b : Bool) → option_map (λ x. x) (passes b) ≡ passes b
    by true = refl
    by false = refl

-- shapes and keywords without offsets and bars
abbrev pub flat_shape : Shape → Shape
flat_shape (assumes h t) = assumes (flat_word h) (flat t)
flat_shape (steps p) = steps (record { name = flat_word p.name; literals = flat_all p.literals; rule = flat_word p.rule; premises = flat_all p.premises; arguments = flat_all p.arguments })
flat_shape (defines d) = defines (flat_parts d)

abbrev flat_keywords : Keywords → Keywords
flat_keywords p = record {
  rule = option_map flat_word p.rule;
  premises = option_map flat_all p.premises;
  arguments = option_map flat_all p.arguments;
  discharged = option_map flat_all p.discharged;
}

-- parts of trees
abbrev flat_front : Word × Trees → Word × Trees
flat_front x = (flat_word x.0, flat_all x.1)

first_flat : (ts : Trees) → option_map flat_front (first_word ts) ≡ first_word (flat_all ts)
first_flat none = refl
first_flat (more (atom at k n) ts) = refl
first_flat (more (list at us end) ts) = refl

list_flat : (ts : Trees) → option_map (λ (x : Trees × Trees). (flat_all x.0, flat_all x.1)) (first_list ts) ≡ first_list (flat_all ts)
list_flat none = refl
list_flat (more (atom at k n) ts) = refl
list_flat (more (list at us end) ts) = refl

only_flat : (ts : Trees) → option_map flat (only_tree ts) ≡ only_tree (flat_all ts)
only_flat none = refl
only_flat (more t none) = refl
only_flat (more t (more u us)) = refl

tree_flat : (ts : Trees) → option_map (λ (x : Tree × Trees). (flat x.0, flat_all x.1)) (first_tree ts) ≡ first_tree (flat_all ts)
tree_flat none = refl
tree_flat (more t ts) = refl

symbol_in_flat : (t : Tree) → option_map flat_word (symbol_in t) ≡ symbol_in (flat t)
symbol_in_flat (list at ts end) = refl
symbol_in_flat (atom at k n) = by (is_symbol k) ∙ ap (λ b. if b then Some (record { at = 0; kind = without_bars k; bytes = n }) else None) (sym (symbol_flat k))
  where
    by : (b : Bool) → option_map flat_word (if b then Some (record { at = at; kind = k; bytes = n }) else None) ≡ (if b then Some (record { at = 0; kind = without_bars k; bytes = n }) else None)
    by true = refl
    by false = refl

list_in_flat : (t : Tree) → option_map flat_all (list_in t) ≡ list_in (flat t)
list_in_flat (atom at k n) = refl
list_in_flat (list at ts end) = refl

are_symbols_flat : (ts : Trees) → are_symbols (flat_all ts) ≡ are_symbols ts
are_symbols_flat none = refl
are_symbols_flat (more (atom at k n) ts) = ap₂ (λ (a b : Bool). a && b) (symbol_flat k) (are_symbols_flat ts)
are_symbols_flat (more (list at us end) ts) = refl

symbols_in_flat : (t : Tree) → option_map flat_all (symbols_in t) ≡ symbols_in (flat t)
symbols_in_flat t =
    steps_of flat_all flat_all _ _ _ _ (list_in_flat t) λ ts.
    steps_of (λ x. x) flat_all _ _ _ _ (passes_alike _ _ (are_symbols_flat ts)) λ each. refl

new_flat : {A B : Type 0} (f : A → B) (o : Option A) → is_new (option_map f o) ≡ is_new o
new_flat f None = refl
new_flat f (Some x) = refl

-- keywords
rule_flat : (p : Keywords) (t : Tree) → option_map flat_keywords (with_rule p t) ≡ with_rule (flat_keywords p) (flat t)
rule_flat p t =
    steps_of (λ x. x) flat_keywords _ _ _ _ (passes_alike _ _ (new_flat flat_word p.rule)) λ new.
    steps_of flat_word flat_keywords _ _ _ _ (symbol_in_flat t) λ r. refl

premises_flat : (p : Keywords) (t : Tree) → option_map flat_keywords (with_premises p t) ≡ with_premises (flat_keywords p) (flat t)
premises_flat p t =
    steps_of (λ x. x) flat_keywords _ _ _ _ (passes_alike _ _ (new_flat flat_all p.premises)) λ new.
    steps_of flat_all flat_keywords _ _ _ _ (symbols_in_flat t) λ r. refl

arguments_flat : (p : Keywords) (t : Tree) → option_map flat_keywords (with_arguments p t) ≡ with_arguments (flat_keywords p) (flat t)
arguments_flat p t =
    steps_of (λ x. x) flat_keywords _ _ _ _ (passes_alike _ _ (new_flat flat_all p.arguments)) λ new.
    steps_of flat_all flat_keywords _ _ _ _ (list_in_flat t) λ r. refl

discharged_flat : (p : Keywords) (t : Tree) → option_map flat_keywords (with_discharged p t) ≡ with_discharged (flat_keywords p) (flat t)
discharged_flat p t =
    steps_of (λ x. x) flat_keywords _ _ _ _ (passes_alike _ _ (new_flat flat_all p.discharged)) λ new.
    steps_of flat_all flat_keywords _ _ _ _ (symbols_in_flat t) λ r. refl

keyword_by_flat : (p : Keywords) (n : Name) (t : Tree) → option_map flat_keywords (with_keyword p n t) ≡ with_keyword (flat_keywords p) n (flat t)
keyword_by_flat p n t = by (bytes_eq n (codes "rule")) (bytes_eq n (codes "premises")) (bytes_eq n (codes "args")) (bytes_eq n (codes "discharge"))
  where
    by : (a b c d : Bool) → option_map flat_keywords (cond a (with_rule p t) (cond b (with_premises p t) (cond c (with_arguments p t) (cond d (with_discharged p t) None))))
        ≡ cond a (with_rule (flat_keywords p) (flat t)) (cond b (with_premises (flat_keywords p) (flat t)) (cond c (with_arguments (flat_keywords p) (flat t)) (cond d (with_discharged (flat_keywords p) (flat t)) None)))
    by true b c d = rule_flat p t
    by false true c d = premises_flat p t
    by false false true d = arguments_flat p t
    by false false false true = discharged_flat p t
    by false false false false = refl

keywords_flat : (p : Keywords) (ts : Trees) → option_map flat_keywords (keywords_in p ts) ≡ keywords_in (flat_keywords p) (flat_all ts)
unfolding keywords_in
keywords_flat p none = refl
keywords_flat p (more (atom at k n) none) = refl
keywords_flat p (more (list at us end) none) = refl
keywords_flat p (more (list at us end) (more t ts)) = refl
keywords_flat p (more (atom at k n) (more t ts)) =
    steps_of (λ x. x) flat_keywords _ _ _ _ (passes_alike _ _ (keyword_flat k)) λ key.
    steps_of flat_keywords flat_keywords _ _ _ _ (keyword_by_flat p n t) λ q. keywords_flat q ts

or_none_flat : (o : Option Trees) → or_none (option_map flat_all o) ≡ flat_all (or_none o)
or_none_flat None = refl
or_none_flat (Some ts) = refl

-- commands
word_is_flat : (n : Name) (w : Word) → is_word n (flat_word w) ≡ is_word n w
word_is_flat n w = ap (λ b. b && bytes_eq w.bytes n) (symbol_flat w.kind)

wanted_flat : (n : Name) (w : Word) → option_map (λ x. x) (wanted n w) ≡ wanted n (flat_word w)
wanted_flat n w = passes_alike (is_word n w) (is_word n (flat_word w)) (word_is_flat n w)

assume_flat : (ts : Trees) → option_map flat_shape (assume_shape ts) ≡ assume_shape (flat_all ts)
unfolding assume_shape
assume_flat ts =
    steps_of flat_front flat_shape _ _ _ _ (first_flat ts) λ h.
    steps_of (λ x. x) flat_shape _ _ _ _ (passes_alike _ _ (symbol_flat h.0.kind)) λ named.
    steps_of flat flat_shape _ _ _ _ (only_flat h.1) λ t. refl

step_flat : (ts : Trees) → option_map flat_shape (step_shape ts) ≡ step_shape (flat_all ts)
unfolding step_shape
step_flat ts =
    steps_of flat_front flat_shape _ _ _ _ (first_flat ts) λ i.
    steps_of (λ x. x) flat_shape _ _ _ _ (passes_alike _ _ (symbol_flat i.0.kind)) λ named.
    steps_of (λ (x : Trees × Trees). (flat_all x.0, flat_all x.1)) flat_shape _ _ _ _ (list_flat i.1) λ c.
    steps_of flat_front flat_shape _ _ _ _ (first_flat c.0) λ cl.
    steps_of (λ x. x) flat_shape _ _ _ _ (wanted_flat (codes "cl") cl.0) λ is_cl.
    steps_of flat_keywords flat_shape _ _ _ _ (keywords_flat no_keywords c.1) λ p.
    steps_of flat_word flat_shape p.rule (option_map flat_word p.rule)
    (λ r. Some (steps (record { name = i.0; literals = cl.1; rule = r; premises = or_none p.premises; arguments = or_none p.arguments })))
    (λ r. Some (steps (record { name = flat_word i.0; literals = flat_all cl.1; rule = r; premises = or_none (option_map flat_all p.premises); arguments = or_none (option_map flat_all p.arguments) }))) refl λ r.
    ap₂ (λ (x y : Trees). Some (steps (record { name = flat_word i.0; literals = flat_all cl.1; rule = flat_word r; premises = x; arguments = y }))) (sym (or_none_flat p.premises)) (sym (or_none_flat p.arguments))

-- a definition of a script
abbrev flat_command : scripts.Command → scripts.Command
flat_command (DefineFun d) = DefineFun (flat_parts d)
flat_command c = c

definition_flat : (c : scripts.Command) → option_map flat_shape (definition_of c) ≡ definition_of (flat_command c)
definition_flat (DefineFun d) = refl
definition_flat c = refl

name_first_flat : (ts : Trees) → option_map flat_front (first_name ts) ≡ first_name (flat_all ts)
unfolding first_name
name_first_flat ts =
    steps_of flat_front flat_front _ _ _ _ (first_flat ts) λ x.
    steps_of (λ x. x) flat_front _ _ _ _ (passes_alike _ _ (name_flat x.0.kind)) λ named. refl

define_flat : (ts : Trees) → option_map flat_command (define_fun ts) ≡ define_fun (flat_all ts)
unfolding define_fun
define_flat ts =
    steps_of flat_front flat_command _ _ _ _ (name_first_flat ts) λ x.
    steps_of (λ (x : Trees × Trees). (flat_all x.0, flat_all x.1)) flat_command _ _ _ _ (list_flat x.1) λ ps.
    steps_of (λ x. x) flat_command _ _ _ _ (passes_alike _ _ (named_flat ps.0)) λ named.
    steps_of (λ (x : Tree × Trees). (flat x.0, flat_all x.1)) flat_command _ _ _ _ (tree_flat ps.1) λ sort.
    steps_of flat flat_command _ _ _ _ (only_flat sort.1) λ body. refl

by_flat : (x : Word × Trees) → option_map flat_shape (shape_by x) ≡ shape_by (flat_front x)
by_flat x =
    by (is_word (codes "assume") x.0) (is_word (codes "step") x.0) (is_definition x.0)
    ∙ (λ i. cond (sym (word_is_flat (codes "assume") x.0) i) (assume_shape (flat_all x.1)) (cond (sym (word_is_flat (codes "step") x.0) i) (step_shape (flat_all x.1)) (cond (sym (reserved_flat x.0.kind) i && bytes_eq x.0.bytes (codes "define-fun")) (define_shape (flat_all x.1)) None)))
  where
    by : (a b c : Bool) → option_map flat_shape (cond a (assume_shape x.1) (cond b (step_shape x.1) (cond c (define_shape x.1) None))) ≡ cond a (assume_shape (flat_all x.1)) (cond b (step_shape (flat_all x.1)) (cond c (define_shape (flat_all x.1)) None))
    by true b c = assume_flat x.1
    by false true c = step_flat x.1
    by false false true = steps_of flat_command flat_shape _ _ _ _ (define_flat x.1) definition_flat
    by false false false = refl

pub shape_flat : (ts : Trees) → option_map flat_shape (shape_of ts) ≡ shape_of (flat_all ts)
unfolding shape_of
shape_flat ts = steps_of flat_front flat_shape _ _ _ _ (first_flat ts) by_flat

pub command_shape_flat : (t : Tree) → option_map flat_shape (command_shape t) ≡ command_shape (flat t)
command_shape_flat (atom at k n) = refl
command_shape_flat (list at ts end) = shape_flat ts

-- what a command makes and uses
steps_made_flat : (s : Shape) → steps_made (flat_shape s) ≡ steps_made s
steps_made_flat (assumes h t) = refl
steps_made_flat (steps p) = refl
steps_made_flat (defines d) = refl

terms_made_flat : (s : Shape) → terms_made (flat_shape s) ≡ terms_made s
terms_made_flat (assumes h t) = made_flat t
terms_made_flat (steps p) = made_in_flat p.literals
terms_made_flat (defines d) = ap (λ (ns : List Name). ns ++ d.name.bytes ∷ []) (made_flat d.body)

has_premise_flat : (ns : List Name) (ts : Trees) → has_premise ns (flat_all ts) ≡ has_premise ns ts
has_premise_flat ns none = refl
has_premise_flat ns (more (atom at k n) ts) = ap (λ b. among ns n || b) (has_premise_flat ns ts)
has_premise_flat ns (more (list at us end) ts) = has_premise_flat ns ts

uses_step_flat : (ns : List Name) (s : Shape) → uses_step ns (flat_shape s) ≡ uses_step ns s
uses_step_flat ns (assumes h t) = refl
uses_step_flat ns (steps p) = has_premise_flat ns p.premises
uses_step_flat ns (defines d) = refl

uses_term_flat : (ns : List Name) (s : Shape) → uses_term ns (flat_shape s) ≡ uses_term ns s
uses_term_flat ns (assumes h t) = mentions_flat ns t
uses_term_flat ns (steps p) = any_flat ns p.literals
uses_term_flat ns (defines d) = ap (λ ms. mentions (without ns ms) (flat d.body)) (bound_flat d.parameters) ∙ mentions_flat (without ns (names_bound d.parameters)) d.body

shape_rests_flat : (d c : Option Shape) → shape_rests_on (option_map flat_shape d) (option_map flat_shape c) ≡ shape_rests_on d c
shape_rests_flat (Some d) (Some c) =
    ap₂ (λ (a b : Bool). a || b)
    (ap (λ ns. uses_step ns (flat_shape d)) (steps_made_flat c) ∙ uses_step_flat (steps_made c) d)
    (ap (λ ns. uses_term ns (flat_shape d)) (terms_made_flat c) ∙ uses_term_flat (terms_made c) d)
shape_rests_flat (Some d) None = refl
shape_rests_flat None c = refl

rests_flat : (d c : Tree) → rests_on (flat d) (flat c) ≡ rests_on d c
rests_flat d c = ap₂ shape_rests_on (sym (command_shape_flat d)) (sym (command_shape_flat c)) ∙ shape_rests_flat (command_shape d) (command_shape c)

pub some_rests_flat : (ds : Trees) (c : Tree) → some_rests_on (flat_all ds) (flat c) ≡ some_rests_on ds c
some_rests_flat none c = refl
some_rests_flat (more d ds) c = ap₂ (λ (a b : Bool). a || b) (rests_flat d c) (some_rests_flat ds c)

empty_shape_flat : (s : Option Shape) → is_empty_shape (option_map flat_shape s) ≡ is_empty_shape s
empty_shape_flat None = refl
empty_shape_flat (Some (assumes h t)) = refl
empty_shape_flat (Some (defines d)) = refl
empty_shape_flat (Some (steps p)) = by p.literals
  where
    by : (ts : Trees) → is_empty_shape (Some (flat_shape (steps (record p { literals = ts })))) ≡ is_empty_shape (Some (steps (record p { literals = ts })))
    by none = refl
    by (more t us) = refl

pub empty_step_flat : (t : Tree) → is_empty_step (flat t) ≡ is_empty_step t
empty_step_flat t = ap is_empty_shape (sym (command_shape_flat t)) ∙ empty_shape_flat (command_shape t)
