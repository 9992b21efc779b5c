-- Trees without offsets and bars: what their forms are, which names occur in them, and which they make.
use Rattle.std.proofs.Common.{◌≡◌, ℕ, Bool, true, false, not, ◌&&◌, ◌||◌, List, [], ◌∷◌, ◌++◌, map, cond, codes, refl, ap, ap₂, ◌∙◌}
use Rattle.std.specs.Str.{bytes_eq}
use Rattle.spec_text.specs.declared.Kind.{Kind}
use Rattle.spec_text.specs.declared.Kind.TheVariants.{Numeral, Decimal, Text, Simple, Quoted, Reserved as word_kind, Keyword}
use Rattle.spec_text.specs.Bytes.{Name, among}
use Rattle.spec_text.specs.Shapes.{Word, is_symbol, is_keyword, is_reserved}
use Rattle.spec_text.specs.Trees.{Tree, Trees, atom, list, none, more}
use Rattle.spec_text.specs.Printed.{without_bars, SameTree, SameTrees}
use Rattle.spec_sorts.specs.Forms.{Form, malformed, reserved, applies, binds, annotates, is_empty, is_name, are_named, is_let, Next, a_keyword, a_value, a_name, after_keyword, atom_fits, list_fits, are_attributes, is_annotated, named_words, word_form, form}
use Rattle.spec_reading.specs.Names.{is_mentioned, names_bound, without, mentions, any_mentions, first_mentions, let_mentions, binding_mentions}
use Rattle.spec_trims.specs.Trims.{names_of, names_made, names_made_in, let_made, bindings_made, annotated_made}

-- a tree without offsets and bars
abbrev mutual
  pub flat : Tree → Tree
  flat (atom at k n) = atom 0 (without_bars k) n
  flat (list at ts end) = list 0 (flat_all ts) 0

  pub flat_all : Trees → Trees
  flat_all none = none
  flat_all (more t ts) = more (flat t) (flat_all ts)

mutual
  pub same_flat : (t u : Tree) → SameTree t u → flat t ≡ flat u
  same_flat (atom at k n) (atom at' k' n') h = ap₂ (λ (x : Kind) (m : Name). atom 0 x m) h.0 h.1
  same_flat (list at ts end) (list at' us end') h = ap (λ xs. list 0 xs 0) (same_flat_all ts us h)
  same_flat (atom at k n) (list at' us end') h = absurd h
  same_flat (list at ts end) (atom at' k n) h = absurd h

  pub same_flat_all : (ts us : Trees) → SameTrees ts us → flat_all ts ≡ flat_all us
  same_flat_all none none h = refl
  same_flat_all (more t ts) (more u us) h = ap₂ more (same_flat t u h.0) (same_flat_all ts us h.1)
  same_flat_all none (more u us) h = absurd h
  same_flat_all (more t ts) none h = absurd h

-- kinds but for bars
pub symbol_flat : (k : Kind) → is_symbol (without_bars k) ≡ is_symbol k
symbol_flat Numeral = refl
symbol_flat Decimal = refl
symbol_flat Text = refl
symbol_flat Simple = refl
symbol_flat Quoted = refl
symbol_flat word_kind = refl
symbol_flat Keyword = refl

pub keyword_flat : (k : Kind) → is_keyword (without_bars k) ≡ is_keyword k
keyword_flat Numeral = refl
keyword_flat Decimal = refl
keyword_flat Text = refl
keyword_flat Simple = refl
keyword_flat Quoted = refl
keyword_flat word_kind = refl
keyword_flat Keyword = refl

pub reserved_flat : (k : Kind) → is_reserved (without_bars k) ≡ is_reserved k
reserved_flat Numeral = refl
reserved_flat Decimal = refl
reserved_flat Text = refl
reserved_flat Simple = refl
reserved_flat Quoted = refl
reserved_flat word_kind = refl
reserved_flat Keyword = refl

pub name_flat : (k : Kind) → is_name (without_bars k) ≡ is_name k
name_flat k = ap₂ (λ (a b : Bool). a || b) (symbol_flat k) (reserved_flat k)

-- a word, and a form, without offsets and bars
abbrev pub flat_word : Word → Word
flat_word w = record { at = 0; kind = without_bars w.kind; bytes = w.bytes }

abbrev pub flat_form : Form → Form
flat_form malformed = malformed
flat_form (reserved p) = reserved 0
flat_form (applies p n) = applies 0 n
flat_form binds = binds
flat_form annotates = annotates

empty_flat : (ts : Trees) → is_empty (flat_all ts) ≡ is_empty ts
empty_flat none = refl
empty_flat (more t ts) = refl

pub named_flat : (ts : Trees) → are_named (flat_all ts) ≡ are_named ts
named_flat none = refl
named_flat (more (list at (more (atom x k n) (more t none)) end) rest) = ap₂ (λ (a b : Bool). a && b) (name_flat k) (named_flat rest)
named_flat _ = refl

let_flat : (us : Trees) → is_let (flat_all us) ≡ is_let us
let_flat (more (list at bindings end) (more body none)) = ap₂ (λ (a b : Bool). not a && b) (empty_flat bindings) (named_flat bindings)
let_flat _ = refl

fits_flat : (next : Next) (k : Kind) (x y : Bool) → atom_fits next (without_bars k) x y ≡ atom_fits next k x y
fits_flat next Numeral x y = refl
fits_flat next Decimal x y = refl
fits_flat next Text x y = refl
fits_flat next Simple x y = refl
fits_flat a_name Quoted x y = refl
fits_flat a_value Quoted x y = refl
fits_flat a_keyword Quoted x y = refl
fits_flat next word_kind x y = refl
fits_flat next Keyword x y = refl

attributes_flat : (next : Next) (ts : Trees) → are_attributes next (flat_all ts) ≡ are_attributes next ts
attributes_flat next none = refl
attributes_flat next (more (atom at k n) rest) = (λ i. atom_fits next (without_bars k) (attributes_flat (after_keyword n) rest i) (attributes_flat a_keyword rest i)) ∙ fits_flat next k _ _
attributes_flat next (more (list at us end) rest) = ap (list_fits next) (attributes_flat a_keyword rest)

annotated_flat : (us : Trees) → is_annotated (flat_all us) ≡ is_annotated us
annotated_flat none = refl
annotated_flat (more t attributes) = ap₂ (λ (a b : Bool). not a && b) (empty_flat attributes) (attributes_flat a_keyword attributes)

word_flat : (at : ℕ) (n : Name) (us : Trees) → word_form 0 n (flat_all us) ≡ flat_form (word_form at n us)
word_flat at n us =
    (λ i. cond (bytes_eq n (codes "let")) (cond (let_flat us i) binds malformed) (cond (bytes_eq n (codes "!")) (cond (annotated_flat us i) annotates malformed) (reserved 0)))
    ∙ by (bytes_eq n (codes "let")) (is_let us) (bytes_eq n (codes "!")) (is_annotated us)
  where
    by : (a b c d : Bool) → cond a (cond b binds malformed) (cond c (cond d annotates malformed) (reserved 0)) ≡ flat_form (cond a (cond b binds malformed) (cond c (cond d annotates malformed) (reserved at)))
    by true true c d = refl
    by true false c d = refl
    by false b true true = refl
    by false b true false = refl
    by false b false d = refl

pub form_flat : (head : Tree) (us : Trees) → form (flat head) (flat_all us) ≡ flat_form (form head us)
form_flat (atom at k n) none = refl
form_flat (list at ts end) none = refl
form_flat (list at ts end) (more t us) = refl
form_flat (atom at Numeral n) (more t us) = refl
form_flat (atom at Decimal n) (more t us) = refl
form_flat (atom at Text n) (more t us) = refl
form_flat (atom at Simple n) (more t us) = refl
form_flat (atom at Quoted n) (more t us) = refl
form_flat (atom at Keyword n) (more t us) = refl
form_flat (atom at word_kind n) (more t us) = word_flat at n (more t us)

-- the names that `:named` gives
pub words_flat : (next : Next) (ts : Trees) → named_words next (flat_all ts) ≡ map flat_word (named_words next ts)
words_flat next none = refl
words_flat a_name (more (atom at k n) rest) = ap (λ (ws : List Word). record { at = 0; kind = without_bars k; bytes = n } ∷ ws) (words_flat a_keyword rest)
words_flat a_name (more (list at us end) rest) = words_flat a_keyword rest
words_flat a_value (more (atom at Keyword n) rest) = words_flat (after_keyword n) rest
words_flat a_keyword (more (atom at Keyword n) rest) = words_flat (after_keyword n) rest
words_flat next (more t rest) = words_flat a_keyword rest

names_of_flat : (ws : List Word) → names_of (map flat_word ws) ≡ names_of ws
names_of_flat [] = refl
names_of_flat (w ∷ ws) = ap (λ (ns : List Name). w.bytes ∷ ns) (names_of_flat ws)

-- the names that are bound
pub bound_flat : (ts : Trees) → names_bound (flat_all ts) ≡ names_bound ts
bound_flat (more (list at (more (atom x k n) (more t none)) end) rest) = ap (λ (ns : List Name). n ∷ ns) (bound_flat rest)
bound_flat _ = refl

atom_mentioned : (ns : List Name) (k : Kind) (n : Name) → is_mentioned ns (without_bars k) n ≡ is_mentioned ns k n
atom_mentioned ns k n = ap (λ b. b && among ns n) (symbol_flat k)

-- the cases of a list, as `mentions` has them
abbrev mentions_by : List Name → Trees → Form → Bool
mentions_by ns us q = elim q [ applies place n ↦ among ns n || any_mentions ns us | binds ↦ let_mentions ns us | annotates ↦ first_mentions ns us | _ ↦ false ]

-- and as `names_made` has them
abbrev made_by_form : Trees → Form → List Name
made_by_form us q = elim q [ applies place n ↦ names_made_in us | binds ↦ let_made us | annotates ↦ annotated_made us | _ ↦ [] ]

-- the names that occur
mutual
  unfolding mentions any_mentions first_mentions let_mentions binding_mentions

  pub mentions_flat : (ns : List Name) (t : Tree) → mentions ns (flat t) ≡ mentions ns t
  mentions_flat ns (atom at k n) = atom_mentioned ns k n
  mentions_flat ns (list at none end) = refl
  mentions_flat ns (list at (more head us) end) =
      ap (mentions_by ns (flat_all us)) (form_flat head us)
      ∙ go (form head us) (any_flat ns us) (let_mentions_flat ns us) (first_flat ns us)
    where
      go : (q : Form) → any_mentions ns (flat_all us) ≡ any_mentions ns us → let_mentions ns (flat_all us) ≡ let_mentions ns us → first_mentions ns (flat_all us) ≡ first_mentions ns us
          → mentions_by ns (flat_all us) (flat_form q) ≡ mentions_by ns us q
      go malformed x y z = refl
      go (reserved p) x y z = refl
      go (applies p n) x y z = ap (λ b. among ns n || b) x
      go binds x y z = y
      go annotates x y z = z

  pub any_flat : (ns : List Name) (ts : Trees) → any_mentions ns (flat_all ts) ≡ any_mentions ns ts
  any_flat ns none = refl
  any_flat ns (more t ts) = ap₂ (λ (a b : Bool). a || b) (mentions_flat ns t) (any_flat ns ts)

  first_flat : (ns : List Name) (ts : Trees) → first_mentions ns (flat_all ts) ≡ first_mentions ns ts
  first_flat ns none = refl
  first_flat ns (more t ts) = mentions_flat ns t

  let_mentions_flat : (ns : List Name) (ts : Trees) → let_mentions ns (flat_all ts) ≡ let_mentions ns ts
  let_mentions_flat ns (more (list at bindings end) (more body none)) =
      ap₂ (λ (a b : Bool). a || b) (binding_flat ns bindings) (ap (λ ms. mentions (without ns ms) (flat body)) (bound_flat bindings) ∙ mentions_flat (without ns (names_bound bindings)) body)
  let_mentions_flat ns _ = refl

  binding_flat : (ns : List Name) (ts : Trees) → binding_mentions ns (flat_all ts) ≡ binding_mentions ns ts
  binding_flat ns (more (list at (more (atom x k n) (more t none)) end) rest) = ap₂ (λ (a b : Bool). a || b) (mentions_flat ns t) (binding_flat ns rest)
  binding_flat ns _ = refl

-- the names that are made
mutual
  unfolding names_made names_made_in let_made bindings_made annotated_made

  pub made_flat : (t : Tree) → names_made (flat t) ≡ names_made t
  made_flat (atom at k n) = refl
  made_flat (list at none end) = refl
  made_flat (list at (more head us) end) =
      ap (made_by_form (flat_all us)) (form_flat head us)
      ∙ go (form head us) (made_in_flat us) (let_made_flat us) (annotated_made_flat us)
    where
      go : (q : Form) → names_made_in (flat_all us) ≡ names_made_in us → let_made (flat_all us) ≡ let_made us → annotated_made (flat_all us) ≡ annotated_made us
          → made_by_form (flat_all us) (flat_form q) ≡ made_by_form us q
      go malformed x y z = refl
      go (reserved p) x y z = refl
      go (applies p n) x y z = x
      go binds x y z = y
      go annotates x y z = z

  pub made_in_flat : (ts : Trees) → names_made_in (flat_all ts) ≡ names_made_in ts
  made_in_flat none = refl
  made_in_flat (more t ts) = ap₂ (λ (a b : List Name). a ++ b) (made_flat t) (made_in_flat ts)

  let_made_flat : (ts : Trees) → let_made (flat_all ts) ≡ let_made ts
  let_made_flat (more (list at bindings end) (more body none)) = ap₂ (λ (a b : List Name). a ++ b) (bindings_made_flat bindings) (made_flat body)
  let_made_flat _ = refl

  bindings_made_flat : (ts : Trees) → bindings_made (flat_all ts) ≡ bindings_made ts
  bindings_made_flat (more (list at (more (atom x k n) (more t none)) end) rest) = ap₂ (λ (a b : List Name). a ++ b) (made_flat t) (bindings_made_flat rest)
  bindings_made_flat _ = refl

  annotated_made_flat : (ts : Trees) → annotated_made (flat_all ts) ≡ annotated_made ts
  annotated_made_flat none = refl
  annotated_made_flat (more t attributes) = ap₂ (λ (a b : List Name). a ++ b) (made_flat t) (ap names_of (words_flat a_keyword attributes) ∙ names_of_flat (named_words a_keyword attributes))
