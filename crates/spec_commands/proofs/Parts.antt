-- The parts of a command is in its text.
use Rattle.std.proofs.Common.{ℕ, Bool, true, false, Option}
use Rattle.std.specs.Prelude.{Some, None, codes}
use Rattle.std.specs.Str.{bytes_eq}
use Rattle.spec_text.specs.Shapes.{◌>>=◌, passes, first_word, first_list, only_tree, no_tree, is_keyword}
use Rattle.spec_text.specs.Trees.{Tree, Trees, atom, list, none, more}
use Rattle.spec_text.specs.Offsets.{AllOffsets, AllOffsetsOf}
use Rattle.spec_text.proofs.ShapeLaws.{Holds, holds_in_turn, tree_is_within, PrefixWithin, word_is_within}
use Rattle.spec_sorts.specs.Forms.{is_name, are_named}
use Rattle.spec_reading.proofs.Offsets.{DefinitionWithin}
use Rattle.spec_commands.specs.Commands.{Command, SetLogic, SetInfo, DeclareSort, DefineSort, DeclareFun, DefineFun, Assert, Push, Pop, CheckSat, CheckSatAssuming, Verb, sets_logic, sets_option, sets_info, declares_sort, defines_sort, declares_const, declares_fun, defines_fun, asserts, pushes, pops, checks, checks_assuming, resets_assertions, resets, echoes, exits, is_numeral, is_string, one_at_most, first_name, first_tree, set_logic, set_option, set_info, declare_sort, define_sort, declare_const, declare_fun, define_fun, assertion, levels_in, push, pop, check_assuming, echo, command_by}

module _ (P : ℕ → Type 0) where
  -- the parts of a command are at offsets with the property
  abbrev pub PartsWithin : Command → Type 0
  PartsWithin (SetLogic x) = P x.at
  PartsWithin (DeclareSort x) = P x.at
  PartsWithin (DefineSort x t) = P x.at × AllOffsets P t
  PartsWithin (DeclareFun x ts t) = P x.at × AllOffsetsOf P ts × AllOffsets P t
  PartsWithin (DefineFun d) = DefinitionWithin P d
  PartsWithin (Assert t) = AllOffsets P t
  PartsWithin (CheckSat place) = P place
  PartsWithin (CheckSatAssuming place ts) = P place × AllOffsetsOf P ts
  PartsWithin c = Unit {0}

  -- what follows a test
  after_test : {A : Type 0} (Q : A → Type 0) (b : Bool) (o : Option A) → Holds Q o → Holds Q (passes b >>= λ _. o)
  after_test Q true o h = h
  after_test Q false o h = tt

  -- what follows no more trees
  after_end : {A : Type 0} (Q : A → Type 0) (ts : Trees) (o : Option A) → Holds Q o → Holds Q (no_tree ts >>= λ _. o)
  after_end Q none o h = h
  after_end Q (more t ts) o h = tt

  -- a list, and what follows it
  list_within : (ts : Trees) → AllOffsetsOf P ts → Holds (λ (x : Trees × Trees). AllOffsetsOf P x.0 × AllOffsetsOf P x.1) (first_list ts)
  list_within none h = tt
  list_within (more (atom at k n) ts) h = tt
  list_within (more (list at us end) ts) h = (h.0.1, h.1)

  -- a tree, and what follows it
  first_within : (ts : Trees) → AllOffsetsOf P ts → Holds (λ (x : Tree × Trees). AllOffsets P x.0 × AllOffsetsOf P x.1) (first_tree ts)
  first_within none h = tt
  first_within (more t ts) h = h

  -- a name, and what follows it
  name_within : (ts : Trees) → AllOffsetsOf P ts → Holds (PrefixWithin P) (first_name ts)
  unfolding first_name
  name_within ts h =
      holds_in_turn (PrefixWithin P) (PrefixWithin P) (first_word ts) _ (word_is_within P ts h) λ x k. after_test (PrefixWithin P) (is_name x.0.kind) _ k

  logic_within : (ts : Trees) → AllOffsetsOf P ts → Holds PartsWithin (set_logic ts)
  unfolding set_logic
  logic_within ts h = holds_in_turn (PrefixWithin P) PartsWithin (first_name ts) _ (name_within ts h) λ x k. after_end PartsWithin x.1 _ k.0

  option_within : (ts : Trees) → AllOffsetsOf P ts → Holds PartsWithin (set_option ts)
  unfolding set_option
  option_within ts h =
      holds_in_turn (PrefixWithin P) PartsWithin (first_word ts) _ (word_is_within P ts h) λ key k.
      after_test PartsWithin (is_keyword key.0.kind) _ (holds_in_turn (AllOffsets P) PartsWithin (only_tree key.1) _ (tree_is_within P key.1 k.1) λ value v. tt)

  info_within : (ts : Trees) → AllOffsetsOf P ts → Holds PartsWithin (set_info ts)
  unfolding set_info
  info_within ts h =
      holds_in_turn (PrefixWithin P) PartsWithin (first_word ts) _ (word_is_within P ts h) λ key k.
      after_test PartsWithin (is_keyword key.0.kind) _ (go key.1)
    where
      go : (us : Trees) → Holds PartsWithin (one_at_most us >>= λ _. Some SetInfo)
      go none = tt
      go (more t us) = after_end PartsWithin us _ tt

  declared_sort_within : (ts : Trees) → AllOffsetsOf P ts → Holds PartsWithin (declare_sort ts)
  unfolding declare_sort
  declared_sort_within ts h =
      holds_in_turn (PrefixWithin P) PartsWithin (first_name ts) _ (name_within ts h) λ x k.
      holds_in_turn (PrefixWithin P) PartsWithin (first_word x.1) _ (word_is_within P x.1 k.1) λ n l.
      after_test PartsWithin (is_numeral n.0.kind) _ (after_test PartsWithin (bytes_eq n.0.bytes (codes "0")) _ (after_end PartsWithin n.1 _ k.0))

  defined_sort_within : (ts : Trees) → AllOffsetsOf P ts → Holds PartsWithin (define_sort ts)
  unfolding define_sort
  defined_sort_within ts h =
      holds_in_turn (PrefixWithin P) PartsWithin (first_name ts) _ (name_within ts h) λ x k.
      holds_in_turn (λ (y : Trees × Trees). AllOffsetsOf P y.0 × AllOffsetsOf P y.1) PartsWithin (first_list x.1) _ (list_within x.1 k.1) λ ps l.
      after_end PartsWithin ps.0 _ (holds_in_turn (AllOffsets P) PartsWithin (only_tree ps.1) _ (tree_is_within P ps.1 l.1) λ sort v. (k.0, v))

  constant_within : (ts : Trees) → AllOffsetsOf P ts → Holds PartsWithin (declare_const ts)
  unfolding declare_const
  constant_within ts h =
      holds_in_turn (PrefixWithin P) PartsWithin (first_name ts) _ (name_within ts h) λ x k.
      holds_in_turn (AllOffsets P) PartsWithin (only_tree x.1) _ (tree_is_within P x.1 k.1) λ sort v. (k.0, tt, v)

  function_within : (ts : Trees) → AllOffsetsOf P ts → Holds PartsWithin (declare_fun ts)
  unfolding declare_fun
  function_within ts h =
      holds_in_turn (PrefixWithin P) PartsWithin (first_name ts) _ (name_within ts h) λ x k.
      holds_in_turn (λ (y : Trees × Trees). AllOffsetsOf P y.0 × AllOffsetsOf P y.1) PartsWithin (first_list x.1) _ (list_within x.1 k.1) λ ps l.
      holds_in_turn (AllOffsets P) PartsWithin (only_tree ps.1) _ (tree_is_within P ps.1 l.1) λ sort v. (k.0, l.0, v)

  definition_within : (ts : Trees) → AllOffsetsOf P ts → Holds PartsWithin (define_fun ts)
  unfolding define_fun
  definition_within ts h =
      holds_in_turn (PrefixWithin P) PartsWithin (first_name ts) _ (name_within ts h) λ x k.
      holds_in_turn (λ (y : Trees × Trees). AllOffsetsOf P y.0 × AllOffsetsOf P y.1) PartsWithin (first_list x.1) _ (list_within x.1 k.1) λ ps l.
      after_test PartsWithin (are_named ps.0) _
      (holds_in_turn (λ (y : Tree × Trees). AllOffsets P y.0 × AllOffsetsOf P y.1) PartsWithin (first_tree ps.1) _ (first_within ps.1 l.1) λ sort v.
      holds_in_turn (AllOffsets P) PartsWithin (only_tree sort.1) _ (tree_is_within P sort.1 v.1) λ body b. (k.0, l.0, v.0, b))

  asserted_within : (ts : Trees) → AllOffsetsOf P ts → Holds PartsWithin (assertion ts)
  unfolding assertion
  asserted_within ts h = holds_in_turn (AllOffsets P) PartsWithin (only_tree ts) _ (tree_is_within P ts h) λ t v. v

  -- a number of levels
  push_within : (ts : Trees) → Holds PartsWithin (push ts)
  unfolding push
  push_within ts = go (levels_in ts)
    where
      go : (o : Option ℕ) → Holds PartsWithin (o >>= λ n. Some (Push n))
      go (Some n) = tt
      go None = tt

  pop_within : (ts : Trees) → Holds PartsWithin (pop ts)
  unfolding pop
  pop_within ts = go (levels_in ts)
    where
      go : (o : Option ℕ) → Holds PartsWithin (o >>= λ n. Some (Pop n))
      go (Some n) = tt
      go None = tt

  assuming_within : (place : ℕ) (ts : Trees) → P place → AllOffsetsOf P ts → Holds PartsWithin (check_assuming place ts)
  unfolding check_assuming
  assuming_within place ts here h =
      holds_in_turn (λ (y : Trees × Trees). AllOffsetsOf P y.0 × AllOffsetsOf P y.1) PartsWithin (first_list ts) _ (list_within ts h) λ ls l.
      after_end PartsWithin ls.1 _ (here, l.0)

  echo_within : (ts : Trees) → AllOffsetsOf P ts → Holds PartsWithin (echo ts)
  unfolding echo
  echo_within ts h =
      holds_in_turn (PrefixWithin P) PartsWithin (first_word ts) _ (word_is_within P ts h) λ s k.
      after_test PartsWithin (is_string s.0.kind) _ (after_end PartsWithin s.1 _ tt)

  pub parts_within : (v : Verb) (place : ℕ) (ts : Trees) → P place → AllOffsetsOf P ts → Holds PartsWithin (command_by v place ts)
  parts_within sets_logic place ts here h = logic_within ts h
  parts_within sets_option place ts here h = option_within ts h
  parts_within sets_info place ts here h = info_within ts h
  parts_within declares_sort place ts here h = declared_sort_within ts h
  parts_within defines_sort place ts here h = defined_sort_within ts h
  parts_within declares_const place ts here h = constant_within ts h
  parts_within declares_fun place ts here h = function_within ts h
  parts_within defines_fun place ts here h = definition_within ts h
  parts_within asserts place ts here h = asserted_within ts h
  parts_within pushes place ts here h = push_within ts
  parts_within pops place ts here h = pop_within ts
  parts_within checks place ts here h = after_end PartsWithin ts _ here
  parts_within checks_assuming place ts here h = assuming_within place ts here h
  parts_within resets_assertions place ts here h = after_end PartsWithin ts _ tt
  parts_within resets place ts here h = after_end PartsWithin ts _ tt
  parts_within echoes place ts here h = echo_within ts h
  parts_within exits place ts here h = after_end PartsWithin ts _ tt
