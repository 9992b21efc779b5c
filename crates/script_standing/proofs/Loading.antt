-- A script read command by command, up to a check.
use Rattle.std.proofs.Common.{◌≡◌, ◌-◌, ℕ, zero, suc, List, [], ◌++◌, length, append_assoc, Option, Some, None, refl, sym, ap, ◌∙◌, subst, arith}
use Rattle.std.specs.Prelude.{Ok, Err}
use Rattle.spec_text.specs.declared.Place.{Place}
use Rattle.spec_text.specs.Lexemes.{Lexeme, lexemes, lexemes_from}
use Rattle.spec_text.specs.Trees.{Tree, Trees, none, more, spelled, spelled_all}
use Rattle.spec_text.specs.Faults.{Located}
use Rattle.spec_text.specs.Answers.{Answer}
use Rattle.spec_text.specs.Readings.{AreTrees, StopsAt, EndsTrees, kept, is_long, limited, IsReadUpTo}
use Rattle.spec_text.proofs.Stopping.{stop_of}
use Rattle.spec_commands.specs.Stack.{Assertion, Stack, Effect, check, leave, Taken, empty_stack, step}
use Rattle.spec_commands.specs.Checks.{Check, after_effect, after_command, current_at, term_limit, HasNoCheck}
use Rattle.smt_lexer.specs.declared.Refusal.{Refusal}
use Rattle.smt_lexer.specs.declared.Refused.TheVariants as refusals
use Rattle.smt_sexpr.specs.declared.sexpr.Sexpr.{Sexpr}
use Rattle.smt_sexpr.specs.Items.{tree_of}
use Rattle.smt_sexpr.specs.Limited.{IsStopped}
use Rattle.smt_sexpr.specs.Reads.{ReadsSexpr}
use Rattle.smt_sexpr.proofs.Limits.{stops_in}
use Rattle.term_core.specs.Tables.{TableView}
use Rattle.assertion_stack.specs.declared.assuming.Assumed.{Assumed}
use Rattle.assertion_stack.specs.declared.stack.Effect.{Effect as CodeEffect}
use Rattle.assertion_stack.specs.declared.stack.Effect.TheVariants as effects
use Rattle.assertion_stack.specs.Stacks.{OverTable, EffectMeans, IsStack, Steps}
use Rattle.script_standing.specs.Loads.{IsLoaded}

-- no tree comes first
nothing_first : (xs : List (ℕ × Lexeme)) → AreTrees xs none xs
nothing_first xs = refl

-- one tree that was read, and then others
read_first : (text : List ℕ) (from : Place) (s : Sexpr) (after : Place) → ReadsSexpr text from s after → (us : Trees) (rest : List (ℕ × Lexeme)) → AreTrees (lexemes_from text after.offset) us rest
    → AreTrees (lexemes_from text from.offset) (more (tree_of s) us) rest
read_first text from s after r us rest h =
    r.is.first ∙ ap (λ zs. spelled (tree_of s) ++ zs) h ∙ sym (append_assoc (spelled (tree_of s)) (spelled_all us) rest)

-- A script was read up to an offset: each reading from there on is one of all, and has its check.
pub record Loading (bytes : List ℕ) (k : ℕ) (x : OverTable) (at left : ℕ) : Type 0 where
  -- what is stated
  pub stack : Stack
  -- what the code holds represents it
  pub represents : IsStack term_limit x stack
  -- what comes after
  pub onward : (us : Trees) (rest : List (ℕ × Lexeme)) → AreTrees (lexemes_from bytes at) us rest
      → (ts : Trees) × AreTrees (lexemes 0 0 bytes) ts rest × (current_at term_limit empty_stack k ts ≡ current_at term_limit stack left us)

pub loading_begins : (bytes : List ℕ) (k : ℕ) (x : OverTable) (at : ℕ) → at ≡ 0 → IsStack term_limit x empty_stack → Loading bytes k x at k
loading_begins bytes k x at e h = record { stack = empty_stack; represents = h; onward = λ us rest a. (us, subst (λ n. AreTrees (lexemes_from bytes n) us rest) e a, refl) }

read_whole : (text : List ℕ) (ts : Trees) (rest : List (ℕ × Lexeme)) (stop : Option Located) → AreTrees (lexemes 0 0 (kept text)) ts rest → EndsTrees (length (kept text)) rest stop → IsReadUpTo text ts (limited (is_long text) stop)
read_whole text ts rest stop a s = record { rest = rest; trees = a; stop = stop; stops = s; is = refl }

-- each text is read
abbrev pub EachIsRead : List ℕ → ℕ → Type 0
EachIsRead bytes at = (ts : Trees) × (rest : List (ℕ × Lexeme)) × AreTrees (lexemes_from bytes at) ts rest × StopsAt (length bytes) 0 rest

-- the check that comes, by what a command comes to
module _ (s : Stack) (t : Tree) (vs : Trees) (left : ℕ) where
  taken_is : (d : Taken) (o : Option Check) → step term_limit s t ≡ Ok d → after_effect d.effect d.stack left (λ next n. current_at term_limit next n vs) ≡ o → current_at term_limit s left (more t vs) ≡ o
  unfolding current_at
  taken_is d o e h = ap (λ (a : Answer Taken). after_command s left a (λ next n. current_at term_limit next n vs)) e ∙ h

  refused_is : (f : Located) → step term_limit s t ≡ Err f → current_at term_limit s left (more t vs) ≡ current_at term_limit s left vs
  unfolding current_at
  refused_is f e = ap (λ (a : Answer Taken). after_command s left a (λ next n. current_at term_limit next n vs)) e

nothing_at : (s : Stack) (left : ℕ) → current_at term_limit s left none ≡ None
unfolding current_at
nothing_at s left = refl

after_same : (e f : Effect) (s : Stack) (left : ℕ) (rest : Stack → ℕ → Option Check) → e ≡ f → after_effect f s left rest ≡ after_effect e s left rest
after_same e f s left rest h = ap (λ x. after_effect x s left rest) (sym h)

-- after each command that is answered so, as many checks are to come
abbrev pub GoesOn : TableView → CodeEffect → ℕ → ℕ → Type 0
GoesOn t answer left next = (f : Effect) → EffectMeans t answer f → (s : Stack) (rest : Stack → ℕ → Option Check) → after_effect f s left rest ≡ rest s next

other_check : (place : ℕ) (assumptions : List Assertion) (left next : ℕ) → (left ≡ 1 → ⊥) → next ≡ left - 1 → (s : Stack) (rest : Stack → ℕ → Option Check) → after_effect (check place assumptions) s left rest ≡ rest s next
other_check place assumptions zero next other e s rest = let n : next ≡ 0 = omega (arith, e) in ap (rest s) (sym n)
other_check place assumptions (suc zero) next other e s rest = absurd (other refl)
other_check place assumptions (suc (suc k)) next other e s rest = let n : next ≡ suc k = omega (arith, e) in ap (rest s) (sym n)

-- one check less is to come
pub one_less : (t : TableView) (place : ℕ) (a : Assumed) (left next : ℕ) → (left ≡ 1 → ⊥) → next ≡ left - 1 → GoesOn t (effects.Check place a) left next
one_less t place a left next other e f m s rest = after_same (check place m.0) f s left rest m.1 ∙ other_check place m.0 left next other e s rest

-- the same checks are to come after an effect which is no check
pub no_less : (effect : Effect) (left next : ℕ) → ((s : Stack) (rest : Stack → ℕ → Option Check) → after_effect effect s left rest ≡ rest s left) → next ≡ left → (f : Effect) → effect ≡ f → (s : Stack) (rest : Stack → ℕ → Option Check) → after_effect f s left rest ≡ rest s next
no_less effect left next goes e f m s rest = after_same effect f s left rest m ∙ goes s rest ∙ ap (rest s) (sym e)

module _ (text : List ℕ) (k : ℕ) (x : OverTable) (from : Place) (left : ℕ) (l : Loading (kept text) k x from.offset left) where
  -- the script ends here
  script_ends : (stop : Option Located) → EndsTrees (length (kept text)) (lexemes_from (kept text) from.offset) stop → HasNoCheck term_limit text k
  script_ends stop s =
      let rest = lexemes_from (kept text) from.offset in
      let o = l.onward none rest (nothing_first rest) in
      record { commands = o.0; end = limited (is_long text) stop; read = read_whole text o.0 rest stop o.1 s; none_here = o.2 ∙ nothing_at l.stack left }

  pub script_finishes : lexemes_from (kept text) from.offset ≡ [] → HasNoCheck term_limit text k
  script_finishes h = script_ends None h

  pub script_breaks : (r : Refusal) → IsStopped text 0 (lexemes_from (kept text) from.offset) r → HasNoCheck term_limit text k
  script_breaks r b = script_ends b.stop (stops_in (length (kept text)) (lexemes_from (kept text) from.offset) b.stop b.stops)

  module _ (s : Sexpr) (after : Place) (r : ReadsSexpr (kept text) from s after) where
    -- what comes next, in all
    next_tree : (us : Trees) (rest : List (ℕ × Lexeme)) → AreTrees (lexemes_from (kept text) after.offset) us rest
        → (ts : Trees) × AreTrees (lexemes 0 0 (kept text)) ts rest × (current_at term_limit empty_stack k ts ≡ current_at term_limit l.stack left (more (tree_of s) us))
    next_tree us rest a = l.onward (more (tree_of s) us) rest (read_first (kept text) from s after r us rest a)

    -- what the command comes to
    abbrev pub Stepped : CodeEffect → OverTable → Type 0
    Stepped answer new = Steps term_limit (step term_limit l.stack (tree_of s)) s new (Ok answer)

    -- the check, or the end of the script
    pub check_here : (place : ℕ) (a : Assumed) (new : OverTable) → left ≡ 1 → Stepped (effects.Check place a) new → EachIsRead (kept text) after.offset → IsLoaded text k new a
    check_here place a new one d b =
        let o = next_tree b.0 b.1 b.2 in
        let stop = stop_of (length (kept text)) b.1 b.3 in
        let assumptions : List Assertion = d.2.0 in
        let this : Check = record { stack = d.0.stack; assumptions = assumptions } in
        let here = taken_is l.stack (tree_of s) b.0 left d.0 (Some this) d.1 (after_same (check place assumptions) d.0.effect d.0.stack left _ d.2.1 ∙ ap (λ n. after_effect (check place assumptions) d.0.stack n (λ next m. current_at term_limit next m b.0)) one) in
        record {
          check = this;
          current = record { commands = o.0; end = limited (is_long text) stop.0; read = read_whole text o.0 b.1 stop.0 o.1 stop.1; here = o.2 ∙ here };
          represents = d.3;
          assumed = d.2.2;
          starts = d.2.3;
        }

    pub leaves_here : (new : OverTable) → Stepped effects.Exit new → EachIsRead (kept text) after.offset → HasNoCheck term_limit text k
    leaves_here new d b =
        let o = next_tree b.0 b.1 b.2 in
        let stop = stop_of (length (kept text)) b.1 b.3 in
        let here = taken_is l.stack (tree_of s) b.0 left d.0 None d.1 (after_same leave d.0.effect d.0.stack left _ d.2) in
        record { commands = o.0; end = limited (is_long text) stop.0; read = read_whole text o.0 b.1 stop.0 o.1 stop.1; none_here = o.2 ∙ here }

    -- the script goes on
    pub refused_here : (f : Refusal) (new : OverTable) → new ≡ x → Steps term_limit (step term_limit l.stack (tree_of s)) s new (Err (refusals.Fault f)) → Loading (kept text) k new after.offset left
    refused_here f new same d = record {
      stack = l.stack;
      represents = subst (λ (y : OverTable). IsStack term_limit y l.stack) (sym same) l.represents;
      onward = λ us rest a. let o = next_tree us rest a in (o.0, o.1, o.2 ∙ refused_is l.stack (tree_of s) us left _ d.0);
    }

    pub taken_here : (answer : CodeEffect) (next : ℕ) (new : OverTable) → GoesOn new.table answer left next → Stepped answer new → Loading (kept text) k new after.offset next
    taken_here answer next new goes d = record {
      stack = d.0.stack;
      represents = d.3;
      onward = λ us rest a.
          let o = next_tree us rest a in
          let to : Stack → ℕ → Option Check = λ z n. current_at term_limit z n us in
          (o.0, o.1, o.2 ∙ taken_is l.stack (tree_of s) us left d.0 (current_at term_limit d.0.stack next us) d.1 (goes d.0.effect d.2 d.0.stack to));
    }
