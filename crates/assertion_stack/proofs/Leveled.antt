-- Levels that are opened and closed, and what is taken back.
use Rattle.std.proofs.Common.{◌≡◌, ℕ, ◌+◌, ◌-◌, ◌≤◌, ◌<◌, Bool, true, false, [], ◌++◌, replicate, refl, sym, ap, ◌∙◌, subst, arith}
use Rattle.std.specs.Prelude.{Ok, nat_le}
use Rattle.std.proofs.lemmas.Bool.{le-leb, lt-leb}
use Rattle.spec_text.specs.declared.Fault.TheVariants.{Full, PopTooFar}
use Rattle.spec_text.specs.Answers.{◌>>=◌, refused, require}
use Rattle.spec_commands.specs.Commands.{Push, Pop}
use Rattle.spec_commands.specs.Stack.{Stack, did, signature_of, begun, levels_open, with_levels, up_to_level, emptied, level_limit, performed}
use Rattle.spec_commands.proofs.Levels.{up_to_all, assertions_pushed, local_emptied, leveled_emptied}
use Rattle.term_core.specs.Tables.{TableView}
use Rattle.term_core.specs.Uses.{UsesDeclared}
use Rattle.term_reader.specs.Scopes.{IsScope, ScopeMeans}
use Rattle.assertion_stack.specs.declared.stack.Stack.{Stack as CodeStack}
use Rattle.assertion_stack.specs.Assertions.{no_assertions}
use Rattle.assertion_stack.specs.Levels.{Contents, States, AreMarked, mark_of}
use Rattle.assertion_stack.specs.Stacks.{options_meant, over_table, contents, IsStack}
use Rattle.assertion_stack.proofs.Cuts.{marks_begun, marks_opened, none_marked}
use Rattle.assertion_stack.proofs.Stacks.{even_stated, none_stated, begun_stack}

-- opening and closing levels, by their tests
module _ (limit at n : ℕ) (s : Stack) where
  push_by : (b : Bool) → nat_le (levels_open s.levels + n) level_limit ≡ b → performed limit at s (Push n) ≡ (require b at Full >>= λ room. Ok (did (begun (with_levels n s))))
  push_by b e = ap (λ c. require c at Full >>= λ room. Ok (did (begun (with_levels n s)))) e

  pub push_full : (k : ℕ) → k ≡ levels_open s.levels → nat_le (k + n) level_limit ≡ false → performed limit at s (Push n) ≡ refused at Full
  unfolding require ◌>>=◌
  push_full k same e = push_by false (ap (λ m. nat_le (m + n) level_limit) (sym same) ∙ e)

  pub push_opens : (k : ℕ) → k ≡ levels_open s.levels → nat_le (k + n) level_limit ≡ true → performed limit at s (Push n) ≡ Ok (did (begun (with_levels n s)))
  unfolding require ◌>>=◌
  push_opens k same e = push_by true (ap (λ m. nat_le (m + n) level_limit) (sym same) ∙ e)

  pop_by : (b : Bool) → nat_le n (levels_open s.levels) ≡ b → performed limit at s (Pop n) ≡ (require b at PopTooFar >>= λ enough. Ok (did (begun (up_to_level (levels_open s.levels - n) s))))
  pop_by b e = ap (λ c. require c at PopTooFar >>= λ enough. Ok (did (begun (up_to_level (levels_open s.levels - n) s)))) e

  pub pop_far : (k : ℕ) → k ≡ levels_open s.levels → k < n → performed limit at s (Pop n) ≡ refused at PopTooFar
  unfolding require ◌>>=◌
  pop_far k same lt = pop_by false (lt-leb n (levels_open s.levels) (omega (arith, same, lt)))

  pub pop_closes : (k : ℕ) → k ≡ levels_open s.levels → n ≤ k → performed limit at s (Pop n) ≡ Ok (did (begun (up_to_level (k - n) s)))
  unfolding require ◌>>=◌
  pop_closes k same le = pop_by true (le-leb n (levels_open s.levels) (omega (arith, same, le))) ∙ ap (λ m. Ok (did (begun (up_to_level (m - n) s)))) (sym same)

module _ (limit : ℕ) (t : TableView) (x : CodeStack) (s : Stack) (h : IsStack limit (over_table t x) s) where
  -- levels more
  pub opened_stack : (n : ℕ) → IsScope x.scope.sort_names x.scope.sorts x.scope.names x.scope.functions → UsesDeclared t
      → IsStack limit (over_table t (record x { marks = x.marks ++ replicate n (mark_of (contents (over_table t x))); started = true })) (begun (with_levels n s))
  opened_stack n long uses =
      let c : Contents = contents (over_table t x) in record {
        limit_is = h.limit_is;
        states = subst (States c (signature_of s)) (sym (assertions_pushed n s)) h.states;
        marked = marks_opened x.marks c (begun s) (marks_begun x.marks c s h.marked) n (even_stated limit (over_table t x) s h long) uses h.states refl;
        options = h.options;
        started = refl;
      }

  -- no level is closed
  pub same_closed : (k : ℕ) → k ≡ levels_open s.levels → IsStack limit (over_table t (record x { started = true })) (begun (up_to_level k s))
  same_closed k e = subst (λ (y : Stack). IsStack limit (over_table t (record x { started = true })) (begun y)) (sym (up_to_all s k h.marked.leveled (omega (arith, e)))) (begun_stack limit t x s h)

  -- all is taken back but the options, where declarations are not global
  pub emptied_stack : s.options.global_declarations ≡ false → (u : TableView) (y : CodeStack) → ScopeMeans u y.scope [] → u.sorts ≡ [] → u.symbols ≡ [] → y ≡ record x { scope = y.scope; assertions = no_assertions; marks = [] } → IsStack limit (over_table u y) (emptied s)
  emptied_stack off u y scope sorts symbols same =
      let c : Contents = contents (over_table u y) in record {
        limit_is = ap (λ (z : CodeStack). z.limit) same ∙ h.limit_is;
        states = subst (λ g. States c g []) (sym (local_emptied s h.marked.leveled off)) (none_stated c scope sorts symbols (ap (λ (z : CodeStack). z.assertions) same));
        marked = subst (λ ms. AreMarked ms c (emptied s)) (sym (ap (λ (z : CodeStack). z.marks) same)) (none_marked c (emptied s) (leveled_emptied s h.marked.leveled) refl);
        options = ap (λ (z : CodeStack). options_meant z.options) same ∙ h.options;
        started = ap (λ (z : CodeStack). z.started) same ∙ h.started;
      }
