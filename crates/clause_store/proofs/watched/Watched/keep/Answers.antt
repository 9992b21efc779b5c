-- What stays fits together.
use Rattle.std.proofs.Common.{◌<◌, ◌∙◌, ℕ, List, length, sym, subst}
use Rattle.std.specs.Prelude.{All, Option}
use Rattle.clause_store.proofs.Stored.{clause_count}
use Rattle.clause_store.proofs.Kept.{index_within, keeps_entries, watched_kept}
use Rattle.clause_store.proofs.watched.Watched.keep.Goals as goal

pub keep-requires : goal.keep-requires
keep-requires c =
    let w = c.args.self.now in
    record {
      below = subst (λ (ns : List (Option ℕ)). All (All (λ n. n < length ns)) w.index) (sym c.requires.numbers)
          (index_within c.args.kept.now w.pairs.items w.index (c.requires.count ∙ sym (c.requires.watched.pairs_by.paired ∙ clause_count w.entries.items)) c.requires.watched.index_by);
    }

pub returns-clause-entries : goal.returns-clause-entries
returns-clause-entries c = keeps_entries c.args.kept.now c.args.self.now.entries.items c.set_steps.new.entries.items _ c.set_steps.ensures.clauses c.set_steps.ensures.steps c.choose.ensures

pub returns-clause-watched : goal.returns-clause-watched
returns-clause-watched c = watched_kept c.args.kept.now c.args.numbers.now c.args.self.now _ c.requires.watched c.requires.count c.requires.numbers
    (keeps_entries c.args.kept.now c.args.self.now.entries.items c.set_steps.new.entries.items _ c.set_steps.ensures.clauses c.set_steps.ensures.steps c.choose.ensures) c.choose-2.ensures c.keep.ensures
