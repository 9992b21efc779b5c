-- A new sort is named last, and leaves the symbols.
use Rattle.std.proofs.Common.{[], ◌∷◌, ◌++◌, subst, sym, ap, ◌∙◌}
use Rattle.spec_text.specs.Bytes.{among}
use Rattle.term_core.specs.Symbols.{SymbolsView, symbols_of, AreRanks}
use Rattle.term_core.proofs.NamesApart.{HaveNoTwice-push}
use Rattle.term_core.proofs.TermsExtend.{HasSortIn-more, HaveSortsIn-more}
use Rattle.term_core.proofs.SymbolsNamed.{symbols_more}
use Rattle.term_core.proofs.symbols.Symbols.add_sort.Goals as goal

pub invariant_of-self-2 : goal.invariant_of-self-2
invariant_of-self-2 c =
    let i = c.self.inside in
    subst (λ ns. AreRanks ns i.names i.ranks.items) (sym c.in_ok-add.ensures.added) (record {
      sorts_apart = HaveNoTwice-push i.sorts c.args.name.now c.self.invariant.sorts_apart (ap (λ (v : SymbolsView). among v.sorts c.args.name.now) c.self.view_is ∙ c.requires);
      names_apart = c.self.invariant.names_apart;
      long = c.self.invariant.long;
      each = λ k d lt. let r = c.self.invariant.each k d lt in record {
        parameters = HaveSortsIn-more i.sorts (c.args.name.now ∷ []) _ r.parameters;
        result = HasSortIn-more i.sorts (c.args.name.now ∷ []) _ r.result;
      };
    })

pub returns-clause-added : goal.returns-clause-added
returns-clause-added c =
    let i = c.self.inside in (
      c.in_ok-add.ensures.added ∙ ap (λ (v : SymbolsView). v.sorts ++ c.args.name.now ∷ []) c.self.view_is,
      ap (λ ns. symbols_of ns i.names i.ranks.items) c.in_ok-add.ensures.added
          ∙ symbols_more i.sorts (c.args.name.now ∷ []) i.names i.ranks.items c.self.invariant.each
          ∙ ap (λ (v : SymbolsView). v.symbols) c.self.view_is,
    )
