use Rattle.std.proofs.Common.{sym, ap, ◌∙◌}
use Rattle.std.proofs.lemmas.Option.{same_Some}
use Rattle.index_page.specs.Rows.{Row}
use Rattle.index_page.proofs.RowLemmas.{find_stands}
use Rattle.hash_law.specs.Blocks.{folds_of}
use Rattle.hash_upkeep.proofs.hashing.Hashing.node.Goals as goal

pub returns : goal.returns
returns c = λ row there i. let how = c.args.self.now in record {
  fold =
      (c.fold.ensures
      ∙ ap (λ (r : Row). folds_of how.bits how.index how.params r.key)
      (same_Some c.row-row.result.row row (sym c.row-row.ensures.row ∙ there))) i;
  block = how.block;
  place = sym (find_stands c.args.page.now.rows c.args.place row there).place_is i;
}
