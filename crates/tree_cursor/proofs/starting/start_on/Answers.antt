use Rattle.std.proofs.Common.{sym, subst}
use Rattle.index_page.specs.Search.{Finds}
use Rattle.scan_law.specs.AfterKey.{place_at}
use Rattle.tree_cursor.specs.Starts.{BeginsAt}
use Rattle.tree_cursor.proofs.StartLemmas.{all_long, begins_by_ge, begins_by_g}
use Rattle.tree_cursor.proofs.starting.start_on.Goals as goal
use Rattle.tree_cursor.proofs.starting.start_on.Goals.{then-cursor, else-cursor}

pub returns-after-cursor : goal.returns-after-cursor
returns-after-cursor c =
    let page = c.args.page.now in let key = c.args.cursor.now.key.tuple in
    let long = all_long page key c.is_in_order.ensures c.requires.fields in
    elim c.if-cursor.branch [
      | then-cursor w ↦ subst
          (λ a. BeginsAt page.rows (place_at key a) c.search.result.after) (sym w.if-cursor.true)
          (begins_by_g key page.rows c.search.result long
          (subst (λ m. Finds m key page.rows c.search.result) w.mode-is c.search.ensures))
      | else-cursor w ↦ subst
          (λ a. BeginsAt page.rows (place_at key a) c.search.result.after) (sym w.if-cursor.false)
          (begins_by_ge key page.rows c.search.result long
          (subst (λ m. Finds m key page.rows c.search.result) w.mode-is c.search.ensures))
    ]
