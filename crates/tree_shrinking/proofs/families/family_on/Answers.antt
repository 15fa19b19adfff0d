use Rattle.std.proofs.Common.{◌≡◌, [], MatchOption, length, Bool, cond, eq-eqb, sym, ap, subst, ◌∙◌}
use Rattle.key_tuple.specs.declared.mode.Mode.TheVariants as mode
use Rattle.key_tuple.specs.Position.{position_cut}
use Rattle.index_page.specs.Picks.{IsPicked, position_mode}
use Rattle.index_page.specs.Search.{Finds}
use Rattle.index_page.proofs.PickLemmas.{spots_pick_rows}
use Rattle.tree_shrinking.proofs.FamilyLemmas.{picks_at, either_place}
use Rattle.tree_shrinking.proofs.families.family_on.Goals as goal

pub returns-clause-picks : goal.returns-clause-picks
returns-clause-picks c =
    let rows = c.args.page.now.rows in let key = c.args.key.now.tuple in
    let spot = c.search-spot.result in let fields = c.args.page.now.head.fields in
    let le : position_mode fields mode.Ge key ≡ mode.Le =
    ap (λ (b : Bool). cond b mode.Le mode.Ge) (eq-eqb (length key) fields c.requires.fields) in
    let finds = subst (λ m. Finds m key rows spot) (sym le) c.search-spot.ensures in
    picks_at (position_cut fields mode.Ge key) rows c.in-Some.place c.family_at.result.child
    (subst
    (λ o. MatchOption o (rows ≡ []) (IsPicked (position_cut fields mode.Ge key) rows))
    (sym (either_place spot.before spot.after) ∙ sym c.or.ensures ∙ c.in-Some.is)
    (spots_pick_rows fields mode.Ge key rows spot finds)) c.family_at.ensures.at
