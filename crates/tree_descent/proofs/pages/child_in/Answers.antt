use Rattle.std.proofs.Common.{[], ◌≡◌, ℕ, Option, Some, None, is_some, refl, subst, sym, ◌∙◌, MatchOption, if◌then◌else◌}
use Rattle.std.specs.Option.{option_or}
use Rattle.key_tuple.specs.Position.{position_cut}
use Rattle.index_page.specs.declared.head.PageHead.{PageHead}
use Rattle.index_page.specs.Picks.{IsPicked}
use Rattle.index_page.specs.Search.{Finds}
use Rattle.index_page.proofs.PickLemmas.{spots_pick_rows}
use Rattle.tree_descent.proofs.pages.child_in.Goals as goal

-- the place before the spot or, where there is none, the one after it
first_place : (before after : Option ℕ)
    → option_or before after ≡ (if is_some before then before else after)
first_place None after = refl
first_place (Some n) after = refl

pub returns : goal.returns
returns g c = let rows = c.args.page.now.rows in let mode = c.args.mode in
    let tuple = g.T.Fields.fields_of c.args.tuple.now in let spot = c.search-spot.result in
    let fields = c.head.result.now.fields in
    let finds = subst (λ m. Finds m tuple rows spot) c.mode_of_position.ensures
    c.search-spot.ensures in record {
      row = c.row.result.row;
      place = c.in-Some.place;
      there = c.row.ensures.row;
      picked = subst (λ (h : PageHead). IsPicked (position_cut h.fields mode tuple) rows c.in-Some.place)
          c.head.ensures
          (subst (λ o. MatchOption o (rows ≡ []) (IsPicked (position_cut fields mode tuple) rows))
          (sym (first_place spot.before spot.after) ∙ sym c.or.ensures ∙ c.in-Some.is) (spots_pick_rows fields mode tuple rows spot finds));
      child = c.child.ensures;
    }
