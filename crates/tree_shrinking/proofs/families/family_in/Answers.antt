use Rattle.std.proofs.Common.{◌≡◌, ◌≢◌, [], length, sym, subst}
use Rattle.key_tuple.specs.declared.mode.Mode.TheVariants as mode
use Rattle.key_tuple.specs.Position.{position_cut}
use Rattle.latch_space.specs.Passes.{view}
use Rattle.index_page.specs.Page.{PageRows}
use Rattle.buffer_pool.proofs.CallLemmas.{frame_has}
use Rattle.tree_descent.specs.Descents.{HoldsInner}
use Rattle.tree_descent.specs.Paths.{PicksChild}
use Rattle.tree_shrinking.specs.Families.{TellsFamily}
use Rattle.tree_shrinking.proofs.FamilyLemmas.{held_inner, held_some, held_cut, held_fields}
use Rattle.tree_shrinking.proofs.families.family_in.Goals as goal
use Rattle.tree_shrinking.proofs.families.family_in.Goals.{After-held_page}

-- the page that is read is the one that the pass knows
its_page : (c : After-held_page)
    → (h : HoldsInner (view c.args.pass.now) c.args.block c.args.index mode.Ge c.args.key.now.tuple)
    → c.held_page.result.now ≡ h.page.is.page
its_page c h = c.held_page.ensures h.frame h.page.is.page
    (frame_has c.args.pass.now c.requires.known c.args.block h.frame h.knows) h.page.is.paged

pub held_page-requires-clause-held : goal.held_page-requires-clause-held
held_page-requires-clause-held c = let h = c.requires.held in (
  h.frame,
  h.page.is.page,
  frame_has c.args.pass.now c.requires.known c.args.block h.frame h.knows,
  h.page.is.paged,
)

pub family_on-requires : goal.family_on-requires
family_on-requires c = let h = c.requires.held in
    let key = c.args.key.now.tuple in
    let same = sym (its_page (goal.at.family_on-requires c).After-held_page h) in record {
      inner = subst (λ (r : PageRows). r.head.level ≢ 0) same
          (held_inner h);
      some = subst (λ (r : PageRows). r.rows ≢ []) same
          (held_some h c.fits.ensures);
      fields = subst (λ (r : PageRows). length key ≡ r.head.fields) same
          (held_fields h c.requires.fields);
    }

pub returns-clause-tells : goal.returns-clause-tells
returns-clause-tells c h =
    subst (λ (r : PageRows). TellsFamily r.rows c.family_on.result)
    (its_page (goal.at.returns-clause-tells c).After-held_page h) c.family_on.ensures.tells

pub returns-clause-picks : goal.returns-clause-picks
returns-clause-picks c h = let key = c.args.key.now.tuple in
    subst
    (λ n. PicksChild (position_cut n mode.Ge key) h.page.is.page.rows c.family_on.result.child)
    (held_cut h)
    (subst
    (λ (r : PageRows). PicksChild (position_cut r.head.fields mode.Ge key) r.rows
    c.family_on.result.child) (its_page (goal.at.returns-clause-picks c).After-held_page h)
    c.family_on.ensures.picks)
