use Rattle.std.proofs.Common.{[], ◌∷◌, ◌∙◌, sym, ap, subst, refl, Option, IsSome, ◌≡◌, IfSome}
use Rattle.map_history.specs.Told.{columns_told}
use Rattle.map_history.specs.declared.reply.Told.{Told}
use Rattle.latch_space.specs.Passes.{view}
use Rattle.map_history.specs.Operation.{Seek}
use Rattle.index_page.specs.Page.{PageRows, PlacesDiffer}
use Rattle.index_page.specs.Rows.{Row, Bytes, find_row}
use Rattle.forest_law.specs.declared.objects.Frame.{Frame}
use Rattle.buffer_pool.proofs.CallLemmas.{frame_has}
use Rattle.buffer_pool.proofs.AgainLemmas.{passes_both}
use Rattle.hash_guess.proofs.HitLemmas.{found_at}
use Rattle.engine_law.specs.Says.{columns_by}
use Rattle.index_seeks.specs.SeekSteps.{SaysIf}
use Rattle.engine_law.proofs.KnownLemmas.{held_gave, knows_same, same_page}
use Rattle.tree_neighbours.proofs.HandLemmas.{gave_page, only_same, only_gave, may_leave}
use Rattle.index_seeks.proofs.SeekHitLemmas.{hit_tells}
use Rattle.index_seeks.proofs.seek_call.SeekCall.end_on_hit.Goals as goal

pub page_of-page-requires : goal.page_of-page-requires
page_of-page-requires g c = let held = c.requires.held in let hit = held.hit in (
  hit.is.page,
  ap (λ (f : Frame). f.page)
      (c.frame.ensures hit.frame hit.frame
      (frame_has c.args.pass.now held.only.known c.args.block hit.frame hit.knows))
      ∙ hit.is.paged,
)

pub row-row-requires : goal.row-row-requires
row-row-requires g c = let held = c.requires.held in let hit = held.hit in
    let is = same_page hit.frame c.frame.result.now hit.is.page c.page_of-page.result.now
    (c.frame.ensures hit.frame hit.frame
    (frame_has c.args.pass.now held.only.known c.args.block hit.frame hit.knows))
    hit.is.paged c.page_of-page.ensures in
    let there = found_at hit.is.page.rows hit.checks.left hit.checks.row hit.checks.right
    hit.checks.split
    (subst (λ (z : PageRows). PlacesDiffer z.rows) is c.is_in_order.ensures.places) c.args.place
    hit.checks.place_is in
    subst (λ (o : Option Row). IsSome o)
    (sym (ap (λ (z : PageRows). find_row c.args.place z.rows) is ∙ there)) refl

pub value-requires : goal.value-requires
value-requires g c = let held = c.requires.held in let hit = held.hit in
    let is = same_page hit.frame c.frame.result.now hit.is.page c.page_of-page.result.now
    (c.frame.ensures hit.frame hit.frame
    (frame_has c.args.pass.now held.only.known c.args.block hit.frame hit.knows))
    hit.is.paged c.page_of-page.ensures in
    c.row-row.ensures.level ∙ (ap (λ (z : PageRows). z.head.level) is ∙ hit.is.at_level)

pub tell-requires-clause-can : goal.tell-requires-clause-can
tell-requires-clause-can g c = let held = c.requires.held in let hit = held.hit in
    let call = c.args.self.now in
    let is = same_page hit.frame c.frame.result.now hit.is.page c.page_of-page.result.now
    (c.frame.ensures hit.frame hit.frame
    (frame_has c.args.pass.now held.only.known c.args.block hit.frame hit.knows))
    hit.is.paged c.page_of-page.ensures in
    hit_tells (view c.args.pass.now) call.index call.mode call.tuple.now.fields c.args.block c.args.place
    held.found hit c.row-row.result.row
    (ap (λ (z : PageRows). find_row c.args.place z.rows) (sym is) ∙ c.row-row.ensures.row)
    c.fill.new.self (sym c.fill.ensures.key)
    (c.value.ensures.bytes ∙ ap Bytes (sym c.fill.ensures.value))

pub leave-requires-clause-held : goal.leave-requires-clause-held
leave-requires-clause-held g c = let p = c.args.pass.now in let q = c.tell.new.pass in
    let held = c.requires.held in let hit = held.hit in let b = c.args.block in
    let terms = c.tell.ensures.own.1.1 ∙ sym c.requires.own.1 in
    may_leave q (b ∷ []) b c.args.self.now.index hit.frame
    (only_same p q (b ∷ []) held.only c.tell.ensures.kept terms)
    (knows_same p q b hit.frame c.tell.ensures.kept.held terms hit.knows) hit.is

pub returns-clause-nothing : goal.returns-clause-nothing
returns-clause-nothing g c = let p = c.args.pass.now in let q = c.tell.new.pass in
    let held = c.requires.held in let b = c.args.block in
    let terms = c.tell.ensures.own.1.1 ∙ sym c.requires.own.1 in
    (only_gave q c.leave.new.pass b []
    (only_same p q (b ∷ []) held.only c.tell.ensures.kept terms) c.leave.ensures.gave).count

pub returns-clause-told : goal.returns-clause-told
returns-clause-told g c = let p = c.args.pass.now in let q = c.tell.new.pass in
    let call = c.args.self.now in let held = c.requires.held in let hit = held.hit in
    let b = c.args.block in let terms = c.tell.ensures.own.1.1 ∙ sym c.requires.own.1 in record {
      between = q;
      says = subst (λ o. SaysIf (view p) (view q) call.index (Seek call.mode call.tuple.now.fields) o
          c.fill.new.self) c.in-Some.is c.tell.ensures.did;
      gave = c.leave.ensures.gave;
      held = held_gave p q c.leave.new.pass b c.tell.ensures.kept.held terms c.leave.ensures.gave;
      page = gave_page q c.leave.new.pass b call.index hit.frame
          (knows_same p q b hit.frame c.tell.ensures.kept.held terms hit.knows) hit.is
          c.leave.ensures.gave;
    }

pub returns-clause-own : goal.returns-clause-own
returns-clause-own g c = (
  passes_both c.args.pass.now c.tell.new.pass c.leave.new.pass c.tell.ensures.own.0 c.leave.ensures.own.0,
  c.leave.ensures.own.1,
)

pub frame-requires-clause-held : goal.frame-requires-clause-held
frame-requires-clause-held g c = let held = c.requires.held in let hit = held.hit in (
  hit.frame,
  hit.frame,
  frame_has c.args.pass.now held.only.known c.args.block hit.frame hit.knows,
)

pub leave-requires-clause-own : goal.leave-requires-clause-own
leave-requires-clause-own g c = c.tell.ensures.own.1

pub returns-clause-columns : goal.returns-clause-columns
returns-clause-columns g c = subst
    (λ o. IfSome o (λ (t : Told). columns_told t ≡ columns_by c.args.self.now.found)) c.in-Some.is
    c.tell.ensures.columns
