use Rattle.std.proofs.Common.{[], ◌∷◌, ◌∙◌, sym, ap, subst, None}
use Rattle.latch_law.specs.declared.knows.Terms.{Terms}
use Rattle.latch_space.specs.Passes.{view}
use Rattle.index_page.specs.Page.{PageRows}
use Rattle.index_page.specs.Search.{Finds}
use Rattle.index_law.specs.Shape.{Shape}
use Rattle.forest_law.specs.declared.objects.Frame.{Frame}
use Rattle.forest_world.specs.Held.{shape_of_pass}
use Rattle.buffer_pool.proofs.CallLemmas.{frame_has}
use Rattle.buffer_pool.proofs.AgainLemmas.{passes_both}
use Rattle.index_seeks.specs.Seeks.{TellsRow, CanTell}
use Rattle.engine_law.proofs.KnownLemmas.{knows_same, page_number, same_page}
use Rattle.tree_neighbours.proofs.HandLemmas.{only_same, only_gave, may_leave}
use Rattle.index_seeks.proofs.SeekTraceLemmas.{said_then_first}
use Rattle.index_seeks.proofs.StandLemmas.{last_tells}
use Rattle.index_seeks.proofs.seek_call.SeekCall.end_on.Goals as goal

pub page_of-page-requires : goal.page_of-page-requires
page_of-page-requires g c = let last = c.requires.held in (
  last.is.page.is.page,
  ap (λ (f : Frame). f.page)
      (c.frame.ensures last.frame last.frame
      (frame_has c.args.pass.now last.only.known c.args.leaf.now.block last.frame last.knows))
      ∙ last.is.page.is.paged,
)

pub take_row-found-requires-clause-leaf : goal.take_row-found-requires-clause-leaf
take_row-found-requires-clause-leaf g c = let last = c.requires.held in
    let is = same_page last.frame c.frame.result.now last.is.page.is.page
    c.page_of-page.result.now
    (c.frame.ensures last.frame last.frame
    (frame_has c.args.pass.now last.only.known c.args.leaf.now.block last.frame last.knows))
    last.is.page.is.paged c.page_of-page.ensures in
    ap (λ (z : PageRows). z.head.level) is ∙ last.is.page.is.at_level

pub take_row-found-requires-clause-finds : goal.take_row-found-requires-clause-finds
take_row-found-requires-clause-finds g c = let last = c.requires.held in
    let call = c.args.self.now in
    let is = same_page last.frame c.frame.result.now last.is.page.is.page
    c.page_of-page.result.now
    (c.frame.ensures last.frame last.frame
    (frame_has c.args.pass.now last.only.known c.args.leaf.now.block last.frame last.knows))
    last.is.page.is.paged c.page_of-page.ensures in
    subst (λ (z : PageRows). Finds call.mode call.tuple.now.fields z.rows c.args.leaf.now.spot) (sym is)
    last.is.finds

pub tell-told-requires-clause-can : goal.tell-told-requires-clause-can
tell-told-requires-clause-can g c = let last = c.requires.held in let call = c.args.self.now in
    let p = c.args.pass.now in let found = c.take_row-found.result in
    let row = c.take_row-found.new.out in
    let is = same_page last.frame c.frame.result.now last.is.page.is.page
    c.page_of-page.result.now
    (c.frame.ensures last.frame last.frame
    (frame_has p last.only.known c.args.leaf.now.block last.frame last.knows))
    last.is.page.is.paged c.page_of-page.ensures in
    subst (λ r. CanTell (view p) call.index call.mode call.tuple.now.fields None r row)
    (sym c.reply_if.ensures)
    (last_tells p call.index call.mode call.tuple.now.fields c.args.leaf.now last found row
    (subst (λ (z : PageRows). TellsRow call.mode call.tuple.now.fields z.rows found row) is
    c.take_row-found.ensures.row) c.take_row-found.ensures.none)

pub leave-requires-clause-held : goal.leave-requires-clause-held
leave-requires-clause-held g c = let last = c.requires.held in let b = c.args.leaf.now.block in
    let p = c.args.pass.now in let q = c.tell-told.new.pass in
    let terms = c.tell-told.ensures.own.1.1 ∙ sym c.requires.own.1 in
    may_leave q (b ∷ []) b c.args.self.now.index last.frame
    (only_same p q (b ∷ []) last.only c.tell-told.ensures.kept terms)
    (knows_same p q b last.frame c.tell-told.ensures.kept.held terms last.knows) last.is.page.is

pub returns-clause-nothing : goal.returns-clause-nothing
returns-clause-nothing g c = let last = c.requires.held in let b = c.args.leaf.now.block in
    let p = c.args.pass.now in let q = c.tell-told.new.pass in
    let terms = c.tell-told.ensures.own.1.1 ∙ sym c.requires.own.1 in
    (only_gave q c.leave.new.pass b []
    (only_same p q (b ∷ []) last.only c.tell-told.ensures.kept terms) c.leave.ensures.gave).count

pub returns-clause-ends : goal.returns-clause-ends
returns-clause-ends g c = let call = c.args.self.now in let p = c.args.pass.now in
    let last = c.requires.held in
    let terms = c.tell-told.ensures.own.1.1 ∙ sym c.requires.own.1 in
    said_then_first (shape_of_pass p) call.index c.tell-told.new.pass c.leave.new.pass
    c.args.leaf.now.block (ap (λ (t : Terms Shape). t.shape) terms) c.leave.ensures.gave call.mode
    call.tuple.now.fields c.tell-told.result c.take_row-found.new.out (view p) c.tell-told.ensures.did
    c.tell-told.ensures.kept.held
    last.frame last.is.page.is.page.head.number
    (page_number last.frame call.index 0 last.is.page.is) last.knows
    (knows_same p c.tell-told.new.pass c.args.leaf.now.block last.frame
    c.tell-told.ensures.kept.held terms last.knows)

pub frame-requires-clause-held : goal.frame-requires-clause-held
frame-requires-clause-held g c = let last = c.requires.held in (
  last.frame,
  last.frame,
  frame_has c.args.pass.now last.only.known c.args.leaf.now.block last.frame last.knows,
)

pub returns-clause-own : goal.returns-clause-own
returns-clause-own g c = (
  passes_both c.args.pass.now c.tell-told.new.pass c.leave.new.pass c.tell-told.ensures.own.0 c.leave.ensures.own.0,
  c.leave.ensures.own.1,
)

pub returns-clause-columns : goal.returns-clause-columns
returns-clause-columns g c = c.tell-told.ensures.columns

pub leave-requires-clause-own : goal.leave-requires-clause-own
leave-requires-clause-own g c = c.tell-told.ensures.own.1
