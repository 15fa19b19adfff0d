-- hash_guess/proofs/following/follow/Answers.antt
use Rattle.std.proofs.Common.{◌≡◌, refl, sym, ap, subst, ◌∙◌}
use Rattle.latch_law.specs.declared.knows.Terms.{Terms}
use Rattle.latch_space.specs.Passes.{view}
use Rattle.hash_law.specs.Blocks.{part_for}
use Rattle.index_law.specs.Shape.{Shape}
use Rattle.forest_world.specs.Held.{shape_of_pass}
use Rattle.hash_maintain.specs.Parting.{GivesPart}
use Rattle.buffer_pool.specs.Frames.{TellsFrame}
use Rattle.buffer_pool.proofs.PartLemmas.{part_below}
use Rattle.hash_guess.specs.Leads.{part_in}
use Rattle.hash_guess.proofs.FollowLemmas.{block_there, has_part, still_in_hand, finds_busy, follows_to}
use Rattle.hash_guess.proofs.LeadLemmas.{part_there}
use Rattle.hash_guess.proofs.following.follow.Goals as goal

pub try_frame-take-requires-clause-there : goal.try_frame-take-requires-clause-there
try_frame-take-requires-clause-there c = let fitted = c.fits.ensures in
    block_there c.nodes_lead_to_frames.ensures c.args.pass.now c.args.index c.args.node.now
    c.requires.node fitted.whole fitted.is_lawful (view c.args.pass.now) fitted.fits
    fitted.fits.shape c.requires.node.held

pub try_frame-take-requires-clause-lacks : goal.try_frame-take-requires-clause-lacks
try_frame-take-requires-clause-lacks c = let fitted = c.fits.ensures in
    c.requires.frames c.args.node.now.block
    (block_there c.nodes_lead_to_frames.ensures c.args.pass.now c.args.index c.args.node.now
    c.requires.node fitted.whole fitted.is_lawful (view c.args.pass.now) fitted.fits
    fitted.fits.shape c.requires.node.held) tt

pub returns-clause-taken : goal.returns-clause-taken
returns-clause-taken c = λ is. let p = c.args.pass.now in
    let m = c.try_frame-take.new.pass in let q = c.give_part_back.new.pass in
    let s = shape_of_pass p in
    let told = subst (λ r. TellsFrame p c.args.node.now.block r m) is c.try_frame-take.ensures.did
    in
    let layout : c.shape.result.now ≡ s =
    c.shape.ensures ∙ ap (λ (t : Terms Shape). t.shape) (sym c.requires.own.1.1) in
    follows_to p m c.args.index c.args.node.now c.requires.node c.requires.known q
    (subst (λ j. GivesPart m j q)
    (c.part_for-part.ensures ∙ ap (λ (z : Shape). part_for z.parts c.args.index) layout)
    c.give_part_back.ensures.gave)
    c.nodes_lead_to_frames.ensures told.0 told.1
    (part_below p s s (part_in p c.args.index) c.args.index c.fits.ensures refl refl refl)
    (c.requires.frames c.args.node.now.block
    (block_there c.nodes_lead_to_frames.ensures p c.args.index c.args.node.now c.requires.node
    c.fits.ensures.whole c.fits.ensures.is_lawful (view p) c.fits.ensures.fits
    c.fits.ensures.fits.shape c.requires.node.held) tt)

pub returns-clause-busy : goal.returns-clause-busy
returns-clause-busy c = λ h is. let p = c.args.pass.now in
    let m = c.try_frame-take.new.pass in let q = c.give_part_back.new.pass in
    let layout : c.shape.result.now ≡ shape_of_pass p =
    c.shape.ensures ∙ ap (λ (t : Terms Shape). t.shape) (sym c.requires.own.1.1) in
    finds_busy p m c.args.index c.args.node.now c.requires.node c.requires.known q
    (subst (λ j. GivesPart m j q)
    (c.part_for-part.ensures ∙ ap (λ (z : Shape). part_for z.parts c.args.index) layout)
    c.give_part_back.ensures.gave)
    h (subst (λ r. TellsFrame p c.args.node.now.block r m) is c.try_frame-take.ensures.did)

pub give_part_back-requires-clause-there : goal.give_part_back-requires-clause-there
give_part_back-requires-clause-there c =
    part_there c.args.pass.now c.try_frame-take.new.pass c.shape.result.now c.part_for-part.result
    c.args.index c.fits.ensures
    (c.shape.ensures ∙ ap (λ (t : Terms Shape). t.shape) (sym c.requires.own.1.1))
    c.part_for-part.ensures (c.requires.own.1.1 ∙ sym c.try_frame-take.ensures.own.1.1)

pub give_part_back-requires-clause-held : goal.give_part_back-requires-clause-held
give_part_back-requires-clause-held c = let p = c.args.pass.now in let s = shape_of_pass p in
    let m = c.try_frame-take.new.pass in let node = c.requires.node in
    let layout : c.shape.result.now ≡ s =
    c.shape.ensures ∙ ap (λ (t : Terms Shape). t.shape) (sym c.requires.own.1.1) in (
      node.part,
      has_part p m c.args.index c.args.node.now node c.requires.known c.part_for-part.result
          (c.part_for-part.ensures ∙ ap (λ (z : Shape). part_for z.parts c.args.index) layout)
          (still_in_hand p m c.args.index c.args.node.now node c.requires.known
          c.try_frame-take.result
          (part_below p s s (part_in p c.args.index) c.args.index c.fits.ensures refl refl refl)
          c.try_frame-take.ensures.did),
    )
