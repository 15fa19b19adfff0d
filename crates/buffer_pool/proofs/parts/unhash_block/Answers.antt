use Rattle.std.proofs.Common.{rules}
use Rattle.buffer_pool.proofs.AgainLemmas.{passes_both}
use Rattle.buffer_pool.proofs.CallLemmas.{frame_has}
use Rattle.buffer_pool.proofs.UnhashLemmas.{HeldFor, DroppedOut, held_for, frame_is, in_place, exact_here, room_here, dropped_out}
use Rattle.buffer_pool.proofs.UnhashedLemmas.{UnhashedInHand, unhash_whole, unhash_follows, settled_known, settled_does, settled_frame, settled_count, settled_part}
use Rattle.buffer_pool.proofs.UnhashBlockLemmas.{unhashes_block}
use Rattle.buffer_pool.proofs.parts.unhash_block.Given as given
use Rattle.buffer_pool.proofs.parts.unhash_block.Goals as goal
use Rattle.buffer_pool.proofs.parts.unhash_block.Goals.{After-hold_part_for-part, After-drop_frame, After-frame_back}

pub frame-requires-clause-held : goal.frame-requires-clause-held
frame-requires-clause-held g c = let f = c.requires.held.0 in
    (f, f, frame_has c.args.pass.now c.requires.known c.args.block f c.requires.held.1)

-- the partition of the index that the block is hashed for is held, if it is
held : (g : given.Over) (c : After-hold_part_for-part g)
    → HeldFor c.args.pass.now c.hold_part_for-part.new.pass c.args.block c.requires.held.0
    c.hold_part_for-part.result
held g c = let part = c.hold_part_for-part.ensures in
    held_for c.requires.known c.fits.ensures c.requires.held.1 c.frame.ensures part.named part.held
    part.fits

pub frame_out-frame-requires-clause-held : goal.frame_out-frame-requires-clause-held
frame_out-frame-requires-clause-held g c = let f = c.requires.held.0 in
    let held = held g (goal.at.frame_out-frame-requires-clause-held g c).After-hold_part_for-part in
    (f, f, frame_has c.hold_part_for-part.new.pass held.known c.args.block f held.knows)

pub drop_frame-requires : goal.drop_frame-requires
drop_frame-requires g c =
    let held = held g (goal.at.drop_frame-requires g c).After-hold_part_for-part in
    let out = c.frame_out-frame.ensures.out in
    record {
      own = search rules;
      tidy = rw (frame_is held out) held.tidy;
      exact = exact_here held out;
      place = in_place c.hold_part_for-part.new.pass c.frame_out-frame.new.pass c.args.block
          c.frame_out-frame.result c.requires.held.0 held.known held.knows out held.fitted;
      room = room_here held out;
    }

-- its nodes are gone from there, and the frame is out of its place
dropped : (g : given.Over) (c : After-drop_frame g)
    → HeldFor c.args.pass.now c.hold_part_for-part.new.pass c.args.block c.requires.held.0
    c.hold_part_for-part.result
    → DroppedOut c.hold_part_for-part.new.pass c.drop_frame.new.pass c.args.block
    c.requires.held.0 c.hold_part_for-part.result
dropped g c held = dropped_out held c.frame_out-frame.ensures.out c.drop_frame.ensures.rests
    (rw c.drop_frame.ensures.frame at c.drop_frame.ensures.drops)

pub frame_back-requires-clause-out : goal.frame_back-requires-clause-out
frame_back-requires-clause-out g c = let at = goal.at.frame_back-requires-clause-out g c in
    (c.requires.held.0, (dropped g at.After-drop_frame (held g at.After-hold_part_for-part)).out)

-- the frame is back in its place, and isn't hashed
unhashed : (g : given.Over) (c : After-frame_back g)
    → HeldFor c.args.pass.now c.hold_part_for-part.new.pass c.args.block c.requires.held.0
    c.hold_part_for-part.result
    → DroppedOut c.hold_part_for-part.new.pass c.drop_frame.new.pass c.args.block
    c.requires.held.0 c.hold_part_for-part.result
    → UnhashedInHand c.args.pass.now c.hold_part_for-part.new.pass c.frame_back.new.pass
    c.args.block c.requires.held.0 c.hold_part_for-part.result
unhashed g c held dropped = record {
  held = held;
  between = c.drop_frame.new.pass;
  dropped = dropped;
  back = rw (c.drop_frame.ensures.frame, frame_is held c.frame_out-frame.ensures.out)
      at c.frame_back.ensures.back;
}

pub settle-requires : goal.settle-requires
settle-requires g c = let at = goal.at.settle-requires g c in
    let held = held g at.After-hold_part_for-part in
    let done = unhashed g at.After-frame_back held (dropped g at.After-drop_frame held) in
    record {
      own = search rules;
      whole = unhash_whole c.requires.known done;
      rule = unhash_follows c.requires.known done c.hands_keep_the_hash.ensures c.upkeep_keeps_the_hash.ensures
          (c.requires.may c.requires.held.0 c.requires.held.1);
    }

pub give_part_if-requires : goal.give_part_if-requires
give_part_if-requires g c = let at = goal.at.give_part_if-requires g c in
    let held = held g at.After-hold_part_for-part in
    let done = unhashed g at.After-frame_back held (dropped g at.After-drop_frame held) in
    record {
      own = search rules;
      known = settled_known c.requires.known done c.settle.ensures.did;
      held = settled_part c.requires.known done c.settle.ensures.did;
    }

pub returns-clause-did : goal.returns-clause-did
returns-clause-did g c = let at = goal.at.returns-clause-did g c in
    let held = held g at.After-hold_part_for-part in
    let done = unhashed g at.After-frame_back held (dropped g at.After-drop_frame held) in
    let told = c.settle.ensures.did in
    unhashes_block c.requires.held.1 c.requires.parts held (settled_frame c.requires.known done told)
    (settled_does c.requires.known done told) (settled_count c.requires.known done told) c.give_part_if.ensures.gave

pub returns-clause-own : goal.returns-clause-own
returns-clause-own g c = let p = c.args.pass.now in let held = c.hold_part_for-part.new.pass in
    let out = c.frame_out-frame.new.pass in let dropped = c.drop_frame.new.pass in
    let back = c.frame_back.new.pass in let settled = c.settle.new.pass in
    let q = c.give_part_if.new.pass in (
      passes_both p held q c.hold_part_for-part.ensures.own.0
          (passes_both held out q c.frame_out-frame.ensures.own.0
          (passes_both out dropped q c.drop_frame.ensures.own.0
          (passes_both dropped back q c.frame_back.ensures.own.0
          (passes_both back settled q c.settle.ensures.own.0 c.give_part_if.ensures.own.0)))),
      c.give_part_if.ensures.own.1,
    )
