use Rattle.std.proofs.Common.{refl, sym, subst}
use Rattle.hash_maintain.specs.Leaves.{without_row, HasRowInFrame}
use Rattle.buffer_pool.proofs.AgainLemmas.{passes_both}
use Rattle.leaf_changes.specs.Hashed.{MayNotDrop}
use Rattle.leaf_changes.proofs.UpkeepLemmas.{asks_tidy, asks_exact, asks_place, asks_room, goes_back, row_is_kept}
use Rattle.leaf_changes.proofs.tree_call.TreeCall.row_goes.Goals as goal

pub delete_in_frame-requires-clause-tidy : goal.delete_in_frame-requires-clause-tidy
delete_in_frame-requires-clause-tidy g c = let held = c.requires.held in
    asks_tidy c.args.pass.now c.frame_out-frame.new.pass c.args.block c.frame_out-frame.result
    c.frame_out-frame.ensures.out held.index held.known held.now held.has (λ h. h) held.hash
    c.fits.ensures

pub delete_in_frame-requires-clause-row : goal.delete_in_frame-requires-clause-row
delete_in_frame-requires-clause-row g c = let held = c.requires.held in
    subst (λ z. HasRowInFrame z c.args.place)
    (sym (c.frame_out-frame.ensures.out.out held.known held.now held.has).1) held.row

pub delete_in_frame-requires-clause-exact : goal.delete_in_frame-requires-clause-exact
delete_in_frame-requires-clause-exact g c = let held = c.requires.held in
    asks_exact c.args.pass.now c.frame_out-frame.new.pass c.args.block c.frame_out-frame.result
    c.frame_out-frame.ensures.out held.index held.known held.now held.has (λ h. h) held.hash
    held.hash.is

pub delete_in_frame-requires-clause-place : goal.delete_in_frame-requires-clause-place
delete_in_frame-requires-clause-place g c = let held = c.requires.held in
    asks_place c.args.pass.now c.frame_out-frame.new.pass c.args.block c.frame_out-frame.result
    c.frame_out-frame.ensures.out held.index held.known held.now held.has (λ h. h) held.hash

pub delete_in_frame-requires-clause-room : goal.delete_in_frame-requires-clause-room
delete_in_frame-requires-clause-room g c = let held = c.requires.held in
    asks_room c.args.pass.now c.frame_out-frame.new.pass c.args.block c.frame_out-frame.result
    c.frame_out-frame.ensures.out held.index held.known held.now held.has (λ h. h) held.hash

pub frame_back-requires-clause-out : goal.frame_back-requires-clause-out
frame_back-requires-clause-out g c = let held = c.requires.held in
    goes_back c.blocks_ask_the_same.ensures c.args.pass.now c.frame_out-frame.new.pass
    c.delete_in_frame.new.pass c.args.block c.frame_out-frame.result c.delete_in_frame.new.frame
    c.frame_out-frame.ensures.out c.fits.ensures (λ h. h) (without_row c.args.place)
    (λ x. refl) (λ x. refl) c.delete_in_frame.result c.delete_in_frame.ensures.frame
    (λ none. (c.delete_in_frame.ensures.rests none).0) (λ how is. (c.delete_in_frame.ensures.keeps how is).keeps)
    held.index held.known held.now held.has held.hash

pub returns-clause-kept : goal.returns-clause-kept
returns-clause-kept g c o f h has hash =
    row_is_kept c.blocks_ask_the_same.ensures c.args.pass.now c.frame_out-frame.new.pass
    c.delete_in_frame.new.pass c.args.block c.frame_out-frame.result c.delete_in_frame.new.frame
    c.frame_out-frame.ensures.out c.fits.ensures (λ h. h) (without_row c.args.place)
    (λ x. refl) (λ x. refl) c.delete_in_frame.result c.delete_in_frame.ensures.frame
    (λ none. (c.delete_in_frame.ensures.rests none).0) (λ how is. (c.delete_in_frame.ensures.keeps how is).keeps)
    o f h has hash c.upkeep_keeps_the_hash.ensures.tidy c.frame_back.new.pass
    c.frame_back.ensures.back (λ how is. (c.delete_in_frame.ensures.keeps how is).room) MayNotDrop
    c.delete_in_frame.ensures.kept

pub returns-clause-own : goal.returns-clause-own
returns-clause-own g c = (
  passes_both c.args.pass.now c.frame_out-frame.new.pass c.frame_back.new.pass
      c.frame_out-frame.ensures.own.0 (passes_both c.frame_out-frame.new.pass
      c.delete_in_frame.new.pass c.frame_back.new.pass c.delete_in_frame.ensures.own.0
      c.frame_back.ensures.own.0),
  c.frame_back.ensures.own.1,
)

pub frame_back-requires-clause-own : goal.frame_back-requires-clause-own
frame_back-requires-clause-own g c = (c.args.self.now.forest, c.delete_in_frame.ensures.own.1)
