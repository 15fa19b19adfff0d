use Rattle.std.proofs.Common.{◌≡◌, Some, sym, ap, ◌∙◌, refl}
use Rattle.latch_law.specs.declared.knows.Terms.{Terms}
use Rattle.hash_law.specs.Blocks.{part_for}
use Rattle.index_law.specs.Shape.{Shape}
use Rattle.forest_world.specs.Held.{shape_of_pass}
use Rattle.hash_maintain.specs.Moves.{first_hashed}
use Rattle.hash_maintain.proofs.MovingLemmas.{may_move, moves_in_hand}
use Rattle.hash_maintain.proofs.SpaceLemmas.{still_same, still_there, has_parts, is_there}
use Rattle.hash_maintain.proofs.UpkeepLemmas.{hashed_or_not}
use Rattle.hash_maintain.proofs.moving.move_between.Goals as goal

pub rows_moved-answer-requires-clause-apart : goal.rows_moved-answer-requires-clause-apart
rows_moved-answer-requires-clause-apart g c =
    (c.requires.moved c.in-Some.index (sym c.first_hashed.ensures ∙ c.in-Some.is)).apart

pub rows_moved-answer-requires-clause-may : goal.rows_moved-answer-requires-clause-may
rows_moved-answer-requires-clause-may g c =
    let p = c.args.pass.now in let index = c.in-Some.index in
    let layout = c.shape-layout.ensures ∙ ap (λ (t : Terms Shape). t.shape) (sym c.requires.own.1) in
    let part_is : c.part_for-part.result ≡ part_for (shape_of_pass p).parts index =
    c.part_for-part.ensures ∙ ap (λ (s : Shape). part_for s.parts index) layout in
    let bits_are : c.fold_bits.result ≡ (shape_of_pass p).fold_bits =
    c.fold_bits.ensures ∙ ap (λ (s : Shape). s.fold_bits) layout in
    let found : first_hashed c.args.from.now c.args.to.now ≡ Some index =
    sym c.first_hashed.ensures ∙ c.in-Some.is in
    may_move p c.part_for-part.result index c.fold_bits.result c.args.from_block c.args.to_block
    c.args.from.now c.args.to.now part_is bits_are (c.requires.moved index found)
    c.hold_part_out-partition.new.pass c.hold_part_out-partition.result
    c.hold_part_out-partition.ensures.out

pub returns-in-Some-clause-rests : goal.returns-in-Some-clause-rests
returns-in-Some-clause-rests g c none =
    absurd (hashed_or_not _ _ (sym c.first_hashed.ensures ∙ c.in-Some.is) none)

pub returns-in-Some-clause-moves : goal.returns-in-Some-clause-moves
returns-in-Some-clause-moves g c = λ i is.
    (let p = c.args.pass.now in let index = c.in-Some.index in
    let layout = c.shape-layout.ensures ∙ ap (λ (t : Terms Shape). t.shape) (sym c.requires.own.1) in
    let part_is : c.part_for-part.result ≡ part_for (shape_of_pass p).parts index =
    c.part_for-part.ensures ∙ ap (λ (s : Shape). part_for s.parts index) layout in
    let bits_are : c.fold_bits.result ≡ (shape_of_pass p).fold_bits =
    c.fold_bits.ensures ∙ ap (λ (s : Shape). s.fold_bits) layout in
    let found : first_hashed c.args.from.now c.args.to.now ≡ Some index =
    sym c.first_hashed.ensures ∙ c.in-Some.is in
    moves_in_hand p c.part_for-part.result index c.fold_bits.result c.args.from_block c.args.to_block
    c.args.from.now c.args.to.now part_is bits_are (c.requires.moved index found)
    c.hold_part_out-partition.new.pass c.part_back.new.pass c.hold_part_out-partition.result
    c.rows_moved-answer.new.part c.rows_moved-answer.new.from c.rows_moved-answer.new.to
    c.rows_moved-answer.result c.hold_part_out-partition.ensures.out c.part_back.ensures.back
    (record {
      keeps = c.rows_moved-answer.ensures.part;
      told = c.rows_moved-answer.ensures.answer;
      from_is = c.rows_moved-answer.ensures.from;
      to_is = c.rows_moved-answer.ensures.to;
    }) i is found)

pub part_for-part-requires : goal.part_for-part-requires
part_for-part-requires g c = has_parts c.args.pass.now c.fits.ensures c.shape-layout.result.now
    (c.shape-layout.ensures ∙ ap (λ (t : Terms Shape). t.shape) (sym c.requires.own.1))

pub hold_part_out-partition-requires-clause-there : goal.hold_part_out-partition-requires-clause-there
hold_part_out-partition-requires-clause-there g c =
    let layout = c.shape-layout.ensures ∙ ap (λ (t : Terms Shape). t.shape) (sym c.requires.own.1) in
    let part_is : c.part_for-part.result ≡ part_for (shape_of_pass c.args.pass.now).parts c.in-Some.index =
    c.part_for-part.ensures ∙ ap (λ (s : Shape). part_for s.parts c.in-Some.index) layout in
    is_there c.args.pass.now c.fits.ensures c.part_for-part.result c.in-Some.index part_is

pub hold_part_out-partition-requires-clause-place : goal.hold_part_out-partition-requires-clause-place
hold_part_out-partition-requires-clause-place g c =
    let layout = c.shape-layout.ensures ∙ ap (λ (t : Terms Shape). t.shape) (sym c.requires.own.1) in
    let part_is : c.part_for-part.result ≡ part_for (shape_of_pass c.args.pass.now).parts c.in-Some.index =
    c.part_for-part.ensures ∙ ap (λ (s : Shape). part_for s.parts c.in-Some.index) layout in
    c.requires.place c.part_for-part.result
    (is_there c.args.pass.now c.fits.ensures c.part_for-part.result c.in-Some.index part_is)

pub hold_part_out-partition-requires-clause-room : goal.hold_part_out-partition-requires-clause-room
hold_part_out-partition-requires-clause-room g c = λ _. c.requires.room

pub part_back-requires-clause-there : goal.part_back-requires-clause-there
part_back-requires-clause-there g c =
    let layout = c.shape-layout.ensures ∙ ap (λ (t : Terms Shape). t.shape) (sym c.requires.own.1) in
    let part_is : c.part_for-part.result ≡ part_for (shape_of_pass c.args.pass.now).parts c.in-Some.index =
    c.part_for-part.ensures ∙ ap (λ (s : Shape). part_for s.parts c.in-Some.index) layout in
    still_there c.args.pass.now c.hold_part_out-partition.new.pass c.part_for-part.result
    c.hold_part_out-partition.ensures.out.terms
    (is_there c.args.pass.now c.fits.ensures c.part_for-part.result c.in-Some.index part_is)

pub part_back-requires-clause-out : goal.part_back-requires-clause-out
part_back-requires-clause-out g c = let held = c.hold_part_out-partition.ensures.out in
    (held.known, held.out)

pub returns-in-Some-clause-own : goal.returns-in-Some-clause-own
returns-in-Some-clause-own g c = (
  still_same c.args.pass.now c.hold_part_out-partition.new.pass c.part_back.new.pass
      c.hold_part_out-partition.ensures.own.0 c.part_back.ensures.own.0,
  c.part_back.ensures.own.1,
)

pub returns-in_default-clause-own : goal.returns-in_default-clause-own
returns-in_default-clause-own g c = ((refl, refl), c.requires.own)

pub returns-in_default-clause-rests : goal.returns-in_default-clause-rests
returns-in_default-clause-rests g c = λ _. (refl, refl, refl, refl)

pub returns-in_default-clause-moves : goal.returns-in_default-clause-moves
returns-in_default-clause-moves g c = λ i is. absurd (hashed_or_not
    (first_hashed c.args.from.now c.args.to.now) i is (sym c.first_hashed.ensures ∙ c.in_default.is))

pub part_back-requires-clause-own : goal.part_back-requires-clause-own
part_back-requires-clause-own g c = c.hold_part_out-partition.ensures.own.1
