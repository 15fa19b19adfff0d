use Rattle.std.proofs.Common.{ap, refl, sym, ◌∙◌}
use Rattle.latch_law.specs.declared.knows.Terms.{Terms}
use Rattle.index_page.specs.Changes.{rows_without}
use Rattle.index_law.specs.Shape.{Shape}
use Rattle.hash_upkeep.specs.Upkeep.{upkeep_of}
use Rattle.hash_maintain.specs.Leaves.{without_row}
use Rattle.hash_maintain.proofs.LeafLemmas.{page_without_is}
use Rattle.hash_maintain.proofs.SpaceLemmas.{still_same, still_there, not_hashed, has_parts, is_there, cuts_call}
use Rattle.hash_maintain.proofs.UpkeepLemmas.{IsCall, is_call, hashed_so, hashed_or_not, was_so, row_keeps}
use Rattle.hash_maintain.proofs.upkeep.insert_in_frame.Given as given
use Rattle.hash_maintain.proofs.upkeep.insert_in_frame.Goals as goal
use Rattle.hash_maintain.proofs.upkeep.insert_in_frame.Goals.{After-part_for-part}

-- the call, as lemmas know it
the_call : (g : given.Over) (c : After-part_for-part g)
    → IsCall c.args.pass.now c.args.block c.part_for-part.result c.args.frame.now c.in-Some.how
the_call g c =
    is_call c.args.pass.now c.args.block c.part_for-part.result c.fold_bits.result
    c.args.frame.now c.in-Some.how c.shape-layout.result.now c.args.space.now.terms.shape
    c.hashing_of.result c.shape-layout.ensures
    (ap (λ (t : Terms Shape). t.shape) c.requires.own.1) c.fold_bits.ensures c.hashing_of.ensures
    c.in-Some.is c.part_for-part.ensures

pub row_came-answer-requires-clause-hashed : goal.row_came-answer-requires-clause-hashed
row_came-answer-requires-clause-hashed g c =
    hashed_so c.args.pass.now c.args.block c.part_for-part.result c.args.frame.now c.in-Some.how
    (the_call g (goal.at.row_came-answer-requires-clause-hashed g c).After-part_for-part)

pub returns-in-Some-clause-rests : goal.returns-in-Some-clause-rests
returns-in-Some-clause-rests g c none =
    let so = hashed_so c.args.pass.now c.args.block c.part_for-part.result c.args.frame.now
    c.in-Some.how (the_call g (goal.at.returns-in-Some-clause-rests g c).After-part_for-part) in
    absurd (hashed_or_not _ _ so.index none)

pub row_came-answer-requires-clause-exact : goal.row_came-answer-requires-clause-exact
row_came-answer-requires-clause-exact g c = let p = c.args.pass.now in let f = c.args.frame.now in
    let call = the_call g (goal.at.row_came-answer-requires-clause-exact g c).After-part_for-part in
    let so = hashed_so p c.args.block c.part_for-part.result f c.in-Some.how call in
    let leaf = c.requires.row in
    was_so p c.args.block c.part_for-part.result f c.in-Some.how call c.entries_are_owed.ensures
    c.hold_part_out-partition.new.pass c.hold_part_out-partition.result
    (without_row c.args.place f)
    (record leaf.page { rows = rows_without c.args.place leaf.page.rows })
    (page_without_is f c.args.place leaf.page leaf.page_is) refl refl
    (c.requires.exact c.in-Some.how.index so.index) c.hold_part_out-partition.ensures.out

pub returns-in-Some-clause-keeps : goal.returns-in-Some-clause-keeps
returns-in-Some-clause-keeps g c = λ how e. let p = c.args.pass.now in
    let call = the_call g (goal.at.returns-in-Some-clause-keeps g c).After-part_for-part in
    row_keeps p c.args.block c.part_for-part.result c.args.frame.now c.in-Some.how call
    c.hold_part_out-partition.new.pass c.part_back.new.pass c.hold_part_out-partition.result
    c.row_came-answer.new.part c.row_came-answer.new.frame c.args.place
    (λ spare brought driven. upkeep_of spare driven brought) c.row_came-answer.result
    c.hold_part_out-partition.ensures.out c.part_back.ensures.back c.row_came-answer.ensures.part
    c.row_came-answer.ensures.answer c.row_came-answer.ensures.room how e

pub part_for-part-requires : goal.part_for-part-requires
part_for-part-requires g c = has_parts c.args.pass.now c.fits.ensures c.shape-layout.result.now
    (c.shape-layout.ensures ∙ ap (λ (t : Terms Shape). t.shape) (sym c.requires.own.1))

pub hold_part_out-partition-requires-clause-there : goal.hold_part_out-partition-requires-clause-there
hold_part_out-partition-requires-clause-there g c =
    let call = the_call g
    (goal.at.hold_part_out-partition-requires-clause-there g c).After-part_for-part in
    is_there c.args.pass.now c.fits.ensures c.part_for-part.result c.in-Some.how.index call.part

pub hold_part_out-partition-requires-clause-place : goal.hold_part_out-partition-requires-clause-place
hold_part_out-partition-requires-clause-place g c =
    let call = the_call g
    (goal.at.hold_part_out-partition-requires-clause-place g c).After-part_for-part in
    c.requires.place c.part_for-part.result
    (is_there c.args.pass.now c.fits.ensures c.part_for-part.result c.in-Some.how.index call.part)

pub hold_part_out-partition-requires-clause-room : goal.hold_part_out-partition-requires-clause-room
hold_part_out-partition-requires-clause-room g c = λ _. c.requires.room

pub row_came-answer-requires-clause-bits : goal.row_came-answer-requires-clause-bits
row_came-answer-requires-clause-bits g c =
    cuts_call c.args.pass.now c.fits.ensures c.args.block c.part_for-part.result c.args.frame.now
    c.in-Some.how (the_call g (goal.at.row_came-answer-requires-clause-bits g c).After-part_for-part)

pub part_back-requires-clause-there : goal.part_back-requires-clause-there
part_back-requires-clause-there g c =
    let call = the_call g (goal.at.part_back-requires-clause-there g c).After-part_for-part in
    still_there c.args.pass.now c.hold_part_out-partition.new.pass c.part_for-part.result
    c.hold_part_out-partition.ensures.out.terms
    (is_there c.args.pass.now c.fits.ensures c.part_for-part.result c.in-Some.how.index call.part)

pub part_back-requires-clause-out : goal.part_back-requires-clause-out
part_back-requires-clause-out g c = let held = c.hold_part_out-partition.ensures.out in
    (held.known, held.out)

pub returns-in-Some-clause-own : goal.returns-in-Some-clause-own
returns-in-Some-clause-own g c = (
  still_same c.args.pass.now c.hold_part_out-partition.new.pass c.part_back.new.pass
      c.hold_part_out-partition.ensures.own.0 c.part_back.ensures.own.0,
  c.part_back.ensures.own.1,
)

pub returns-in-Some-clause-frame : goal.returns-in-Some-clause-frame
returns-in-Some-clause-frame g c = c.row_came-answer.ensures.frame

pub returns-in_default-clause-own : goal.returns-in_default-clause-own
returns-in_default-clause-own g c = ((refl, refl), c.requires.own)

pub returns-in_default-clause-frame : goal.returns-in_default-clause-frame
returns-in_default-clause-frame g c = refl

pub returns-in_default-clause-rests : goal.returns-in_default-clause-rests
returns-in_default-clause-rests g c = λ _. (refl, refl)

pub returns-in_default-clause-keeps : goal.returns-in_default-clause-keeps
returns-in_default-clause-keeps g c = λ how e. absurd
    (not_hashed c.args.pass.now c.args.block c.fold_bits.result c.args.frame.now
    c.hashing_of.result how
    (c.fold_bits.ensures
    ∙ ap (λ (s : Shape). s.fold_bits)
    (c.shape-layout.ensures ∙ ap (λ (t : Terms Shape). t.shape) (sym c.requires.own.1)))
    c.hashing_of.ensures c.in_default.is e)

pub part_back-requires-clause-own : goal.part_back-requires-clause-own
part_back-requires-clause-own g c = c.hold_part_out-partition.ensures.own.1
