use Rattle.std.proofs.Common.{◌≡◌, ◌≢◌, Some, sym, ap, ◌∙◌, refl, rules}
use Rattle.latch_law.specs.declared.knows.Terms.{Terms}
use Rattle.index_page.specs.declared.head.PageHead.{PageHead}
use Rattle.hash_law.specs.Blocks.{part_for}
use Rattle.index_law.specs.Shape.{Shape}
use Rattle.forest_world.specs.Held.{shape_of_pass}
use Rattle.hash_maintain.specs.Leaves.{frame_built}
use Rattle.hash_maintain.proofs.SpaceLemmas.{still_same, still_there, has_parts, is_there, cuts_as}
use Rattle.hash_maintain.proofs.BuildLemmas.{cut_to, page_index, leaf_of, build_so, builds, counted_so}
use Rattle.hash_maintain.proofs.building.build_frame.Given.{Over}
use Rattle.hash_maintain.proofs.building.build_frame.Goals as goal
use Rattle.hash_maintain.proofs.building.build_frame.Goals.{Else-eq}

-- the frame is hashed so already, or not
already : (g : Over) (c : goal.Then-eq g) → c.args.frame.now.figures.built ≡ Some c.args.params
already g c = search rules

apart : (g : Over) (c : Else-eq g)
    → c.args.frame.now.figures.built ≢ Some c.args.params
apart g c = search rules

pub returns-then-eq-clause-frame : goal.returns-then-eq-clause-frame
returns-then-eq-clause-frame g c = λ isnt index leaf. absurd (isnt (already g c))

pub returns-then-eq-clause-builds : goal.returns-then-eq-clause-builds
returns-then-eq-clause-builds g c = λ isnt index leaf. absurd (isnt (already g c))

pub returns-clause-not_needed : goal.returns-clause-not_needed
returns-clause-not_needed g c =
    λ e. absurd (apart g (goal.at.returns-clause-not_needed g c).Else-eq e)

pub part_back-requires-clause-own : goal.part_back-requires-clause-own
part_back-requires-clause-own g c = c.hold_part_out-partition.ensures.own.1

pub leaf_page-requires : goal.leaf_page-requires
leaf_page-requires g c = (c.requires.leaf.leaf.page, c.requires.leaf.leaf.page_is)

pub rehash-answer-requires-clause-leaf : goal.rehash-answer-requires-clause-leaf
rehash-answer-requires-clause-leaf g c =
    let p = c.args.pass.now in let f = c.args.frame.now in
    let layout = c.shape-layout.ensures ∙ ap (λ (t : Terms Shape). t.shape) (sym c.requires.own.1) in
    let part_is : c.part_for-part.result ≡ part_for (shape_of_pass p).parts c.head.result.now.index =
    c.part_for-part.ensures
    ∙ ap (λ (s : Shape). part_for s.parts c.head.result.now.index) layout in
    let bits_are : c.fold_bits.result ≡ (shape_of_pass p).fold_bits =
    c.fold_bits.ensures ∙ ap (λ (s : Shape). s.fold_bits) layout in
    let same : c.requires.leaf.index ≡ c.head.result.now.index =
    page_index f c.requires.leaf.index c.leaf_page.result.now c.requires.leaf.leaf c.leaf_page.ensures
    ∙ ap (λ (h : PageHead). h.index) (sym c.head.ensures) in
    leaf_of p c.args.block c.part_for-part.result c.head.result.now.index c.fold_bits.result c.args.params f
    part_is bits_are c.requires.leaf same

pub rehash-answer-requires-clause-need : goal.rehash-answer-requires-clause-need
rehash-answer-requires-clause-need g c =
    let p = c.args.pass.now in
    let layout = c.shape-layout.ensures ∙ ap (λ (t : Terms Shape). t.shape) (sym c.requires.own.1) in
    counted_so p c.args.block c.head.result.now.index c.fold_bits.result c.args.need c.args.params
    c.args.frame.now c.leaf_page.result.now c.leaf_page.ensures
    (ap (λ (h : PageHead). h.index) c.head.ensures)
    (c.fold_bits.ensures ∙ ap (λ (s : Shape). s.fold_bits) layout)
    c.requires.need

pub rehash-answer-requires-clause-exact : goal.rehash-answer-requires-clause-exact
rehash-answer-requires-clause-exact g c =
    let p = c.args.pass.now in let f = c.args.frame.now in
    let layout = c.shape-layout.ensures ∙ ap (λ (t : Terms Shape). t.shape) (sym c.requires.own.1) in
    let part_is : c.part_for-part.result ≡ part_for (shape_of_pass p).parts c.head.result.now.index =
    c.part_for-part.ensures
    ∙ ap (λ (s : Shape). part_for s.parts c.head.result.now.index) layout in
    let bits_are : c.fold_bits.result ≡ (shape_of_pass p).fold_bits =
    c.fold_bits.ensures ∙ ap (λ (s : Shape). s.fold_bits) layout in
    let same : c.requires.leaf.index ≡ c.head.result.now.index =
    page_index f c.requires.leaf.index c.leaf_page.result.now c.requires.leaf.leaf c.leaf_page.ensures
    ∙ ap (λ (h : PageHead). h.index) (sym c.head.ensures) in
    build_so p c.args.block c.part_for-part.result c.head.result.now.index c.fold_bits.result c.args.params f
    part_is bits_are c.requires.leaf same c.entries_are_owed.ensures c.requires.tidy
    c.hold_part_out-partition.new.pass c.hold_part_out-partition.result
    c.hold_part_out-partition.ensures.out

pub returns-clause-builds : goal.returns-clause-builds
returns-clause-builds g c = λ isnt.
    (let p = c.args.pass.now in let f = c.args.frame.now in
    let layout = c.shape-layout.ensures ∙ ap (λ (t : Terms Shape). t.shape) (sym c.requires.own.1) in
    let part_is : c.part_for-part.result ≡ part_for (shape_of_pass p).parts c.head.result.now.index =
    c.part_for-part.ensures
    ∙ ap (λ (s : Shape). part_for s.parts c.head.result.now.index) layout in
    let bits_are : c.fold_bits.result ≡ (shape_of_pass p).fold_bits =
    c.fold_bits.ensures ∙ ap (λ (s : Shape). s.fold_bits) layout in
    let same : c.requires.leaf.index ≡ c.head.result.now.index =
    page_index f c.requires.leaf.index c.leaf_page.result.now c.requires.leaf.leaf c.leaf_page.ensures
    ∙ ap (λ (h : PageHead). h.index) (sym c.head.ensures) in
    builds p c.args.block c.part_for-part.result c.head.result.now.index c.fold_bits.result c.args.params f
    part_is bits_are c.requires.leaf same c.hold_part_out-partition.new.pass
    c.part_back.new.pass c.hold_part_out-partition.result c.rehash-answer.new.part
    c.rehash-answer.new.frame c.rehash-answer.result c.hold_part_out-partition.ensures.out
    c.part_back.ensures.back c.rehash-answer.ensures.part (c.rehash-answer.ensures.anew isnt) c.rehash-answer.ensures.room)

pub part_for-part-requires : goal.part_for-part-requires
part_for-part-requires g c = has_parts c.args.pass.now c.fits.ensures c.shape-layout.result.now
    (c.shape-layout.ensures ∙ ap (λ (t : Terms Shape). t.shape) (sym c.requires.own.1))

pub hold_part_out-partition-requires-clause-there : goal.hold_part_out-partition-requires-clause-there
hold_part_out-partition-requires-clause-there g c =
    let layout = c.shape-layout.ensures ∙ ap (λ (t : Terms Shape). t.shape) (sym c.requires.own.1) in
    let part_is : c.part_for-part.result ≡ part_for (shape_of_pass c.args.pass.now).parts c.head.result.now.index =
    c.part_for-part.ensures ∙ ap (λ (s : Shape). part_for s.parts c.head.result.now.index) layout in
    is_there c.args.pass.now c.fits.ensures c.part_for-part.result c.head.result.now.index part_is

pub hold_part_out-partition-requires-clause-place : goal.hold_part_out-partition-requires-clause-place
hold_part_out-partition-requires-clause-place g c =
    let layout = c.shape-layout.ensures ∙ ap (λ (t : Terms Shape). t.shape) (sym c.requires.own.1) in
    let part_is : c.part_for-part.result ≡ part_for (shape_of_pass c.args.pass.now).parts c.head.result.now.index =
    c.part_for-part.ensures ∙ ap (λ (s : Shape). part_for s.parts c.head.result.now.index) layout in
    c.requires.place c.part_for-part.result
    (is_there c.args.pass.now c.fits.ensures c.part_for-part.result c.head.result.now.index part_is)

pub hold_part_out-partition-requires-clause-room : goal.hold_part_out-partition-requires-clause-room
hold_part_out-partition-requires-clause-room g c = λ _. c.requires.room

pub rehash-answer-requires-clause-bits : goal.rehash-answer-requires-clause-bits
rehash-answer-requires-clause-bits g c =
    let layout = c.shape-layout.ensures ∙ ap (λ (t : Terms Shape). t.shape) (sym c.requires.own.1) in
    cuts_as c.args.pass.now c.fits.ensures
    (cut_to c.args.block c.head.result.now.index c.args.params c.fold_bits.result)
    (c.fold_bits.ensures ∙ ap (λ (s : Shape). s.fold_bits) layout)

pub part_back-requires-clause-there : goal.part_back-requires-clause-there
part_back-requires-clause-there g c =
    let layout = c.shape-layout.ensures ∙ ap (λ (t : Terms Shape). t.shape) (sym c.requires.own.1) in
    let part_is : c.part_for-part.result ≡ part_for (shape_of_pass c.args.pass.now).parts c.head.result.now.index =
    c.part_for-part.ensures ∙ ap (λ (s : Shape). part_for s.parts c.head.result.now.index) layout in
    still_there c.args.pass.now c.hold_part_out-partition.new.pass c.part_for-part.result
    c.hold_part_out-partition.ensures.out.terms
    (is_there c.args.pass.now c.fits.ensures c.part_for-part.result c.head.result.now.index part_is)

pub part_back-requires-clause-out : goal.part_back-requires-clause-out
part_back-requires-clause-out g c = let held = c.hold_part_out-partition.ensures.out in
    (held.known, held.out)

pub returns-then-eq-clause-own : goal.returns-then-eq-clause-own
returns-then-eq-clause-own g c = ((refl, refl), c.requires.own)

pub returns-then-eq-clause-not_needed : goal.returns-then-eq-clause-not_needed
returns-then-eq-clause-not_needed g c = λ _. (refl, refl, refl)

pub returns-clause-own : goal.returns-clause-own
returns-clause-own g c = (
  still_same c.args.pass.now c.hold_part_out-partition.new.pass c.part_back.new.pass
      c.hold_part_out-partition.ensures.own.0 c.part_back.ensures.own.0,
  c.part_back.ensures.own.1,
)

pub returns-clause-frame : goal.returns-clause-frame
returns-clause-frame g c = λ isnt index leaf. let f = c.args.frame.now in
    c.rehash-answer.ensures.frame
    ∙ ap (λ i. frame_built c.rehash-answer.result
    (cut_to c.args.block i c.args.params c.fold_bits.result) f)
    (ap (λ (h : PageHead). h.index) c.head.ensures
    ∙ sym (page_index f index c.leaf_page.result.now leaf c.leaf_page.ensures))
