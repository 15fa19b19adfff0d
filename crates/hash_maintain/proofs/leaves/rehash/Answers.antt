use Rattle.std.proofs.Common.{◌≡◌, ℕ, Option, length, refl, sym, ap, subst, ◌∙◌}
use Rattle.key_tuple.specs.declared.mode.Params.{Params}
use Rattle.forest_law.specs.declared.objects.Frame.{Frame}
use Rattle.hash_maintain.specs.Leaves.{KeepsUpSo, hashed_with, index_if}
use Rattle.hash_upkeep.specs.Build.{BuildsAnew, LacksIfFull}
use Rattle.hash_upkeep.specs.Hashing.{row_entries}
use Rattle.hash_maintain.proofs.LeafLemmas.{rows_of_page, can_hash, was_exact, was_can, built_exact}
use Rattle.hash_maintain.proofs.leaves.rehash.Goals as goal
use Rattle.hash_maintain.proofs.leaves.rehash.Goals.{in-Some, in-None}

pub leaf_page-requires : goal.leaf_page-requires
leaf_page-requires c = (c.requires.leaf.page, c.requires.leaf.page_is)

pub build-answer-requires-clause-hash : goal.build-answer-requires-clause-hash
build-answer-requires-clause-hash c = can_hash c.args.how.now c.args.frame.now
    c.leaf_page.result.now c.leaf_page.ensures c.requires.fields c.requires.bits

pub build-answer-requires-clause-was : goal.build-answer-requires-clause-was
build-answer-requires-clause-was c = was_can c.entries_are_owed.ensures c.args.how.now
    c.args.frame.now c.leaf_page.result.now c.leaf_page.ensures c.args.part.now c.requires.tidy
    c.requires.bits c.args.frame.now.figures.built refl

pub build-answer-requires-clause-need : goal.build-answer-requires-clause-need
build-answer-requires-clause-need c = c.requires.need c.leaf_page.result.now c.leaf_page.ensures

pub build-answer-requires-clause-exact : goal.build-answer-requires-clause-exact
build-answer-requires-clause-exact c = was_exact c.entries_are_owed.ensures c.args.how.now
    c.args.frame.now c.leaf_page.result.now c.leaf_page.ensures c.args.part.now c.requires.tidy
    c.requires.leaf c.requires.exact c.args.frame.now.figures.built refl

pub returns-clause-anew : goal.returns-clause-anew
returns-clause-anew c = λ isnt page paged. rows_of_page
    (λ rows. BuildsAnew c.args.how.now rows c.args.part.now c.build-answer.new.part
    c.build-answer.result) c.args.frame.now c.leaf_page.result.now page c.leaf_page.ensures paged
    (c.build-answer.ensures.anew isnt)

pub returns-clause-room : goal.returns-clause-room
returns-clause-room c = λ page paged. rows_of_page
    (λ rows. LacksIfFull c.build-answer.result c.build-answer.new.part.spare
    (length (row_entries c.args.how.now rows))) c.args.frame.now c.leaf_page.result.now page
    c.leaf_page.ensures paged c.build-answer.ensures.room

pub returns-clause-frame : goal.returns-clause-frame
returns-clause-frame c = let f = c.args.frame.now in let how = c.args.how.now in
    let built = c.built_after-frame.result in
    let index : c.match-frame.frame ≡ index_if built how.index =
    elim c.match-frame.branch [
      | in-Some w ↦ w.frame-is ∙ sym (ap (λ (b : Option Params). index_if b how.index) w.in-Some.is)
      | in-None w ↦ w.frame-is ∙ sym (ap (λ (b : Option Params). index_if b how.index) w.in-None.is)
    ] in
    ap (λ (h : Option ℕ). hashed_with h built f) index
    ∙ ap (λ (b : Option Params). hashed_with (index_if b how.index) b f) c.built_after-frame.ensures

pub returns-clause-part : goal.returns-clause-part
returns-clause-part c = subst
    (λ (g : Frame). KeepsUpSo c.args.how.now g c.args.part.now c.build-answer.new.part)
    (sym (returns-clause-frame c))
    (built_exact c.entries_are_owed.ensures c.args.how.now c.args.frame.now c.leaf_page.result.now
    c.leaf_page.ensures c.args.part.now c.build-answer.new.part c.build-answer.result
    c.build-answer.ensures.part)
