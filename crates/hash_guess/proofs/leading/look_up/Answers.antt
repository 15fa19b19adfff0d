-- hash_guess/proofs/leading/look_up/Answers.antt
use Rattle.std.proofs.Common.{◌≡◌, refl, sym, ap, ◌∙◌}
use Rattle.key_tuple.specs.Fold.{fold_of}
use Rattle.latch_law.specs.declared.knows.Terms.{Terms}
use Rattle.hash_law.specs.Blocks.{part_for}
use Rattle.index_law.specs.Shape.{Shape}
use Rattle.forest_world.specs.Held.{shape_of_pass}
use Rattle.buffer_pool.proofs.AgainLemmas.{passes_both}
use Rattle.hash_guess.specs.Leads.{part_in, fold_in}
use Rattle.hash_guess.proofs.LeadLemmas.{part_there, misses_part, holds_entry, misses_entry}
use Rattle.hash_guess.proofs.leading.look_up.Given as given
use Rattle.hash_guess.proofs.leading.look_up.Goals as goal
use Rattle.hash_guess.proofs.leading.look_up.Goals.{After-try_part}

-- the partition that is tried is that of the index, and the fold that of the tuple's prefix
looks_for : (g : given.Over) (c : After-try_part g)
    → (c.part_for-part.result ≡ part_in c.args.pass.now c.args.index)
    × (c.fold-fold.result ≡ fold_in c.args.pass.now c.args.index
    (g.A.Fields.fields_of c.args.tuple.now) c.args.info.now)
looks_for g c =
    let layout : c.shape-layout.result.now ≡ shape_of_pass c.args.pass.now =
    c.shape-layout.ensures ∙ ap (λ (t : Terms Shape). t.shape) (sym c.requires.own.1) in (
      c.part_for-part.ensures ∙ ap (λ (s : Shape). part_for s.parts c.args.index) layout,
      c.fold-fold.ensures
          ∙ ap (fold_of c.args.index (g.A.Fields.fields_of c.args.tuple.now) c.args.info.now.params)
          (c.fold_bits.ensures ∙ ap (λ (s : Shape). s.fold_bits) layout),
    )

pub returns-in-Busy-clause-err : goal.returns-in-Busy-clause-err
returns-in-Busy-clause-err g c =
    let sought = looks_for g (goal.at.returns-in-Busy-clause-err g c).After-try_part in
    misses_part c.args.pass.now c.try_part.new.pass c.args.index
    (g.A.Fields.fields_of c.args.tuple.now) c.args.info.now c.requires.asked c.requires.known
    c.part_for-part.result c.fold-fold.result sought.0 sought.1 c.in-Busy.holder
    c.in-Busy.ensures.did

pub returns-in-Some-clause-ok : goal.returns-in-Some-clause-ok
returns-in-Some-clause-ok g c =
    let sought = looks_for g (goal.at.returns-in-Some-clause-ok g c).After-try_part in
    holds_entry c.args.pass.now c.try_part.new.pass c.args.index
    (g.A.Fields.fields_of c.args.tuple.now) c.args.info.now c.requires.asked c.requires.known
    c.part_for-part.result c.fold-fold.result sought.0 sought.1 c.in_default.ensures.did
    c.partition.result.now c.partition.ensures c.in-Some.node c.in-Some.ensures.some

pub returns-clause-err : goal.returns-clause-err
returns-clause-err g c =
    let sought = looks_for g (goal.at.returns-clause-err g c).After-try_part in
    misses_entry c.args.pass.now c.try_part.new.pass c.args.index
    (g.A.Fields.fields_of c.args.tuple.now) c.args.info.now c.requires.asked c.requires.known
    c.part_for-part.result c.fold-fold.result sought.0 sought.1 c.in_default.ensures.did
    c.partition.result.now c.partition.ensures c.give_part_back.new.pass
    c.in_default-find.ensures.none c.give_part_back.ensures.gave

pub partition-requires-clause-held : goal.partition-requires-clause-held
partition-requires-clause-held g c =
    let took = c.in_default.ensures.did.0 in (took.part, took.part, took.has)

pub give_part_back-requires-clause-held : goal.give_part_back-requires-clause-held
give_part_back-requires-clause-held g c =
    let took = c.in_default.ensures.did.0 in (took.part, took.has)

pub try_part-requires-clause-there : goal.try_part-requires-clause-there
try_part-requires-clause-there g c = let p = c.args.pass.now in
    part_there p p c.shape-layout.result.now c.part_for-part.result c.args.index c.fits.ensures
    (c.shape-layout.ensures ∙ ap (λ (t : Terms Shape). t.shape) (sym c.requires.own.1))
    c.part_for-part.ensures refl

pub try_part-requires-clause-lacks : goal.try_part-requires-clause-lacks
try_part-requires-clause-lacks g c = let p = c.args.pass.now in
    c.requires.parts c.part_for-part.result
    (part_there p p c.shape-layout.result.now c.part_for-part.result c.args.index c.fits.ensures
    (c.shape-layout.ensures ∙ ap (λ (t : Terms Shape). t.shape) (sym c.requires.own.1))
    c.part_for-part.ensures refl)

pub partition-requires-clause-there : goal.partition-requires-clause-there
partition-requires-clause-there g c =
    part_there c.args.pass.now c.try_part.new.pass c.shape-layout.result.now
    c.part_for-part.result c.args.index c.fits.ensures
    (c.shape-layout.ensures ∙ ap (λ (t : Terms Shape). t.shape) (sym c.requires.own.1))
    c.part_for-part.ensures (c.requires.own.1 ∙ sym c.try_part.ensures.own.1.1)

pub give_part_back-requires-clause-there : goal.give_part_back-requires-clause-there
give_part_back-requires-clause-there g c =
    part_there c.args.pass.now c.try_part.new.pass c.shape-layout.result.now
    c.part_for-part.result c.args.index c.fits.ensures
    (c.shape-layout.ensures ∙ ap (λ (t : Terms Shape). t.shape) (sym c.requires.own.1))
    c.part_for-part.ensures (c.requires.own.1 ∙ sym c.try_part.ensures.own.1.1)

pub returns-clause-own : goal.returns-clause-own
returns-clause-own g c = (
  passes_both c.args.pass.now c.try_part.new.pass c.give_part_back.new.pass
      c.try_part.ensures.own.0 c.give_part_back.ensures.own.0,
  c.give_part_back.ensures.own.1,
)
