use Rattle.std.proofs.Common.{ap, sym, ◌∙◌, ◌≡◌, is_lt, length, arith}
use Rattle.std.proofs.lemmas.Option.{none-some}
use Rattle.list_facts.proofs.Places.{same_some}
use Rattle.key_tuple.specs.Order.{FieldList, tuple_cmp}
use Rattle.key_tuple.specs.KeyPlace.{above}
use Rattle.forest_law.specs.declared.objects.Frame.{Frame}
use Rattle.forest_law.specs.State.{bound}
use Rattle.tree_growth.proofs.halves.is_below.Goals as goal

pub compare-requires : goal.compare-requires
compare-requires c = let h = c.requires.held in
    let is : c.in-Some.low.tuple ≡ h.at = same_some _ _
    (ap bound (sym c.in-Some.is ∙ ap (λ (f : Frame). f.low) (c.frame.ensures h.frame h.frame h.has))
    ∙ h.begins) in let same = ap (λ (k : FieldList). length k) is in
    omega (arith, same, h.fields)

pub unreachable-requires : goal.unreachable-requires
unreachable-requires c = let h = c.requires.held in none-some h.at (ap bound
    (sym c.in-None.is ∙ ap (λ (f : Frame). f.low) (c.frame.ensures h.frame h.frame h.has))
    ∙ h.begins)

pub returns : goal.returns
unfolding above
returns c = λ held.
    let is : c.in-Some.low.tuple ≡ held.at = same_some _ _
    (ap bound
    (sym c.in-Some.is
    ∙ ap (λ (f : Frame). f.low) (c.frame.ensures held.frame held.frame held.has))
    ∙ held.begins) in
    c.is_lt.ensures
    ∙ (ap is_lt c.compare.ensures
    ∙ ap (λ k. is_lt (tuple_cmp c.args.key.now.tuple k)) is)
