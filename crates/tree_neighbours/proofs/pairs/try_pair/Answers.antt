use Rattle.std.proofs.Common.{arith, ◌≡◌, ℕ, true, false, Option, Some, None, is_some, refl, sym, ap, subst, ◌∙◌, inl, rules}
use Rattle.std.specs.Prelude.{IsSome}
use Rattle.buffer_pool.proofs.AgainLemmas.{passes_both}
use Rattle.tree_neighbours.specs.declared.side.Side.{Side}
use Rattle.tree_neighbours.specs.Neighbours.{IsLastOn, TakesBeside, IsBusyOn}
use Rattle.tree_neighbours.specs.Sides.{side_of, row_on}
use Rattle.tree_neighbours.proofs.PairLemmas.{leaf_frames, leaf_tables, leaf_may_go, leaf_page, leaf_alone, leaf_at_end, leaf_with_other, leaf_given_back}
use Rattle.tree_neighbours.proofs.pairs.try_pair.Goals as goal

some_there : (o : Option ℕ) → is_some o ≡ true → IsSome o
some_there None e = absurd cc
some_there (Some n) e = search rules

none_there : (o : Option ℕ) → is_some o ≡ false → o ≡ None
none_there None e = refl
none_there (Some n) e = absurd cc

pub returns-then-is_some-clause-tried : goal.returns-then-is_some-clause-tried
returns-then-is_some-clause-tried g c = leaf_alone c.args.pass.now c.descend-leaf.new.pass
    c.args.index c.args.mode (g.T.Fields.fields_of c.args.tuple.now) c.descend-leaf.result
    c.descend-leaf.ensures.went
    (inl (some_there (row_on (side_of c.args.mode) c.descend-leaf.result.spot)
    (ap is_some
    (ap (λ (side : Side). row_on side c.descend-leaf.result.spot) (sym c.side_of-side.ensures)
    ∙ sym c.row_on.ensures) ∙ (sym c.is_some.ensures ∙ c.if-is_some.true))))

pub take_beside-requires-clause-held : goal.take_beside-requires-clause-held
take_beside-requires-clause-held g c = leaf_page c.args.pass.now c.descend-leaf.new.pass
    c.args.index c.args.mode (g.T.Fields.fields_of c.args.tuple.now) c.descend-leaf.result
    c.descend-leaf.ensures.went

pub returns-in-AtEnd-clause-tried : goal.returns-in-AtEnd-clause-tried
returns-in-AtEnd-clause-tried g c = leaf_at_end c.args.pass.now c.descend-leaf.new.pass
    c.args.index c.args.mode (g.T.Fields.fields_of c.args.tuple.now) c.descend-leaf.result
    c.descend-leaf.ensures.went c.take_beside.new.pass
    (subst
    (λ (side : Side). IsLastOn c.descend-leaf.new.pass c.descend-leaf.result.block c.args.index side
    c.take_beside.new.pass) c.side_of-side.ensures c.in-AtEnd.ensures.tells)

pub returns-in-Held-clause-tried : goal.returns-in-Held-clause-tried
returns-in-Held-clause-tried g c =
    leaf_with_other c.args.pass.now c.descend-leaf.new.pass
    c.args.index c.args.mode (g.T.Fields.fields_of c.args.tuple.now) c.descend-leaf.result
    c.descend-leaf.ensures.went c.in-Held.other c.take_beside.new.pass
    (subst
    (λ (side : Side). TakesBeside c.descend-leaf.new.pass c.descend-leaf.result.block c.args.index
    side c.in-Held.other c.take_beside.new.pass) c.side_of-side.ensures c.in-Held.ensures.tells)
    (ap (λ (side : Side). row_on side c.descend-leaf.result.spot) (sym c.side_of-side.ensures)
    ∙ (sym c.row_on.ensures
    ∙ none_there c.row_on.result (sym c.is_some.ensures ∙ c.if-is_some.false)))

pub returns-in-Busy-clause-tried : goal.returns-in-Busy-clause-tried
returns-in-Busy-clause-tried g c = leaf_given_back c.args.pass.now c.descend-leaf.new.pass
    c.args.index c.args.mode (g.T.Fields.fields_of c.args.tuple.now) c.descend-leaf.result
    c.descend-leaf.ensures.went c.take_beside.new.pass
    (subst
    (λ (side : Side). IsBusyOn c.descend-leaf.new.pass c.descend-leaf.result.block c.args.index side
    c.take_beside.new.pass) c.side_of-side.ensures c.in-Busy.ensures.tells) c.give_back.new.pass
    c.give_back.ensures.gave

pub take_beside-requires-clause-known : goal.take_beside-requires-clause-known
take_beside-requires-clause-known g c = c.descend-leaf.ensures.went.silently.does.known

pub take_beside-requires-clause-frames : goal.take_beside-requires-clause-frames
take_beside-requires-clause-frames g c = leaf_frames c.args.pass.now c.descend-leaf.new.pass
    c.args.index c.args.mode (g.T.Fields.fields_of c.args.tuple.now) c.descend-leaf.result
    c.descend-leaf.ensures.went c.requires.frames

pub take_beside-requires-clause-tables : goal.take_beside-requires-clause-tables
take_beside-requires-clause-tables g c = leaf_tables c.args.pass.now c.descend-leaf.new.pass
    c.args.index c.args.mode (g.T.Fields.fields_of c.args.tuple.now) c.descend-leaf.result
    c.descend-leaf.ensures.went c.requires.tables

pub take_beside-requires-clause-room : goal.take_beside-requires-clause-room
take_beside-requires-clause-room g c = let one = c.descend-leaf.ensures.went.count in
    let room = c.requires.room in omega (arith, one, room)

pub give_back-requires-clause-held : goal.give_back-requires-clause-held
give_back-requires-clause-held g c = leaf_may_go c.args.pass.now c.descend-leaf.new.pass
    c.args.index c.args.mode (g.T.Fields.fields_of c.args.tuple.now) c.descend-leaf.result
    c.descend-leaf.ensures.went c.take_beside.new.pass
    (subst
    (λ (side : Side). IsBusyOn c.descend-leaf.new.pass c.descend-leaf.result.block c.args.index side
    c.take_beside.new.pass) c.side_of-side.ensures c.in-Busy.ensures.tells)

pub returns-in-AtEnd-clause-own : goal.returns-in-AtEnd-clause-own
returns-in-AtEnd-clause-own g c = (
  passes_both c.args.pass.now c.descend-leaf.new.pass c.take_beside.new.pass
      c.descend-leaf.ensures.own.0 c.take_beside.ensures.own.0,
  c.take_beside.ensures.own.1,
)

pub returns-in-Held-clause-own : goal.returns-in-Held-clause-own
returns-in-Held-clause-own g c = (
  passes_both c.args.pass.now c.descend-leaf.new.pass c.take_beside.new.pass
      c.descend-leaf.ensures.own.0 c.take_beside.ensures.own.0,
  c.take_beside.ensures.own.1,
)

pub returns-in-Busy-clause-own : goal.returns-in-Busy-clause-own
returns-in-Busy-clause-own g c = (
  passes_both c.args.pass.now c.descend-leaf.new.pass c.give_back.new.pass
      c.descend-leaf.ensures.own.0 (passes_both c.descend-leaf.new.pass c.take_beside.new.pass
      c.give_back.new.pass c.take_beside.ensures.own.0 c.give_back.ensures.own.0),
  c.give_back.ensures.own.1,
)
