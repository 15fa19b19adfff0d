use Rattle.std.proofs.Common.{◌≡◌, ℕ, Bool, not, false, Option, None, IsSome, is_some, ap, sym, ◌∙◌}
use Rattle.std.proofs.lemmas.Bool.{both_ways}
use Rattle.key_tuple.specs.KeyPlace.{At}
use Rattle.latch_space.specs.Passes.{view}
use Rattle.tree_cursor.proofs.PieceLemmas.{gives_up}
use Rattle.index_scans.proofs.StandLemmas.{first_ends, first_stands, first_stores, no_high, no_place}
use Rattle.index_scans.proofs.scan_call.ScanCall.take_first.Goals as goal
use Rattle.index_scans.proofs.scan_call.ScanCall.take_first.Goals.{else-is_none-via-then-is_none+else-not-has_high, else-is_none-via-else-is_none}

some_place : (o : Option ℕ) (m : Bool) → is_some o ≡ not m → m ≡ false → o ≡ None → ⊥
some_place o m told is none =
    both_ways (not m) (sym told ∙ ap is_some none) (ap not is)

pub take_none-requires-clause-last : goal.take_none-requires-clause-last
take_none-requires-clause-last g c =
    let first = c.requires.holds in let leaf = c.args.first.now in
    first_ends (view c.args.pass.now) leaf.block c.args.self.now.index
    (At c.args.self.now.from.now.fields) leaf.place first
    (no_place leaf.place c.is_none.result c.is_none.ensures c.if-is_none.true)
    (no_high first.holds.frame.high c.has_high.result (ap not c.if-not-has_high.true)
    (c.has_high.ensures first.holds).1)

pub store-requires-clause-leaf : goal.store-requires-clause-leaf
store-requires-clause-leaf g c =
    let first = c.requires.holds in let leaf = c.args.first.now in
    let high : leaf.place ≡ None → IsSome first.holds.frame.high =
    elim c.else-is_none.branch [
      | else-is_none-via-then-is_none+else-not-has_high w ↦ (λ none.
          (w.has_high.ensures first.holds).0 w.if-not-has_high.false)
      | else-is_none-via-else-is_none w ↦ (λ none. absurd (some_place leaf.place c.is_none.result
          c.is_none.ensures w.if-is_none.false none))
    ] in
    first_stores (view c.args.pass.now) leaf.block c.args.self.now.index
    (At c.args.self.now.from.now.fields) leaf.place first high

pub returns-in_default-clause-err : goal.returns-in_default-clause-err
returns-in_default-clause-err g c = gives_up c.args.pass.now c.give_back.new.pass
    c.args.first.now.block c.args.self.now.index c.requires.only c.requires.holds.holds
    c.give_back.ensures.gave

pub take_rows_of-requires-clause-stand : goal.take_rows_of-requires-clause-stand
take_rows_of-requires-clause-stand g c = first_stands c.args.pass.now c.args.first.now.block
    c.args.self.now.index c.args.self.now.from.now.fields c.args.first.now.place c.fits.ensures
    c.requires.holds c.in-Ok.cursor c.in-Ok.ensures
