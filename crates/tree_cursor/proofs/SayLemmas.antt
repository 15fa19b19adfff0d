-- A range was said at the end of a list: nothing else was done, and its point is seen then.
use Rattle.std.proofs.Common.{◌≡◌, ℕ, ◌≤◌, None, [], length, sym, ap, subst, ◌∙◌, refl, arith}
use mathlib.Core.Option.{some}
use lib.ListN.{get_elem?}
use Rattle.latch_law.specs.Fitting.{DidRead}
use Rattle.latch_law.specs.Views.{answer_said}
use Rattle.latch_space.specs.Has.{IsKnown, SameHands}
use Rattle.latch_space.specs.Passes.{view}
use Rattle.map_history.specs.Operation.{Ask}
use Rattle.index_law.specs.Answers.{Piece}
use Rattle.index_law.specs.Rightness.{IsRight}
use Rattle.index_law.specs.State.{Entries}
use Rattle.forest_law.specs.Law.{IsLawful}
use Rattle.forest_law.specs.References.{IsReference}
use Rattle.forest_world.specs.Held.{TreePass, shape_of_pass}
use Rattle.call_law.specs.Spoken.{View, OwnAnswer}
use Rattle.buffer_pool.specs.Calls.{Does}
use Rattle.buffer_pool.proofs.AddedLemmas.{only_said, read_adds}
use Rattle.engine_law.proofs.FrameTraceLemmas.{said_spares}
use Rattle.engine_law.proofs.SeenLemmas.{extends_length, now_seen}
use Rattle.scan_law.specs.ScanLaws.{ReadRange}
use Rattle.said_scans.specs.Ranges.{range_said}

module _ (p r : TreePass) (i : ℕ) (ask : Ask) (range : ReadRange)
    (did : DidRead IsLawful IsRight IsReference (view p) i
    (Piece ask range.low range.high range.piece.rows None range.piece.columns) range.piece.point
    (view r)) (kept : SameHands p r) where
  abbrev said : OwnAnswer
  said = answer_said (view p) i did.list
      (Piece ask range.low range.high range.piece.rows None range.piece.columns)

  said_is : said ≡ range_said i (view p).low ask range
  said_is = λ k. record {
    index = i;
    point = sym did.point k;
    by = (view p).low;
    what = said.what;
  }

  -- the range was said alone, and the pass holds what it held
  pub said_does : IsKnown p → Does p r [] (only_said (range_said i (view p).low ask range))
  said_does known = subst (λ (q : OwnAnswer). Does p r [] (only_said q)) said_is (record {
    adds = read_adds (view p) (view r) i did.list
        (Piece ask range.low range.high range.piece.rows None range.piece.columns) did.extends
        did.view;
    spares = said_spares (shape_of_pass p) (only_said said)
        (record { refused = refl; references = refl });
    rest = λ k apart. ap (λ hs. get_elem? hs k) kept.held;
    known = λ j x held. ap (λ vs. get_elem? vs j) kept.values
        ∙ known j x (ap (λ hs. get_elem? hs j) (sym kept.held) ∙ held);
  })

  -- at a point no less than what was seen, and seen then
  pub said_least : (ys : Entries) → get_elem? (view p).seen i ≡ some ys
      → length ys ≤ range.piece.point
  said_least ys at =
      let long = extends_length (view p) i did.list did.extends (view r).seen
      (ap (λ (z : View). z.seen) did.view) ys at in
      let point = did.point in omega (arith, long, point)

  pub said_most : (zs : Entries) → get_elem? (view r).seen i ≡ some zs
      → range.piece.point ≤ length zs
  said_most zs at =
      let same = ap length (now_seen (view p) i did.list did.extends (view r).seen
      (ap (λ (z : View). z.seen) did.view) zs at) in
      let point = did.point in omega (arith, same, point)
