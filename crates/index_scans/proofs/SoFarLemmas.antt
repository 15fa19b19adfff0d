-- A scan so far, and one piece more.
use Rattle.std.proofs.Common.{◌≡◌, ⊎_elim, inr, ℕ, zero, suc, ◌+◌, ◌-◌, ◌<◌, ◌≤◌, Option, List, [], ◌∷◌, ◌++◌, append-nil, length, length-append, map, take, drop, get_or, sym, ap, ap₂, subst, ◌∙◌, refl, arith}
use Rattle.std.proofs.lemmas.Bool.{cases_lt}
use Rattle.std.proofs.lemmas.List.{map-append, take_all, take-append-le, drop-append-le, length-drop, get_or_append_left, get_or_push}
use Rattle.std.proofs.lemmas.List.Sums.{sum_by-cons, sum_by_push}
use Rattle.std.specs.List.{AllByRecursion, AllPairs}
use mathlib.Core.Option.{some, some-injective}
use lib.ListN.{get_elem?}
use Rattle.list_facts.proofs.Each.{each_append, each_weaker}
use Rattle.key_tuple.specs.Order.{FieldList}
use Rattle.key_tuple.specs.KeyPlace.{KeyPlace, At}
use Rattle.latch_law.specs.declared.knows.Reference.{Reference}
use Rattle.latch_space.specs.Passes.{view}
use Rattle.map_history.specs.LegalReport.{Mark, Precedes}
use Rattle.map_history.specs.Map.{Map}
use Rattle.map_history.specs.Operation.{Ask, Scan}
use Rattle.map_history.specs.declared.reply.Piece.{Piece}
use Rattle.index_law.specs.State.{Entries}
use Rattle.forest_law.specs.declared.objects.Object.{Object}
use Rattle.forest_world.specs.Held.{TreePass}
use Rattle.call_law.specs.Spoken.{View}
use Rattle.call_law.specs.Trace.{SeesMore}
use Rattle.call_law.proofs.TraceLemmas.{both_added, adds_both}
use Rattle.buffer_pool.specs.AsTaken.{Exception}
use Rattle.buffer_pool.proofs.AddedLemmas.{none_added, held_adds, none_spares, spares_both}
use Rattle.buffer_pool.proofs.AsTakenLemmas.{both_but, other_but}
use Rattle.scan_law.specs.ScanLaws.{ReadRange}
use Rattle.scan_law.specs.SaidScans.{IsRangeFor, IsSaidSoFar}
use Rattle.scan_law.specs.ScanPieces.{piece_with, scan_pieces}
use Rattle.scan_law.proofs.SaidLemmas.{said_scans}
use Rattle.said_scans.specs.Ranges.{range_said}
use Rattle.index_scans.specs.Scans.{rows_told, mark_of_range, SaysSoFar}
use Rattle.index_scans.proofs.ComeLemmas.{GoesSilently, SaysOne, spares_then}

-- a piece behind others has its rows behind theirs
pub pieces_more : (ps : List Piece) (p : Piece) (rows new : Map) → rows_told ps ≡ length rows
    → p.count ≡ length new
    → scan_pieces (ps ++ p ∷ []) (rows ++ new) ≡ scan_pieces ps rows ++ piece_with p new ∷ []
pieces_more [] p [] new told count = λ j. piece_with p (all j) ∷ []
  where
    all : take p.count new ≡ new
    all = take_all p.count new (omega (arith, count))
pieces_more [] p (x ∷ rows) new told count = absurd (omega (arith, told))
pieces_more (q ∷ ps) p rows new told count =
    let cut = length-drop q.count rows in
    let all : q.count + rows_told ps ≡ length rows =
    sym (sum_by-cons (λ (x : Piece). x.count) q ps) ∙ told in
    ap₂ (λ front rest. piece_with q front ∷ rest) (take-append-le q.count rows new (omega (arith, all)))
    (ap (scan_pieces (ps ++ p ∷ [])) (drop-append-le q.count rows new (omega (arith, all)))
    ∙ pieces_more ps p (drop q.count rows) new (omega (arith, all, cut)) count)

pub told_more : (ps : List Piece) (p : Piece) → rows_told (ps ++ p ∷ []) ≡ rows_told ps + p.count
told_more ps p = sum_by_push (λ (x : Piece). x.count) ps p

-- marks that rise, and one that is no lower than each
each_or : {X : Type 0} (P : X → Type 0) (xs : List X) (k : ℕ) (d : X) → AllByRecursion P xs
    → k < length xs → P (get_or xs k d)
each_or P [] k d each below = absurd (omega (arith, below))
each_or P (x ∷ xs) zero d each below = each.0
each_or P (x ∷ xs) (suc k) d each below = each_or P xs k d each.1 (omega (arith, below))

pub pairs_more : {X : Type 0} (R : X → X → Type 0) (xs : List X) (y : X) → AllPairs R xs
    → AllByRecursion (λ (x : X). R x y) xs → AllPairs R (xs ++ y ∷ [])
pairs_more R xs y pairs each i j d lt below =
    let long = length-append xs (y ∷ []) in
    ⊎_elim
    (λ inside. subst (λ a. R a (get_or (xs ++ y ∷ []) j d))
    (sym (get_or_append_left xs (y ∷ []) d i (omega (arith, lt, inside))))
    (subst (R (get_or xs i d)) (sym (get_or_append_left xs (y ∷ []) d j inside))
    (pairs i j d lt inside)))
    (λ here. let last : j ≡ length xs = omega (arith, here, below, long) in
    let front : i < length xs = omega (arith, last, lt) in
    subst (λ a. R a (get_or (xs ++ y ∷ []) j d)) (sym (get_or_append_left xs (y ∷ []) d i front))
    (subst (R (get_or xs i d)) (sym (get_or_push xs y d j (sym last)))
    (each_or (λ x. R x y) xs i d each front)))
    (cases_lt j (length xs))

-- something was seen of each index's list
pub seen_there : (p : TreePass) (i : ℕ) → i < (view p).terms.indexes
    → (zs : Entries) × (get_elem? (view p).seen i ≡ some zs)
seen_there p i below = let counted = p.all.1 in there (view p).seen i (omega (arith, below, counted))
  where
    there : (ls : List Entries) (k : ℕ) → k < length ls → (zs : Entries) × (get_elem? ls k ≡ some zs)
    there [] k less = absurd (omega (arith, less))
    there (l ∷ ls) zero less = (l, refl)
    there (l ∷ ls) (suc k) less = there ls k (omega (arith, less))

module _ (but : Exception) (v : View) (i : ℕ) (from : FieldList) (to : Option FieldList)
    (limit : ℕ) where
  abbrev ask : Ask
  ask = Scan from to limit

  -- nothing was said yet
  pub so_far_none : SaysSoFar but v v i from to limit (At from) [] []
  so_far_none = record {
    ranges = [];
    so_far = subst (λ n. IsSaidSoFar from to limit n (At from) []) (omega arith)
        (said_scans.nothing from to limit);
    pieces_are = refl;
    counted = refl;
    added = none_added;
    adds = held_adds v v v.held refl;
    said = refl;
    spares = none_spares v.terms.shape;
    as_taken = tt;
    rises = λ a b d lt below. absurd (omega (arith, below));
    least = λ ys at. tt;
    most = λ zs at. tt;
  }

  module _ (first : (zs : Entries) × (get_elem? v.seen i ≡ some zs)) (v0 v1 : View) (at : KeyPlace)
      (pieces : List Piece) (rows : Map)
      (so_far : SaysSoFar but v v0 i from to limit at pieces rows) where
    there : (zs : Entries) × (get_elem? v0.seen i ≡ some zs)
    there = let more = so_far.adds.seen i first.0 first.1 in (first.0 ++ more.0, more.1)

    -- what was seen before is still seen
    still_most : SeesMore v0 v1 → (zs : Entries) → get_elem? v1.seen i ≡ some zs
        → AllByRecursion (λ (range : ReadRange). range.piece.point ≤ length zs) so_far.ranges
    still_most more zs now = each_weaker
        (λ (range : ReadRange). range.piece.point ≤ length there.0)
        (λ (range : ReadRange). range.piece.point ≤ length zs) (λ range before.
        (let grown = more i there.0 there.1 in
        let same : there.0 ++ grown.0 ≡ zs =
        some-injective (there.0 ++ grown.0) zs (sym grown.1 ∙ now) in
        let long = ap length same in
        omega (arith, before, long, length-append there.0 grown.0))) so_far.ranges
        (so_far.most there.0 there.1)

    -- and then nothing
    pub so_far_silent : GoesSilently but v0 v1
        → SaysSoFar but v v1 i from to limit at pieces rows
    so_far_silent goes = record {
      ranges = so_far.ranges;
      so_far = so_far.so_far;
      pieces_are = so_far.pieces_are;
      counted = so_far.counted;
      added = both_added so_far.added goes.added;
      adds = adds_both v v0 v1 so_far.added goes.added so_far.adds goes.adds;
      said = ap (λ z. so_far.added.said ++ z) goes.silent
          ∙ (append-nil so_far.added.said ∙ so_far.said);
      spares = spares_both v.terms.shape so_far.added goes.added so_far.spares
          (spares_then v v0 so_far.added goes.added so_far.adds goes.spares);
      as_taken = both_but but so_far.added.references goes.added.references so_far.as_taken
          goes.as_taken;
      rises = so_far.rises;
      least = so_far.least;
      most = still_most goes.adds.seen;
    }

    -- one range more
    module _ (range : ReadRange) (piece : Piece) (rows' : Map)
        (one : SaysOne but v0 v1 i ask range) (low : range.low ≡ at) (is_for : IsRangeFor to range)
        (few : length range.piece.rows ≤ limit - length rows)
        (piece_is : piece_with piece range.piece.rows ≡ range.piece)
        (count : piece.count ≡ length range.piece.rows)
        (rows_are : rows' ≡ rows ++ range.piece.rows) where
      longer : length rows' ≡ length rows + length range.piece.rows
      longer = ap length rows_are ∙ length-append rows range.piece.rows

      rises : AllPairs Precedes (map mark_of_range (so_far.ranges ++ range ∷ []))
      rises = subst (AllPairs Precedes) (sym (map-append mark_of_range so_far.ranges (range ∷ [])))
          (pairs_more Precedes (map mark_of_range so_far.ranges) (mark_of_range range) so_far.rises
          (marks_before so_far.ranges (so_far.most there.0 there.1)))
        where
          marks_before : (ranges : List ReadRange)
              → AllByRecursion (λ (r : ReadRange). r.piece.point ≤ length there.0) ranges
              → AllByRecursion (λ (m : Mark). Precedes m (mark_of_range range))
              (map mark_of_range ranges)
          marks_before [] each = tt
          marks_before (r ∷ ranges) each =
              let now = one.least there.0 there.1 in let before = each.0 in
              (omega (arith, now, before), marks_before ranges each.1)

      pub so_far_more : SaysSoFar but v v1 i from to limit range.high (pieces ++ piece ∷ []) rows'
      so_far_more = record {
        ranges = so_far.ranges ++ range ∷ [];
        so_far = subst
            (λ n. IsSaidSoFar from to limit n range.high (so_far.ranges ++ range ∷ []))
            (let long = longer in omega (arith, long))
            (said_scans.one_more from to limit (limit - length rows) at so_far.ranges range
            so_far.so_far is_for low few);
        pieces_are = map-append (λ (r : ReadRange). r.piece) so_far.ranges (range ∷ [])
            ∙ (ap₂ (λ xs x. xs ++ x ∷ []) so_far.pieces_are (sym piece_is)
            ∙ (sym (pieces_more pieces piece rows range.piece.rows so_far.counted count)
            ∙ ap (scan_pieces (pieces ++ piece ∷ [])) (sym rows_are)));
        counted = (let told = told_more pieces piece in let long = longer in
            let before = so_far.counted in omega (arith, told, long, before, count));
        added = both_added so_far.added one.added;
        adds = adds_both v v0 v1 so_far.added one.added so_far.adds one.adds;
        said = ap₂ (λ xs ys. xs ++ ys) so_far.said
            (one.said ∙ ap (λ n. range_said i n ask range ∷ []) so_far.adds.numbers.low)
            ∙ sym (map-append (range_said i v.low ask) so_far.ranges (range ∷ []));
        spares = spares_both v.terms.shape so_far.added one.added so_far.spares
            (spares_then v v0 so_far.added one.added so_far.adds one.spares);
        as_taken = both_but but so_far.added.references one.added.references so_far.as_taken
            one.as_taken;
        rises = rises;
        least = λ ys at_first. each_append (λ (r : ReadRange). length ys ≤ r.piece.point)
            so_far.ranges (range ∷ []) (so_far.least ys at_first) (
              (let more = so_far.adds.seen i ys at_first in
                  let long = one.least (ys ++ more.0) more.1 in
                  omega (arith, long, length-append ys more.0)),
              tt,
            );
        most = λ zs now. each_append (λ (r : ReadRange). r.piece.point ≤ length zs) so_far.ranges
            (range ∷ []) (still_most one.adds.seen zs now) (one.most zs now, tt);
      }

-- other exceptions
pub so_far_but : (but other : Exception) (v v' : View) (i : ℕ) (from : FieldList)
    (to : Option FieldList) (limit : ℕ) (at : KeyPlace) (pieces : List Piece) (rows : Map)
    → ((q : Reference Object) → but q → other q)
    → SaysSoFar but v v' i from to limit at pieces rows
    → SaysSoFar other v v' i from to limit at pieces rows
so_far_but but other v v' i from to limit at pieces rows is s = record {
  ranges = s.ranges;
  so_far = s.so_far;
  pieces_are = s.pieces_are;
  counted = s.counted;
  added = s.added;
  adds = s.adds;
  said = s.said;
  spares = s.spares;
  as_taken = other_but but other (λ q so. inr (is q so)) s.added.references s.as_taken;
  rises = s.rises;
  least = s.least;
  most = s.most;
}
