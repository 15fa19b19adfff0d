-- What a pass says of a scan is a scan, and stays said.
use Rattle.std.proofs.Common.{refl, ◌≡◌, ℕ, ◌≤◌, Option, List, [], ◌∷◌, ◌++◌, length, map, sym, subst, ◌∙◌, arith, Contains}
use Rattle.std.proofs.lemmas.List.{length-map, map-append}
use Rattle.std.proofs.lemmas.List.Elements.{Contains-append_left, Contains-append_right}
use Rattle.std.specs.List.{AllByRecursion}
use mathlib.Core.Option.{some, some-injective}
use lib.ListN.{get_elem?}
use Rattle.list_facts.proofs.Each.{each_weaker, each_both}
use Rattle.list_facts.proofs.Elements.{get_contains}
use Rattle.list_facts.proofs.Places.{elem_from_get}
use Rattle.key_tuple.specs.Order.{FieldList}
use Rattle.latch_law.specs.declared.knows.Entry.{Entry}
use Rattle.latch_law.specs.Rule.{Fits}
use Rattle.latch_law.specs.Views.{both_parts}
use Rattle.map_history.specs.Map.{MapChange}
use Rattle.map_history.specs.Operation.{Ask, Get, Make, Seek, Scan}
use Rattle.map_history.specs.Report.{ScanPiece, Answer, Replied, LogFull, SpaceFull, Scanned}
use Rattle.map_history.specs.Scans.{IsScan}
use Rattle.index_law.specs.Answers.{MadeChange}
use Rattle.index_law.specs.Rightness.{IsRight}
use Rattle.index_law.specs.State.{Entries, changes}
use Rattle.forest_law.specs.References.{IsReference}
use Rattle.forest_law.specs.State.{ForestState}
use Rattle.call_law.specs.Spoken.{View, OwnAnswer}
use Rattle.call_law.specs.Trace.{Added, Adds}
use Rattle.scan_law.specs.ScanLaws.{ReadRange}
use Rattle.scan_law.specs.SaidScans.{HasMapRows}
use Rattle.scan_law.proofs.SaidLemmas.{said_scans}
use Rattle.said_scans.specs.Ranges.{range_said, SaysRange, SaysRanges, SaysScan, SaysPieces}
use Rattle.said_scans.specs.Laws.{SaidScansAreRight}

module _ (w : ForestState) (v : View) (fits : Fits IsRight IsReference w v) (i n : ℕ) (ask : Ask)
    (xs : Entries) (there : get_elem? w.lists i ≡ some xs) where
  -- a range that is said has its map's rows
  range_right : (range : ReadRange) → SaysRange v i n ask range → HasMapRows (changes xs) range
  range_right range says =
      let at = get_contains v.said (range_said i n ask range) says in
      let right = fits.so at.0 (range_said i n ask range)
      (elem_from_get v.said at.0 (range_said i n ask range) at.1) in
      let same : right.list ≡ xs = some-injective right.list xs (sym right.there ∙ there) in
      subst (λ (list : Entries). HasMapRows (changes list) range) same (record {
        within = (let point = right.point in
            omega (arith, point, length-map right.list (λ (e : Entry MadeChange). e.change.change)));
        rows = right.said refl;
      })

  ranges_right : (ranges : List ReadRange) → SaysRanges v i n ask ranges
      → AllByRecursion (HasMapRows (changes xs)) ranges
  ranges_right ranges says = each_weaker (SaysRange v i n ask) (HasMapRows (changes xs)) range_right
      ranges says

-- so the pieces are a scan of each list by which the ranges have their maps' rows
pieces_are_scan : (v : View) (i n : ℕ) (from : FieldList) (to : Option FieldList) (limit : ℕ)
    (pieces : List ScanPiece) (says : SaysScan v i n from to limit pieces) (cs : List MapChange)
    → AllByRecursion (HasMapRows cs) (says.first ∷ says.later) → IsScan from to limit cs pieces
pieces_are_scan v i n from to limit pieces says cs have =
    subst (IsScan from to limit cs) says.pieces_are
    (said_scans.is_scan from to limit cs says.first says.later says.is have)

right : (w : ForestState) (v : View) → Fits IsRight IsReference w v
    → (i n : ℕ) (from : FieldList) (to : Option FieldList) (limit : ℕ) (pieces : List ScanPiece)
    → SaysScan v i n from to limit pieces
    → (xs : Entries) → get_elem? w.lists i ≡ some xs → IsScan from to limit (changes xs) pieces
right w v fits i n from to limit pieces says xs there =
    pieces_are_scan v i n from to limit pieces says (changes xs)
    (ranges_right w v fits i n (Scan from to limit) xs there (says.first ∷ says.later) says.each)

-- what holds of each piece holds of each range's
range_pieces : (P : ScanPiece → Type 0) (ranges : List ReadRange)
    → AllByRecursion P (map (λ (range : ReadRange). range.piece) ranges)
    → AllByRecursion (λ (range : ReadRange). P range.piece) ranges
range_pieces P [] each = tt
range_pieces P (range ∷ ranges) each = (each.0, range_pieces P ranges each.1)

right_by_seen : (w : ForestState) (v : View) → Fits IsRight IsReference w v
    → (i n : ℕ) (from : FieldList) (to : Option FieldList) (limit : ℕ) (pieces : List ScanPiece)
    → SaysScan v i n from to limit pieces
    → (zs : Entries) → get_elem? v.seen i ≡ some zs
    → AllByRecursion (λ (piece : ScanPiece). piece.point ≤ length zs) pieces
    → IsScan from to limit (changes zs) pieces
right_by_seen w v fits i n from to limit pieces says zs seen points =
    let grown = fits.seen i zs seen in
    let ranges = says.first ∷ says.later in
    let have = ranges_right w v fits i n (Scan from to limit) (zs ++ grown.0) grown.1 ranges says.each
    in
    pieces_are_scan v i n from to limit pieces says (changes zs)
    (each_both (HasMapRows (changes (zs ++ grown.0)))
    (λ (range : ReadRange). range.piece.point ≤ length zs) (HasMapRows (changes zs))
    (stood grown.0) ranges have
    (range_pieces (λ (piece : ScanPiece). piece.point ≤ length zs) ranges
    (subst (AllByRecursion (λ (piece : ScanPiece). piece.point ≤ length zs)) (sym says.pieces_are)
    points)))
  where
    stood : (later : Entries) (range : ReadRange) → HasMapRows (changes (zs ++ later)) range
        → range.piece.point ≤ length zs → HasMapRows (changes zs) range
    stood later range has within = said_scans.stood (changes zs) (changes later) range
        (subst (λ cs. HasMapRows cs range)
        (map-append (λ (e : Entry MadeChange). e.change.change) zs later) has)
        (omega (arith, within, length-map zs (λ (e : Entry MadeChange). e.change.change)))

-- a pass whose own answers are among those of another one
record IsAmong (v w : View) : Type 0 where
  said : (q : OwnAnswer) → Contains v.said q → Contains w.said q

module _ (v w : View) (among : IsAmong v w) (i n : ℕ) where
  -- what it says, the other says
  pieces_among : (ask : Ask) (answer : Answer) → SaysPieces v i n ask answer
      → SaysPieces w i n ask answer
  pieces_among (Scan from to limit) (Scanned pieces) says = record {
    first = says.first;
    later = says.later;
    is = says.is;
    pieces_are = says.pieces_are;
    each = each_weaker (SaysRange v i n (Scan from to limit)) (SaysRange w i n (Scan from to limit))
        (λ (range : ReadRange) c. among.said (range_said i n (Scan from to limit) range) c)
        (says.first ∷ says.later) says.each;
  }
  pieces_among (Scan from to limit) (Replied reply point columns) says = tt
  pieces_among (Scan from to limit) (LogFull k columns) says = tt
  pieces_among (Scan from to limit) (SpaceFull columns) says = tt
  pieces_among (Get k) answer says = tt
  pieces_among (Make c) answer says = tt
  pieces_among (Seek mode tuple) answer says = tt

among_more : (v w : View) (added : Added) → Adds v w added → IsAmong v w
among_more v w added adds = record {
  said = λ q c. subst (λ qs. Contains qs q) (sym adds.said)
      (Contains-append_left v.said added.said q c);
}

-- ranges stay said while more is said
pub ranges_more : (v w : View) (added : Added) → Adds v w added
    → (i n : ℕ) (ask : Ask) (ranges : List ReadRange) → SaysRanges v i n ask ranges
    → SaysRanges w i n ask ranges
ranges_more v w added adds i n ask ranges says =
    each_weaker (SaysRange v i n ask) (SaysRange w i n ask)
    (λ (range : ReadRange) c. (among_more v w added adds).said (range_said i n ask range) c) ranges
    says

pub said_scans_are_right : SaidScansAreRight
said_scans_are_right = record {
  right = right;
  right_by_seen = right_by_seen;
  more = λ v w added adds i n. pieces_among v w (among_more v w added adds) i n;
  ahead = λ u v i n. pieces_among u (both_parts u v)
      (record { said = λ q c. Contains-append_left u.said v.said q c }) i n;
  behind = λ u v i n. pieces_among v (both_parts u v)
      (record { said = λ q c. Contains-append_right u.said v.said q c }) i n;
}
