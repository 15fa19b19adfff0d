-- A scan that was said to its end was answered once.
use Rattle.std.proofs.Common.{◌≡◌, ◌≢◌, inl, inr, ℕ, ◌+◌, ◌-◌, ◌≤◌, true, Option, List, [], ◌∷◌, length, map, sym, ap, subst, ◌∙◌, refl, arith, Contains}
use Rattle.std.proofs.lemmas.List.Elements.{Contains-append_right}
use Rattle.std.specs.List.{AllByRecursion, AllPairs}
use Rattle.list_facts.proofs.Elements.{contains_cases, contains_none, contains_head, contains_tail}
use Rattle.key_tuple.specs.Order.{FieldList}
use Rattle.key_tuple.specs.KeyPlace.{KeyPlace}
use Rattle.map_history.specs.Columns.{pieces_may_stand}
use Rattle.map_history.specs.LegalReport.{Mark, Precedes, marks_of}
use Rattle.map_history.specs.Map.{Map}
use Rattle.map_history.specs.Operation.{Ask, Scan}
use Rattle.map_history.specs.Report.{ScanPiece, Scanned}
use Rattle.map_history.specs.declared.reply.Piece.{Piece}
use Rattle.call_law.specs.Once.{AnswersOnce}
use Rattle.call_law.specs.Spoken.{View, Spoken, OwnAnswer, spoken, spoken_piece}
use Rattle.call_law.specs.Trace.{AreGivenAt, fulls}
use Rattle.buffer_pool.specs.AsTaken.{Exception}
use Rattle.buffer_pool.specs.Forests.{IsFittedTree}
use Rattle.scan_law.specs.ScanLaws.{ReadRange}
use Rattle.scan_law.specs.SaidScans.{EndsScan, IsSaidSoFar}
use Rattle.scan_law.specs.ScanPieces.{scan_pieces}
use Rattle.said_scans.specs.Ranges.{range_said, SaysRange, SaysScan}
use Rattle.said_scans.proofs.ScanLemmas.{said_scans_are_right}
use Rattle.index_scans.specs.Scans.{mark_of_range, SaysSoFar}

-- what ranges say, as it is printed
pub ranges_given : (i n : ℕ) (ask : Ask) (ranges : List ReadRange)
    → AreGivenAt i n (map (range_said i n ask) ranges)
ranges_given i n ask [] = tt
ranges_given i n ask (range ∷ ranges) = ((refl, refl), ranges_given i n ask ranges)

pub ranges_spoken : (i n : ℕ) (ask : Ask) (ranges : List ReadRange)
    → spoken (map (range_said i n ask) ranges)
    ≡ map (λ (x : ScanPiece). spoken_piece i x.point n ask x.columns)
    (map (λ (range : ReadRange). range.piece) ranges)
ranges_spoken i n ask [] = refl
ranges_spoken i n ask (range ∷ ranges) =
    ap (λ (rest : List Spoken). spoken_piece i range.piece.point n ask range.piece.columns ∷ rest)
    (ranges_spoken i n ask ranges)

pub ranges_fulls : (i n : ℕ) (ask : Ask) (ranges : List ReadRange)
    → fulls (map (range_said i n ask) ranges) ≡ []
ranges_fulls i n ask [] = refl
ranges_fulls i n ask (range ∷ ranges) = ranges_fulls i n ask ranges

-- what is so of each range is so of each mark
pub each_mark : (P : ReadRange → Type 0) (Q : Mark → Type 0)
    → ((range : ReadRange) → P range → Q (mark_of_range range)) → (ranges : List ReadRange)
    → AllByRecursion P ranges → (m : Mark) → Contains (map mark_of_range ranges) m → Q m
each_mark P Q is [] each m among = absurd (contains_none m among)
each_mark P Q is (range ∷ ranges) each m among =
    elim (contains_cases (mark_of_range range) m (map mark_of_range ranges) among) [
      | inl here ↦ subst Q here (is range each.0)
      | inr there ↦ each_mark P Q is ranges each.1 m there
    ]

pub each_piece : (P : ScanPiece → Type 0) (ranges : List ReadRange)
    → AllByRecursion (λ (range : ReadRange). P range.piece) ranges
    → AllByRecursion P (map (λ (range : ReadRange). range.piece) ranges)
each_piece P [] each = tt
each_piece P (range ∷ ranges) each = (each.0, each_piece P ranges each.1)

marks_same : (ranges : List ReadRange) → map mark_of_range ranges
    ≡ map (λ (x : ScanPiece). record { point = x.point; grows = 0 })
    (map (λ (range : ReadRange). range.piece) ranges)
marks_same [] = refl
marks_same (range ∷ ranges) = ap (λ (ms : List Mark). mark_of_range range ∷ ms) (marks_same ranges)

each_said : (said : List OwnAnswer) (i n : ℕ) (ask : Ask) (ranges : List ReadRange)
    → ((q : OwnAnswer) → Contains (map (range_said i n ask) ranges) q → Contains said q)
    → AllByRecursion (λ (range : ReadRange). Contains said (range_said i n ask range)) ranges
each_said said i n ask [] among = tt
each_said said i n ask (range ∷ ranges) among = (
  among (range_said i n ask range) (contains_head (range_said i n ask range)
      (map (range_said i n ask) ranges)),
  each_said said i n ask ranges (λ q c. among q (contains_tail (range_said i n ask range) q
      (map (range_said i n ask) ranges) c)),
)

module _ (but : Exception) (v v' : View) (i : ℕ) (from : FieldList) (to : Option FieldList)
    (limit : ℕ) (at : KeyPlace) (pieces : List Piece) (rows : Map)
    (so_far : SaysSoFar but v v' i from to limit at pieces rows)
    (ended : EndsScan to (limit - length rows) at) (fitted : IsFittedTree v')
    (stands : pieces_may_stand (scan_pieces pieces rows) ≡ true)
    (some : pieces ≢ []) where
  abbrev ask : Ask
  ask = Scan from to limit

  abbrev told : List ScanPiece
  told = scan_pieces pieces rows

  pub marks : map mark_of_range so_far.ranges ≡ marks_of (Scanned told)
  marks = marks_same so_far.ranges
      ∙ ap (map (λ (x : ScanPiece). record { point = x.point; grows = 0 })) so_far.pieces_are

  pub says : SaysScan v' i v.low from to limit told
  says = go so_far.ranges refl
    where
      each : AllByRecursion (SaysRange v' i v.low ask) so_far.ranges
      each = each_said v'.said i v.low ask so_far.ranges (λ q c.
          subst (λ qs. Contains qs q) (sym so_far.adds.said)
          (Contains-append_right v.said so_far.added.said q
          (subst (λ qs. Contains qs q) (sym so_far.said) c)))

      no_pieces : (ps : List Piece) → ps ≢ [] → [] ≡ scan_pieces ps rows → ⊥
      no_pieces [] other e = other refl
      no_pieces (p ∷ ps) other e = absurd cc

      go : (ranges : List ReadRange) → so_far.ranges ≡ ranges
          → SaysScan v' i v.low from to limit told
      go [] e = absurd (no_pieces pieces some
          (sym (ap (map (λ (range : ReadRange). range.piece)) e) ∙ so_far.pieces_are))
      go (first ∷ later) e = record {
        first = first;
        later = later;
        is = record {
          left = limit - length rows;
          at = at;
          so_far = subst (λ rs. IsSaidSoFar from to limit (limit - length rows) at rs) e
              so_far.so_far;
          ended = ended;
        };
        pieces_are = sym (ap (map (λ (range : ReadRange). range.piece)) e) ∙ so_far.pieces_are;
        each = subst (AllByRecursion (SaysRange v' i v.low ask)) e each;
      }

  unfoldable pub once : AnswersOnce v v' i ask (Scanned told)
  once = record {
    added = so_far.added;
    adds = so_far.adds;
    given = subst (AreGivenAt i v.low) (sym so_far.said)
        (ranges_given i v.low ask so_far.ranges);
    said = ap spoken so_far.said
        ∙ (ranges_spoken i v.low ask so_far.ranges
        ∙ ap (map (λ (x : ScanPiece). spoken_piece i x.point v.low ask x.columns))
        so_far.pieces_are);
    fulls = ap fulls so_far.said ∙ ranges_fulls i v.low ask so_far.ranges;
    form = stands;
    least = λ m ys among seen. each_mark (λ (range : ReadRange). length ys ≤ range.piece.point)
        (λ (x : Mark). length ys + x.grows ≤ x.point)
        (λ range long. omega (arith, long)) so_far.ranges (so_far.least ys seen) m
        (subst (λ ms. Contains ms m) (sym marks) among);
    most = λ m zs among seen. each_mark (λ (range : ReadRange). range.piece.point ≤ length zs)
        (λ (x : Mark). x.point ≤ length zs) (λ range long. long) so_far.ranges
        (so_far.most zs seen) m (subst (λ ms. Contains ms m) (sym marks) among);
    right = λ zs seen. said_scans_are_right.right_by_seen fitted.whole v' fitted.fits i v.low from to
        limit told says zs seen
        (subst (AllByRecursion (λ (piece : ScanPiece). piece.point ≤ length zs))
        so_far.pieces_are
        (each_piece (λ (piece : ScanPiece). piece.point ≤ length zs) so_far.ranges
        (so_far.most zs seen)));
  }

  pub rises : AllPairs Precedes (marks_of (Scanned told))
  rises = subst (AllPairs Precedes) marks so_far.rises
