-- A report of one lane on one index is legal where these facts hold of its lines and entries.
use Rattle.std.proofs.Common.{◌≡◌, ◌≢◌, ℕ, zero, suc, true, false, cond, Some, List, [], ◌∷◌, ◌++◌, map, take, refl, sym, ap, ◌∙◌, subst, ◌==◌, codes}
use Rattle.std.proofs.Math.Dec.{eqb-zero-suc}
use Rattle.std.specs.List.{slice_get, AllZip, AllPairs, zip, AllByRecursion}
use Rattle.map_history.specs.declared.sizes.Sizes.{Sizes}
use Rattle.map_history.specs.Map.{MapChange, map_after, is_allowed, AreLawful}
use Rattle.map_history.specs.Reply.{MapReply, Value, Row, Done, Absent, Duplicate}
use Rattle.map_history.specs.Report.{Answer, AnswerLine, Replied, LogFull, SpaceFull, Scanned, ChangeLine, IndexPart, entries_at, changes_at, Columns, Report}
use Rattle.map_history.specs.LegalReport.{Line, Answers, columns_at, IsAnswered, NamesLine, IsNamed, RepliesAt, Precedes, marks_in, ScansFor, IsLegalReport, marks_of}
use Rattle.map_history.specs.Statistics.{counts_of}
use Rattle.report_examples.specs.Samples.{one_lane_run, one_lane_report, counts_told}
use Rattle.list_facts.proofs.Each.{each_get}
use Rattle.report_examples.proofs.EachPlace.{EachPlace, each_place, EachAnswer, each_answer, EachTwo, each_two}

-- an answer that fits the changes; none of these is a refusal for want of room
abbrev pub Fits : Report → List MapChange → Line → Answer → Type 0
Fits report changes line (Replied (Value v) point columns) = RepliesAt changes line.op.ask point (Value v)
Fits report changes line (Replied (Row k v) point columns) = RepliesAt changes line.op.ask point (Row k v)
Fits report changes line (Replied Done point columns) = IsNamed report 0 line point
Fits report changes line (Replied Absent point columns) = RepliesAt changes line.op.ask point Absent
Fits report changes line (Replied Duplicate point columns) = RepliesAt changes line.op.ask point Duplicate
Fits report changes line (LogFull n columns) = ⊥
Fits report changes line (SpaceFull columns) = ⊥
Fits report changes line (Scanned pieces) = ScansFor line.op.ask changes pieces

pub record FitsAll (sizes : Sizes) (lines : List Line) (answers : List AnswerLine) (entries : List ChangeLine) : Type 0 where
  pub form : AllZip Answers lines answers
  pub counts : counts_told answers ≡ counts_of (columns_at (one_lane_run sizes lines) (one_lane_report answers entries) 0)
  pub lawful : EachPlace (λ n c. is_allowed (map_after (take n (map (λ (e : ChangeLine). e.change) entries))) c ≡ true) (map (λ (e : ChangeLine). e.change) entries)
  pub named : EachPlace (λ n entry. NamesLine (one_lane_run sizes lines) (one_lane_report answers entries) 0 n entry) entries
  pub fits : EachAnswer (Fits (one_lane_report answers entries) (map (λ (e : ChangeLine). e.change) entries)) lines answers
  pub first_index : AllByRecursion (λ (line : Line). line.op.index ≡ 0) lines
  pub order : EachTwo Precedes (marks_in 0 (zip lines answers))

-- no mark is on another index
no_marks : (i : ℕ) (lines : List Line) (answers : List AnswerLine) → AllByRecursion (λ (line : Line). line.op.index ≡ 0) lines → marks_in (suc i) (zip lines answers) ≡ []
no_marks i [] answers a = refl
no_marks i (line ∷ lines) [] a = refl
no_marks i (line ∷ lines) (answer ∷ answers) a =
    let other : (line.op.index == suc i) ≡ false = ap (λ n. n == suc i) a.0 ∙ eqb-zero-suc i in
    ap (λ b. cond b (marks_of answer.answer) [] ++ marks_in (suc i) (zip lines answers)) other ∙ no_marks i lines answers a.1

module _ (sizes : Sizes) (lines : List Line) (answers : List AnswerLine) (entries : List ChangeLine) (all : FitsAll sizes lines answers entries) where
  -- the one lane is lane 0
  fit : (lane place : ℕ) (line : Line) (answer : Answer) → IsAnswered (one_lane_run sizes lines) (one_lane_report answers entries) lane place line answer → (lane ≡ 0) × Fits (one_lane_report answers entries) (map (λ (e : ChangeLine). e.change) entries) line answer
  fit zero place line answer h =
      let these : lines ≡ h.line_there.0 = cc (h.line_there.1) in
      let those : answers ≡ h.answer_there.0 = cc (h.answer_there.1) in (
        refl,
        each_answer (Fits (one_lane_report answers entries) (map (λ (e : ChangeLine). e.change) entries)) lines answers all.fits place line (record { line = line.line; answer = answer })
            (ap (λ ls. slice_get ls place) these ∙ h.line_there.2) (ap (λ rs. slice_get rs place) those ∙ h.answer_there.2),
      )
  fit (suc lane) place line answer h = absurd (cc (h.line_there.1))

  names : (i n : ℕ) (entry : ChangeLine) → slice_get (entries_at (one_lane_report answers entries) i) n ≡ Some entry → NamesLine (one_lane_run sizes lines) (one_lane_report answers entries) i n entry
  names zero n entry e = each_place (λ n entry. NamesLine (one_lane_run sizes lines) (one_lane_report answers entries) 0 n entry) entries all.named n entry e
  names (suc i) n entry e = absurd cc

  lawful_all : (i : ℕ) → AreLawful (changes_at (one_lane_report answers entries) i)
  lawful_all zero n c e = each_place (λ n c. is_allowed (map_after (take n (map (λ (e : ChangeLine). e.change) entries))) c ≡ true) (map (λ (e : ChangeLine). e.change) entries) all.lawful n c e
  lawful_all (suc i) n c e = absurd cc

  counts_all : (i : ℕ) (part : IndexPart) → slice_get (one_lane_report answers entries).indexes i ≡ Some part → part.counts ≡ counts_of (columns_at (one_lane_run sizes lines) (one_lane_report answers entries) i)
  counts_all zero part e = let is : record { name = codes "t"; entries = entries; counts = counts_told answers } ≡ part = cc in ap (λ (p : IndexPart). p.counts) (sym is) ∙ all.counts
  counts_all (suc i) part e = absurd cc

  order_all : (lane i : ℕ) (ls : List Line) (rs : List AnswerLine) → slice_get (lines ∷ []) lane ≡ Some ls → slice_get (answers ∷ []) lane ≡ Some rs → AllPairs Precedes (marks_in i (zip ls rs))
  order_all zero zero ls rs e f = let these : lines ≡ ls = cc in let those : answers ≡ rs = cc in subst (λ (vs : List AnswerLine). AllPairs Precedes (marks_in 0 (zip ls vs))) those (subst (λ (us : List Line). AllPairs Precedes (marks_in 0 (zip us answers))) these (each_two Precedes (marks_in 0 (zip lines answers)) all.order))
  order_all zero (suc i) ls rs e f = let these : lines ≡ ls = cc in let those : answers ≡ rs = cc in subst (λ (vs : List AnswerLine). AllPairs Precedes (marks_in (suc i) (zip ls vs))) those (subst (λ (us : List Line). AllPairs Precedes (marks_in (suc i) (zip us answers))) these (subst (AllPairs Precedes) (sym (no_marks i lines answers all.first_index)) (each_two Precedes [] tt)))
  order_all (suc lane) i ls rs e f = absurd cc

  done_all : (lane place : ℕ) (line : Line) (point : ℕ) (columns : Columns) → IsAnswered (one_lane_run sizes lines) (one_lane_report answers entries) lane place line (Replied Done point columns) → IsNamed (one_lane_report answers entries) lane line point
  done_all lane place line point columns h = let f = fit lane place line (Replied Done point columns) h in subst (λ n. IsNamed (one_lane_report answers entries) n line point) (sym f.0) f.1

  -- the line is on the one index
  on_index : (lane place : ℕ) (line : Line) (answer : Answer) → IsAnswered (one_lane_run sizes lines) (one_lane_report answers entries) lane place line answer → line.op.index ≡ 0
  on_index zero place line answer h =
      let these : lines ≡ h.line_there.0 = cc (h.line_there.1) in
      each_get (λ (l : Line). l.op.index ≡ 0) lines place line all.first_index (ap (λ ls. slice_get ls place) these ∙ h.line_there.2)
  on_index (suc lane) place line answer h = absurd (cc (h.line_there.1))

  replies_all : (lane place : ℕ) (line : Line) (reply : MapReply) (point : ℕ) (columns : Columns) → IsAnswered (one_lane_run sizes lines) (one_lane_report answers entries) lane place line (Replied reply point columns) → reply ≢ Done → RepliesAt (changes_at (one_lane_report answers entries) line.op.index) line.op.ask point reply
  replies_all lane place line reply point columns h other =
      subst (λ i. RepliesAt (changes_at (one_lane_report answers entries) i) line.op.ask point reply) (sym (on_index lane place line (Replied reply point columns) h)) (go reply other (fit lane place line (Replied reply point columns) h).1)
    where
      go : (reply : MapReply) → reply ≢ Done → Fits (one_lane_report answers entries) (map (λ (e : ChangeLine). e.change) entries) line (Replied reply point columns) → RepliesAt (map (λ (e : ChangeLine). e.change) entries) line.op.ask point reply
      go (Value v) ne f = f
      go (Row k v) ne f = f
      go Done ne f = absurd (ne refl)
      go Absent ne f = f
      go Duplicate ne f = f

  pub is_legal : IsLegalReport (one_lane_run sizes lines) (one_lane_report answers entries)
  is_legal = record {
    but_room = record {
      form = record { lanes = (all.form, tt); names = refl; counts = counts_all };
      changes = record { lawful = lawful_all; named = names; done = done_all };
      answers = replies_all;
      order_in_lane = order_all;
      scans = λ lane place line pieces h. subst (λ i. ScansFor line.op.ask (changes_at (one_lane_report answers entries) i) pieces) (sym (on_index lane place line (Scanned pieces) h)) (fit lane place line (Scanned pieces) h).1;
      log_full = λ lane place line n columns h. absurd (fit lane place line (LogFull n columns) h).1;
    };
    room = λ lane place line columns h. absurd (fit lane place line (SpaceFull columns) h).1;
  }
