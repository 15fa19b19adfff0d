-- The report of the lanes is legal.
use Rattle.std.proofs.Common.{◌≡◌, false, List, [], ◌∷◌, length, take, ap, sym, ◌∙◌, subst, ⊎_elim, arith}
use Rattle.std.proofs.lemmas.List.{length-map, take_all}
use Rattle.std.specs.List.{AllByRecursion, AllZip}
use Rattle.latch_law.specs.declared.knows.Entry.{Entry}
use Rattle.map_history.specs.Map.{MapChange, is_allowed, map_after}
use Rattle.map_history.specs.Operation.{Ask, Get, Make, Seek, Scan, is_scan}
use Rattle.map_history.specs.Report.{ScanPiece, Replied, LogFull, AnswerLine, Report, changes_at}
use Rattle.map_history.specs.LegalReport.{Line, Run, Answers, HasReplies, RepliesAt, IsInOrder, HasScans, ScansFor, HasLogFull, IsLogFull, IsLegalButRoom, IsLegalReport}
use Rattle.index_law.specs.Answers.{MadeChange}
use Rattle.forest_law.specs.State.{ForestState}
use Rattle.index_law.specs.State.{changes}
use Rattle.call_law.specs.Spoken.{View}
use Rattle.lane_law.specs.Worked.{AreInOrder}
use Rattle.lane_law.specs.Runs.{HasNoScan, RunsAll, AreEntries}
use Rattle.list_facts.proofs.Elements.{all_at, all_zip_at}
use Rattle.lane_law.proofs.SaidLemmas.{IsRepliedAt, IsFullAt}
use Rattle.lane_law.proofs.AnswerLemmas.{answer_so}
use Rattle.lane_law.proofs.EntryLemmas.{changes_same, changes_lawful, ok_named}
use Rattle.lane_law.proofs.RoomLemmas.{room}

forms_of : (lanes : List (List Line)) (told : List (List AnswerLine)) → AllZip AreInOrder lanes told → AllZip (AllZip Answers) lanes told
forms_of [] [] all = tt
forms_of [] (answers ∷ told) all = absurd all
forms_of (lines ∷ lanes) [] all = absurd all
forms_of (lines ∷ lanes) (answers ∷ told) all = (all.0.form, forms_of lanes told all.1)

-- only a scan has pieces
scans_for : (ask : Ask) (cs : List MapChange) (pieces : List ScanPiece) → is_scan ask ≡ false → ScansFor ask cs pieces
scans_for (Get k) cs pieces plain = tt
scans_for (Make c) cs pieces plain = tt
scans_for (Seek mode tuple) cs pieces plain = tt
scans_for (Scan from to limit) cs pieces plain = absurd cc

module _ (run : Run) (report : Report) (w : ForestState) (v : View) (plain : HasNoScan run) (all : RunsAll run report w v) (entries : AreEntries run report w) where
  replies : HasReplies run report
  replies lane place line reply point columns a other = ⊎_elim (λ h. absurd (other h.0)) (λ h. at h.1) (answer_so run report w v all lane place line (Replied reply point columns) a)
    where
      at : IsRepliedAt w line.op.index point line.op.ask reply → RepliesAt (changes_at report line.op.index) line.op.ask point reply
      at is = let within = is.within in subst (λ cs. RepliesAt cs line.op.ask point reply) (sym (changes_same run report w v all entries line.op.index is.list is.there))
          (record { within = omega (arith, length-map is.list (λ (e : Entry MadeChange). e.change.change)); reply_is = is.reply_is })

  in_order : IsInOrder run report
  in_order lane i lines answers at at' = (all_zip_at AreInOrder run.lanes report.lanes lane lines answers all.lanes at at').order i

  scans : HasScans run report
  scans lane place line pieces a = scans_for line.op.ask (changes_at report line.op.index) pieces
      (all_at (λ (l : Line). is_scan l.op.ask ≡ false) a.line_there.0 place line (all_at (λ (lines : List Line). AllByRecursion (λ (l : Line). is_scan l.op.ask ≡ false) lines) run.lanes lane a.line_there.0 plain a.line_there.1) a.line_there.2)

  log_full : HasLogFull run report
  log_full lane place line n columns a = at (answer_so run report w v all lane place line (LogFull n columns) a)
    where
      at : IsFullAt w line.op.index n line.op.ask → IsLogFull run.sizes.max_changes (changes_at report line.op.index) line.op.ask n
      at is =
          let within = is.within in
          let most = is.is_most in
          let bound = all.fits.bounded line.op.index is.list is.there in
          let counted : length (changes is.list) ≡ length is.list = length-map is.list (λ (e : Entry MadeChange). e.change.change) in
          let whole : take n (changes is.list) ≡ changes is.list = take_all n (changes is.list) (omega arith) in
          subst (λ cs. IsLogFull run.sizes.max_changes cs line.op.ask n) (sym (changes_same run report w v all entries line.op.index is.list is.there)) (record {
            is_most = is.is_most ∙ all.max_changes;
            is_length = omega arith;
            change = is.allowed.change;
            asked = is.allowed.asked;
            allowed = ap (λ cs. is_allowed (map_after cs) is.allowed.change) (sym whole) ∙ is.allowed.allowed;
          })

  but_room : IsLegalButRoom run report
  but_room = record {
    form = record { lanes = forms_of run.lanes report.lanes all.lanes; names = all.names; counts = all.counts };
    changes = record {
      lawful = changes_lawful run report w v all entries;
      named = entries.named;
      done = ok_named run report w v all entries;
    };
    answers = replies;
    order_in_lane = in_order;
    scans = scans;
    log_full = log_full;
  }

  pub legal : IsLegalReport run report
  legal = record { but_room = but_room; room = room run report w v all entries }
