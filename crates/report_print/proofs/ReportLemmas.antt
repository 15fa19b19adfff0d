-- The five parts of a report, one after another.
use Rattle.std.proofs.Common.{◌≡◌, ℕ, Result, Ok, Err, List, ◌++◌, sym, subst, append_assoc}
use Rattle.io_port.specs.declared.sink.Sink.{Ghosts}
use Rattle.change_log.specs.Log.{ChangeNote}
use Rattle.map_history.specs.declared.counts.Counts.{Counts}
use Rattle.report_print.specs.declared.halt.Halt.{Halt}
use Rattle.report_print.specs.Prints.{PrintsTo}
use Rattle.report_print.specs.Texts.{first_line, lanes_text, indexes_text, statistics_text, end_line, report_text_of}
use Rattle.report_print.proofs.PrintLemmas.{then_put, halted}

nested : (a b c d e : List ℕ) → a ++ b ++ c ++ d ++ e ≡ a ++ (b ++ (c ++ (d ++ e)))
nested a b c d e = simp append_assoc

module _ {K : Type 0} (sink : Ghosts K) (names : List (List ℕ)) (answers : List (List (List ℕ))) (changes : List (List ChangeNote)) (counts : List Counts) where
  -- the parts behind the third, the second and the first
  abbrev behind_indexes : List ℕ
  behind_indexes = statistics_text names counts ++ end_line

  abbrev behind_lanes : List ℕ
  behind_lanes = indexes_text names changes ++ behind_indexes

  abbrev behind_first : List ℕ
  behind_first = lanes_text answers ++ behind_lanes

  -- a report is its first line, and what stands behind that
  from_first : (k l : K) (r : Result (Unit {0}) Halt) → PrintsTo sink k l (first_line ++ behind_first) r → PrintsTo sink k l (report_text_of names answers changes counts) r
  from_first k l r p = subst (λ t. PrintsTo sink k l t r) (sym (nested first_line (lanes_text answers) (indexes_text names changes) (statistics_text names counts) end_line)) p

  -- a part wasn't put whole, behind those that were
  pub first_halts : (k l : K) (h : Halt) → PrintsTo sink k l first_line (Err h) → PrintsTo sink k l (report_text_of names answers changes counts) (Err h)
  first_halts k l h p = from_first k l (Err h) (halted sink k l first_line behind_first h p)

  module _ (k l : K) (first : PrintsTo sink k l first_line (Ok tt)) where
    from_lanes : (z : K) (r : Result (Unit {0}) Halt) → PrintsTo sink l z behind_first r → PrintsTo sink k z (report_text_of names answers changes counts) r
    from_lanes z r p = from_first k z r (then_put sink k l z first_line behind_first r first p)

    pub lanes_halt : (m : K) (h : Halt) → PrintsTo sink l m (lanes_text answers) (Err h) → PrintsTo sink k m (report_text_of names answers changes counts) (Err h)
    lanes_halt m h p = from_lanes m (Err h) (halted sink l m (lanes_text answers) behind_lanes h p)

    module _ (m : K) (lanes : PrintsTo sink l m (lanes_text answers) (Ok tt)) where
      from_indexes : (z : K) (r : Result (Unit {0}) Halt) → PrintsTo sink m z behind_lanes r → PrintsTo sink k z (report_text_of names answers changes counts) r
      from_indexes z r p = from_lanes z r (then_put sink l m z (lanes_text answers) behind_lanes r lanes p)

      pub indexes_halt : (n : K) (h : Halt) → PrintsTo sink m n (indexes_text names changes) (Err h) → PrintsTo sink k n (report_text_of names answers changes counts) (Err h)
      indexes_halt n h p = from_indexes n (Err h) (halted sink m n (indexes_text names changes) behind_indexes h p)

      module _ (n : K) (indexes : PrintsTo sink m n (indexes_text names changes) (Ok tt)) where
        from_statistics : (z : K) (r : Result (Unit {0}) Halt) → PrintsTo sink n z behind_indexes r → PrintsTo sink k z (report_text_of names answers changes counts) r
        from_statistics z r p = from_indexes z r (then_put sink m n z (indexes_text names changes) behind_indexes r indexes p)

        pub statistics_halt : (o : K) (h : Halt) → PrintsTo sink n o (statistics_text names counts) (Err h) → PrintsTo sink k o (report_text_of names answers changes counts) (Err h)
        statistics_halt o h p = from_statistics o (Err h) (halted sink n o (statistics_text names counts) end_line h p)

        -- the last line was put or not, behind all others
        pub report_put : (o z : K) (r : Result (Unit {0}) Halt) → PrintsTo sink n o (statistics_text names counts) (Ok tt) → PrintsTo sink o z end_line r → PrintsTo sink k z (report_text_of names answers changes counts) r
        report_put o z r p q = from_statistics z r (then_put sink n o z (statistics_text names counts) end_line r p q)
