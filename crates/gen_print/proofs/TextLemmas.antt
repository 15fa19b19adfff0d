-- The four parts of the text, one after another.
use Rattle.std.proofs.Common.{ℕ, Result, Ok, Err, List, ◌++◌}
use Rattle.std.specs.List.{flat_map, enumerate_from}
use Rattle.io_port.specs.declared.sink.Sink.{Ghosts}
use Rattle.report_print.specs.declared.halt.Halt.{Halt}
use Rattle.report_print.specs.Prints.{PrintsTo}
use Rattle.report_print.specs.Texts.{end_line}
use Rattle.report_print.proofs.PrintLemmas.{then_put, halted}
use Rattle.gen_print.specs.declared.printing.Generated.{Generated}
use Rattle.gen_print.specs.Texts.{gen_line, replies_line, rows_line, gen_text}

module _ {K : Type 0} (sink : Ghosts K) (g : Generated) where
  abbrev lanes : List ℕ
  lanes = flat_map replies_line (enumerate_from 1 g.replies.now)

  -- a part wasn't put whole, behind those that were
  pub first_halts : (k l : K) (h : Halt) → PrintsTo sink k l (gen_line g) (Err h) → PrintsTo sink k l (gen_text g) (Err h)
  first_halts k l h p = halted sink k l (gen_line g) (lanes ++ (rows_line g ++ end_line)) h p

  pub lanes_halt : (k l m : K) (h : Halt) → PrintsTo sink k l (gen_line g) (Ok tt) → PrintsTo sink l m lanes (Err h) → PrintsTo sink k m (gen_text g) (Err h)
  lanes_halt k l m h p q = then_put sink k l m (gen_line g) (lanes ++ (rows_line g ++ end_line)) (Err h) p (halted sink l m lanes (rows_line g ++ end_line) h q)

  pub rows_halt : (k l m n : K) (h : Halt) → PrintsTo sink k l (gen_line g) (Ok tt) → PrintsTo sink l m lanes (Ok tt) → PrintsTo sink m n (rows_line g) (Err h) → PrintsTo sink k n (gen_text g) (Err h)
  rows_halt k l m n h p q r = then_put sink k l n (gen_line g) (lanes ++ (rows_line g ++ end_line)) (Err h) p
      (then_put sink l m n lanes (rows_line g ++ end_line) (Err h) q (halted sink m n (rows_line g) end_line h r))

  -- the last line was put or not, behind all others
  pub text_put : (k l m n o : K) (r : Result (Unit {0}) Halt) → PrintsTo sink k l (gen_line g) (Ok tt) → PrintsTo sink l m lanes (Ok tt) → PrintsTo sink m n (rows_line g) (Ok tt) → PrintsTo sink n o end_line r → PrintsTo sink k o (gen_text g) r
  text_put k l m n o r p q s t = then_put sink k l o (gen_line g) (lanes ++ (rows_line g ++ end_line)) r p
      (then_put sink l m o lanes (rows_line g ++ end_line) r q (then_put sink m n o (rows_line g) end_line r s t))
