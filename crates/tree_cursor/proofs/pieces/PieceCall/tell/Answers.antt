use Rattle.std.proofs.Common.{rules, arith, ◌≡◌, ◌-◌, Bool, true, false, not, drop, sym, ap, subst, ◌∙◌, refl, None}
use Rattle.latch_law.specs.Fitting.{DidRead}
use Rattle.latch_space.specs.Passes.{view}
use Rattle.index_law.specs.Answers.{Piece}
use Rattle.index_law.specs.Rightness.{IsRight}
use Rattle.forest_law.specs.Law.{IsLawful}
use Rattle.forest_law.specs.References.{IsReference}
use Rattle.tree_cursor.specs.declared.filling.Ending.{Ending}
use Rattle.tree_cursor.specs.declared.filling.Ending.TheVariants.{Onward}
use Rattle.tree_cursor.specs.MapRows.{AreMapRows}
use Rattle.tree_cursor.specs.Pieces.{fields_lent, scan_lent}
use Rattle.tree_cursor.specs.Telling.{end_of, is_end}
use Rattle.tree_cursor.proofs.ReadLemmas.{may_fill}
use Rattle.tree_cursor.proofs.TellLemmas.{not_onward, counted, few, told_rows, tells_leaf}
use Rattle.tree_cursor.proofs.pieces.PieceCall.tell.Goals as goal
use Rattle.tree_cursor.proofs.pieces.PieceCall.tell.Goals.{in-Onward, in_default}

pub fill-requires-clause-leaf : goal.fill-requires-clause-leaf
fill-requires-clause-leaf g c =
    let h = c.requires.1.1.1.0.holds in (
      h.is.page,
      may_fill c.args.pass.now c.requires.1.1.0 c.args.block c.args.self.now.index h
          c.frame-found.result.now c.frame-found.ensures c.args.start g.low c.args.cursor.now
          c.requires.1.1.1.0 refl,
    )

pub overflow_sub-count : goal.overflow_sub-count
overflow_sub-count g c =
    let all = counted c.args.pass.now c.requires.1.1.0 c.args.block c.args.self.now.index
    c.frame-found.result.now c.frame-found.ensures c.args.start (fields_lent c.args.self.now.to)
    c.args.left c.args.rows.now c.fill.new.rows c.in_ok-ending.ending c.args.cursor.now
    c.fill.new.cursor c.in_ok-ending.ensures.ok c.requires.1.1.1.0.holds in
    let before = c.count-first.ensures in let after = c.count.ensures in
    omega (arith, all, before, after)

pub overflow_cast-count : goal.overflow_cast-count
overflow_cast-count g c =
    let most = few c.args.pass.now c.requires.1.1.0 c.args.block c.args.self.now.index
    c.frame-found.result.now c.frame-found.ensures c.args.start (fields_lent c.args.self.now.to)
    c.args.left c.args.rows.now c.fill.new.rows c.in_ok-ending.ending c.args.cursor.now
    c.fill.new.cursor c.in_ok-ending.ensures.ok c.requires.1.1.1.0.holds in
    let before = c.count-first.ensures in let after = c.count.ensures in
    let small = c.ranges.left in
    omega (arith, most, before, after, small)

pub say-point-requires : goal.say-point-requires
say-point-requires g c = λ κs sub.
    let rows = told_rows c.args.pass.now c.requires.1.1.0 c.args.block c.args.self.now.index
    c.frame-found.result.now c.frame-found.ensures c.args.start (fields_lent c.args.self.now.to)
    c.args.left c.args.rows.now c.fill.new.rows c.in_ok-ending.ending c.args.cursor.now
    c.fill.new.cursor c.in_ok-ending.ensures.ok g.low c.requires.1.1.1.0 c.requires.1.1.1.1 in (
      sub,
      (
        search rules,
        subst
            (λ n. AreMapRows (view c.args.pass.now) c.args.self.now.index g.low
            (end_of (fields_lent c.args.self.now.to) g.low (drop n c.fill.new.rows)
            c.fill.new.cursor c.in_ok-ending.ending) (drop n c.fill.new.rows))
            (sym c.count-first.ensures) rows,
      ),
    )

ended : (ending : Ending) (m : Bool) → (ending ≡ Onward → ⊥) → m ≡ false → not m ≡ is_end ending
ended ending m other is = ap not is ∙ sym (not_onward ending other)

went_on : (ending : Ending) (m : Bool) → ending ≡ Onward → m ≡ true → not m ≡ is_end ending
went_on ending m same is = ap not is ∙ sym (ap is_end same)

pub returns-clause-ok : goal.returns-clause-ok
returns-clause-ok g c = λ h.
    let end_is : not c.match-matches.matches ≡ is_end c.in_ok-ending.ending =
    elim c.match-matches.branch [
      | in-Onward w ↦ went_on c.in_ok-ending.ending c.match-matches.matches w.in-Onward.is
          w.matches-is
      | in_default w ↦ ended c.in_ok-ending.ending c.match-matches.matches w.in_default.not-Onward
          w.matches-is
    ] in
    let before = c.count-first.ensures in let after = c.count.ensures in
    tells_leaf c.args.pass.now c.requires.1.1.0 c.args.block c.args.self.now.index
    c.frame-found.result.now c.frame-found.ensures c.args.start (fields_lent c.args.self.now.to)
    c.args.left c.args.rows.now c.fill.new.rows c.in_ok-ending.ending c.args.cursor.now
    c.fill.new.cursor c.in_ok-ending.ensures.ok h g.low
    (scan_lent c.args.self.now.from c.args.self.now.to c.args.self.now.limit)
    (record { how = c.args.self.now.how; note = c.args.self.now.note })
    (record {
      point = c.say-point.result;
      count = c.count.result - c.count-first.result;
      end = not c.match-matches.matches;
    }) c.say-point.new.pass (omega (arith, before, after)) end_is
    (subst
    (λ n. DidRead IsLawful IsRight IsReference (view c.args.pass.now) c.args.self.now.index
    (Piece (scan_lent c.args.self.now.from c.args.self.now.to c.args.self.now.limit) g.low
    (end_of (fields_lent c.args.self.now.to) g.low (drop n c.fill.new.rows) c.fill.new.cursor
    c.in_ok-ending.ending) (drop n c.fill.new.rows) None
    (record { how = c.args.self.now.how; note = c.args.self.now.note })) c.say-point.result
    (view c.say-point.new.pass)) c.count-first.ensures c.say-point.ensures.told)
    c.say-point.ensures.kept
