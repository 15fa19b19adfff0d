use Rattle.std.proofs.Common.{false, inr, [], ◌∷◌, ◌++◌, Result, Ok, Err, OnOk, OnErr, ap, sym, subst, ◌∙◌, arith}
use Rattle.list_facts.proofs.Outcomes.{when_err}
use Rattle.latch_law.specs.declared.knows.Terms.{Terms}
use Rattle.latch_space.specs.Passes.{view}
use Rattle.search_info.specs.Passes.{knowledge}
use Rattle.index_law.specs.Shape.{Shape}
use Rattle.buffer_pool.proofs.SpaceLemmas.{objects_of}
use Rattle.tree_cursor.specs.Pieces.{fields_lent}
use Rattle.index_seeks.proofs.SeekLearnLemmas.{none_held}
use Rattle.index_scans.specs.ScanSteps.{TakesFirst, TellsFrom}
use Rattle.index_scans.specs.Scans.{StopsScan, TriesForScan}
use Rattle.index_scans.proofs.FoundLemmas.{found_tried}
use Rattle.index_scans.proofs.WholeLemmas.{from_goes, from_left, runs_none, runs_told, stops_at_once, stops_first, stops_later, tried_none, tried_more}
use Rattle.index_scans.proofs.scanning.scan_rows.Goals as goal

-- what follows where a call succeeded, and where it didn't
ok_then : {T E A B : Type 0} (result : Result T E) → OnOk result A → (A → B) → OnOk result B
ok_then (Ok x) a then = then a
ok_then (Err e) a then = tt

err_then : {T E A B : Type 0} (result : Result T E) → OnErr result A → (A → B) → OnErr result B
err_then (Ok x) a then = tt
err_then (Err e) a then = then a

either : {T E A B C : Type 0} (result : Result T E) → OnOk result A → OnErr result B → (A → C)
    → (B → C) → C
either (Ok x) a b one other = one a
either (Err e) a b one other = other b

pub returns-in_err-reserve-clause-err : goal.returns-in_err-reserve-clause-err
returns-in_err-reserve-clause-err g c =
    let v = view c.args.pass.now in let m = knowledge c.args.learn.now in
    let from = c.args.from.now.fields in let to = fields_lent c.args.to in
    when_err c.from_residual.result
    (subst (λ ps. StopsScan v v m c.args.index from to c.args.limit ps c.cut.new.self)
    (sym (c.reserve.ensures.items ∙ c.clear.ensures.items))
    (subst (λ rows. StopsScan v v m c.args.index from to c.args.limit [] rows)
    (sym c.cut.ensures) (stops_at_once c.args.pass.now m c.args.index from to c.args.limit)))

pub find_first-first-requires-clause-nothing : goal.find_first-first-requires-clause-nothing
find_first-first-requires-clause-nothing g c = let p = c.args.pass.now in
    none_held p (objects_of c.args.space.now p c.requires.own.0 c.requires.own.1)
    c.requires.nothing

pub returns-in_err-cursor-clause-tried : goal.returns-in_err-cursor-clause-tried
returns-in_err-cursor-clause-tried g c =
    let l = knowledge c.args.learn.now in let m = knowledge c.find_first-first.new.learn in
    let leaf = c.find_first-first.result in
    subst (λ ps. TriesForScan l c.args.index ps m) (sym c.in_err-cursor.ensures.lists.0)
    (inr (
      leaf.how,
      found_tried c.args.pass.now c.find_first-first.new.pass l m c.args.index
          c.args.from.now.fields leaf c.find_first-first.ensures.finds,
    ))

pub returns-in_err-cursor-clause-err : goal.returns-in_err-cursor-clause-err
returns-in_err-cursor-clause-err g c =
    let p = c.args.pass.now in let q = c.find_first-first.new.pass in let r = c.take_first.new.pass in
    let l = knowledge c.args.learn.now in let m = knowledge c.find_first-first.new.learn in
    let from = c.args.from.now.fields in let to = fields_lent c.args.to in
    let lists = c.in_err-cursor.ensures.lists in
    let below = c.requires.index in let lists_are = c.requires.own.0.lists in
    let terms = ap (λ (t : Terms Shape). t.indexes) c.requires.own.1.1 in
    when_err c.from_residual-in_err-cursor.result
    (subst (λ ps. StopsScan (view p) (view r) m c.args.index from to c.args.limit ps
    c.take_first.new.rows) (sym lists.0)
    (subst (λ rows. StopsScan (view p) (view r) m c.args.index from to c.args.limit [] rows)
    (sym lists.1)
    (stops_first p q r l m c.args.index from to c.args.limit c.find_first-first.result
    c.requires.nothing (omega (arith, below, lists_are, terms)) c.find_first-first.ensures.finds
    c.in_err-cursor.ensures.err)))

pub go_on-done-requires-clause-from : goal.go_on-done-requires-clause-from
go_on-done-requires-clause-from g c =
    let q = c.find_first-first.new.pass in let s = c.take_first.new.pass in
    let from = c.args.from.now.fields in let to = fields_lent c.args.to in
    let leaf = c.find_first-first.result in
    from_goes q c.args.index from to c.args.limit leaf c.take_first.new.pieces.items
    c.take_first.new.rows c.in-Some.cursor s
    (subst (λ o. TakesFirst q c.args.index from to c.args.limit leaf o
    c.take_first.new.pieces.items c.take_first.new.rows s) c.in-Some.is
    c.in_ok-cursor.ensures.ok)

pub go_on-done-requires-clause-left : goal.go_on-done-requires-clause-left
go_on-done-requires-clause-left g c =
    let q = c.find_first-first.new.pass in let s = c.take_first.new.pass in
    let from = c.args.from.now.fields in let to = fields_lent c.args.to in
    let leaf = c.find_first-first.result in
    from_left q c.args.index from to c.args.limit leaf c.take_first.new.pieces.items
    c.take_first.new.rows c.in-Some.cursor s
    (subst (λ o. TakesFirst q c.args.index from to c.args.limit leaf o
    c.take_first.new.pieces.items c.take_first.new.rows s) c.in-Some.is
    c.in_ok-cursor.ensures.ok)

pub returns-in-Some-clause-told : goal.returns-in-Some-clause-told
returns-in-Some-clause-told g c =
    let p = c.args.pass.now in let q = c.find_first-first.new.pass in
    let s = c.take_first.new.pass in let i = c.args.index in let limit = c.args.limit in
    let l = knowledge c.args.learn.now in let m = knowledge c.find_first-first.new.learn in
    let from = c.args.from.now.fields in let to = fields_lent c.args.to in
    let leaf = c.find_first-first.result in let firsts = c.take_first.new.pieces.items in
    let so_far = c.take_first.new.rows in let r = c.go_on-done.new.pass in
    let t : TellsFrom q i from to limit leaf false firsts so_far c.in-Some.cursor s =
    subst (λ o. TakesFirst q i from to limit leaf o firsts so_far s) c.in-Some.is
    c.in_ok-cursor.ensures.ok in
    let below = c.requires.index in let lists_are = c.requires.own.0.lists in
    let terms = ap (λ (x : Terms Shape). x.indexes) c.requires.own.1.1 in
    ok_then c.go_on-done.result c.go_on-done.ensures.ok
    (λ goes. runs_told p q r l m i from to limit leaf c.requires.nothing
    (omega (arith, below, lists_are, terms)) c.find_first-first.ensures.finds c.fits.ensures
    c.go_on-done.new.pieces.items c.go_on-done.new.rows
    (inr (inr (c.in-Some.cursor, s, firsts, so_far, t, goes))))

pub returns-in-Some-clause-runs : goal.returns-in-Some-clause-runs
returns-in-Some-clause-runs g c =
    let q = c.find_first-first.new.pass in let s = c.take_first.new.pass in
    let i = c.args.index in let limit = c.args.limit in
    let from = c.args.from.now.fields in let to = fields_lent c.args.to in
    let leaf = c.find_first-first.result in let firsts = c.take_first.new.pieces.items in
    let so_far = c.take_first.new.rows in
    let t : TellsFrom q i from to limit leaf false firsts so_far c.in-Some.cursor s =
    subst (λ o. TakesFirst q i from to limit leaf o firsts so_far s) c.in-Some.is
    c.in_ok-cursor.ensures.ok in
    ok_then c.go_on-done.result c.go_on-done.ensures.ok
    (λ goes. record {
      leaf = leaf;
      between = q;
      finds = c.find_first-first.ensures.finds;
      runs = inr (inr (c.in-Some.cursor, s, firsts, so_far, t, goes));
    })

pub returns-in-Some-clause-tried : goal.returns-in-Some-clause-tried
returns-in-Some-clause-tried g c =
    let q = c.find_first-first.new.pass in let s = c.take_first.new.pass in
    let i = c.args.index in let limit = c.args.limit in
    let l = knowledge c.args.learn.now in let m = knowledge c.find_first-first.new.learn in
    let from = c.args.from.now.fields in let to = fields_lent c.args.to in
    let leaf = c.find_first-first.result in let firsts = c.take_first.new.pieces.items in
    let so_far = c.take_first.new.rows in
    let t : TellsFrom q i from to limit leaf false firsts so_far c.in-Some.cursor s =
    subst (λ o. TakesFirst q i from to limit leaf o firsts so_far s) c.in-Some.is
    c.in_ok-cursor.ensures.ok in
    let tried = found_tried c.args.pass.now q l m i from leaf c.find_first-first.ensures.finds in
    either c.go_on-done.result c.go_on-done.ensures.ok c.go_on-done.ensures.err
    (λ goes. tried_more l m i leaf tried q from to limit firsts so_far c.in-Some.cursor s t
    c.go_on-done.new.pieces.items (goes.going ++ goes.last ∷ []) goes.pieces_are)
    (λ goes. tried_more l m i leaf tried q from to limit firsts so_far c.in-Some.cursor s t
    c.go_on-done.new.pieces.items goes.going goes.pieces_are)

pub returns-in-Some-clause-err : goal.returns-in-Some-clause-err
returns-in-Some-clause-err g c =
    let p = c.args.pass.now in let q = c.find_first-first.new.pass in
    let s = c.take_first.new.pass in let i = c.args.index in let limit = c.args.limit in
    let l = knowledge c.args.learn.now in let m = knowledge c.find_first-first.new.learn in
    let from = c.args.from.now.fields in let to = fields_lent c.args.to in
    let leaf = c.find_first-first.result in let firsts = c.take_first.new.pieces.items in
    let so_far = c.take_first.new.rows in let r = c.go_on-done.new.pass in
    let t : TellsFrom q i from to limit leaf false firsts so_far c.in-Some.cursor s =
    subst (λ o. TakesFirst q i from to limit leaf o firsts so_far s) c.in-Some.is
    c.in_ok-cursor.ensures.ok in
    let below = c.requires.index in let lists_are = c.requires.own.0.lists in
    let terms = ap (λ (x : Terms Shape). x.indexes) c.requires.own.1.1 in
    err_then c.go_on-done.result c.go_on-done.ensures.err
    (λ goes. stops_later p q r l m i from to limit leaf c.requires.nothing
    (omega (arith, below, lists_are, terms)) c.find_first-first.ensures.finds c.in-Some.cursor s
    firsts so_far t c.go_on-done.new.pieces.items c.go_on-done.new.rows goes)

pub returns-in-None-clause-told : goal.returns-in-None-clause-told
returns-in-None-clause-told g c =
    let p = c.args.pass.now in let q = c.find_first-first.new.pass in
    let r = c.take_first.new.pass in let i = c.args.index in let limit = c.args.limit in
    let l = knowledge c.args.learn.now in let m = knowledge c.find_first-first.new.learn in
    let from = c.args.from.now.fields in let to = fields_lent c.args.to in
    let leaf = c.find_first-first.result in let pieces = c.take_first.new.pieces.items in
    let rows = c.take_first.new.rows in
    let below = c.requires.index in let lists_are = c.requires.own.0.lists in
    let terms = ap (λ (x : Terms Shape). x.indexes) c.requires.own.1.1 in
    runs_told p q r l m i from to limit leaf c.requires.nothing
    (omega (arith, below, lists_are, terms)) c.find_first-first.ensures.finds
    c.fits-in-None.ensures pieces rows
    (runs_none q i from to limit leaf pieces rows r
    (subst (λ o. TakesFirst q i from to limit leaf o pieces rows r) c.in-None.is
    c.in_ok-cursor.ensures.ok))

pub returns-in-None-clause-runs : goal.returns-in-None-clause-runs
returns-in-None-clause-runs g c =
    let q = c.find_first-first.new.pass in let r = c.take_first.new.pass in
    let i = c.args.index in let limit = c.args.limit in
    let from = c.args.from.now.fields in let to = fields_lent c.args.to in
    let leaf = c.find_first-first.result in let pieces = c.take_first.new.pieces.items in
    let rows = c.take_first.new.rows in record {
      leaf = leaf;
      between = q;
      finds = c.find_first-first.ensures.finds;
      runs = runs_none q i from to limit leaf pieces rows r
          (subst (λ o. TakesFirst q i from to limit leaf o pieces rows r) c.in-None.is
          c.in_ok-cursor.ensures.ok);
    }

pub returns-in-None-clause-tried : goal.returns-in-None-clause-tried
returns-in-None-clause-tried g c =
    let q = c.find_first-first.new.pass in let r = c.take_first.new.pass in
    let i = c.args.index in let limit = c.args.limit in
    let l = knowledge c.args.learn.now in let m = knowledge c.find_first-first.new.learn in
    let from = c.args.from.now.fields in let to = fields_lent c.args.to in
    let leaf = c.find_first-first.result in let pieces = c.take_first.new.pieces.items in
    let rows = c.take_first.new.rows in
    tried_none l m i leaf
    (found_tried c.args.pass.now q l m i from leaf c.find_first-first.ensures.finds) q from to limit
    pieces rows r
    (subst (λ o. TakesFirst q i from to limit leaf o pieces rows r) c.in-None.is
    c.in_ok-cursor.ensures.ok)
