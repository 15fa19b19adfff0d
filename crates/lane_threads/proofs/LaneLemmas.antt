-- A lane's work, one line more.
use Rattle.std.proofs.Common.{◌≡◌, ℕ, zero, suc, ◌+◌, ◌<◌, ◌≤◌, Option, None, false, cond, eqb, IfSome, IfOk, Result, Err, List, [], ◌∷◌, ◌++◌, length, length-append, get_or, set, take, replicate, refl, ap, ◌∙◌, sym, subst, arith, Some}
use Rattle.std.proofs.lemmas.List.{take_more, map-append, append-nil}
use Rattle.std.proofs.lemmas.List.Concat.{flat_map-append}
use Rattle.std.specs.List.{AllZip, slice_get, flat_map, zip}
use Rattle.list_facts.proofs.Elements.{zip_push}
use Rattle.list_facts.proofs.Places.{get_there}
use Rattle.change_log.specs.Log.{Log}
use Rattle.latch_space.proofs.Pointwise.{sees_each}
use Rattle.map_history.specs.declared.op.Op.{Op}
use Rattle.map_history.specs.declared.op.Op.TheVariants as op
use Rattle.map_history.specs.declared.reply.Reply.{Reply}
use Rattle.map_history.specs.declared.reply.Reply.TheVariants as word
use Rattle.map_history.specs.declared.reply.Told.{Told}
use Rattle.map_history.specs.Map.{Pair}
use Rattle.map_history.specs.Operation.{is_scan, operation_of}
use Rattle.map_history.specs.declared.counts.Counts.{Counts}
use Rattle.map_history.specs.Report.{Columns, Answer, AnswerLine}
use Rattle.map_history.specs.Spelling.{answer_text}
use Rattle.map_history.specs.Statistics.{counts_of}
use Rattle.map_history.specs.Told.{answer_of, columns_told}
use Rattle.map_history.specs.LegalReport as legal
use Rattle.map_history.specs.declared.line.Line.{Line}
use Rattle.map_history.specs.Lines.{line_text, line_texts}
use Rattle.index_engine.specs.declared.engine.Engine.{Engine}
use Rattle.index_engine.specs.declared.engine.EnginePass.{EnginePass}
use Rattle.index_engine.specs.Engines.{known, lessons_of, IsOf, IsSame, indexes_of}
use Rattle.engine_law.specs.Tells.{TellsOnce}
use Rattle.search_info.specs.Tries.{TriesAfter}
use Rattle.report_text.specs.Texts.{answer_line_text}
use Rattle.lane_law.specs.Merged.{notes_of}
use Rattle.lane_law.specs.Worked.{answered}
use Rattle.lane_law.proofs.JoinLemmas.{notes_more}
use Rattle.lane_law.proofs.TaughtLemmas.{taught_none, taught_more}
use Rattle.lane_law.proofs.WorkLemmas.{worked_none, plain_marks, worked_more}
use Rattle.lane_threads.specs.Workable.{IsWorkable, AreWorkable}
use Rattle.column_counts.specs.Counted.{AreCounts}
use Rattle.column_counts.specs.Sums.{sum_of}
use Rattle.column_counts.proofs.SumLemmas.{none_counted, counts_as, one_more}
use Rattle.lane_threads.specs.Works.{Works, told_notes}
use Rattle.lane_threads.proofs.NoteLemmas.{noted_by, columns_told_by}

-- no line, no work
pub works_none : (p : EnginePass) (texts : List (List ℕ)) (log : Log) (counts : List Counts) (n : ℕ) → texts ≡ [] → log.noted ≡ [] → n ≡ (known p).terms.indexes → counts ≡ replicate n (counts_of []) → Works p p [] texts log counts
works_none p texts log counts n empty none indexes zeros = record {
  answers = [];
  worked = worked_none (known p);
  taught = taught_none (lessons_of p);
  printed = empty;
  noted = none;
  counted = subst (λ (z : ℕ × List Counts). AreCounts z.0 (λ (i : ℕ). []) z.1) (λ i. (indexes i, sym zeros i)) (none_counted n);
}

long : (lines : List legal.Line) (answers : List AnswerLine) → AllZip legal.Answers lines answers → length answers ≡ length lines
long [] [] all = refl
long [] (y ∷ answers) all = absurd all
long (x ∷ lines) [] all = absurd all
long (x ∷ lines) (y ∷ answers) all = ap suc (long lines answers all.1)

-- the columns of an index with those of one answer more
columns_more : (i : ℕ) (lines : List legal.Line) (answers : List AnswerLine) (line : legal.Line) (answer : Answer) → length answers ≡ length lines
    → legal.columns_in i (zip (lines ++ line ∷ []) (answers ++ answered line answer ∷ [])) ≡ legal.columns_in i (zip lines answers) ++ cond (eqb line.op.index i) (legal.columns_of answer) []
columns_more i lines answers line answer long =
    let of = λ (x : legal.Line × AnswerLine). cond (eqb x.0.op.index i) (legal.columns_of x.1.answer) [] in
    ap (λ ps. flat_map of ps) (zip_push lines answers line (answered line answer) long)
    ∙ (flat_map-append of (zip lines answers) ((line, answered line answer) ∷ []) ∙ ap (λ s. legal.columns_in i (zip lines answers) ++ s) (append-nil (cond (eqb line.op.index i) (legal.columns_of answer) [])))

-- they are counted with those before them
counted_more : (indexes : ℕ) (lines : List legal.Line) (answers : List AnswerLine) (line : legal.Line) (answer : Answer) (columns : Columns) (counts counts' : List Counts) → length answers ≡ length lines → legal.columns_of answer ≡ columns ∷ []
    → AreCounts indexes (λ i. legal.columns_in i (zip lines answers)) counts → line.op.index < indexes → ((n : Counts) → slice_get counts line.op.index ≡ Some n → counts' ≡ set counts line.op.index (sum_of n (counts_of (columns ∷ []))))
    → AreCounts indexes (λ i. legal.columns_in i (zip (lines ++ line ∷ []) (answers ++ answered line answer ∷ []))) counts'
counted_more indexes lines answers line answer columns counts counts' long has counted below adds =
    let of = λ (i : ℕ). legal.columns_in i (zip lines answers) in
    let were = counted.long in
    let n = get_there counts line.op.index (omega (arith, below, were)) in
    counts_as indexes (λ i. of i ++ cond (eqb line.op.index i) (columns ∷ []) []) (λ i. legal.columns_in i (zip (lines ++ line ∷ []) (answers ++ answered line answer ∷ []))) counts'
    (λ i. ap (λ (cs : List Columns). of i ++ cond (eqb line.op.index i) cs []) (sym has) ∙ sym (columns_more i lines answers line answer long))
    (subst (AreCounts indexes (λ i. of i ++ cond (eqb line.op.index i) (columns ∷ []) [])) (sym (adds n.0 n.1)) (one_more indexes line.op.index of counts n.0 columns counted n.1))

-- one line more
pub works_more : (p q r : EnginePass) (lines : List legal.Line) (texts texts' : List (List ℕ)) (log log' : Log) (counts counts' : List Counts) (line : legal.Line) (told : Told) (row : Pair) (lane : ℕ)
    → Works p q lines texts log counts → line.op.index < length (known q).seen → line.op.index < (known p).terms.indexes → is_scan line.op.ask ≡ false → TellsOnce (known q) (known r) line.op.index line.op.ask told row → TriesAfter (lessons_of q) line.op.index told.how (lessons_of r) → lane ≡ (known p).low + 1
    → IfSome (answer_of line.op.ask told row) (λ a. texts' ≡ texts ++ answer_text line.line a ∷ []) → log'.noted ≡ log.noted ++ told_notes lane line told
    → ((n : Counts) → slice_get counts line.op.index ≡ Some n → counts' ≡ set counts line.op.index (sum_of n (counts_of (columns_told told ∷ []))))
    → Works p r (lines ++ line ∷ []) texts' log' counts'
works_more p q r lines texts texts' log log' counts counts' line told row lane works room below plain tells tried is added noted adds =
    let answer = tells.answer in
    let as_many = long lines works.answers works.worked.in_order.form in
    let columns = columns_told_by line.op.ask told.reply told.point told.how told.note row answer tells.is_told.is in
    let text : texts' ≡ texts ++ answer_text line.line answer ∷ [] = subst (λ o. IfSome o (λ a. texts' ≡ texts ++ answer_text line.line a ∷ [])) tells.is_told.is added in
    let note : told_notes lane line told ≡ notes_of (known p).low line answer = ap (λ n. told_notes n line told) is ∙ noted_by (known p).low line told.reply told.point told.how told.note row answer tells.is_told.is in
    record {
      answers = works.answers ++ answered line answer ∷ [];
      worked = worked_more (known p) (known q) (known r) lines works.answers line answer works.worked room (plain_marks line.op.ask answer plain tells.once.form) tells.once;
      taught = taught_more (lessons_of p) (lessons_of q) (lessons_of r) lines works.answers line answer (columns_told told) as_many columns works.taught tried;
      printed = text ∙ (ap (λ xs. xs ++ answer_text line.line answer ∷ []) works.printed ∙ sym (map-append answer_line_text works.answers (answered line answer ∷ [])));
      noted = noted ∙ ((λ i. works.noted i ++ note i) ∙ sym (notes_more (known p).low lines works.answers line answer as_many));
      counted = counted_more (known p).terms.indexes lines works.answers line answer (columns_told told) counts counts' as_many columns works.counted below adds;
    }

-- the line at a place can be worked
pub workable_at : (engine : Engine) (lines : List Line) (i : ℕ) (d : Line) → AreWorkable engine lines → i < length lines → IsWorkable engine (get_or lines i d)
workable_at engine [] i d all below = absurd (omega arith)
workable_at engine (l ∷ lines) zero d all below = all.0
workable_at engine (l ∷ lines) (suc i) d all below = workable_at engine lines i d all.1 (omega arith)

-- one that can is no scan
pub workable_plain : (engine : Engine) (line : Line) → IsWorkable engine line → is_scan (line_text line).op.ask ≡ false
workable_plain engine line can = pick line.op can
  where
    pick : (o : Op) → IsWorkable engine (record { line = line.line; op = o }) → is_scan (operation_of o).ask ≡ false
    pick (op.Get index key) c = refl
    pick (op.Put index key value) c = refl
    pick (op.Set index key value) c = refl
    pick (op.Del index key) c = refl
    pick (op.Seek index mode tuple) c = refl
    pick (op.Scan index from to limit) c = absurd c

-- its index is one of the engine's
pub workable_below : (engine : Engine) (line : Line) → IsWorkable engine line → (line_text line).op.index < indexes_of engine
workable_below engine line can = pick line.op can
  where
    pick : (o : Op) → IsWorkable engine (record { line = line.line; op = o }) → (operation_of o).index < indexes_of engine
    pick (op.Get index key) c = c.0
    pick (op.Put index key value) c = c.0
    pick (op.Set index key value) c = c.0
    pick (op.Del index key) c = c.0
    pick (op.Seek index mode tuple) c = c.0
    pick (op.Scan index from to limit) c = absurd c

-- and one that the pass knows
pub workable_seen : (engine : Engine) (pass : EnginePass) (line : Line) → IsOf engine pass → IsWorkable engine line → (line_text line).op.index < length (known pass).seen
workable_seen engine pass line own can =
    let terms : (known pass).terms.indexes ≡ indexes_of engine = ap (λ t. t.indexes) own.0.1 in
    let below = workable_below engine line can in
    sees_each pass.world (line_text line).op.index (omega (arith, below, terms))

-- the lines up to and with the one at a place
pub lines_more : (lines : List Line) (i : ℕ) (d : Line) → i < length lines → line_texts (take (i + 1) lines) ≡ line_texts (take i lines) ++ line_text (get_or lines i d) ∷ []
lines_more lines i d below = ap line_texts (take_more lines i d below) ∙ map-append line_text (take i lines) (get_or lines i d ∷ [])

-- a pass is the same before and after no call
pub same_none : (p : EnginePass) → IsSame p p
same_none p = record { pass = (refl, refl); learn = (refl, refl); sizes = refl }

-- the same pass before and after two calls
pub same_more : (p q r : EnginePass) → IsSame p q → IsSame q r → IsSame p r
same_more p q r a b = record { pass = (b.pass.0 ∙ a.pass.0, b.pass.1 ∙ a.pass.1); learn = (b.learn.0 ∙ a.learn.0, b.learn.1 ∙ a.learn.1); sizes = b.sizes ∙ a.sizes }

-- a line notes one change, or none
pub note_fits : (lane : ℕ) (line : legal.Line) (told : Told) → length (told_notes lane line told) ≤ 1
note_fits lane line told = pick told.reply told.point
  where
    pick : (reply : Reply) (point : Option ℕ) → length (told_notes lane line (record told { reply = reply; point = point })) ≤ 1
    pick word.Ok (Some p) = omega arith
    pick word.Ok None = omega arith
    pick word.Found point = omega arith
    pick word.Absent point = omega arith
    pick word.Duplicate point = omega arith
    pick word.SpaceFull point = omega arith
    pick (word.LogFull n) point = omega arith

-- where nothing is noted there are no notes
pub none_noted : (log : Log) → log.noted ≡ [] → length log.noted ≤ 0
none_noted log none = let e = ap length none in omega (arith, e)

-- with a line's notes there are no more than one for each line
pub few_noted : (log log' : Log) (lane : ℕ) (line : legal.Line) (told : Told) (i : ℕ) → log'.noted ≡ log.noted ++ told_notes lane line told → length log.noted ≤ i → length log'.noted ≤ i + 1
few_noted log log' lane line told i noted few = let e = ap length noted in omega (arith, few, note_fits lane line told, e, length-append log.noted (told_notes lane line told))

-- so there is room for a line's notes
pub room_for_notes : (log : Log) (i lines : ℕ) → log.room ≡ lines → length log.noted ≤ i → i < lines → length log.noted < log.room
room_for_notes log i lines room few below = omega (arith, room, few, below)

-- an error promises nothing of what was to be made
pub nothing_promised : {T E : Type 0} (r : Result T E) (e : E) (P : T → Type 0) → r ≡ Err e → IfOk r P
nothing_promised r e P is = subst (λ x. IfOk x P) (sym is) tt
