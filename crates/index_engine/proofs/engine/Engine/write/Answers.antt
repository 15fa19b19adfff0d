use Rattle.std.proofs.Common.{refl, sym, ◌≡◌, ap, subst, ◌∙◌, IfOk, OnErr}
use Rattle.std.proofs.lemmas.Result.{IfOk-weaker}
use Rattle.latch_law.specs.declared.knows.Terms.{Terms}
use Rattle.latch_space.specs.Passes.{view}
use Rattle.search_info.specs.Passes.{knowledge}
use Rattle.map_history.specs.declared.reply.Told.{Told}
use Rattle.map_history.specs.Report.{Columns}
use Rattle.map_history.specs.Told.{columns_told}
use Rattle.latch_space.specs.Spaces.{IsPassOf}
use Rattle.index_law.specs.Shape.{Shape}
use Rattle.call_law.proofs.TraceLemmas.{same_numbers}
use Rattle.leaf_changes.specs.Holds.{HoldsFreshAlone}
use Rattle.buffer_pool.proofs.AgainLemmas.{passes_both}
use Rattle.search_info.specs.Tries.{TriesAfter}
use Rattle.index_engine.specs.Engines.{lessons_of}
use Rattle.engine_law.specs.Says.{columns_by}
use Rattle.leaf_search.specs.Traces.{SearchTrace}
use Rattle.index_engine.specs.Searched.{SearchedFor}
use Rattle.index_engine.specs.Writes.{mode_of_write, write_asked, AnswersWrite, LeavesUnanswered}
use Rattle.index_engine.proofs.TryLemmas.{search_then_write, search_then_gives_up}
use Rattle.index_engine.proofs.WayLemmas.{by_search, about_key}
use Rattle.index_engine.proofs.NumberLemmas.{write_numbers}
use Rattle.index_engine.proofs.engine.Engine.write.Goals as goal

pub returns-clause-ok : goal.returns-clause-ok
returns-clause-ok g c = let p = c.args.pass.now.world in let p0 = c.find-searched.new.pass in
    let q = c.write_key.new.pass in let i = c.args.index in let key = c.args.key.now.tuple in
    let value = c.args.value.now in let s = c.find-searched.result in
    let m = knowledge c.find-searched.new.learn in let call = c.call-call.result in
    let about = c.call-call.ensures.about in
    search_then_write p p0 q i key value s.leaf s.how
    (by_search p (lessons_of c.args.pass.now) i key s p0 m c.find-searched.ensures.searched)
    (write_asked c.args.write key value) c.write_key.result
    (IfOk-weaker c.write_key.result (λ (told : Told). columns_told told ≡ columns_by call.found)
    (λ (told : Told). told.how ≡ s.how)
    (λ told same. ap (λ (z : Columns). z.how) (same ∙ c.call-call.ensures.found))
    c.write_key.ensures.columns)
    (about_key (λ n k. IfOk c.write_key.result
    (λ (told : Told). AnswersWrite p0 s.leaf.block n k value (write_asked c.args.write k value) told q))
    call.index i call.key.now.tuple key about.0 (ap (λ k. k.tuple) about.1) c.write_key.ensures.ok)

pub returns-clause-err : goal.returns-clause-err
returns-clause-err g c = let p = c.args.pass.now.world in let p0 = c.find-searched.new.pass in
    let q = c.write_key.new.pass in let i = c.args.index in let key = c.args.key.now.tuple in
    let value = c.args.value.now in let s = c.find-searched.result in
    let l = lessons_of c.args.pass.now in let m = knowledge c.find-searched.new.learn in
    let call = c.call-call.result in let about = c.call-call.ensures.about in
    let searched = c.find-searched.ensures.searched in
    search_then_gives_up p p0 q i key value s.leaf s.how (by_search p l i key s p0 m searched) l m
    searched.tried c.write_key.result
    (about_key (λ n k. OnErr c.write_key.result (LeavesUnanswered p0 s.leaf.block n k value q))
    call.index i call.key.now.tuple key about.0 (ap (λ k. k.tuple) about.1) c.write_key.ensures.err)

pub returns-clause-searched : goal.returns-clause-searched
returns-clause-searched g c = let i = c.args.index in let key = c.args.key.now.tuple in
    let mode = mode_of_write c.args.write in let s = c.find-searched.result in
    IfOk-weaker c.write_key.result
    (λ (told : Told). columns_told told ≡ columns_by c.call-call.result.found)
    (λ (told : Told). SearchedFor c.args.pass.now i mode key (columns_told told) _)
    (λ told same. record {
      searched = s;
      between = c.find-searched.new.pass;
      trace = subst (λ m. SearchTrace c.args.pass.now.world (lessons_of c.args.pass.now) i m key s
          c.find-searched.new.pass (knowledge c.find-searched.new.learn)) c.mode.ensures
          c.find-searched.ensures.trace;
      told = same ∙ c.call-call.ensures.found;
    }) c.write_key.ensures.columns

pub write_key-requires-clause-own : goal.write_key-requires-clause-own
write_key-requires-clause-own g c = subst (λ s. IsPassOf s c.find-searched.new.pass)
    (sym c.call-call.ensures.space) c.find-searched.ensures.own.1

pub write_key-requires-clause-alone : goal.write_key-requires-clause-alone
write_key-requires-clause-alone g c = let s = c.find-searched.result in let call = c.call-call.result in
    let about = c.call-call.ensures.about in
    about_key (λ n k. HoldsFreshAlone c.find-searched.new.pass s.leaf.block n k s.leaf.spot)
    c.args.index call.index c.args.key.now.tuple call.key.now.tuple (sym about.0)
    (sym (ap (λ k. k.tuple) about.1)) c.find-searched.ensures.held

pub returns-clause-own : goal.returns-clause-own
returns-clause-own g c = let q = c.write_key.new.pass in (
  record {
    pass = passes_both c.args.pass.now.world c.find-searched.new.pass q
        c.find-searched.ensures.own.0 c.write_key.ensures.own.0;
    learn = c.find-searched.ensures.learner.0;
    sizes = refl;
  },
  (
    subst (λ s. IsPassOf s q) c.call-call.ensures.space c.write_key.ensures.own.1,
    c.find-searched.ensures.learner.1,
  ),
)

pub returns-clause-tried : goal.returns-clause-tried
returns-clause-tried g c = let i = c.args.index in let l = lessons_of c.args.pass.now in
    let m = knowledge c.find-searched.new.learn in
    IfOk-weaker c.write_key.result
    (λ (told : Told). columns_told told ≡ columns_by c.call-call.result.found)
    (λ (told : Told). TriesAfter l i told.how m)
    (λ told same. subst (λ h. TriesAfter l i h m)
    (sym (ap (λ (z : Columns). z.how) (same ∙ c.call-call.ensures.found)))
    c.find-searched.ensures.searched.tried) c.write_key.ensures.columns

pub invariant_of-pass : goal.invariant_of-pass
invariant_of-pass g c = let pass = c.args.pass.now in
    let p = c.find-searched.new.pass in let q = c.write_key.new.pass in
    let searched = c.find-searched.ensures.searched in let tried = searched.tried in
    let call = c.call-call.result in let key = call.key.now.tuple in
    let value = c.args.value.now in
    let numbers = same_numbers (view pass.world) (view p) (view q)
    searched.silently.does.adds.numbers
    (write_numbers p q c.find-searched.result.leaf.block call.index key value
    (write_asked c.args.write key value) c.write_key.result c.write_key.ensures.ok
    c.write_key.ensures.err) in
    record {
      nothing = c.write_key.ensures.nothing;
      most = pass.most ∙ ap (λ (t : Terms Shape). t.max_changes) (sym numbers.terms);
      low = tried.low ∙ (pass.low ∙ sym numbers.low);
      end = tried.end ∙ (pass.end ∙ sym numbers.end);
    }

pub write_key-requires-clause-most : goal.write_key-requires-clause-most
write_key-requires-clause-most g c = c.from-most.ensures ∙ (c.args.pass.now.most
    ∙ ap (λ (t : Terms Shape). t.max_changes) (c.requires.own.0.1
    ∙ (sym c.find-searched.ensures.own.1.1 ∙ (write_key-requires-clause-own g c).1)))
