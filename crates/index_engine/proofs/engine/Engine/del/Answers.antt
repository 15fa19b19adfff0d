use Rattle.std.proofs.Common.{refl, sym, subst, ap, ◌∙◌}
use Rattle.map_history.specs.Report.{Columns}
use Rattle.latch_law.specs.declared.knows.Terms.{Terms}
use Rattle.latch_space.specs.Passes.{view}
use Rattle.search_info.specs.Passes.{knowledge}
use Rattle.latch_space.specs.Spaces.{IsPassOf}
use Rattle.index_law.specs.Shape.{Shape}
use Rattle.call_law.proofs.TraceLemmas.{same_numbers}
use Rattle.leaf_changes.specs.Holds.{HoldsFreshAlone}
use Rattle.buffer_pool.proofs.AgainLemmas.{passes_both}
use Rattle.search_info.specs.Tries.{TriesAfter}
use Rattle.index_engine.specs.Engines.{lessons_of}
use Rattle.index_engine.specs.Leaving.{AnswersDel}
use Rattle.index_engine.proofs.DelLemmas.{search_then_del}
use Rattle.index_engine.proofs.WayLemmas.{by_search, about_key}
use Rattle.index_engine.proofs.NumberLemmas.{del_numbers}
use Rattle.index_engine.proofs.engine.Engine.del.Goals as goal

pub returns-clause-told : goal.returns-clause-told
returns-clause-told g c = let p = c.args.pass.now.world in let p0 = c.find-searched.new.pass in
    let q = c.delete_key.new.pass in let i = c.args.index in let key = c.args.key.now.tuple in
    let s = c.find-searched.result in let m = knowledge c.find-searched.new.learn in
    let call = c.call-call.result in let about = c.call-call.ensures.about in let told = c.delete_key.result in
    search_then_del p p0 q i key s.leaf s.how
    (by_search p (lessons_of c.args.pass.now) i key s p0 m c.find-searched.ensures.searched) told
    (ap (λ (z : Columns). z.how) (c.delete_key.ensures.columns ∙ c.call-call.ensures.found))
    (about_key (λ n k. AnswersDel p0 s.leaf.block n k told q) call.index i call.key.now.tuple key
    about.0 (ap (λ k. k.tuple) about.1) c.delete_key.ensures.told)

pub returns-clause-searched : goal.returns-clause-searched
returns-clause-searched g c = record {
  searched = c.find-searched.result;
  between = c.find-searched.new.pass;
  trace = c.find-searched.ensures.trace;
  told = c.delete_key.ensures.columns ∙ c.call-call.ensures.found;
}

pub delete_key-requires-clause-own : goal.delete_key-requires-clause-own
delete_key-requires-clause-own g c = subst (λ s. IsPassOf s c.find-searched.new.pass)
    (sym c.call-call.ensures.space) c.find-searched.ensures.own.1

pub delete_key-requires-clause-alone : goal.delete_key-requires-clause-alone
delete_key-requires-clause-alone g c = let s = c.find-searched.result in let call = c.call-call.result in
    let about = c.call-call.ensures.about in
    about_key (λ n k. HoldsFreshAlone c.find-searched.new.pass s.leaf.block n k s.leaf.spot)
    c.args.index call.index c.args.key.now.tuple call.key.now.tuple (sym about.0)
    (sym (ap (λ k. k.tuple) about.1)) c.find-searched.ensures.held

pub returns-clause-own : goal.returns-clause-own
returns-clause-own g c = let q = c.delete_key.new.pass in (
  record {
    pass = passes_both c.args.pass.now.world c.find-searched.new.pass q
        c.find-searched.ensures.own.0 c.delete_key.ensures.own.0;
    learn = c.find-searched.ensures.learner.0;
    sizes = refl;
  },
  (
    subst (λ s. IsPassOf s q) c.call-call.ensures.space c.delete_key.ensures.own.1,
    c.find-searched.ensures.learner.1,
  ),
)

pub returns-clause-tried : goal.returns-clause-tried
returns-clause-tried g c = subst
    (λ h. TriesAfter (lessons_of c.args.pass.now) c.args.index h (knowledge c.find-searched.new.learn))
    (sym (ap (λ (z : Columns). z.how) (c.delete_key.ensures.columns ∙ c.call-call.ensures.found)))
    c.find-searched.ensures.searched.tried

pub invariant_of-pass : goal.invariant_of-pass
invariant_of-pass g c = let pass = c.args.pass.now in
    let p = c.find-searched.new.pass in let q = c.delete_key.new.pass in
    let searched = c.find-searched.ensures.searched in let tried = searched.tried in
    let call = c.call-call.result in
    let numbers = same_numbers (view pass.world) (view p) (view q)
    searched.silently.does.adds.numbers
    (del_numbers p q c.find-searched.result.leaf.block call.index call.key.now.tuple
    c.delete_key.result c.delete_key.ensures.told) in
    record {
      nothing = c.delete_key.ensures.nothing;
      most = pass.most ∙ ap (λ (t : Terms Shape). t.max_changes) (sym numbers.terms);
      low = tried.low ∙ (pass.low ∙ sym numbers.low);
      end = tried.end ∙ (pass.end ∙ sym numbers.end);
    }
