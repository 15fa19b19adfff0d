use Rattle.std.proofs.Common.{◌≡◌, true, ap, sym, subst, ◌∙◌, refl}
use Rattle.latch_law.specs.declared.knows.Terms.{Terms}
use Rattle.latch_law.specs.Views.{holding}
use Rattle.latch_space.specs.Passes.{view}
use Rattle.map_history.specs.Columns.{may_stand}
use Rattle.map_history.specs.Operation as asked
use Rattle.map_history.specs.Report.{Columns}
use Rattle.map_history.specs.declared.columns.How.TheVariants as ways
use Rattle.latch_space.specs.Spaces.{IsPassOf}
use Rattle.learning.specs.declared.event.Event.TheVariants as event
use Rattle.search_info.specs.Passes.{knowledge}
use Rattle.key_tuple.specs.declared.mode.Mode.TheVariants.{Ge}
use Rattle.index_law.specs.Shape.{Shape}
use Rattle.call_law.proofs.TraceLemmas.{same_numbers}
use Rattle.forest_law.specs.declared.objects.Object.TheVariants as object
use Rattle.forest_world.specs.Held.{shape_of_pass}
use Rattle.search_info.specs.Tries.{TriesAfter}
use Rattle.buffer_pool.proofs.AgainLemmas.{passes_both}
use Rattle.leaf_search.proofs.KeyRowLemmas.{key_traces, told_hit}
use Rattle.leaf_search.proofs.SearchLemmas.{hit_stands}
use Rattle.leaf_search.proofs.TryLemmas.{of_tries}
use Rattle.index_engine.specs.Engines.{lessons_of}
use Rattle.leaf_changes.specs.Holds.{HoldsFreshAlone, HoldsKeyRow}
use Rattle.leaf_changes.specs.Says.{ReadsAndLeaves}
use Rattle.index_engine.specs.Traces.{IsFoundBy}
use Rattle.index_engine.proofs.ReadLemmas.{free_parts, key_whole, row_in_hand, row_searches, row_spot_there, searched_alone}
use Rattle.index_engine.proofs.FoundLemmas.{tells_found}
use Rattle.index_engine.proofs.WayLemmas.{by_search, about_key, tells_search}
use Rattle.index_engine.proofs.NumberLemmas.{answers_numbers}
use Rattle.index_engine.proofs.engine.Engine.get.Goals as goal

pub call-requires-clause-stands : goal.call-requires-clause-stands
call-requires-clause-stands g c = let hits = c.in-Row.ensures.searched in
    subst (λ n. may_stand (record { how = ways.Hit; note = n }) ≡ true) (sym hits.note_is)
    (hit_stands hits.learn)

pub read-requires-clause-held : goal.read-requires-clause-held
read-requires-clause-held g c = let engine = c.args.self.now in let p = c.args.pass.now.world in
    let row = c.in-Row in let call = c.call.result in let about = c.call.ensures.about in
    about_key (λ n k. HoldsKeyRow c.search.new.pass row.block n row.place k) c.args.index call.index
    c.args.key.now.tuple call.key.now.tuple (sym about.0) (sym (ap (λ k. k.tuple) about.1))
    (row_in_hand p c.search.new.pass (lessons_of c.args.pass.now) (knowledge c.search.new.learn)
    c.args.index c.args.key.now.tuple c.args.pass.now.nothing
    (key_whole engine p c.args.index c.args.key.now.tuple c.requires.key c.requires.own.0)
    (free_parts engine p c.requires.own.0 c.args.pass.now.nothing) row.ensures.fits row.block row.place row.note
    row.ensures.searched)

pub returns-in-Row-clause-told : goal.returns-in-Row-clause-told
returns-in-Row-clause-told g c = let engine = c.args.self.now in let p = c.args.pass.now.world in
    let q = c.search.new.pass in let r = c.read.new.pass in let i = c.args.index in
    let key = c.args.key.now.tuple in let row = c.in-Row in let l = lessons_of c.args.pass.now in
    let m = knowledge c.search.new.learn in let call = c.call.result in
    let about = c.call.ensures.about in let told = c.read.result in let out = c.read.new.out in
    let whole = key_whole engine p i key c.requires.key c.requires.own.0 in
    let free = free_parts engine p c.requires.own.0 c.args.pass.now.nothing in
    let spot = row_spot_there p q l m i key c.args.pass.now.nothing whole free row.ensures.fits
    row.block row.place row.note row.ensures.searched in
    let reads = about_key (λ n k. ReadsAndLeaves q row.block n (asked.Get k) told out r)
    call.index i call.key.now.tuple key about.0 (ap (λ k. k.tuple) about.1) c.read.ensures.told in
    let gave = reads.answers.gave in
    let found = row_searches p q l m i key c.args.pass.now.nothing whole free row.ensures.fits
    row.block row.place row.note row.ensures.searched in
    tells_search (view p) (view r) m i key ways.Hit (asked.Get key) told out gave.taken gave.frame
    (ap (λ (z : Columns). z.how) (c.read.ensures.columns ∙ c.call.ensures.found))
    (found.as_found (holding gave.taken (object.Frame gave.frame)) reads.held)
    (tells_found (IsFoundBy (shape_of_pass p) i key ways.Hit) p q r i key
    (record { block = row.block; spot = spot })
    (by_search p l i key (told_hit row.block spot row.note) q m found) (asked.Get key) told out
    reads.answers)

pub returns-in-Row-clause-searched : goal.returns-in-Row-clause-searched
returns-in-Row-clause-searched g c = let engine = c.args.self.now in
    let p = c.args.pass.now.world in let q = c.search.new.pass in let i = c.args.index in
    let key = c.args.key.now.tuple in let row = c.in-Row in let l = lessons_of c.args.pass.now in
    let m = knowledge c.search.new.learn in
    let spot = row_spot_there p q l m i key c.args.pass.now.nothing
    (key_whole engine p i key c.requires.key c.requires.own.0)
    (free_parts engine p c.requires.own.0 c.args.pass.now.nothing) row.ensures.fits row.block row.place row.note
    row.ensures.searched in
    record {
      searched = told_hit row.block spot row.note;
      between = q;
      trace = key_traces p q l m i Ge key row.block row.place row.note row.ensures.searched spot;
      told = c.read.ensures.columns ∙ c.call.ensures.found;
    }

pub returns-in-Row-clause-tried : goal.returns-in-Row-clause-tried
returns-in-Row-clause-tried g c = let engine = c.args.self.now in
    let p = c.args.pass.now.world in let i = c.args.index in let key = c.args.key.now.tuple in
    let row = c.in-Row in let l = lessons_of c.args.pass.now in
    let m = knowledge c.search.new.learn in
    subst (λ h. TriesAfter l i h m)
    (sym (ap (λ (z : Columns). z.how) (c.read.ensures.columns ∙ c.call.ensures.found)))
    (row_searches p c.search.new.pass l m i key c.args.pass.now.nothing
    (key_whole engine p i key c.requires.key c.requires.own.0)
    (free_parts engine p c.requires.own.0 c.args.pass.now.nothing) row.ensures.fits row.block
    row.place row.note row.ensures.searched).tried

pub returns-in-Row-clause-kept : goal.returns-in-Row-clause-kept
returns-in-Row-clause-kept g c = λ other. absurd (other c.read.ensures.found)

pub get-requires-clause-alone : goal.get-requires-clause-alone
get-requires-clause-alone g c = let engine = c.args.self.now in let p = c.args.pass.now.world in
    let searched = c.in-Leaf.searched in let call = c.call-in-Leaf.result in
    let about = c.call-in-Leaf.ensures.about in
    about_key (λ n k. HoldsFreshAlone c.search.new.pass searched.leaf.block n k searched.leaf.spot)
    c.args.index call.index c.args.key.now.tuple call.key.now.tuple (sym about.0)
    (sym (ap (λ k. k.tuple) about.1))
    (searched_alone p c.search.new.pass (lessons_of c.args.pass.now)
    (knowledge c.search.new.learn) c.args.index c.args.key.now.tuple c.args.pass.now.nothing
    (key_whole engine p c.args.index c.args.key.now.tuple c.requires.key c.requires.own.0)
    (free_parts engine p c.requires.own.0 c.args.pass.now.nothing) searched c.in-Leaf.ensures.searched.0)

pub returns-in-Leaf-clause-told : goal.returns-in-Leaf-clause-told
returns-in-Leaf-clause-told g c = let p = c.args.pass.now.world in let p0 = c.search.new.pass in
    let q = c.get.new.pass in let i = c.args.index in let key = c.args.key.now.tuple in
    let s = c.in-Leaf.searched in let m = knowledge c.search.new.learn in
    let call = c.call-in-Leaf.result in let about = c.call-in-Leaf.ensures.about in
    let told = c.get.result in let out = c.get.new.out in
    let reads = about_key
    (λ n k. ReadsAndLeaves p0 s.leaf.block n (asked.Get k) told out q)
    call.index i call.key.now.tuple key about.0 (ap (λ k. k.tuple) about.1) c.get.ensures.told in
    let gave = reads.answers.gave in let found = c.in-Leaf.ensures.searched.0 in
    tells_search (view p) (view q) m i key s.how (asked.Get key) told out gave.taken gave.frame
    (ap (λ (z : Columns). z.how) (c.get.ensures.columns ∙ c.call-in-Leaf.ensures.found))
    (found.as_found (holding gave.taken (object.Frame gave.frame)) reads.held)
    (tells_found (IsFoundBy (shape_of_pass p) i key s.how) p p0 q i key s.leaf
    (by_search p (lessons_of c.args.pass.now) i key s p0 m found)
    (asked.Get key) told out reads.answers)

pub returns-in-Leaf-clause-searched : goal.returns-in-Leaf-clause-searched
returns-in-Leaf-clause-searched g c = record {
  searched = c.in-Leaf.searched;
  between = c.search.new.pass;
  trace = c.in-Leaf.ensures.searched.1;
  told = c.get.ensures.columns ∙ c.call-in-Leaf.ensures.found;
}

pub returns-in-Leaf-clause-tried : goal.returns-in-Leaf-clause-tried
returns-in-Leaf-clause-tried g c = subst
    (λ h. TriesAfter (lessons_of c.args.pass.now) c.args.index h (knowledge c.search.new.learn))
    (sym (ap (λ (z : Columns). z.how) (c.get.ensures.columns ∙ c.call-in-Leaf.ensures.found)))
    c.in-Leaf.ensures.searched.0.tried

pub returns-in-Leaf-clause-own : goal.returns-in-Leaf-clause-own
returns-in-Leaf-clause-own g c = let q = c.get.new.pass in (
  record {
    pass = passes_both c.args.pass.now.world c.search.new.pass q c.search.ensures.own.0
        c.get.ensures.own.0;
    learn = c.search.ensures.learner.0;
    sizes = refl;
  },
  (
    subst (λ s. IsPassOf s q) c.call-in-Leaf.ensures.space c.get.ensures.own.1,
    c.search.ensures.learner.1,
  ),
)

pub returns-in-Row-clause-own : goal.returns-in-Row-clause-own
returns-in-Row-clause-own g c = let q = c.read.new.pass in (
  record {
    pass = passes_both c.args.pass.now.world c.search.new.pass q c.search.ensures.own.0
        c.read.ensures.own.0;
    learn = c.search.ensures.learner.0;
    sizes = refl;
  },
  (
    subst (λ s. IsPassOf s q) c.call.ensures.space c.read.ensures.own.1,
    c.search.ensures.learner.1,
  ),
)

pub invariant_of-pass : goal.invariant_of-pass
invariant_of-pass g c = let pass = c.args.pass.now in
    let row = c.in-Row in let hits = row.ensures.searched in
    let p = c.search.new.pass in let q = c.read.new.pass in let call = c.call.result in
    let tried = of_tries (lessons_of pass) c.args.index hits.guess.info event.Hit hits.learn
    (knowledge c.search.new.learn) hits.guess.learns in
    let numbers = same_numbers (view pass.world) (view p) (view q)
    hits.guess.hits.does.adds.numbers
    (answers_numbers p row.block call.index (asked.Get call.key.now.tuple) c.read.result
    c.read.new.out q c.read.ensures.told.answers) in
    record {
      nothing = c.read.ensures.nothing;
      most = pass.most ∙ ap (λ (t : Terms Shape). t.max_changes) (sym numbers.terms);
      low = tried.low ∙ (pass.low ∙ sym numbers.low);
      end = tried.end ∙ (pass.end ∙ sym numbers.end);
    }

pub invariant_of-pass-in-Leaf : goal.invariant_of-pass-in-Leaf
invariant_of-pass-in-Leaf g c = let pass = c.args.pass.now in
    let p = c.search.new.pass in let q = c.get.new.pass in
    let searched = c.in-Leaf.ensures.searched.0 in let tried = searched.tried in
    let call = c.call-in-Leaf.result in
    let numbers = same_numbers (view pass.world) (view p) (view q)
    searched.silently.does.adds.numbers
    (answers_numbers p c.in-Leaf.searched.leaf.block call.index (asked.Get call.key.now.tuple)
    c.get.result c.get.new.out q c.get.ensures.told.answers) in
    record {
      nothing = c.get.ensures.nothing;
      most = pass.most ∙ ap (λ (t : Terms Shape). t.max_changes) (sym numbers.terms);
      low = tried.low ∙ (pass.low ∙ sym numbers.low);
      end = tried.end ∙ (pass.end ∙ sym numbers.end);
    }
