use Rattle.std.proofs.Common.{◌≡◌, ◌≤◌, true, length, sym, ap, subst, ◌∙◌, inl, inr}
use Rattle.latch_space.specs.Passes.{view}
use Rattle.latch_space.specs.Spaces.{IsPassOf}
use Rattle.learning.specs.declared.event.Event.TheVariants as event
use Rattle.map_history.specs.declared.columns.How.TheVariants as ways
use Rattle.map_history.specs.Columns.{may_stand}
use Rattle.map_history.specs.Report.{Columns}
use Rattle.search_info.specs.Passes.{knowledge}
use Rattle.forest_law.specs.State.{fields_for}
use Rattle.forest_world.specs.Held.{shape_of_pass}
use Rattle.buffer_pool.proofs.SpaceLemmas.{objects_of}
use Rattle.buffer_pool.proofs.AgainLemmas.{passes_both}
use Rattle.hash_guess.specs.Guesses.{Guesses}
use Rattle.leaf_search.specs.Downs.{figures_at}
use Rattle.search_info.specs.Tries.{TriesAfter}
use Rattle.leaf_search.proofs.SearchLemmas.{hit_stands}
use Rattle.leaf_search.proofs.TryLemmas.{tries_after, of_tries}
use Rattle.index_seeks.specs.SeekHands.{HoldsHitAlone, HoldsLeafPair}
use Rattle.index_seeks.specs.SeekSteps.{AnswersHit, SeeksFrom}
use Rattle.list_facts.proofs.Places.{inside}
use Rattle.index_seeks.proofs.SeekHitLemmas.{hit_alone, hit_seeks}
use Rattle.index_seeks.proofs.SeekLearnLemmas.{none_held, about_seek, way_stands}
use Rattle.index_seeks.proofs.SeekMissLemmas.{miss_told, miss_tried}
use Rattle.index_seeks.proofs.row_seek.seek_row.Goals as goal

pub guess-requires-clause-known : goal.guess-requires-clause-known
guess-requires-clause-known g c = let p = c.args.pass.now in
    (none_held p (objects_of c.args.space.now p c.requires.own.0 c.requires.own.1) c.requires.nothing).known

pub guess-requires-clause-frames : goal.guess-requires-clause-frames
guess-requires-clause-frames g c = let p = c.args.pass.now in
    (none_held p (objects_of c.args.space.now p c.requires.own.0 c.requires.own.1) c.requires.nothing).frames

pub guess-requires-clause-tables : goal.guess-requires-clause-tables
guess-requires-clause-tables g c = let p = c.args.pass.now in
    (none_held p (objects_of c.args.space.now p c.requires.own.0 c.requires.own.1) c.requires.nothing).tables

pub guess-requires-clause-fields : goal.guess-requires-clause-fields
guess-requires-clause-fields g c = subst
    (λ t. length c.args.tuple.now.fields ≤ fields_for t.shape c.args.index) (sym c.requires.own.1.1)
    c.requires.fields

pub guess-requires-clause-index : goal.guess-requires-clause-index
guess-requires-clause-index g c = let unique = c.requires.unique in
    inside c.args.learner.now.settings.starts.items c.args.index unique.0 unique.1

pub seek_call-requires-clause-stands : goal.seek_call-requires-clause-stands
seek_call-requires-clause-stands g c =
    subst (λ n. may_stand (record { how = ways.Hit; note = n }) ≡ true)
    (sym c.note_of_hit-note.ensures) (hit_stands c.in-Hit.learn)

pub end_on_hit-requires-clause-held : goal.end_on_hit-requires-clause-held
end_on_hit-requires-clause-held g c = let p = c.args.pass.now in
    let q = c.guess.new.pass in let i = c.args.index in
    let mode = c.args.mode in let tuple = c.args.tuple.now.fields in let hit = c.in-Hit in
    let guessed = subst (λ z. Guesses p (knowledge c.args.learn.now) i mode tuple z q
    (knowledge c.guess.new.learn)) hit.is c.guess.ensures.did in
    let about = c.seek_call.ensures.about in let call = c.seek_call.result in
    about_seek (λ n m t. HoldsHitAlone q n m t hit.block hit.place) i call.index mode call.mode tuple
    call.tuple.now.fields (sym about.0) (sym about.1) (sym about.2)
    (hit_alone p q i mode tuple guessed.info hit.block hit.place hit.found
    (none_held p (objects_of c.args.space.now p c.requires.own.0 c.requires.own.1)
    c.requires.nothing) guessed.hits)

pub returns-in-Hit-clause-told : goal.returns-in-Hit-clause-told
returns-in-Hit-clause-told g c = let p = c.args.pass.now in
    let q = c.guess.new.pass in let r = c.end_on_hit.new.pass in let i = c.args.index in
    let mode = c.args.mode in let tuple = c.args.tuple.now.fields in let hit = c.in-Hit in
    let guessed = subst (λ z. Guesses p (knowledge c.args.learn.now) i mode tuple z q
    (knowledge c.guess.new.learn)) hit.is c.guess.ensures.did in
    let about = c.seek_call.ensures.about in let call = c.seek_call.result in
    let told = c.end_on_hit.result in let out = c.end_on_hit.new.out in
    hit_seeks p q r (knowledge c.guess.new.learn) i mode tuple guessed.info hit.block hit.place hit.found guessed.hits told out
    (ap (λ (z : Columns). z.how) c.end_on_hit.ensures.columns ∙ c.seek_call.ensures.found.0)
    (about_seek (λ n m t. AnswersHit q hit.block n m t told out r) call.index i call.mode mode
    call.tuple.now.fields tuple about.0 about.1 about.2 c.end_on_hit.ensures.told)

pub returns-in-Hit-clause-tried : goal.returns-in-Hit-clause-tried
returns-in-Hit-clause-tried g c = let p = c.args.pass.now in
    let q = c.guess.new.pass in let i = c.args.index in let l = knowledge c.args.learn.now in
    let m = knowledge c.guess.new.learn in let hit = c.in-Hit in
    let guessed = subst (λ z. Guesses p l i c.args.mode c.args.tuple.now.fields z q m) hit.is
    c.guess.ensures.did in
    let by = ap (λ (z : Columns). z.how) c.end_on_hit.ensures.columns
    ∙ c.seek_call.ensures.found.0 in
    subst (λ h. TriesAfter l i h m) (sym by)
    (tries_after l i ways.Hit m (of_tries l i guessed.info event.Hit hit.learn m guessed.learns))

pub find_pair-note-requires-clause-nothing : goal.find_pair-note-requires-clause-nothing
find_pair-note-requires-clause-nothing g c = let p = c.args.pass.now in
    let guessed = subst (λ z. Guesses p (knowledge c.args.learn.now) c.args.index c.args.mode
    c.args.tuple.now.fields z c.guess.new.pass (knowledge c.guess.new.learn)) c.in-Miss.is
    c.guess.ensures.did in
    guessed.keeps.count ∙ c.requires.nothing

pub seek_call-requires-in-Miss-clause-stands : goal.seek_call-requires-in-Miss-clause-stands
seek_call-requires-in-Miss-clause-stands g c = let found = c.find_pair-note.ensures.found in
    let pair = c.find_pair-note.result.0 in
    subst (λ h. may_stand (record { how = h; note = c.find_pair-note.result.1 }) ≡ true)
    (sym c.how_of.ensures)
    (way_stands found.between c.find_pair-note.new.pass (knowledge c.guess.new.learn)
    (knowledge c.find_pair-note.new.learn) c.args.index pair.leaf.block (figures_at pair.leaf.spot)
    c.find_pair-note.result.1 found.taught c.in-Miss.cause)

pub seek-requires-clause-held : goal.seek-requires-clause-held
seek-requires-clause-held g c = let r = c.find_pair-note.new.pass in
    let about = c.seek_call-in-Miss.ensures.about in let call = c.seek_call-in-Miss.result in
    let pair = c.find_pair-note.result.0 in
    about_seek (λ n m t. HoldsLeafPair r n m t pair.leaf pair.other) c.args.index call.index c.args.mode
    call.mode c.args.tuple.now.fields call.tuple.now.fields (sym about.0) (sym about.1) (sym about.2)
    c.find_pair-note.ensures.held

pub returns-in-Miss-clause-told : goal.returns-in-Miss-clause-told
returns-in-Miss-clause-told g c =
    let p = c.args.pass.now in let q = c.guess.new.pass in
    let r = c.find_pair-note.new.pass in let s = c.seek.new.pass in let i = c.args.index in
    let mode = c.args.mode in let tuple = c.args.tuple.now.fields in let l = knowledge c.args.learn.now in
    let n = knowledge c.guess.new.learn in let m = knowledge c.find_pair-note.new.learn in
    let guessed = subst (λ z. Guesses p l i mode tuple z q n) c.in-Miss.is c.guess.ensures.did in
    let pair = c.find_pair-note.result.0 in let about = c.seek_call-in-Miss.ensures.about in
    let call = c.seek_call-in-Miss.result in
    let how_is = ap (λ (z : Columns). z.how) c.seek.ensures.columns
    ∙ (c.seek_call-in-Miss.ensures.found.0 ∙ c.how_of.ensures) in
    miss_told p q r s l n m i mode tuple c.in-Miss.cause c.in-Miss.learn guessed pair
    c.find_pair-note.result.1 c.find_pair-note.ensures.found c.seek.result c.seek.new.out how_is
    (guessed.keeps.count ∙ c.requires.nothing) (about_seek (λ k m t. SeeksFrom (shape_of_pass r) (view r) (view s) pair.leaf.block k m t
    c.seek.result c.seek.new.out) call.index i call.mode mode call.tuple.now.fields tuple about.0 about.1
    about.2 c.seek.ensures.told)

pub returns-in-Miss-clause-tried : goal.returns-in-Miss-clause-tried
returns-in-Miss-clause-tried g c =
    let p = c.args.pass.now in let q = c.guess.new.pass in
    let r = c.find_pair-note.new.pass in let s = c.seek.new.pass in let i = c.args.index in
    let mode = c.args.mode in let tuple = c.args.tuple.now.fields in let l = knowledge c.args.learn.now in
    let n = knowledge c.guess.new.learn in let m = knowledge c.find_pair-note.new.learn in
    let guessed = subst (λ z. Guesses p l i mode tuple z q n) c.in-Miss.is c.guess.ensures.did in
    let pair = c.find_pair-note.result.0 in let about = c.seek_call-in-Miss.ensures.about in
    let call = c.seek_call-in-Miss.result in
    let how_is = ap (λ (z : Columns). z.how) c.seek.ensures.columns
    ∙ (c.seek_call-in-Miss.ensures.found.0 ∙ c.how_of.ensures) in
    miss_tried p q r s l n m i mode tuple c.in-Miss.cause c.in-Miss.learn guessed pair
    c.find_pair-note.result.1 c.find_pair-note.ensures.found c.seek.result c.seek.new.out how_is

pub returns-in-Hit-clause-searched : goal.returns-in-Hit-clause-searched
returns-in-Hit-clause-searched g c = let p = c.args.pass.now in
    let q = c.guess.new.pass in let hit = c.in-Hit in
    let call = c.seek_call.ensures.found in
    let note = call.1 ∙ c.note_of_hit-note.ensures in
    inl (record {
      between = q;
      block = hit.block;
      place = hit.place;
      found = hit.found;
      learn = hit.learn;
      guess = subst (λ z. Guesses p (knowledge c.args.learn.now) c.args.index c.args.mode
          c.args.tuple.now.fields z q (knowledge c.guess.new.learn)) hit.is c.guess.ensures.did;
      told = c.end_on_hit.ensures.columns ∙ (λ j. record { how = call.0 j; note = note j });
    })

pub returns-in-Miss-clause-searched : goal.returns-in-Miss-clause-searched
returns-in-Miss-clause-searched g c = let p = c.args.pass.now in
    let q = c.guess.new.pass in let miss = c.in-Miss in
    let call = c.seek_call-in-Miss.ensures.found in
    let how = call.0 ∙ c.how_of.ensures in
    inr (record {
      between = q;
      read = knowledge c.guess.new.learn;
      cause = miss.cause;
      learn = miss.learn;
      guess = subst (λ z. Guesses p (knowledge c.args.learn.now) c.args.index c.args.mode
          c.args.tuple.now.fields z q (knowledge c.guess.new.learn)) miss.is c.guess.ensures.did;
      after = c.find_pair-note.new.pass;
      pair = c.find_pair-note.result.0;
      note = c.find_pair-note.result.1;
      went = c.find_pair-note.ensures.found;
      told = c.seek.ensures.columns ∙ (λ j. record { how = how j; note = call.1 j });
    })

pub returns-in-Miss-clause-own : goal.returns-in-Miss-clause-own
returns-in-Miss-clause-own g c = let p = c.args.pass.now in let q = c.guess.new.pass in
    let r = c.find_pair-note.new.pass in let s = c.seek.new.pass in (
      passes_both p q s c.guess.ensures.own.0
          (passes_both q r s c.find_pair-note.ensures.own.0 c.seek.ensures.own.0),
      subst (λ z. IsPassOf z s) c.seek_call-in-Miss.ensures.space c.seek.ensures.own.1,
    )

pub returns-in-Miss-clause-learner : goal.returns-in-Miss-clause-learner
returns-in-Miss-clause-learner g c = let guess = c.guess.ensures.learner.0 in
    let found = c.find_pair-note.ensures.learner in
    ((found.0.0 ∙ guess.0, found.0.1 ∙ guess.1), found.1)

pub returns-in-Miss-clause-nothing : goal.returns-in-Miss-clause-nothing
returns-in-Miss-clause-nothing g c = c.seek.ensures.nothing

pub seek-requires-clause-own : goal.seek-requires-clause-own
seek-requires-clause-own g c = subst (λ s. IsPassOf s c.find_pair-note.new.pass)
    (sym c.seek_call-in-Miss.ensures.space) c.find_pair-note.ensures.own.1

pub returns-in-Hit-clause-own : goal.returns-in-Hit-clause-own
returns-in-Hit-clause-own g c = let q = c.guess.new.pass in let r = c.end_on_hit.new.pass in (
  passes_both c.args.pass.now q r c.guess.ensures.own.0 c.end_on_hit.ensures.own.0,
  subst (λ z. IsPassOf z r) c.seek_call.ensures.space c.end_on_hit.ensures.own.1,
)

pub returns-in-Hit-clause-nothing : goal.returns-in-Hit-clause-nothing
returns-in-Hit-clause-nothing g c = c.end_on_hit.ensures.nothing

pub returns-in-Hit-clause-learner : goal.returns-in-Hit-clause-learner
returns-in-Hit-clause-learner g c = c.guess.ensures.learner

pub end_on_hit-requires-clause-own : goal.end_on_hit-requires-clause-own
end_on_hit-requires-clause-own g c = subst (λ s. IsPassOf s c.guess.new.pass)
    (sym c.seek_call.ensures.space) c.guess.ensures.own.1
