use Rattle.std.proofs.Common.{◌<◌, inl, inr, refl, arith, sym, ap, subst, ◌∙◌}
use Rattle.latch_space.specs.Passes.{view}
use Rattle.list_facts.proofs.Places.{inside}
use Rattle.index_law.specs.Shape.{Shape}
use Rattle.forest_law.specs.State.{fields_for}
use Rattle.search_info.specs.Passes.{HasUnique, knowledge}
use Rattle.tree_descent.specs.Ways.{HoldsPage}
use Rattle.tree_descent.proofs.DescentLemmas.{vain_frames, vain_shape, vain_tables}
use Rattle.leaf_search.proofs.HitLemmas.{hit_leaf}
use Rattle.leaf_search.specs.Searches.{Searches}
use Rattle.leaf_search.proofs.KeyRowLemmas.{hits_key, told_hit}
use Rattle.leaf_search.proofs.SearchLemmas.{hit_whole, searches_hit, searches_down_too}
use Rattle.leaf_search.proofs.searching.search_key.Given as given
use Rattle.leaf_search.proofs.searching.search_key.Goals as goal
use Rattle.leaf_search.proofs.searching.search_key.Goals.{In-Hit}

pub guess-requires-clause-index : goal.guess-requires-clause-index
guess-requires-clause-index g c = let unique = c.requires.unique in
    inside c.args.learner.now.settings.starts.items c.args.index unique.0 unique.1

-- the leaf to which the hash led
abbrev led : (g : given.Over) (c : In-Hit g)
    → HoldsPage (view c.guess.new.pass) c.in-Hit.block c.args.index 0
led g c = let ensures = c.in-Hit.ensures in hit_leaf ensures.fits ensures.did.hits.hit
    (hit_whole c.requires.fields ensures.fits ensures.did)

pub leaf_is_in_order-requires : goal.leaf_is_in_order-requires
leaf_is_in_order-requires g c = record {
  own = (c.requires.own.0, c.in-Hit.ensures.own.1);
  leaf = led g (goal.at.leaf_is_in_order-requires g c).In-Hit;
  known = c.in-Hit.ensures.did.hits.does.known;
}

pub returns-then-found-clause-searched : goal.returns-then-found-clause-searched
returns-then-found-clause-searched g c = hits_key c.if-found.true c.in-Hit.ensures.did
    (c.leaf_is_in_order.ensures (led g (goal.at.returns-then-found-clause-searched g c).In-Hit))
    c.note_of_hit-note.ensures

pub key_spot-spot-requires : goal.key_spot-spot-requires
key_spot-spot-requires g c = let ensures = c.in-Hit.ensures in record {
  own = (c.requires.own.0, ensures.own.1);
  fields = hit_whole c.requires.fields ensures.fits ensures.did;
  leaf = led g (goal.at.key_spot-spot-requires g c).In-Hit;
  known = ensures.did.hits.does.known;
}

pub returns-else-found-clause-searched : goal.returns-else-found-clause-searched
returns-else-found-clause-searched g c = let arm = c.in-Hit in
    let leaf = led g (goal.at.returns-else-found-clause-searched g c).In-Hit in (
      subst (λ n. Searches c.args.pass.now (knowledge c.args.learn.now) c.args.index
          c.args.key.now.tuple (told_hit arm.block c.key_spot-spot.result n) c.guess.new.pass
          (knowledge c.guess.new.learn)) (sym c.note_of_hit-note.ensures)
          (searches_hit c.requires.fields arm.ensures.fits arm.ensures.did c.key_spot-spot.result
          (c.key_spot-spot.ensures leaf)),
      inl (record {
        place = arm.place;
        found = arm.found;
        learn = arm.learn;
        guess = arm.ensures.did;
        how_is = refl;
        note_is = c.note_of_hit-note.ensures;
      }),
    )

pub search_down-note-requires : goal.search_down-note-requires
search_down-note-requires g c =
    let keeps = c.in-Miss.ensures.did.keeps in let i = c.args.index in
    let before = sym (vain_shape c.args.pass.now c.guess.new.pass keeps) in
    record {
      own = (c.requires.own.0, c.in-Miss.ensures.own.1);
      learner = c.in-Miss.ensures.learner.1;
      index = subst (λ (s : Shape). i < s.indexes) before c.requires.index;
      unique = subst (λ (s : Shape). HasUnique c.args.learner.now i (fields_for s i)) before
          c.requires.unique;
      fields = c.requires.fields ∙ ap (λ (s : Shape). fields_for s i) before;
      known = keeps.silently.does.known;
      frames = vain_frames c.args.pass.now c.guess.new.pass keeps c.requires.frames;
      tables = vain_tables c.args.pass.now c.guess.new.pass keeps c.requires.tables;
      room = (let counted = keeps.count in let room = c.requires.room in
          omega (arith, counted, room));
    }

pub returns-in-Miss-clause-searched : goal.returns-in-Miss-clause-searched
returns-in-Miss-clause-searched g c =
    let did = c.in-Miss.ensures.did in let down = c.search_down-note in (
      subst (λ h. Searches c.args.pass.now (knowledge c.args.learn.now) c.args.index
          c.args.key.now.tuple (record { leaf = down.result.0; how = h; note = down.result.1 })
          down.new.pass (knowledge down.new.learn)) (sym c.how_of.ensures)
          (searches_down_too c.requires.fields did down.ensures.went),
      inr (record {
        between = c.guess.new.pass;
        read = c.guess.new.learn.seat.me.0;
        cause = c.in-Miss.cause;
        learn = c.in-Miss.learn;
        guess = did;
        how_is = c.how_of.ensures;
        down = down.ensures.went;
      }),
    )
