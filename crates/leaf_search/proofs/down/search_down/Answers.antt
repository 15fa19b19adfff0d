use Rattle.std.proofs.Common.{◌≤◌, sym, ap, subst, ◌∙◌, refl}
use Rattle.key_tuple.specs.Order.{byte_count}
use Rattle.key_tuple.specs.declared.TheConstants.{MAX_KEY_BYTES}
use Rattle.index_law.specs.Shape.{Shape}
use Rattle.forest_law.specs.State.{fields_for}
use Rattle.search_info.specs.Passes.{HasUnique}
use Rattle.leaf_search.proofs.DownLemmas.{went_shape, went_leaf, went_tables, went_room, taught_shape, taught_leaf, searches_down, way_finds}
use Rattle.leaf_search.proofs.FigureLemmas.{figures_bounded}
use Rattle.leaf_search.proofs.down.search_down.Goals as goal

pub learn_leaf-note-requires : goal.learn_leaf-note-requires
learn_leaf-note-requires g c =
    let went = c.descend-way.ensures.went in let key = c.args.key.now.tuple in
    let i = c.args.index in let before = sym (went_shape went) in
    let short : byte_count key ≤ MAX_KEY_BYTES = subst (λ k. byte_count k ≤ MAX_KEY_BYTES)
    c.tuple.ensures.fields c.is_within_limits.ensures.short in
    record {
      own = (c.requires.own.0, c.descend-way.ensures.own.1);
      learner = c.requires.learner;
      unique = subst (λ (s : Shape). HasUnique c.args.learner.now i (fields_for s i)) before
          c.requires.unique;
      figures = figures_bounded c.args.mode key went.is.page.is.page.rows c.descend-way.result.spot
          _ short (c.requires.fields ∙ ap (λ (s : Shape). fields_for s i) before) went.is.finds;
      leaf = went_leaf went;
      known = went.silently.does.known;
      tables = went_tables went c.requires.tables;
      room = went_room went c.requires.room;
    }

pub own_spot-spot-requires : goal.own_spot-spot-requires
own_spot-spot-requires g c =
    let taught = c.learn_leaf-note.ensures.taught in
    let went = c.descend-way.ensures.went in
    let before = sym (taught_shape _ _ _ _ _ _ _ _ taught ∙ went_shape went) in
    record {
      own = (c.requires.own.0, c.learn_leaf-note.ensures.own.1);
      fields = c.requires.fields ∙ ap (λ (s : Shape). fields_for s c.args.index) before;
      leaf = taught_leaf _ _ _ _ _ _ _ _ taught;
      known = taught.becomes.does.known;
      finds = way_finds went taught;
    }

pub returns-clause-went : goal.returns-clause-went
returns-clause-went g c =
    let taught = c.learn_leaf-note.ensures.taught in
    searches_down c.descend-way.ensures.went taught
    (record { block = c.descend-way.result.block; spot = c.own_spot-spot.result }) refl
    (c.own_spot-spot.ensures (taught_leaf _ _ _ _ _ _ _ _ taught))
