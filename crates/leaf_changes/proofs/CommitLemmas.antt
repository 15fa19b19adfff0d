-- A change that is committed while the leaf is held is right, and is the one that is told.
use Rattle.std.proofs.Common.{◌≡◌, ◌≢◌, ℕ, ◌+◌, ◌-◌, ◌<◌, true, ◌&&◌, [], ◌∷◌, ◌++◌, append-nil, append_assoc, length, length-append, take, set, sym, ap, subst, ◌∙◌, arith, refl, List, Option, Some, Result, Ok, Err, Contains, cond}
use Rattle.std.proofs.lemmas.List.{length-map, take_all, take-append-le}
use mathlib.Core.List.{map-append}
use mathlib.Core.Option.{some}
use lib.ListN.{get_elem?}
use Rattle.atomic_table.proofs.Lists.{set_here}
use Rattle.latch_law.specs.declared.knows.Entry.{Entry}
use Rattle.latch_law.specs.declared.knows.Holding.{Holding}
use Rattle.latch_law.specs.declared.knows.Statement.TheVariants as what
use Rattle.latch_law.specs.Fitting.{Extends, DidCommit, WasFull}
use Rattle.latch_law.specs.Views.{entry_of}
use Rattle.latch_law.proofs.Lists.{learnt_at}
use Rattle.latch_space.specs.declared.committing.LogFull.{LogFull}
use Rattle.latch_space.specs.Has.{Has, Learnt, Foreknows, SameHands, IsKnown}
use Rattle.latch_space.specs.Commits.{EndsCommit, Changes, Foretells}
use Rattle.latch_space.specs.Passes.{view, values, IsWhole}
use Rattle.latch_space.proofs.Pointwise.{learnt_known}
use Rattle.map_history.specs.Map.{MapChange, map_after, is_allowed, AreLawful}
use Rattle.map_history.specs.Operation.{Make}
use Rattle.map_history.specs.Reply.{Done, reply_of, refusal}
use Rattle.map_history.specs.Columns.{may_stand}
use Rattle.map_history.specs.Report.{Columns, Replied}
use Rattle.map_history.specs.LegalReport.{Mark, marks_of}
use Rattle.map_history.proofs.HistoryLemmas.{lawful-last}
use Rattle.index_law.specs.Answers.{MadeChange}
use Rattle.index_law.specs.Rightness.{IsRight, map_at}
use Rattle.index_law.specs.Shape.{Shape}
use Rattle.index_law.specs.State.{Entries, changes}
use Rattle.forest_law.specs.declared.objects.Frame.{Frame}
use Rattle.forest_law.specs.declared.objects.Object.{Object}
use Rattle.forest_law.specs.declared.objects.Object.TheVariants as object
use Rattle.forest_law.specs.Law.{IsLawful}
use Rattle.forest_law.specs.Numbers.{frame_id, part_id}
use Rattle.forest_law.specs.References.{IsReference}
use Rattle.forest_world.specs.Held.{TreePass, shape_of_pass}
use Rattle.call_law.specs.Once.{IsRightBy, AnswersOnce}
use Rattle.call_law.specs.Spoken.{View, OwnAnswer}
use Rattle.leaf_changes.specs.Commits.{IsCommitted, DidWrite, DidWriteAhead, IsFullThen, Commits, WritesAhead}
use Rattle.engine_law.proofs.KnownLemmas.{part_no_frame}
use Rattle.engine_law.proofs.SeenLemmas.{said_alone, said_alone_only, adds_said, one_mark, more_seen, extends_length, now_seen}

module _ (p q : TreePass) (i : ℕ) (change : MapChange) (columns : Columns)
    (stands : may_stand columns ≡ true) where
  module _ (deed : MadeChange) (deed_is : deed ≡ record { change = change; columns = columns })
      (vs : List (Option Object)) (point : ℕ)
      (did : DidCommit IsLawful IsRight IsReference (view p) i vs deed point (view q)) where
    abbrev longer : Entries
    longer = did.list ++ entry_of (view p) deed ∷ []

    length_is : length longer ≡ point
    length_is = let at = did.point in
        omega (arith, length-append did.list (entry_of (view p) deed ∷ []), at)

    extends : Extends (view p) i longer
    extends ys seen = let more = did.extends ys seen in (
      more.0 ++ entry_of (view p) deed ∷ [],
      sym (append_assoc ys more.0 (entry_of (view p) deed ∷ []))
          ∙ ap (λ z. z ++ entry_of (view p) deed ∷ []) more.1,
    )

    seen_is : (view q).seen ≡ set (view p).seen i longer
    seen_is = ap (λ (z : View). z.seen) did.view

    changes_are : changes longer ≡ changes did.list ++ deed.change ∷ []
    changes_are = map-append (λ (e : Entry MadeChange). e.change.change) did.list
        (entry_of (view p) deed ∷ [])

    allowed : is_allowed (map_after (changes did.list)) deed.change ≡ true
    allowed = lawful-last (changes did.list) deed.change
        (subst AreLawful changes_are
        (did.stands.is_lawful.objects.lists i longer did.stands.list))

    map_before : map_at longer (point - 1) ≡ map_after (changes did.list)
    map_before = let at = did.point in
        let few : length (changes did.list) ≡ length did.list =
        length-map did.list (λ (e : Entry MadeChange). e.change.change) in
        ap (λ n. map_at longer n) (omega (arith, at))
        ∙ (ap (λ cs. map_after (take (length did.list) cs)) changes_are
        ∙ (ap map_after (take-append-le (length did.list) (changes did.list) (deed.change ∷ [])
        (omega (arith, few)))
        ∙ ap map_after (take_all (length did.list) (changes did.list) (omega (arith, few)))))

    right_by : IsRightBy (view p).terms.max_changes longer (Make change)
        (Replied Done point columns)
    right_by = ap (λ m. reply_of m (Make change)) map_before
        ∙ ap (λ c. cond c Done (refusal change))
        (ap (λ (d : MadeChange). is_allowed (map_after (changes did.list)) d.change) (sym deed_is)
        ∙ allowed)

    mark_is : (m : Mark) → Contains (marks_of (Replied Done point columns)) m
        → (m.point ≡ point) × (m.grows ≡ 1)
    mark_is m among = let same = one_mark (record { point = point; grows = 1 }) m among in
        (ap (λ (z : Mark). z.point) (sym same), ap (λ (z : Mark). z.grows) (sym same))

    -- what was said
    abbrev answered : OwnAnswer
    answered = record {
      index = i;
      point = length did.list + 1;
      by = (view p).low;
      what = what.Change deed;
    }

    once : AnswersOnce (view p) (view q) i (Make change) (Replied Done point columns)
    once = record {
      added = said_alone (answered ∷ []);
      adds = adds_said (view p) (view q) (answered ∷ [])
          (record {
            low = ap (λ (z : View). z.low) did.view;
            end = ap (λ (z : View). z.end) did.view;
            terms = ap (λ (z : View). z.terms) did.view;
          })
          (ap (λ (z : View). z.said) did.view) (ap (λ (z : View). z.refused) did.view)
          (ap (λ (z : View). z.references) did.view)
          (more_seen (view p) i longer extends (view q).seen seen_is);
      given = ((refl, refl), tt);
      said = λ k. record {
        index = i;
        by = (view p).low;
        ask = Make (deed_is k).change;
        answer = Replied Done (sym did.point k) (deed_is k).columns;
      } ∷ [];
      fulls = refl;
      form = ap (λ b. b && true) stands;
      least = λ m ys among seen. (let mark = mark_is m among in
          let long = extends_length (view p) i did.list did.extends
          (set (view p).seen i did.list) refl ys seen in
          let at = did.point in omega (arith, mark.0, mark.1, long, at));
      most = λ m zs among seen. (let mark = mark_is m among in
          let same = ap length (now_seen (view p) i longer extends (view q).seen seen_is zs seen) in
          let long = length_is in omega (arith, mark.0, same, long));
      right = λ zs seen. subst
          (λ z. IsRightBy (view p).terms.max_changes z (Make change) (Replied Done point columns))
          (now_seen (view p) i longer extends (view q).seen seen_is zs seen) right_by;
    }

    written : IsCommitted p q i change columns point
    unfolding once
    written = record { once = once; only = said_alone_only (answered ∷ []) }

    shape_is : shape_of_pass q ≡ shape_of_pass p
    shape_is = ap (λ (z : View). z.terms.shape) did.view

    -- the change is written once it was made
    pub did_write : IsKnown q → Learnt p q → DidWrite p q i change columns point
    did_write known learns = record {
      written = written;
      parts = λ k x y has. subst
          (λ (s : Shape). Has q (part_id s k) (object.Part y) (object.Part y)) (sym shape_is)
          (learns.has (part_id (shape_of_pass p) k) (object.Part x) (object.Part y) has);
      known = known;
      frames = λ b f g has. subst
          (λ (s : Shape). Has q (frame_id s b) (object.Frame g) (object.Frame g)) (sym shape_is)
          (learns.has (frame_id (shape_of_pass p) b) (object.Frame f) (object.Frame g) has);
      count = learns.count;
    }

    -- or before
    pub did_write_ahead : (b : ℕ) (next : Frame)
        → get_elem? vs (frame_id (shape_of_pass p) b) ≡ some (Some (object.Frame next))
        → ((j : ℕ) → j ≢ frame_id (shape_of_pass p) b → get_elem? vs j ≡ get_elem? (values p) j)
        → IsWhole p → Foreknows vs p q → DidWriteAhead p q b i change columns next point
    did_write_ahead b next at same whole knows = record {
      written = written;
      parts = λ k x y below has. subst
          (λ (s : Shape). Has q (part_id s k) (object.Part y) (object.Part y)) (sym shape_is)
          (knows.has (part_id (shape_of_pass p) k) (object.Part x) (object.Part y)
          (object.Part y) has
          (same (part_id (shape_of_pass p) k) (part_no_frame (shape_of_pass p) k b below)
          ∙ has.value));
      rest = λ j h ne held. (let apart : j ≢ frame_id (shape_of_pass p) b =
          λ e. ne (e ∙ ap (λ s. frame_id s b) (sym shape_is)) in
          let was = learnt_at vs (view p).held j h
          (ap (λ (z : View). get_elem? z.held j) (sym did.view) ∙ held) in
          let x = whole j was.0 was.1 in
          ap (λ zs. get_elem? zs j) knows.values
          ∙ (x.1 ∙ ap (λ (z : Holding Object). some (Some z.known))
          (sym (was.2 x.0 (same j apart ∙ x.1)))));
      frame = λ f g has. subst
          (λ (s : Shape). Has q (frame_id s b) (object.Frame next) (object.Frame g)) (sym shape_is)
          (knows.has (frame_id (shape_of_pass p) b) (object.Frame f) (object.Frame g)
          (object.Frame next) has at);
      count = knows.count;
    }

  -- the list was full
  pub full_then : (n : ℕ) → i < length (view p).seen
      → WasFull IsLawful IsRight IsReference (view p) i n (view q) → SameHands p q
      → IsFullThen p q i n
  full_then n room was same = record {
    looks = record {
      quiet = record {
        added = said_alone [];
        adds = adds_said (view p) (view q) []
            (record {
              low = ap (λ (z : View). z.low) was.view;
              end = ap (λ (z : View). z.end) was.view;
              terms = ap (λ (z : View). z.terms) was.view;
            })
            (ap (λ (z : View). z.said) was.view ∙ sym (append-nil (view p).said))
            (ap (λ (z : View). z.refused) was.view) (ap (λ (z : View). z.references) was.view)
            (more_seen (view p) i was.list was.extends (view q).seen
            (ap (λ (z : View). z.seen) was.view));
        given = tt;
        said = refl;
        fulls = refl;
      };
      only = said_alone_only [];
    };
    full = record {
      list = was.list;
      seen = ap (λ (z : View). get_elem? z.seen i) was.view
          ∙ set_here (view p).seen i was.list room;
      full = sym was.count
          ∙ (was.full ∙ ap (λ (z : View). z.terms.max_changes) (sym was.view));
    };
    number = was.full;
    same = same;
  }

  -- how the commit ended
  pub commit_ends : IsWhole p → (deed : MadeChange) → i < length (view p).seen
      → deed ≡ record { change = change; columns = columns } → (result : Result ℕ LogFull)
      → EndsCommit IsLawful IsRight IsReference (view p) i (values p) deed result (view q)
      → Changes p result q → Commits p i change columns result q
  commit_ends whole deed room deed_is (Ok point) did learns =
      did_write deed deed_is (values p) point did
      (learnt_known p q whole (ap (λ (z : View). z.held) did.view) learns.values) learns
  commit_ends whole deed room deed_is (Err full) was same = full_then full.0 room was same

  -- and one ahead of its change
  pub ahead_ends : (deed : MadeChange) → i < length (view p).seen
      → deed ≡ record { change = change; columns = columns } → (b : ℕ) (next : Frame)
      (vs : List (Option Object))
      → get_elem? vs (frame_id (shape_of_pass p) b) ≡ some (Some (object.Frame next))
      → ((j : ℕ) → j ≢ frame_id (shape_of_pass p) b → get_elem? vs j ≡ get_elem? (values p) j)
      → IsWhole p → (result : Result ℕ LogFull)
      → EndsCommit IsLawful IsRight IsReference (view p) i vs deed result (view q)
      → Foretells vs p result q → WritesAhead p b i change columns next result q
  ahead_ends deed room deed_is b next vs at same whole (Ok point) did knows =
      did_write_ahead deed deed_is vs point did b next at same whole knows
  ahead_ends deed room deed_is b next vs at same whole (Err full) was hands =
      full_then full.0 room was hands
