-- A piece from the cursor on of the leaf behind the one in hand, which has no row from there on.
use Rattle.std.proofs.Common.{◌≡◌, ◌≢◌, inl, inr, ℕ, ◌<◌, ◌≤◌, true, false, Option, None, List, [], ◌∷◌, ◌++◌, length, sym, ap, subst, ◌∙◌, refl, arith, append-nil, length-append}
use Rattle.std.specs.List.{AllByRecursion}
use mathlib.Core.Option.{some}
use lib.ListN.{get_elem?}
use Rattle.key_tuple.specs.Order.{FieldList}
use Rattle.key_tuple.specs.KeyPlace.{KeyPlace, At, before}
use Rattle.key_tuple.proofs.PlaceLemmas.{before_not_after}
use Rattle.key_tuple.proofs.PositionLemmas.{within_parts}
use Rattle.latch_law.specs.declared.knows.Reference.{Reference}
use Rattle.latch_law.specs.declared.knows.Terms.{Terms}
use Rattle.latch_space.specs.Has.{IsKnown}
use Rattle.latch_space.specs.Passes.{view}
use Rattle.map_history.specs.Map.{Map}
use Rattle.map_history.specs.Operation.{Ask}
use Rattle.map_history.specs.Report.{Columns}
use Rattle.index_page.specs.Page.{PageRows}
use Rattle.index_page.specs.Rows.{Row, first_of_rows, IsAt}
use Rattle.tree_law.specs.Pages.{row_pairs}
use Rattle.tree_law.specs.TreeShape.{In}
use Rattle.tree_law.proofs.LeafLemmas.{pairs_each}
use Rattle.index_law.specs.Shape.{Shape}
use Rattle.index_law.specs.State.{Entries}
use Rattle.forest_law.specs.declared.objects.Object.{Object}
use Rattle.forest_law.specs.declared.objects.Object.TheVariants as object
use Rattle.forest_law.specs.Numbers.{frame_id}
use Rattle.forest_law.specs.State.{bound, fields_for}
use Rattle.forest_world.specs.Held.{TreePass, shape_of_pass}
use Rattle.call_law.specs.Hands.{KnowsFrame}
use Rattle.call_law.specs.Spoken.{View}
use Rattle.call_law.specs.Trace.{Added, frame_references}
use Rattle.call_law.proofs.TraceLemmas.{both_added}
use Rattle.buffer_pool.specs.AsTaken.{KeepsAsHeld, HoldsAsTaken}
use Rattle.buffer_pool.specs.Calls.{Does, DoesSilently}
use Rattle.buffer_pool.specs.Forests.{IsFittedTree}
use Rattle.buffer_pool.specs.Frames.{GivesFrame}
use Rattle.buffer_pool.specs.Hands.{LacksFrame}
use Rattle.buffer_pool.proofs.AddedLemmas.{none_added, only_given, only_said, held_adds, none_spares}
use Rattle.buffer_pool.proofs.AsTakenLemmas.{keeps_both, keeps_same, keeps_took}
use Rattle.buffer_pool.proofs.CallLemmas.{does_both, does_none, does_again, does_among}
use Rattle.tree_facts.specs.TreeFrames.{low_of, high_of}
use Rattle.tree_descent.specs.Ways.{HoldsPage}
use Rattle.engine_law.proofs.FrameTraceLemmas.{frames_both}
use Rattle.engine_law.proofs.KnownLemmas.{one_frame, knows_same, same_page}
use Rattle.tree_neighbours.specs.declared.side.Side.TheVariants.{Right}
use Rattle.tree_neighbours.specs.LeafHands.{IsLeafReference}
use Rattle.tree_neighbours.specs.Neighbours.{TakesBeside}
use Rattle.tree_neighbours.proofs.HandLemmas.{knows_gave, beside_shape, beside_keeps, beside_page}
use Rattle.page_view.specs.Taking.{rows_from_place}
use Rattle.page_view.proofs.TakingLemmas.{from_place, place_in}
use Rattle.scan_law.specs.ScanLaws.{ReadRange}
use Rattle.scan_law.proofs.RowLemmas.{not_before}
use Rattle.said_scans.specs.Ranges.{range_said}
use Rattle.tree_cursor.specs.declared.cursor.Cursor.{Cursor}
use Rattle.tree_cursor.specs.declared.pieces.Step.{Step}
use Rattle.tree_cursor.specs.Fills.{StandsBehind}
use Rattle.tree_cursor.specs.MapRows.{AreMapRows}
use Rattle.tree_cursor.specs.Cursors.{HasCursor, Referred}
use Rattle.tree_cursor.specs.Pieces.{HoldsStand, IsNextLeaf, IsEnd, GoesOn, GivesUp, TellsPiece}
use Rattle.tree_cursor.specs.Starts.{place_of, BeginsAt}
use Rattle.tree_cursor.specs.Telling.{MayTell, MayTellNext, TellsLeaf, GivesBoth}
use Rattle.tree_cursor.proofs.LeafMapLemmas.{bounds_rise, leaf_rows_behind}
use Rattle.tree_cursor.proofs.PieceLemmas.{rows_kept, sooner, gives_does, gives_keeps, gives_leaf}
use Rattle.tree_cursor.proofs.ReferLemmas.{given_frames_refer, given_index}
use Rattle.tree_cursor.proofs.StoreLemmas.{row_within}
use Rattle.tree_cursor.proofs.ToldLemmas.{range, is_for, same_terms, told_does, told_least, told_most, told_cause, cause_told, told_ends, onward, onward_has}

-- what holds of each row that is among some holds of each
pub all_among : (P : Row → Type 0) (xs : List Row) → ((x : Row) → In x xs → P x) → AllByRecursion P xs
all_among P [] each = tt
all_among P (x ∷ xs) each = (each x (inl refl), all_among P xs (λ y among. each y (inr among)))

-- all rows of the second leaf may be told, from its first on
unfoldable pub tell_next : (v : View) (b m i : ℕ) (low : KeyPlace) (c : Cursor) (start : Option ℕ)
    → (next : MayTellNext v b m i low c)
    → IsAt next.holds.is.page.rows start (first_of_rows next.holds.is.page.rows)
    → MayTell v m i start low c
tell_next v b m i low c start next at =
    let rows = next.holds.is.page.rows in
    let all : rows_from_place start rows ≡ rows =
    from_place [] rows start next.holds.order.places at in
    record {
      holds = next.holds;
      there = place_in rows rows start at;
      map_rows = subst
          (λ (xs : List Row). AreMapRows v i low (high_of next.holds.frame) (row_pairs xs)) (sym all)
          next.map_rows;
      later = subst (AllByRecursion (λ (x : Row). before (At x.key) low ≡ false)) (sym all)
          next.later;
      high = next.high;
      fields = next.fields;
      room = next.room;
    }

module _ (p : TreePass) (b i : ℕ) (c : Cursor) (low : KeyPlace)
    (stand : HoldsStand (view p) b i c low)
    (begins : BeginsAt stand.holds.is.page.rows (place_of c) None) (m : ℕ) (s : TreePass)
    (took : TakesBeside p b i Right m s) where
  abbrev h : HoldsPage (view p) b i 0
  h = stand.holds

  one : took.holds.frame ≡ h.frame
  one = one_frame (view p) b took.holds.frame h.frame took.holds.knows h.knows

  one_page : took.holds.is.page ≡ h.is.page
  one_page = same_page h.frame took.holds.frame h.is.page took.holds.is.page one h.is.paged
      took.holds.is.paged

  pub meets : low_of took.frame ≡ high_of h.frame
  meets = took.beside.meets ∙ ap high_of one

  none_on : begins.on ≡ []
  none_on = go begins.on begins.at
    where
      go : (xs : List Row) → IsAt h.is.page.rows None (first_of_rows xs) → xs ≡ []
      go [] at = refl
      go (x ∷ xs) at = absurd (let none = at.0 in cc)

  pub all_sooner : AllByRecursion (λ (x : Row). before (At x.key) low ≡ true) h.is.page.rows
  all_sooner = subst (AllByRecursion (λ (x : Row). before (At x.key) low ≡ true))
      (sym (begins.split ∙ (ap (λ xs. begins.fore ++ xs) none_on ∙ append-nil begins.fore)))
      (sooner p b i c low None stand begins)

  pub starts_later : before (low_of took.frame) low ≡ false
  starts_later = ap (λ z. before z low) meets ∙ stand.high

  -- the leaf behind may be told
  unfoldable pub may_tell_next : IsFittedTree (view s) → MayTellNext (view s) b m i low c
  unfolding beside_keeps beside_page
  may_tell_next fitted =
      let kept = beside_keeps p b i Right m s took h in
      let g = beside_page p b i Right m s took in
      let shape = beside_shape p b i Right m s took in
      record {
        held = kept;
        holds = g;
        other = took.beside.other;
        map_rows = leaf_rows_behind (view s) b m i kept g meets low stand.low stand.high
            (pairs_each (λ (k : FieldList). before (At k) low ≡ true) h.is.page.rows all_sooner);
        later = all_among (λ (x : Row). before (At x.key) low ≡ false) g.is.page.rows
            (λ x among. not_before (At x.key) (low_of g.frame) low
            (within_parts (low_of g.frame) (high_of g.frame) (At x.key)
            (row_within fitted.whole fitted.is_lawful (view s) fitted.fits m i g x among)).0
            starts_later);
        high = not_before (high_of g.frame) (low_of g.frame) low
            (before_not_after (low_of g.frame) (high_of g.frame)
            (bounds_rise (view s) m i g fitted.whole fitted.is_lawful fitted.fits))
            starts_later;
        fields = subst (λ z. length c.key.tuple ≡ fields_for z i) (sym shape) stand.fields;
        room = subst (λ z. c.key.room ≡ fields_for z i) (sym shape) stand.room;
      }

  -- and is the one of which rows are taken
  pub next_leaf : (fitted : IsFittedTree (view s))
      → IsNextLeaf (shape_of_pass p) b i h.frame h.is.page (place_of c) m
      (may_tell_next fitted).holds.frame (may_tell_next fitted).holds.is.page.rows
  unfolding may_tell_next beside_page
  next_leaf fitted = record {
    none = rows_kept h.is.page.rows (place_of c) None begins h.order.places ∙ none_on;
    beside = record {
      is = took.beside.is;
      order = took.beside.order;
      other = took.beside.other;
      meets = meets;
    };
    leads = ap (λ (x : PageRows). x.head.next) (sym one_page) ∙ took.leads;
    rows_are = refl;
  }

-- a leaf was taken besides, a piece was told of it, and both went back
module _ (p s : TreePass) (b m i : ℕ) (c : Cursor) (low : KeyPlace) (h : HoldsPage (view p) b i 0)
    (first : DoesSilently p s (frame_id (shape_of_pass p) m ∷ []))
    (none : frame_references first.added.references ≡ []) (lacked : LacksFrame p m)
    (kept : HoldsPage (view s) b i 0) (other : m ≢ b) (start : Option ℕ)
    (may : MayTell (view s) m i start low c)
    (all : rows_from_place start may.holds.is.page.rows ≡ may.holds.is.page.rows)
    (leaf : IsNextLeaf (shape_of_pass p) b i h.frame h.is.page (place_of c) m may.holds.frame
    may.holds.is.page.rows)
    (known : IsKnown s) (taken : HoldsAsTaken (view s) m) where
  shape : shape_of_pass s ≡ shape_of_pass p
  shape = ap (λ (z : Terms Shape). z.shape) first.does.adds.numbers.terms

  abbrev k : ℕ
  k = frame_id (shape_of_pass p) b

  abbrev n : ℕ
  n = frame_id (shape_of_pass p) m

  -- what was given back of both
  module _ (r q : TreePass) (same : (view r).terms ≡ (view s).terms)
      (held : (view r).held ≡ (view s).held) (gave : GivesBoth r b m q) where
    abbrev u : TreePass
    u = gave.between

    knows_b : KnowsFrame (view r) b kept.frame
    knows_b = knows_same s r b kept.frame held same kept.knows

    knows_m : KnowsFrame (view u) m may.holds.frame
    knows_m = knows_gave r u b m may.holds.frame other gave.first
        (knows_same s r m may.holds.frame held same may.holds.knows)

    shape_r : shape_of_pass r ≡ shape_of_pass p
    shape_r = ap (λ (z : Terms Shape). z.shape) same ∙ shape

    shape_u : shape_of_pass u ≡ shape_of_pass p
    shape_u = ap (λ (z : Terms Shape). z.shape) gave.first.hand.terms ∙ shape_r

    abbrev given_b : Added
    given_b = only_given k gave.first.taken (object.Frame gave.first.frame)

    abbrev given_m : Added
    given_m = only_given n gave.second.taken (object.Frame gave.second.frame)

    both_given : IsKnown r → Does r q (k ∷ n ∷ []) (both_added given_b given_m)
    both_given known_r =
        let one = gives_does (shape_of_pass p) i r u b kept.frame shape_r knows_b kept.is gave.first
        known_r in
        let two = gives_does (shape_of_pass p) i u q m may.holds.frame shape_u knows_m may.holds.is
        gave.second one.known in
        does_both r u q (k ∷ n ∷ []) given_b given_m
        (does_among r u given_b (k ∷ []) (k ∷ n ∷ []) (λ j apart. (apart.0, tt)) one)
        (does_among u q given_m (n ∷ []) (k ∷ n ∷ []) (λ j apart. (apart.1.0, tt)) two)

    -- the frame that was taken is lacked again
    lacks_again : get_elem? (view q).held n ≡ get_elem? (view p).held n
    lacks_again = subst (λ z. get_elem? (view q).held (frame_id z m) ≡ some None)
        (ap (λ (z : Terms Shape). z.shape) gave.second.hand.terms ∙ shape_u) gave.second.lacks
        ∙ sym lacked

    -- so all of it, with what was said between
    pub whole : (middle : Added) → Does s r [] middle
        → Does p q (k ∷ []) (both_added first.added (both_added middle (both_added given_b given_m)))
    whole middle does =
        let back = both_given does.known in
        let rest = both_added middle (both_added given_b given_m) in
        let later = does_both s r q (k ∷ n ∷ []) middle (both_added given_b given_m)
        (does_none s r middle (k ∷ n ∷ []) does) back in
        does_again p q (both_added first.added rest) n (k ∷ [])
        (does_among p q (both_added first.added rest) (k ∷ n ∷ []) (n ∷ k ∷ [])
        (λ j apart. (apart.1.0, (apart.0, tt)))
        (does_both p s q (k ∷ n ∷ []) first.added rest
        (does_among p s first.added (n ∷ []) (k ∷ n ∷ []) (λ j apart. (apart.1.0, tt)) first.does)
        later))
        lacks_again

    pub leaves_given : (middle : Added) → middle.references ≡ []
        → AllByRecursion (IsLeafReference (shape_of_pass p) i)
        (frame_references (first.added.references ++ (middle.references
        ++ (both_added given_b given_m).references)))
    leaves_given middle nothing =
        let leaves : List (Reference Object) = (both_added given_b given_m).references in
        subst (λ qs. AllByRecursion (IsLeafReference (shape_of_pass p) i) qs)
        (sym (frames_both first.added.references (middle.references ++ leaves)
        ∙ (λ j. none j ++ frame_references (nothing j ++ leaves)))) (
          gives_leaf (shape_of_pass p) i r u b kept.frame shape_r knows_b kept.is gave.first,
          (
            gives_leaf (shape_of_pass p) i u q m may.holds.frame shape_u knows_m may.holds.is
                gave.second,
            tt,
          ),
        )

    both_keeps : KeepsAsHeld (view r) (view q) (both_added given_b given_m).references
    both_keeps = keeps_both (view r) (view u) (view q) given_b.references given_m.references
        (gives_keeps (shape_of_pass p) i r u b kept.frame shape_r knows_b kept.is gave.first)
        (gives_keeps (shape_of_pass p) i u q m may.holds.frame shape_u knows_m may.holds.is
        gave.second)

    pub whole_keeps : (middle : Added) → middle.references ≡ []
        → KeepsAsHeld (view p) (view q)
        (first.added.references ++ (middle.references ++ (both_added given_b given_m).references))
    whole_keeps middle nothing =
        let back : List (Reference Object) = (both_added given_b given_m).references in
        keeps_both (view p) (view s) (view q) first.added.references (middle.references ++ back)
        (keeps_took (view p) (view s) m first.does.adds.numbers first.does.rest taken
        first.added.references none)
        (subst (λ qs. KeepsAsHeld (view s) (view q) (qs ++ back)) (sym nothing)
        (keeps_both (view s) (view r) (view q) [] back
        (keeps_same (view s) (view r) held [] refl) both_keeps))

    pub refers_then : (c' : Cursor) → c'.block ≡ m → HasCursor may.holds.frame c'
        → Referred (view q) c'
    refers_then c' block has = given_frames_refer u q c' may.holds.frame
        (subst (λ j. KnowsFrame (view u) j may.holds.frame) (sym block) knows_m) has
        (subst (λ j. GivesFrame u j q) (sym block) gave.second)

    pub refers_index : (c' : Cursor) (block : c'.block ≡ m) (has : HasCursor may.holds.frame c')
        → (refers_then c' block has).has.page.index ≡ i
    unfolding refers_then
    refers_index c' block has = given_index u q i c' may.holds.frame
        (subst (λ j. KnowsFrame (view u) j may.holds.frame) (sym block) knows_m) has
        (subst (λ j. GivesFrame u j q) (sym block) gave.second) may.holds.is

    pub seen_then : (view q).seen ≡ (view r).seen
    seen_then = ap (λ (z : View). z.seen) gave.second.view ∙ ap (λ (z : View). z.seen) gave.first.view

  nothing_done : Does s s [] none_added
  nothing_done = record {
    adds = held_adds (view s) (view s) (view s).held refl;
    spares = none_spares (shape_of_pass s);
    rest = λ j apart. refl;
    known = known;
  }

  -- memory lacked
  pub gives_both_up : (q : TreePass) → GivesBoth s b m q → GivesUp p b i q
  gives_both_up q gave = record {
    added = both_added first.added
        (both_added none_added (both_added (given_b s q refl refl gave) (given_m s q refl refl gave)));
    does = whole s q refl refl gave none_added nothing_done;
    silent = ap (λ qs. qs ++ []) first.silent;
    leaves = leaves_given s q refl refl gave none_added refl;
    keeps = whole_keeps s q refl refl gave none_added refl;
  }

  -- it was told
  module _ (fitted : IsFittedTree (view s)) (ask : Ask) (to : Option FieldList) (left : ℕ)
      (columns : Columns) (old new : Map) (step : Step) (c' : Cursor) (r q : TreePass)
      (some_left : 0 < left)
      (tells : TellsLeaf s m i may.holds start low ask to left columns old new step c c' r)
      (gave : GivesBoth r b m q) where
    abbrev told_range : ReadRange
    told_range = range s m i start low ask to left columns old new step c c' r may some_left tells

    terms : (view r).terms ≡ (view s).terms
    terms = same_terms s m i start low ask to left columns old new step c c' r may some_left tells

    low_same : (view s).low ≡ (view p).low
    low_same = first.does.adds.numbers.low

    abbrev middle : Added
    middle = only_said (range_said i (view p).low ask told_range)

    told_between : Does s r [] middle
    told_between = subst (λ z. Does s r [] (only_said (range_said i z ask told_range))) low_same
        (told_does s m i start low ask to left columns old new step c c' r may some_left tells known)

    goes_on : step.end ≡ false
        → GoesOn (view q) i may.holds.frame tells.fills.took.taken m told_range.high c c'
    goes_on e =
        let on = onward s m i start low ask to left columns old new step c c' r may some_left tells e
        in
        record {
          block = on.2.block;
          stands = subst (λ (xs : List Row). StandsBehind may.holds.frame xs c') (sym on.1)
              on.2.behind;
          ends = on.0;
          referred = refers_then r q terms tells.kept.held gave c' on.2.block
              (onward_has s m i start low ask to left columns old new step c c' r may some_left tells
              e fitted);
          of_index = refers_index r q terms tells.kept.held gave c' on.2.block
              (onward_has s m i start low ask to left columns old new step c c' r may some_left tells
              e fitted);
          fields = on.2.fields;
          room = on.2.room;
        }

    pub tells_next : TellsPiece p b i ask to c low left columns old new step c' q
    tells_next =
        let told = tells.fills.took in
        record {
          holds = h;
          leaf = record {
            block = m;
            frame = may.holds.frame;
            rows = may.holds.is.page.rows;
            which = inr leaf;
          };
          stop = tells.fills.stop;
          took = record {
            taken = told.taken;
            rest = told.rest;
            split = sym all ∙ told.split;
            all = told.all;
            below = told.below;
            why = told.why;
          };
          range = told_range;
          low = refl;
          piece = refl;
          count = tells.count;
          is_for = is_for s m i start low ask to left columns old new step c c' r may some_left
              tells;
          added = both_added first.added
              (both_added middle
              (both_added (given_b r q terms tells.kept.held gave)
              (given_m r q terms tells.kept.held gave)));
          does = whole r q terms tells.kept.held gave middle told_between;
          said = ap (λ qs. qs ++ range_said i (view p).low ask told_range ∷ []) first.silent;
          leaves = leaves_given r q terms tells.kept.held gave middle refl;
          keeps = whole_keeps r q terms tells.kept.held gave middle refl;
          least = least;
          most = λ zs at. told_most s m i start low ask to left columns old new step c c' r may
              some_left tells zs
              (ap (λ ss. get_elem? ss i) (sym (seen_then r q terms tells.kept.held gave)) ∙ at);
          end_has_cause = λ e. subst
              (λ (xs : List Row). IsEnd to left step.count xs (bound may.holds.frame.high)) all
              (told_cause s m i start low ask to left columns old new step c c' r may some_left tells
              e);
          cause_ends = λ cause. cause_told s m i start low ask to left columns old new step c c' r
              may some_left tells
              (subst (λ (xs : List Row). IsEnd to left step.count xs (bound may.holds.frame.high))
              (sym all) cause);
          ends = told_ends s m i start low ask to left columns old new step c c' r may some_left
              tells;
          goes_on = goes_on;
        }
      where
        least : (ys : Entries) → get_elem? (view p).seen i ≡ some ys → length ys ≤ step.point
        least ys at =
            let more = first.does.adds.seen i ys at in
            let long = told_least s m i start low ask to left columns old new step c c' r may
            some_left tells (ys ++ more.0) more.1 in
            omega (arith, long, length-append ys more.0)
