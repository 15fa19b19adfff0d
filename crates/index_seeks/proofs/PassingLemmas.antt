-- What the leaves on the way of a seek tell of its index's map.
use Rattle.std.proofs.Common.{◌≡◌, ℕ, Bool, Option, Some, None, refl, sym, ap, subst, ◌∙◌}
use mathlib.Core.Option.{some}
use lib.ListN.{get_elem?}
use Rattle.key_tuple.specs.KeyPlace.{KeyPlace, cut_of}
use Rattle.key_tuple.specs.Order.{FieldList}
use Rattle.key_tuple.specs.Position.{position_cut}
use Rattle.key_tuple.specs.declared.mode.Mode.{Mode}
use Rattle.key_tuple.specs.declared.mode.Mode.TheVariants.{Ge, G, Le, L}
use Rattle.latch_law.specs.Views.{holding}
use Rattle.map_history.specs.Map.{Pair, Map, map_after}
use Rattle.map_history.specs.Reply.{first_after, last_before, row_reply, sought}
use Rattle.map_history.specs.declared.reply.Reply.TheVariants as words
use Rattle.tree_law.specs.Pages.{Page}
use Rattle.tree_law.specs.SearchLaws.{WalksRight, WalksLeft, WalksFrom}
use Rattle.index_law.specs.State.{Entries, changes}
use Rattle.forest_law.specs.declared.objects.Frame.{Frame}
use Rattle.forest_law.specs.declared.objects.Object.TheVariants as object
use Rattle.forest_law.specs.Law.{IsLawful}
use Rattle.forest_law.specs.Numbers.{frame_id}
use Rattle.forest_law.specs.Objects.{IsFrameOf}
use Rattle.forest_law.specs.State.{ForestState, fields_for, page_within}
use Rattle.call_law.specs.Hands.{KnowsFrame}
use Rattle.call_law.specs.Spoken.{View}
use Rattle.buffer_pool.specs.Pages.{HasTreePage}
use Rattle.tree_descent.specs.Leaves.{HasCutWithin, cut_in}
use Rattle.tree_facts.proofs.LeafLemmas.{leaves_lead_walks}
use Rattle.tree_neighbours.specs.declared.side.Side.{Side}
use Rattle.tree_neighbours.specs.declared.side.Side.TheVariants.{Left, Right}
use Rattle.tree_neighbours.specs.Sides.{side_of, page_on, Meets}
use Rattle.index_seeks.specs.Seeks.{near_of, far_of, NothingUpTo, NoneBeyond, HasNextBeyond, HasKnown, PassesNothing, CanTell}

-- the walk on this side
abbrev Walks : Side → (position cut : KeyPlace → Bool) → Map → Page → Type 0
Walks Left position cut map page = WalksLeft position cut map page
Walks Right position cut map page = WalksRight position cut map page

-- the row that is sought on this side of a cut
abbrev beyond : Side → (KeyPlace → Bool) → Map → Option Pair
beyond Left cut map = last_before cut map
beyond Right cut map = first_after cut map

sought_beyond : (mode : Mode) (tuple : FieldList) (map : Map)
    → sought mode tuple map ≡ beyond (side_of mode) (cut_of mode tuple) map
sought_beyond Ge tuple map = refl
sought_beyond G tuple map = refl
sought_beyond Le tuple map = refl
sought_beyond L tuple map = refl

-- a leaf leads the walk of each mode
walks_of : (fields : ℕ) (map : Map) (page : Page) (mode : Mode) (tuple : FieldList)
    → WalksFrom fields map page
    → Walks (side_of mode) (position_cut fields mode tuple) (cut_of mode tuple) map page
walks_of fields map page Ge tuple walks = walks.sought_right Ge tuple
walks_of fields map page G tuple walks = walks.sought_right G tuple
walks_of fields map page Le tuple walks = walks.sought_left Le tuple
walks_of fields map page L tuple walks = walks.sought_left L tuple

module _ (f : Frame) (i : ℕ) (is : HasTreePage f i 0) (position cut : KeyPlace → Bool)
    (map : Map) where
  abbrev this : Page
  this = page_within is.page f.low f.high

  -- a walk begins at the leaf with the position
  walk_begins : (side : Side) → Walks side position cut map this → HasCutWithin f position
      → NothingUpTo side cut (near_of side f) map
  walk_begins Left walks has = walks.begins has.high
  walk_begins Right walks has = walks.begins has.low

  -- it goes on over a leaf without a row that counts
  walk_on : (side : Side) → Walks side position cut map this
      → NothingUpTo side cut (near_of side f) map → NoneBeyond side cut is.page.rows
      → NothingUpTo side cut (far_of side f) map
  walk_on Left walks none empty = walks.on none empty
  walk_on Right walks none empty = walks.on none empty

  -- it finds the row that counts
  walk_finds : (side : Side) → Walks side position cut map this
      → NothingUpTo side cut (near_of side f) map → (pair : Pair)
      → HasNextBeyond side cut is.page.rows pair → beyond side cut map ≡ Some pair
  walk_finds Left walks none pair has =
      walks.finds none has.xs has.row has.ys pair.value has.split has.body has.beyond.0
      has.beyond.1
      ∙ ap (λ k. Some (record { key = k; value = pair.value })) has.key
  walk_finds Right walks none pair has =
      walks.finds none has.xs has.row has.ys pair.value has.split has.body has.beyond.0
      has.beyond.1
      ∙ ap (λ k. Some (record { key = k; value = pair.value })) has.key

  -- or it ends at the last leaf
  walk_ends : (side : Side) → Walks side position cut map this → page_on side is.page ≡ None
      → NothingUpTo side cut (far_of side f) map → beyond side cut map ≡ None
  walk_ends Left walks last none = walks.ends last none
  walk_ends Right walks last none = walks.ends last none

-- where a leaf ends the next one begins
pub cross_over : (side : Side) (cut : KeyPlace → Bool) (f g : Frame) (map : Map) → Meets side f g
    → NothingUpTo side cut (far_of side f) map → NothingUpTo side cut (near_of side g) map
cross_over Left cut f g map meets none =
    subst (λ x. NothingUpTo Left cut x map) (sym meets) none
cross_over Right cut f g map meets none =
    subst (λ x. NothingUpTo Right cut x map) (sym meets) none

-- a frame that is known is there in each state that has what is known
frame_in : (v : View) (b : ℕ) (f : Frame) → KnowsFrame v b f → (w : ForestState) → HasKnown w v
    → IsFrameOf w.shape w.objects b f
frame_in v b f knows w has = ap (λ s. get_elem? w.objects (frame_id s b)) has.shape
    ∙ has.known (frame_id v.terms.shape b) (holding knows.0 (object.Frame f)) knows.1

module _ (v : View) (i : ℕ) (mode : Mode) (tuple : FieldList) (b : ℕ) (f : Frame)
    (knows : KnowsFrame v b f) (is : HasTreePage f i 0) where
  abbrev side : Side
  side = side_of mode

  abbrev cut : KeyPlace → Bool
  cut = cut_of mode tuple

  module _ (w : ForestState) (law : IsLawful w) (has : HasKnown w v) (xs : Entries)
      (listed : get_elem? w.lists i ≡ some xs) where
    abbrev map : Map
    map = map_after (changes xs)

    -- in such a state the leaf leads the mode's walk
    walks_here : Walks side (cut_in v.terms.shape i mode tuple) cut map
        (page_within is.page f.low f.high)
    walks_here = subst
        (λ n. Walks side (position_cut n mode tuple) cut map
        (page_within is.page f.low f.high))
        ((λ k. fields_for (has.shape k) (is.index k)))
        (walks_of (fields_for w.shape is.page.head.index) map
        (page_within is.page f.low f.high) mode tuple
        (leaves_lead_walks w law b f is.page
        (record { at = frame_in v b f knows w has; paged = is.paged; tree = is.tree })
        is.at_level xs (ap (get_elem? w.lists) is.index ∙ listed)))

  -- nothing comes before the leaf with the position
  pub begins : (bound : Option ℕ) → HasCutWithin f (cut_in v.terms.shape i mode tuple)
      → PassesNothing v i mode tuple bound (near_of side f)
  begins bound within w law has xs listed speaks =
      walk_begins f i is (cut_in v.terms.shape i mode tuple) cut (map_after (changes xs)) side
      (walks_here w law has xs listed) within

  module _ (bound : Option ℕ) where
    -- nothing comes before the end of a leaf without a row that counts
    pub goes_on : PassesNothing v i mode tuple bound (near_of side f)
        → NoneBeyond side cut is.page.rows → PassesNothing v i mode tuple bound (far_of side f)
    goes_on none empty w law has xs listed speaks =
        walk_on f i is (cut_in v.terms.shape i mode tuple) cut (map_after (changes xs)) side
        (walks_here w law has xs listed) (none w law has xs listed speaks) empty

    -- the row that counts may be told
    pub finds : PassesNothing v i mode tuple bound (near_of side f) → (pair : Pair)
        → HasNextBeyond side cut is.page.rows pair
        → CanTell v i mode tuple bound words.Found pair
    finds none pair found w law has xs listed speaks =
        ap (λ o. Some (row_reply o)) (sym
        (sought_beyond mode tuple (map_after (changes xs))
        ∙ walk_finds f i is (cut_in v.terms.shape i mode tuple) cut (map_after (changes xs))
        side (walks_here w law has xs listed) (none w law has xs listed speaks) pair found))

    -- and where the last leaf has none, that there is none
    pub ends : PassesNothing v i mode tuple bound (far_of side f) → page_on side is.page ≡ None
        → (pair : Pair) → CanTell v i mode tuple bound words.Absent pair
    ends none last pair w law has xs listed speaks =
        ap (λ o. Some (row_reply o)) (sym
        (sought_beyond mode tuple (map_after (changes xs))
        ∙ walk_ends f i is (cut_in v.terms.shape i mode tuple) cut (map_after (changes xs))
        side (walks_here w law has xs listed) last (none w law has xs listed speaks)))

-- nothing comes before the leaf beside
pub passes_over : (v : View) (i : ℕ) (mode : Mode) (tuple : FieldList) (bound : Option ℕ)
    (f g : Frame) → Meets (side_of mode) f g
    → PassesNothing v i mode tuple bound (far_of (side_of mode) f)
    → PassesNothing v i mode tuple bound (near_of (side_of mode) g)
passes_over v i mode tuple bound f g meets none w law has xs listed speaks =
    cross_over (side_of mode) (cut_of mode tuple) f g (map_after (changes xs)) meets
    (none w law has xs listed speaks)
