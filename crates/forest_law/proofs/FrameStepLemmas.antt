-- Steps of held frames and trees that are one move follow.
use Rattle.std.proofs.Common.{◌≡◌, ◌≢◌, ◌⊎◌, inl, inr, ℕ, [], ◌∷◌, List, sym, ap, subst, ◌∙◌, arith, refl, Option, Some}
use Rattle.std.specs.List.{AllByRecursion}
use Rattle.std.proofs.lemmas.Bool.{cases_eq}
use mathlib.Core.Option.{some, some-injective}
use lib.ListN.{get_elem?}
use Rattle.list_facts.proofs.Places.{same_some}
use Rattle.map_history.specs.Map.{Map}
use Rattle.index_page.specs.Page.{PageRows}
use Rattle.tree_law.specs.TreeShape.{In}
use Rattle.tree_law.specs.Pages.{Page, IsOrderly}
use Rattle.tree_law.specs.PageChanges.{LeaveOrder}
use Rattle.tree_law.proofs.LeafLemmas.{each_in}
use Rattle.clock_law.proofs.LaterLemmas.{later_itself}
use Rattle.index_law.specs.Answers.{MadeChange}
use Rattle.index_law.specs.Shape.{Shape}
use Rattle.forest_law.specs.declared.objects.Frame.{Frame}
use Rattle.forest_law.specs.declared.objects.Pool.{Pool}
use Rattle.forest_law.specs.declared.objects.Where.TheVariants.{InFrame}
use Rattle.forest_law.specs.declared.objects.Object.{Object}
use Rattle.forest_law.specs.declared.objects.Object.TheVariants as object
use Rattle.forest_law.specs.Numbers.{pool_id, tree_id, frame_id}
use Rattle.forest_law.specs.State.{object_mark, fields_for}
use Rattle.forest_law.specs.Objects.{Becomes}
use Rattle.forest_law.specs.Kinds.{KeepsKind}
use Rattle.forest_law.specs.Turns.{Turn, HasPage, IsTurn, page_changes}
use Rattle.forest_law.specs.Placed.{KeepsPage, TurnsPage, PoolRests}
use Rattle.forest_law.specs.Trees.{HeightsLead, MapsLead, IsStep}
use Rattle.forest_law.specs.Lists.{MayChange}
use Rattle.forest_law.specs.Budget.{Pays}
use Rattle.forest_law.specs.Clocked.{IsLaterObject}
use Rattle.forest_law.specs.Outside.{KeepsOneOutside}
use Rattle.forest_law.specs.HashKept.{KeepsHash}
use Rattle.forest_law.specs.Law.{Follows}
use Rattle.forest_law.specs.Steps.{Rests, FrameStep, TreeStep, ClockSuits, MakesFrameStep, MakesTreeStep, IsNoFrameOf, IsNoTreeOf, MakeSteps}
use Rattle.forest_law.proofs.ObjectLemmas.{same_frame, same_block}
pub use Rattle.forest_law.proofs.TurnLemmas.{turn_of, turns_of}
use Rattle.forest_law.proofs.RestLemmas.{rests_kind, rests_later, step_later}
use Rattle.forest_law.proofs.OneOutsideLemmas.{OutsideSuits, turns_suit, still_framed, one_stays}

-- a number is that of a frame of the steps, or of none
pub frame_or : (sh : Shape) (k : ℕ) (steps : List FrameStep)
    → IsNoFrameOf sh k steps ⊎ ((s : FrameStep) × In s steps × (k ≡ frame_id sh s.hand.block))
frame_or sh k [] = inl tt
frame_or sh k (s ∷ ss) = elim (cases_eq k (frame_id sh s.hand.block)) [
  | inl e ↦ inr (s, inl refl, e)
  | inr ne ↦ elim (frame_or sh k ss) [
    | inl rest ↦ inl (ne, rest)
    | inr found ↦ inr (found.0, inr found.1, found.2)
  ]
]

-- and so it is with the trees
pub tree_or : (k : ℕ) (trees : List TreeStep)
    → IsNoTreeOf k trees ⊎ ((t : TreeStep) × In t trees × (k ≡ tree_id t.index))
tree_or k [] = inl tt
tree_or k (t ∷ ts) = elim (cases_eq k (tree_id t.index)) [
  | inl e ↦ inr (t, inl refl, e)
  | inr ne ↦ elim (tree_or k ts) [
    | inl rest ↦ inl (ne, rest)
    | inr found ↦ inr (found.0, inr found.1, found.2)
  ]
]

in_turns : (s : FrameStep) (steps : List FrameStep) → In s steps → In (turn_of s) (turns_of steps)
in_turns s [] i = absurd i
in_turns s (t ∷ ts) (inl e) = inl (ap turn_of e)
in_turns s (t ∷ ts) (inr i) = inr (in_turns s ts i)

module _ (before news : List (Option Object)) where
  -- an object in hand is one before and one after
  pub one_before : (k : ℕ) (x y : Object) → get_elem? before k ≡ some (Some x)
      → get_elem? before k ≡ some (Some y) → x ≡ y
  one_before k x y e f = same_some x y (some-injective (Some x) (Some y) (sym e ∙ f))

  pub one_after : (k : ℕ) (x y : Object) → get_elem? news k ≡ some (Some x)
      → get_elem? news k ≡ some (Some y) → x ≡ y
  one_after k x y e f = same_some x y (some-injective (Some x) (Some y) (sym e ∙ f))

  -- so what holds of it at one number holds of it
  pub same_becomes : (R : Object → Object → Type 0) (k j : ℕ) (x y a c : Object)
      → Becomes before news k x y → k ≡ j → Becomes before news j a c → R a c → R x y
  same_becomes R k j x y a c b e m so =
      subst (λ z. R z y) (one_before k a x (ap (get_elem? before) e ∙ m.0) b.0)
      (subst (R a) (one_after k c y (ap (get_elem? news) e ∙ m.1) b.1) so)

module _ (sh : Shape) (before news : List (Option Object)) (steps : List FrameStep)
    (trees : List TreeStep) (make : MakeSteps sh before news steps trees) where
  -- what holds of the frames and trees that make steps, and of all at rest, holds of all in hand
  all_in_hand : (R : Object → Object → Type 0)
      → ((s : FrameStep) → In s steps → MakesFrameStep sh before news s
      → R (object.Frame s.hand.old) (object.Frame s.hand.new))
      → ((t : TreeStep) → MakesTreeStep before news t → R (object.Tree t.old) (object.Tree t.new))
      → ((x y : Object) → Rests x y → R x y) → (k : ℕ) (x y : Object) → Becomes before news k x y
      → R x y
  all_in_hand R framed treed rested k x y b = elim (frame_or sh k steps) [
    | inr s ↦ (let m = each_in (MakesFrameStep sh before news) steps make.each s.0 s.1 in
        same_becomes before news R k (frame_id sh s.0.hand.block) x y (object.Frame s.0.hand.old)
        (object.Frame s.0.hand.new) b s.2 m.becomes (framed s.0 s.1 m))
    | inl apart ↦ elim (tree_or k trees) [
      | inr t ↦ (let m = each_in (MakesTreeStep before news) trees make.tops t.0 t.1 in
          same_becomes before news R k (tree_id t.0.index) x y (object.Tree t.0.old)
          (object.Tree t.0.new) b t.2 m.becomes (treed t.0 m))
      | inl aside ↦ rested x y (make.others k x y b apart aside)
    ]
  ]

  kinds : (k : ℕ) (x y : Object) → Becomes before news k x y → KeepsKind x y
  kinds = all_in_hand KeepsKind (λ s among m. tt) (λ t m. (m.index, m.root)) rests_kind

  clocks : AllByRecursion ClockSuits steps → (k : ℕ) (x y : Object) → Becomes before news k x y
      → IsLaterObject x y
  clocks suit = all_in_hand IsLaterObject
      (λ s among m. step_later s m.had m.has (each_in ClockSuits steps suit s among))
      (λ t m. later_itself (object_mark (object.Tree t.old))) rests_later

  each_turn : (ss : List FrameStep) → AllByRecursion (MakesFrameStep sh before news) ss
      → AllByRecursion (IsTurn sh before news) (turns_of ss)
  each_turn [] a = tt
  each_turn (s ∷ ss) a = (
    record {
      was = (s.was, refl, record { frame = s.hand.old; at = a.0.becomes.0; has = a.0.had });
      is = (s.is, refl, record { frame = s.hand.new; at = a.0.becomes.1; has = a.0.has });
    },
    each_turn ss a.1,
  )

  still : (ss : List FrameStep)
      → AllByRecursion (λ (t : Turn). (b : ℕ) × (t.from ≡ InFrame b) × (t.to ≡ InFrame b))
      (turns_of ss)
  still [] = tt
  still (s ∷ ss) = ((s.hand.block, refl, refl), still ss)

  from_elsewhere : (b : ℕ) (ss : List FrameStep) → IsNoFrameOf sh (frame_id sh b) ss
      → AllByRecursion (λ (t : Turn). t.from ≢ InFrame b) (turns_of ss)
  from_elsewhere b [] a = tt
  from_elsewhere b (s ∷ ss) a =
      ((λ e. a.0 (ap (frame_id sh) (sym (same_block s.hand.block b e)))), from_elsewhere b ss a.1)

  -- a page that a frame of a step has is that of the step
  number_of : (f : Frame) (n : ℕ) (page : Page) → HasPage f n page → (p : PageRows)
      → f.page ≡ Some p → n ≡ p.head.number
  number_of f n page has p e = sym has.number
      ∙ ap (λ (z : PageRows). z.head.number) (same_some has.rows p (sym has.paged ∙ e))

  turned : (b : ℕ) (x y : Frame) (s : FrameStep) → In s steps
      → frame_id sh b ≡ frame_id sh s.hand.block → MakesFrameStep sh before news s
      → Becomes before news (frame_id sh b) (object.Frame x) (object.Frame y)
      → TurnsPage (turns_of steps) b x y
  turned b x y s among e m bec = record {
    was = λ p q. record {
      turn = turn_of s;
      among = in_turns s steps among;
      number = number_of s.hand.old s.number s.was m.had p (ap (λ (f : Frame). f.page) (sym old) ∙ q);
    };
    is = λ p q. (
      record {
        turn = turn_of s;
        among = in_turns s steps among;
        number = number_of s.hand.new s.number s.is m.has p (ap (λ (f : Frame). f.page) (sym new) ∙ q);
      },
      ap InFrame (omega (arith, e)),
    );
  }
    where
      old : x ≡ s.hand.old
      old = same_frame x s.hand.old
          (one_before before news (frame_id sh b) (object.Frame x) (object.Frame s.hand.old) bec.0
          (ap (get_elem? before) e ∙ m.becomes.0))

      new : y ≡ s.hand.new
      new = same_frame y s.hand.new
          (one_after before news (frame_id sh b) (object.Frame y) (object.Frame s.hand.new) bec.1
          (ap (get_elem? news) e ∙ m.becomes.1))

  -- the number of a frame is no tree's of those that make steps
  no_tree_is_frame : (k : ℕ) (f g : Frame)
      → Becomes before news k (object.Frame f) (object.Frame g) → (ts : List TreeStep)
      → AllByRecursion (MakesTreeStep before news) ts → IsNoTreeOf k ts
  no_tree_is_frame k f g b [] a = tt
  no_tree_is_frame k f g b (t ∷ ts) a = (
    (λ e. not_tree (one_before before news k (object.Frame f) (object.Tree t.old) b.0
        (ap (get_elem? before) e ∙ a.0.becomes.0))),
    no_tree_is_frame k f g b ts a.1,
  )
    where
      not_tree : object.Frame f ≡ object.Tree t.old → ⊥
      not_tree e = absurd cc

  frames : (b : ℕ) (x y : Frame)
      → Becomes before news (frame_id sh b) (object.Frame x) (object.Frame y)
      → KeepsPage (turns_of steps) b x y ⊎ TurnsPage (turns_of steps) b x y
  frames b x y bec = elim (frame_or sh (frame_id sh b) steps) [
    | inl apart ↦ inl (let same = make.others (frame_id sh b) (object.Frame x) (object.Frame y)
        bec apart (no_tree_is_frame (frame_id sh b) x y bec trees make.tops) in
        record {
          page = same.page;
          low = same.low;
          high = same.high;
          apart = from_elsewhere b steps apart;
        })
    | inr s ↦ inr (turned b x y s.0 s.1 s.2
        (each_in (MakesFrameStep sh before news) steps make.each s.0 s.1) bec)
  ]

  same_pools : (x y : Pool) → Becomes before news pool_id (object.Pool x) (object.Pool y)
      → PoolRests x y
  same_pools x y b =
      make.others pool_id (object.Pool x) (object.Pool y) b (no_frame steps) (no_tree trees)
    where
      no_frame : (ss : List FrameStep) → IsNoFrameOf sh pool_id ss
      no_frame [] = tt
      no_frame (s ∷ ss) = ((λ e. omega (arith, e)), no_frame ss)

      no_tree : (ts : List TreeStep) → IsNoTreeOf pool_id ts
      no_tree [] = tt
      no_tree (t ∷ ts) = ((λ e. omega (arith, e)), no_tree ts)

  ordered : (ss : List FrameStep) → AllByRecursion (MakesFrameStep sh before news) ss
      → LeaveOrder (fields_for sh) (page_changes (turns_of ss))
  ordered [] a = tt
  ordered (s ∷ ss) a = (
    (λ page e. subst (IsOrderly (fields_for sh)) (same_some s.is page e) a.0.order),
    ordered ss a.1,
  )

  -- one page outside the trees is in hand still
  outside : OutsideSuits sh before steps → KeepsOneOutside sh before news (turns_of steps)
  outside suits = record {
    one = one_stays sh before news kinds (turns_of steps) (each_turn steps make.each) frames
        (turns_suit sh before steps suits);
    framed = still_framed (turns_of steps) (still steps);
  }

  -- steps of held frames and trees that are one move follow
  pub frames_follow : (change : Option (ℕ × MadeChange)) → AllByRecursion ClockSuits steps
      → ((heights heights' : ℕ → ℕ) → HeightsLead before news heights heights'
      → (maps maps' : ℕ → Map) → MapsLead change maps maps'
      → IsStep heights heights' maps maps' (page_changes (turns_of steps)))
      → MayChange sh before change → Pays sh change (page_changes (turns_of steps))
      → OutsideSuits sh before steps → KeepsHash sh before news → Follows sh before news change
  frames_follow change suit pages allowed pays suits hash = record {
    kinds = kinds;
    turns = turns_of steps;
    each = each_turn steps make.each;
    frames = frames;
    pool = inl (record { same = same_pools; still = still steps });
    pages = pages;
    order = ordered steps make.each;
    allowed = allowed;
    clocks = clocks suit;
    pays = pays;
    outside = outside suits;
    hash = hash;
  }
