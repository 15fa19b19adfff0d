-- A page comes to a frame and goes from it: one outside the trees, and one to and from its image.
use Rattle.std.proofs.Common.{◌≡◌, ◌≢◌, ◌⊎◌, inl, inr, ℕ, false, [], ◌∷◌, List, sym, ap, subst, ◌∙◌, arith, refl, Option, Some, None}
use Rattle.std.proofs.lemmas.Bool.{cases_eq}
use Rattle.list_facts.proofs.Places.{same_some}
use Rattle.map_history.specs.Map.{Map}
use Rattle.index_page.specs.Page.{PageRows}
use Rattle.index_page.proofs.PartLemmas.{same_rows}
use Rattle.tree_law.specs.Pages.{Page, is_own, IsOrderly}
use Rattle.tree_law.specs.PageMoves.{IsMove, Outside, Rearrange}
use Rattle.clock_law.specs.ModifyClock.{GuardStays, IsLater}
use Rattle.clock_law.proofs.LaterLemmas.{later_itself, rises_later, stays_later}
use Rattle.index_law.specs.Shape.{Shape}
use Rattle.forest_law.specs.declared.objects.Frame.{Frame}
use Rattle.forest_law.specs.declared.objects.Pool.{Pool}
use Rattle.forest_law.specs.declared.objects.Tree.{Tree}
use Rattle.forest_law.specs.declared.objects.Where.{Where}
use Rattle.forest_law.specs.declared.objects.Where.TheVariants.{Free, InFrame, Image}
use Rattle.forest_law.specs.declared.objects.Object.{Object}
use Rattle.forest_law.specs.declared.objects.Object.TheVariants as object
use Rattle.forest_law.specs.Numbers.{pool_id, tree_id, frame_id}
use Rattle.forest_law.specs.State.{where_at, image_at, fields_for, numbered_if, mark_of, object_mark}
use Rattle.forest_law.specs.Objects.{Becomes}
use Rattle.forest_law.specs.Kinds.{KeepsKind}
use Rattle.forest_law.specs.Turns.{Turn, HasPage, IsSeen, IsTurn, page_changes}
use Rattle.forest_law.specs.Placed.{KeepsPage, TurnsPage}
use Rattle.forest_law.specs.Trees.{HeightsLead, TreeTurns, TreeRests}
use Rattle.forest_law.specs.Clocked.{IsLaterObject}
use Rattle.forest_law.specs.Budget.{Pays}
use Rattle.forest_law.specs.HashKept.{KeepsHash}
use Rattle.forest_law.specs.Law.{Follows}
use Rattle.forest_law.specs.Steps.{Rests, InHand, ClockStands}
use Rattle.forest_law.specs.PoolSteps.{PoolStep, BringsPage, TakesPage, EvictsPage, RestoresPage}
use Rattle.forest_law.specs.StepLaws.{PagesComeAndGo}
use Rattle.forest_law.proofs.ObjectLemmas.{same_frame, same_block, not_tree_frame}
use Rattle.forest_law.proofs.RestLemmas.{rests_kind, rests_later}
use Rattle.forest_law.proofs.PlacesLemmas.{not_image}
use Rattle.forest_law.proofs.OneOutsideLemmas.{AddNoneOutside, OnlyOutside, not_outside, one_stays}
use Rattle.forest_law.proofs.FrameStepLemmas.{one_before, one_after, same_becomes}
use Rattle.forest_law.proofs.PayingLemmas.{outside_is_paid, rearrange_is_paid}
use mathlib.Core.Path.{fun_ext}

not_in : (b : ℕ) → Free ≡ InFrame b → ⊥
not_in b e = absurd cc

from_image : (b : ℕ) → Image ≡ InFrame b → ⊥
from_image b e = absurd cc

none_is : {A : Type 0} (x : A) → None ≡ Some x → ⊥
none_is x e = absurd cc

-- a page of the trees is one, whatever its name
of_trees : (n : ℕ) (p : Page) → is_own n p.prev ≡ false → (page : Page) → Some p ≡ Some page
    → is_own n page.prev ≡ false
of_trees n p tree page e =
    ap (λ (z : Page). is_own n z.prev) (sym (same_some p page e)) ∙ tree

module _ (sh : Shape) (before news : List (Option Object)) (number : ℕ)
    (hand : InHand) (old new : Pool) (s : PoolStep sh before news number hand old new) where
  -- what holds of the pool, the frame and all at rest holds of all in hand
  all_in_hand : (R : Object → Object → Type 0) → R (object.Pool old) (object.Pool new)
      → R (object.Frame hand.old) (object.Frame hand.new)
      → ((x y : Object) → Rests x y → R x y) → (k : ℕ) (x y : Object) → Becomes before news k x y
      → R x y
  all_in_hand R pooled framed rested k x y b = elim (cases_eq k pool_id) [
    | inl e ↦ same_becomes before news R k pool_id x y (object.Pool old) (object.Pool new) b e
        s.pool pooled
    | inr ne ↦ elim (cases_eq k (frame_id sh hand.block)) [
      | inl e ↦ same_becomes before news R k (frame_id sh hand.block) x y
          (object.Frame hand.old) (object.Frame hand.new) b e s.frame framed
      | inr ne' ↦ rested x y (s.others k x y b ne ne')
    ]
  ]

  kinds : (k : ℕ) (x y : Object) → Becomes before news k x y → KeepsKind x y
  kinds = all_in_hand KeepsKind tt tt rests_kind

  clocks : IsLater (mark_of hand.old) (mark_of hand.new) → (k : ℕ) (x y : Object)
      → Becomes before news k x y → IsLaterObject x y
  clocks later = all_in_hand IsLaterObject (later_itself (object_mark (object.Pool old))) later
      rests_later

  -- each held tree keeps its height
  heights_stay : (h h' : ℕ → ℕ) → HeightsLead before news h h' → h' ≡ h
  heights_stay h h' lead = fun_ext (λ i. one i (lead i))
    where
      not_frame : (i : ℕ) (x y : Tree)
          → Becomes before news (tree_id i) (object.Tree x) (object.Tree y)
          → tree_id i ≢ frame_id sh hand.block
      not_frame i x y b e = not_tree_frame hand.old x
          (one_before before news (tree_id i) (object.Frame hand.old) (object.Tree x)
          (subst (λ k. Becomes before news k (object.Frame hand.old) (object.Frame hand.new))
          (sym e) s.frame).0 b.0)

      one : (i : ℕ) → TreeTurns before news i (h i) (h' i) ⊎ TreeRests before i (h i) (h' i)
          → h' i ≡ h i
      one i (inl t) = t.is ∙ (ap (λ z. z.height)
          (s.others (tree_id i) (object.Tree t.old) (object.Tree t.new) t.becomes
          (λ e. omega (arith, e)) (not_frame i t.old t.new t.becomes)) ∙ sym t.was)
      one i (inr r) = r.same

  frames_beside : (t : Turn) → ((c : ℕ) → c ≢ hand.block → t.from ≢ InFrame c)
      → TurnsPage (t ∷ []) hand.block hand.old hand.new → (b : ℕ) (x y : Frame)
      → Becomes before news (frame_id sh b) (object.Frame x) (object.Frame y)
      → KeepsPage (t ∷ []) b x y ⊎ TurnsPage (t ∷ []) b x y
  frames_beside t away turns b x y bec = elim (cases_eq b hand.block) [
    | inl e ↦ inr (here e)
    | inr ne ↦ inl (let same = s.others (frame_id sh b) (object.Frame x) (object.Frame y) bec
        (λ e. omega (arith, e)) (λ e. ne (omega (arith, e))) in
        record { page = same.page; low = same.low; high = same.high; apart = (away b ne, tt) })
  ]
    where
      here : b ≡ hand.block → TurnsPage (t ∷ []) b x y
      here e = let at = subst
          (λ c. Becomes before news (frame_id sh c) (object.Frame hand.old)
          (object.Frame hand.new)) (sym e) s.frame in
          let was = same_frame hand.old x
          (one_before before news (frame_id sh b) (object.Frame hand.old) (object.Frame x)
          at.0 bec.0) in
          let is = same_frame hand.new y
          (one_after before news (frame_id sh b) (object.Frame hand.new) (object.Frame y)
          at.1 bec.1) in
          subst (λ c. TurnsPage (t ∷ []) c x y) (sym e)
          (subst (λ z. TurnsPage (t ∷ []) hand.block z y) was
          (subst (λ z. TurnsPage (t ∷ []) hand.block hand.old z) is turns))

  -- the page's turn
  abbrev turn : (from to : Where) → (was is : Option Page) → Turn
  turn from to was is = record { number = number; from = from; to = to; old = was; new = is }

  -- what is known of the page's turn, between the frame and another place
  record TurnsAlone (from to : Where) (was is : Option Page) : Type 0 where
    seen : IsTurn sh before news (turn from to was is)
    away : (c : ℕ) → c ≢ hand.block → from ≢ InFrame c
    frame : TurnsPage (turn from to was is ∷ []) hand.block hand.old hand.new
    was_at : where_at old.place.items number ≡ from
    is_at : where_at new.place.items number ≡ to
    gone : to ≢ Image → image_at new.images.items number ≡ None
    move : (h h' : ℕ → ℕ) → h' ≡ h → (maps maps' : ℕ → Map) → maps' ≡ maps
        → IsMove h h' maps maps' (page_changes (turn from to was is ∷ []))
    order : (page : Page) → is ≡ Some page → IsOrderly (fields_for sh) page
    later : IsLater (mark_of hand.old) (mark_of hand.new)
    pays : Pays sh None (page_changes (turn from to was is ∷ []))
    outside : AddNoneOutside (turn from to was is ∷ [])
        ⊎ OnlyOutside sh before (turn from to was is ∷ [])
    tree : to ≡ Image → (page : Page) → is ≡ Some page → is_own number page.prev ≡ false

  -- such a step follows
  turn_follows : (from to : Where) (was is : Option Page) → TurnsAlone from to was is
      → KeepsHash sh before news → Follows sh before news None
  turn_follows from to was is t hash = record {
    kinds = kinds;
    turns = turn from to was is ∷ [];
    each = (t.seen, tt);
    frames = frames_beside (turn from to was is) t.away t.frame;
    pool = inr (record {
      old = old;
      new = new;
      becomes = s.pool;
      counted = s.counted;
      each = ((t.was_at, t.is_at), tt);
      gone = (t.gone, tt);
      others = λ n apart. s.elsewhere n apart.0;
    });
    pages = λ h h' lead maps maps' same. inr (t.move h h' (heights_stay h h' lead) maps maps' same);
    order = (t.order, tt);
    allowed = tt;
    clocks = clocks t.later;
    pays = t.pays;
    outside = assumption (one_stays sh before news kinds (turn from to was is ∷ []) (t.seen, tt) (frames_beside (turn from to was is) t.away t.frame) t.outside);
    hash = hash;
  }

  -- the page of a frame has the turn's number
  number_of : (f : Frame) (page : Page) → HasPage f number page → (p : PageRows) → f.page ≡ Some p
      → number ≡ p.head.number
  number_of f page has p e = sym has.number
      ∙ ap (λ (z : PageRows). z.head.number) (same_some has.rows p (sym has.paged ∙ e))

  -- a page is seen in the frame before, and after
  seen_before : (page : Page) → HasPage hand.old number page
      → IsSeen sh before number (InFrame hand.block) (Some page)
  seen_before page had = (page, refl, record { frame = hand.old; at = s.frame.0; has = had })

  seen_after : (page : Page) → HasPage hand.new number page
      → IsSeen sh news number (InFrame hand.block) (Some page)
  seen_after page has = (page, refl, record { frame = hand.new; at = s.frame.1; has = has })

  -- a page that comes to the empty frame takes part, and no other does
  comes : (from : Where) (was : Option Page) (page : Page) → hand.old.page ≡ None
      → HasPage hand.new number page
      → TurnsPage (turn from (InFrame hand.block) was (Some page) ∷ []) hand.block hand.old hand.new
  comes from was page empty has = record {
    was = λ p e. absurd (none_is p (sym empty ∙ e));
    is = λ q e. (
      record {
        turn = turn from (InFrame hand.block) was (Some page);
        among = inl refl;
        number = number_of hand.new page has q e;
      },
      refl,
    );
  }

  -- and so does one that goes from the frame
  goes : (to : Where) (is : Option Page) (page : Page) → HasPage hand.old number page
      → hand.new.page ≡ None
      → TurnsPage (turn (InFrame hand.block) to (Some page) is ∷ []) hand.block hand.old hand.new
  goes to is page had empty = record {
    was = λ p e. record {
      turn = turn (InFrame hand.block) to (Some page) is;
      among = inl refl;
      number = number_of hand.old page had p e;
    };
    is = λ q e. absurd (none_is q (sym empty ∙ e));
  }

  -- a frame that had no page is a later one where its clock stands
  comes_later : ClockStands hand → hand.old.page ≡ None
      → IsLater (mark_of hand.old) (mark_of hand.new)
  comes_later clock empty = stays_later (mark_of hand.old) (mark_of hand.new) clock
      (subst (λ p. GuardStays (numbered_if p hand.old.low hand.old.high)
      (mark_of hand.new).guards) (sym empty) tt)

  from_block : (c : ℕ) → c ≢ hand.block → InFrame hand.block ≢ InFrame c
  from_block c ne e = ne (sym (same_block hand.block c e))

  -- a page that keeps its rows
  rearranged : (page : Page) (h h' : ℕ → ℕ) → h' ≡ h → (maps maps' : ℕ → Map) → maps' ≡ maps
      → IsMove h h' maps maps'
      (record { number = number; old = Some page; new = Some page } ∷ [])
  rearranged page h h' heights maps maps' same = Rearrange number
      (record { page = page; rows = page.rows; same = same_rows page.rows }) heights same

  -- and adds nothing
  rearranged_is_paid : (page : Page)
      → Pays sh None (record { number = number; old = Some page; new = Some page } ∷ [])
  rearranged_is_paid page = rearrange_is_paid sh number
      (record { page = page; rows = page.rows; same = same_rows page.rows })

-- a page that comes follows
pub brings_follows : (sh : Shape) (before news : List (Option Object)) → BringsPage sh before news
    → KeepsHash sh before news → Follows sh before news None
brings_follows sh before news br hash = turn_follows sh before news br.number br.hand br.old br.new
    br.step
    Free (InFrame br.hand.block) None (Some br.page) (record {
      seen = record {
        was = refl;
        is = seen_after sh before news br.number br.hand br.old br.new br.step br.page br.has;
      };
      away = λ c ne e. not_in c e;
      frame = comes sh before news br.number br.hand br.old br.new br.step Free None br.page
          br.empty br.has;
      was_at = br.was;
      is_at = br.is;
      gone = λ isnt. br.unstored;
      move = λ h h' heights maps maps' same. Outside br.number
          (record { old = None; new = Some br.page; was = tt; is = br.outside }) heights same;
      order = λ page e. subst (IsOrderly (fields_for sh)) (same_some br.page page e) br.order;
      later = comes_later sh before news br.number br.hand br.old br.new br.step br.clock br.empty;
      pays = outside_is_paid sh br.number
          (record { old = None; new = Some br.page; was = tt; is = br.outside });
      outside = inr (record {
        none = br.alone;
        number = br.number;
        each = ((λ page e own. refl), tt);
      });
      tree = λ to. absurd (not_image br.hand.block to);
    }) hash

-- a page that goes follows
pub takes_follows : (sh : Shape) (before news : List (Option Object)) → TakesPage sh before news
    → KeepsHash sh before news → Follows sh before news None
takes_follows sh before news tk hash = turn_follows sh before news tk.number tk.hand tk.old tk.new
    tk.step
    (InFrame tk.hand.block) Free (Some tk.page) None (record {
      seen = record {
        was = seen_before sh before news tk.number tk.hand tk.old tk.new tk.step tk.page tk.had;
        is = refl;
      };
      away = from_block sh before news tk.number tk.hand tk.old tk.new tk.step;
      frame = goes sh before news tk.number tk.hand tk.old tk.new tk.step Free None tk.page tk.had
          tk.empty;
      was_at = tk.was;
      is_at = tk.is;
      gone = λ isnt. tk.unstored;
      move = λ h h' heights maps maps' same. Outside tk.number
          (record { old = Some tk.page; new = None; was = tk.outside; is = tt }) heights same;
      order = λ page e. absurd (none_is page e);
      later = rises_later (mark_of tk.hand.old) (mark_of tk.hand.new) tk.clock;
      pays = outside_is_paid sh tk.number
          (record { old = Some tk.page; new = None; was = tk.outside; is = tt });
      outside = inl ((λ page e. absurd (none_is page e)), tt);
      tree = λ to page e. absurd (none_is page e);
    }) hash

-- a page that goes to its image follows
pub evicts_follows : (sh : Shape) (before news : List (Option Object)) → EvictsPage sh before news
    → KeepsHash sh before news → Follows sh before news None
evicts_follows sh before news ev hash = turn_follows sh before news ev.number ev.hand ev.old ev.new
    ev.step
    (InFrame ev.hand.block) Image (Some ev.page) (Some ev.page) (record {
      seen = record {
        was = seen_before sh before news ev.number ev.hand ev.old ev.new ev.step ev.page ev.had;
        is = (
          ev.page,
          refl,
          record {
            pool = ev.new;
            at = ev.step.pool.1;
            image = ev.image;
            stored = ev.stored;
            has = ev.has;
          },
        );
      };
      away = from_block sh before news ev.number ev.hand ev.old ev.new ev.step;
      frame = goes sh before news ev.number ev.hand ev.old ev.new ev.step Image (Some ev.page)
          ev.page ev.had ev.empty;
      was_at = ev.was;
      is_at = ev.is;
      gone = λ isnt. absurd (isnt refl);
      move = rearranged sh before news ev.number ev.hand ev.old ev.new ev.step ev.page;
      order = λ page e. subst (IsOrderly (fields_for sh)) (same_some ev.page page e) ev.order;
      later = rises_later (mark_of ev.hand.old) (mark_of ev.hand.new) ev.clock;
      pays = rearranged_is_paid sh before news ev.number ev.hand ev.old ev.new ev.step ev.page;
      outside = inl (
        (λ page e. not_outside ev.number page.prev
            (of_trees ev.number ev.page ev.tree page e)),
        tt,
      );
      tree = λ to. of_trees ev.number ev.page ev.tree;
    }) hash

-- a page that comes from its image follows
pub restores_follows : (sh : Shape) (before news : List (Option Object))
    → RestoresPage sh before news → KeepsHash sh before news
    → Follows sh before news None
restores_follows sh before news re hash = turn_follows sh before news re.number re.hand re.old re.new
    re.step Image (InFrame re.hand.block) (Some re.page) (Some re.page) (record {
      seen = record {
        was = (
          re.page,
          refl,
          record {
            pool = re.old;
            at = re.step.pool.0;
            image = re.image;
            stored = re.stored;
            has = re.had;
          },
        );
        is = seen_after sh before news re.number re.hand re.old re.new re.step re.page re.has;
      };
      away = λ c ne e. from_image c e;
      frame = comes sh before news re.number re.hand re.old re.new re.step Image (Some re.page)
          re.page re.empty re.has;
      was_at = re.was;
      is_at = re.is;
      gone = λ isnt. re.unstored;
      move = rearranged sh before news re.number re.hand re.old re.new re.step re.page;
      order = λ page e. subst (IsOrderly (fields_for sh)) (same_some re.page page e) re.order;
      later = comes_later sh before news re.number re.hand re.old re.new re.step re.clock re.empty;
      pays = rearranged_is_paid sh before news re.number re.hand re.old re.new re.step re.page;
      outside = inl (
        (λ page e. not_outside re.number page.prev
            (of_trees re.number re.page re.tree page e)),
        tt,
      );
      tree = λ to. of_trees re.number re.page re.tree;
    }) hash

pub pages_come_and_go : PagesComeAndGo
pages_come_and_go = assumption (brings_follows, takes_follows, evicts_follows, restores_follows)
