-- Leaves in hand, while others are taken and given back.
use Rattle.std.proofs.Common.{◌≡◌, ◌≢◌, inl, inr, ℕ, ◌<◌, List, [], ◌∷◌, length, sym, ap, subst, ◌∙◌, arith, None}
use Rattle.std.specs.List.{AllByRecursion}
use Rattle.std.proofs.lemmas.Bool.{cases_eq}
use mathlib.Core.Option.{some}
use lib.ListN.{get_elem?}
use Rattle.latch_law.specs.declared.knows.Terms.{Terms}
use Rattle.latch_space.specs.Has.{SameHands}
use Rattle.latch_space.specs.Passes.{view, count}
use Rattle.index_law.specs.Shape.{Shape}
use Rattle.forest_law.specs.declared.objects.Frame.{Frame}
use Rattle.forest_law.specs.Numbers.{pool_id, part_id, frame_id, frames_of}
use Rattle.forest_world.specs.Held.{TreePass, shape_of_pass}
use Rattle.call_law.specs.Hands.{KnowsFrame}
use Rattle.buffer_pool.specs.Calls.{DoesSilently}
use Rattle.buffer_pool.specs.Frames.{GivesFrame}
use Rattle.buffer_pool.specs.Hands.{MayGiveBack}
use Rattle.buffer_pool.specs.Pages.{HasTreePage}
use Rattle.tree_law.specs.Pages.{IsOrderly}
use Rattle.forest_law.specs.State.{page_within, fields_for}
use Rattle.tree_descent.specs.Ways.{HoldsPage}
use Rattle.buffer_pool.proofs.CallLemmas.{gave_frame}
use Rattle.tree_descent.proofs.PageLemmas.{may_give_back}
use Rattle.tree_neighbours.specs.declared.side.Side.{Side}
use Rattle.tree_neighbours.specs.LeafHands.{HoldsLeavesAlone}
use Rattle.tree_neighbours.specs.Neighbours.{TakesBeside}
use Rattle.engine_law.proofs.KnownLemmas.{gave_known, knows_same, part_no_frame}

-- what is given back of a block has the page that it was known to have
pub gave_page : (p q : TreePass) (b i : ℕ) (f : Frame) → KnowsFrame (view p) b f
    → HasTreePage f i 0 → (gave : GivesFrame p b q) → HasTreePage gave.frame i 0
gave_page p q b i f knows is gave =
    subst (λ g. HasTreePage g i 0) (gave_known p q b f knows gave) is

module _ (p q : TreePass) where
  -- what is held after a call that takes frames
  pub only_then : (bs cs ks : List ℕ) → HoldsLeavesAlone p bs → DoesSilently p q ks
      → ((c : ℕ) → AllByRecursion (λ (b : ℕ). c ≢ b) cs
      → AllByRecursion (λ (b : ℕ). c ≢ b) bs
      × AllByRecursion (λ (k : ℕ). frame_id (shape_of_pass p) c ≢ k) ks)
      → AllByRecursion (λ (k : ℕ). pool_id ≢ k) ks
      → ((k : ℕ) → k < (shape_of_pass p).parts
      → AllByRecursion (λ (j : ℕ). part_id (shape_of_pass p) k ≢ j) ks)
      → count q ≡ length cs → HoldsLeavesAlone q cs
  only_then bs cs ks only silently apart pool parts counted =
      let same = silently.does.adds.numbers.terms in record {
        known = silently.does.known;
        frames = subst
            (λ (t : Terms Shape). (c : ℕ) → c < frames_of t.shape
            → AllByRecursion (λ (b : ℕ). c ≢ b) cs
            → get_elem? (view q).held (frame_id t.shape c) ≡ some None) (sym same)
            (λ c below other. silently.does.rest (frame_id (shape_of_pass p) c)
            (apart c other).1 ∙ only.frames c below (apart c other).0);
        tables = record {
          pool = silently.does.rest pool_id pool ∙ only.tables.pool;
          parts = subst
              (λ (t : Terms Shape). (k : ℕ) → k < t.shape.parts
              → get_elem? (view q).held (part_id t.shape k) ≡ some None) (sym same)
              (λ k below. silently.does.rest (part_id (shape_of_pass p) k) (parts k below)
              ∙ only.tables.parts k below);
        };
        count = counted;
      }

  -- a frame was given back
  pub only_gave : (b : ℕ) (cs : List ℕ) → HoldsLeavesAlone p (b ∷ cs) → GivesFrame p b q
      → HoldsLeavesAlone q cs
  only_gave b cs only gave = record {
    known = (gave_frame p q only.known b gave).known;
    frames = λ c below other. elim (cases_eq c b) [
      | inl is ↦ subst (λ n. get_elem? (view q).held (frame_id (shape_of_pass q) n) ≡ some None)
          (sym is) gave.lacks
      | inr ne ↦ gave.hand.lacks c ne (only.frames c
          (subst (λ (t : Terms Shape). c < frames_of t.shape) gave.hand.terms below) (ne, other))
    ];
    tables = record {
      pool = (gave.hand.others pool_id (λ e. omega (arith, e))).0 ∙ only.tables.pool;
      parts = subst
          (λ (t : Terms Shape). (k : ℕ) → k < t.shape.parts
          → get_elem? (view q).held (part_id t.shape k) ≡ some None) (sym gave.hand.terms)
          (λ k below. (gave.hand.others (part_id (shape_of_pass p) k)
          (part_no_frame (shape_of_pass p) k b below)).0 ∙ only.tables.parts k below);
    };
    count = (let was = only.count in let now = gave.count in omega (arith, was, now));
  }

  -- or nothing but a step on a list was made
  pub only_same : (bs : List ℕ) → HoldsLeavesAlone p bs → SameHands p q
      → (view q).terms ≡ (view p).terms → HoldsLeavesAlone q bs
  only_same bs only same terms = record {
    known = λ j h held. ap (λ vs. get_elem? vs j) same.values
        ∙ only.known j h (ap (λ hs. get_elem? hs j) (sym same.held) ∙ held);
    frames = subst
        (λ (t : Terms Shape). (c : ℕ) → c < frames_of t.shape
        → AllByRecursion (λ (b : ℕ). c ≢ b) bs
        → get_elem? (view q).held (frame_id t.shape c) ≡ some None) (sym terms)
        (λ c below other. ap (λ hs. get_elem? hs (frame_id (shape_of_pass p) c)) same.held
        ∙ only.frames c below other);
    tables = record {
      pool = ap (λ hs. get_elem? hs pool_id) same.held ∙ only.tables.pool;
      parts = subst
          (λ (t : Terms Shape). (k : ℕ) → k < t.shape.parts
          → get_elem? (view q).held (part_id t.shape k) ≡ some None) (sym terms)
          (λ k below. ap (λ hs. get_elem? hs (part_id (shape_of_pass p) k)) same.held
          ∙ only.tables.parts k below);
    };
    count = same.count ∙ only.count;
  }

  -- a frame is known still where another one is given back
  pub knows_gave : (b c : ℕ) (f : Frame) → c ≢ b → GivesFrame p b q → KnowsFrame (view p) c f
      → KnowsFrame (view q) c f
  knows_gave b c f ne gave knows = (
    knows.0,
    ap (λ (t : Terms Shape). get_elem? (view q).held (frame_id t.shape c)) gave.hand.terms
        ∙ ((gave.hand.others (frame_id (shape_of_pass p) c) (λ e. ne (omega (arith, e)))).0
        ∙ knows.1),
  )

-- no block is held twice
pub frames_apart : (shape : Shape) (b c : ℕ) → c ≢ b → frame_id shape c ≢ frame_id shape b
frames_apart shape b c ne e = ne (omega (arith, e))

module _ (p q : TreePass) (i : ℕ) where
  -- a leaf that is held is held still after a step on a list
  pub page_same : (b : ℕ) → SameHands p q → (view q).terms ≡ (view p).terms
      → HoldsPage (view p) b i 0 → HoldsPage (view q) b i 0
  page_same b same terms holds = record {
    frame = holds.frame;
    knows = knows_same p q b holds.frame same.held terms holds.knows;
    is = holds.is;
    order = subst
        (λ (t : Terms Shape). IsOrderly (fields_for t.shape)
        (page_within holds.is.page holds.frame.low holds.frame.high)) (sym terms) holds.order;
  }

  -- and after another one is given back
  unfoldable pub page_gave : (b c : ℕ) → c ≢ b → GivesFrame p b q → HoldsPage (view p) c i 0
      → HoldsPage (view q) c i 0
  page_gave b c ne gave holds = record {
    frame = holds.frame;
    knows = knows_gave p q b c holds.frame ne gave holds.knows;
    is = holds.is;
    order = subst
        (λ (t : Terms Shape). IsOrderly (fields_for t.shape)
        (page_within holds.is.page holds.frame.low holds.frame.high)) (sym gave.hand.terms)
        holds.order;
  }

-- a leaf that is known may be given back
pub may_leave : (p : TreePass) (bs : List ℕ) (b i : ℕ) (f : Frame) → HoldsLeavesAlone p bs
    → KnowsFrame (view p) b f → HasTreePage f i 0 → MayGiveBack p b
may_leave p bs b i f only knows is = may_give_back p only.known b i 0 f knows is

-- the leaf beside the one in hand was taken, and both are held
module _ (p : TreePass) (b i : ℕ) (side : Side) (m : ℕ) (q : TreePass)
    (took : TakesBeside p b i side m q) where
  pub beside_shape : shape_of_pass q ≡ shape_of_pass p
  beside_shape = ap (λ (t : Terms Shape). t.shape) took.silently.does.adds.numbers.terms

  pub beside_only : HoldsLeavesAlone p (b ∷ []) → HoldsLeavesAlone q (b ∷ m ∷ [])
  beside_only only = only_then p q (b ∷ []) (b ∷ m ∷ []) (frame_id (shape_of_pass p) m ∷ []) only
      took.silently
      (λ c apart.
      ((apart.0, tt), (frames_apart (shape_of_pass p) m c apart.1.0, tt)))
      ((λ e. omega (arith, e)), tt)
      (λ k below. (part_no_frame (shape_of_pass p) k m below, tt))
      (let was = only.count in let now = took.count in omega (arith, was, now))

  -- the one is known still
  pub beside_knows : (f : Frame) → KnowsFrame (view p) b f → KnowsFrame (view q) b f
  beside_knows f knows = (
    knows.0,
    ap (λ s. get_elem? (view q).held (frame_id s b)) beside_shape
        ∙ (took.silently.does.rest (frame_id (shape_of_pass p) b)
        (frames_apart (shape_of_pass p) m b (λ e. took.beside.other (sym e)), tt)
        ∙ knows.1),
  )

  -- and is a leaf still
  unfoldable pub beside_keeps : (h : HoldsPage (view p) b i 0) → HoldsPage (view q) b i 0
  beside_keeps h = record {
    frame = h.frame;
    knows = beside_knows h.frame h.knows;
    is = h.is;
    order = subst
        (λ s. IsOrderly (fields_for s) (page_within h.is.page h.frame.low h.frame.high))
        (sym beside_shape) h.order;
  }

  -- the other is one too
  unfoldable pub beside_page : HoldsPage (view q) m i 0
  beside_page = record {
    frame = took.frame;
    knows = took.knows;
    is = took.beside.is;
    order = subst
        (λ s. IsOrderly (fields_for s)
        (page_within took.beside.is.page took.frame.low took.frame.high))
        (sym beside_shape) took.beside.order;
  }
