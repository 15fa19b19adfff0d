-- A descent is counted, and what comes of it.
use Rattle.std.proofs.Common.{◌≡◌, ℕ, ◌≤◌, Bool, true, false, [], length, sym, ap, subst, ◌∙◌, refl, Some}
use mathlib.Core.Option.{some-injective}
use lib.ListN.{get_elem?}
use Rattle.key_tuple.specs.Fold.{asked_fields}
use Rattle.latch_space.specs.Has.{IsKnown}
use Rattle.latch_space.specs.Passes.{view}
use Rattle.learning.specs.declared.info.Info.{Info}
use Rattle.learning.specs.declared.event.BlockFigures.{BlockFigures}
use Rattle.learning.specs.declared.event.Descent.{Descent}
use Rattle.learning.specs.declared.event.Event.TheVariants as event
use Rattle.learning.specs.declared.event.Figures.{Figures}
use Rattle.learning.specs.Bounds.{IsInfoOf}
use Rattle.learning.specs.Learning.{learn}
use Rattle.map_history.specs.declared.columns.Note.{Note}
use Rattle.map_history.specs.declared.columns.Note.TheVariants as note
use Rattle.search_info.specs.declared.knows.Knows.{Knows}
use Rattle.search_info.specs.declared.learner.Learner.{Learner}
use Rattle.search_info.specs.declared.outcome.Learn.{Learn}
use Rattle.search_info.specs.declared.outcome.Learn.TheVariants.{Learnt, Raced, Worn}
use Rattle.search_info.specs.History.{Start}
use Rattle.search_info.specs.Outcomes.{TellsLearn, TellsBlock, descent_of}
use Rattle.search_info.specs.Passes.{HasUnique, opening}
use Rattle.index_page.specs.Page.{PageRows}
use Rattle.forest_law.specs.declared.objects.Frame.{Frame}
use Rattle.forest_law.specs.State.{fields_for}
use Rattle.forest_world.specs.Held.{TreePass, shape_of_pass, HasFrame}
use Rattle.call_law.specs.Spoken.{View}
use Rattle.buffer_pool.specs.Forests.{IsFittedTree}
use Rattle.buffer_pool.proofs.AddedLemmas.{held_adds, none_spares}
use Rattle.buffer_pool.proofs.CallLemmas.{frame_has}
use Rattle.buffer_pool.proofs.HashRestLemmas.{known_tidy}
use Rattle.tree_descent.specs.Ways.{HoldsPage}
use Rattle.leaf_search.specs.Builds.{SuitsLeaf, HoldsToTeach, EndsHashing}
use Rattle.leaf_search.specs.Lessons.{CountsDescent, EndsLesson, FrameBecomes, HasSamePage, Teaches, descent_to, with_figures}
use Rattle.leaf_search.proofs.AdviceLemmas.{block_asks, block_built, few_of, few_on}
use Rattle.leaf_search.proofs.HashLemmas.{hashes_parts}

-- one start is kept of an index
pub one_unique : (l : Learner) (i n m : ℕ) → HasUnique l i n → HasUnique l i m → n ≡ m
one_unique l i n m one two =
    sym one.2 ∙ (ap (λ (s : Start). s.1) (some-injective one.0 two.0 (sym one.1 ∙ two.1)) ∙ two.2)

-- what was counted is bounded by the index's number of fields
counted_bounded : (l : Learner) (v w : Knows) (i n : ℕ) (d : Descent) (told : Learn)
    → v.opening ≡ opening l → HasUnique l i n → TellsLearn v i (event.Descent d) told w
    → (before after : Info) (build : Bool) → told ≡ Learnt before after build
    → IsInfoOf n (learn before (event.Descent d))
counted_bounded l v w i n d told opens unique tells before after build is =
    let counts = (subst (λ z. TellsLearn v i (event.Descent d) z w) is tells).0 in
    let same : counts.start.1 ≡ n = ap (λ (s : Start). s.1)
    (some-injective counts.start unique.0
    (sym (ap (λ o. get_elem? o.starts i) (sym opens) ∙ counts.is_start) ∙ unique.1)) ∙ unique.2 in
    subst (λ z. IsInfoOf n z) counts.after_is
    (subst (λ m. IsInfoOf m after) same counts.bounded.1)

module _ (p : TreePass) (b i : ℕ) (known : IsKnown p) (f : Frame)
    (read : (x y : Frame) → HasFrame p b x y → f ≡ y) (h : HoldsPage (view p) b i 0) where
  -- the frame that was read
  pub leaf_is : f ≡ h.frame
  leaf_is = read h.frame h.frame (frame_has p known b h.frame h.knows)

  abbrev pub leaf_paged : (page : PageRows) × (f.page ≡ Some page)
  leaf_paged = (h.is.page, ap (λ (z : Frame). z.page) leaf_is ∙ h.is.paged)

  pub page_fields : h.is.page.head.fields ≡ fields_for (shape_of_pass p) i
  page_fields = h.order.fields ∙ ap (fields_for (shape_of_pass p)) h.is.index

  -- its advice asks for no more fields than the index has
  pub leaf_few : IsFittedTree (view p)
      → asked_fields f.figures.advice ≤ fields_for (shape_of_pass p) i
  leaf_few fitted = subst (λ (z : Frame). asked_fields z.figures.advice ≤ fields_for (shape_of_pass p) i)
      (sym leaf_is)
      (subst (λ n. asked_fields h.frame.figures.advice ≤ n) page_fields
      (few_of h.frame.page h.is.page h.frame.figures.advice h.is.paged
      (known_tidy (view p) fitted b h.frame h.knows).advice))

  module _ (l : Learner) (v w : Knows) (n rows : ℕ) (figures : Figures) (told : Learn)
      (block : BlockFigures) (unique : HasUnique l i (fields_for (shape_of_pass p) i))
      (unique_n : HasUnique l i n) (opens : v.opening ≡ opening l)
      (counted : (page : PageRows) → f.page ≡ Some page → rows ≡ length page.rows)
      (tells : TellsLearn v i (event.Descent (descent_of n figures f.figures rows)) told w)
      (learns : TellsBlock (descent_of n figures f.figures rows) told block) where
    abbrev d : Descent
    d = descent_to (shape_of_pass p) i figures h.frame h.is.page

    d_is : descent_of n figures f.figures rows ≡ d
    d_is = let fields = one_unique l i n (fields_for (shape_of_pass p) i) unique_n unique in
        let all = counted h.is.page leaf_paged.1 in
        λ j. descent_of (fields j) figures (leaf_is j).figures (all j)

    pub counts_descent : CountsDescent v i d told block w
    counts_descent = record {
      told = subst (λ z. TellsLearn v i (event.Descent z) told w) d_is tells;
      block = subst (λ z. TellsBlock z told block) d_is learns;
    }

    pub counted_suits : IsFittedTree (view p) → SuitsLeaf h.frame block
    counted_suits fitted = record {
      built = block_built d told block counts_descent.block;
      advice = few_on h.frame.page h.is.page block.advice h.is.paged
          (subst (λ m. asked_fields block.advice ≤ m) (sym page_fields)
          (block_asks v i d told w block (fields_for (shape_of_pass p) i) counts_descent.told
          counts_descent.block
          (counted_bounded l v w i (fields_for (shape_of_pass p) i) d told opens unique
          counts_descent.told)
          (subst (λ (z : Frame). asked_fields z.figures.advice ≤ fields_for (shape_of_pass p) i)
          leaf_is (leaf_few fitted))));
    }

module _ (p q : TreePass) (l m : Knows) (i b : ℕ) (figures : Figures) (told : Learn)
    (block : BlockFigures) (h : HoldsPage (view p) b i 0)
    (counts : CountsDescent l i (descent_to (shape_of_pass p) i figures h.frame h.is.page) told block
    m) where
  abbrev x : Frame
  x = with_figures h.frame block

  same_page : (g : Frame) → g ≡ x → HasSamePage h.frame g
  same_page g is = subst (HasSamePage h.frame) (sym is)
      (record { page = refl; low = refl; high = refl; clock = refl })

  -- no build was due
  teaches_figures : (word : Note) → FrameBecomes p b h.frame x [] q
      → EndsLesson p i b h.frame h.is.page block told word x [] → Teaches p l i b figures word q m
  teaches_figures word becomes ends = record {
    leaf = h;
    new = x;
    given = [];
    becomes = becomes;
    same = same_page x refl;
    parts = tt;
    learn = told;
    block = block;
    counts = counts;
    ends = ends;
  }

  pub teaches_no : (before after : Info) → told ≡ Learnt before after false
      → FrameBecomes p b h.frame x [] q → Teaches p l i b figures note.No q m
  teaches_no before after is becomes = teaches_figures note.No becomes
      (subst (λ z. EndsLesson p i b h.frame h.is.page block z note.No x []) (sym is)
      (refl, record { becomes = refl; given = refl }))

  pub teaches_raced : (read found : Info) → told ≡ Raced read found
      → (block ≡ h.frame.figures → FrameBecomes p b h.frame x [] q)
      → Teaches p l i b figures note.Raced q m
  teaches_raced read found is becomes = teaches_figures note.Raced
      (becomes (subst (λ z. TellsBlock (descent_to (shape_of_pass p) i figures h.frame h.is.page) z
      block) is counts.block))
      (subst (λ z. EndsLesson p i b h.frame h.is.page block z note.Raced x []) (sym is)
      (refl, record { becomes = refl; given = refl }))

  pub teaches_worn : told ≡ Worn → (block ≡ h.frame.figures → FrameBecomes p b h.frame x [] q)
      → Teaches p l i b figures note.Worn q m
  teaches_worn is becomes = teaches_figures note.Worn
      (becomes (subst (λ z. TellsBlock (descent_to (shape_of_pass p) i figures h.frame h.is.page) z
      block) is counts.block))
      (subst (λ z. EndsLesson p i b h.frame h.is.page block z note.Worn x []) (sym is)
      (refl, record { becomes = refl; given = refl }))

  -- a build was due
  pub teaches_hashed : (word : Note) (before after : Info) → told ≡ Learnt before after true
      → EndsHashing p i b h.frame h.is.page block word q → Teaches p l i b figures word q m
  teaches_hashed word before after is ends = record {
    leaf = h;
    new = ends.new;
    given = ends.given;
    becomes = ends.becomes;
    same = subst (HasSamePage h.frame) (sym ends.hashes.becomes)
        (record { page = refl; low = refl; high = refl; clock = refl });
    parts = hashes_parts p i b h.frame h.is.page block word ends.new ends.given ends.hashes;
    learn = told;
    block = block;
    counts = counts;
    ends = subst (λ z. EndsLesson p i b h.frame h.is.page block z word ends.new ends.given) (sym is)
        ends.hashes;
  }

-- nothing was done, and the figures are as before
pub figures_same : (p : TreePass) (b i : ℕ) (h : HoldsPage (view p) b i 0) → IsKnown p
    → (block : BlockFigures) → block ≡ h.frame.figures
    → FrameBecomes p b h.frame (with_figures h.frame block) [] p
figures_same p b i h known block same =
    subst (λ z. FrameBecomes p b h.frame (with_figures h.frame z) [] p) (sym same) (record {
      taken = h.knows.0;
      was = h.knows.1;
      is = h.knows.1;
      refused = [];
      does = record {
        adds = held_adds (view p) (view p) (view p).held refl;
        spares = none_spares (shape_of_pass p);
        rest = λ k apart. refl;
        known = known;
      };
      count = refl;
    })

-- a leaf is held with figures that suit it
abbrev pub to_teach : (v : View) (b i : ℕ) (block : BlockFigures) (h : HoldsPage v b i 0)
    → SuitsLeaf h.frame block → HoldsToTeach v b i block
to_teach v b i block h suits = record { leaf = h; suits = suits }
