-- A raise in hand is a raise of the law, and is known once it is settled.
use Rattle.std.proofs.Common.{◌≡◌, ◌≢◌, ℕ, suc, true, false, List, [], ◌∷◌, sym, ap, subst, ◌∙◌, refl, arith, Option, Some, None, ◌<◌, length}
use Rattle.std.specs.List.{AllByRecursion}
use lib.ListN.{get_elem?}
use Rattle.latch_law.specs.Views.{without_seen}
use Rattle.latch_space.specs.Has.{IsKnown, DidSettle}
use Rattle.latch_space.specs.Passes.{view, values, known_values, IsWhole}
use Rattle.index_page.specs.declared.head.PageHead.{PageHead}
use Rattle.index_page.specs.Page.{PageRows}
use Rattle.tree_law.specs.Pages.{is_own}
use Rattle.index_law.specs.Shape.{Shape}
use Rattle.forest_law.specs.declared.objects.Frame.{Frame}
use Rattle.forest_law.specs.declared.objects.Tree.{Tree}
use Rattle.forest_law.specs.declared.objects.Object.TheVariants as object
use Rattle.forest_law.specs.Law.{IsLawful, MayFollow}
use Rattle.forest_law.specs.Numbers.{tree_id, part_id, frame_id}
use Rattle.forest_law.specs.State.{ForestState}
use Rattle.forest_law.proofs.RestructureLemmas.{restructures_follow}
use Rattle.hash_law.specs.Blocks.{part_for}
use Rattle.forest_world.specs.Held.{TreePass, shape_of_pass, HasFrame, HasTree, IsKnownBeyond}
use Rattle.forest_world.specs.HashHands.{HashRestsBeyond, HandKeepsHash}
use Rattle.forest_world.proofs.HandLemmas.{becomes_of, rests_of}
use Rattle.tree_restructure.specs.Raises.{IsRootIn, RaisesFrames}
use Rattle.tree_restructure.proofs.RaiseLemmas.{raise_in_hand}
use Rattle.call_law.specs.Spoken.{View}
use Rattle.buffer_pool.specs.Forests.{FitsTrees}
use Rattle.buffer_pool.specs.NewPages.{outside_page}
use Rattle.buffer_pool.specs.Parts.{part_of_index, part_ids, KnowsPartIf}
use Rattle.buffer_pool.specs.Trees.{ChangesTree}
use Rattle.buffer_pool.proofs.CallLemmas.{tree_has}
use Rattle.tree_smo.specs.Remakes.{Remakes}
use Rattle.tree_smo.specs.Keeping.{KeepsPart, move_of}
use Rattle.tree_smo.specs.PartHeld.{LawsOfMoves}
use Rattle.tree_smo.specs.Storeys.{rise_ids, HoldsStoreys, MakesRaiseBy}
use Rattle.tree_smo.proofs.HashRestLemmas.{HasSomePart, parts_shown, parts_or_rest, unhashed_rests, part_not_frame, part_rests, frame_rests}
use Rattle.tree_smo.proofs.KeepingLemmas.{frame_apart}
use Rattle.tree_smo.proofs.PartHeldLemmas.{block_below}
use Rattle.tree_smo.proofs.LawfulLemmas.{that_page, outside_own}
use Rattle.tree_smo.proofs.PartLemmas.{part_of}
use Rattle.tree_smo.proofs.RemakeLemmas.{same_shape, has_remade, remakes_weaker, remakes_among, remakes_both}
use Rattle.tree_smo.proofs.SettledLemmas.{whole_but, known_beyond, rests_beyond, settled_does, settled_count, settled_frame, settled_tree}
use Rattle.tree_smo.proofs.RisingLemmas.{RaiseCall, root_in}
use Rattle.tree_smo.proofs.RaiseKeptLemmas.{part_is, some_parts, RaisesKept}

module _ {p : TreePass} {i b under : ℕ} {c : RaiseCall p i b under} {m0 : TreePass}
    (raised : RaisesKept p i b under c m0) where
  abbrev w : ForestState
  w = c.fitted.whole

  abbrev law : IsLawful w
  law = c.fitted.is_lawful

  abbrev was : HoldsStoreys (view p) i b under
  was = c.held

  abbrev old_root : Frame
  old_root = was.can.root

  abbrev page : PageRows
  page = was.can.page.page

  abbrev fresh : PageRows
  fresh = outside_page page.head was.number

  abbrev known : IsKnown p
  known = c.known

  abbrev first_ids : Shape → List ℕ
  first_ids s = frame_id s b ∷ frame_id s under ∷ part_ids s c.part

  tree_apart : (o : Option ℕ)
      → AllByRecursion (λ (j : ℕ). tree_id i ≢ j) (part_ids (shape_of_pass p) o)
  tree_apart None = tt
  tree_apart (Some k) = ((λ e. omega (arith, c.below, e)), tt)

  -- the tree is still in hand
  pub tree_there : HasTree m0 i was.can.tree was.can.tree
  tree_there = has_remade p m0 (first_ids (shape_of_pass p)) raised.remakes (tree_id i)
      (λ e. omega (arith, c.below, e), (λ e. omega (arith, c.below, e), tree_apart c.part))
      (object.Tree was.can.tree) (object.Tree was.can.tree)
      (tree_has p known i was.can.tree was.can.knows_tree)

  module _ {u : Tree} (grows : u ≡ record was.can.tree { height = suc was.can.tree.height })
      {m : TreePass} (did : ChangesTree m0 i u m) where
    has_tree : HasTree m i was.can.tree u
    has_tree = did.has was.can.tree was.can.tree tree_there

    top_now : HasFrame m b old_root raised.top
    top_now = did.hand.frames b old_root raised.top raised.has_top

    low_now : HasFrame m under was.fresh raised.low
    low_now = did.hand.frames under was.fresh raised.low raised.has_low

    one : Remakes m0 m (tree_id i ∷ [])
    one = record {
      same_view = did.view;
      others = λ k a. (did.hand.others k a.0).1;
      same_count = did.count;
    }

    abbrev all_ids : Shape → List ℕ
    all_ids s = rise_ids s i b under c.part

    all : Remakes p m (all_ids (shape_of_pass p))
    all = remakes_both p m0 m all_ids
        (remakes_weaker p m0 (first_ids (shape_of_pass p)) (all_ids (shape_of_pass p))
        (λ k a. (a.0, (a.1.0, a.1.1.1))) raised.remakes)
        (remakes_among m0 m (tree_id i) (all_ids (shape_of_pass m0)) (λ a. a.1.1.0 refl) one)

    abbrev sh : Shape
    sh = shape_of_pass m

    here : shape_of_pass p ≡ shape_of_pass m
    here = ap (λ (v : View). v.terms.shape) (sym all.same_view)

    first_shape : shape_of_pass p ≡ shape_of_pass m0
    first_shape = same_shape p m0 (first_ids (shape_of_pass p)) raised.remakes

    parts : 0 < sh.parts
    parts = subst (λ (z : Shape). 0 < z.parts) here (some_parts c)

    part_number : c.part ≡ part_of_index sh old_root.hashed
    part_number = part_is c
        ∙ ap (λ (z : Shape). part_of_index z old_root.hashed) here

    kept_now : (j : ℕ) → old_root.hashed ≡ Some j → (x : Frame) × (y : Frame)
        × KeepsPart sh m j b under old_root x raised.top was.fresh y raised.low
    kept_now j is = let e = raised.hashed j is in
        let s = shape_of_pass p in let part = part_for s.parts j in (
          e.0,
          e.1,
          subst
              (λ (z : Shape). KeepsPart z m j b under old_root e.0 raised.top was.fresh e.1
              raised.low) here
              (record {
                known = e.2.known;
                now = e.2.now;
                has = has_remade m0 m (tree_id i ∷ []) one (part_id s part)
                    ((λ z. omega (arith, c.below, z)), tt) (object.Part e.2.known)
                    (object.Part e.2.now) e.2.has;
                keeps = e.2.keeps;
                apart = e.2.apart;
                empty = e.2.empty;
                gave = e.2.gave;
                took = e.2.took;
              }),
        )

    part_held : AllByRecursion (HasSomePart m) (part_ids sh c.part)
    part_held = subst (λ o. AllByRecursion (HasSomePart m) (part_ids sh o)) (sym part_number)
        (go old_root.hashed refl)
      where
        go : (o : Option ℕ) → old_root.hashed ≡ o
            → AllByRecursion (HasSomePart m) (part_ids sh (part_of_index sh o))
        go None e = tt
        go (Some j) e = let k = (kept_now j e).2 in ((k.known, k.now, k.has), tt)

    pub part_later : (q : TreePass) → DidSettle m q → KnowsPartIf (view q) c.part
    part_later q settled = subst (KnowsPartIf (view q)) (sym part_number) (go old_root.hashed refl)
      where
        same : shape_of_pass q ≡ sh
        same = ap (λ (v : View). v.terms.shape) settled.view

        go : (o : Option ℕ) → old_root.hashed ≡ o → KnowsPartIf (view q) (part_of_index sh o)
        go None e = tt
        go (Some j) e = let k = (kept_now j e).2 in
            let has = settled.learnt.has (part_id sh (part_for sh.parts j)) (object.Part k.known)
            (object.Part k.now) k.has in (
              subst (λ (z : Shape). part_for sh.parts j < z.parts) (sym same) (omega (arith, parts)),
              k.now,
              (
                has.held.0,
                ap (λ (z : Shape). get_elem? (view q).held (part_id z (part_for sh.parts j))) same
                    ∙ has.held.1,
              ),
            )

    abbrev ids : List ℕ
    ids = rise_ids sh i b under c.part

    below_now : i < sh.indexes
    below_now = subst (λ (z : Shape). i < z.indexes) here c.below

    now_ids : Remakes p m ids
    now_ids = subst (λ (z : Shape). Remakes p m (rise_ids z i b under c.part)) here all

    beyond : IsKnownBeyond m ids
    beyond = known_beyond p m ids known now_ids

    no_frame_part : (d : ℕ) → AllByRecursion (λ (n : ℕ). frame_id sh d ≢ n) (part_ids sh c.part)
    no_frame_part d = subst (λ o. AllByRecursion (λ (n : ℕ). frame_id sh d ≢ n) (part_ids sh o))
        (sym part_number) (frame_apart sh d old_root.hashed parts)

    both_rest : (laws : LawsOfMoves) (ks : List ℕ)
        → ((j : ℕ) → AllByRecursion (λ (k : ℕ). j ≢ k) ks
        → AllByRecursion (λ (n : ℕ). part_id sh j ≢ n) (part_ids sh c.part))
        → HashRestsBeyond m ks (b ∷ under ∷ [])
    both_rest laws ks none = record {
      parts = λ j r t ne has. part_rests m ids beyond j r t (
        part_not_frame m j b r t old_root raised.top has top_now,
        (
          part_not_frame m j under r t was.fresh raised.low has low_now,
          ((λ e. omega (arith, below_now, e)), none j ne),
        ),
      ) has;
      frames = λ d x y ne has. frame_rests m ids beyond laws.ask d x y (
        (λ e. ne.0 (omega (arith, e))),
        (
          (λ e. ne.1.0 (omega (arith, e))),
          ((λ e. omega (arith, below_now, e)), no_frame_part d),
        ),
      ) has;
    }

    -- the hash is kept
    raise_hash : LawsOfMoves → HandKeepsHash m
    raise_hash laws = go old_root.hashed refl
      where
        go : (o : Option ℕ) → old_root.hashed ≡ o → HandKeepsHash m
        go None none =
            let r = raised.raises in
            let hash = raised.unhashed none in
            let only : HashRestsBeyond m [] (b ∷ under ∷ []) = both_rest laws [] (λ j ne.
            subst (λ o. AllByRecursion (λ (n : ℕ). part_id sh j ≢ n) (part_ids sh o))
            (sym (part_number ∙ ap (part_of_index sh) none)) tt) in
            laws.hands.rests m
            (laws.hands.one_more m [] [] under was.fresh raised.low low_now
            (unhashed_rests was.fresh raised.low r.fresh r.new hash.1 r.had_fresh r.has_new
            (ap (λ (z : PageHead). z.fields) r.raises.new_head) laws.ask sh under was.blank.hashed)
            (laws.hands.one_more m [] (under ∷ []) b old_root raised.top top_now
            (unhashed_rests old_root raised.top r.page r.top hash.0 r.had r.has
            (ap (λ (z : PageHead). z.fields) r.raises.head) laws.ask sh b none) only))
        go (Some j) is =
            let e = kept_now j is in
            let k = e.2 in
            laws.moves.keeps m (move_of sh j b under e.0 e.1) (record {
              known = k.known;
              now = k.now;
              gave_old = old_root;
              gave_new = raised.top;
              took_old = was.fresh;
              took_new = raised.low;
              part = k.has;
              apart = k.apart;
              empty = k.empty;
              gave = record {
                below = subst (λ (z : Shape). b < z.blocks) here
                    (block_below p c.fitted b old_root was.can.knows_root);
                frame = top_now;
                stays = k.gave;
              };
              took = record {
                below = subst (λ (z : Shape). under < z.blocks) here
                    (block_below p c.fitted under was.fresh was.knows);
                frame = low_now;
                stays = k.took;
              };
              bits = refl;
              keeps = k.keeps;
              beyond = both_rest laws (part_for sh.parts j ∷ []) (λ n ne.
                  subst (λ o. AllByRecursion (λ (d : ℕ). part_id sh n ≢ d) (part_ids sh o))
                  (sym (part_number ∙ ap (part_of_index sh) is))
                  ((λ z. ne.0 (omega (arith, z))), tt));
            })

    fits_now : FitsTrees w (view m)
    fits_now = subst (FitsTrees w) (sym all.same_view) c.fitted.fits

    -- nothing is taken out
    pub whole : IsWhole m
    whole = whole_but m ids beyond (
      (object.Frame raised.top, top_now.value),
      (
        (object.Frame raised.low, low_now.value),
        ((object.Tree u, has_tree.value), parts_shown m (part_ids sh c.part) part_held),
      ),
    )

    page_is : page ≡ raised.raises.page
    page_is = that_page old_root page raised.raises.page was.can.page.paged raised.raises.had

    fresh_is : fresh ≡ raised.raises.fresh
    fresh_is = that_page was.fresh fresh raised.raises.fresh was.blank.page raised.raises.had_fresh

    -- the frames and the tree in hand are a raise of the law
    raises_frames : RaisesFrames (shape_of_pass m) (known_values m) (values m)
    raises_frames = record {
      top = record { block = b; old = old_root; new = raised.top };
      below = record { block = under; old = was.fresh; new = raised.low };
      tree = record { index = i; old = was.can.tree; new = u };
      raise = raised.raises;
      two = subst (λ (x : PageRows). 1 < length x.rows) page_is was.can.two;
      whole = subst (λ x. IsRootIn x old_root) page_is (root_in c);
      root = part_of m w law fits_now b old_root raised.top top_now raised.raises.page
          raised.raises.had raised.raises.page.head.number false
          (ap (λ (x : PageRows). is_own x.head.number x.head.prev) (sym page_is)
          ∙ was.can.page.tree);
      under = part_of m w law fits_now under was.fresh raised.low low_now raised.raises.fresh
          raised.raises.had_fresh raised.raises.fresh.head.number true
          (ap (λ (x : PageRows). is_own x.head.number x.head.prev) (sym fresh_is)
          ∙ outside_own page.head was.number);
      grows = record {
        becomes = becomes_of m (tree_id i) (object.Tree was.can.tree) (object.Tree u) has_tree;
        index = ap (λ (z : Tree). z.index) grows;
        root = ap (λ (z : Tree). z.root) grows;
      };
      index = sym was.can.number ∙ ap (λ (x : PageRows). x.head.number) page_is;
      height = ap (λ (z : Tree). z.height) grows;
      others = λ k x y becomes a. parts_or_rest m (part_ids sh c.part) part_held k x y becomes
          (λ none. rests_of m ids (rests_beyond p m ids known now_ids) k x y becomes
          (a.0, (a.1.0, (a.1.1.0, none))));
    }

    -- so it may be settled
    pub follows : MayFollow (without_seen (view m)) (values m) None
    follows = restructures_follow.raise (shape_of_pass m) (known_values m) (values m)
        (raise_in_hand (shape_of_pass m) (known_values m) (values m) raises_frames)
        (raise_hash c.laws)

    pub makes_raise : {q : TreePass} → DidSettle m q → MakesRaiseBy p i b under c.part q
    makes_raise {q} done = record {
      silently = settled_does p m (all_ids (shape_of_pass p)) known all whole q done;
      still = part_later q done;
      raises = record {
        was = was;
        tree = u;
        top = raised.top;
        low = raised.low;
        knows_tree = settled_tree m q done i was.can.tree u has_tree;
        knows_top = settled_frame m q done b old_root raised.top top_now;
        knows_low = settled_frame m q done under was.fresh raised.low low_now;
        raises = raised.raises;
        grows = grows;
      };
      count = settled_count p m (all_ids (shape_of_pass p)) known all whole q done;
    }
