-- The three steps of a guess as one: what the first leaves is what the next asks for, and what each
-- adds comes behind the others.
use Rattle.std.proofs.Common.{◌≡◌, ℕ, ◌<◌, Bool, Some, None, List, [], ◌∷◌, inl, inr, refl, sym, ap, subst, ◌∙◌, arith, append-nil}
use lib.ListN.{get_elem?}
use Rattle.list_facts.proofs.Places.{same_some}
use Rattle.key_tuple.specs.Order.{FieldList}
use Rattle.key_tuple.specs.declared.mode.Mode.{Mode}
use Rattle.latch_law.specs.declared.knows.Holding.{Holding}
use Rattle.latch_law.specs.declared.knows.Refusal.{Refusal}
use Rattle.latch_law.specs.declared.knows.Terms.{Terms}
use Rattle.latch_law.specs.Fitting.{WasHeld}
use Rattle.latch_law.specs.Rule.{Holds}
use Rattle.latch_law.specs.Views.{holding, with_held, with_refused}
use Rattle.latch_law.specs.Whole.{reference}
use Rattle.latch_space.specs.Has.{IsKnown}
use Rattle.latch_space.specs.Passes.{view}
use Rattle.index_page.specs.Page.{PageRows}
use Rattle.chain_arena.specs.declared.node.Node.{Node}
use Rattle.hash_partition.specs.Part.{Part}
use Rattle.hash_law.specs.Blocks.{part_for}
use Rattle.hash_law.specs.BlockLaws.{HasNamedRow}
use Rattle.learning.specs.declared.info.Info.{Info}
use Rattle.index_law.specs.Rightness.{IsRight}
use Rattle.index_law.specs.Shape.{Shape}
use Rattle.forest_law.specs.declared.objects.Object.{Object}
use Rattle.forest_law.specs.declared.objects.Object.TheVariants as object
use Rattle.forest_law.specs.Hashed.{folds_for, hash_block}
use Rattle.forest_law.specs.Law.{IsLawful}
use Rattle.forest_law.specs.Numbers.{part_id, frame_id, frames_of}
use Rattle.forest_law.specs.References.{IsReference}
use Rattle.forest_world.specs.Held.{TreePass, shape_of_pass}
use Rattle.call_law.specs.Hands.{LacksObject, HoldsNoFrameBut}
use Rattle.call_law.specs.Spoken.{View}
use Rattle.buffer_pool.specs.AsTaken.{GaveAsTaken}
use Rattle.buffer_pool.specs.Calls.{Does}
use Rattle.buffer_pool.specs.Tries.{tries_and_given}
use Rattle.buffer_pool.proofs.AddedLemmas.{none_added}
use Rattle.buffer_pool.proofs.AsTakenLemmas.{same_as_taken, held_as_taken}
use Rattle.buffer_pool.proofs.CallLemmas.{does_both, does_among, does_again}
use Rattle.buffer_pool.proofs.GaveLemmas.{gave_none}
use Rattle.buffer_pool.proofs.FrameLemmas.{one_held}
use Rattle.hash_guess.specs.declared.cause.Cause.{Cause}
use Rattle.hash_guess.specs.declared.cause.Cause.TheVariants.{Cold, Short, PartBusy, NoEntry, BlockBusy, Unequal}
use Rattle.hash_guess.specs.Leads.{part_in, part_id_in, refused_try, HoldsEntry}
use Rattle.hash_guess.specs.Follows.{HasNodeInHand, frame_id_of, FindsBusy, FollowsTo}
use Rattle.hash_guess.specs.Confirms.{HoldsNamedRow, ChecksPage, Confirms, Refutes}
use Rattle.hash_guess.specs.Hits.{HoldsHit}
use Rattle.hash_guess.specs.Guesses.{frame_id_in, NamesPlace, part_given, frame_given, with_part, HitsRow, MissesBlock, MissesRow, MissedFor}
use Rattle.hash_guess.proofs.LeadLemmas.{took_does, held_there}

-- what is told of the row in hand is a hit
module _ (q : TreePass) (index : ℕ) (mode : Mode) (tuple : FieldList) (n : Node) (found : Bool)
    (told : Confirms q index mode tuple n found) where
  same_leaf : told.checks.page ≡ told.row.named.page
  same_leaf = same_some told.checks.page told.row.named.page
      (sym told.checks.paged ∙ told.row.named.page_is)

  hit_if : ChecksPage told.checks.page index mode tuple n.place (Some found)
      → HoldsHit (view q) index mode tuple n.block n.place found
  hit_if (inl other) = absurd (none other.1)
    where
      none : Some found ≡ None → ⊥
      none e = cc
  hit_if (inr this) = record {
    frame = told.row.frame;
    knows = (told.row.taken, told.row.held);
    is = record {
      page = told.checks.page;
      paged = told.checks.paged;
      tree = told.row.inside told.checks.page told.checks.paged;
      index = this.0;
      at_level = ap (λ (g : PageRows). g.head.level) same_leaf ∙ told.row.named.leaf;
    };
    checks = this.1;
  }

  holds_hit : HoldsHit (view q) index mode tuple n.block n.place found
  holds_hit = hit_if told.checks.checks

-- a block that was taken is held with its named row
module _ (m q : TreePass) (index : ℕ) (n : Node) (followed : FollowsTo m index n q) where
  later_shape : shape_of_pass q ≡ shape_of_pass m
  later_shape = ap (λ (t : Terms Shape). t.shape) followed.does.adds.numbers.terms

  frame_held : Holds (view q) (frame_id_of q n)
      (holding (object.Frame followed.frame) (object.Frame followed.frame))
  frame_held = ap (λ (s : Shape). get_elem? (view q).held (frame_id s n.block)) later_shape
      ∙ followed.held

  pub row_in_hand : HoldsNamedRow q index n
  row_in_hand = record {
    taken = object.Frame followed.frame;
    frame = followed.frame;
    held = frame_held;
    named = subst (λ (s : Shape). HasNamedRow (folds_for s) s.parts (part_for s.parts index)
        (hash_block followed.frame) n) (sym later_shape) followed.named;
    inside = followed.inside;
  }

-- a partition was taken, which has the node
module _ (p m : TreePass) (index : ℕ) (tuple : FieldList) (info : Info) (n : Node)
    (known : IsKnown p) (entry : HoldsEntry p index tuple info n m) where
  abbrev part : Part
  part = entry.took.part

  same_shape : shape_of_pass m ≡ shape_of_pass p
  same_shape = ap (λ (v : View). v.terms.shape) entry.took.comes.view

  view_is : view m ≡ with_part p index part
  view_is = entry.took.comes.view
      ∙ (ap (λ (fs : List (Refusal Object)). with_held (with_refused (view p) fs)
      (part_id_in p index) (Some (holding (object.Part part) (object.Part part)))) entry.at_once
      ∙ ap (λ (fs : List (Refusal Object)). with_held (record (view p) { refused = fs })
      (part_id_in p index) (Some (holding (object.Part part) (object.Part part))))
      (append-nil (view p).refused))

  part_held : Holds (view m) (part_id_in m index) (holding (object.Part part) (object.Part part))
  part_held = ap (λ (s : Shape). get_elem? (view m).held (part_id s (part_for s.parts index)))
      same_shape ∙ held_there p m (part_in p index) known entry.took entry.at_once

  pub node_in_hand : HasNodeInHand m index n
  node_in_hand =
      record { taken = object.Part part; part = part; held = part_held; has = entry.entry.has }

  takes : Does p m (part_id_in p index ∷ []) none_added
  takes = took_does p m (part_in p index) known entry.took entry.at_once

  -- no frame is held where none was
  pub no_frame : part_in p index < (shape_of_pass p).parts → HoldsNoFrameBut (view p) []
      → HoldsNoFrameBut (view m) []
  no_frame below lacks b few apart =
      ap (λ (s : Shape). get_elem? (view m).held (frame_id s b)) same_shape
      ∙ (takes.rest (frame_id_in p b) ((λ e. omega (arith, e, below)), tt)
      ∙ lacks b (subst (λ (s : Shape). b < frames_of s) same_shape few) tt)

  names_place : NamesPlace p index tuple info part n.block n.place
  names_place = search n

  -- and was given back
  module _ (q : TreePass) where
    gave_taken : (ks : List ℕ) (fs : List (Refusal Object)) (node : HasNodeInHand m index n)
        → Does m q (part_id_in m index ∷ ks) (tries_and_given fs
        (reference (part_id_in m index) node.taken (object.Part node.part) ∷ []))
        → LacksObject (view q) (part_id_in m index)
        → Does p q ks (tries_and_given fs (part_given p index part ∷ []))
    gave_taken ks fs node does lacks =
        let id = part_id_in p index in
        let given = tries_and_given fs (part_given p index part ∷ []) in
        let so : Does m q (part_id_in m index ∷ ks) (tries_and_given fs
        (reference (part_id_in m index) (object.Part part) (object.Part part) ∷ [])) =
        subst (λ (h : Holding Object). Does m q (part_id_in m index ∷ ks)
        (tries_and_given fs (reference (part_id_in m index) h.taken h.known ∷ [])))
        (one_held m (part_id_in m index) (holding node.taken (object.Part node.part))
        (holding (object.Part part) (object.Part part)) node.held part_held) does in
        let there : Does m q (id ∷ ks) given =
        subst (λ (s : Shape). Does m q (part_id s (part_for s.parts index) ∷ ks)
        (tries_and_given fs (reference (part_id s (part_for s.parts index)) (object.Part part)
        (object.Part part) ∷ []))) same_shape so in
        does_again p q given id ks
        (does_both p m q (id ∷ ks) none_added given
        (does_among p m none_added (id ∷ []) (id ∷ ks) (λ j apart. (apart.0, tt)) takes) there)
        (ap (λ (s : Shape). get_elem? (view q).held (part_id s (part_for s.parts index)))
        (sym same_shape) ∙ (lacks ∙ sym entry.took.comes.lacked))

    -- the block was another's
    pub misses_block : (h : ℕ) → FindsBusy m index n h q → MissesBlock p index tuple info h q
    misses_block h busy = record {
      part = part;
      block = n.block;
      place = n.place;
      names = names_place;
      was_held = subst (λ (v : View). WasHeld IsLawful IsRight IsReference v
          (frame_id v.terms.shape n.block) h) view_is busy.was_held;
      does = subst (λ (v : View). Does p q [] (tries_and_given
          (refused_try v (frame_id v.terms.shape n.block) h ∷ []) (part_given p index part ∷ [])))
          view_is (gave_taken [] (refused_try (view m) (frame_id_of m n) h ∷ []) busy.node busy.does
          busy.lacks);
      count = (let a = entry.took.comes.count in let b = busy.count in omega (arith, a, b));
    }

    -- the block was taken
    module _ (followed : FollowsTo m index n q)
        (below : part_in p index < (shape_of_pass p).parts) where
      took_block : Does p q (frame_id_in p n.block ∷ [])
          (tries_and_given [] (part_given p index part ∷ []))
      took_block = subst (λ (s : Shape). Does p q (frame_id s n.block ∷ [])
          (tries_and_given [] (part_given p index part ∷ []))) same_shape
          (gave_taken (frame_id_of m n ∷ []) [] followed.node followed.does followed.lacks)

      lacked_before : LacksObject (view p) (frame_id_in p n.block)
      lacked_before =
          sym (takes.rest (frame_id_in p n.block) ((λ e. omega (arith, e, below)), tt))
          ∙ (ap (λ (s : Shape). get_elem? (view m).held (frame_id s n.block)) (sym same_shape)
          ∙ followed.lacked)

      pub hits_row : (mode : Mode) (found : Bool) → Confirms q index mode tuple n found
          → HitsRow p index mode tuple info n.block n.place found q
      hits_row mode found told = record {
        part = part;
        names = names_place;
        lacked = lacked_before;
        hit = holds_hit q index mode tuple n found told;
        held_as_taken = held_as_taken q n.block
            (holding (object.Frame followed.frame) (object.Frame followed.frame))
            (frame_held m q index n followed) (same_as_taken (object.Frame followed.frame));
        does = took_block;
        count = followed.count ∙ entry.took.comes.count;
      }

      -- and given back
      module _ (r : TreePass) (mode : Mode) (refuted : Refutes q index mode tuple n r) where
        last_shape : shape_of_pass q ≡ shape_of_pass p
        last_shape = later_shape m q index n followed ∙ same_shape

        as_taken : refuted.row.taken ≡ object.Frame refuted.row.frame
        as_taken = let same = one_held q (frame_id_of q n)
            (holding refuted.row.taken (object.Frame refuted.row.frame))
            (holding (object.Frame followed.frame) (object.Frame followed.frame))
            refuted.row.held (frame_held m q index n followed) in
            ap (λ (h : Holding Object). h.taken) same
            ∙ sym (ap (λ (h : Holding Object). h.known) same)

        gave_block : Does q r (frame_id_in p n.block ∷ [])
            (tries_and_given [] (frame_given p n.block refuted.row.frame ∷ []))
        gave_block = let frame = object.Frame refuted.row.frame in
            subst (λ (s : Shape). Does q r (frame_id s n.block ∷ [])
            (tries_and_given [] (reference (frame_id s n.block) frame frame ∷ []))) last_shape
            (subst (λ (t : Object). Does q r (frame_id_of q n ∷ [])
            (tries_and_given [] (reference (frame_id_of q n) t frame ∷ []))) as_taken
            refuted.does)

        pub misses_row : MissesRow p index mode tuple info n.block n.place r
        misses_row = record {
          part = part;
          names = names_place;
          frame = refuted.row.frame;
          checks = refuted.checks;
          does = does_again p r (tries_and_given [] (part_given p index part
              ∷ frame_given p n.block refuted.row.frame ∷ [])) (frame_id_in p n.block) []
              (does_both p q r (frame_id_in p n.block ∷ [])
              (tries_and_given [] (part_given p index part ∷ []))
              (tries_and_given [] (frame_given p n.block refuted.row.frame ∷ []))
              took_block gave_block)
              (ap (λ (s : Shape). get_elem? (view r).held (frame_id s n.block)) (sym last_shape)
              ∙ (refuted.lacks ∙ sym lacked_before));
          count = (let a = entry.took.comes.count in let b = followed.count in
              let d = refuted.count in omega (arith, a, b, d));
        }

-- nothing was asked
asks_nothing : (p q : TreePass) → IsKnown p → q ≡ p → GaveAsTaken p q
asks_nothing p q known same = subst (GaveAsTaken p) (sym same) (gave_none p known)

-- after each cause the pass holds what it held, has said nothing, and gave back what it took as it
-- was taken
pub misses_keep : (p q : TreePass) → IsKnown p → (index : ℕ) (mode : Mode) (tuple : FieldList)
    (info : Info) (cause : Cause) → MissedFor p index mode tuple info cause q → GaveAsTaken p q
misses_keep p q known index mode tuple info Cold told = asks_nothing p q known told.1
misses_keep p q known index mode tuple info (Short have need) told =
    asks_nothing p q known told.1
misses_keep p q known index mode tuple info (PartBusy n) told = record {
  got = record {
    silently = record { added = _; does = told.does; silent = refl };
    count = told.count;
  };
  as_taken = tt;
}
misses_keep p q known index mode tuple info (NoEntry fold) told = record {
  got = record {
    silently = record { added = _; does = told.does; silent = refl };
    count = told.count;
  };
  as_taken = (same_as_taken (object.Part told.part), tt);
}
misses_keep p q known index mode tuple info (BlockBusy n) told = record {
  got = record {
    silently = record { added = _; does = told.does; silent = refl };
    count = told.count;
  };
  as_taken = (same_as_taken (object.Part told.part), tt);
}
misses_keep p q known index mode tuple info (Unequal block place) told = record {
  got = record {
    silently = record { added = _; does = told.does; silent = refl };
    count = told.count;
  };
  as_taken = (same_as_taken (object.Part told.part), (same_as_taken (object.Frame told.frame), tt));
}
