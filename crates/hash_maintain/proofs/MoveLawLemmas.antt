-- Rows that move between two frames keep their partition exact, and the hash.
use Rattle.std.proofs.Common.{◌≡◌, ◌≢◌, ◌==◌, ◌≤◌, inl, inr, ℕ, Bool, true, false, if◌then◌else◌, [], ◌∷◌, Option, Some, None, sym, ap, subst, ◌∙◌, refl}
use Rattle.std.specs.Prelude.{is_some}
use Rattle.std.proofs.lemmas.Bool.{eqb-true}
use Rattle.list_facts.proofs.Places.{same_some}
use Rattle.key_tuple.specs.declared.mode.Params.{Params}
use Rattle.key_tuple.specs.Fold.{asked_fields}
use Rattle.learning.specs.declared.event.BlockFigures.{BlockFigures}
use Rattle.index_page.specs.Page.{PageRows}
use Rattle.chain_arena.specs.Bag.{count_of}
use Rattle.hash_partition.specs.Part.{Part}
use Rattle.hash_law.specs.Entries.{NodesAt}
use Rattle.hash_law.specs.Blocks.{folds_of, part_for, entries_owed, AskFew, HasLeafOf, IsTidy}
use Rattle.hash_upkeep.specs.declared.hashing.Hashing.{Hashing}
use Rattle.hash_upkeep.specs.declared.moves.Move.{Move}
use Rattle.hash_upkeep.specs.declared.upkeep.Upkeep.{Upkeep}
use Rattle.hash_upkeep.specs.declared.upkeep.Upkeep.TheVariants.{Kept, Dropped}
use Rattle.hash_upkeep.specs.Hashing.{hashing_if, entries_if, CanHashIf}
use Rattle.hash_upkeep.specs.Laws.{EntriesAreOwed, AreBothExact}
use Rattle.hash_upkeep.specs.Moves.{CanMove, AreBothCovered, from_then, to_then, built_or}
use Rattle.index_law.specs.Shape.{Shape}
use Rattle.forest_law.specs.declared.objects.Frame.{Frame}
use Rattle.forest_law.specs.Counted.{SuitsHash}
use Rattle.forest_law.specs.Hashed.{hash_block, IsExactFor}
use Rattle.forest_law.specs.HashStays.{HasNoRows, StaysHashed}
use Rattle.latch_space.specs.Passes.{values, known_values}
use Rattle.forest_world.specs.Held.{TreePass, shape_of_pass}
use Rattle.forest_world.specs.HashHands.{IsHashedIn, KeepsUpBlock, HandKeepsHash, HandsKeepTheHash}
use Rattle.hash_maintain.specs.Moves.{MayMove, how_then, frame_hashed, IsExactOf, first_hashed, move_in, MovedSinceExact, MovesInHand}
use Rattle.hash_maintain.specs.MoveLaws.{HasPageOf, MovesRows, StaysTidyIn, HoldsTidyIn, OneIsEmpty, HasMoved, MovesKeepTheHash}
use Rattle.hash_maintain.specs.Upkeep.{IsExactIn}
use Rattle.hash_maintain.proofs.MoveStayLemmas.{same_page, gave_stays, took_stays}

-- a block of a move in hand, of which the partition is exact now, is kept up with
keeps_block : (p : TreePass) (index bits b : ℕ) (built : Option Params) (old new : Frame)
    (was now : Part) → bits ≡ (shape_of_pass p).fold_bits → HoldsTidyIn p index built b old new
    → IsExactOf index bits b now new
    → StaysHashed (shape_of_pass p) (known_values p) (values p) b old new
    → KeepsUpBlock p (part_for (shape_of_pass p).parts index) was now b
keeps_block p index bits b built old new was now bits_are hand exact stays = record {
  below = hand.below;
  old = old;
  new = new;
  frame = hand.frame;
  was_in = λ i is. ap (part_for (shape_of_pass p).parts) (hand.stays.was_for i is);
  is_in = hand.stays.is_in;
  tidy = λ t. hand.stays.tidy;
  exact = λ e. subst (λ n. IsExactOf index n b now new) bits_are exact (shape_of_pass p).parts;
  stays = stays;
}

keeps : HandsKeepTheHash → (p : TreePass) (m : Move) → HasMoved p m → HandKeepsHash p
keeps law p m moved = law.keep_up p (part_for (shape_of_pass p).parts m.index) (m.from ∷ m.to ∷ [])
    (record {
      was = moved.known;
      now = moved.now;
      has = moved.part;
      room = moved.keeps.shape.room;
      each = (
        keeps_block p m.index m.bits m.from m.from_built moved.gave_old moved.gave_new moved.known
            moved.now moved.bits moved.gave moved.keeps.gave (gave_stays p m moved),
        (
          keeps_block p m.index m.bits m.to m.to_built moved.took_old moved.took_new moved.known
              moved.now moved.bits moved.took moved.keeps.took (took_stays p m moved),
          tt,
        ),
      );
      others = λ n apart. moved.keeps.others n apart.0 apart.1.0;
      beyond = moved.beyond;
    })

none_is : {A : Type 0} (x : A) → None ≡ Some x → ⊥
none_is x e = absurd cc

neither : false ≡ true → ⊥
neither e = absurd cc

-- a tidy frame of an index's page is hashed for that index, if it is
hashed_for : (f : Frame) (page : PageRows) (i : ℕ) → f.page ≡ Some page → IsTidy (hash_block f)
    → f.hashed ≡ Some i → (page.head.level ≡ 0) × (page.head.index ≡ i)
hashed_for f page i paged tidy is = let leaf = tidy.leaf i is in
    let same : leaf.page ≡ page = same_some leaf.page page (sym leaf.page_is ∙ paged) in (
      ap (λ (p : PageRows). p.head.level) (sym same) ∙ leaf.leaf,
      ap (λ (p : PageRows). p.head.index) (sym same) ∙ leaf.index_is,
    )

-- it is hashed somehow where it is for an index
built_hashed : (f : Frame) → IsTidy (hash_block f) → (params : Params)
    → f.figures.built ≡ Some params → (i : ℕ) × (f.hashed ≡ Some i)
built_hashed f tidy params built = go f.hashed refl
  where
    go : (h : Option ℕ) → f.hashed ≡ h → (i : ℕ) × (f.hashed ≡ Some i)
    go None e = absurd (neither (sym (ap is_some e) ∙ (tidy.both ∙ ap is_some built)))
    go (Some i) e = (i, e)

built_none : (f : Frame) → IsTidy (hash_block f) → f.figures.built ≡ None → f.hashed ≡ None
built_none f tidy built = go f.hashed refl
  where
    go : (h : Option ℕ) → f.hashed ≡ h → f.hashed ≡ None
    go None e = e
    go (Some i) e = absurd (neither (sym (ap is_some built) ∙ (sym tidy.both ∙ ap is_some e)))

-- of a tidy frame with a page of the index, the nodes of which its partition is exact
module _ (owed : EntriesAreOwed) (shape : Shape) (i b : ℕ) (f : Frame) (page : PageRows)
    (paged : f.page ≡ Some page) (index : page.head.index ≡ i) (tidy : IsTidy (hash_block f))
    (was : Part) (exact : IsExactFor shape (part_for shape.parts i) b was f) where
  exact_nodes : (built : Option Params) → f.figures.built ≡ built
      → NodesAt b was.nodes (entries_if (hashing_if i b shape.fold_bits built) page.rows)
  exact_nodes None e n here = exact.nodes n here
      ∙ ap (λ h. count_of n (if is_some h
      then entries_owed (folds_of shape.fold_bits) shape.parts (part_for shape.parts i) b f.page h
      f.figures.built else [])) (built_none f tidy e)
  exact_nodes (Some params) e n here =
      let hashed = built_hashed f tidy params e in
      let same : hashed.0 ≡ i = sym (hashed_for f page hashed.0 paged tidy hashed.1).1 ∙ index in
      exact.nodes n here
      ∙ ap (count_of n) (owed shape.fold_bits shape.parts (part_for shape.parts i) b was
      (hash_block f) page i params paged (hashed.1 ∙ ap Some same) e refl)

-- a page with as many fields as that of a tidy frame can be hashed as that is
can_hash : (shape : Shape) (i b fields : ℕ) (f : Frame) (page other : PageRows)
    → SuitsHash shape → f.page ≡ Some page → page.head.fields ≡ fields
    → other.head.fields ≡ fields → IsTidy (hash_block f) → (built : Option Params)
    → f.figures.built ≡ built → CanHashIf (hashing_if i b shape.fold_bits built) b other
can_hash shape i b fields f page other suits paged one two tidy None e = tt
can_hash shape i b fields f page other suits paged one two tidy (Some params) e = (
  refl,
  record {
    fields = subst (λ n. asked_fields params ≤ n) (one ∙ sym two)
        (subst (λ o. AskFew o params) paged (tidy.built params e));
    some = suits.some;
    fit = suits.fit;
  },
)

module _ (owed : EntriesAreOwed) (p : TreePass) (index fields a b : ℕ) (f x g y : Frame)
    (moves : MovesRows index fields f x g y) (tidy : IsTidy (hash_block f))
    (other_tidy : IsTidy (hash_block g)) (i : ℕ) (found : first_hashed x y ≡ Some i) where
  abbrev sh : Shape
  sh = shape_of_pass p

  abbrev k : ℕ
  k = part_for sh.parts i

  abbrev move : Move
  move = move_in p i a b x y

  built_from : x.figures.built ≡ f.figures.built
  built_from = ap (λ (z : BlockFigures). z.built) moves.gave.figures

  built_to : y.figures.built ≡ g.figures.built
  built_to = ap (λ (z : BlockFigures). z.built) moves.took.figures

  -- the index is that of all pages
  same_index : index ≡ i
  same_index = go f.hashed refl
    where
      go : (h : Option ℕ) → f.hashed ≡ h → index ≡ i
      go None e = sym moves.to_is.index_is ∙ (hashed_for g moves.to i moves.to_is.page_is other_tidy
          (sym moves.took.hashed
          ∙ (ap (λ o. built_or o y.hashed) (sym (moves.gave.hashed ∙ e)) ∙ found))).1
      go (Some j) e = sym moves.from_is.index_is ∙ (hashed_for f moves.from i moves.from_is.page_is tidy
          (e ∙ (ap (λ o. built_or o y.hashed) (sym (moves.gave.hashed ∙ e)) ∙ found))).1

  may : SuitsHash sh → (was : Part) → IsExactFor sh k a was f → IsExactFor sh k b was g
      → MayMove move x y was
  may suits was gave took = record {
    from_page = moves.left;
    from_is = moves.left_is.page_is;
    to_page = moves.got;
    to_is = moves.got_is.page_is;
    can = λ c d is_c is_d. subst (λ z. CanMove move z d) (same_some moves.left c
        (sym moves.left_is.page_is ∙ is_c)) (subst (CanMove move moves.left) (same_some moves.got d
        (sym moves.got_is.page_is ∙ is_d)) can);
    covered = λ c d is_c is_d.
        (let one = same_some moves.left c (sym moves.left_is.page_is ∙ is_c) in
        let two = same_some moves.got d (sym moves.got_is.page_is ∙ is_d) in
        subst (λ z. AreBothCovered move z d was.nodes) one
        (subst (λ z. AreBothCovered move moves.left z was.nodes) two
        (moves.covered move was.nodes built_to both)));
  }
    where
      can : CanMove move moves.left moves.got
      can = record {
        from_page = can_hash sh i a fields f moves.from moves.left suits moves.from_is.page_is
            moves.from_is.fields_are moves.left_is.fields_are tidy x.figures.built (sym built_from);
        moved_rows = can_hash sh i a fields f moves.from moves.got suits moves.from_is.page_is
            moves.from_is.fields_are moves.got_is.fields_are tidy x.figures.built (sym built_from);
        to_page = can_hash sh i b fields g moves.to moves.got suits moves.to_is.page_is
            moves.to_is.fields_are moves.got_is.fields_are other_tidy y.figures.built (sym built_to);
      }

      both : AreBothExact move moves.from moves.to was.nodes
      both = record {
        gave = exact_nodes owed sh i a f moves.from moves.from_is.page_is
            (moves.from_is.index_is ∙ same_index) tidy was gave x.figures.built (sym built_from);
        took = exact_nodes owed sh i b g moves.to moves.to_is.page_is
            (moves.to_is.index_is ∙ same_index) other_tidy was took y.figures.built (sym built_to);
      }

  ready : SuitsHash sh → a ≢ b → IsExactIn p k a f → IsExactIn p k b g
      → MovedSinceExact p k move x y
  ready suits apart gave took = record {
    apart = apart;
    gave = f;
    took = g;
    gave_exact = gave;
    took_exact = took;
    may = may suits;
  }

-- how a frame is hashed then is that of a leaf of the index
pub record IsHowOf (i : ℕ) (z : Frame) (how : Hashing) : Type 0 where
  pub index : how.index ≡ i
  pub leaf : HasLeafOf (hash_block z) i
  pub few : AskFew z.page how.params

-- so it leaves the frame tidy
hashed_tidy : (shape : Shape) (i : ℕ) (z : Frame) (h : Option Hashing)
    → AskFew z.page z.figures.advice → ((how : Hashing) → h ≡ Some how → IsHowOf i z how)
    → IsTidy (hash_block (frame_hashed h z))
    × IsHashedIn shape (part_for shape.parts i) (frame_hashed h z)
hashed_tidy shape i z None advice each = (
  record {
    both = refl;
    leaf = λ j e. absurd (none_is j e);
    built = λ params e. absurd (none_is params e);
    advice = advice;
  },
  λ j e. absurd (none_is j e),
)
hashed_tidy shape i z (Some how) advice each = let is = each how refl in (
  record {
    both = refl;
    leaf = λ j e. subst (HasLeafOf (hash_block (frame_hashed (Some how) z)))
        (sym is.index ∙ same_some how.index j e)
        (record {
          page = is.leaf.page;
          page_is = is.leaf.page_is;
          leaf = is.leaf.leaf;
          index_is = is.leaf.index_is;
        });
    built = λ params e. subst (AskFew z.page) (same_some how.params params e) is.few;
    advice = advice;
  },
  λ j e. ap (part_for shape.parts) (sym (same_some how.index j e) ∙ is.index),
)

-- what is known of a way to hash that a move tells
if_gives : (i b bits : ℕ) (built : Option Params) (how : Hashing)
    → hashing_if i b bits built ≡ Some how → (how.index ≡ i) × (built ≡ Some how.params)
if_gives i b bits None how e = absurd (none_is how e)
if_gives i b bits (Some params) how e = let same = same_some _ how e in (
  ap (λ (h : Hashing). h.index) (sym same),
  ap (λ (h : Hashing). Some h.params) same,
)

then_gives : (answer : Upkeep) (h : Option Hashing) (how : Hashing) → how_then answer h ≡ Some how
    → h ≡ Some how
then_gives Kept h how e = e
then_gives (Dropped need spare) h how e = absurd (none_is how e)

level_gives : (t : Bool) (h : Option Hashing) (how : Hashing) → (if t then h else None) ≡ Some how
    → (t ≡ true) × (h ≡ Some how)
level_gives true h how e = (refl, e)
level_gives false h how e = absurd (none_is how e)

-- advice that a tidy frame's page allows is allowed by a page with as many fields
few_too : (o other : Option PageRows) (page got : PageRows) (params : Params) → o ≡ Some page
    → other ≡ Some got → page.head.fields ≡ got.head.fields → AskFew o params → AskFew other params
few_too o other page got params e f same few = subst (λ z. AskFew z params) (sym f)
    (subst (λ n. asked_fields params ≤ n) same (subst (λ z. AskFew z params) e few))

module _ (p : TreePass) (index fields a b : ℕ) (f x g y : Frame)
    (moves : MovesRows index fields f x g y) (tidy : IsTidy (hash_block f))
    (other_tidy : IsTidy (hash_block g)) (i : ℕ) (found : first_hashed x y ≡ Some i)
    (same : index ≡ i) where
  abbrev move_now : Move
  move_now = move_in p i a b x y

  from_few : (params : Params) → AskFew f.page params → AskFew x.page params
  from_few params = few_too f.page x.page moves.from moves.left params moves.from_is.page_is
      moves.left_is.page_is (moves.from_is.fields_are ∙ sym moves.left_is.fields_are)

  over_few : (params : Params) → AskFew f.page params → AskFew y.page params
  over_few params = few_too f.page y.page moves.from moves.got params moves.from_is.page_is
      moves.got_is.page_is (moves.from_is.fields_are ∙ sym moves.got_is.fields_are)

  to_few : (params : Params) → AskFew g.page params → AskFew y.page params
  to_few params = few_too g.page y.page moves.to moves.got params moves.to_is.page_is
      moves.got_is.page_is (moves.to_is.fields_are ∙ sym moves.got_is.fields_are)

  from_how : (answer : Upkeep) (how : Hashing)
      → how_then answer (from_then move_now moves.left.head.level) ≡ Some how → IsHowOf i x how
  from_how answer how e =
      let kept = then_gives answer (from_then move_now moves.left.head.level) how e in
      let on = level_gives (moves.left.head.level == 0)
      (hashing_if i a (shape_of_pass p).fold_bits x.figures.built) how kept in
      let is = if_gives i a (shape_of_pass p).fold_bits x.figures.built how on.1 in record {
        index = is.0;
        leaf = record {
          page = moves.left;
          page_is = moves.left_is.page_is;
          leaf = eqb-true moves.left.head.level 0 on.0;
          index_is = moves.left_is.index_is ∙ same;
        };
        few = from_few how.params (tidy.built how.params
            (sym (ap (λ (z : BlockFigures). z.built) moves.gave.figures) ∙ is.1));
      }

  to_how : (answer : Upkeep) (how : Hashing) → how_then answer (to_then move_now) ≡ Some how
      → IsHowOf i y how
  to_how answer how e = go y.figures.built refl
    where
      is : (how.index ≡ i) × (built_or y.figures.built x.figures.built ≡ Some how.params)
      is = if_gives i b (shape_of_pass p).fold_bits (built_or y.figures.built x.figures.built) how
          (then_gives answer (to_then move_now) how e)

      on : moves.got.head.level ≡ 0 → AskFew y.page how.params → IsHowOf i y how
      on level few = record {
        index = is.0;
        leaf = record {
          page = moves.got;
          page_is = moves.got_is.page_is;
          leaf = level;
          index_is = moves.got_is.index_is ∙ same;
        };
        few = few;
      }

      go : (built : Option Params) → y.figures.built ≡ built → IsHowOf i y how
      go None none =
          let was : f.figures.built ≡ Some how.params =
          sym (ap (λ (z : BlockFigures). z.built) moves.gave.figures)
          ∙ (ap (λ o. built_or o x.figures.built) (sym none) ∙ is.1) in
          let hashed = built_hashed f tidy how.params was in
          on (moves.level ∙ (hashed_for f moves.from hashed.0 moves.from_is.page_is tidy hashed.1).0)
          (over_few how.params (tidy.built how.params was))
      go (Some params) some =
          let was : g.figures.built ≡ Some how.params =
          sym (ap (λ (z : BlockFigures). z.built) moves.took.figures)
          ∙ (some ∙ (ap (λ o. built_or o x.figures.built) (sym some) ∙ is.1)) in
          let hashed = built_hashed g other_tidy how.params was in
          on (moves.leaf hashed.0 hashed.1) (to_few how.params (other_tidy.built how.params was))

  -- a tidy frame with a page of the index was hashed for that alone
  was_for : (z : Frame) (page : PageRows) → HasPageOf index fields z page → IsTidy (hash_block z)
      → (j : ℕ) → z.hashed ≡ Some j → j ≡ i
  was_for z page has t j is = sym (hashed_for z page j has.page_is t is).1 ∙ (has.index_is ∙ same)

  stay : (q : TreePass) (x' y' : Frame) (answer : Upkeep)
      → MovesInHand p (part_for (shape_of_pass p).parts i) move_now x y x' y' answer q
      → StaysTidyIn (shape_of_pass p) i x.figures.built f x'
      × StaysTidyIn (shape_of_pass p) i y.figures.built g y' × OneIsEmpty x' g
  stay q x' y' answer moved =
      let one = hashed_tidy (shape_of_pass p) i x
      (how_then answer (from_then move_now moves.left.head.level))
      (subst (λ (z : BlockFigures). AskFew x.page z.advice) (sym moves.gave.figures)
      (from_few f.figures.advice tidy.advice)) (from_how answer) in
      let two = hashed_tidy (shape_of_pass p) i y (how_then answer (to_then move_now))
      (subst (λ (z : BlockFigures). AskFew y.page z.advice) (sym moves.took.figures)
      (to_few g.figures.advice other_tidy.advice)) (to_how answer) in
      let from_is = moved.from_is moves.left moves.left_is.page_is in (
        record {
          was_for = was_for f moves.from moves.from_is tidy;
          was_built = ap (λ (z : BlockFigures). z.built) (sym moves.gave.figures);
          is_in = subst (IsHashedIn (shape_of_pass p) (part_for (shape_of_pass p).parts i))
              (sym from_is) one.1;
          tidy = subst (λ (z : Frame). IsTidy (hash_block z)) (sym from_is) one.0;
        },
        record {
          was_for = was_for g moves.to moves.to_is other_tidy;
          was_built = ap (λ (z : BlockFigures). z.built) (sym moves.took.figures);
          is_in = subst (IsHashedIn (shape_of_pass p) (part_for (shape_of_pass p).parts i))
              (sym moved.to_is) two.1;
          tidy = subst (λ (z : Frame). IsTidy (hash_block z)) (sym moved.to_is) two.0;
        },
        elim moves.empty [
          | inl none ↦ inl (subst HasNoRows (sym moves.to_is.page_is) none)
          | inr none ↦ inr (subst HasNoRows
              (sym (ap (λ (z : Frame). z.page) from_is
              ∙ (same_page (how_then answer (from_then move_now moves.left.head.level)) x
              ∙ moves.left_is.page_is))) none)
        ],
      )

pub moves_keep : EntriesAreOwed → HandsKeepTheHash → MovesKeepTheHash
moves_keep owed law = record {
  ready = λ p index fields a b f x g y suits moves tidy other apart i found gave took.
      ready owed p index fields a b f x g y moves tidy other i found suits apart gave took;
  stay = λ p q index fields a b f x g y x' y' answer moves tidy other i found moved.
      stay p index fields a b f x g y moves tidy other i found
      (same_index owed p index fields a b f x g y moves tidy other i found) q x' y' answer moved;
  keeps = keeps law;
}
